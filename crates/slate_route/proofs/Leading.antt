-- A read of one reader of a router, and an opening of one, are steps of the world to which they belong.
use Rattle.std.proofs.Common.{◌≡◌, ◌∙◌, ◌⊎◌, inl, inr, ℕ, ℤ, false, List, Option, Some, None, Result, Ok, Err, refl, sym, subst, ap}
use Rattle.std.specs.Prelude.{IfSome, slice_get}
use Rattle.slate_types.specs.declared.batches.Batch.{Batch}
use Rattle.slate_types.specs.declared.batches.KeyValue.{KeyValue}
use Rattle.slate_types.specs.declared.store_errors.StoreFault.TheVariants.{NotFound, Unavailable}
use Rattle.slate_types.specs.Line.{end}
use Rattle.slate_types.specs.Operator.{Merge}
use Rattle.slate_reads.specs.Read.{read_at}
use Rattle.slate_errors.specs.declared.errors.SlateError.{SlateError}
use Rattle.slate_errors.specs.declared.errors.SlateError.TheVariants as errors
use Rattle.slate_model.specs.Catalogue.{Catalogue, catalogue_of}
use Rattle.slate_model.specs.Follower.{Follower, number}
use Rattle.slate_model.specs.Known.{Known}
use Rattle.slate_model.specs.Object.{Follower as AFollower}
use Rattle.slate_model.specs.Read.{AnswersRead, ReadsUnlessClosed}
use Rattle.slate_model.specs.Stores.{by_objects, kept_rows}
use Rattle.slate_model.specs.Tables.{AreStored}
use Rattle.slate_model.proofs.Keeping.{line_above-end}
use Rattle.slate_model.proofs.Moving.{stored-known}
use Rattle.slate_script.specs.declared.commands.Action.TheVariants as actions
use Rattle.slate_script.specs.declared.commands.Command.{Command}
use Rattle.slate_script.specs.declared.replies.Reply.{Reply}
use Rattle.slate_live.specs.Calls.{Get}
use Rattle.slate_live.specs.Replies.{found_reply, reply_to}
use Rattle.slate_live.specs.Represents.{AllInSegments, Represents}
use Rattle.slate_live.specs.Settings.{Settings}
use Rattle.slate_live.specs.State.{Live, running}
use Rattle.slate_live.specs.Valid.{Link}
use Rattle.slate_live.specs.World.{World}
use Rattle.slate_live.proofs.Begun.{are-same_named}
use Rattle.slate_live.proofs.Doing.{acts_on}
use Rattle.slate_live.proofs.Lines.{read-lines}
use Rattle.slate_live.proofs.Linking.{linked}
use Rattle.slate_live.proofs.Places.{set-same}
use Rattle.slate_live.proofs.Reading.{front-read, read-whole}
use Rattle.slate_live.proofs.Wholes.{next-whole}
use Rattle.slate_route.specs.Standing.{ReadFails, RoutesOver, command_at, routing}
use Rattle.slate_route.proofs.Polling.{WholeAt, whole-at}

-- ---- a read
-- what a read's step leaves, and what it answers by what is stored
pub record GetLeads (settings : Settings) (live : Live) (places : List ℕ) (readers : List Follower) (w : World) (moment : ℤ) (n : ℕ) (key : List ℕ) (reader : Follower) (result : Result (Option KeyValue) SlateError) (store' : Known (List Batch)) : Type 0 where
  pub world : World
  pub link : Link settings w (command_at moment (actions.Get n key false)) (reply_to found_reply result) world
  pub over : RoutesOver live store' places readers world
  pub stored : world.stored ≡ w.stored
  pub catalogue : world.catalogue ≡ w.catalogue
  pub row : (found : Option KeyValue) → result ≡ Ok found → read_at settings.merge w.stored.batches (Some (number reader)) key ≡ Ok found
  pub fails : (error : SlateError) → result ≡ Err error → (error ≡ errors.NoMemory) ⊎ ReadFails settings.merge w.stored w reader key error

module _ (merge : Option Merge) (base live : Live) (same : live.options ≡ base.options) (store store' : Known (List Batch)) (places : List ℕ) (readers : List Follower) (w : World) (over : RoutesOver live store places readers w)
    (i n : ℕ) (named : slice_get places i ≡ Some n) (reader : Follower) (there : slice_get readers i ≡ Some reader) (opened : reader.result ≡ None) (moment : ℤ) (key : List ℕ) (result : Result (Option KeyValue) SlateError)
    (read : ReadsUnlessClosed reader.result reader.view.manifest.tables (kept_rows store.objects (AFollower reader)) (λ rows answer. answer ≡ read_at merge rows (Some (number reader)) key) store result store') where
  abbrev settings : Settings
  settings = routing merge base

  abbrev command : Command
  command = command_at moment (actions.Get n key false)

  abbrev reply : Reply
  reply = reply_to found_reply result

  object : slice_get live.objects n ≡ Some (AFollower reader)
  object = (over.are_at).there i n reader named there

  whole : WholeAt w.objects n reader
  whole = whole-at w.objects n reader (subst (λ os. slice_get os n ≡ Some (AFollower reader)) ((over.represents).represents).objects object)

  led : (w' : World) × Link settings w command reply w' × Represents live store' w' × AllInSegments None w'
  led =
      linked settings command live live store store' reply same (
        (
          0,
          acts_on (by_objects store.objects) settings n command (Get key false None) 0 (slice_get live.objects n) (running live store) reply (running live store') (AFollower reader) (AFollower reader) object
              (record { result = result; replied = refl; does = read }, refl, refl, refl) (sym (set-same live.objects n (AFollower reader) object)),
        ),
        are-same_named command.action n live.polls refl (λ b. over.unbegun i n b named),
      )
      (λ m f begins. absurd (let no = begins in cc)) w over.represents over.segments

  -- what it reads is the line that is stored, up to its number
  plain : (rows : List Batch) → kept_rows store.objects (AFollower reader) rows → read_at merge rows (Some (number reader)) key ≡ read_at merge w.stored.batches (Some (number reader)) key
  plain rows have =
      let r = (over.represents).represents in
      let f = whole.whole in
      let lines : rows ≡ f.line.batches = read-lines live store w n (AFollower f) rows r whole.at (subst (λ (g : Follower). kept_rows store.objects (AFollower g) rows) (sym whole.kept) have) in
      let numbers : number reader ≡ end f.line = ap number (sym whole.kept) ∙ line_above-end f.view.manifest.last_l0_seq f.line in
      ap (λ bs. read_at merge bs (Some (number reader)) key) lines
      ∙ (ap (λ m. read_at merge f.line.batches (Some m) key) numbers
      ∙ (front-read merge f.line w.stored key (r.valid.followers n f whole.at).0 r.valid.line
      ∙ ap (λ m. read_at merge w.stored.batches (Some m) key) (sym numbers)))

  answers : AnswersRead (kept_rows store.objects (AFollower reader)) (λ rows answer. answer ≡ read_at merge rows (Some (number reader)) key) result
  answers = (read.read opened).plain

  rows-found : (found : Option KeyValue) → result ≡ Ok found → read_at merge w.stored.batches (Some (number reader)) key ≡ Ok found
  rows-found found is =
      let a = subst (AnswersRead (kept_rows store.objects (AFollower reader)) (λ rows answer. answer ≡ read_at merge rows (Some (number reader)) key)) is answers in
      sym (a.2 ∙ plain a.0 a.1)

  missing : (error : SlateError) → result ≡ Err error → error ≡ errors.ObjectStoreError NotFound → AreStored w.catalogue reader.view.manifest.tables → ⊥
  missing error is same_error stored =
      let r = (over.represents).represents in
      let o = (r.held).0 in
      let without = subst (λ os. IfSome os (λ o. AreStored o reader.view.manifest.tables → ⊥)) (r.held).1 ((read.read opened).missing (is ∙ ap (λ e. Err e) same_error)) in
      without (stored-known o reader.view.manifest.tables (subst (λ (c : Catalogue). AreStored c reader.view.manifest.tables) (sym ((r.held).3).catalogue) stored))

  refused : (error : SlateError) → result ≡ Err error → AnswersRead {A = Option KeyValue} (kept_rows store.objects (AFollower reader)) (λ rows answer. answer ≡ read_at merge rows (Some (number reader)) key) (Err error) → (error ≡ errors.NoMemory) ⊎ ReadFails merge w.stored w reader key error
  refused errors.MergeOperatorMissing is a = inr (sym (a.2 ∙ plain a.0 a.1))
  refused errors.MergeOperatorError is a = inr (sym (a.2 ∙ plain a.0 a.1))
  refused errors.ChecksumMismatch is a = absurd (read-whole merge a.0 (Some (number reader)) key (sym a.2))
  refused (errors.ObjectStoreError NotFound) is a = inr (missing _ is refl)
  refused (errors.ObjectStoreError Unavailable) is a = inr tt
  refused errors.NoMemory is a = inl refl
  refused error is a = absurd a

  -- it leaves the store's objects
  same-catalogue : (led.0).catalogue ≡ w.catalogue
  same-catalogue =
      let r = (over.represents).represents in
      let r' = (led.2).represents in
      let kept = (read.read opened).kept in
      let there = (r.held).1 in
      let there' = (r'.held).1 in
      let objects : (r'.held).0 ≡ (r.held).0 = cc in
      sym ((r'.held).3).catalogue ∙ (ap catalogue_of objects ∙ ((r.held).3).catalogue)

  pub get-leads : GetLeads settings live places readers w moment n key reader result store'
  get-leads = record {
    world = led.0;
    link = led.1;
    over = record { represents = led.2; segments = led.3; are_at = over.are_at; unbegun = over.unbegun };
    stored = (next-whole settings w command reply led.0 refl (led.1).next).stored;
    catalogue = same-catalogue;
    row = rows-found;
    fails = λ error is. refused error is (subst (AnswersRead (kept_rows store.objects (AFollower reader)) (λ rows answer. answer ≡ read_at merge rows (Some (number reader)) key)) is answers);
  }
