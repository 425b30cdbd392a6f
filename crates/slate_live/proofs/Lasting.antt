-- Over a run, a reader that is polled in time keeps its checkpoint.
use Rattle.std.proofs.Common.{◌≡◌, ◌≢◌, ◌==◌, ◌++◌, ◌∷◌, ◌/◌, ◌∙◌, [], inl, inr, ℕ, ℤ, Bool, true, false, if◌then◌else◌, List, Option, Some, None, Result, Ok, Err, refl, sym, subst, ap}
use Rattle.std.proofs.lemmas.Bool.{eq-eqb, eqb-true, false_from_ne_true}
use Rattle.std.proofs.lemmas.List.Elements.{All-head, All-tail, All-cons, All-nil}
use Rattle.std.specs.List.{All, slice_get}
use Rattle.slate_types.specs.declared.batches.Batch.{Batch}
use Rattle.slate_types.specs.declared.batches.KeyValue.{KeyValue}
use Rattle.slate_types.specs.declared.ranges.ByteRange.{ByteRange}
use Rattle.slate_types.specs.declared.read_faults.ReadFault.TheVariants as fault
use Rattle.slate_types.specs.declared.scan_options.IterationOrder.{IterationOrder}
use Rattle.slate_rows.specs.Iteration.{Iteration}
use Rattle.slate_rows.specs.Taken.{all_rows, seek_at}
use Rattle.slate_rows.specs.declared.seeks.SeekFault.{SeekFault}
use Rattle.slate_rows.specs.declared.seeks.SeekFault.TheVariants.{OutOfRange, LessThanLastReturned, Stored}
use Rattle.slate_errors.specs.Errors.{error_of_read}
use Rattle.slate_model.specs.Catalogue.{Catalogue, Span}
use Rattle.slate_model.specs.Handle.{CloseResult}
use Rattle.slate_model.specs.Knowledge.{Knowledge}
use Rattle.slate_model.specs.Known.{Known}
use Rattle.slate_model.specs.Object.{Follower as AFollower}
use Rattle.slate_model.specs.Read.{ReadsUnlessClosed}
use Rattle.slate_model.specs.Stores.{by_catalogue}
use Rattle.slate_live.specs.Calls.{Begins, Kind, Steps, Whole, call_of, kind_of, target_of}
use Rattle.slate_live.specs.declared.targets.Target.TheVariants.{OfObject}
use Rattle.slate_live.specs.Followers.{TakesFromFollower}
use Rattle.slate_live.specs.Scans.{AnswersTaken, error_of_seek, scanned, sought, with_error}
use Rattle.slate_live.proofs.Cases.{some-of}
use Rattle.slate_live.proofs.Naming.{FollowerDid, follower-did}
use Rattle.slate_types.specs.declared.read_faults.ReadFault.{ReadFault}
use Rattle.slate_types.specs.declared.store_errors.StoreFault.TheVariants.{NotFound}
use Rattle.slate_store.specs.declared.objects.TableId.{TableId}
use Rattle.slate_errors.specs.declared.errors.SlateError.{SlateError}
use Rattle.slate_errors.specs.declared.errors.SlateError.TheVariants as errors
use Rattle.slate_model.specs.Tables.{AreStored}
use Rattle.slate_model.specs.declared.leases.Lease.{Lease}
use Rattle.slate_script.specs.declared.commands.Action.{Action}
use Rattle.slate_script.specs.declared.commands.Action.TheVariants as actions
use Rattle.slate_script.specs.declared.commands.Command.{Command}
use Rattle.slate_script.specs.declared.replies.Reply.{Reply}
use Rattle.slate_script.specs.declared.replies.Reply.TheVariants as replies
use Rattle.slate_live.specs.Commands.{ActsOn, DoesBy, lifetime_of}
use Rattle.slate_live.specs.Leases.{AreInTime, ComesBefore, IsInTime, KeepsCheckpoint, LeasesHold, closes, is_whole, last_turn, polls, reads, steps_poll, turn}
use Rattle.slate_live.specs.Next.{HasLease, NextBy}
use Rattle.slate_live.specs.Replies.{found_reply, refusal, reply_to}
use Rattle.slate_live.specs.Represents.{IsReached}
use Rattle.slate_live.specs.Settings.{Settings}
use Rattle.slate_live.specs.State.{IsBegunAt}
use Rattle.slate_live.specs.Steps.{Chain, Step, last_world}
use Rattle.slate_live.specs.Valid.{Link}
use Rattle.slate_live.specs.World.{NextWhole, World, state_of}
use Rattle.slate_live.proofs.Begun.{begins-is, by-kind, steps-is}
use Rattle.slate_live.proofs.Holding.{Holds, begun-holds, holds-lasts, holds-still, step-holds}
use Rattle.slate_live.proofs.Leases.{ArePast, kept-stored, past-after, past-begun, past-stepped}
use Rattle.slate_live.proofs.Turning.{opening-holds, poll-holds, polls-is}
use Rattle.slate_live.proofs.Wholes.{link-halves}

-- what holds of each world: sound objects hold it, and the leases in it are of checkpoints that were committed
record IsReady (w : World) : Type 0 where
  reached : IsReached w
  past : ArePast w

module _ (settings : Settings) where
  pub all-halves : (P : Step → Type 0) (xs ys : List Step) → All P (xs ++ ys) → All P xs × All P ys
  all-halves P [] ys all = (All-nil P, all)
  all-halves P (x ∷ xs) ys all = let h = all-halves P xs ys (All-tail P x (xs ++ ys) all) in (All-cons P x xs (All-head P x (xs ++ ys) all) h.0, h.1)

  -- what a step does, by the kind of its command
  module _ (w : World) (s : Step) (ready : IsReady w) (link : Link settings w s.command s.reply s.world) (reached' : IsReached s.world) where
    next-at : (kind : Kind) → kind_of s.command.action ≡ kind → NextBy kind settings w s.command s.reply s.world
    next-at kind is = subst (λ k. NextBy k settings w s.command s.reply s.world) is link.next

    ready-step : IsReady s.world
    ready-step = record { reached = reached'; past = by (kind_of s.command.action) refl }
      where
        by : (kind : Kind) → kind_of s.command.action ≡ kind → ArePast s.world
        by Whole is = past-after settings w s.world s.command s.reply ready.reached reached' (next-at Whole is) ready.past
        by (Begins i) is = past-begun settings i w s.world s.command s.reply (next-at (Begins i) is) ready.past
        by (Steps i) is = past-stepped settings i w s.world s.reply (next-at (Steps i) is) (link.leaves i is) ready.past

    -- a step, in time where it sweeps
    module _ (n lifetime : ℕ) (last : ℤ) (h : Holds n lifetime last w) (before : s.command.action ≡ actions.Sweep → IsInTime lifetime last s) (unclosed : closes n s.command.action ≡ false) (whole : polls n s.command.action ≡ true → is_whole s.reply ≡ true) (unstepped : steps_poll n s.command.action ≡ false) where
      -- it isn't the reader's own poll by single calls
      apart : (i : ℕ) → steps_poll n s.command.action ≡ (i == n) → n ≢ i
      apart i is same = let yes = eq-eqb i n (sym same) in absurd (cc (yes, is, unstepped))

      begun-apart : (i : ℕ) → kind_of s.command.action ≡ Begins i → n ≢ i
      begun-apart i is = apart i (ap (steps_poll n) (begins-is s.command.action i is))

      stepped-apart : (i : ℕ) → kind_of s.command.action ≡ Steps i → n ≢ i
      stepped-apart i is = apart i (ap (steps_poll n) (steps-is s.command.action i is))

      unpolled : (kind : Kind) → kind_of s.command.action ≡ kind → (kind ≡ Whole → ⊥) → polls n s.command.action ≡ false
      unpolled kind is other = false_from_ne_true (polls n s.command.action) (λ asks. other (sym is ∙ ap kind_of (polls-is n s.command.action asks)))

      turned : polls n s.command.action ≡ false → Holds n lifetime last s.world → Holds n lifetime (turn n last s) s.world
      turned unasked holds = subst (λ (b : Bool). Holds n lifetime (if b then s.command.moment else last) s.world) (sym unasked) holds

      holds-step : Holds n lifetime (turn n last s) s.world
      holds-step = by (kind_of s.command.action) refl
        where
          whole-holds : kind_of s.command.action ≡ Whole → (b : Bool) → polls n s.command.action ≡ b → Holds n lifetime (if b then s.command.moment else last) s.world
          whole-holds is true asks = poll-holds settings w s.world s.command s.reply ready.reached reached' (next-at Whole is) ready.past n lifetime last h asks (whole asks)
          whole-holds is false unasked = holds-still settings w s.world s.command s.reply ready.reached reached' (next-at Whole is) ready.past n lifetime last h unasked unclosed before

          by : (kind : Kind) → kind_of s.command.action ≡ kind → Holds n lifetime (turn n last s) s.world
          by Whole is = whole-holds is (polls n s.command.action) refl
          by (Begins i) is = turned (unpolled (Begins i) is (λ whole_is. absurd (let e = whole_is in cc))) (begun-holds settings i w s.world s.command s.reply (next-at (Begins i) is) n lifetime last h)
          by (Steps i) is = turned (unpolled (Steps i) is (λ whole_is. absurd (let e = whole_is in cc))) (step-holds settings i w s.world s.reply ready.reached (next-at (Steps i) is) (link.leaves i is) n lifetime last h (stepped-apart i is))

  ready-chain : (w : World) (steps : List Step) → IsReady w → Chain settings w steps → All (λ step. IsReached step.world) steps → IsReady (last_world w steps)
  ready-chain w [] ready chain all = ready
  ready-chain w (s ∷ steps) ready (link, chain) all =
      ready-chain s.world steps (ready-step w s ready link (All-head (λ step. IsReached step.world) s steps all)) chain (All-tail (λ step. IsReached step.world) s steps all)

  holds-chain : (w : World) (steps : List Step) (n lifetime : ℕ) (last : ℤ) → IsReady w → Chain settings w steps → All (λ step. IsReached step.world) steps → Holds n lifetime last w → AreInTime n lifetime last steps → Holds n lifetime (last_turn n last steps) (last_world w steps)
  holds-chain w [] n lifetime last ready chain all h timely = h
  holds-chain w (s ∷ steps) n lifetime last ready (link, chain) all h (before, unclosed, whole, unstepped, timely) =
      let reached' = All-head (λ step. IsReached step.world) s steps all in
      holds-chain s.world steps n lifetime (turn n last s) (ready-step w s ready link reached') chain (All-tail (λ step. IsReached step.world) s steps all)
      (holds-step w s ready link reached' n lifetime last h before unclosed whole unstepped) timely

  -- the tables are stored that a reader reads that holds its checkpoint
  holds-stored : (w : World) (n lifetime : ℕ) (last : ℤ) → IsReached w → (h : Holds n lifetime last w) → AreStored w.catalogue h.follower.view.manifest.tables
  holds-stored w n lifetime last reached h = subst (AreStored w.catalogue) h.tables (kept-stored w reached h.lease.id h.checkpoint h.kept h.has)

  -- a reader that holds its checkpoint keeps it at a moment in time
  keeps-it : (w : World) (n lifetime : ℕ) (last moment : ℤ) → IsReached w → (h : Holds n lifetime last w) → ComesBefore lifetime last moment → KeepsCheckpoint n moment w
  keeps-it w n lifetime last moment reached h before = record {
    follower = h.follower;
    is_follower = h.at;
    lease = h.lease;
    leased = h.leased;
    latest = h.has.latest;
    is_latest = h.has.is;
    checkpoint = h.checkpoint;
    there = h.has.there;
    lasts = holds-lasts n lifetime last moment w h before;
    tables = holds-stored w n lifetime last reached h;
  }

-- ---- its reads find no table missing
refusal-is : (e : SlateError) → refusal e ≡ replies.Refused (errors.ObjectStoreError NotFound) → e ≡ errors.ObjectStoreError NotFound
refusal-is errors.NoMemory is = absurd (cc)
refusal-is (errors.Backpressure unflushed limit) is = absurd (cc)
refusal-is e is = cc

-- what answers so answered that error
missing-is : {A : Type 0} (done : A → Reply) (r : Result A SlateError) (reply : Reply) → ((x : A) → done x ≡ replies.Refused (errors.ObjectStoreError NotFound) → ⊥) → reply ≡ reply_to done r → reply ≡ refusal (errors.ObjectStoreError NotFound) → r ≡ Err (errors.ObjectStoreError NotFound)
missing-is done (Ok x) reply never is missing = absurd (never x (sym is ∙ missing))
missing-is done (Err e) reply never is missing = ap Err (refusal-is e (sym is ∙ missing))

found-never : (found : Option KeyValue) → found_reply found ≡ replies.Refused (errors.ObjectStoreError NotFound) → ⊥
found-never None is = absurd (cc)
found-never (Some row) is = absurd (cc)

-- of something open whose tables are stored
reads-missing : {A : Type 0} {has : List Batch → Type 0} {P : List Batch → Result A ReadFault → Type 0} (catalogue : Catalogue) (closed : CloseResult) (tables : List TableId) (r : Result A SlateError) (before after : Known Span) → before.objects ≡ Some catalogue → closed ≡ None → AreStored catalogue tables → ReadsUnlessClosed closed tables has P before r after → r ≡ Err (errors.ObjectStoreError NotFound) → ⊥
reads-missing catalogue closed tables r before after at live stored s is = some-of (λ o. AreStored o tables → ⊥) before.objects catalogue at ((s.read live).missing is) stored

-- a fault of a read isn't that of a store
read-not : (fault : ReadFault) → error_of_read fault ≡ errors.ObjectStoreError NotFound → ⊥
read-not fault.MergeOperatorMissing is = absurd (cc)
read-not fault.MergeOperatorError is = absurd (cc)
read-not fault.ChecksumMismatch is = absurd (cc)
read-not fault.NoMemory is = absurd (cc)

seek-not : (range : ByteRange) (key : List ℕ) (fault : SeekFault) → error_of_seek range key fault ≡ errors.ObjectStoreError NotFound → ⊥
seek-not range key OutOfRange is = absurd (cc)
seek-not range key LessThanLastReturned is = absurd (cc)
seek-not range key (Stored fault) is = read-not fault is

with-not : {E : Type 0} (error_of : E → SlateError) (r : Result (List KeyValue) E) → ((fault : E) → error_of fault ≡ errors.ObjectStoreError NotFound → ⊥) → with_error error_of r ≡ Err (errors.ObjectStoreError NotFound) → ⊥
with-not error_of (Ok rows) never is = absurd (cc)
with-not error_of (Err fault) never is = never fault (let same : error_of fault ≡ errors.ObjectStoreError NotFound = cc in same)

-- so a scan that answers it didn't begin
scan-is : (taken : Iteration → Result (List KeyValue) SlateError) (scan : Result Iteration SlateError) (r : Result (List KeyValue) SlateError) → ((it : Iteration) → taken it ≡ Err (errors.ObjectStoreError NotFound) → ⊥) → AnswersTaken taken scan r → r ≡ Err (errors.ObjectStoreError NotFound) → scan ≡ Err (errors.ObjectStoreError NotFound)
scan-is taken (Ok it) r never (inl memory) is = absurd (let no : ◌≡◌ {A = Result (List KeyValue) SlateError} (Err errors.NoMemory) (Err (errors.ObjectStoreError NotFound)) = sym memory ∙ is in cc)
scan-is taken (Ok it) r never (inr all) is = absurd (never it (sym all ∙ is))
scan-is taken (Err e) r never refused is = ap Err (let same : ◌≡◌ {A = Result (List KeyValue) SlateError} (Err e) (Err (errors.ObjectStoreError NotFound)) = sym refused ∙ is in let it : e ≡ errors.ObjectStoreError NotFound = cc in it)

module _ (settings : Settings) (w w' : World) (command : Command) (reply : Reply) (next : NextWhole settings w command reply w') (n lifetime : ℕ) (last : ℤ) (h : Holds n lifetime last w) (stored : AreStored w.catalogue h.follower.view.manifest.tables) (missing : reply ≡ refusal (errors.ObjectStoreError NotFound)) where
  abbrev k : Knowledge Span
  k = by_catalogue w.stored w.catalogue

  -- what is asked of the reader is what the command asks
  asked : (m : ℕ) (action : Action) → command.action ≡ action → target_of action ≡ OfObject m → m ≡ n → FollowerDid k settings m command (call_of action) next.made (state_of w) reply (state_of w') h.follower
  asked m action is names same =
      let does = subst (λ t. DoesBy k settings command t next.made (state_of w) reply (state_of w')) (ap target_of is ∙ names) next.does in
      let acts = subst (λ c. ActsOn k settings m command c next.made (slice_get w.objects m) (state_of w) reply (state_of w')) (ap call_of is) does in
      follower-did k settings m command (call_of action) next.made (state_of w) reply (state_of w') (slice_get w.objects m) h.follower (subst (λ i. slice_get w.objects i ≡ Some (AFollower h.follower)) (sym same) h.at) acts

  taken-missing : (range : ByteRange) (order : IterationOrder) (taken : Iteration → Result (List KeyValue) SlateError) → ((it : Iteration) → taken it ≡ Err (errors.ObjectStoreError NotFound) → ⊥) → TakesFromFollower k settings.merge range order taken h.follower (state_of w).store reply (state_of w').store → ⊥
  taken-missing range order taken never a =
      let result = missing-is replies.Rows a.result reply (λ rows is. absurd (cc)) a.replied missing in
      reads-missing w.catalogue h.follower.result h.follower.view.manifest.tables a.scan (state_of w).store (state_of w').store refl h.live stored a.scans (scan-is taken a.scan a.result never a.takes result)

  pub reads-find : (action : Action) → command.action ≡ action → reads n action ≡ true → ⊥
  reads-find (actions.Get m key remote) is asks =
      let d = asked m (actions.Get m key remote) is refl (eqb-true m n asks) in
      let a = d.acts.0 in
      reads-missing w.catalogue h.follower.result h.follower.view.manifest.tables a.result (state_of w).store (state_of w').store refl h.live stored a.does (missing-is found_reply a.result reply found-never a.replied missing)
  reads-find (actions.Scan m range order remote) is asks =
      let d = asked m (actions.Scan m range order remote) is refl (eqb-true m n asks) in
      taken-missing range order scanned (λ it. with-not error_of_read (all_rows it.rows it.fault) read-not) d.acts.0
  reads-find (actions.Seek m range take key order remote) is asks =
      let d = asked m (actions.Seek m range take key order remote) is refl (eqb-true m n asks) in
      taken-missing range order (sought range take key) (λ it. with-not (error_of_seek range key) (seek_at take key it) (seek-not range key)) d.acts.0
  reads-find action is asks = absurd (cc)

-- ---- the law
-- a read makes its call whole
reads-whole : (n : ℕ) (action : Action) → reads n action ≡ true → kind_of action ≡ Whole
reads-whole n = by-kind (λ action. reads n action ≡ true) (λ m is. absurd (cc)) (λ m is. absurd (cc))

pub leases_hold : (settings : Settings) (w : World) (steps : List Step) → w.objects ≡ [] → w.polls ≡ [] → IsReached w → Chain settings w steps → All (λ step. IsReached step.world) steps → LeasesHold steps
leases_hold settings w steps empty unbegun reached chain all before later rest opened step n at managed skips lag is follows answered timely =
    let ready : IsReady w = record { reached = reached; past = λ m lease has. absurd (none m lease has) } in
    let halves = link-halves settings w before (opened ∷ (later ++ step ∷ rest)) (subst (Chain settings w) is chain) in
    let alls = all-halves settings (λ step. IsReached step.world) before (opened ∷ (later ++ step ∷ rest)) (subst (All (λ step. IsReached step.world)) is all) in
    let first = ready-chain settings w before ready halves.0 alls.0 in
    let link = halves.1.0 in
    let reached_opened = All-head (λ step. IsReached step.world) opened (later ++ step ∷ rest) alls.1 in
    let ready_opened = ready-step settings (last_world w before) opened first link reached_opened in
    let more = link-halves settings opened.world later (step ∷ rest) halves.1.1 in
    let mores = all-halves settings (λ step. IsReached step.world) later (step ∷ rest) (All-tail (λ step. IsReached step.world) opened (later ++ step ∷ rest) alls.1) in
    let opens = next-at settings (last_world w before) opened first link reached_opened Whole (ap kind_of follows) in
    let begins = opening-holds settings (last_world w before) opened.world opened.command opened.reply first.reached reached_opened opens managed skips lag n at follows answered first.past in
    let holds = holds-chain settings opened.world later n (lifetime_of managed / 2) opened.command.moment ready_opened more.0 mores.0 begins timely in
    let ready_last = ready-chain settings opened.world later ready_opened more.0 mores.0 in
    let reached_step = All-head (λ step. IsReached step.world) step rest mores.1 in
    let last = last_turn n opened.command.moment later in (
      keeps-it settings (last_world opened.world later) n (lifetime_of managed / 2) last step.command.moment ready_last.reached holds,
      λ asks missing.
          let reads_it = next-at settings (last_world opened.world later) step ready_last more.1.0 reached_step Whole (reads-whole n step.command.action asks) in
          reads-find settings (last_world opened.world later) step.world step.command step.reply reads_it n (lifetime_of managed / 2) last holds (holds-stored settings (last_world opened.world later) n (lifetime_of managed / 2) last ready_last.reached holds) missing step.command.action refl asks,
    )
  where
    none : (m : ℕ) (lease : Lease) → HasLease w m lease → ⊥
    none m lease (inl (f, there, has)) = absurd (let no = subst (λ os. slice_get os m ≡ Some (AFollower f)) empty there in cc)
    none m lease (inr (b, there, has)) = absurd (let no = subst (λ ps. IsBegunAt ps m b) unbegun there in cc)
