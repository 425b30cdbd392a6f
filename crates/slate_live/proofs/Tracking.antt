-- The tracker of a handle that flushed to a table is that of the next opening.
use Rattle.std.proofs.Common.{◌≡◌, ◌⊎◌, ◌++◌, ◌∷◌, ◌&&◌, ◌+◌, ◌<◌, ◌≤◌, ◌∙◌, [], inl, inr, ℕ, Bool, true, false, cond, length, set, List, map, Option, Some, None, Result, Ok, Err, refl, sym, subst, ap, arith}
use Rattle.std.proofs.lemmas.Bool.{eqb-true, lt-ltb, ltb-true}
use Rattle.std.proofs.lemmas.List.{length-append, take_all}
use Rattle.std.proofs.lemmas.List.Elements.{All-head, All-tail}
use Rattle.std.specs.List.{All, slice_get}
use Rattle.std.specs.Option.{option_or}
use Rattle.std.specs.Prelude.{is_some, nat_le, unwrap_or}
use Rattle.slate_types.proofs.Lines.{above-none}
use Rattle.slate_types.specs.Line.{Line, end, extended}
use Rattle.slate_types.specs.declared.batches.Batch.{Batch}
use Rattle.slate_types.specs.declared.options.CloseOptions.{CloseOptions}
use Rattle.slate_types.specs.declared.options.FlushType.{FlushType}
use Rattle.slate_types.specs.declared.options.FlushType.TheVariants.{MemTable, Wal}
use Rattle.slate_seqtrack.specs.Bytes.{packed, tracker_at, tracker_of}
use Rattle.slate_seqtrack.specs.Spelling.{tracker_bytes}
use Rattle.slate_seqtrack.specs.Tracker.{Tracker, numbers_of, paired, times_of}
use Rattle.slate_seqtrack.specs.declared.faults.TrackerFault.{TrackerFault}
use Rattle.slate_seqtrack.specs.declared.pairs.TrackedSeq.{TrackedSeq}
use Rattle.slate_store.proofs.Carried.{put-kept}
use Rattle.slate_store.specs.Checkpoints.{Plan, to_delete, to_refresh, with_checkpoints}
use Rattle.slate_store.specs.Content.{IdsRise}
use Rattle.slate_store.specs.Objects.{ChangeOf, PutLog, PutTable, changed, changed_all, last_log, latest_manifest}
use Rattle.slate_store.specs.Sweeps.{has_expired}
use Rattle.slate_store.specs.declared.objects.Manifest.{Manifest}
use Rattle.slate_store.specs.declared.objects.VersionedManifest.{VersionedManifest}
use Rattle.slate_errors.specs.declared.errors.SlateError.{SlateError}
use Rattle.slate_errors.specs.declared.errors.SlateError.TheVariants as errors
use Rattle.slate_errors.specs.declared.endings.TaskName.{TaskName}
use Rattle.slate_model.proofs.Maintained.{Recheckpoints, delete-recheckpoints, refresh-recheckpoints}
use Rattle.slate_model.proofs.Planned.{keep-recheckpoints}
use Rattle.slate_model.proofs.Reduced.{some-same}
use Rattle.slate_model.proofs.Tabled.{tables-within}
use Rattle.slate_model.specs.Catalogue.{Catalogue, Span, span}
use Rattle.slate_model.specs.Changes.{after_part}
use Rattle.slate_model.specs.Close.{closing_flush}
use Rattle.slate_model.specs.Flush.{Flushes, IsReadAgain, Stores, flush_changes_by, flush_changes_under, grown, grows, log_changes, next_flushed, table_changes, tables_put}
use Rattle.slate_model.specs.Handle.{Handle, accepted, has_untabled, next_table, to_log, unstored, untabled}
use Rattle.slate_model.specs.Knowledge.{Knowledge}
use Rattle.slate_model.specs.Lease.{to_keep}
use Rattle.slate_model.specs.Object.{Object, Handle as AHandle, Snapshot as ASnapshot, Follower as AFollower}
use Rattle.slate_model.specs.Open.{OpensHandle, found_log, has_next, is_ready, log_refusal, manifest_refusal, next_manifest, refusal_unless, replayed}
use Rattle.slate_model.specs.Known.{Known}
use Rattle.slate_model.specs.Segments.{Extractor, extractor_name, extractor_refusal}
use Rattle.slate_model.specs.Stores.{by_catalogue}
use Rattle.slate_model.specs.Tracked.{fits_tables, fitting, no_times, opened_tracker, stored_tracker, tracked_all, tracker_in}
use Rattle.slate_script.specs.declared.commands.Action.{Action}
use Rattle.slate_script.specs.declared.commands.Action.TheVariants as actions
use Rattle.slate_script.specs.declared.commands.Command.{Command}
use Rattle.slate_script.specs.declared.replies.Reply.{Reply}
use Rattle.slate_script.specs.declared.replies.Reply.TheVariants as replies
use Rattle.slate_live.specs.Calls.{Begins, Call, Close, Flush, Kind, Steps, Whole, call_of, flush_of_close, kind_of, target_of}
use Rattle.slate_live.specs.declared.targets.Target.TheVariants.{OfObject}
use Rattle.slate_live.specs.Next.{NextBegun, NextBy}
use Rattle.slate_live.specs.Commands.{ActsOn, AddsObject, DoesBy, added}
use Rattle.slate_live.specs.Handles.{ClosesHandle, flush_type_by}
use Rattle.slate_live.specs.Replies.{closed_reply, refusal, reply_to}
use Rattle.slate_live.specs.Represents.{IsHandleAt, IsReached}
use Rattle.slate_live.specs.Rising.{Rise, Rises}
use Rattle.slate_live.specs.Settings.{Settings, option_tasks}
use Rattle.slate_live.specs.State.{State}
use Rattle.slate_live.specs.Steps.{Chain, Step, last_world}
use Rattle.slate_live.specs.Valid.{Link}
use Rattle.slate_live.specs.Trackers.{Commits, TrackersStay, flushes}
use Rattle.slate_live.specs.World.{NextWhole, World, grown_by, state_of, stored_after}
use Rattle.slate_live.proofs.Carrying.{Spares}
use Rattle.slate_live.proofs.Cases.{close-by, flush-by}
use Rattle.slate_live.proofs.Lasting.{all-halves}
use Rattle.slate_live.proofs.Leases.{latest-after, rising}
use Rattle.slate_live.proofs.Naming.{handle-did}
use Rattle.slate_live.proofs.Places.{get-seam, get-set_same}
use Rattle.slate_live.proofs.Prefixes.{extended-nil}
use Rattle.slate_live.proofs.Begun.{by-kind}
use Rattle.slate_live.proofs.Wholes.{link-halves, next-whole}

-- ---- the lists of a tracker that is read again
paired-again : (ps : List TrackedSeq) → paired (map (λ (p : TrackedSeq). p.seq) ps) (map (λ (p : TrackedSeq). p.ts) ps) ≡ ps
paired-again [] = refl
paired-again (p ∷ ps) = ap (λ qs. p ∷ qs) (paired-again ps)

read-pairs : (number : ℕ) (t : Tracker) → IsReadAgain t → is_some (tracker_in number (Some (tracker_bytes t))) ≡ true → (unwrap_or (tracker_in number (Some (tracker_bytes t))) no_times).pairs ≡ t.pairs
read-pairs number t again there = by (tracker_at (tracker_bytes t)) again there where
  fits : (read : Tracker) (b : Bool) → read ≡ tracker_of (numbers_of t) (times_of t) → is_some (cond {A = Option Tracker} b (Some read) None) ≡ true → (unwrap_or (cond {A = Option Tracker} b (Some read) None) no_times).pairs ≡ t.pairs
  fits read true is some = ap (λ (x : Tracker). x.pairs) is ∙ paired-again t.pairs
  fits read false is some = absurd (cc)

  by : (r : Result Tracker TrackerFault) → r ≡ Ok (tracker_of (numbers_of t) (times_of t)) → is_some (fitting number r) ≡ true → (unwrap_or (fitting number r) no_times).pairs ≡ t.pairs
  by (Err fault) is some = absurd (cc)
  by (Ok read) is some = fits read (fits_tables number read) (let same : read ≡ tracker_of (numbers_of t) (times_of t) = cc in same) some

-- ---- a world whose latest manifest has a tracker
-- a manifest whose tables end at a number, and that has the bytes of a tracker, or whose tables end later
abbrev pub Keeps : ℕ → Tracker → Manifest → Type 0
Keeps number t manifest = ((manifest.last_l0_seq ≡ number) × (manifest.sequence_tracker ≡ Some (tracker_bytes t))) ⊎ (number < manifest.last_l0_seq)

pub record HasTracker (number : ℕ) (t : Tracker) (w : World) : Type 0 where
  pub latest : VersionedManifest
  pub is : latest_manifest w.catalogue ≡ Some latest
  pub holds : Keeps number t latest.manifest

planned-keeps : {A : Type 0} (number : ℕ) (t : Tracker) (latest next : VersionedManifest) (answer : A) (p : Plan A) → Keeps number t latest.manifest → p ≡ Ok (Some next, answer) → Recheckpoints latest p → Keeps number t next.manifest
planned-keeps {A} number t latest next answer p holds gives puts =
    let its : Recheckpoints {A = A} latest (Ok (Some next, answer)) = subst (λ q. Recheckpoints latest q) gives puts in
    subst (λ (v : VersionedManifest). Keeps number t v.manifest) (sym its.1) holds

-- every command carries it on
keeps-spared : (number : ℕ) (t : Tracker) (w : World) (latest : VersionedManifest) (command : Command) → Keeps number t latest.manifest → Spares (Keeps number t) w latest command
keeps-spared number t w latest command holds = record {
  kept = holds;
  flushed = λ handle last some. inr (later handle (ltb-true latest.manifest.last_l0_seq (accepted handle) some));
  compacted = λ table. holds;
  opened = λ name last. holds;
  swept = λ sweeps. by (has_expired command.moment latest) _;
  added = λ checkpoint. holds;
  polled = λ n f lease given next names asks at has gives. planned-keeps number t latest next given (to_keep f.view lease command.moment latest) holds gives (keep-recheckpoints f.view lease command.moment latest);
  renewed = λ n f lease given next again checkpoint names asks at has written kept gives.
      planned-keeps number t next again checkpoint (to_refresh given.id given.lifetime command.moment next) kept gives (refresh-recheckpoints given.id given.lifetime command.moment next);
  closed = λ n f lease next flush_type names asks at live has gives. planned-keeps number t latest next tt (to_delete lease.id latest) holds gives (delete-recheckpoints lease.id latest);
} where
  later : (handle : Handle) → latest.manifest.last_l0_seq < accepted handle → number < accepted handle
  later handle up = elim holds [
    | inl both ↦ let same = both.0 in omega (arith, same, up)
    | inr less ↦ omega (arith, less, up)
  ]

  by : (b : Bool) (checkpoints : List _) → Keeps number t (cond b (with_checkpoints checkpoints latest) latest).manifest
  by true checkpoints = holds
  by false checkpoints = holds

-- no table has what isn't stored
tabled-end : (w : World) → IsReached w → (latest : VersionedManifest) → latest_manifest w.catalogue ≡ Some latest → latest.manifest.last_l0_seq ≤ end w.stored
tabled-end w reached latest is =
    tables-within reached.1 latest w.stored [] reached.2 (ap latest_manifest (reached.3).catalogue ∙ is)
    (sym (ap (λ l. extended l []) (reached.3).stored ∙ extended-nil w.stored)) (reached.0).line

reached-last : (w : World) (steps : List Step) → IsReached w → All (λ (step : Step). IsReached step.world) steps → IsReached (last_world w steps)
reached-last w [] reached all = reached
reached-last w (s ∷ steps) reached all = reached-last s.world steps (All-head (λ (step : Step). IsReached step.world) s steps all) (All-tail (λ (step : Step). IsReached step.world) s steps all)

-- over a command
link-keeps : (settings : Settings) (number : ℕ) (t : Tracker) (w : World) (s : Step) → IsReached w → IsReached s.world → Link settings w s.command s.reply s.world → HasTracker number t w → HasTracker number t s.world
link-keeps settings number t w s reached reached' link h = by (kind_of s.command.action) refl
  where
    by : (kind : Kind) → kind_of s.command.action ≡ kind → HasTracker number t s.world
    by Whole kind =
        let c = latest-after settings w s.world s.command s.reply reached reached' (next-whole settings w s.command s.reply s.world kind link.next) (Keeps number t) h.latest h.is (keeps-spared number t w h.latest s.command h.holds) in
        record { latest = c.latest; is = c.is; holds = c.holds }
    by (Begins m) kind =
        let next : NextBegun settings m w s.command s.reply s.world = subst (λ k. NextBy k settings w s.command s.reply s.world) kind link.next in
        record { latest = h.latest; is = ap (λ (x : World). latest_manifest x.catalogue) next.same ∙ h.is; holds = h.holds }
    by (Steps m) kind =
        let c = (link.leaves m kind).latest h.latest h.is in
        record { latest = c.0; is = c.1; holds = subst (Keeps number t) (sym c.2) h.holds }

keeps-chain : (settings : Settings) (number : ℕ) (t : Tracker) (w : World) (steps : List Step) → IsReached w → Chain settings w steps → All (λ (step : Step). IsReached step.world) steps → HasTracker number t w → HasTracker number t (last_world w steps)
keeps-chain settings number t w [] reached chain all h = h
keeps-chain settings number t w (s ∷ steps) reached (link, chain) all h =
    let reached' = All-head (λ (step : Step). IsReached step.world) s steps all in
    keeps-chain settings number t s.world steps reached' chain (All-tail (λ (step : Step). IsReached step.world) s steps all) (link-keeps settings number t w s reached reached' link h)

-- ---- all changes of a flush
module _ (o : Catalogue) (its_rising : IdsRise (map (λ e. e.0) o.manifests)) (h : Handle) (latest : VersionedManifest) (is : latest_manifest o ≡ Some latest) (last : ℕ) where
  -- the latest manifest stays, or a table was put, and it is the one that names it
  abbrev Leaves : List (ChangeOf Span) → Type 0
  Leaves cs = (latest_manifest (changed_all cs o) ≡ Some latest) ⊎ ((0 < tables_put cs) × (latest_manifest (changed_all cs o) ≡ Some (next_flushed h latest last)))

  to-log : (bs : List Batch) → Leaves (log_changes span bs last)
  to-log [] = inl is
  to-log (b ∷ bs) = inl is

  abbrev table : ChangeOf Span
  table = PutTable (next_table h) (span (untabled latest.manifest h))

  to-table : (bs : List Batch) → Leaves (log_changes span bs last ++ table_changes span h latest last)
  to-table [] = inr (omega arith, put-kept {L = Span} (λ manifest. Unit {0}) (changed table o) latest its_rising is (next_flushed h latest last).manifest)
  to-table (b ∷ bs) = inr (omega arith, put-kept {L = Span} (λ manifest. Unit {0}) (changed table (changed (PutLog (last + 1) (span (b ∷ bs))) o)) latest its_rising is (next_flushed h latest last).manifest)

  flush-leaves : (t : FlushType) → Leaves (flush_changes_under span t h latest last)
  flush-leaves Wal = to-log (to_log h)
  flush-leaves MemTable = by (has_untabled h latest.manifest) where
    by : (b : Bool) → Leaves (cond b (log_changes span (to_log h) last ++ table_changes span h latest last) [])
    by true = to-table (to_log h)
    by false = inl is

-- what isn't an answer
refusal-not_flushed : (e : SlateError) → refusal e ≡ replies.Flushed → ⊥
refusal-not_flushed errors.NoMemory is = absurd (cc)
refusal-not_flushed (errors.Backpressure unflushed limit) is = absurd (cc)
refusal-not_flushed e is = absurd (cc)

refusal-not_handle : (e : SlateError) (n : ℕ) → refusal e ≡ replies.Handle n → ⊥
refusal-not_handle errors.NoMemory n is = absurd (cc)
refusal-not_handle (errors.Backpressure unflushed limit) n is = absurd (cc)
refusal-not_handle e n is = absurd (cc)

-- a close that answers no error found none
ended-none : (fault : Option SlateError) (ts tasks : List TaskName) → closed_reply fault ts ≡ replies.Ended None tasks → fault ≡ None
ended-none None ts tasks is = refl
ended-none (Some errors.Closed) ts tasks is = absurd (cc)
ended-none (Some e) ts tasks is = absurd (cc)

-- the object that is flushed or closed
flush-names : (m n : ℕ) (t : Option FlushType) (r : Reply) → flushes n (actions.Flush m t) r ≡ true → m ≡ n
flush-names m n t replies.Flushed is = eqb-true m n is
flush-names m n t r is = absurd (cc)

close-names : (m n : ℕ) (options : Option CloseOptions) (r : Reply) → flushes n (actions.Close m options) r ≡ true → m ≡ n
close-names m n options (replies.Ended None tasks) is = eqb-true m n is
close-names m n options r is = absurd (cc)

-- what isn't refused by the latest manifest isn't for its tracker
first-none : (a b : Option SlateError) → option_or a b ≡ None → a ≡ None
first-none None b is = refl
first-none (Some e) b is = absurd (cc)

second-holds : (a b : Bool) → (a && b) ≡ true → b ≡ true
second-holds true b is = is
second-holds false b is = absurd (cc)

has-tracker : (extractor : Option Extractor) (latest : VersionedManifest) → manifest_refusal extractor (Some latest) ≡ None → is_some (stored_tracker latest.manifest) ≡ true
has-tracker extractor latest none =
    second-holds latest.manifest.initialized (is_some (stored_tracker latest.manifest)) (by (is_ready latest) (option_or (extractor_refusal extractor latest.manifest) (refusal_unless (has_next latest))) none)
  where
    by : (b : Bool) (refusal : Option SlateError) → cond b refusal (Some errors.InvalidDBState) ≡ None → b ≡ true
    by true refusal is = refl
    by false refusal is = absurd (cc)

-- ---- the flush
-- what a handle stores ends where its line does
grown-end : (stored : Line) (batches : List Batch) (b : Bool) → end (cond b (extended stored batches) stored) ≤ end (extended stored batches)
grown-end stored batches true = omega arith
grown-end stored batches false = let l = length-append stored.batches batches in omega (arith, l)

module _ (settings : Settings) (w w' : World) (command : Command) (reply : Reply) (reached : IsReached w) (reached' : IsReached w') (rises : Rise w.objects w'.objects) (next : NextWhole settings w command reply w') (commits : Commits w w') where
  abbrev k : Knowledge Span
  k = by_catalogue w.stored w.catalogue

  abbrev Tracks : Handle → Type 0
  Tracks h = IsReadAgain h.tracker × HasTracker (end w'.stored) h.tracker w'

  stores-tracks : (n : ℕ) (t : FlushType) (h h' : Handle) (u : Unit {0}) → IsHandleAt w.objects n h → h.result ≡ None → Stores k next.made t h (state_of w).store (Ok u) h' (state_of w').store → w'.stored ≡ grown next.made w.stored h → Tracks h'
  stores-tracks n t h h' u at live stores stored =
      let s = (stores.objects).some w.catalogue refl in
      let latest = ((s.2).answer).0 in
      let current = ((s.2).answer).1 in
      let last = last_log latest.manifest.replay_after_wal_id w.catalogue in
      let cs = flush_changes_under span t h latest last in
      let cs_is : flush_changes_by span t h w.catalogue (latest_manifest w.catalogue) ≡ cs = ap (flush_changes_by span t h w.catalogue) current.0 in
      let made : next.made ≡ length cs = (s.2).part ∙ ap length cs_is in
      let after : w'.catalogue ≡ changed_all cs w.catalogue =
      some-same w'.catalogue s.0 s.1
      ∙ ((s.2).after ∙ (ap (λ xs. after_part next.made xs w.catalogue) cs_is ∙ ap (λ xs. changed_all xs w.catalogue) (take_all next.made cs (omega (arith, made))))) in
      elim (flush-leaves w.catalogue (rising settings w w' command reply reached reached' next) h latest current.0 last t) [
        | inl same ↦ absurd (commits (ap latest_manifest after ∙ (same ∙ sym current.0)))
        | inr put ↦
            let tracked = (s.2).tracked in
            let some : 0 < tables_put (flush_changes_by span t h w.catalogue (latest_manifest w.catalogue)) = subst (λ xs. 0 < tables_put xs) (sym cs_is) put.0 in
            let is : h'.tracker ≡ packed h.tracker = tracked.is ∙ ap (λ b. cond b (packed h.tracker) h.tracker) (lt-ltb 0 (tables_put (flush_changes_by span t h w.catalogue (latest_manifest w.catalogue))) some) in
            let newest : latest_manifest w'.catalogue ≡ Some (next_flushed h latest last) = ap latest_manifest after ∙ put.1 in
            let low = tabled-end w' reached' (next_flushed h latest last) newest in
            let line = ((((reached.0).handles n h at).current latest live current.0 current.1)).0 in
            let up = grown-end w.stored (unstored h) (nat_le (grows h) next.made) in
            let stored_end = ap end stored in
            let line_end = ap end line in (
              tracked.again some,
              record {
                latest = next_flushed h latest last;
                is = newest;
                holds = inl (omega (arith, low, up, stored_end, line_end), ap (λ (x : Tracker). Some (tracker_bytes x)) (sym is));
              },
            )
      ]

  -- a flush and a close that commit a manifest
  changed-store : (state_of w').store ≡ (state_of w).store → ⊥
  changed-store same = commits (ap latest_manifest (some-same w'.catalogue w.catalogue (ap (λ (x : Known Span). x.objects) same)))

  flush-tracks : (n : ℕ) (t : FlushType) (h h' : Handle) (r : Result (Unit {0}) SlateError) → IsHandleAt w.objects n h → reply ≡ reply_to (λ _. replies.Flushed) r → Flushes k next.made t h (state_of w).store r h' (state_of w').store → reply ≡ replies.Flushed → w'.stored ≡ grown next.made w.stored h → Tracks h'
  flush-tracks n t h h' (Err e) at replied does answered stored = absurd (refusal-not_flushed e (sym replied ∙ answered))
  flush-tracks n t h h' (Ok u) at replied does answered stored =
      flush-by k next.made h (state_of w).store h' (state_of w').store (Tracks h') t (Ok u) does
      (λ q shut error same u. absurd (changed-store u.1))
      (λ live without error same u. absurd (changed-store u.1))
      (λ can is stores. stores-tracks n t h h' u at can.0 stores stored)

  close-tracks : (n : ℕ) (t : Option FlushType) (h h' : Handle) (tasks : List TaskName) → IsHandleAt w.objects n h → ClosesHandle k next.made t h (state_of w).store reply h' (state_of w').store → reply ≡ replies.Ended None tasks → w'.stored ≡ grown next.made w.stored h → Tracks h'
  close-tracks n t h h' tasks at c answered stored =
      close-by k next.made h (state_of w).store h' (state_of w').store (Tracks h') t c.ended c.does
      (λ q shut answer same u. absurd (changed-store u.1))
      (λ live none answer same u. absurd (changed-store u.1))
      (λ t live some without answer same u. absurd (changed-store u.1))
      (λ t can some answer is stores. stores-tracks n t h h' tt at can.0 (subst (λ fault. Stores k next.made t h (state_of w).store (closing_flush fault) h' (state_of w').store) (ended-none (c.ended).fault (c.ended).tasks tasks (sym c.replied ∙ answered)) stores) stored)

  -- the handle was there before
  kind : (h' : Handle) (x : Object) → Rises x (AHandle h') → (h : Handle) × (x ≡ AHandle h)
  kind h' (AHandle h) r = (h, refl)
  kind h' (ASnapshot x) r = absurd r
  kind h' (AFollower f) r = absurd r

  module _ (n : ℕ) (call : Call) (h' : Handle) (at' : IsHandleAt w'.objects n h') where
    was-by : (found : Option Object) → slice_get w.objects n ≡ found → ActsOn k settings n command call next.made found (state_of w) reply (state_of w') → (h : Handle) × IsHandleAt w.objects n h
    was-by None is a =
        let same : w'.objects ≡ w.objects = ap (λ (s : State Span). s.objects) a.2 in
        absurd (let no : ◌≡◌ {A = Option Object} None (Some (AHandle h')) = sym is ∙ (ap (λ os. slice_get os n) (sym same) ∙ at') in cc)
    was-by (Some x) is a =
        let r = rises n x is in
        let new : r.0 ≡ AHandle h' = some-same r.0 (AHandle h') (sym r.1 ∙ at') in
        let q = kind h' x (subst (Rises x) new r.2) in
        (q.0, is ∙ ap Some q.1)

    same-handle : (h d : Handle) → IsHandleAt w.objects n h → w'.objects ≡ set w.objects n (AHandle d) → d ≡ h'
    same-handle h d at objects =
        let there : slice_get w'.objects n ≡ Some (AHandle d) = ap (λ os. slice_get os n) objects ∙ get-set_same w.objects n (AHandle d) (AHandle h) at in
        let both : AHandle d ≡ AHandle h' = some-same (AHandle d) (AHandle h') (sym there ∙ at') in
        cc

  module _ (n : ℕ) (h' : Handle) (at' : IsHandleAt w'.objects n h') where
    acts-of : (call : Call) (action : Action) → command.action ≡ action → target_of action ≡ OfObject n → call_of action ≡ call → ActsOn k settings n command call next.made (slice_get w.objects n) (state_of w) reply (state_of w')
    acts-of call action names target asks =
        subst (λ c. ActsOn k settings n command c next.made (slice_get w.objects n) (state_of w) reply (state_of w')) (ap call_of names ∙ asks)
        (subst (λ t. DoesBy k settings command t next.made (state_of w) reply (state_of w')) (ap target_of names ∙ target) next.does)

    flushed-tracks : (t : Option FlushType) → command.action ≡ actions.Flush n t → (r : Reply) → reply ≡ r → flushes n (actions.Flush n t) r ≡ true → Tracks h'
    flushed-tracks t names replies.Flushed answered is =
        let acts = acts-of (Flush t) (actions.Flush n t) names refl refl in
        let was = was-by n (Flush t) h' at' (slice_get w.objects n) refl acts in
        let d = handle-did k settings n command (Flush t) next.made (state_of w) reply (state_of w') (slice_get w.objects n) was.0 was.1 acts in
        let f = d.acts.0 in
        let stored = next.stored ∙ (ap (stored_after next.made w) names ∙ ap (grown_by (Flush t) next.made w.stored) was.1) in
        subst Tracks (same-handle n (Flush t) h' at' was.0 d.new was.1 d.objects) (flush-tracks n (flush_type_by t was.0) was.0 d.new f.result was.1 f.replied f.does answered stored)
    flushed-tracks t names r answered is = absurd (cc)

    closed-tracks : (options : Option CloseOptions) → command.action ≡ actions.Close n options → (r : Reply) → reply ≡ r → flushes n (actions.Close n options) r ≡ true → Tracks h'
    closed-tracks options names (replies.Ended None tasks) answered is =
        let acts = acts-of (Close (flush_of_close options)) (actions.Close n options) names refl refl in
        let was = was-by n (Close (flush_of_close options)) h' at' (slice_get w.objects n) refl acts in
        let d = handle-did k settings n command (Close (flush_of_close options)) next.made (state_of w) reply (state_of w') (slice_get w.objects n) was.0 was.1 acts in
        let stored = next.stored ∙ (ap (stored_after next.made w) names ∙ ap (grown_by (Close (flush_of_close options)) next.made w.stored) was.1) in
        subst Tracks (same-handle n (Close (flush_of_close options)) h' at' was.0 d.new was.1 d.objects) (close-tracks n (flush_of_close options) was.0 d.new tasks was.1 d.acts.0 answered stored)
    closed-tracks options names r answered is = absurd (cc)

    step-tracks : (action : Action) → command.action ≡ action → flushes n action reply ≡ true → Tracks h'
    step-tracks (actions.Flush m t) names is =
        let same : m ≡ n = flush-names m n t reply is in
        flushed-tracks t (names ∙ ap (λ i. actions.Flush i t) same) reply refl (subst (λ i. flushes n (actions.Flush i t) reply ≡ true) same is)
    step-tracks (actions.Close m options) names is =
        let same : m ≡ n = close-names m n options reply is in
        closed-tracks options (names ∙ ap (λ i. actions.Close i options) same) reply refl (subst (λ i. flushes n (actions.Close i options) reply ≡ true) same is)
    step-tracks action names is = absurd (cc)

-- ---- the opening
module _ (settings : Settings) (w w' : World) (command : Command) (reply : Reply) (reached : IsReached w) (next : NextWhole settings w command reply w') (t : Tracker) (again : IsReadAgain t) (has : HasTracker (end w.stored) t w) where
  abbrev known : Knowledge Span
  known = by_catalogue w.stored w.catalogue

  -- nothing is replayed, and the manifest has the tracker's bytes
  abbrev view : Option VersionedManifest → VersionedManifest
  view found = next_manifest (extractor_name settings.extractor) found (found_log w.catalogue)

  bytes-are : (has.latest.manifest.last_l0_seq ≡ end w.stored) × (has.latest.manifest.sequence_tracker ≡ Some (tracker_bytes t))
  bytes-are = elim has.holds [
    | inl both ↦ both
    | inr less ↦ absurd (let low = tabled-end w reached has.latest has.is in omega (arith, low, less))
  ]

  none-replayed : replayed (view (Some has.latest)) w.stored ≡ []
  none-replayed = let ends = bytes-are.0 in above-none (w.stored).floor has.latest.manifest.last_l0_seq (w.stored).batches (reached.0).line (omega (arith, ends))

  opened-pairs : (h : Handle) → h.tracker ≡ tracked_all (opened_tracker (view (latest_manifest w.catalogue)).manifest) (replayed (view (latest_manifest w.catalogue)) w.stored) → option_or (manifest_refusal settings.extractor (latest_manifest w.catalogue)) (log_refusal (found_log w.catalogue)) ≡ None → h.tracker.pairs ≡ t.pairs
  opened-pairs h tracker unrefused =
      let whole : h.tracker ≡ tracked_all (opened_tracker (view (Some has.latest)).manifest) (replayed (view (Some has.latest)) w.stored) =
      tracker ∙ ap (λ found. tracked_all (opened_tracker (view found).manifest) (replayed (view found) w.stored)) has.is in
      let plain : h.tracker ≡ opened_tracker has.latest.manifest = whole ∙ ap (tracked_all (opened_tracker (view (Some has.latest)).manifest)) none-replayed in
      let refusal_none : manifest_refusal settings.extractor (Some has.latest) ≡ None = ap (manifest_refusal settings.extractor) (sym has.is) ∙ first-none (manifest_refusal settings.extractor (latest_manifest w.catalogue)) (log_refusal (found_log w.catalogue)) unrefused in
      let there : is_some (stored_tracker has.latest.manifest) ≡ true = has-tracker settings.extractor has.latest refusal_none in
      let bytes = bytes-are.1 in
      ap (λ (x : Tracker). x.pairs) plain
      ∙ (ap (λ b. (unwrap_or (tracker_in has.latest.manifest.last_l0_seq b) no_times).pairs) bytes
      ∙ read-pairs has.latest.manifest.last_l0_seq t again (subst (λ b. is_some (tracker_in has.latest.manifest.last_l0_seq b) ≡ true) bytes there))

  pub opens-tracked : (n : ℕ) (keeps_log : Bool) → command.action ≡ actions.Open keeps_log → reply ≡ replies.Handle n → (h : Handle) × IsHandleAt w'.objects n h × (h.tracker.pairs ≡ t.pairs)
  opens-tracked n keeps_log names answered = by d.result d.replied d.does d.objects where
    d : AddsObject (OpensHandle known settings.extractor next.made keeps_log settings.options.max_unflushed_bytes (option_tasks settings.options)) AHandle (λ n (h : Handle). replies.Handle n) (state_of w) reply (state_of w')
    d = subst (λ t. DoesBy known settings command t next.made (state_of w) reply (state_of w')) (ap target_of names) next.does

    by : (r : Result Handle SlateError) → reply ≡ reply_to (λ (h : Handle). replies.Handle (length w.objects)) r → OpensHandle known settings.extractor next.made keeps_log settings.options.max_unflushed_bytes (option_tasks settings.options) (state_of w).store r (state_of w').store → w'.objects ≡ w.objects ++ added AHandle r → (h : Handle) × IsHandleAt w'.objects n h × (h.tracker.pairs ≡ t.pairs)
    by (Err e) replied does objects = absurd (refusal-not_handle e n (sym replied ∙ answered))
    by (Ok h) replied does objects =
        let both : replies.Handle (length w.objects) ≡ replies.Handle n = sym replied ∙ answered in
        let number : length w.objects ≡ n = cc in
        let is = does.handle w.catalogue w.stored refl refl in
        let opens = ((does.opens).some w.catalogue refl).2 in (
          h,
          subst (λ i. IsHandleAt w'.objects i h) number (subst (λ os. slice_get os (length w.objects) ≡ Some (AHandle h)) (sym objects) (get-seam w.objects (AHandle h))),
          opened-pairs h (ap (λ (x : Handle). x.tracker) is) opens.answer,
        )

-- a flush and a close make a call whole
flushes-whole : (action : Action) (n : ℕ) (reply : Reply) → flushes n action reply ≡ true → kind_of action ≡ Whole
flushes-whole action n reply is = by-kind (λ a. flushes n a reply ≡ true) (λ m no. absurd (cc)) (λ m no. absurd (cc)) action is

-- ---- the law
pub trackers_stay : (settings : Settings) (first : World) (steps : List Step) → IsReached first → Chain settings first steps → All (λ step. IsReached step.world) steps → TrackersStay first steps
trackers_stay settings first steps reached chain all before later rest flushed opened m n keeps_log handle is flushes_it commits at unstored opens answered =
    let halves = link-halves settings first before (flushed ∷ (later ++ opened ∷ rest)) (subst (Chain settings first) is chain) in
    let alls = all-halves settings (λ (step : Step). IsReached step.world) before (flushed ∷ (later ++ opened ∷ rest)) (subst (All (λ (step : Step). IsReached step.world)) is all) in
    let w = last_world first before in
    let link = halves.1.0 in
    let reached_flushed = All-head (λ (step : Step). IsReached step.world) flushed (later ++ opened ∷ rest) alls.1 in
    let begins = step-tracks settings w flushed.world flushed.command flushed.reply (reached-last first before reached alls.0) reached_flushed link.rises (next-whole settings w flushed.command flushed.reply flushed.world (flushes-whole flushed.command.action m flushed.reply flushes_it) link.next) commits m handle at flushed.command.action refl flushes_it in
    let more = link-halves settings flushed.world later (opened ∷ rest) halves.1.1 in
    let mores = all-halves settings (λ (step : Step). IsReached step.world) later (opened ∷ rest) (All-tail (λ (step : Step). IsReached step.world) flushed (later ++ opened ∷ rest) alls.1) in
    let keeps = keeps-chain settings (end (flushed.world).stored) handle.tracker flushed.world later reached_flushed more.0 mores.0 begins.1 in
    let last = last_world flushed.world later in
    opens-tracked settings last opened.world opened.command opened.reply (reached-last flushed.world later reached_flushed mores.0) (next-whole settings last opened.command opened.reply opened.world (ap kind_of opens) more.1.0.next) handle.tracker begins.0
    (subst (λ number. HasTracker number handle.tracker last) (ap end (sym unstored)) keeps) n keeps_log opens answered
