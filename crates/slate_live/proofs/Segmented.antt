-- The keys of a world stay in segments, and no poll of a reader finds one without.
use Rattle.std.proofs.Common.{◌≡◌, ◌⊎◌, ◌++◌, ◌∷◌, ◌∙◌, ◌-◌, ◌≤◌, ◌&&◌, [], inl, inr, ℕ, ℤ, Bool, true, false, cond, drop, ltb, not, length, take, List, set, Option, Some, None, Result, Ok, Err, refl, sym, subst, ap, arith, nat_le}
use Rattle.std.specs.List.{filter, slice_get}
use Rattle.std.specs.Option.{option_or}
use Rattle.std.proofs.lemmas.Bool.{cases_lt, ltb-true}
use Rattle.std.proofs.lemmas.List.{append-nil, length-take, take-append-drop}
use Rattle.std.proofs.lemmas.List.Elements.{filter-append}
use Rattle.slate_types.specs.declared.batches.Batch.{Batch}
use Rattle.slate_types.specs.declared.batches.KeyOp.{KeyOp}
use Rattle.slate_types.specs.Line.{AreNumberedFrom, IsLine, Line, batches_above, extended}
use Rattle.slate_types.specs.Operator.{Merge}
use Rattle.slate_types.proofs.Lines.{above-none}
use Rattle.slate_store.specs.Checkpoints.{Plan, to_delete, to_refresh, with_checkpoints}
use Rattle.slate_store.specs.Objects.{latest_manifest}
use Rattle.slate_store.specs.Sweeps.{has_expired}
use Rattle.slate_store.specs.declared.objects.Manifest.{Manifest}
use Rattle.slate_store.specs.declared.objects.VersionedManifest.{VersionedManifest}
use Rattle.slate_store.specs.declared.reader_modes.DbReaderMode.{DbReaderMode}
use Rattle.slate_store.specs.declared.reader_modes.DbReaderMode.TheVariants as modes
use Rattle.slate_errors.specs.declared.errors.SlateError.{SlateError}
use Rattle.slate_errors.specs.declared.errors.SlateError.TheVariants as errors
use Rattle.slate_model.specs.Catalogue.{Catalogue, Span}
use Rattle.slate_model.specs.Flush.{grown, grows}
use Rattle.slate_model.specs.Follow.{IsOwed, LacksSegment, Rebuilds, ReplayRefuses, SeesOwed, unseen}
use Rattle.slate_model.specs.Follower.{Follower, is_pinned}
use Rattle.slate_model.specs.Handle.{Handle, accepted, known_segments, unstored, up_to}
use Rattle.slate_model.specs.Knowledge.{Knowledge}
use Rattle.slate_model.specs.Known.{Known}
use Rattle.slate_model.specs.Lease.{lease_refusal, to_keep}
use Rattle.slate_model.specs.Managed.{OpensManaged}
use Rattle.slate_model.specs.Object.{Object, Handle as AHandle, Snapshot as ASnapshot, Follower as AFollower}
use Rattle.slate_model.specs.Open.{OpensHandle, found_log, next_manifest, number_of, opened_manifest, replayed}
use Rattle.slate_model.specs.Segments.{Extractor, empty_refusal, extractor_name, nesting_refusal, ops_of, ops_refusal, prefixes_of, segment_refusal, unsegmented_refusal}
use Rattle.slate_model.specs.Stores.{by_catalogue}
use Rattle.slate_model.specs.Unflushed.{limit_refusal, unflushed}
use Rattle.slate_model.specs.Write.{Writes, accepted_moment, batch_refusal, clock_refusal, closed_refusal, next_batch, number_refusal, write_refusal}
use Rattle.slate_model.specs.declared.answers.PollAnswer.{PollAnswer}
use Rattle.slate_model.specs.declared.answers.Written.{Written}
use Rattle.slate_model.specs.declared.snapshots.HandleSnapshot.{HandleSnapshot}
use Rattle.slate_model.proofs.Free.{numbered-front}
use Rattle.slate_model.proofs.Keeping.{above-twice}
use Rattle.slate_model.proofs.Maintained.{Recheckpoints, delete-recheckpoints, refresh-recheckpoints}
use Rattle.slate_model.proofs.Owing.{latest-view}
use Rattle.slate_model.proofs.Planned.{keep-recheckpoints}
use Rattle.slate_model.proofs.Reduced.{some-same}
use Rattle.slate_segments.proofs.Taking.{ops-append, unsegmented-append}
use Rattle.slate_script.specs.declared.commands.Command.{Command}
use Rattle.slate_script.specs.declared.replies.Reply.{Reply}
use Rattle.slate_live.specs.declared.states.Write.{Write}
use Rattle.slate_live.specs.Calls.{Call, Write as WriteCall, Merge as MergeCall, Flush, Refresh, Compact, Get, Scan, Seek, Close, Poll, Status, FindTime, FindNumber, Nothing, call_of, at_snapshot, named, target_of}
use Rattle.slate_live.specs.declared.targets.Target.{Target}
use Rattle.slate_live.specs.declared.targets.Target.TheVariants.{NewHandle, NewSnapshot, NewFollower, NewCheckpoint, WholeStore, OfWrite, OfObject}
use Rattle.slate_live.specs.Commands.{ActsAt, ActsOn, DoesBy, OpensSnapshot, ReadsSnapshot, added, interval_of, lag_of, lifetime_of}
use Rattle.slate_live.specs.Handles.{HandleActs, MergesTo}
use Rattle.slate_live.specs.Represents.{AreInSegments, HaveSegments, IsHandleAt, IsReached, follows_all, replays_all}
use Rattle.slate_live.specs.Rising.{Rises}
use Rattle.slate_live.specs.Settings.{Settings, option_tasks}
use Rattle.slate_live.specs.State.{State}
use Rattle.slate_live.specs.World.{NextWhole, World, grown_by, state_of}
use Rattle.slate_live.proofs.Carrying.{Spares}
use Rattle.slate_live.proofs.Cases.{by-option, close-by, compact-by, flush-by, refresh-by, some-of}
use Rattle.slate_live.proofs.Following.{owed-all}
use Rattle.slate_live.proofs.Leases.{latest-after}
use Rattle.slate_live.proofs.Naming.{follower-did, handle-acted}
use Rattle.slate_live.proofs.Places.{get-push, get-seam, get-set}
use Rattle.slate_live.proofs.Rising.{follower-rises, handle-rises}

or-none : {A : Type 0} (a b : Option A) → option_or a b ≡ None → (a ≡ None) × (b ≡ None)
or-none None b is = (refl, is)
or-none (Some x) b is = absurd (cc)

-- ---- batches whose keys have segments
pub have-none : (x : Option Extractor) → HaveSegments x []
have-none None = refl
have-none (Some x) = refl

have-both : (x : Option Extractor) (a b : List Batch) → HaveSegments x a → HaveSegments x b → HaveSegments x (a ++ b)
have-both None a b first second = refl
have-both (Some x) a b first second =
    ap (unsegmented_refusal (Some x)) (ops-append a b)
    ∙ (unsegmented-append x (ops_of a) (ops_of b) ∙ (ap (λ r. option_or r (unsegmented_refusal (Some x) (ops_of b))) first ∙ second))

pub have-each : (x : Option Extractor) (a b : List Batch) → HaveSegments x (a ++ b) → HaveSegments x a × HaveSegments x b
have-each None a b have = (refl, refl)
have-each (Some x) a b have =
    or-none (unsegmented_refusal (Some x) (ops_of a)) (unsegmented_refusal (Some x) (ops_of b))
    (sym (unsegmented-append x (ops_of a) (ops_of b)) ∙ (sym (ap (unsegmented_refusal (Some x)) (ops-append a b)) ∙ have))

-- some of them
pub have-filter : (x : Option Extractor) (keep : Batch → Bool) (bs : List Batch) → HaveSegments x bs → HaveSegments x (filter keep bs)
have-filter x keep [] have = have
have-filter x keep (b ∷ bs) have =
    let parts = have-each x (b ∷ []) bs have in
    by (keep b) parts.0 (have-filter x keep bs parts.1) where
      by : (c : Bool) → HaveSegments x (b ∷ []) → HaveSegments x (filter keep bs) → HaveSegments x (cond c (b ∷ filter keep bs) (filter keep bs))
      by true first rest = have-both x (b ∷ []) (filter keep bs) first rest
      by false first rest = rest

-- the first of them
pub have-take : (x : Option Extractor) (n : ℕ) (bs : List Batch) → HaveSegments x bs → HaveSegments x (take n bs)
have-take x n bs have = (have-each x (take n bs) (drop n bs) (subst (HaveSegments x) (sym (take-append-drop n bs)) have)).0

-- those above a later number
pub have-later : (x : Option Extractor) (n m : ℕ) (bs : List Batch) → n ≤ m → HaveSegments x (batches_above n bs) → HaveSegments x (batches_above m bs)
have-later x n m bs up have = subst (HaveSegments x) (above-twice n m bs up) (have-filter x (λ (b : Batch). ltb m b.number) (batches_above n bs) have)

pub above-append : (n : ℕ) (xs ys : List Batch) → batches_above n (xs ++ ys) ≡ batches_above n xs ++ batches_above n ys
above-append n xs ys = filter-append (λ (b : Batch). ltb n b.number) xs ys

-- and those of a line with more
have-more : (x : Option Extractor) (n m : ℕ) (xs ys : List Batch) → n ≤ m → HaveSegments x (batches_above n xs) → HaveSegments x ys → HaveSegments x (batches_above m (xs ++ ys))
have-more x n m xs ys up first second =
    subst (HaveSegments x) (sym (above-append m xs ys)) (have-both x (batches_above m xs) (batches_above m ys) (have-later x n m xs up first) (have-filter x (λ (b : Batch). ltb m b.number) ys second))

-- ---- an accepted write
ops-segmented : (x : Extractor) (known : List (List ℕ)) (ops : List KeyOp) → ops_refusal x known ops ≡ None → unsegmented_refusal (Some x) ops ≡ None
ops-segmented x known [] none = refl
ops-segmented x known (op ∷ ops) none =
    let parts = or-none _ (ops_refusal x (known ++ prefixes_of x (op ∷ [])) ops) none in
    let first = (or-none (empty_refusal op.key (x.prefix_of op.key)) (nesting_refusal known (x.prefix_of op.key)) parts.0).0 in
    ap (λ r. option_or r (unsegmented_refusal (Some x) ops)) first ∙ ops-segmented x (known ++ prefixes_of x (op ∷ [])) ops parts.1

batch-segmented : (x : Option Extractor) (known : List (List ℕ)) (batch : Batch) → segment_refusal x known batch.ops ≡ None → HaveSegments x (batch ∷ [])
batch-segmented None known batch none = refl
batch-segmented (Some x) known batch none = ap (unsegmented_refusal (Some x)) (append-nil batch.ops) ∙ ops-segmented x known batch.ops none

-- ---- what a handle's line grows by
pub record GrowsBy (x : Option Extractor) (h h' : Handle) : Type 0 where
  pub more : List Batch
  pub have : HaveSegments x more
  pub line : h'.line ≡ extended h.line more

same-line : (x : Option Extractor) (h h' : Handle) → h'.line ≡ h.line → GrowsBy x h h'
same-line x h h' same = record { more = []; have = have-none x; line = same ∙ ap (λ bs. record { floor = h.line.floor; batches = bs }) (sym (append-nil h.line.batches)) }

same-handle : (x : Option Extractor) (h h' : Handle) → h' ≡ h → GrowsBy x h h'
same-handle x h h' same = same-line x h h' (ap (λ (k : Handle). k.line) same)

-- a write that isn't refused is not for a segment
unrefused-segments : (x : Option Extractor) (h : Handle) (ops : List KeyOp) (moment : ℤ) (second : Option ℤ) → write_refusal x h ops moment second ≡ None → segment_refusal x (known_segments h) ops ≡ None
unrefused-segments x h ops moment second none = by (closed_refusal h.result) (batch_refusal ops) (limit_refusal (unflushed h) h.limit) (segment_refusal x (known_segments h) ops) (option_or (number_refusal (accepted h)) (clock_refusal h.tick moment second (accepted_moment h.tick moment second))) none where
  by : (a b c d e : Option SlateError) → option_or a (option_or b (option_or c (option_or d e))) ≡ None → d ≡ None
  by a b c d e none = (or-none d e (or-none c (option_or d e) (or-none b (option_or c (option_or d e)) (or-none a (option_or b (option_or c (option_or d e))) none).1).1).1).0

write-grows : (x : Option Extractor) (h h' : Handle) (ops : List KeyOp) (moment : ℤ) (second : Option ℤ) (r : Result Written SlateError) → Writes x h ops moment second r h' → GrowsBy x h h'
write-grows x h h' ops moment second (Err e) s = same-handle x h h' s.refused.1
write-grows x h h' ops moment second (Ok w) s =
    record {
      more = next_batch h ops w.create_ts ∷ [];
      have = batch-segmented x (known_segments h) (next_batch h ops w.create_ts) (unrefused-segments x h ops moment second s.accepted.0);
      line = ap (λ (k : Handle). k.line) s.accepted.3;
    }

merge-grows : (merge : Option Merge) (x : Option Extractor) (n : ℕ) (op : KeyOp) (moment : ℤ) (second : Option ℤ) (h : Handle) (writes : List Write) (reply : Reply) (h' : Handle) (writes' : List Write) → MergesTo merge x n op moment second h writes reply h' writes' → GrowsBy x h h'
merge-grows None x n op moment second h writes reply h' writes' a = same-handle x h h' a.1
merge-grows (Some merge) x n op moment second h writes reply h' writes' a = write-grows x h h' _ moment second a.result a.does

handle-grows : (stored : Line) (catalogue : Catalogue) (settings : Settings) (n : ℕ) (moment : ℤ) (second : Option ℤ) (call : Call) (made : ℕ) (h : Handle) (before : Known Span) (writes : List Write) (reply : Reply) (h' : Handle) (after : Known Span) (writes' : List Write) → HandleActs (by_catalogue stored catalogue) settings n moment second call made h before writes reply h' after writes' → GrowsBy settings.extractor h h'
handle-grows stored catalogue settings n moment second (WriteCall ops) made h before writes reply h' after writes' a = write-grows settings.extractor h h' _ moment second (a.0).result (a.0).does
handle-grows stored catalogue settings n moment second (MergeCall op) made h before writes reply h' after writes' a = merge-grows settings.merge settings.extractor n op moment second h writes reply h' writes' a.0
handle-grows stored catalogue settings n moment second (Flush t) made h before writes reply h' after writes' a =
    flush-by (by_catalogue stored catalogue) made h before h' after (GrowsBy settings.extractor h h') _ (a.0).result (a.0).does
    (λ q is error same store. same-handle settings.extractor h h' same)
    (λ live without error same store. same-handle settings.extractor h h' same)
    (λ can is stores. same-line settings.extractor h h' (ap (λ (k : Handle). k.line) is.same))
handle-grows stored catalogue settings n moment second (Close t) made h before writes reply h' after writes' a =
    close-by (by_catalogue stored catalogue) made h before h' after (GrowsBy settings.extractor h h') _ (a.0).ended (a.0).does
    (λ q is error same store. same-line settings.extractor h h' (ap (λ (k : Handle). k.line) same))
    (λ live none error is store. same-line settings.extractor h h' (ap (λ (k : Handle). k.line) is))
    (λ t live some without error is store. same-line settings.extractor h h' (ap (λ (k : Handle). k.line) is))
    (λ t can some tasks is stores. same-line settings.extractor h h' (ap (λ (k : Handle). k.line) is.same))
handle-grows stored catalogue settings n moment second Refresh made h before writes reply h' after writes' a =
    refresh-by (by_catalogue stored catalogue) 0 h before h' after (GrowsBy settings.extractor h h') (a.0).result (a.0).does
    (λ q is error same store. same-handle settings.extractor h h' same)
    (λ live reads. same-line settings.extractor h h' (ap (λ (k : Handle). k.line) reads.same))
handle-grows stored catalogue settings n moment second Compact made h before writes reply h' after writes' a =
    compact-by (by_catalogue stored catalogue) made h before h' after (GrowsBy settings.extractor h h') (a.0).result (a.0).does
    (λ q is error same store. same-handle settings.extractor h h' same)
    (λ live joins. same-line settings.extractor h h' (ap (λ (k : Handle). k.line) joins.same))
handle-grows stored catalogue settings n moment second (Get key remote snapshot) made h before writes reply h' after writes' a = same-handle settings.extractor h h' a.1
handle-grows stored catalogue settings n moment second (Scan range order remote snapshot) made h before writes reply h' after writes' a = same-handle settings.extractor h h' a.1
handle-grows stored catalogue settings n moment second (Seek range take key order remote snapshot) made h before writes reply h' after writes' a = same-handle settings.extractor h h' a.1
handle-grows stored catalogue settings n moment second Poll made h before writes reply h' after writes' a = same-handle settings.extractor h h' a.1
handle-grows stored catalogue settings n moment second Status made h before writes reply h' after writes' a = same-handle settings.extractor h h' a.1
handle-grows stored catalogue settings n moment second (FindTime number find) made h before writes reply h' after writes' a = same-handle settings.extractor h h' a.1
handle-grows stored catalogue settings n moment second (FindNumber seconds find) made h before writes reply h' after writes' a = same-handle settings.extractor h h' a.1
handle-grows stored catalogue settings n moment second Nothing made h before writes reply h' after writes' a = same-handle settings.extractor h h' a.1

-- what isn't stored of it has segments then
grown-unstored : (x : Option Extractor) (h h' : Handle) → GrowsBy x h h' → h.durable ≤ h'.durable → HaveSegments x (unstored h) → HaveSegments x (unstored h')
grown-unstored x h h' g up have = subst (λ (l : Line). HaveSegments x (batches_above h'.durable l.batches)) (sym g.line) (have-more x h.durable h'.durable h.line.batches g.more up have g.have)

-- ---- the last number in tables
abbrev From : ℕ → Manifest → Type 0
From n manifest = n ≤ manifest.last_l0_seq

-- a plan for a checkpoint leaves it
planned-from : {A : Type 0} (latest next : VersionedManifest) (answer : A) (p : Plan A) → p ≡ Ok (Some next, answer) → Recheckpoints latest p → From latest.manifest.last_l0_seq next.manifest
planned-from {A} latest next answer p gives puts =
    let its : Recheckpoints {A = A} latest (Ok (Some next, answer)) = subst (λ q. Recheckpoints latest q) gives puts in
    subst (λ (v : VersionedManifest). From latest.manifest.last_l0_seq v.manifest) (sym its.1) (omega arith)

-- and no command lets it fall
from-spared : (w : World) (latest : VersionedManifest) (command : Command) → Spares (From latest.manifest.last_l0_seq) w latest command
from-spared w latest command = record {
  kept = omega arith;
  flushed = λ handle last some. let up = ltb-true latest.manifest.last_l0_seq (accepted handle) some in omega (arith, up);
  compacted = λ table. omega arith;
  opened = λ name last. omega arith;
  swept = λ sweeps. by (has_expired command.moment latest) _;
  added = λ checkpoint. omega arith;
  polled = λ n f lease given next names asks at has gives. planned-from latest next given (to_keep f.view lease command.moment latest) gives (keep-recheckpoints f.view lease command.moment latest);
  renewed = λ n f lease given next again checkpoint names asks at has written holds gives.
      let on = planned-from next again checkpoint (to_refresh given.id given.lifetime command.moment next) gives (refresh-recheckpoints given.id given.lifetime command.moment next) in
      omega (arith, holds, on);
  closed = λ n f lease next flush_type names asks at live has gives. planned-from latest next tt (to_delete lease.id latest) gives (delete-recheckpoints lease.id latest);
} where
  by : (b : Bool) (checkpoints : List _) → From latest.manifest.last_l0_seq (cond b (with_checkpoints checkpoints latest) latest).manifest
  by true checkpoints = omega arith
  by false checkpoints = omega arith

-- the manifest that an opening commits has that of the latest one
opened-number : (name : Option (List ℕ)) (found : Option VersionedManifest) (last : ℕ) → (next_manifest name found last).manifest.last_l0_seq ≡ number_of found
opened-number name None last = refl
opened-number name (Some latest) last = refl

-- ---- what is stored
-- it is what it was, or has what wasn't stored of a handle, too
grown-is : (call : Call) (made : ℕ) (stored : Line) (object : Option Object) → (grown_by call made stored object ≡ stored) ⊎ ((h : Handle) × (object ≡ Some (AHandle h)) × (grown_by call made stored object ≡ extended stored (unstored h)))
grown-is call made stored object = by call object where
  flushed : (h : Handle) (b : Bool) → (cond b (extended stored (unstored h)) stored ≡ stored) ⊎ (cond b (extended stored (unstored h)) stored ≡ extended stored (unstored h))
  flushed h true = inr refl
  flushed h false = inl refl

  handle : (h : Handle) → (grown made stored h ≡ stored) ⊎ ((k : Handle) × (◌≡◌ {A = Option Object} (Some (AHandle h)) (Some (AHandle k))) × (grown made stored h ≡ extended stored (unstored k)))
  handle h = elim (flushed h (nat_le (grows h) made)) [
    | inl same ↦ inl same
    | inr more ↦ inr (h, refl, more)
  ]

  by : (call : Call) (object : Option Object) → (grown_by call made stored object ≡ stored) ⊎ ((h : Handle) × (object ≡ Some (AHandle h)) × (grown_by call made stored object ≡ extended stored (unstored h)))
  by (Flush t) (Some (AHandle h)) = handle h
  by (Close t) (Some (AHandle h)) = handle h
  by call object = inl refl

named-at : (objects : List Object) (target : Target) (h : Handle) → named objects target ≡ Some (AHandle h) → (n : ℕ) × IsHandleAt objects n h
named-at objects (OfObject n) h is = (n, is)
named-at objects (NewHandle keeps) h is = absurd (cc)
named-at objects (NewSnapshot n) h is = absurd (cc)
named-at objects (NewFollower mode managed skips lag) h is = absurd (cc)
named-at objects (NewCheckpoint lifetime) h is = absurd (cc)
named-at objects WholeStore h is = absurd (cc)
named-at objects (OfWrite n) h is = absurd (cc)

-- an object that rose and replays all replayed all
pub risen-replays : (x y : Object) → Rises x y → replays_all y ≡ true → replays_all x ≡ true
risen-replays (AHandle h) (AHandle k) r all = refl
risen-replays (ASnapshot a) (ASnapshot b) r all = absurd (cc)
risen-replays (AFollower f) (AFollower g) r all = ap (λ m. follows_all m f.skips) (sym r.mode) ∙ (ap (λ s. follows_all g.mode s) (sym r.skips) ∙ all)
risen-replays (AHandle h) (ASnapshot b) r all = absurd r
risen-replays (AHandle h) (AFollower g) r all = absurd r
risen-replays (ASnapshot a) (AHandle k) r all = absurd r
risen-replays (ASnapshot a) (AFollower g) r all = absurd r
risen-replays (AFollower f) (AHandle k) r all = absurd r
risen-replays (AFollower f) (ASnapshot b) r all = absurd r

pub free-of : (mode : DbReaderMode) (skips : Bool) → follows_all mode skips ≡ true → is_pinned mode ≡ false
free-of (modes.Checkpoint id) skips all = absurd (cc)
free-of modes.FollowLatest skips all = refl
free-of modes.ManagedCheckpoint skips all = refl

-- ---- a command
module _ (settings : Settings) (w w' : World) (command : Command) (reply : Reply) (reached : IsReached w) (reached' : IsReached w') (next : NextWhole settings w command reply w') (segments : AreInSegments settings.extractor w) where
  abbrev x : Option Extractor
  x = settings.extractor

  abbrev k : Knowledge Span
  k = by_catalogue w.stored w.catalogue

  abbrev made : ℕ
  made = next.made

  abbrev s' : State Span
  s' = state_of w'

  -- what is stored then above the latest manifest's tables has segments
  abbrev Checked : Type 0
  Checked = (latest : VersionedManifest) → latest_manifest w'.catalogue ≡ Some latest → HaveSegments x (replayed latest w'.stored)

  -- what has segments of what is stored has them with what the command stores
  pub still-have : (n m : ℕ) → n ≤ m → HaveSegments x (batches_above n w.stored.batches) → HaveSegments x (batches_above m w'.stored.batches)
  still-have n m up have =
      elim (grown-is (call_of command.action) made w.stored (named w.objects (target_of command.action))) [
        | inl same ↦ subst (λ (l : Line). HaveSegments x (batches_above m l.batches)) (sym (next.stored ∙ same)) (have-later x n m w.stored.batches up have)
        | inr more ↦
            let h = more.0 in
            let at = named-at w.objects (target_of command.action) h more.1 in
            subst (λ (l : Line). HaveSegments x (batches_above m l.batches)) (sym (next.stored ∙ more.2)) (have-more x n m w.stored.batches (unstored h) up have (segments.unstored at.0 h at.1))
      ]

  checked-from : (n : ℕ) → HaveSegments x (batches_above n w.stored.batches) → ((latest : VersionedManifest) → latest_manifest w'.catalogue ≡ Some latest → n ≤ latest.manifest.last_l0_seq) → Checked
  checked-from n have up latest is = still-have n latest.manifest.last_l0_seq (up latest is) have

  latest-from : (latest : VersionedManifest) → latest_manifest w.catalogue ≡ Some latest → (latest' : VersionedManifest) → latest_manifest w'.catalogue ≡ Some latest' → latest.manifest.last_l0_seq ≤ latest'.manifest.last_l0_seq
  latest-from latest is latest' is' =
      let c = latest-after settings w w' command reply reached reached' next (From latest.manifest.last_l0_seq) latest is (from-spared w latest command) in
      let same = some-same c.latest latest' (sym c.is ∙ is') in
      subst (λ (v : VersionedManifest). latest.manifest.last_l0_seq ≤ v.manifest.last_l0_seq) same c.holds

  checked-by : (latest : VersionedManifest) → latest_manifest w.catalogue ≡ Some latest → HaveSegments x (replayed latest w.stored) → Checked
  checked-by latest is have = checked-from latest.manifest.last_l0_seq have (latest-from latest is)

  -- an object that was there and replayed all
  still : (n : ℕ) (object : Object) → slice_get w.objects n ≡ Some object → replays_all object ≡ true → Checked
  still n object at all =
      let past = (reached.0).past n object at in
      checked-by past.0 past.1 (segments.stored n object past.0 at all past.1)

  -- what is to be shown of each object
  pub record Fine (object : Object) : Type 0 where
    pub unstored_is : (h : Handle) → object ≡ AHandle h → HaveSegments x (unstored h)
    pub stored_is : replays_all object ≡ true → Checked

  abbrev AllFine : Type 0
  AllFine = (n : ℕ) (object : Object) → slice_get w'.objects n ≡ Some object → Fine object

  fine-old : (n : ℕ) (object : Object) → slice_get w.objects n ≡ Some object → Fine object
  fine-old n object at = record { unstored_is = λ h is. segments.unstored n h (at ∙ ap Some is); stored_is = still n object at }

  fine-snapshot : (y : HandleSnapshot) → Fine (ASnapshot y)
  fine-snapshot y = record { unstored_is = λ h is. absurd (cc); stored_is = λ all. absurd (cc) }

  fine-same : w'.objects ≡ w.objects → AllFine
  fine-same same n object at = fine-old n object (sym (ap (λ os. slice_get os n) same) ∙ at)

  fine-state : s' ≡ state_of w → AllFine
  fine-state same = fine-same (ap (λ (s : State Span). s.objects) same)

  fine-set : (m : ℕ) (old new : Object) → slice_get w.objects m ≡ Some old → w'.objects ≡ set w.objects m new → Fine new → AllFine
  fine-set m old new there is mine n object at =
      elim (get-set w.objects m n new object old there (sym (ap (λ os. slice_get os n) is) ∙ at)) [
        | inl here ↦ subst Fine here.1 mine
        | inr other ↦ fine-old n object other.1
      ]

  fine-added : {A : Type 0} (object : A → Object) (r : Result A SlateError) → w'.objects ≡ w.objects ++ added object r → ((b : A) → r ≡ Ok b → Fine (object b)) → AllFine
  fine-added object (Ok b) is mine n y at =
      elim (get-push w.objects (object b) y n (sym (ap (λ os. slice_get os n) is) ∙ at)) [
        | inl old ↦ fine-old n y old
        | inr new ↦ subst Fine new.1 (mine b refl)
      ]
  fine-added object (Err e) is mine n y at = fine-old n y (sym (ap (λ os. slice_get os n) (is ∙ append-nil w.objects)) ∙ at)

  -- ---- what is asked of an object
  handle-fine : (n : ℕ) (call : Call) (h : Handle) → slice_get w.objects n ≡ Some (AHandle h) → ActsAt k settings n command call made (AHandle h) (state_of w) reply s' → AllFine
  handle-fine n call h at a =
      let d = handle-acted k settings n command call made (state_of w) reply s' h a in
      let up = handle-rises w.stored w.catalogue settings n command.moment command.second call made h _ w.writes reply d.new _ _ ((reached.0).handles n h at).durable d.acts in
      let g = handle-grows w.stored w.catalogue settings n command.moment command.second call made h _ w.writes reply d.new _ _ d.acts in
      let have = grown-unstored x h d.new g up.durable (segments.unstored n h at) in
      fine-set n (AHandle h) (AHandle d.new) at d.objects (record {
        unstored_is = λ h' is. let same : d.new ≡ h' = cc in subst (λ (y : Handle). HaveSegments x (unstored y)) same have;
        stored_is = λ all. still n (AHandle h) at refl;
      })

  snapshot-fine : (y : HandleSnapshot) (call : Call) (found : Option Object) → slice_get w.objects y.handle ≡ found → ReadsSnapshot k settings y command call made found (state_of w) reply s' → AllFine
  snapshot-fine y call (Some (AHandle h)) at a = handle-fine y.handle (at_snapshot y.number call) h at a
  snapshot-fine y call (Some (ASnapshot z)) at a = fine-state a.2
  snapshot-fine y call (Some (AFollower f)) at a = fine-state a.2
  snapshot-fine y call None at a = fine-state a.2

  on-fine : (n : ℕ) (call : Call) (found : Option Object) → slice_get w.objects n ≡ found → ActsOn k settings n command call made found (state_of w) reply s' → AllFine
  on-fine n call None at a = fine-state a.2
  on-fine n call (Some (AHandle h)) at a = handle-fine n call h at a
  on-fine n call (Some (ASnapshot y)) at a = snapshot-fine y call (slice_get w.objects y.handle) refl a
  on-fine n call (Some (AFollower f)) at a =
      let d = follower-did k settings n command call made (state_of w) reply s' (Some (AFollower f)) f refl a in
      let up = follower-rises w.stored w.catalogue settings command.moment call made f _ w.writes reply d.new _ _ refl ((reached.0).followers n f at) d.acts in
      fine-set n (AFollower f) (AFollower d.new) at d.objects (record {
        unstored_is = λ h is. absurd (cc);
        stored_is = λ all. still n (AFollower f) at (risen-replays (AFollower f) (AFollower d.new) up all);
      })

  opened-fine : (n : ℕ) (found : Option Object) → OpensSnapshot n made found (state_of w) reply s' → AllFine
  opened-fine n (Some (AHandle h)) d = fine-added _ (d.0).result (d.0).objects (λ b is. fine-snapshot _)
  opened-fine n (Some (ASnapshot y)) d = fine-state d.2
  opened-fine n (Some (AFollower f)) d = fine-state d.2
  opened-fine n None d = fine-state d.2

  -- ---- a reader that replayed all
  refused-none : (mode : DbReaderMode) (skips opening : Bool) → follows_all mode skips ≡ true → ReplayRefuses k x mode skips opening w.catalogue w.stored None → Checked
  refused-none mode skips opening all r =
      let view = r.0 in
      let owed = owed-all w.catalogue w.catalogue mode skips view w.stored r.1 all r.3 in
      checked-by view (latest-view mode opening w.catalogue view (free-of mode skips all) r.2) (subst (λ (l : Line). HaveSegments x (replayed view l)) owed r.4)

  fine-follower : (mode : DbReaderMode) (skips : Bool) (f : Follower) → f.mode ≡ mode → f.skips ≡ skips → ReplayRefuses k x mode skips true w.catalogue w.stored None → Fine (AFollower f)
  fine-follower mode skips f same_mode same_skips r = record {
    unstored_is = λ h is. absurd (cc);
    stored_is = λ all. refused-none mode skips true (ap (λ m. follows_all m skips) (sym same_mode) ∙ (ap (λ s. follows_all f.mode s) (sym same_skips) ∙ all)) r;
  }

  followed-fine : (mode : DbReaderMode) (skips : Bool) (lag : ℕ) (r : Result (Follower × PollAnswer) SlateError) → Rebuilds k x mode skips true lag (SeesOwed k mode skips lag) unseen (state_of w).store r s'.store → (b : Follower × PollAnswer) → r ≡ Ok b → Fine (AFollower b.0)
  followed-fine mode skips lag (Ok c) d b is =
      let same : c ≡ b = cc in
      subst (λ (b : Follower × PollAnswer). Fine (AFollower b.0)) same (fine-follower mode skips c.0 (d.answer).0 (d.answer).1 (d.segmented w.catalogue w.stored refl refl tt))
  followed-fine mode skips lag (Err e) d b is = absurd (cc)

  took-fine : (lifetime interval : ℕ) (skips : Bool) (lag : ℕ) (r : Result (Follower × PollAnswer) SlateError) → OpensManaged k x made lifetime interval skips lag command.moment (state_of w).store r s'.store → (b : Follower × PollAnswer) → r ≡ Ok b → Fine (AFollower b.0)
  took-fine lifetime interval skips lag (Ok c) d b is =
      let same : c ≡ b = cc in
      by-option (lease_refusal lifetime interval)
      (λ none.
      let t = d.takes none in
      subst (λ (b : Follower × PollAnswer). Fine (AFollower b.0)) same (fine-follower modes.ManagedCheckpoint skips c.0 (t.answers).0 (t.answers).1 (t.segmented w.catalogue w.stored refl refl)))
      (λ e refused. let no = (some-of _ (lease_refusal lifetime interval) e refused d.refused).0 in absurd (cc))
  took-fine lifetime interval skips lag (Err e) d b is = absurd (cc)

  -- a handle that was opened
  handle-opened : (keeps_log : Bool) (r : Result Handle SlateError) → OpensHandle k x made keeps_log settings.options.max_unflushed_bytes (option_tasks settings.options) (state_of w).store r s'.store → w'.objects ≡ w.objects ++ added AHandle r → (b : Handle) → r ≡ Ok b → Fine (AHandle b)
  handle-opened keeps_log (Err e) o objects b is = absurd (cc)
  handle-opened keeps_log (Ok c) o objects b is =
      let same : c ≡ b = cc in
      let there : slice_get w'.objects (length w.objects) ≡ Some (AHandle c) = ap (λ os. slice_get os (length w.objects)) objects ∙ get-seam w.objects (AHandle c) in
      let durable = (o.fresh).durable in
      let none = above-none c.line.floor c.durable c.line.batches ((reached'.0).handles (length w.objects) c there).numbered (omega (arith, durable)) in
      let number = opened-number (extractor_name x) (latest_manifest w.catalogue) (found_log w.catalogue) in
      subst (λ (b : Handle). Fine (AHandle b)) same (record {
        unstored_is = λ h here. let mine : c ≡ h = cc in subst (λ (y : Handle). HaveSegments x (unstored y)) mine (subst (HaveSegments x) (sym none) (have-none x));
        stored_is = λ all.
            checked-from (opened_manifest (extractor_name x) w.catalogue).manifest.last_l0_seq (o.segmented w.catalogue w.stored refl refl)
            (λ latest' is'.
            by-option (latest_manifest w.catalogue)
            (λ without. let zero_is = ap number_of without in omega (arith, number, zero_is))
            (λ latest with_it. let up = latest-from latest with_it latest' is' in let number_is = ap number_of with_it in omega (arith, number, number_is, up)));
      })

  fine-target : (target : Target) → DoesBy k settings command target made (state_of w) reply s' → AllFine
  fine-target (NewHandle keeps_log) d = fine-added AHandle d.result d.objects (λ b is. handle-opened keeps_log d.result d.does d.objects b is)
  fine-target (NewSnapshot n) d = opened-fine n (slice_get w.objects n) d
  fine-target (NewFollower modes.FollowLatest managed skips lag) d = fine-added _ (d.0).result (d.0).objects (followed-fine modes.FollowLatest skips (lag_of lag) (d.0).result (d.0).does)
  fine-target (NewFollower (modes.Checkpoint id) managed skips lag) d = fine-added _ (d.0).result (d.0).objects (followed-fine (modes.Checkpoint id) skips (lag_of lag) (d.0).result (d.0).does)
  fine-target (NewFollower modes.ManagedCheckpoint managed skips lag) d = fine-added _ d.result d.objects (took-fine (lifetime_of managed) (interval_of managed) skips (lag_of lag) d.result d.does)
  fine-target (NewCheckpoint lifetime) d = fine-same d.objects
  fine-target WholeStore d = fine-same d.objects
  fine-target (OfWrite n) d = fine-state d.2
  fine-target (OfObject n) d = on-fine n (call_of command.action) (slice_get w.objects n) refl d

  -- the keys of the world after it are in segments
  pub segmented-next : AreInSegments settings.extractor w'
  segmented-next =
      let all = fine-target (target_of command.action) next.does in
      record {
        unstored = λ n handle at. (all n (AHandle handle) at).unstored_is handle refl;
        stored = λ n object latest at replays is. (all n object at).stored_is replays latest is;
      }

-- no object, no key
pub segmented-start : (extractor : Option Extractor) (w : World) → w.objects ≡ [] → AreInSegments extractor w
segmented-start extractor w none = record {
  unstored = λ n handle at. absurd (let gone = sym (ap (λ os. slice_get os n) none) ∙ at in cc);
  stored = λ n object latest at replays is. absurd (let gone = sym (ap (λ os. slice_get os n) none) ∙ at in cc);
}

-- ---- a poll of a reader
-- what is in tables isn't replayed
pub front-none : (n : ℕ) (line : Line) → IsLine line → batches_above n (up_to n line).batches ≡ []
front-none n line numbered =
    elim (cases_lt n line.floor) [
      | inl low ↦
          let zero_is : n - line.floor ≡ 0 = omega (arith, low) in
          ap (λ k. batches_above n (take k line.batches)) zero_is
      | inr high ↦
          let few = length-take (n - line.floor) line.batches in
          above-none line.floor n (take (n - line.floor) line.batches) (numbered-take line.floor (n - line.floor) line.batches numbered) (omega (arith, high, few))
    ] where
      numbered-take : (floor k : ℕ) (bs : List Batch) → AreNumberedFrom floor bs → AreNumberedFrom floor (take k bs)
      numbered-take floor k bs numbered = numbered-front floor (take k bs) (drop k bs) (subst (AreNumberedFrom floor) (sym (take-append-drop k bs)) numbered)

-- a reader that doesn't stay at a checkpoint replays no key without a segment
module _ (extractor : Option Extractor) (w : World) (line : IsLine w.stored) (segments : AreInSegments extractor w) (n : ℕ) (f : Follower) (at : slice_get w.objects n ≡ Some (AFollower f)) (free : is_pinned f.mode ≡ false) where
  all-follows : (mode : DbReaderMode) (skips : Bool) → is_pinned mode ≡ false → skips ≡ false → follows_all mode skips ≡ true
  all-follows mode skips free reads = ap (λ p. not p && not skips) free ∙ ap (λ b. not b) reads

  refused-not : (e : SlateError) → ReplayRefuses (by_catalogue w.stored w.catalogue) extractor f.mode f.skips false w.catalogue w.stored (Some e) → ⊥
  refused-not e r = by f.skips refl where
    view : VersionedManifest
    view = r.0

    by : (skips : Bool) → f.skips ≡ skips → ⊥
    by true skips =
        let owed : r.1 ≡ up_to view.manifest.last_l0_seq w.stored = subst (λ s. IsOwed (by_catalogue w.stored w.catalogue) f.mode s w.catalogue view w.stored r.1) skips r.3 in
        let none : replayed view r.1 ≡ [] = ap (replayed view) owed ∙ front-none view.manifest.last_l0_seq w.stored line in
        let refusal : unsegmented_refusal extractor (ops_of []) ≡ Some e = sym (ap (λ bs. unsegmented_refusal extractor (ops_of bs)) none) ∙ r.4 in
        let clear : unsegmented_refusal extractor (ops_of []) ≡ None = have-none extractor in
        absurd (cc)
    by false reads =
        let all = all-follows f.mode f.skips free reads in
        let owed = owed-all w.catalogue w.catalogue f.mode f.skips view w.stored r.1 all r.3 in
        let have = segments.stored n (AFollower f) view at all (latest-view f.mode false w.catalogue view free r.2) in
        let refusal : unsegmented_refusal extractor (ops_of (replayed view w.stored)) ≡ Some e = sym (ap (λ (l : Line). unsegmented_refusal extractor (ops_of (replayed view l))) owed) ∙ r.4 in
        absurd (cc)

  pub none-lacks : LacksSegment (by_catalogue w.stored w.catalogue) extractor f.mode f.skips false w.catalogue w.stored → ⊥
  none-lacks (key, r) = refused-not (errors.EmptySegmentPrefix key) r
