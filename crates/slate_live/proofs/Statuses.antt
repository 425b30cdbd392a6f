-- Over a run, statuses name the segments of the lines above the views.
use Rattle.std.proofs.Common.{◌≡◌, ◌⊎◌, ◌++◌, ◌∷◌, ◌∙◌, ◌||◌, ◌≤◌, [], inl, inr, ℕ, ℤ, Bool, true, false, cond, ltb, length, zero, suc, List, Option, Some, None, Result, Ok, Err, refl, sym, subst, ap, arith}
use Rattle.std.specs.List.{All, slice_get}
use Rattle.std.proofs.lemmas.Bool.{le-ltb, lt-ltb, ltb-false}
use Rattle.std.proofs.lemmas.List.{append-nil, length-append}
use Rattle.std.proofs.lemmas.List.Elements.{All-head, All-tail}
use Rattle.slate_types.proofs.Lines.{above-none, above-push}
use Rattle.slate_types.specs.Line.{IsLine, Line, batches_above, end}
use Rattle.slate_types.specs.Operator.{Merge}
use Rattle.slate_types.specs.declared.batches.Batch.{Batch}
use Rattle.slate_types.specs.declared.batches.KeyOp.{KeyOp}
use Rattle.slate_types.specs.declared.options.FlushType.{FlushType}
use Rattle.slate_types.specs.declared.options.FlushType.TheVariants.{MemTable, Wal}
use Rattle.slate_store.specs.Compaction.{compacted, with_table}
use Rattle.slate_store.specs.declared.objects.TableId.{TableId}
use Rattle.slate_store.specs.declared.objects.VersionedManifest.{VersionedManifest}
use Rattle.slate_errors.specs.Errors.{closed_error}
use Rattle.slate_errors.specs.declared.endings.Ended.{Ended}
use Rattle.slate_errors.specs.declared.endings.TaskName.{TaskName}
use Rattle.slate_errors.specs.declared.errors.SlateError.{SlateError}
use Rattle.slate_status.specs.declared.statuses.DbStatus.{DbStatus}
use Rattle.slate_status.specs.Segments.{union_of}
use Rattle.slate_segments.specs.Prefixes.{HaveSame, is_one_of}
use Rattle.slate_segments.proofs.Prefixes.{members-keys, one_of-append, rising-keys, union-is}
use Rattle.slate_segments.proofs.Taking.{ops-append, prefixes-append}
use Rattle.slate_model.proofs.Reopened.{segments-none}
use Rattle.slate_model.specs.Catalogue.{Catalogue, Span}
use Rattle.slate_model.specs.Close.{closed_follower, closing_flush}
use Rattle.slate_model.specs.Flush.{FlushAnswer, IsCurrent, Stores, flush_view, next_flushed}
use Rattle.slate_model.specs.Follower.{Follower, HasSegments, is_managed}
use Rattle.slate_model.specs.Handle.{Handle, accepted, has_untabled, next_table, untabled, untabled_segments}
use Rattle.slate_model.specs.Knowledge.{Knowledge}
use Rattle.slate_model.specs.Known.{Known, Untouched}
use Rattle.slate_model.specs.Managed.{PollsTwice}
use Rattle.slate_model.specs.declared.leases.Lease.{Lease}
use Rattle.slate_model.specs.Object.{Object, Handle as AHandle, Snapshot as ASnapshot, Follower as AFollower}
use Rattle.slate_model.specs.Open.{OpensHandle, opened_handle, opened_manifest}
use Rattle.slate_model.specs.Refresh.{CompactAnswer, RefreshAnswer}
use Rattle.slate_model.specs.Segments.{Extractor, extractor_name, ops_of, prefixes_of, segments_of, segments_with}
use Rattle.slate_model.specs.Status.{follower_status, handle_status}
use Rattle.slate_model.specs.Stores.{by_catalogue}
use Rattle.slate_model.specs.Valid.{IsValidHandle}
use Rattle.slate_model.specs.Write.{Writes, next_batch, written}
use Rattle.slate_model.specs.declared.answers.PollAnswer.{PollAnswer}
use Rattle.slate_model.specs.declared.answers.Written.{Written}
use Rattle.slate_model.specs.declared.snapshots.HandleSnapshot.{HandleSnapshot}
use Rattle.slate_script.specs.declared.commands.Action.TheVariants as actions
use Rattle.slate_script.specs.declared.commands.Command.{Command}
use Rattle.slate_script.specs.declared.replies.Reply.{Reply}
use Rattle.slate_script.specs.declared.replies.Reply.TheVariants as replies
use Rattle.slate_live.specs.declared.states.Write.{Write}
use Rattle.slate_live.specs.Calls.{Begins, Kind, Steps, Whole, kind_of, Call, Write as WriteCall, Merge as MergeCall, Flush, Refresh, Compact, Get, Scan, Seek, Close, Poll, Status, FindTime, FindNumber, Nothing, call_of, target_of}
use Rattle.slate_live.specs.Next.{NextBegun, NextBy}
use Rattle.slate_live.specs.Commands.{ActsOn, DoesBy, ReadsSnapshot}
use Rattle.slate_live.specs.Followers.{ClosesAs, FollowerActs, PollsAs}
use Rattle.slate_live.specs.Handles.{HandleActs, MergesTo, flush_type_by}
use Rattle.slate_live.specs.Represents.{IsLeased, IsReached}
use Rattle.slate_live.specs.Settings.{Settings}
use Rattle.slate_live.specs.Statuses.{StatusesName, above_view}
use Rattle.slate_live.specs.Steps.{Chain, Step}
use Rattle.slate_live.specs.Valid.{Link}
use Rattle.slate_live.specs.World.{NextWhole, World, state_of}
use Rattle.slate_live.proofs.Cases.{by-bool, by-option, close-by, compact-by, flush-by, refresh-by, some-of}
use Rattle.slate_live.proofs.Everywhere.{everywhere}
use Rattle.slate_live.proofs.Naming.{follower-did, handle-acted}
use Rattle.slate_live.proofs.Places.{get-set, get-set_same}
use Rattle.slate_live.proofs.Wholes.{next-whole}

-- the segments that an object names are those of its line above its view
abbrev HasIts : Option Extractor → Object → Type 0
HasIts x (AHandle h) = untabled_segments h ≡ segments_of x (untabled h.view.manifest h)
HasIts x (ASnapshot s) = Unit {0}
HasIts x (AFollower f) = HasSegments x f

-- ---- segments
-- those of batches and of one more
with-batch : (x : Option Extractor) (a : List Batch) (b : Batch) → segments_with x (segments_of x a) b.ops ≡ segments_of x (a ++ b ∷ [])
with-batch None a b = refl
with-batch (Some x) a b =
    let pa = prefixes_of x (ops_of a) in
    let pb = prefixes_of x b.ops in
    let sa = union_of [] pa in
    let both : prefixes_of x (ops_of (a ++ b ∷ [])) ≡ pa ++ pb = ap (prefixes_of x) (ops-append a (b ∷ []) ∙ ap (λ os. ops_of a ++ os) (append-nil b.ops)) ∙ prefixes-append x (ops_of a) b.ops in
    let same : HaveSame (union_of sa pb) (pa ++ pb) = λ q. members-keys (sa ++ pb) q ∙ (one_of-append sa pb q ∙ (ap (λ t. t || is_one_of pb q) (members-keys pa q) ∙ sym (one_of-append pa pb q))) in
    union-is [] (prefixes_of x (ops_of (a ++ b ∷ []))) (union_of sa pb) (rising-keys (sa ++ pb)) (subst (HaveSame (union_of sa pb)) (sym both) same)

-- where nothing is above a number, there are none
module _ (x : Option Extractor) (n : ℕ) (line : Line) (numbered : IsLine line) where
  none-above : end line ≤ n → segments_of x (batches_above n line.batches) ≡ []
  none-above low = ap (segments_of x) (above-none line.floor n line.batches numbered low) ∙ segments-none x

  left-above : cond (ltb n (end line)) (segments_of x (batches_above n line.batches)) [] ≡ segments_of x (batches_above n line.batches)
  left-above =
      by-bool (ltb n (end line))
      (λ some. ap (λ b. cond b (segments_of x (batches_above n line.batches)) []) some)
      (λ none. ap (λ b. cond b (segments_of x (batches_above n line.batches)) []) none ∙ sym (none-above (ltb-false n (end line) none)))

-- ---- what is asked of a handle
-- the segments of a handle with this line that goes by a manifest whose tables end at this number
abbrev Its : Option Extractor → ℕ → Line → List (List ℕ) → Type 0
Its x n line segments = cond (ltb n (end line)) segments [] ≡ segments_of x (batches_above n line.batches)

-- a handle that goes by a manifest whose tables end where they did, or have all of its batches
moved-its : (x : Option Extractor) (h h' : Handle) → IsLine h.line → h'.line ≡ h.line → h'.segments ≡ h.segments → (h'.view.manifest.last_l0_seq ≡ h.view.manifest.last_l0_seq) ⊎ (accepted h ≤ h'.view.manifest.last_l0_seq) → HasIts x (AHandle h) → HasIts x (AHandle h')
moved-its x h h' numbered line segments which has = by which where
  whole : Its x h'.view.manifest.last_l0_seq h.line h.segments → HasIts x (AHandle h')
  whole its = subst (λ l. Its x h'.view.manifest.last_l0_seq l h'.segments) (sym line) (subst (Its x h'.view.manifest.last_l0_seq h.line) (sym segments) its)

  by : (h'.view.manifest.last_l0_seq ≡ h.view.manifest.last_l0_seq) ⊎ (accepted h ≤ h'.view.manifest.last_l0_seq) → HasIts x (AHandle h')
  by (inl same) = whole (subst (λ n. Its x n h.line h.segments) (sym same) has)
  by (inr all) =
      let n = h'.view.manifest.last_l0_seq in
      whole (ap (λ b. cond b h.segments []) (le-ltb n (end h.line) all) ∙ sym (none-above x n h.line numbered all))

same-its : (x : Option Extractor) (h h' : Handle) → h' ≡ h → HasIts x (AHandle h) → HasIts x (AHandle h')
same-its x h h' same has = subst (λ (g : Handle). HasIts x (AHandle g)) (sym same) has

-- one that accepted a write
written-its : (x : Option Extractor) (h : Handle) (ops : List KeyOp) (at : ℤ) → h.view.manifest.last_l0_seq ≤ accepted h → HasIts x (AHandle h) → HasIts x (AHandle (written x h ops at))
written-its x h ops at low has =
    let n = h.view.manifest.last_l0_seq in
    let b = next_batch h ops at in
    let more = length-append h.line.batches (b ∷ []) in
    ap (λ c. cond c (segments_with x (untabled_segments h) ops) []) (lt-ltb n (accepted (written x h ops at)) (omega (arith, low, more)))
    ∙ (ap (λ ss. segments_with x ss ops) has
    ∙ (with-batch x (batches_above n h.line.batches) b ∙ ap (segments_of x) (sym (above-push n h.line.batches b (omega (arith, low))))))

write-its : (x : Option Extractor) (h h' : Handle) (ops : List KeyOp) (moment : ℤ) (second : Option ℤ) (r : Result Written SlateError) → h.view.manifest.last_l0_seq ≤ accepted h → Writes x h ops moment second r h' → HasIts x (AHandle h) → HasIts x (AHandle h')
write-its x h h' ops moment second (Ok w) low s has = same-its x (written x h ops w.create_ts) h' s.accepted.3 (written-its x h ops w.create_ts low has)
write-its x h h' ops moment second (Err e) low s has = same-its x h h' s.refused.1 has

merge-its : (merge : Option Merge) (x : Option Extractor) (n : ℕ) (op : KeyOp) (moment : ℤ) (second : Option ℤ) (h : Handle) (writes : List Write) (reply : Reply) (h' : Handle) (writes' : List Write) → h.view.manifest.last_l0_seq ≤ accepted h → MergesTo merge x n op moment second h writes reply h' writes' → HasIts x (AHandle h) → HasIts x (AHandle h')
merge-its None x n op moment second h writes reply h' writes' low a has = same-its x h h' a.1 has
merge-its (Some merge) x n op moment second h writes reply h' writes' low a has = write-its x h h' _ moment second a.result low a.does has

module _ (x : Option Extractor) (stored : Line) (catalogue : Catalogue) (h h' : Handle) (valid : IsValidHandle stored catalogue h) (has : HasIts x (AHandle h)) where
  abbrev k : Knowledge Span
  k = by_catalogue stored catalogue

  abbrev Moves : VersionedManifest → Type 0
  Moves view = (view.manifest.last_l0_seq ≡ h.view.manifest.last_l0_seq) ⊎ (accepted h ≤ view.manifest.last_l0_seq)

  low : h.view.manifest.last_l0_seq ≤ accepted h
  low = let a = valid.tabled in let b = valid.durable in omega (arith, a, b)

  as-before : h' ≡ h → HasIts x (AHandle h')
  as-before same = same-its x h h' same has

  moved : h'.line ≡ h.line → h'.segments ≡ h.segments → Moves h'.view → HasIts x (AHandle h')
  moved line segments which = moved-its x h h' valid.numbered line segments which has

  still : h'.line ≡ h.line → h'.segments ≡ h.segments → h'.view ≡ h.view → HasIts x (AHandle h')
  still line segments view = moved line segments (inl (ap (λ (v : VersionedManifest). v.manifest.last_l0_seq) view))

  -- the latest manifest, where its epoch is current
  current-moves : (view : VersionedManifest) → h.result ≡ None → IsCurrent h.epoch catalogue view → Moves view
  current-moves view live current = inl ((valid.current view live current.0 current.1).1)

  old-moves : (view : VersionedManifest) → view ≡ h.view → Moves view
  old-moves view same = inl (ap (λ (v : VersionedManifest). v.manifest.last_l0_seq) same)

  flush-moves : (latest : VersionedManifest) (last : ℕ) (t : FlushType) → h.result ≡ None → IsCurrent h.epoch catalogue latest → Moves (flush_view t h latest last)
  flush-moves latest last Wal live current = current-moves latest live current
  flush-moves latest last MemTable live current = by (has_untabled h latest.manifest) where
    by : (b : Bool) → Moves (cond b (next_flushed h latest last) latest)
    by true = inr (omega arith)
    by false = current-moves latest live current

  flush-answers : (stands : Type 0) (t : FlushType) (r : Result (Unit {0}) SlateError) (view : VersionedManifest) → h.result ≡ None → FlushAnswer stands t h catalogue r view → Moves view
  flush-answers stands t (Ok u) view live a = subst Moves (sym a.2) (flush-moves a.0 _ t live a.1)
  flush-answers stands t (Err e) view live a = elim a.1 [
    | inl same ↦ old-moves view same
    | inr current ↦ current-moves view live current
  ]

  stored-its : (t : FlushType) (made : ℕ) (r : Result (Unit {0}) SlateError) (faults : ℕ) (after : Known Span) → h.result ≡ None → h'.line ≡ h.line → h'.segments ≡ h.segments → Stores k made t h (record { objects = Some catalogue; faults = faults }) r h' after → HasIts x (AHandle h')
  stored-its t made r faults after live line segments s =
      let answer = (((s.objects).some catalogue refl).2).answer in
      moved line segments (flush-answers _ t r h'.view live answer)

  refresh-answers : (r : Result (Unit {0}) SlateError) (view : VersionedManifest) → h.result ≡ None → RefreshAnswer h catalogue r view → Moves view
  refresh-answers (Ok u) view live a = current-moves view live a
  refresh-answers (Err e) view live a = old-moves view a.1

  joined-moves : (id : TableId) (latest : VersionedManifest) → h.result ≡ None → IsCurrent h.epoch catalogue latest → Moves (compacted id latest)
  joined-moves id latest live current = by (ltb (length latest.manifest.tables) 2) where
    by : (b : Bool) → Moves (cond b latest (with_table id latest))
    by true = current-moves latest live current
    by false = current-moves latest live current

  compact-answers : (unjoined : SlateError → Type 0) (r : Result (Unit {0}) SlateError) (view : VersionedManifest) → h.result ≡ None → CompactAnswer unjoined h catalogue r view → Moves view
  compact-answers unjoined (Ok u) view live a = subst Moves (sym a.2) (joined-moves (next_table h) a.0 live a.1)
  compact-answers unjoined (Err e) view live a = old-moves view a.1

handle-its : (settings : Settings) (w : World) (n : ℕ) (moment : ℤ) (second : Option ℤ) (call : Call) (made : ℕ) (h h' : Handle) (reply : Reply) (after : Known Span) (writes' : List Write) → IsValidHandle w.stored w.catalogue h → HasIts settings.extractor (AHandle h) →
    HandleActs (by_catalogue w.stored w.catalogue) settings n moment second call made h (state_of w).store w.writes reply h' after writes' → HasIts settings.extractor (AHandle h')
handle-its settings w n moment second call made h h' reply after writes' valid has a = by call a where
  same : h' ≡ h → HasIts settings.extractor (AHandle h')
  same is = as-before settings.extractor w.stored w.catalogue h h' valid has is

  by : (call : Call) → HandleActs (by_catalogue w.stored w.catalogue) settings n moment second call made h (state_of w).store w.writes reply h' after writes' → HasIts settings.extractor (AHandle h')
  by (WriteCall ops) a = write-its settings.extractor h h' _ moment second (a.0).result (low settings.extractor w.stored w.catalogue h h' valid has) (a.0).does has
  by (MergeCall op) a = merge-its settings.merge settings.extractor n op moment second h w.writes reply h' writes' (low settings.extractor w.stored w.catalogue h h' valid has) a.0 has
  by (Flush t) a =
      flush-by (by_catalogue w.stored w.catalogue) made h (state_of w).store h' after (HasIts settings.extractor (AHandle h')) (flush_type_by t h) (a.0).result (a.0).does
      (λ q is error kept store. same kept)
      (λ live without error kept store. same kept)
      (λ can is stores. stored-its settings.extractor w.stored w.catalogue h h' valid has (flush_type_by t h) made (a.0).result w.faults after can.0 (ap (λ (g : Handle). g.line) is.same) (ap (λ (g : Handle). g.segments) is.same) stores)
  by (Close t) a =
      close-by (by_catalogue w.stored w.catalogue) made h (state_of w).store h' after (HasIts settings.extractor (AHandle h')) t (a.0).ended (a.0).does
      (λ q is error kept store. still settings.extractor w.stored w.catalogue h h' valid has (ap (λ (g : Handle). g.line) kept) (ap (λ (g : Handle). g.segments) kept) (ap (λ (g : Handle). g.view) kept))
      (λ live none error kept store. still settings.extractor w.stored w.catalogue h h' valid has (ap (λ (g : Handle). g.line) kept) (ap (λ (g : Handle). g.segments) kept) (ap (λ (g : Handle). g.view) kept))
      (λ t live some without error kept store. still settings.extractor w.stored w.catalogue h h' valid has (ap (λ (g : Handle). g.line) kept) (ap (λ (g : Handle). g.segments) kept) (ap (λ (g : Handle). g.view) kept))
      (λ t can some tasks is stores. stored-its settings.extractor w.stored w.catalogue h h' valid has t made (closing_flush ((a.0).ended).fault) w.faults after can.0 (ap (λ (g : Handle). g.line) is.same) (ap (λ (g : Handle). g.segments) is.same) stores)
  by Refresh a =
      refresh-by (by_catalogue w.stored w.catalogue) 0 h (state_of w).store h' after (HasIts settings.extractor (AHandle h')) (a.0).result (a.0).does
      (λ q is error kept store. same kept)
      (λ live reads. moved settings.extractor w.stored w.catalogue h h' valid has (ap (λ (g : Handle). g.line) reads.same) (ap (λ (g : Handle). g.segments) reads.same) (refresh-answers settings.extractor w.stored w.catalogue h h' valid has (a.0).result h'.view live reads.answer))
  by Compact a =
      compact-by (by_catalogue w.stored w.catalogue) made h (state_of w).store h' after (HasIts settings.extractor (AHandle h')) (a.0).result (a.0).does
      (λ q is error kept store. same kept)
      (λ live joins. moved settings.extractor w.stored w.catalogue h h' valid has (ap (λ (g : Handle). g.line) joins.same) (ap (λ (g : Handle). g.segments) joins.same) (compact-answers settings.extractor w.stored w.catalogue h h' valid has (λ (e : SlateError). ⊥) (a.0).result h'.view live (((joins.objects).some w.catalogue refl).2).answer))
  by (Get key remote snapshot) a = same a.1
  by (Scan range order remote snapshot) a = same a.1
  by (Seek range take key order remote snapshot) a = same a.1
  by Poll a = same a.1
  by Status a = same a.1
  by (FindTime number find) a = same a.1
  by (FindNumber seconds find) a = same a.1
  by Nothing a = same a.1

-- ---- and of a reader
module _ (settings : Settings) (w : World) (moment : ℤ) (made : ℕ) (f f' : Follower) (reply : Reply) (after : Known Span) (writes' : List Write) (leased : IsLeased f) (has : HasSegments settings.extractor f) where
  kept-its : f' ≡ f → HasSegments settings.extractor f'
  kept-its same = subst (HasSegments settings.extractor) (sym same) has

  twice-its : (lease : Lease) (r : Result PollAnswer SlateError) → PollsTwice (by_catalogue w.stored w.catalogue) settings.extractor made lease moment f (state_of w).store r f' after → HasSegments settings.extractor f'
  twice-its lease (Ok answer) p = subst (HasSegments settings.extractor) (sym (p.answers).1) ((p.round).segments has)
  twice-its lease (Err e) p = subst (HasSegments settings.extractor) (sym p.failed) ((p.round).segments has)

  polled-its : (managed : Bool) (r : Result PollAnswer SlateError) → is_managed f.mode ≡ managed → PollsAs (by_catalogue w.stored w.catalogue) settings.extractor managed made moment f (state_of w).store r f' after → HasSegments settings.extractor f'
  polled-its false r is p = (p.0).segments has
  polled-its true r is p =
      by-option f.result
      (λ live. by-option f.lease
      (λ none. absurd (let there = leased is live in cc))
      (λ lease its. elim (p.keeps lease live its) [
        | inl once ↦ (once.round).segments has
        | inr twice ↦ twice-its lease r twice
      ]))
      (λ q shut. kept-its (some-of (λ q. (r ≡ Err (closed_error q)) × (f' ≡ f) × Untouched made (state_of w).store after) f.result q shut p.closed).1)

  closed-its : f' ≡ closed_follower f → HasSegments settings.extractor f'
  closed-its same = subst (HasSegments settings.extractor) (sym same) has

  ended-its : (managed : Bool) (answer : Ended) → ClosesAs (by_catalogue w.stored w.catalogue) managed made f (state_of w).store answer f' after → HasSegments settings.extractor f'
  ended-its true answer c = closed-its c.closed
  ended-its false answer c = closed-its c.1

  follower-its : (call : Call) → FollowerActs (by_catalogue w.stored w.catalogue) settings moment call made f (state_of w).store w.writes reply f' after writes' → HasSegments settings.extractor f'
  follower-its (Get key remote snapshot) a = kept-its a.1
  follower-its (Scan range order remote snapshot) a = kept-its a.1
  follower-its (Seek range take key order remote snapshot) a = kept-its a.1
  follower-its (Close t) a = ended-its (is_managed f.mode) (a.0).answer (a.0).does
  follower-its Poll a = polled-its (is_managed f.mode) (a.0).result refl (a.0).does
  follower-its Status a = kept-its a.1
  follower-its (WriteCall ops) a = kept-its a.1
  follower-its (MergeCall op) a = kept-its a.1
  follower-its (Flush t) a = kept-its a.1
  follower-its Refresh a = kept-its a.1
  follower-its Compact a = kept-its a.1
  follower-its (FindTime number find) a = kept-its a.1
  follower-its (FindNumber seconds find) a = kept-its a.1
  follower-its Nothing a = kept-its a.1

-- ---- a step
abbrev AllHave : Option Extractor → World → Type 0
AllHave x w = (n : ℕ) (object : Object) → slice_get w.objects n ≡ Some object → HasIts x object

-- a handle that was opened
opened-its : (settings : Settings) (w : World) (made : ℕ) (keeps_log : Bool) (limit : ℕ) (tasks : List TaskName) (h : Handle) (after : Known Span) → IsLine w.stored → OpensHandle (by_catalogue w.stored w.catalogue) settings.extractor made keeps_log limit tasks (state_of w).store (Ok h) after → HasIts settings.extractor (AHandle h)
opened-its settings w made keeps_log limit tasks h after line d =
    let view = opened_manifest (extractor_name settings.extractor) w.catalogue in
    same-its settings.extractor (opened_handle settings.extractor keeps_log limit tasks view w.stored) h (d.handle w.catalogue w.stored refl refl) (left-above settings.extractor view.manifest.last_l0_seq w.stored line)

step-its : (settings : Settings) (w w' : World) (command : Command) (reply : Reply) → IsReached w → NextWhole settings w command reply w' → AllHave settings.extractor w → AllHave settings.extractor w'
step-its settings w w' command reply reached next have =
    everywhere settings w command next.made reply (state_of w') (HasIts settings.extractor) (record {
      old = have;
      handle = λ n call h h' at a. handle-its settings w n command.moment command.second call next.made h h' reply (state_of w').store w'.writes ((reached.0).handles n h at) (have n (AHandle h) at) a;
      snapshot = λ snapshot. tt;
      follower = λ n f f' at names a. follower-its settings w command.moment next.made f f' reply (state_of w').store w'.writes ((reached.0).followers n f at).2 (have n (AFollower f) at) (call_of command.action) a;
      opened = λ keeps_log h d. opened-its settings w next.made keeps_log _ _ h (state_of w').store (reached.0).line d;
      followed = λ mode skips lag b d. d.segments refl;
      taken = λ lifetime skips lag b d. d.segments;
    }) next.does

-- ---- the status
module _ (settings : Settings) (w w' : World) (command : Command) (reply : Reply) (next : NextWhole settings w command reply w') (have : AllHave settings.extractor w) (n : ℕ) (names : command.action ≡ actions.Status n) (status : DbStatus) (replied : reply ≡ replies.Status status) where
  abbrev known : Knowledge Span
  known = by_catalogue w.stored w.catalogue

  abbrev Names : Type 0
  Names = (object : Object) × (slice_get w'.objects n ≡ Some object) × (status.memtable_segments ≡ segments_of settings.extractor (above_view object))

  unknown : reply ≡ replies.Unknown → ⊥
  unknown is = let both : replies.Unknown ≡ replies.Status status = sym is ∙ replied in absurd (cc)

  answered : (is : DbStatus) → (reply ≡ replies.Status is) ⊎ (reply ≡ replies.NoMemory) → is ≡ status
  answered is (inl all) = let both : replies.Status is ≡ replies.Status status = sym all ∙ replied in cc
  answered is (inr memory) = let both : replies.NoMemory ≡ replies.Status status = sym memory ∙ replied in absurd (cc)

  read-snapshot : (y : HandleSnapshot) (found : Option Object) → ReadsSnapshot known settings y command Status next.made found (state_of w) reply (state_of w') → ⊥
  read-snapshot y (Some (AHandle h)) a = let d = handle-acted known settings y.handle command Nothing next.made (state_of w) reply (state_of w') h a in unknown d.acts.0
  read-snapshot y (Some (ASnapshot z)) a = unknown a.1
  read-snapshot y (Some (AFollower f)) a = unknown a.1
  read-snapshot y None a = unknown a.1

  on-status : (found : Option Object) → slice_get w.objects n ≡ found → ActsOn known settings n command Status next.made found (state_of w) reply (state_of w') → Names
  on-status None at a = absurd (unknown a.1)
  on-status (Some (ASnapshot y)) at a = absurd (read-snapshot y (slice_get w.objects y.handle) a)
  on-status (Some (AHandle h)) at a =
      let d = handle-acted known settings n command Status next.made (state_of w) reply (state_of w') h a in
      let is = answered (handle_status h) d.acts.0 in
      let there : slice_get w'.objects n ≡ Some (AHandle d.new) = ap (λ os. slice_get os n) d.objects ∙ get-set_same w.objects n (AHandle d.new) (AHandle h) at in
      (AHandle h, there ∙ ap (λ (g : Handle). Some (AHandle g)) d.acts.1, ap (λ (s : DbStatus). s.memtable_segments) (sym is) ∙ have n (AHandle h) at)
  on-status (Some (AFollower f)) at a =
      let d = follower-did known settings n command Status next.made (state_of w) reply (state_of w') (Some (AFollower f)) f refl a in
      let is = answered (follower_status f) d.acts.0 in
      let there : slice_get w'.objects n ≡ Some (AFollower d.new) = ap (λ os. slice_get os n) d.objects ∙ get-set_same w.objects n (AFollower d.new) (AFollower f) at in
      (AFollower f, there ∙ ap (λ (g : Follower). Some (AFollower g)) d.acts.1, ap (λ (s : DbStatus). s.memtable_segments) (sym is) ∙ have n (AFollower f) at)

  status-names : Names
  status-names =
      let does = subst (λ t. DoesBy known settings command t next.made (state_of w) reply (state_of w')) (ap target_of names) next.does in
      on-status (slice_get w.objects n) refl (subst (λ c. ActsOn known settings n command c next.made (slice_get w.objects n) (state_of w) reply (state_of w')) (ap call_of names) does)

-- any command
link-its : (settings : Settings) (w : World) (step : Step) → IsReached w → Link settings w step.command step.reply step.world → AllHave settings.extractor w → AllHave settings.extractor step.world
link-its settings w step reached link have = by (kind_of step.command.action) refl
  where
    w' : World
    w' = step.world

    same-have : w'.objects ≡ w.objects → AllHave settings.extractor w'
    same-have same n object at = have n object (sym (ap (λ os. slice_get os n) same) ∙ at)

    by : (kind : Kind) → kind_of step.command.action ≡ kind → AllHave settings.extractor w'
    by Whole kind = step-its settings w w' step.command step.reply reached (next-whole settings w step.command step.reply w' kind link.next) have
    by (Begins m) kind =
        let next : NextBegun settings m w step.command step.reply w' = subst (λ k. NextBy k settings w step.command step.reply w') kind link.next in
        same-have (ap (λ (x : World). x.objects) next.same)
    by (Steps m) kind = elim (link.leaves m kind).objects [
      | inl same ↦ same-have same
      | inr moved ↦ λ n object at.
          elim (get-set w.objects m n (AFollower moved.1) object (AFollower moved.0) moved.2 (sym (ap (λ os. slice_get os n) moved.3) ∙ at)) [
            | inl here ↦ subst (HasIts settings.extractor) here.1 (moved.7 (have m (AFollower moved.0) moved.2))
            | inr other ↦ have n object other.1
          ]
    ]

-- ---- the law
named-from : (settings : Settings) (w : World) (steps : List Step) → IsReached w → Chain settings w steps → All (λ (step : Step). IsReached step.world) steps → AllHave settings.extractor w → StatusesName settings.extractor steps
named-from settings w [] reached chain all have i n step status at names replied = absurd (cc)
named-from settings w (s ∷ steps) reached (link, chain) all have zero n step status at names replied =
    let is : s ≡ step = cc in
    subst (λ (x : Step). (object : Object) × (slice_get (x.world).objects n ≡ Some object) × (status.memtable_segments ≡ segments_of settings.extractor (above_view object))) is
    (status-names settings w s.world s.command s.reply (next-whole settings w s.command s.reply s.world (ap kind_of (ap (λ (x : Step). (x.command).action) is ∙ names)) link.next) have n (ap (λ (x : Step). (x.command).action) is ∙ names) status (ap (λ (x : Step). x.reply) is ∙ replied))
named-from settings w (s ∷ steps) reached (link, chain) all have (suc i) n step status at names replied =
    named-from settings s.world steps (All-head (λ (step : Step). IsReached step.world) s steps all) chain (All-tail (λ (step : Step). IsReached step.world) s steps all)
    (link-its settings w s reached link have) i n step status at names replied

pub statuses_name : (settings : Settings) (w : World) (steps : List Step) → w.objects ≡ [] → IsReached w → Chain settings w steps → All (λ step. IsReached step.world) steps → StatusesName settings.extractor steps
statuses_name settings w steps none reached chain all =
    named-from settings w steps reached chain all (λ n object at. absurd (let gone = sym (ap (λ os. slice_get os n) none) ∙ at in cc))
