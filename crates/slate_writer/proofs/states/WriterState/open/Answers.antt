use Rattle.std.proofs.Common.{◌≡◌, None, Err, ◌+◌, ◌∙◌, ap, sym, subst, arith, length, rules}
use Rattle.std.specs.Option.{IfSome}
use Rattle.std.proofs.lemmas.Result.{err_from_is_err_and}
use Rattle.slate_store.specs.Content.{content}
use Rattle.slate_model.specs.Handle.{Handle, latest_tick}
use Rattle.slate_model.specs.Open.{AreSegmented, opened_manifest, replayed}
use Rattle.slate_model.specs.Segments.{extractor_name, ops_of, segments_of, unsegmented_refusal}
use Rattle.slate_model.specs.Tracked.{tracked_all}
use Rattle.slate_writer.specs.Opening.{FindsNext}
use Rattle.slate_writer.specs.Tasks.{tasks_of}
use Rattle.slate_writer.proofs.Answering.{finding-opening, segment-opening, unrefused}
use Rattle.slate_writer.proofs.Counted.{counted-none}
use Rattle.slate_writer.proofs.Leaving.{left-by}
use Rattle.slate_writer.proofs.Openings.{calls-of, calls-of-ok, calls-of-puts, calls-of-segments, found_view, has_logs, none_modelled, opened-tracker, opened_modelled, opens_err, opens_ok, puts_modelled, recovered_at, recovered_modelled, recovery_modelled, segment-faults, segmented_finding, segmented_modelled, segmented_putting, segmented_recovering, segmented_refusing, segments_modelled, untracked_modelled, whole_modelled}
use Rattle.slate_writer.proofs.Tracking.{ends-all, ends-stored}
use Rattle.slate_writer.proofs.states.WriterState.open.Goals as goal

pub returns-in_err-board-clause-opens : goal.returns-in_err-board-clause-opens
returns-in_err-board-clause-opens g c x lawful =
    let p = err_from_is_err_and c.from_residual.result c.from_residual.ensures.1 in
    rw (p.1, p.2) (opens_err x c.args.options.now.wal_enabled c.args.options.now.max_unflushed_bytes (tasks_of c.args.options.now) _ _ _ (search rules) (untracked_modelled x _) (λ o is sound. tt))

pub returns-in_err-name-clause-opens : goal.returns-in_err-name-clause-opens
returns-in_err-name-clause-opens g c x lawful =
    let p = err_from_is_err_and c.from_residual-in_err-name.result c.from_residual-in_err-name.ensures.1 in
    rw (p.1, p.2) (opens_err x c.args.options.now.wal_enabled c.args.options.now.max_unflushed_bytes (tasks_of c.args.options.now) _ _ _ (search rules) (untracked_modelled x _) (λ o is sound. tt))

pub returns-in_err-tasks-clause-opens : goal.returns-in_err-tasks-clause-opens
returns-in_err-tasks-clause-opens g c x lawful =
    let p = err_from_is_err_and c.from_residual-in_err-tasks.result c.from_residual-in_err-tasks.ensures.1 in
    rw (p.1, p.2) (opens_err x c.args.options.now.wal_enabled c.args.options.now.max_unflushed_bytes (tasks_of c.args.options.now) _ _ _ (search rules) (untracked_modelled x _) (λ o is sound. tt))

pub returns-in_err-view-clause-opens : goal.returns-in_err-view-clause-opens
returns-in_err-view-clause-opens g c x lawful =
    let p = err_from_is_err_and c.from_residual-in_err-view.result c.from_residual-in_err-view.ensures.1 in
    let v = c.in_err-view.ensures in
    rw (p.1, p.2) (opens_err x c.args.options.now.wal_enabled c.args.options.now.max_unflushed_bytes (tasks_of c.args.options.now) _ _ _ (search rules)
    (none_modelled x _ v.kept v.kind (v.fits x lawful (c.in_ok-name.ensures x lawful))) (λ o is sound. segmented_finding x (replayed (opened_manifest (extractor_name x) o) (content o)) _ v.kind))

pub returns-in_err-put_opening-clause-opens : goal.returns-in_err-put_opening-clause-opens
returns-in_err-put_opening-clause-opens g c x lawful =
    let p = err_from_is_err_and c.from_residual-in_err-put_opening.result c.from_residual-in_err-put_opening.ensures.1 in
    let v = c.in_ok-view.ensures in
    let named = c.in_ok-name.ensures x lawful in
    let view = c.in_ok-view.view in
    let last = c.in_ok-view.last in
    let found = subst (λ name. IfSome (g.S.Store.objects c.args.store.now) (λ o. FindsNext name o (view, last))) named v.where_modelled in
    let puts = c.in_err-put_opening.ensures.where_modelled in
    rw (p.1, p.2) (opens_err x c.args.options.now.wal_enabled c.args.options.now.max_unflushed_bytes (tasks_of c.args.options.now) _ _ _ (search rules)
    (puts_modelled x view last found (v.fits x lawful named) v.kept _ puts) (λ o is sound. segmented_putting x view (last + 1) _ v.kept puts o (replayed (opened_manifest (extractor_name x) o) (content o)) is))

pub returns-in_err-memory-clause-opens : goal.returns-in_err-memory-clause-opens
returns-in_err-memory-clause-opens g c x lawful =
    let p = err_from_is_err_and c.from_residual-in_err-memory.result c.from_residual-in_err-memory.ensures.1 in
    let v = c.in_ok-view.ensures in
    let named = c.in_ok-name.ensures x lawful in
    let view = c.in_ok-view.view in
    let last = c.in_ok-view.last in
    let found = subst (λ name. IfSome (g.S.Store.objects c.args.store.now) (λ o. FindsNext name o (view, last))) named v.where_modelled in
    let puts = c.in_ok-put_opening.ensures.where_modelled in
    let recovers = c.in_err-memory.ensures.where_modelled in
    rw (p.1, p.2) (opens_err x c.args.options.now.wal_enabled c.args.options.now.max_unflushed_bytes (tasks_of c.args.options.now) _ _ _ (search rules)
    (recovery_modelled x view last found (v.fits x lawful named) v.kept puts _ c.in_err-memory.ensures.kept recovers) (λ o is sound. segmented_recovering x view last (last + 1) _ v.kept puts recovers o (replayed (opened_manifest (extractor_name x) o) (content o)) is))

pub returns-in_err-segments-clause-opens : goal.returns-in_err-segments-clause-opens
returns-in_err-segments-clause-opens g c x lawful =
    let p = err_from_is_err_and c.from_residual-in_err-segments.result c.from_residual-in_err-segments.ensures.1 in
    let v = c.in_ok-view.ensures in
    let named = c.in_ok-name.ensures x lawful in
    let view = c.in_ok-view.view in
    let last = c.in_ok-view.last in
    let found = subst (λ name. IfSome (g.S.Store.objects c.args.store.now) (λ o. FindsNext name o (view, last))) named v.where_modelled in
    let puts = c.in_ok-put_opening.ensures.where_modelled in
    let recovers = c.in_ok-memory.ensures.where_modelled in
    let e = c.in_err-segments.field-0.0 in
    let refused = segmented_refusing x c.batches.result.now e (c.in_err-segments.ensures.err x lawful) in
    rw (p.1, p.2) (opens_err x c.args.options.now.wal_enabled c.args.options.now.max_unflushed_bytes (tasks_of c.args.options.now) _ _ _
    (segment-faults _ _ _ (search rules) c.in_err-segments.ensures.kind)
    (segments_modelled x view last found (v.fits x lawful named) v.kept puts _ c.in_ok-memory.ensures.kept c.in_err-segments.ensures.kind)
    (λ o is sound. segmented_modelled x view last found (v.fits x lawful named) v.kept puts c.in_ok-memory.memory (Err e) recovers (subst (λ bs. AreSegmented {A = Handle} x bs (Err e)) c.batches.ensures.value refused) o is sound))

pub returns-clause-opens : goal.returns-clause-opens
returns-clause-opens g c x lawful =
    let v = c.in_ok-view.ensures in
    let named = c.in_ok-name.ensures x lawful in
    let view = c.in_ok-view.view in
    let last = c.in_ok-view.last in
    let memory = c.in_ok-memory.memory in
    let found = subst (λ name. IfSome (g.S.Store.objects c.args.store.now) (λ o. FindsNext name o (view, last))) named v.where_modelled in
    let fits = v.fits x lawful named in
    let puts = c.in_ok-put_opening.ensures.where_modelled in
    let recovers = c.in_ok-memory.ensures.where_modelled in
    let segments = c.in_ok-segments.ensures.ok x lawful in
    let options = c.args.options.now in
    let tracked = c.track_all.ensures ∙ (ap (tracked_all _) c.batches-2.ensures.value ∙ ap (λ t. tracked_all t memory) (sym (opened-tracker view.manifest _ v.tracked))) in
    rw (c.new.ensures, c.of.ensures) (opens_ok x options.wal_enabled options.max_unflushed_bytes (tasks_of options) _ _ _ (search rules)
    (opened_modelled x view last found fits v.kept puts _ c.in_ok-memory.ensures.kept)
    (record { keeps = search rules; limit_is = search rules; tasked = ap (λ t. t.names) c.in_ok-tasks.ensures; unclosed = search rules; epoch = search rules; counter = search rules; durable = search rules; tabled = omega arith })
    (found_view _ view last found)
    (λ o is sound. whole_modelled x view last found fits v.kept puts memory recovers (subst (λ bs. unsegmented_refusal x (ops_of bs) ≡ None) c.batches.ensures.value segments.0) o is sound)
    (λ o is sound. recovered_at x options.wal_enabled options.max_unflushed_bytes (tasks_of options) view memory c.batches-3.result.now _ _ _ _ c.batches-3.ensures.value
    (segments.1 ∙ ap (segments_of x) c.batches.ensures.value)
    (search rules ∙ (c.latest_tick-tick.ensures ∙ (ap (latest_tick _) c.batches-4.ensures.value ∙ ap (λ t. latest_tick t memory) (search rules)))) tracked (ap (λ t. t.names) c.in_ok-tasks.ensures)
    ∙ recovered_modelled x view last found fits v.kept puts options.wal_enabled options.max_unflushed_bytes (tasks_of options) memory recovers o is sound))

pub returns-clause-replays : goal.returns-clause-replays
returns-clause-replays g c =
    rw c.of.ensures (has_logs _ c.in_ok-view.view c.in_ok-view.last c.in_ok-memory.memory c.in_ok-view.ensures.where_modelled c.in_ok-view.ensures.kept c.in_ok-put_opening.ensures.where_modelled c.in_ok-memory.ensures.where_modelled)

pub returns-in_err-put_opening-clause-calls : goal.returns-in_err-put_opening-clause-calls
returns-in_err-put_opening-clause-calls g c =
    let p = err_from_is_err_and c.from_residual-in_err-put_opening.result c.from_residual-in_err-put_opening.ensures.1 in
    rw (p.1, p.2) (calls-of-puts c.in_ok-view.view (c.in_ok-view.last + 1) _ _ _ _ c.in_ok-view.ensures.counted c.in_err-put_opening.ensures.calls c.in_ok-view.ensures.kept c.in_err-put_opening.ensures.where_modelled)

pub returns-in_err-memory-clause-calls : goal.returns-in_err-memory-clause-calls
returns-in_err-memory-clause-calls g c =
    let p = err_from_is_err_and c.from_residual-in_err-memory.result c.from_residual-in_err-memory.ensures.1 in
    rw (p.1, p.2) (calls-of _ c.in_ok-view.view c.in_ok-view.last _ _ _ _ (let found = c.in_ok-view.ensures.counted in let puts = c.in_ok-put_opening.ensures.counted in omega (arith, found, puts)) c.in_err-memory.ensures.calls
    c.in_err-memory.ensures.ended_early _ c.in_ok-view.ensures.where_modelled)

pub returns-in_err-segments-clause-calls : goal.returns-in_err-segments-clause-calls
returns-in_err-segments-clause-calls g c =
    let p = err_from_is_err_and c.from_residual-in_err-segments.result c.from_residual-in_err-segments.ensures.1 in
    rw (p.1, p.2) (calls-of-segments _ _ c.in_ok-view.view c.in_ok-view.last _ _ _ _ c.in_err-segments.ensures.kind (let found = c.in_ok-view.ensures.counted in let puts = c.in_ok-put_opening.ensures.counted in omega (arith, found, puts)) c.in_ok-memory.ensures.calls c.in_ok-view.ensures.where_modelled)

pub returns-clause-calls : goal.returns-clause-calls
returns-clause-calls g c =
    calls-of-ok _ _ c.in_ok-view.view c.in_ok-view.last _ _ _ (let found = c.in_ok-view.ensures.counted in let puts = c.in_ok-put_opening.ensures.counted in omega (arith, found, puts)) c.in_ok-memory.ensures.calls c.in_ok-view.ensures.where_modelled

pub invariant_of-result : goal.invariant_of-result
invariant_of-result g c =
    let fresh = c.new.ensures in
    let same = ap length c.batches-3.ensures.value in
    rw c.of.ensures (record {
      numbered = c.in_ok-memory.ensures.numbered;
      fits = c.in_ok-memory.ensures.fits;
      durable = search rules;
      tracked = rw c.track_all.ensures (rw c.batches-2.ensures.value (ends-all c.in_ok-view.view.manifest.last_l0_seq c.in_ok-view.tracker c.in_ok-memory.memory c.in_ok-memory.ensures.numbered (ends-stored c.in_ok-view.view.manifest.last_l0_seq c.in_ok-view.view.manifest.sequence_tracker c.in_ok-view.tracker c.in_ok-view.ensures.tracked)));
      rising = c.in_ok-segments.ensures.rising;
      stored = search rules;
      seated = search rules;
      told = rw c.in_ok-tasks.ensures tt;
      counted = counted-none c.in_ok-view.view.manifest.last_l0_seq c.in_ok-memory.memory c.batches-3.result.now c.in_ok-memory.ensures.numbered c.batches-3.ensures.value;
    })

pub returns-in_err-view-clause-first : goal.returns-in_err-view-clause-first
returns-in_err-view-clause-first g c x o lawful is decided = c.in_err-view.ensures.first x o lawful is decided

pub returns-in_err-put_opening-clause-first : goal.returns-in_err-put_opening-clause-first
returns-in_err-put_opening-clause-first g c x o lawful is decided = unrefused _ x (c.in_ok-view.ensures.fits x lawful (c.in_ok-name.ensures x lawful)) o is decided

pub returns-in_err-memory-clause-first : goal.returns-in_err-memory-clause-first
returns-in_err-memory-clause-first g c x o lawful is decided = unrefused _ x (c.in_ok-view.ensures.fits x lawful (c.in_ok-name.ensures x lawful)) o is decided

pub returns-in_err-segments-clause-first : goal.returns-in_err-segments-clause-first
returns-in_err-segments-clause-first g c x o lawful is decided = unrefused _ x (c.in_ok-view.ensures.fits x lawful (c.in_ok-name.ensures x lawful)) o is decided

pub returns-clause-first : goal.returns-clause-first
returns-clause-first g c x o lawful is decided = unrefused _ x (c.in_ok-view.ensures.fits x lawful (c.in_ok-name.ensures x lawful)) o is decided

pub returns-in_err-view-clause-kind : goal.returns-in_err-view-clause-kind
returns-in_err-view-clause-kind g c =
    let p = err_from_is_err_and c.from_residual-in_err-view.result c.from_residual-in_err-view.ensures.1 in
    rw (p.1, p.2) (finding-opening _ c.in_err-view.ensures.kind)

pub returns-in_err-segments-clause-kind : goal.returns-in_err-segments-clause-kind
returns-in_err-segments-clause-kind g c =
    let p = err_from_is_err_and c.from_residual-in_err-segments.result c.from_residual-in_err-segments.ensures.1 in
    rw (p.1, p.2) (segment-opening _ c.in_err-segments.ensures.kind)

pub returns-clause-left : goal.returns-clause-left
returns-clause-left g c =
    let v = c.in_ok-view.ensures in
    rw (c.new.ensures, c.of.ensures) (left-by _ _ _ _ _ c.in_ok-view.view c.in_ok-view.last c.in_ok-memory.memory _ v.where_modelled v.greatest v.kept c.in_ok-put_opening.ensures.where_modelled c.in_ok-memory.ensures.kept c.in_ok-memory.ensures.logged (search rules) (search rules))

pub returns-clause-line : goal.returns-clause-line
returns-clause-line g c = rw c.of.ensures c.in_ok-memory.ensures.numbered

pub returns-clause-fresh : goal.returns-clause-fresh
returns-clause-fresh g c =
    rw (c.new.ensures, c.of.ensures) (record { keeps = search rules; limit_is = search rules; tasked = ap (λ t. t.names) c.in_ok-tasks.ensures; unclosed = search rules; epoch = search rules; counter = search rules; durable = ap (λ n. c.in_ok-view.view.manifest.last_l0_seq + n) (ap length c.batches-3.ensures.value); tabled = omega arith })

-- ---- the count of faults
pub returns-in_err-board-clause-faults : goal.returns-in_err-board-clause-faults
returns-in_err-board-clause-faults g c =
    let p = err_from_is_err_and c.from_residual.result c.from_residual.ensures.1 in
    rw (p.1, p.2) (search rules)

pub returns-in_err-name-clause-faults : goal.returns-in_err-name-clause-faults
returns-in_err-name-clause-faults g c =
    let p = err_from_is_err_and c.from_residual-in_err-name.result c.from_residual-in_err-name.ensures.1 in
    rw (p.1, p.2) (search rules)

pub returns-in_err-tasks-clause-faults : goal.returns-in_err-tasks-clause-faults
returns-in_err-tasks-clause-faults g c =
    let p = err_from_is_err_and c.from_residual-in_err-tasks.result c.from_residual-in_err-tasks.ensures.1 in
    rw (p.1, p.2) (search rules)

pub returns-in_err-view-clause-faults : goal.returns-in_err-view-clause-faults
returns-in_err-view-clause-faults g c =
    let p = err_from_is_err_and c.from_residual-in_err-view.result c.from_residual-in_err-view.ensures.1 in
    rw (p.1, p.2) (search rules)

pub returns-in_err-put_opening-clause-faults : goal.returns-in_err-put_opening-clause-faults
returns-in_err-put_opening-clause-faults g c =
    let p = err_from_is_err_and c.from_residual-in_err-put_opening.result c.from_residual-in_err-put_opening.ensures.1 in
    rw (p.1, p.2) (search rules)

pub returns-in_err-memory-clause-faults : goal.returns-in_err-memory-clause-faults
returns-in_err-memory-clause-faults g c =
    let p = err_from_is_err_and c.from_residual-in_err-memory.result c.from_residual-in_err-memory.ensures.1 in
    rw (p.1, p.2) (search rules)

pub returns-in_err-segments-clause-faults : goal.returns-in_err-segments-clause-faults
returns-in_err-segments-clause-faults g c =
    let p = err_from_is_err_and c.from_residual-in_err-segments.result c.from_residual-in_err-segments.ensures.1 in
    rw (p.1, p.2) (segment-faults _ _ _ (search rules) c.in_err-segments.ensures.kind)
