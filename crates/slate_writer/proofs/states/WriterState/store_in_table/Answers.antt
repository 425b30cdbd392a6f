use Rattle.std.proofs.Common.{ap, ◌∙◌, rules}
use Rattle.std.proofs.lemmas.Result.{err_from_is_err_and}
use Rattle.slate_types.specs.declared.options.FlushType.TheVariants.{MemTable}
use Rattle.slate_model.specs.Handle.{Handle, accepted}
use Rattle.slate_writer.proofs.Storing.{packed-again, packed-commits, packed-counter, packed-durable, packed-makes, packed-moved, step_unfound, table_err, table_none, table_ok}
use Rattle.slate_writer.proofs.states.WriterState.store_in_table.Goals as goal

pub returns-in_err-latest-clause-stored : goal.returns-in_err-latest-clause-stored
returns-in_err-latest-clause-stored g c =
    let p = err_from_is_err_and c.from_residual.result c.from_residual.ensures.1 in
    rw (p.1, p.2) (step_unfound _ MemTable c.args.self.now _ _ _ _ (search rules) (search rules) c.current_manifest.ensures.kept (search (rules, c.in_err-latest.ensures.where_modelled)))

pub returns-then-accepted-latest-clause-stored : goal.returns-then-accepted-latest-clause-stored
returns-then-accepted-latest-clause-stored g c =
    table_none _ c.args.self.now _ _ c.in_ok-latest.latest c.current_manifest.ensures.kept (search (rules, c.in_ok-latest.ensures.where_modelled)) _ (search rules) (search rules) (search rules) (search rules)

pub returns-in-Ok-clause-stored : goal.returns-in-Ok-clause-stored
returns-in-Ok-clause-stored g c =
    let h : Handle = c.args.self.now in
    let latest = c.in_ok-latest.latest in
    let q_is = c.pack_tracker.ensures.packed in
    let after = c.commit_table.new.self in
    let put = c.in-Ok.ensures.put in
    let moved = packed-moved h latest _ q_is after c.commit_table.ensures.moved in
    table_ok _ h _ _ latest c.current_manifest.ensures.kept (search (rules, c.in_ok-latest.ensures.where_modelled)) (search rules) after _ c.in-Ok.next put.0 moved.0 moved.1
    (c.adopt_stored-in-Ok.ensures ∙ ap (λ n. record after { durable = n; view = c.in-Ok.next }) (ap accepted moved.0))
    (packed-counter h latest _ q_is _ c.commit_table.ensures.counter) (packed-again h latest _ q_is c.in-Ok.ensures.again) (packed-commits h latest _ q_is _ _ c.in-Ok.ensures.commits)
    (search rules) (packed-makes h latest _ q_is _ _ _ _ put.0 put.2)

pub returns-in-Err-clause-stored : goal.returns-in-Err-clause-stored
returns-in-Err-clause-stored g c =
    let h : Handle = c.args.self.now in
    let latest = c.in_ok-latest.latest in
    let q_is = c.pack_tracker.ensures.packed in
    let after = c.commit_table.new.self in
    let put = c.in-Err.ensures.put in
    let moved = packed-moved h latest _ q_is after c.commit_table.ensures.moved in
    table_err _ h _ _ latest c.current_manifest.ensures.kept (search (rules, c.in_ok-latest.ensures.where_modelled)) (search rules) after _ _ put.0 moved.0 moved.1
    c.adopt.ensures (packed-counter h latest _ q_is _ c.commit_table.ensures.counter) (packed-durable h latest _ q_is put.0 _ _ put.1)
    (search rules) (packed-makes h latest _ q_is _ _ _ _ put.0 put.2)
