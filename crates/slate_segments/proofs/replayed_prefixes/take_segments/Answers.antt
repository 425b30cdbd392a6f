use Rattle.std.proofs.Common.{◌∷◌, ◌++◌, [], subst, sym, refl}
use Rattle.slate_segments.specs.Prefixes.{HaveSame}
use Rattle.slate_segments.proofs.Taking.{one-prefix, replayed-next, same-ops}
use Rattle.slate_segments.proofs.replayed_prefixes.take_segments.Goals as goal

pub loop-op-preserved : goal.loop-op-preserved
loop-op-preserved g c x lawful =
    let i = c.loop-op.invariant x lawful in
    let s = c.in_ok-prefix.ensures.ok x lawful in
    let op = c.op-item.result in
    let old = c.loop-op.taken.keys in
    let new = c.add.new.taken.keys in
    let added = subst (λ ps. HaveSame new (old ++ ps)) (sym (one-prefix x op op.key c.in_ok-prefix.prefix.now refl s.0)) c.in_ok-add.ensures in (
      replayed-next x c.args.ops.now c.loop-op.op-index op c.loop-op-test.true c.op-item.is i.0 s.1,
      same-ops x c.args.ops.now c.loop-op.op-index op c.loop-op-test.true c.op-item.is c.args.taken.now.keys old new i.1 added,
    )
