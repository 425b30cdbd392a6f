use Rattle.std.proofs.Common.{inl, inr}
use Rattle.slate_writer.proofs.Orders.{cut-of, next-none, next-some}
use Rattle.slate_writer.proofs.key_prefixes.next.Goals as goal
use Rattle.slate_writer.proofs.key_prefixes.next.Goals.{in-Ok, in-Err}

pub returns-then-above-known : goal.returns-then-above-known
returns-then-above-known c =
    let ks = c.args.known.now in
    let p = c.args.prefix.now in
    let cut = cut-of ks p c.place.result c.match-place.above c.requires c.place.ensures (elim c.match-place.branch [
      | in-Ok w ↦ inl (w.in-Ok.i, w.in-Ok.is, w.above-is)
      | in-Err w ↦ inr (w.in-Err.i, w.in-Err.is, w.above-is)
    ]) in
    next-some ks p c.index-known-above.result c.match-place.above c.requires cut c.if-above-known.true c.index-known-above.is

pub returns-else-above-known : goal.returns-else-above-known
returns-else-above-known c =
    let ks = c.args.known.now in
    let p = c.args.prefix.now in
    let cut = cut-of ks p c.place.result c.match-place.above c.requires c.place.ensures (elim c.match-place.branch [
      | in-Ok w ↦ inl (w.in-Ok.i, w.in-Ok.is, w.above-is)
      | in-Err w ↦ inr (w.in-Err.i, w.in-Err.is, w.above-is)
    ]) in
    next-none ks p c.match-place.above cut c.if-above-known.false
