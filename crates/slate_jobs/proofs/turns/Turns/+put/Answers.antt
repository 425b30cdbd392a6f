use Rattle.std.proofs.Common.{◌≡◌, ◌≤◌, ◌/◌, length, slice_get, Some, sym, subst, ap, ◌∙◌, arith}
use Rattle.slate_jobs.specs.Turns.{pairs, put_at}
use Rattle.slate_jobs.proofs.Turning.{fewer-above, half-upto, length-put, still-above, there-are}
use Rattle.slate_jobs.proofs.turns.Turns.+put.Goals as goal

pub pair_at-requires : goal.pair_at-requires
pair_at-requires t c =
    let all = ap length c.self.view_is in
    let upto : c.args.place ≤ length c.self.inside.turns.items = (let less = c.requires in omega (arith, all, less)) in
    let count = ap length (c.as_slice-turns.ensures.value ∙ c.in_ok-put_turn.ensures.ok) in
    let more = length-put c.self.inside.turns.items c.args.place c.args.turn upto in
    omega (arith, count, more)

pub put-requires : goal.put-requires
put-requires t c =
    let are = there-are c.self.inside.turns.items c.self.inside.above c.in-Some.above (sym c.take.ensures.value ∙ c.in-Some.is) c.self.invariant in
    let all = ap length c.self.view_is in
    let upto : c.args.place ≤ length c.self.inside.turns.items = (let less = c.requires in omega (arith, all, less)) in
    let less = fewer-above c.self.inside.turns.items c.in-Some.above.value are.0 are.1 in
    let value = ap length c.deref_mut.ensures.value in
    let within = half-upto c.self.inside.turns.items c.in-Some.above.value c.args.place upto are.0 in
    (omega (arith, c.decreases, less, value, all), omega (arith, within, value))

pub invariant_of-self-in_ok-put-in-Some-2 : goal.invariant_of-self-in_ok-put-in-Some-2
invariant_of-self-in_ok-put-in-Some-2 t c =
    let are = there-are c.self.inside.turns.items c.self.inside.above c.in-Some.above (sym c.take.ensures.value ∙ c.in-Some.is) c.self.invariant in
    let all = ap length c.self.view_is in
    let upto : c.args.place ≤ length c.self.inside.turns.items = (let less = c.requires in omega (arith, all, less)) in
    let put = c.in_ok-put_turn.ensures.ok in
    let still = still-above c.self.inside.turns.items c.args.place c.args.turn c.pair_at.result c.in-Some.above.value upto are.0 are.1
    (subst (λ ts. slice_get (pairs ts) (c.args.place / 2) ≡ Some c.pair_at.result) (c.as_slice-turns.ensures.value ∙ put) c.pair_at.ensures) in (
      c.in_ok-put-in-Some.ensures ∙ (ap (λ ts. put_at ts (c.args.place / 2) c.pair_at.result) c.deref_mut.ensures.value ∙ (still.0 ∙ sym (ap pairs put))),
      (let two = still.1 in let count = ap length put in omega (arith, two, count)),
    )
