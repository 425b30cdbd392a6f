use Rattle.std.proofs.Common.{rules, ap, ◌∙◌, arith, sym, subst, ℕ, ◌+◌, ◌≤◌, List, length, Ok, Err, ◌≡◌}
use Rattle.std.proofs.lemmas.Result.{err_from_is_err_and}
use Rattle.slate_types.specs.declared.batches.Batch.{Batch}
use Rattle.slate_types.specs.Modelled.{WhereModelled}
use Rattle.slate_store.specs.Steps.{TakesOut}
use Rattle.slate_store.specs.Sweeps.{expiries, without_expired}
use Rattle.slate_store.proofs.Sweeping.{Begun, begins, calls-after, calls-before, keeps-sound, not-taken, swept-after}
use Rattle.slate_store.proofs.Tries.{latest-known}
use Rattle.slate_store.proofs.sweeps.sweep.Goals as goal

pub returns-in_err-take_out_expired-clause-sweeps : goal.returns-in_err-take_out_expired-clause-sweeps
returns-in_err-take_out_expired-clause-sweeps g c =
    let e = c.in_err-take_out_expired.field-0.0 in
    let taken : WhereModelled (λ o o'. (made : ℕ) × TakesOut c.args.moment c.in_ok-latest.latest o (Err e) made o') (g.S.Store.objects c.read_latest.new.store) (g.S.Store.objects c.take_out_expired.new.store) = search rules in
    let p = err_from_is_err_and c.from_residual-in_err-take_out_expired.result c.from_residual-in_err-take_out_expired.ensures.1 in
    let same : c.from_residual-in_err-take_out_expired.result ≡ Err e = p.1 ∙ ap Err p.2 in
    rw same (not-taken c.args.moment c.in_ok-latest.latest e (latest-known (Ok c.in_ok-latest.latest) c.in_ok-latest.ensures.kept c.in_ok-latest.ensures.found) taken)

pub returns-in_err-take_out_expired-clause-sound : goal.returns-in_err-take_out_expired-clause-sound
returns-in_err-take_out_expired-clause-sound g c =
    let e = c.in_err-take_out_expired.field-0.0 in
    let taken : WhereModelled (λ o o'. (made : ℕ) × TakesOut c.args.moment c.in_ok-latest.latest o (Err e) made o') (g.S.Store.objects c.read_latest.new.store) (g.S.Store.objects c.take_out_expired.new.store) = search rules in
    let all = not-taken c.args.moment c.in_ok-latest.latest e (latest-known (Ok c.in_ok-latest.latest) c.in_ok-latest.ensures.kept c.in_ok-latest.ensures.found) taken in
    keeps-sound c.args.moment (Err e) all

pub returns-clause-sweeps : goal.returns-clause-sweeps
returns-clause-sweeps g c =
    let taken : WhereModelled (λ o o'. (made : ℕ) × TakesOut c.args.moment c.in_ok-latest.latest o (Ok c.in_ok-take_out_expired.field-0) made o') (g.S.Store.objects c.read_latest.new.store) (g.S.Store.objects c.take_out_expired.new.store) = search rules in
    let begun = subst (λ v. WhereModelled (λ o o'. Begun c.args.moment c.in_ok-latest.latest o o' × (v ≡ without_expired c.args.moment c.in_ok-latest.latest)) (g.S.Store.objects c.args.store.now) (g.S.Store.objects c.take_out_expired.new.store)) (sym c.unwrap_or-latest.ensures)
    (begins c.args.moment c.in_ok-latest.latest c.in_ok-take_out_expired.field-0 (latest-known (Ok c.in_ok-latest.latest) c.in_ok-latest.ensures.kept c.in_ok-latest.ensures.found) taken) in
    let all = swept-after c.args.moment c.in_ok-latest.latest c.unwrap_or-latest.result c.remove_unprotected.result begun c.remove_unprotected.ensures.removes in
    search (rules, all)

pub returns-clause-sound : goal.returns-clause-sound
returns-clause-sound g c =
    let taken : WhereModelled (λ o o'. (made : ℕ) × TakesOut c.args.moment c.in_ok-latest.latest o (Ok c.in_ok-take_out_expired.field-0) made o') (g.S.Store.objects c.read_latest.new.store) (g.S.Store.objects c.take_out_expired.new.store) = search rules in
    let begun = subst (λ v. WhereModelled (λ o o'. Begun c.args.moment c.in_ok-latest.latest o o' × (v ≡ without_expired c.args.moment c.in_ok-latest.latest)) (g.S.Store.objects c.args.store.now) (g.S.Store.objects c.take_out_expired.new.store)) (sym c.unwrap_or-latest.ensures)
    (begins c.args.moment c.in_ok-latest.latest c.in_ok-take_out_expired.field-0 (latest-known (Ok c.in_ok-latest.latest) c.in_ok-latest.ensures.kept c.in_ok-latest.ensures.found) taken) in
    let all = swept-after c.args.moment c.in_ok-latest.latest c.unwrap_or-latest.result c.remove_unprotected.result begun c.remove_unprotected.ensures.removes in
    keeps-sound c.args.moment c.remove_unprotected.result all

pub returns-in_err-take_out_expired-clause-calls : goal.returns-in_err-take_out_expired-clause-calls
returns-in_err-take_out_expired-clause-calls g c =
    let first : g.S.Store.calls c.read_latest.new.store ≤ g.S.Store.calls c.args.store.now + 1 = omega (arith, c.in_ok-latest.ensures.calls) in
    let expired : g.S.Store.calls c.take_out_expired.new.store ≤ g.S.Store.calls c.read_latest.new.store + length (expiries {L = List Batch} c.args.moment c.in_ok-latest.latest) = search (rules, c.in_err-take_out_expired.ensures.calls) in
    calls-before c.args.moment c.in_ok-latest.latest (g.S.Store.calls c.args.store.now) (g.S.Store.calls c.take_out_expired.new.store) (latest-known (Ok c.in_ok-latest.latest) c.in_ok-latest.ensures.kept c.in_ok-latest.ensures.found) (omega (arith, first, expired))

pub returns-clause-calls : goal.returns-clause-calls
returns-clause-calls g c =
    let first : g.S.Store.calls c.read_latest.new.store ≤ g.S.Store.calls c.args.store.now + 1 = omega (arith, c.in_ok-latest.ensures.calls) in
    let expired : g.S.Store.calls c.take_out_expired.new.store ≤ g.S.Store.calls c.read_latest.new.store + length (expiries {L = List Batch} c.args.moment c.in_ok-latest.latest) = search (rules, c.in_ok-take_out_expired.ensures.calls) in
    let taken : WhereModelled (λ o o'. (made : ℕ) × TakesOut c.args.moment c.in_ok-latest.latest o (Ok c.in_ok-take_out_expired.field-0) made o') (g.S.Store.objects c.read_latest.new.store) (g.S.Store.objects c.take_out_expired.new.store) = search rules in
    let begun = subst (λ v. WhereModelled (λ o o'. Begun c.args.moment c.in_ok-latest.latest o o' × (v ≡ without_expired c.args.moment c.in_ok-latest.latest)) (g.S.Store.objects c.args.store.now) (g.S.Store.objects c.take_out_expired.new.store)) (sym c.unwrap_or-latest.ensures)
    (begins c.args.moment c.in_ok-latest.latest c.in_ok-take_out_expired.field-0 (latest-known (Ok c.in_ok-latest.latest) c.in_ok-latest.ensures.kept c.in_ok-latest.ensures.found) taken) in
    calls-after c.args.moment c.in_ok-latest.latest (g.S.Store.calls c.args.store.now) c.unwrap_or-latest.result (g.S.Store.calls c.take_out_expired.new.store) (g.S.Store.calls c.remove_unprotected.new.store) begun (omega (arith, first, expired)) c.remove_unprotected.ensures.calls
