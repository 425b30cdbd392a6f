use Rattle.std.proofs.Common.{rules, ◌≡◌, ◌∙◌, ap, Ok, Err, subst}
use Rattle.std.specs.Option.{IfSome}
use Rattle.std.proofs.lemmas.Result.{err_from_is_err_and}
use Rattle.slate_store.specs.declared.objects.TableId.{TableId}
use Rattle.slate_store.specs.Steps.{PlansJoin}
use Rattle.slate_store.proofs.Compacting.{all-joined, unjoined}
use Rattle.slate_store.proofs.compactions.compact.Goals as goal

pub returns-in_err-manifest-clause-compacts : goal.returns-in_err-manifest-clause-compacts
returns-in_err-manifest-clause-compacts g c =
    let id : TableId = record { epoch = c.args.epoch; index = c.args.next_index.now } in
    let p = err_from_is_err_and c.from_residual.result c.from_residual.ensures.1 in
    let all = unjoined id c.in_err-manifest.field-0.0 c.in_err-manifest.ensures.kept c.in_err-manifest.ensures.plans in
    let same : c.from_residual.result ≡ Err c.in_err-manifest.field-0.0 = p.1 ∙ ap Err p.2 in
    rw same all

pub returns-in_err-put_both-clause-compacts : goal.returns-in_err-put_both-clause-compacts
returns-in_err-put_both-clause-compacts g c =
    let id : TableId = record { epoch = c.args.epoch; index = c.args.next_index.now } in
    let join = c.in_ok-manifest.ensures in
    let plans = subst (λ t. IfSome (g.S.Store.objects c.args.store.now) (λ o. PlansJoin id o (Ok (c.in_ok-manifest.manifest, t)))) c.in-Some.is join.plans in
    let put = c.in_err-put_both.ensures in
    let p = err_from_is_err_and c.from_residual-in_err-put_both.result c.from_residual-in_err-put_both.ensures.1 in
    let all = all-joined id c.in_ok-manifest.manifest join.kept c.in-Some.table (Err c.in_err-put_both.field-0.0) plans put.kind put.puts in
    let same : c.from_residual-in_err-put_both.result ≡ Err c.in_err-put_both.field-0.0 = p.1 ∙ ap Err p.2 in
    rw same all

pub returns-clause-compacts : goal.returns-clause-compacts
returns-clause-compacts g c =
    let id : TableId = record { epoch = c.args.epoch; index = c.args.next_index.now } in
    let join = c.in_ok-manifest.ensures in
    let plans = subst (λ t. IfSome (g.S.Store.objects c.args.store.now) (λ o. PlansJoin id o (Ok (c.in_ok-manifest.manifest, t)))) c.in-Some.is join.plans in
    let all = all-joined id c.in_ok-manifest.manifest join.kept c.in-Some.table (Ok tt) plans tt c.in_ok-put_both.ensures.puts in
    search (rules, all)
