use Rattle.std.proofs.Common.{◌≡◌, ◌+◌, ◌-◌, ◌++◌, length, take, drop, ap, arith, subst, sym, ◌∙◌}
use Rattle.std.proofs.lemmas.List.{length-drop, take_all}
use Rattle.slate_types.specs.Line.{AreNumberedFrom}
use Rattle.slate_model.proofs.Reopened.{numbered_rest}
use Rattle.slate_follow.specs.Joined.{joined}
use Rattle.slate_follow.proofs.Joining.{joined-last, on-ok}
use Rattle.slate_follow.proofs.tables.add_table.Goals as goal

pub join-requires : goal.join-requires
join-requires c =
    let items = c.args.tables.now.items in
    let ts = c.deref.result.now in
    let k = c.first_joined-first.result in
    let short = length-drop k ts in
    let last : take (length ts - k) (drop k ts) ≡ drop k items = take_all (length ts - k) (drop k ts) (omega (arith, short)) ∙ ap (drop k) c.deref.ensures.value in
    let n = c.requires.0 + length (joined (take k items)) in
    let rest = numbered_rest c.requires.0 (joined (take k items)) (joined (drop k items) ++ c.args.table) (subst (AreNumberedFrom c.requires.0) (sym (joined-last items k c.args.table)) c.requires.1) in
    (n, subst (λ xs. AreNumberedFrom n (joined xs ++ c.args.table)) (sym last) rest)

pub returns-clause-ok : goal.returns-clause-ok
returns-clause-ok c =
    let items = c.args.tables.now.items in
    let ts = c.deref.result.now in
    let k = c.first_joined-first.result in
    let short = length-drop k ts in
    let last : take (length ts - k) (drop k ts) ≡ drop k items = take_all (length ts - k) (drop k ts) (omega (arith, short)) ∙ ap (drop k) c.deref.ensures.value in
    let whole : c.in_ok-shared-2.field-0 ≡ joined (drop k items) ++ c.args.table = c.in_ok-shared-2.ensures ∙ (c.in_ok-whole.ensures ∙ ap (λ xs. joined xs ++ c.args.table) last) in
    on-ok c.push_table-2.result (λ same. same ∙ (ap (λ xs. joined xs ++ c.in_ok-shared-2.field-0) c.truncate.ensures.items ∙ (ap (λ bs. joined (take k items) ++ bs) whole ∙ joined-last items k c.args.table))) c.push_table-2.ensures.same
