use Rattle.std.proofs.Common.{◌≡◌, ◌++◌}
use Rattle.std.proofs.lemmas.Result.{IfOk-weaker}
use Rattle.slate_status.proofs.Unions.{set_is_union, union_of_set}
use Rattle.slate_status.proofs.segments.union.Goals as goal

pub returns-clause-union : goal.returns-clause-union
returns-clause-union c =
    let joined : c.append.new.self.items ≡ c.args.first.now ++ c.args.second.now = cc (c.in_ok-append.ensures.items, c.in_ok-all.ensures, c.in_ok-copies.ensures) in
    IfOk-weaker c.listed.result _ _
    (λ prefixes listed. union_of_set c.args.first.now c.args.second.now c.append.new.self.items prefixes.items c.in_ok-set_of.field-0 joined c.in_ok-set_of.ensures listed)
    c.listed.ensures.listed

pub returns-clause-set : goal.returns-clause-set
returns-clause-set c =
    let joined : c.append.new.self.items ≡ c.args.first.now ++ c.args.second.now = cc (c.in_ok-append.ensures.items, c.in_ok-all.ensures, c.in_ok-copies.ensures) in
    IfOk-weaker c.listed.result _ _
    (λ prefixes listed. set_is_union c.args.first.now c.args.second.now c.append.new.self.items prefixes.items c.in_ok-set_of.field-0 joined c.in_ok-set_of.ensures listed)
    c.listed.ensures.listed
