use Rattle.std.proofs.Common.{◌++◌, inr, Some, None, subst, sym, ◌∙◌}
use Rattle.slate_segments.specs.Prefixes.{HaveSame}
use Rattle.slate_writer.proofs.Segmenting.{key-nesting}
use Rattle.slate_writer.proofs.key_prefixes.take_prefix.Goals as goal

pub returns-in-Some-clause-err : goal.returns-in-Some-clause-err
returns-in-Some-clause-err g c x all lawful same =
    let s = c.in_ok-prefix.ensures.ok x lawful in
    let here = subst (λ ks. HaveSame all (c.args.stored.now ++ (c.args.segments.now ++ ks))) (sym c.as_slice.ensures.value) same in
    inr (key-nesting all c.args.key.now c.in_ok-prefix.prefix.now (x.prefix_of c.args.key.now) (Some c.in-Some.error) s.0 s.1 (sym c.in-Some.is ∙ c.in_ok-error.ensures.refusal all here))

pub returns-clause-ok : goal.returns-clause-ok
returns-clause-ok g c x all lawful same =
    let s = c.in_ok-prefix.ensures.ok x lawful in
    let here = subst (λ ks. HaveSame all (c.args.stored.now ++ (c.args.segments.now ++ ks))) (sym c.as_slice.ensures.value) same in
    key-nesting all c.args.key.now c.in_ok-prefix.prefix.now (x.prefix_of c.args.key.now) None s.0 s.1 (sym c.in_default.is ∙ c.in_ok-error.ensures.refusal all here)
