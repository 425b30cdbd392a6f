use Rattle.std.proofs.Common.{◌++◌, Some, None, ap, subst, sym, ◌∙◌}
use Rattle.std.specs.Option.{option_copied}
use Rattle.slate_writer.specs.Segments.{IsConflict}
use Rattle.slate_writer.proofs.Segmenting.{nesting-is}
use Rattle.slate_writer.proofs.key_prefixes.nesting_refusal.Goals as goal

pub returns-in-None-clause-refusal : goal.returns-in-None-clause-refusal
returns-in-None-clause-refusal c all same =
    let p = c.args.prefix.now in
    let known = c.args.stored.now ++ (c.args.segments.now ++ c.args.taken.now) in
    sym (nesting-is all known p None same (subst (IsConflict known p) (ap option_copied c.in-None.is) c.conflict.ensures))

pub returns-in_ok-nested_segment-in-Some-clause-refusal : goal.returns-in_ok-nested_segment-in-Some-clause-refusal
returns-in_ok-nested_segment-in-Some-clause-refusal c all same =
    let p = c.args.prefix.now in
    let known = c.args.stored.now ++ (c.args.segments.now ++ c.args.taken.now) in
    ap Some c.in_ok-nested_segment-in-Some.ensures ∙ sym (nesting-is all known p (Some c.in-Some.other.now) same (subst (IsConflict known p) (ap option_copied c.in-Some.is) c.conflict.ensures))
