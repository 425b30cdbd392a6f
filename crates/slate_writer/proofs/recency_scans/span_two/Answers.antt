use Rattle.std.proofs.Common.{◌∙◌, Some, ap, sym}
use Rattle.std.specs.Option.{option_copied}
use Rattle.slate_writer.proofs.Spanning.{spans-more, spans-none}
use Rattle.slate_writer.proofs.recency_scans.span_two.Goals as goal

pub returns-in-None : goal.returns-in-None
returns-in-None c = spans-none c.args.prefix.now c.args.segments.now (sym c.first_overlap.ensures ∙ ap option_copied c.in-None.is)

pub returns-in-Some : goal.returns-in-Some
returns-in-Some c =
    c.is_another.ensures
    ∙ spans-more c.args.prefix.now c.as_slice.result.now c.args.segments.now (sym c.first_overlap.ensures ∙ (ap option_copied c.in-Some.is ∙ ap Some (sym c.as_slice.ensures)))
