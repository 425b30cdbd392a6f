use Rattle.std.proofs.Common.{◌≡◌, ◌+◌, arith, length, drop, sym, ap, ◌∙◌}
use Rattle.std.specs.List.{position_or_len}
use Rattle.std.specs.Str.Lines.{strip_carriage_return}
use Rattle.std.proofs.lemmas.Bool.{eqb-true}
use Rattle.slate_script.proofs.LineLemmas.{line_cut, prefix_within, behind_place, nothing_behind}
use Rattle.slate_script.specs.Lines.{is_newline}
use Rattle.slate_script.proofs.fields.take_line.Goals as goal
use Rattle.slate_script.proofs.fields.take_line.Goals.{then-not-is_empty, else-not-is_empty}

pub split_to-requires : goal.split_to-requires
split_to-requires c = omega (arith, c.end_of_line.ensures, prefix_within is_newline c.as_slice.result.now, ap length c.as_slice.ensures)

pub returns-clause-line : goal.returns-clause-line
returns-clause-line c =
    let end : c.end_of_line.result ≡ position_or_len is_newline c.args.rest.now = c.end_of_line.ensures ∙ ap (position_or_len is_newline) c.as_slice.ensures in
    let behind : c.if-not-is_empty.rest ≡ drop (c.end_of_line.result + 1) c.args.rest.now = elim c.if-not-is_empty.branch [
      | then-not-is_empty w ↦ w.rest-is ∙ behind_place c.end_of_line.result c.args.rest.now c.split_to.new.self _ c.in_ok-line.ensures.rest w.advance.ensures
      | else-not-is_empty w ↦ w.rest-is ∙ nothing_behind c.end_of_line.result c.args.rest.now c.split_to.new.self c.in_ok-line.ensures.rest (eqb-true (length c.split_to.new.self) 0 (sym c.is_empty.ensures ∙ w.if-not-is_empty.false))
    ] in
    line_cut c.args.rest.now c.without_carriage_return.result c.if-not-is_empty.rest c.end_of_line.result c.requires end (c.without_carriage_return.ensures ∙ ap strip_carriage_return c.in_ok-line.ensures.front) behind
