use Rattle.std.proofs.Common.{◌∙◌, ap, sym, ℕ, List}
use Rattle.std.specs.List.{list_any}
use Rattle.std.specs.Prelude.{nat_lt}
use Rattle.slate_types.specs.Range.{contains}
use Rattle.slate_transactions.specs.Transaction.{is_newer_in}
use Rattle.slate_transactions.specs.Writes.{Tracking}
use Rattle.slate_transactions.proofs.Tracking.{any-filter, numbered-any}
use Rattle.slate_transactions.proofs.conflicts.is_written_in.Goals as goal

pub returns : goal.returns
returns c =
    let entries = c.writes.inside.last.entries in
    let newer = λ (e : List ℕ × ℕ). nat_lt c.args.number e.1 in
    c.is_any_above.ensures ∙ ap (list_any newer) c.entries_in.ensures ∙ any-filter (λ (e : List ℕ × ℕ). contains c.args.range.now e.0) newer entries
    ∙ sym (numbered-any c.args.number (contains c.args.range.now) entries) ∙ ap (λ (t : Tracking). is_newer_in c.args.number t.writes c.args.range.now) c.writes.view_is
