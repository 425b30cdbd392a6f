use Rattle.std.proofs.Common.{take}
use Rattle.std.specs.List.{flat_map}
use Rattle.slate_text.proofs.AppendLemmas.{kept_front, always_on_err}
use Rattle.slate_script.specs.Replies.{row_text}
use Rattle.slate_script.proofs.printing.write_each_row.Goals as goal

pub returns-in_err-write_row-clause-err : goal.returns-in_err-write_row-clause-err
returns-in_err-write_row-clause-err c =
    always_on_err _ (kept_front c.args.out.now.items (flat_map row_text (take c.loop-row.row-index c.args.rows.now)) c.loop-row.out.items c.write_row.new.out.items c.loop-row.invariant c.in_err-write_row.ensures.err)
