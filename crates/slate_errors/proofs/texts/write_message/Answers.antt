use Rattle.slate_errors.proofs.TextLemmas.{kept_on_err}
use Rattle.slate_errors.proofs.texts.write_message.Goals as goal

pub returns-clause-err : goal.returns-clause-err
returns-clause-err c =
    kept_on_err c.args.out.now.items _ c.write_text.new.out.items c.write_shown.new.out.items c.write_shown.result c.in_ok-write_text.ensures.ok c.write_shown.ensures.err
