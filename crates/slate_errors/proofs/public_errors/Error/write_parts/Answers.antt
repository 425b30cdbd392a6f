use Rattle.slate_errors.proofs.TextLemmas.{kept_behind_three}
use Rattle.slate_errors.proofs.public_errors.Error.write_parts.Goals as goal

pub returns-clause-err : goal.returns-clause-err
returns-clause-err c =
    kept_behind_three c.args.out.now.items _ _ _ c.write_text.new.out.items c.write_text-2.new.out.items c.write_message.new.out.items c.write_source.new.out.items c.write_source.result
    c.in_ok-write_text.ensures.ok c.in_ok-write_text-2.ensures.ok c.in_ok-write_message.ensures.ok c.write_source.ensures.err
