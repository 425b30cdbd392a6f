use Rattle.slate_text.proofs.AppendLemmas.{kept_front, always_on_err}
use Rattle.slate_script.specs.Replies.{replies_text}
use Rattle.std.proofs.Common.{take}
use Rattle.slate_script.proofs.printing.write_replies.Goals as goal

pub returns-in_err-write_reply-clause-err : goal.returns-in_err-write_reply-clause-err
returns-in_err-write_reply-clause-err c =
    always_on_err _ (kept_front c.args.out.now.items (replies_text (take c.loop-reply.reply-index c.args.replies.now)) c.loop-reply.out.items c.write_reply.new.out.items c.loop-reply.invariant c.in_err-write_reply.ensures.err)
