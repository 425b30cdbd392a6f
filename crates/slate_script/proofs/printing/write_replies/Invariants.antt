-- the replies so far are written behind the old text
use Rattle.std.proofs.Common.{◌≡◌, ◌++◌, take}
use Rattle.slate_script.specs.Replies.{replies_text}
use Rattle.slate_script.proofs.printing.write_replies.Given as goal

abbrev pub invariant-loop-reply : goal.invariant-loop-reply
invariant-loop-reply l = l.out.items ≡ l.fn.out.items ++ replies_text (take l.reply-index l.replies)
