-- What is stored stays stored by a command that makes a call whole.
use Rattle.std.proofs.Common.{ℕ, nat_le, Option, Some, sym, subst}
use Rattle.slate_types.specs.Line.{IsPrefix, Line}
use Rattle.slate_model.specs.Flush.{grown, grows as counts}
use Rattle.slate_model.specs.Handle.{Handle, unstored}
use Rattle.slate_model.specs.Object.{Object, Handle as AHandle}
use Rattle.slate_script.specs.declared.commands.Command.{Command}
use Rattle.slate_script.specs.declared.replies.Reply.{Reply}
use Rattle.slate_live.specs.Calls.{Call, Flush, Close, call_of, named, target_of}
use Rattle.slate_live.specs.Settings.{Settings}
use Rattle.slate_live.specs.World.{NextWhole, World, grown_by}
use Rattle.slate_live.proofs.Prefixes.{prefix-after, prefix-same}

grown-grows : (made : ℕ) (stored : Line) (handle : Handle) → IsPrefix stored (grown made stored handle)
grown-grows made stored handle = prefix-after stored stored (nat_le (counts handle) made) (unstored handle) (prefix-same stored)

call-grows : (call : Call) (made : ℕ) (stored : Line) (object : Option Object) → IsPrefix stored (grown_by call made stored object)
call-grows (Flush t) made stored (Some (AHandle handle)) = grown-grows made stored handle
call-grows (Close t) made stored (Some (AHandle handle)) = grown-grows made stored handle
call-grows call made stored object = prefix-same stored

pub grows : (settings : Settings) (w : World) (command : Command) (reply : Reply) (w' : World) → NextWhole settings w command reply w' → IsPrefix w.stored w'.stored
grows settings w command reply w' next =
    subst (IsPrefix w.stored) (sym next.stored) (call-grows (call_of command.action) next.made w.stored (named w.objects (target_of command.action)))
