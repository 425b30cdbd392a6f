-- A command that makes a call whole, and steps after others.
use Rattle.std.proofs.Common.{◌≡◌, List, [], ◌∷◌, ◌++◌, subst}
use Rattle.slate_script.specs.declared.commands.Command.{Command}
use Rattle.slate_script.specs.declared.replies.Reply.{Reply}
use Rattle.slate_live.specs.Calls.{Kind, Whole, kind_of}
use Rattle.slate_live.specs.Next.{Next, NextBy}
use Rattle.slate_live.specs.Settings.{Settings}
use Rattle.slate_live.specs.Steps.{Chain, Step, last_world}
use Rattle.slate_live.specs.World.{NextWhole, World}

pub next-whole : (settings : Settings) (w : World) (command : Command) (reply : Reply) (w' : World) → kind_of command.action ≡ Whole → Next settings w command reply w' → NextWhole settings w command reply w'
next-whole settings w command reply w' whole next = subst (λ (k : Kind). NextBy k settings w command reply w') whole next

-- steps after others: a chain of each
pub link-halves : (settings : Settings) (w : World) (xs ys : List Step) → Chain settings w (xs ++ ys) → Chain settings w xs × Chain settings (last_world w xs) ys
link-halves settings w [] ys chain = (tt, chain)
link-halves settings w (x ∷ xs) ys chain = let rest = link-halves settings x.world xs ys chain.1 in ((chain.0, rest.0), rest.1)
