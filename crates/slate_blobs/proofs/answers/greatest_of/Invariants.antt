use Rattle.std.proofs.Common.{◌≡◌, drop}
use Rattle.slate_store.specs.Objects.{greatest}
use Rattle.slate_blobs.proofs.answers.greatest_of.Given as goal

-- the greatest so far and of what is left is the greatest of all
abbrev pub invariant-loop-id : goal.invariant-loop-id
invariant-loop-id l = greatest l.last (drop l.id-index l.ids) ≡ greatest l.fn.number l.ids
