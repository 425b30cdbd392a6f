use Rattle.std.proofs.Common.{◌≡◌, ◌+◌, length, ltb, take}
use Rattle.std.specs.List.{filter}
use Rattle.slate_store.specs.Content.{AreGapless}
use Rattle.slate_check.proofs.ids.last_gapless.Given as goal

abbrev pub invariant-loop-id : goal.invariant-loop-id
invariant-loop-id l = record {
  gapless : AreGapless l.mark (filter (λ id. ltb l.mark id) (take l.id-index l.ids));
  reached : l.last ≡ l.mark + length (filter (λ id. ltb l.mark id) (take l.id-index l.ids));
}
