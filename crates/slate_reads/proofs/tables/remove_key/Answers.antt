use Rattle.std.proofs.Common.{◌≡◌, ◌∙◌, ap, ℕ, Bool, true, false, cond, Option, None, IsSome}
use Rattle.std.specs.Str.{bytes_eq}
use Rattle.std.specs.HashMap.{get}
use Rattle.std.specs.BTreeSet.{contains}
use Rattle.std.proofs.lemmas.Map.Text.{is_eq-slice_cmp}
use Rattle.slate_types.specs.Range.{key_cmp}
use Rattle.slate_reads.proofs.tables.remove_key.Goals as goal

-- a key that stays in the map stays in the set
kept : (t was is : Bool) (old new : Option (Option ℕ)) → is ≡ cond t false was → new ≡ cond t None old → IsSome new → (IsSome old → was ≡ true) → is ≡ true
kept true was is old new removed gone some there = absurd (let none = rw gone at some in cc)
kept false was is old new removed gone some there = removed ∙ there (rw gone at some)

pub returns-clause-ordered : goal.returns-clause-ordered
returns-clause-ordered c ordered key some =
    kept (bytes_eq c.args.key.now key) (contains key_cmp c.args.order.now key) _ (get bytes_eq c.args.latest.now key) _
    (c.remove-2.ensures.updates.0 key ∙ ap (λ t. cond t false (contains key_cmp c.args.order.now key)) (is_eq-slice_cmp c.args.key.now key)) (c.remove.ensures.updates.0 key) some (ordered key)
