-- A bound that was printed is read again.
use Rattle.std.proofs.Common.{◌≡◌, Some, refl, ap}
use Rattle.std.specs.Option.{option_map}
use Rattle.slate_types.specs.declared.ranges.KeyBound.{KeyBound}
use Rattle.slate_types.specs.declared.ranges.KeyBound.TheVariants.{Unbounded, Included, Excluded}
use Rattle.slate_text.proofs.WordLemmas.{word_again}
use Rattle.slate_errors.specs.Texts.{bound_text}
use Rattle.slate_script.specs.Values.{bound_of, IsOfBytes}

pub bound_again : (bound : KeyBound) → IsOfBytes bound → bound_of (bound_text bound) ≡ Some bound
bound_again Unbounded bytes = refl
bound_again (Included key) bytes = ap (option_map (λ k. Included k)) (word_again key bytes)
bound_again (Excluded key) bytes = ap (option_map (λ k. Excluded k)) (word_again key bytes)
