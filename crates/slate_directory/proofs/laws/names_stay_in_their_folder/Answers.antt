use Rattle.std.proofs.Common.{◌≢◌, ℕ, ◌∷◌}
use Rattle.std.proofs.lemmas.List.Elements.{All-append, All-cons}
use Rattle.slate_directory.specs.Names.{number_stem}
use Rattle.slate_directory.proofs.NameLemmas.{no_slash, stem_digits}
use Rattle.slate_directory.proofs.laws.names_stay_in_their_folder.Goals as goal

pub returns-clause-numbers : goal.returns-clause-numbers
returns-clause-numbers c = λ n fits. no_slash (number_stem n) (stem_digits n fits)

pub returns-clause-tables : goal.returns-clause-tables
returns-clause-tables c = λ id epoch index.
    All-append (λ (b : ℕ). b ≢ 47) (number_stem id.epoch) (45 ∷ number_stem id.index) (no_slash (number_stem id.epoch) (stem_digits id.epoch epoch))
    (All-cons (λ (b : ℕ). b ≢ 47) 45 (number_stem id.index) (λ is. absurd (cc)) (no_slash (number_stem id.index) (stem_digits id.index index)))
