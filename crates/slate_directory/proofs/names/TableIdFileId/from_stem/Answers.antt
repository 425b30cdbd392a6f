use Rattle.std.proofs.Common.{refl, sym, ◌∙◌}
use Rattle.slate_directory.specs.Names.{number_stem}
use Rattle.slate_directory.proofs.NameLemmas.{length_stem, same_parts}
use Rattle.slate_directory.proofs.names.TableIdFileId.from_stem.Goals as goal

pub returns-in_err-epoch-clause-none : goal.returns-in_err-epoch-clause-none
returns-in_err-epoch-clause-none c = λ none id fits. let h = c.in_err-epoch.ensures.none in h refl (number_stem id.epoch) (number_stem id.index) (length_stem id.epoch fits.0)

pub returns-in_err-from_stem-clause-none : goal.returns-in_err-from_stem-clause-none
returns-in_err-from_stem-clause-none c = λ none id fits same.
    let found = c.in_ok-epoch.ensures.found in
    let parts = same_parts c.in_ok-epoch.epoch.now c.in_ok-epoch.index.now (number_stem id.epoch) (number_stem id.index) (found.1 ∙ sym (length_stem id.epoch fits.0)) (sym found.0 ∙ same) in
    c.in_err-from_stem.ensures.none refl id.epoch fits.0 parts.0

pub returns-in_err-from_stem-2-clause-none : goal.returns-in_err-from_stem-2-clause-none
returns-in_err-from_stem-2-clause-none c = λ none id fits same.
    let found = c.in_ok-epoch.ensures.found in
    let parts = same_parts c.in_ok-epoch.epoch.now c.in_ok-epoch.index.now (number_stem id.epoch) (number_stem id.index) (found.1 ∙ sym (length_stem id.epoch fits.0)) (sym found.0 ∙ same) in
    c.in_err-from_stem-2.ensures.none refl id.index fits.1 parts.1
