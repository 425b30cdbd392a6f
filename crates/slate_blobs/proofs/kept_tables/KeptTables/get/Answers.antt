use Rattle.std.proofs.Common.{rules, ◌≡◌, ◌∙◌, Some, ap, sym}
use Rattle.std.specs.List.{find}
use Rattle.std.specs.Option.{option_map}
use Rattle.std.proofs.lemmas.Iterator.{YieldsList-from_slice}
use Rattle.std.proofs.lemmas.Iterator.Search.{find_from_yields_List}
use Rattle.slate_blobs.specs.declared.kept_tables.KeptTable.{KeptTable}
use Rattle.slate_blobs.specs.Kept.{is_of}
use Rattle.slate_blobs.proofs.Kept.{copy-answer}
use Rattle.slate_blobs.proofs.kept_tables.KeptTables.get.Goals as goal

pub returns : goal.returns
returns c =
    let tables = c.args.self.now.tables.items in
    let found = find_from_yields_List (is_of c.args.id) _ _ _ c.find.ensures.ran (YieldsList-from_slice tables cc) (λ x b q k. search rules) in
    let at : find (is_of c.args.id) tables ≡ Some c.in_ok-kept.kept.now = sym found ∙ ap (option_map (λ k. k.now)) c.in_ok-kept.was in
    copy-answer _ _ _ _ _ (ap (option_map (λ (k : KeptTable). k.table)) at) c.clone.ensures.cases c.ok.ensures.value
