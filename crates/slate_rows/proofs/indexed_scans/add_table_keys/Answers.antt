use Rattle.std.proofs.Common.{◌≡◌, ◌∙◌, ap, ◌++◌}
use Rattle.std.proofs.lemmas.List.{map-append}
use Rattle.std.proofs.lemmas.Iterator.Adapters.{fact_from_extend}
use Rattle.std.proofs.lemmas.Iterator.Consumers.{YieldsList-from_rest}
use Rattle.slate_rows.specs.Walked.{key_list}
use Rattle.slate_rows.proofs.Walks.{AreWalked-more}
use Rattle.slate_rows.proofs.indexed_scans.add_table_keys.Goals as goal

pub returns : goal.returns
returns c batches walked =
    let old = c.args.keys.now.items in
    let items : key_list c.extend.new.self.items ≡ key_list old ++ c.keys.result =
    rw c.in_ok-extend.was at (fact_from_extend {Q = key_list c.extend.new.self.items ≡ key_list old ++ c.keys.result} (λ y. y.now) c.extend.result c.extend.ensures.ran
    (λ it b. YieldsList-from_rest c.keys.result b) (λ xs e h. ap key_list h.0 ∙ map-append (λ y. y.now) old xs ∙ ap (λ ks. key_list old ++ ks) e)) in
    rw items (AreWalked-more batches c.args.table.now c.args.range.now (key_list old) c.keys.result walked c.keys.ensures.within c.keys.ensures.whole)
