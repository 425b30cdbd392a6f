use Rattle.std.proofs.Common.{◌∙◌, ap, sym, subst, ◌++◌, [], map, None, Option, Result}
use Rattle.slate_types.specs.declared.batches.KeyValue.{KeyValue}
use Rattle.slate_types.specs.declared.read_faults.ReadFault.{ReadFault}
use Rattle.slate_reads.specs.Read.{Reads, fold_versions, since_base, versions_in}
use Rattle.slate_reads.specs.Tails.{seen}
use Rattle.slate_transactions.proofs.Owning.{begun-tail, row-history}
use Rattle.slate_transactions.proofs.own_reads.fold_over.Goals as goal

pub fold-requires : goal.fold-requires
fold-requires g c =
    let first = c.in_ok-add_versions.ensures [] (begun-tail c.args.key.now c.new-versions.result.items c.new-versions.ensures.items) in
    rw c.as_slice.ensures.value ((c.in_ok-add_versions-2.ensures _ first).same_key)

pub returns-clause-plain : goal.returns-clause-plain
returns-clause-plain g c merge lawful =
    let key = c.args.key.now in
    let own = c.args.own.now in
    let first = c.in_ok-add_versions.ensures [] (begun-tail key c.new-versions.result.items c.new-versions.ensures.items) in
    let tail = c.in_ok-add_versions-2.ensures _ first in
    let held = ap (map seen) c.as_slice.ensures.value ∙ tail.tail ∙ ap since_base (ap (λ b. versions_in key b ++ versions_in key own) c.in_ok-base.ensures ∙ sym (row-history c.args.before own key)) in
    subst (λ (r : Result (Option KeyValue) ReadFault). Reads r c.fold.result) (ap (fold_versions merge key None) held) (c.fold.ensures.plain merge lawful)
