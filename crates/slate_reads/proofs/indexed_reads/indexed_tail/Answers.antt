use Rattle.std.proofs.Common.{◌∙◌, subst, List, ◌++◌, false}
use Rattle.std.specs.List.{flat_map}
use Rattle.slate_reads.specs.Tails.{IsEnd}
use Rattle.slate_reads.specs.Read.{Version, history}
use Rattle.slate_reads.proofs.Ends.{IsTail-whole}
use Rattle.slate_reads.proofs.indexed_reads.indexed_tail.Goals as goal

pub returns : goal.returns
returns c =
    let tables = flat_map (λ table. table) c.args.stored.now ++ flat_map (λ table. table) c.args.memory.now in
    let newest = c.add_from_all.new.newest.items in
    let walk = subst (λ old. (whole rest : List Version) → IsEnd c.args.key.now whole (rest ++ history tables c.args.bound c.args.key.now) false old → IsEnd c.args.key.now whole rest c.in_ok-ended.ended newest)
    c.new-newest.ensures.items c.in_ok-ended.ensures in
    IsTail-whole c.args.key.now c.args.bound c.args.older.now tables c.in_ok-ended.ended newest c.as_slice-2.result.now c.in_ok-versions.versions.items c.extend_from_slice.new.self.items
    walk (rw c.as_slice.ensures at c.in_ok-versions.ensures) (c.as_slice-2.ensures.value ∙ c.reverse.ensures.items) c.in_ok-extend_from_slice.ensures.items
