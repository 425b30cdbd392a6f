use Rattle.std.proofs.Common.{◌≡◌, Ok, subst}
use Rattle.slate_reads.specs.Read.{row_after}
use Rattle.slate_reads.specs.Tails.{seen}
use Rattle.slate_reads.proofs.Tails.{fold_versions-more, keyed-more}
use Rattle.slate_reads.proofs.reads.fold.Goals as goal

pub loop-version-preserved : goal.loop-version-preserved
loop-version-preserved g c = record {
  left = λ merge lawful.
      let version = c.version-item.result in
      let applied = subst (λ before. row_after merge version.key_op.now.key before (seen version) version.key_op.now.op ≡ Ok c.in_ok-row.row)
      c.as_ref.ensures.value (c.in_ok-row.ensures.plain merge lawful) in
      fold_versions-more merge c.args.key.now c.loop-version.row c.in_ok-row.row c.args.versions.now c.loop-version.version-index c.version-item.result _
      c.loop-version-test.true c.version-item.is c.requires applied (c.loop-version.invariant.left merge lawful);
  keyed = keyed-more c.args.key.now c.args.versions.now c.loop-version.version-index c.version-item.result c.in_ok-row.row
      c.loop-version-test.true c.version-item.is c.requires c.in_ok-row.ensures.keyed;
}
