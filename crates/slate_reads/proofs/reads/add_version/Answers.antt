use Rattle.slate_reads.proofs.Tails.{IsTail-more}
use Rattle.slate_reads.proofs.reads.add_version.Goals as goal
use Rattle.slate_reads.proofs.reads.add_version.Goals.{then-is_base, else-is_base}

pub returns : goal.returns
returns c history before =
    IsTail-more history c.args.versions.now.items c.if-is_base.versions.items c.push.new.self.items c.args.version c.is_base.result c.is_base.ensures
    (elim c.if-is_base.branch [
      | then-is_base w ↦ rw (w.versions-is, w.if-is_base.true) w.clear.ensures.items
      | else-is_base w ↦ rw (w.versions-is, w.if-is_base.false)
    ])
    c.in_ok-push.ensures.items before
