use Rattle.slate_status.proofs.Same.{versioned}
use Rattle.slate_status.proofs.records.is_same_manifest.Goals as goal

pub returns : goal.returns
returns c = versioned c.args.one.now c.args.other.now c.eq.result c.eq.ensures
