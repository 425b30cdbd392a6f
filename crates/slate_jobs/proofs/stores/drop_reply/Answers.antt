use Rattle.std.proofs.Common.{ap, ◌∙◌}
use Rattle.std.specs.BTreeMap.{is_at}
use Rattle.std.specs.Map.{remove_entry}
use Rattle.std.specs.Ordering.{nat_cmp}
use Rattle.slate_jobs.proofs.Entries.{put-removed}
use Rattle.slate_jobs.proofs.stores.drop_reply.Goals as goal

pub returns : goal.returns
returns c = λ reply before free was.
    c.remove.ensures.entries ∙ (ap (remove_entry (is_at (nat_cmp c.args.request))) was ∙ put-removed c.args.request reply before free)
