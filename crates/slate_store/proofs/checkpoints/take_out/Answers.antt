use Rattle.std.proofs.Common.{rules, not}
use Rattle.std.proofs.lemmas.Fn.{filter_same}
use Rattle.slate_store.specs.declared.objects.Checkpoint.{Checkpoint}
use Rattle.slate_store.specs.Checkpoints.{has_id}
use Rattle.slate_store.proofs.checkpoints.take_out.Goals as goal

pub returns : goal.returns
returns c = filter_same _ (λ (x : Checkpoint). not (has_id c.args.id x)) _ (λ x b f' k. search rules) _ _ c.retain.ensures.filtered
