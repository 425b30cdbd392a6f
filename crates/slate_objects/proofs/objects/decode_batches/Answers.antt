use Rattle.slate_objects.specs.Objects.{version}
use Rattle.slate_objects.proofs.BothLaws.{batch_format}
use Rattle.slate_objects.proofs.Laws.{list_format}
use Rattle.slate_objects.proofs.Sealed.{read_only}
use Rattle.slate_objects.proofs.objects.decode_batches.Goals as goal

pub returns-clause-only : goal.returns-clause-only
returns-clause-only c = read_only (list_format batch_format) c.args.kind version c.args.bytes c.open.result c.open.ensures.are_bytes c.open.ensures.read
