use Rattle.std.proofs.Common.{inl}
use Rattle.std.specs.Prelude.{IfOk}
use Rattle.slate_objects.specs.Objects.{manifest_bytes, manifest_kind, manifest_version}
use Rattle.slate_objects.proofs.BothLaws.{manifest_format}
use Rattle.slate_objects.proofs.Sealed.{read_only}
use Rattle.slate_objects.proofs.Writing.{if_ok}
use Rattle.slate_objects.proofs.objects.decode_manifest.Goals as goal

pub returns-else-has_version-clause-only : goal.returns-else-has_version-clause-only
unfolding manifest_bytes
returns-else-has_version-clause-only c =
    let only = read_only manifest_format manifest_kind manifest_version c.args.bytes c.open.result c.open.ensures.are_bytes c.open.ensures.read in
    if_ok c.open.result only only (λ manifest is same. inl is)
