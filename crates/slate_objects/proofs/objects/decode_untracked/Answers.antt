use Rattle.std.proofs.Common.{inr}
use Rattle.slate_objects.specs.Objects.{manifest_kind, untracked_bytes, untracked_version}
use Rattle.slate_objects.proofs.BothLaws.{untracked_format}
use Rattle.slate_objects.proofs.Sealed.{opened_only}
use Rattle.slate_objects.proofs.Writing.{if_ok}
use Rattle.slate_objects.proofs.objects.decode_untracked.Goals as goal

pub returns-clause-only : goal.returns-clause-only
unfolding untracked_bytes
returns-clause-only c =
    let only = opened_only untracked_format manifest_kind untracked_version c.args.bytes c.in_ok-rest.rest c.read_untracked.new.bytes c.in_ok-manifest.manifest c.whole.result c.open_body.ensures.are_bytes c.in_ok-rest.ensures.read c.in_ok-manifest.ensures c.whole.ensures in
    if_ok c.whole.result only only (λ manifest is same. inr (is.0, is.1.1))
