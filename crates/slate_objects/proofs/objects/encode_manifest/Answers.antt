use Rattle.std.proofs.Common.{ℕ, List, ◌++◌, ◌∙◌, ap, arith}
use Rattle.slate_objects.specs.Manifests.{manifest_of}
use Rattle.slate_objects.specs.Objects.{manifest_in, manifest_kind, manifest_version, untracked_version}
use Rattle.slate_objects.specs.Sealing.{has_version}
use Rattle.slate_objects.proofs.BothLaws.{manifest_format}
use Rattle.slate_objects.proofs.Sealed.{version_sealed, written_again}
use Rattle.slate_objects.proofs.Writing.{if_ok}
use Rattle.slate_objects.proofs.objects.encode_manifest.Goals as goal

pub returns-clause-again : goal.returns-clause-again
unfolding manifest_in
returns-clause-again c =
    let same = c.as_slice.ensures.value ∙ c.in_ok-write.ensures.0 ∙ ap (λ (b : List ℕ). b ++ manifest_of c.args.manifest.now) c.new-body.ensures.items in
    if_ok c.seal.result c.seal.ensures.sealed c.seal.ensures.sum (λ bytes is sum.
    rw (ap (has_version untracked_version) is ∙ version_sealed manifest_kind manifest_version untracked_version c.as_slice.result.now (omega arith))
    (written_again manifest_format manifest_kind manifest_version c.args.manifest.now c.as_slice.result.now bytes.items (omega arith) (omega arith) c.in_ok-write.ensures.1 same c.seal.ensures.fits is sum))
