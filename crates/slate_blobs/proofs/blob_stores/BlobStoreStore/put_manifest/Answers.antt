use Rattle.std.proofs.Common.{ap, ◌∙◌}
use Rattle.slate_objects.specs.Objects.{manifest_in}
use Rattle.slate_blobs.proofs.Calls.{puts-manifest}
use Rattle.slate_blobs.proofs.blob_stores.BlobStoreStore.put_manifest.Goals as goal

pub returns-clause-put : goal.returns-clause-put
returns-clause-put g c =
    puts-manifest c.args.id c.put_if_absent.result c.as_slice.result.now c.args.manifest.now (g.N.Blobs.held c.args.self.now.manifests) _ (g.N.Blobs.held c.args.self.now.logs) (g.T.Blobs.held c.args.self.now.tables) (ap manifest_in c.as_slice.ensures.value ∙ c.in_ok-bytes.ensures.again) c.put_if_absent.ensures.put
