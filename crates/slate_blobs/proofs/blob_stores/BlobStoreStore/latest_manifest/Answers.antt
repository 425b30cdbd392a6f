use Rattle.std.proofs.Common.{rules, ◌≡◌, Some}
use Rattle.slate_objects.specs.Objects.{manifest_in}
use Rattle.slate_store.specs.Objects.{last}
use Rattle.slate_blobs.proofs.Found.{decoded-ok, latest-answer, latest-greatest}
use Rattle.slate_blobs.proofs.blob_stores.BlobStoreStore.latest_manifest.Goals as goal

pub returns-in-Ok-clause-found : goal.returns-in-Ok-clause-found
returns-in-Ok-clause-found g c =
    let decoded = decoded-ok c.decode_manifest.result (manifest_in c.in-Ok.bytes) c.in_ok-manifest-in-Ok.manifest c.in_ok-manifest-in-Ok.ensures.answer c.decode_manifest.ensures.read in
    let is : last c.in_ok-ids.ids ≡ Some c.in-Some.id.now = search rules in
    latest-answer (g.N.Blobs.held c.args.self.now.manifests) (g.N.Blobs.held c.args.self.now.logs) (g.T.Blobs.held c.args.self.now.tables) c.in_ok-ids.ids c.in-Some.id.now c.in-Ok.bytes c.in_ok-manifest-in-Ok.manifest
    (g.N.Blobs.held c.list.new.self) c.in_ok-ids.ensures.kept c.in_ok-ids.ensures.found c.in_ok-ids.ensures.rising is c.in-Ok.ensures.found decoded

pub returns-in-Ok-clause-greatest : goal.returns-in-Ok-clause-greatest
returns-in-Ok-clause-greatest g c =
    let is : last c.in_ok-ids.ids ≡ Some c.in-Some.id.now = search rules in
    latest-greatest (g.N.Blobs.held c.args.self.now.manifests) (g.N.Blobs.held c.args.self.now.logs) (g.T.Blobs.held c.args.self.now.tables) c.in_ok-ids.ids c.in-Some.id.now c.in_ok-manifest-in-Ok.manifest
    c.in_ok-ids.ensures.found c.in_ok-ids.ensures.rising is
