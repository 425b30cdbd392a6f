use Rattle.std.proofs.Common.{rules, ◌≡◌, Err}
use Rattle.slate_blobs.proofs.Found.{manifest-answer, manifest-refused}
use Rattle.slate_blobs.proofs.blob_stores.BlobStoreStore.read_manifest.Goals as goal

pub returns-in_err-bytes-clause-found : goal.returns-in_err-bytes-clause-found
returns-in_err-bytes-clause-found g c =
    let error : c.from_residual.result ≡ Err c.in_err-bytes.field-0.0 = search rules in
    manifest-refused (g.N.Blobs.held c.args.self.now.manifests) (g.N.Blobs.held c.args.self.now.logs) (g.T.Blobs.held c.args.self.now.tables) c.args.id c.from_residual.result c.in_err-bytes.field-0.0 error c.in_err-bytes.ensures.found

pub returns-clause-found : goal.returns-clause-found
returns-clause-found g c =
    manifest-answer (g.N.Blobs.held c.args.self.now.manifests) (g.N.Blobs.held c.args.self.now.logs) (g.T.Blobs.held c.args.self.now.tables) c.args.id c.in_ok-bytes.bytes c.decode_manifest.result c.answer_with.result
    c.answer_with.ensures.answer c.in_ok-bytes.ensures.found c.decode_manifest.ensures.read
