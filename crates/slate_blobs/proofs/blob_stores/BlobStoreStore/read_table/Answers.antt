use Rattle.std.proofs.Common.{rules, ◌≡◌, Err}
use Rattle.slate_objects.specs.Objects.{table_in}
use Rattle.slate_blobs.proofs.Found.{decoded-ok, table-found, table-kept, table-refused, table-there}
use Rattle.slate_blobs.proofs.blob_stores.BlobStoreStore.read_table.Goals as goal

pub returns-in-Some-clause-found : goal.returns-in-Some-clause-found
returns-in-Some-clause-found g c =
    table-kept (g.N.Blobs.held c.args.self.now.manifests) (g.N.Blobs.held c.args.self.now.logs) (g.T.Blobs.held c.args.self.now.tables) c.args.id c.in-Some.table c.in-Some.ensures

pub returns-in_err-bytes-clause-found : goal.returns-in_err-bytes-clause-found
returns-in_err-bytes-clause-found g c =
    let error : c.from_residual.result ≡ Err c.in_err-bytes.field-0.0 = search rules in
    table-refused (g.N.Blobs.held c.args.self.now.manifests) (g.N.Blobs.held c.args.self.now.logs) (g.T.Blobs.held c.args.self.now.tables) c.args.id c.from_residual.result c.in_err-bytes.field-0.0 error c.in_err-bytes.ensures.found

pub keep-requires : goal.keep-requires
keep-requires g c =
    let decoded = decoded-ok c.decode_table.result (table_in c.in_ok-bytes.bytes) c.in_ok-batches.batches c.in_ok-batches.ensures.answer c.decode_table.ensures.read in
    let table : c.in-Some-2.table ≡ c.in_ok-batches.batches = search rules in
    table-there (g.T.Blobs.held c.args.self.now.tables) (g.T.Blobs.held c.get.new.self) c.args.id c.in_ok-bytes.bytes c.in_ok-batches.batches c.in-Some-2.table c.in_ok-bytes.ensures.kept table c.in_ok-bytes.ensures.found decoded

pub returns-in-Some-2-clause-found : goal.returns-in-Some-2-clause-found
returns-in-Some-2-clause-found g c =
    let decoded = decoded-ok c.decode_table.result (table_in c.in_ok-bytes.bytes) c.in_ok-batches.batches c.in_ok-batches.ensures.answer c.decode_table.ensures.read in
    let table : c.in-Some-2.table ≡ c.in_ok-batches.batches = search rules in
    table-found (g.N.Blobs.held c.args.self.now.manifests) (g.N.Blobs.held c.args.self.now.logs) (g.T.Blobs.held c.args.self.now.tables) c.args.id c.in_ok-bytes.bytes c.in_ok-batches.batches c.in-Some-2.table table c.in_ok-bytes.ensures.found decoded
