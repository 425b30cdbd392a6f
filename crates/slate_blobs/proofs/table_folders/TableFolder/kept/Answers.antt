use Rattle.slate_blobs.specs.Kept.{AreStored}
use Rattle.slate_blobs.proofs.Folders.{known}
use Rattle.slate_blobs.proofs.Stored.{answer-found}
use Rattle.slate_blobs.proofs.table_folders.TableFolder.kept.Goals as goal

pub returns-in-Some : goal.returns-in-Some
returns-in-Some g c =
    let stored = known (λ kept. AreStored kept.tables.items (g.T.Blobs.held c.self.inside.blobs)) _ c.in-Some.kept c.in-Some.is c.self.invariant in
    rw (← c.self.view_is) (answer-found c.args.id c.in-Some.kept.tables.items c.get.result (g.T.Blobs.held c.self.inside.blobs) stored c.get.ensures)
