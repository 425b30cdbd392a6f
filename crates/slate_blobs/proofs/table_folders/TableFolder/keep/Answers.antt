use Rattle.std.proofs.Common.{◌≡◌, Some}
use Rattle.std.specs.Option.{IfSome}
use Rattle.slate_store.specs.Objects.{table_cmp}
use Rattle.slate_blobs.specs.Decoded.{each, table_held}
use Rattle.slate_blobs.specs.Entries.{value_at}
use Rattle.slate_blobs.specs.Kept.{AreStored}
use Rattle.slate_blobs.proofs.Folders.{known}
use Rattle.slate_blobs.proofs.Stored.{stored-keeps}
use Rattle.slate_blobs.proofs.table_folders.TableFolder.keep.Goals as goal

pub invariant_of-self : goal.invariant_of-self
invariant_of-self g c =
    let held = g.T.Blobs.held c.self.inside.blobs in
    let here : IfSome (g.T.Blobs.held c.self.inside.blobs) (λ blobs. value_at table_cmp c.args.id (each table_held blobs) ≡ Some c.args.table.now) = rw c.self.view_is c.requires in
    let stored = known (λ kept. AreStored kept.tables.items held) _ c.in-Some.kept c.in-Some.is c.self.invariant in
    stored-keeps _ _ _ _ held here stored c.keep.ensures.tables
