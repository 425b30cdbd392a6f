use Rattle.slate_blobs.proofs.Stored.{put-there, stored-puts-kept}
use Rattle.slate_blobs.proofs.table_folders.TableFolder.put.Goals as goal

pub invariant_of-self : goal.invariant_of-self
invariant_of-self g c =
    stored-puts-kept c.args.id c.args.bytes.now c.put_if_absent.result (λ kept. kept.tables.items) c.self.inside.kept (g.T.Blobs.held c.self.inside.blobs) _ c.put_if_absent.ensures.put c.self.invariant

pub invariant_of-self-2 : goal.invariant_of-self-2
invariant_of-self-2 g c =
    stored-puts-kept c.args.id c.args.bytes.now c.put_if_absent.result (λ kept. kept.tables.items) c.self.inside.kept (g.T.Blobs.held c.self.inside.blobs) _ c.put_if_absent.ensures.put c.self.invariant

pub keep-requires : goal.keep-requires
keep-requires g c =
    put-there c.args.id c.args.bytes.now c.args.table.now (g.T.Blobs.held c.self.inside.blobs) (g.T.Blobs.held c.put_if_absent.new.self) c.requires c.in_ok-put_if_absent.ensures.put
