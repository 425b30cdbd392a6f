use Rattle.std.proofs.Common.{◌∙◌, ap, subst, sym}
use Rattle.slate_blobs.specs.Kept.{AreStored}
use Rattle.slate_blobs.proofs.Folders.{known}
use Rattle.slate_blobs.proofs.Stored.{given, stored-removes, unless-some}
use Rattle.slate_blobs.proofs.table_folders.TableFolder.remove.Goals.{in-Some, in_default}
use Rattle.slate_blobs.proofs.table_folders.TableFolder.remove.Goals as goal

pub invariant_of-self : goal.invariant_of-self
invariant_of-self g c =
    let before = g.T.Blobs.held c.match-self.self-inside.blobs in
    elim c.match-self.branch [
      | in-Some w ↦
          let same = ap (λ folder. g.T.Blobs.held folder.blobs) w.self-inside-is in
          let stored = known (λ kept. AreStored kept.tables.items (g.T.Blobs.held c.self.inside.blobs)) _ w.in-Some.kept w.in-Some.is c.self.invariant in
          let left = stored-removes c.args.id c.remove.result w.in-Some.kept.tables.items w.forget.new.self.tables.items before _ c.remove.ensures.removed w.forget.ensures.tables (subst (AreStored w.in-Some.kept.tables.items) (sym same) stored) in
          given (λ kept. AreStored kept.tables.items (g.T.Blobs.held c.remove.new.self)) _ w.forget.new.self (ap (λ folder. folder.kept) w.self-inside-is) left
      | in_default w ↦
          unless-some (λ kept. AreStored kept.tables.items (g.T.Blobs.held c.remove.new.self)) _ (λ kept is. w.in_default.not-Some kept (sym (ap (λ folder. folder.kept) w.self-inside-is) ∙ is))
    ]
