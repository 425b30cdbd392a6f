use Rattle.std.proofs.Common.{List, ap, subst, ◌∙◌}
use Rattle.std.specs.Option.{IfSome}
use Rattle.slate_store.specs.declared.objects.TableId.{TableId}
use Rattle.slate_store.specs.declared.objects.VersionedManifest.{VersionedManifest}
use Rattle.slate_model.specs.Tables.{AreStored}
use Rattle.slate_writer.proofs.states.WriterState.read_tables.Goals as goal

pub returns-clause-missing : goal.returns-clause-missing
returns-clause-missing g c is =
    subst (λ (ids : List TableId). IfSome (g.S.Store.objects c.args.store.now) (λ o. AreStored o ids → ⊥))
    (c.as_slice-ids.ensures ∙ ap (λ (v : VersionedManifest). v.manifest.tables) c.view.ensures) (c.read_tables.ensures.missing is)
