use Rattle.std.proofs.Common.{reverse, ap, ◌∙◌}
use Rattle.slate_store.specs.declared.objects.VersionedManifest.{VersionedManifest}
use Rattle.slate_writer.proofs.Spanning.{missing-back}
use Rattle.slate_writer.proofs.states.WriterState.read_newest_first.Goals as goal

pub returns-clause-missing : goal.returns-clause-missing
returns-clause-missing g c is =
    missing-back (g.S.Store.objects c.args.store.now) c.args.self.now.view.manifest.tables c.as_slice-2.result.now
    (c.as_slice-2.ensures.value ∙ (c.in_ok-ids.ensures ∙ ap reverse (c.as_slice.ensures ∙ ap (λ (v : VersionedManifest). v.manifest.tables) c.view.ensures)))
    (c.read_tables.ensures.missing is)
