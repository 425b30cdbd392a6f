use Rattle.std.proofs.Common.{◌≡◌, ◌∙◌, sym, ap}
use Rattle.std.proofs.lemmas.Slice.Eq.{slice_eq-Decides}
use Rattle.slate_store.specs.declared.objects.VersionedManifest.{VersionedManifest}
use Rattle.slate_readers.proofs.Showing.{table_ids}
use Rattle.slate_readers.proofs.states.is_seen.Goals as goal

pub returns : goal.returns
returns c =
    let tables = slice_eq-Decides table_ids c.as_slice.result.now c.tables.result.now c.eq.result c.eq.ensures in
    let left : c.as_slice.result.now ≡ c.args.reader.now.view.manifest.tables = c.as_slice.ensures ∙ ap (λ (v : VersionedManifest). v.manifest.tables) c.manifest-view.ensures in (
      λ same. record {
        number = sym c.number.ensures ∙ (c.if-number.false ∙ c.number-2.ensures);
        manifest_id = sym (ap (λ (v : VersionedManifest). v.id) c.manifest-view.ensures) ∙ (c.if-view-manifest_id.false ∙ c.manifest_id.ensures);
        last_l0_seq = sym (ap (λ (v : VersionedManifest). v.manifest.last_l0_seq) c.manifest-view.ensures) ∙ (c.if-view-last_l0_seq.false ∙ c.last_l0_seq.ensures);
        tables = sym left ∙ (tables.0 same ∙ c.tables.ensures);
      },
      λ alike. tables.1 (left ∙ (alike.tables ∙ sym c.tables.ensures)),
    )
