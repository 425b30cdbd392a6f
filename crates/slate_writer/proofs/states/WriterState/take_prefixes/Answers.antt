use Rattle.std.proofs.Common.{ap, subst, sym, ◌∙◌}
use Rattle.slate_store.specs.declared.objects.VersionedManifest.{VersionedManifest}
use Rattle.slate_status.specs.Segments.{PrefixesRise}
use Rattle.slate_model.specs.Handle.{Handle}
use Rattle.slate_writer.proofs.states.WriterState.take_prefixes.Goals as goal

pub take_prefixes-requires-clause-stored : goal.take_prefixes-requires-clause-stored
take_prefixes-requires-clause-stored g c = λ rise.
    let view = c.view.ensures ∙ ap (λ (h : Handle). h.view) (sym c.self.view_is) in
    subst PrefixesRise (sym (c.as_slice-stored.ensures ∙ ap (λ (v : VersionedManifest). v.manifest.segments) view)) (c.self.invariant.stored rise)

pub take_prefixes-requires-clause-segments : goal.take_prefixes-requires-clause-segments
take_prefixes-requires-clause-segments g c = c.untabled_segments-segments.ensures.rising
