use Rattle.std.proofs.Common.{◌≡◌, min, sym, subst, ap, ◌∙◌, arith}
use Rattle.slate_store.specs.declared.objects.VersionedManifest.{VersionedManifest}
use Rattle.slate_model.specs.Handle.{Handle, untabled}
use Rattle.slate_model.specs.Unflushed.{most_bytes}
use Rattle.slate_reads.specs.Size.{size_of}
use Rattle.slate_writer.proofs.Counted.{counted-all}
use Rattle.slate_writer.proofs.states.WriterState.untabled_size.Goals as goal

pub returns-then-tabled-self : goal.returns-then-tabled-self
returns-then-tabled-self c =
    let view = c.view.ensures ∙ ap (λ (h : Handle). h.view) (sym c.self.view_is) in
    let tabled = ap (λ (v : VersionedManifest). v.manifest.last_l0_seq) view in
    subst (λ (h : Handle). c.size.result ≡ min (size_of (untabled h.view.manifest h)) most_bytes) c.self.view_is
    (counted-all c.self.inside.floor _ c.self.inside.memory _ c.self.invariant.numbered (omega (arith, tabled, c.if-tabled-self.true)) c.size.ensures)
