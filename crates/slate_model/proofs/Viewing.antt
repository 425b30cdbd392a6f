-- A valid handle that goes by another manifest, over the same content, stays valid.
use Rattle.std.proofs.Common.{◌≡◌, ℕ, ◌<◌, ◌≤◌, ◌⊎◌, inl, inr, Some, None, refl, sym, subst, ap, ◌∙◌, arith}
use Rattle.slate_types.specs.Line.{Line, extended}
use Rattle.slate_store.specs.Content.{content}
use Rattle.slate_store.specs.Objects.{Objects, latest_manifest, table_at}
use Rattle.slate_store.specs.declared.objects.TableId.{TableId}
use Rattle.slate_store.specs.declared.objects.VersionedManifest.{VersionedManifest}
use Rattle.slate_model.specs.Catalogue.{catalogue_of}
use Rattle.slate_model.specs.Handle.{CloseResult, Handle, unstored}
use Rattle.slate_model.specs.Tables.{AreStored}
use Rattle.slate_model.specs.Valid.{AreBefore, IsValidHandle, ReadsLine}
use Rattle.slate_model.proofs.Adding.{Lasts}
use Rattle.slate_model.proofs.Flushing.{latest-stored}
use Rattle.slate_model.proofs.Moving.{Follows, Moved, known-none, still-reads}
use Rattle.slate_model.proofs.Tabled.{joined-line}

module _ (stored : Line) (o o' : Objects) (latest n' : VersionedManifest) (h : Handle) (counter : ℕ) (view : VersionedManifest) (result : CloseResult)
    (is : latest_manifest o ≡ Some latest) (live : h.result ≡ None) (v : IsValidHandle stored (catalogue_of o) h) (reads : ReadsLine o h.view h.line)
    (f : Follows stored stored o o' latest n') (epoch : n'.manifest.writer_epoch ≡ latest.manifest.writer_epoch) (tabled : n'.manifest.last_l0_seq ≡ latest.manifest.last_l0_seq)
    (views : (view ≡ h.view) ⊎ ((view ≡ n') × (latest.manifest.writer_epoch ≤ h.epoch)))
    (others : (q : TableId) → (q.epoch ≡ h.epoch → ⊥) → table_at q o' ≡ table_at q o)
    (before : AreBefore h h.view.manifest.tables) (lasts : (q : TableId) → (q.epoch ≡ h.epoch → q.index < h.counter) → Lasts o o' q) (raised : h.counter ≤ counter)
    (unused : (index : ℕ) → counter ≤ index → table_at (record { epoch = h.epoch; index = index }) o' ≡ None) where
  abbrev new : Handle
  new = record h { counter = counter; view = view; result = result }

  number : {a b : VersionedManifest} → a ≡ b → a.manifest.last_l0_seq ≡ b.manifest.last_l0_seq
  number same = ap (λ (m : VersionedManifest). m.manifest.last_l0_seq) same

  known-latest : v.behind.0 ≡ latest
  known-latest = let b = v.behind.1 in cc

  ahead : h.view.manifest.last_l0_seq ≤ latest.manifest.last_l0_seq
  ahead = let e = number known-latest in let low = v.behind.3 in omega (arith, e, low)

  low-epoch : h.epoch ≤ latest.manifest.writer_epoch
  low-epoch = let e = ap (λ (m : VersionedManifest). m.manifest.writer_epoch) known-latest in let low = v.behind.2 in omega (arith, e, low)

  floor-after : h.line.floor ≤ view.manifest.last_l0_seq
  floor-after = elim views [
    | inl same ↦ (let e = number same in let floor = v.floor in omega (arith, e, floor))
    | inr read ↦ (let e = number read.0 in let t = tabled in let low = ahead in let floor = v.floor in omega (arith, e, t, low, floor))
  ]

  tabled-after : view.manifest.last_l0_seq ≤ h.durable
  tabled-after = elim views [
    | inl same ↦ (let e = number same in let t = v.tabled in omega (arith, e, t))
    | inr read ↦ (let e = number read.0 in let t = tabled in let same = (v.current latest live is read.1).1 in let d = v.tabled in omega (arith, e, t, same, d))
  ]

  view-after : (view ≡ h.view) ⊎ AreStored o' view.manifest.tables
  view-after = elim views [
    | inl same ↦ inl same
    | inr read ↦ inr (subst (λ (m : VersionedManifest). AreStored o' m.manifest.tables) (sym read.0) (latest-stored o' n' f.sound f.latest_is))
  ]

  numbers-after : view.manifest.last_l0_seq ≤ n'.manifest.last_l0_seq
  numbers-after = elim views [
    | inl same ↦ (let e = number same in let t = tabled in let low = ahead in omega (arith, e, t, low))
    | inr read ↦ (let e = number read.0 in omega (arith, e))
  ]

  abbrev MakesLine : VersionedManifest → Type 0
  MakesLine m = ReadsLine o' m h.line

  reads-after : MakesLine view
  reads-after = elim views [
    | inl same ↦ subst MakesLine (sym same) (still-reads o o' h.view h.line (λ k d less. lasts _ (before k d less)) reads)
    | inr read ↦
        let line : h.line ≡ extended (content o') (unstored h) = sym (v.current latest live is read.1).0 ∙ ap (λ l. extended l (unstored h)) (sym f.content) in
        subst MakesLine (sym read.0) (λ there. joined-line o' n' h.line (unstored h) f.sound f.latest_is line v.numbered)
  ]

  numbers-same : latest.manifest.writer_epoch ≤ h.epoch → n'.manifest.last_l0_seq ≡ view.manifest.last_l0_seq
  numbers-same cur = elim views [
    | inl same ↦ tabled ∙ ((v.current latest live is cur).1 ∙ sym (number same))
    | inr read ↦ sym (number read.0)
  ]

  pub viewed-moved : Moved stored stored o o' latest h new
  viewed-moved = record {
    next = n';
    follows = f;
    others = others;
    lasts = lasts;
    counter = raised;
    view = view-after;
    same_epoch = epoch;
    alone = inl (refl, tabled);
    epoch = refl;
    mine = record {
      numbered = v.numbered;
      floor = floor-after;
      tabled = tabled-after;
      durable = v.durable;
      confirmed = v.confirmed;
      unused = λ index high. known-none (record { epoch = h.epoch; index = index }) o' (unused index high);
      behind = (n', f.latest_is, (let e = epoch in let low = low-epoch in omega (arith, e, low)), numbers-after);
      current = λ found open_is at low.
          let same : n' ≡ found = (let b = f.latest_is in cc) in
          let e = ap (λ (m : VersionedManifest). m.manifest.writer_epoch) same in
          let ep = epoch in
          let cur : latest.manifest.writer_epoch ≤ h.epoch = omega (arith, e, ep, low) in
          ((v.current latest live is cur).0, sym (number same) ∙ numbers-same cur);
    };
    reads = reads-after;
  }
