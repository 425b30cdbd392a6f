-- What an object of a world reads are the batches of its line.
use Rattle.std.proofs.Common.{◌≡◌, ◌∙◌, ℕ, List, [], ◌∷◌, ◌++◌, flat_map, map, reverse, Some, None, ap, refl, subst, sym}
use Rattle.std.specs.Prelude.{◌≢◌, slice_get, unwrap_or}
use Rattle.std.proofs.lemmas.Grind.{flat_map-append}
use Rattle.std.proofs.lemmas.List.{append-nil, map-append, reverse-append, reverse-reverse}
use Rattle.std.proofs.lemmas.List.Elements.{All-cons, All-nil}
use Rattle.slate_types.specs.declared.batches.Batch.{Batch}
use Rattle.slate_store.specs.Content.{AreStored, table_batches}
use Rattle.slate_store.specs.Objects.{Objects, table_at}
use Rattle.slate_store.specs.declared.objects.TableId.{TableId}
use Rattle.slate_model.specs.Handle.{Handle as AHandle, kept_handle}
use Rattle.slate_model.specs.Known.{Known}
use Rattle.slate_model.specs.Object.{Object, Handle, Snapshot, Follower, batches_of, kept}
use Rattle.slate_model.specs.Recency.{AreSources}
use Rattle.slate_model.specs.Stores.{kept_rows}
use Rattle.slate_model.specs.Tables.{AreJoined}
use Rattle.slate_model.specs.Valid.{ReadsItsLine}
use Rattle.slate_live.specs.Represents.{RepresentsObjects}
use Rattle.slate_live.specs.State.{Live}
use Rattle.slate_live.specs.World.{World}

-- tables that are joined are stored, and these are their batches
joined-stored : (o : Objects) (ids : List TableId) (stored : List Batch) → AreJoined (Some o) ids stored → AreStored o ids × (stored ≡ table_batches o ids)
joined-stored o [] stored joined = (All-nil (λ id. table_at id o ≢ None), joined)
joined-stored o (id ∷ ids) stored joined = joined

-- with what is in memory they are a line
by-tables : (o : Objects) (object : Object) (rows : List Batch) → ReadsItsLine o object → kept_rows (Some o) (kept object) rows → rows ≡ batches_of object
by-tables o (Handle handle) rows reads (stored, joined, same) =
    let j = joined-stored o handle.view.manifest.tables stored joined in
    same ∙ (ap (λ front. front ++ batches_of (kept (Handle handle))) j.1 ∙ reads j.0)
by-tables o (Snapshot snapshot) rows reads (stored, joined, same) = same ∙ ap (λ front. front ++ []) joined
by-tables o (Follower follower) rows reads (stored, joined, same) =
    let j = joined-stored o follower.view.manifest.tables stored joined in
    same ∙ (ap (λ front. front ++ batches_of (kept (Follower follower))) j.1 ∙ reads j.0)

pub read-lines : (live : Live) (store : Known (List Batch)) (w : World) (n : ℕ) (object : Object) (rows : List Batch) →
    RepresentsObjects live store w → slice_get w.objects n ≡ Some object → kept_rows store.objects (kept object) rows → rows ≡ batches_of object
read-lines live store w n object rows r at have =
    let held = r.held in
    by-tables held.0 object rows (held.4 n object at).0 (subst (λ t. kept_rows t (kept object) rows) held.1 have)

-- what a list maps to in the reversed order
map-reverse : {X Y : Type 0} (f : X → Y) (xs : List X) → map f (reverse xs) ≡ reverse (map f xs)
map-reverse f [] = refl
map-reverse f (x ∷ xs) =
    ap (map f) (reverse-append (x ∷ []) xs) ∙ (map-append f (reverse xs) (x ∷ []) ∙ (ap (λ ys. ys ++ f x ∷ []) (map-reverse f xs) ∙ sym (reverse-append (f x ∷ []) (map f xs))))

-- each of these tables is stored, and joined they are these batches
found-stored : (o : Objects) (ids : List TableId) (tables : List (List Batch)) → map Some tables ≡ map (λ id. table_at id o) ids → AreStored o ids × (flat_map (λ table. table) tables ≡ table_batches o ids)
found-stored o [] [] same = (All-nil (λ id. table_at id o ≢ None), refl)
found-stored o [] (table ∷ tables) same = absurd (cc)
found-stored o (id ∷ ids) [] same = absurd (cc)
found-stored o (id ∷ ids) (table ∷ tables) same =
    let first : Some table ≡ table_at id o = cc in
    let others : map Some tables ≡ map (λ id. table_at id o) ids = cc in
    let rest = found-stored o ids tables others in (
      All-cons (λ id. table_at id o ≢ None) id ids (λ none. let e : Some table ≡ None = first ∙ none in absurd (cc)) rest.0,
      ap (λ batches. table ++ batches) rest.1 ∙ ap (λ found. unwrap_or found [] ++ table_batches o ids) first,
    )

-- read the newest first, the oldest comes last
by-sources : (o : Objects) (handle : AHandle) (sources : List (List Batch)) → ReadsItsLine o (Handle handle) → AreSources (Some o) (kept_handle handle) sources → flat_map (λ source. source) (reverse sources) ≡ handle.line.batches
by-sources o handle sources reads (tables, each, same) =
    let ids = handle.view.manifest.tables in
    let memory = batches_of (kept (Handle handle)) in
    let in_order : map Some (reverse tables) ≡ map (λ id. table_at id o) ids =
    map-reverse Some tables ∙ (ap reverse each ∙ (sym (map-reverse (λ id. table_at id o) (reverse ids)) ∙ ap (map (λ id. table_at id o)) (reverse-reverse ids))) in
    let stored = found-stored o ids (reverse tables) in_order in
    ap (λ all. flat_map (λ source. source) (reverse all)) same
    ∙ (ap (flat_map (λ source. source)) (reverse-append (memory ∷ []) tables)
    ∙ (flat_map-append (λ (source : List Batch). source) (reverse tables) (memory ∷ [])
    ∙ (ap (λ front. front ++ (memory ++ [])) stored.1
    ∙ (ap (λ end. table_batches o ids ++ end) (append-nil memory) ∙ reads stored.0))))

pub list-lines : (live : Live) (store : Known (List Batch)) (w : World) (n : ℕ) (handle : AHandle) (sources : List (List Batch)) →
    RepresentsObjects live store w → slice_get w.objects n ≡ Some (Handle handle) → AreSources store.objects (kept_handle handle) sources → flat_map (λ source. source) (reverse sources) ≡ handle.line.batches
list-lines live store w n handle sources r at have =
    let held = r.held in
    by-sources held.0 handle sources (held.4 n (Handle handle) at).0 (subst (λ t. AreSources t (kept_handle handle) sources) held.1 have)
