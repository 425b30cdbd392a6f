-- What a flush leaves, wherever it is broken off: sound objects, whose content is what was stored, or that and what the
-- handle hadn't stored.
use Rattle.std.proofs.Common.{◌≡◌, ℕ, zero, suc, ◌+◌, ◌<◌, ◌≤◌, ◌⊎◌, inl, inr, List, [], ◌∷◌, ◌++◌, length, map, cond, Some, None, Result, Ok, Err, Bool, true, false, refl, sym, subst, ap, ◌∙◌, arith, ltb}
use Rattle.std.proofs.lemmas.List.{append-nil, map-append}
use Rattle.std.specs.Bool.{MatchBool}
use Rattle.slate_types.specs.Line.{AreNumberedFrom, IsLine, Line, end, extended}
use Rattle.slate_types.specs.declared.batches.Batch.{Batch}
use Rattle.slate_types.specs.declared.options.FlushType.{FlushType}
use Rattle.slate_types.specs.declared.options.FlushType.TheVariants.{Wal, MemTable}
use Rattle.slate_store.proofs.Logged.{appended, logs-after, with_log}
use Rattle.slate_store.specs.Content.{IsSound, content}
use Rattle.slate_store.specs.Objects.{Change, Objects, PutManifest, PutTable, greatest, last_log, latest_manifest, table_at}
use Rattle.slate_store.specs.declared.objects.Manifest.{Manifest}
use Rattle.slate_store.specs.declared.objects.VersionedManifest.{VersionedManifest}
use Rattle.slate_errors.specs.declared.errors.SlateError.{SlateError}
use Rattle.slate_model.specs.Changes.{PartMade, after_part, leaves_prefix}
use Rattle.slate_model.specs.Flush.{flush_changes_under, flush_view, flushed_manifest, grows, log_after, log_changes}
use Rattle.slate_model.specs.Handle.{Handle, accepted, next_table, unstored, untabled}
use Rattle.slate_model.proofs.Reopened.{numbered_rest}
use Rattle.slate_model.proofs.Tabled.{flushed-committed, flushed-content, table-put}
use Rattle.std.proofs.lemmas.Bool.{ltb-true}

match_le : (b : Bool) (made all : ℕ) → MatchBool b (made ≤ all) (made ≡ 0) → made ≤ all
match_le true made all h = h
match_le false made all h = omega (arith, h)

-- no more changes are made than there are
pub part_le : {A : Type 0} (r : Result A SlateError) (all made : ℕ) → PartMade r all made → made ≤ all
part_le (Ok x) all made h = omega (arith, h)
part_le (Err e) all made h = match_le (leaves_prefix e) made all h

-- a greater number at the end is the greatest
greatest-push : (n y : ℕ) (xs : List ℕ) → greatest n xs < y → greatest n (xs ++ y ∷ []) ≡ y
greatest-push n y [] less = omega arith
greatest-push n y (x ∷ xs) less = let rest = greatest-push n y xs (omega arith) in omega (arith, rest)

some-grow : (b : Bool) → 0 < cond b 1 2
some-grow true = omega arith
some-grow false = omega arith

-- What so many changes leave, of which the first n store the batches of the handle, and all of them give this manifest.
pub record Leaves (o : Objects) (latest next : VersionedManifest) (line : Line) (n all made : ℕ) (o' : Objects) : Type 0 where
  pub sound : IsSound o'
  pub before : made < n → content o' ≡ content o
  pub after : n ≤ made → content o' ≡ line
  pub below : made < all → latest_manifest o' ≡ Some latest
  pub whole : made ≡ all → latest_manifest o' ≡ Some next

module _ (o : Objects) (latest : VersionedManifest) (h : Handle) (sound : IsSound o) (is : latest_manifest o ≡ Some latest)
    (low : h.epoch ≤ latest.manifest.writer_epoch) (free : table_at (next_table h) o ≡ None)
    (line_is : h.line ≡ extended (content o) (unstored h)) (numbered : IsLine h.line) where
  abbrev m : Manifest
  m = latest.manifest

  abbrev last : ℕ
  last = last_log m.replay_after_wal_id o

  -- the manifest that names the table, where these batches went to the log before
  abbrev named : List Batch → VersionedManifest
  named bs = record { id = latest.id + 1; manifest = flushed_manifest h m (log_after bs last) }

  abbrev puts : List Batch → List Change
  puts bs = PutTable (next_table h) (untabled m h) ∷ PutManifest (named bs).id (named bs).manifest ∷ []

  numbers : AreNumberedFrom (end (content o)) (unstored h)
  numbers = numbered_rest (content o).floor (content o).batches (unstored h) (subst IsLine line_is numbered)

  -- to the log
  log-leaves : (bs : List Batch) → unstored h ≡ bs → (made : ℕ) → made ≤ length (log_changes (λ xs. xs) bs last) → Leaves o latest latest h.line 1 (length (log_changes (λ xs. xs) bs last)) made (after_part made (log_changes (λ xs. xs) bs last) o)
  log-leaves [] are zero le = record { sound = sound; before = λ _. refl; after = λ few. absurd (omega arith); below = λ few. is; whole = λ all. is }
  log-leaves [] are (suc made) le = absurd (omega arith)
  log-leaves (b ∷ bs) are zero le = record { sound = sound; before = λ _. refl; after = λ few. absurd (omega arith); below = λ few. is; whole = λ all. is }
  log-leaves (b ∷ bs) are (suc zero) le =
      let put = appended o latest (b ∷ bs) sound is (subst (AreNumberedFrom (end (content o))) are numbers) in
      record {
        sound = put.sound;
        before = λ few. absurd (omega arith);
        after = λ few. put.content ∙ sym (line_is ∙ ap (extended (content o)) are);
        below = λ few. put.latest ∙ is;
        whole = λ all. put.latest ∙ is;
      }
  log-leaves (b ∷ bs) are (suc (suc made)) le = absurd (omega arith)

  module _ (some : m.last_l0_seq < accepted h) where
    -- to a table, where nothing went to the log; the handle's batches are stored by the manifest, or there are none
    table-leaves : (n : ℕ) → 0 < n → n ≤ 2 → (n ≡ 2) ⊎ (unstored h ≡ []) → (made : ℕ) → made ≤ 2 → Leaves o latest (named []) h.line n 2 made (after_part made (puts []) o)
    table-leaves n pos few stores zero le = record { sound = sound; before = λ _. refl; after = λ few. absurd (omega arith); below = λ few. is; whole = λ all. absurd (omega arith) }
    table-leaves n pos few stores (suc zero) le =
        let put = table-put o latest h (unstored h) sound is low free line_is numbered some in
        record {
          sound = put.sound;
          before = λ less. put.content;
          after = λ more. elim stores [
            | inl two ↦ absurd (omega (arith, two))
            | inr none ↦ put.content ∙ (ap (λ bs. record { floor = (content o).floor; batches = bs }) (sym (append-nil (content o).batches)) ∙ sym (line_is ∙ ap (extended (content o)) none))
          ];
          below = λ less. is;
          whole = λ all. absurd (omega arith);
        }
    table-leaves n pos few stores (suc (suc zero)) le =
        let put = flushed-committed o latest h (unstored h) sound is low free line_is numbered some in
        record {
          sound = put.sound;
          before = λ less. absurd (omega arith);
          after = λ more. flushed-content o latest h (unstored h) sound is low free line_is numbered some;
          below = λ less. absurd (omega arith);
          whole = λ all. put.latest;
        }
    table-leaves n pos few stores (suc (suc (suc made))) le = absurd (omega arith)

    -- to the log, and then to a table
    both-leave : (bs : List Batch) → unstored h ≡ bs → (made : ℕ) → made ≤ length (log_changes (λ xs. xs) bs last ++ puts bs) → Leaves o latest (named bs) h.line 1 (length (log_changes (λ xs. xs) bs last ++ puts bs)) made (after_part made (log_changes (λ xs. xs) bs last ++ puts bs) o)
    both-leave [] are made le = table-leaves 1 (omega arith) (omega arith) (inr are) made le
    both-leave (b ∷ bs) are zero le = record { sound = sound; before = λ _. refl; after = λ few. absurd (omega arith); below = λ few. is; whole = λ all. absurd (omega arith) }
    both-leave (b ∷ bs) are (suc made) le =
        let put = appended o latest (b ∷ bs) sound is (subst (AreNumberedFrom (end (content o))) are numbers) in
        let o1 = with_log o m (b ∷ bs) in
        let next_log : last_log m.replay_after_wal_id o1 ≡ last + 1 =
        ap (λ logs. greatest m.replay_after_wal_id (map (λ e. e.0) logs)) (logs-after o m (b ∷ bs))
        ∙ (ap (greatest m.replay_after_wal_id) (map-append (λ e. e.0) o.logs ((last + 1, b ∷ bs) ∷ []))
        ∙ greatest-push m.replay_after_wal_id (last + 1) (map (λ e. e.0) o.logs) (omega arith)) in
        let whole_line : h.line ≡ content o1 = line_is ∙ (ap (extended (content o)) are ∙ sym put.content) in
        let ended : h.line ≡ extended (content o1) [] = whole_line ∙ ap (λ bs. record { floor = (content o1).floor; batches = bs }) (sym (append-nil (content o1).batches)) in
        after-log o1 (b ∷ bs) (put.latest ∙ is) put.sound whole_line ended free next_log made (omega arith) where
          after-log : (o1 : Objects) (bs : List Batch) → latest_manifest o1 ≡ Some latest → IsSound o1 → h.line ≡ content o1 → h.line ≡ extended (content o1) [] → table_at (next_table h) o1 ≡ None → last_log m.replay_after_wal_id o1 ≡ log_after bs last → (made : ℕ) → made ≤ 2 → Leaves o latest (named bs) h.line 1 3 (suc made) (after_part made (puts bs) o1)
          after-log o1 bs is1 sound1 whole_line ended free1 next_log zero le =
              record { sound = sound1; before = λ few. absurd (omega arith); after = λ few. sym whole_line; below = λ few. is1; whole = λ all. absurd (omega arith) }
          after-log o1 bs is1 sound1 whole_line ended free1 next_log (suc zero) le =
              let put = table-put o1 latest h [] sound1 is1 low free1 ended numbered some in
              record { sound = put.sound; before = λ few. absurd (omega arith); after = λ few. put.content ∙ sym whole_line; below = λ few. is1; whole = λ all. absurd (omega arith) }
          after-log o1 bs is1 sound1 whole_line ended free1 next_log (suc (suc zero)) le =
              subst (λ n. Leaves o latest (record { id = latest.id + 1; manifest = flushed_manifest h m n }) h.line 1 3 3 (after_part 2 (PutTable (next_table h) (untabled m h) ∷ PutManifest (latest.id + 1) (flushed_manifest h m n) ∷ []) o1)) next_log
              (let put = flushed-committed o1 latest h [] sound1 is1 low free1 ended numbered some in
              record {
                sound = put.sound;
                before = λ few. absurd (omega arith);
                after = λ few. flushed-content o1 latest h [] sound1 is1 low free1 ended numbered some;
                below = λ few. absurd (omega arith);
                whole = λ all. put.latest;
              })
          after-log o1 bs is1 sound1 whole_line ended free1 next_log (suc (suc (suc made))) le = absurd (omega arith)

  abbrev LeavesBy : FlushType → ℕ → Type 0
  LeavesBy t made =
      let cs = flush_changes_under (λ xs. xs) t h latest last in
      Leaves o latest (flush_view t h latest last) h.line (grows h) (length cs) made (after_part made cs o)

  -- a flush of a handle with what it takes
  pub flush-leaves : (t : FlushType) → (t ≡ Wal → h.keeps_log ≡ true) → (made : ℕ) → made ≤ length (flush_changes_under (λ xs. xs) t h latest last) → LeavesBy t made
  flush-leaves Wal keeps made le = to-log made (keeps refl) le where
    to-log : (made : ℕ) → h.keeps_log ≡ true → made ≤ length (flush_changes_under (λ xs. xs) Wal h latest last) → LeavesBy Wal made
    to-log made is_kept = rw is_kept (log-leaves (unstored h) refl made)
  flush-leaves MemTable keeps made le = by (ltb m.last_l0_seq (accepted h)) refl made le where
    tabled : (keeps : Bool) → h.keeps_log ≡ keeps → m.last_l0_seq < accepted h → (made : ℕ) →
        made ≤ length (log_changes (λ xs. xs) (cond h.keeps_log (unstored h) []) last ++ puts (cond h.keeps_log (unstored h) [])) →
        Leaves o latest (named (cond h.keeps_log (unstored h) [])) h.line (cond h.keeps_log 1 2) (length (log_changes (λ xs. xs) (cond h.keeps_log (unstored h) []) last ++ puts (cond h.keeps_log (unstored h) []))) made
        (after_part made (log_changes (λ xs. xs) (cond h.keeps_log (unstored h) []) last ++ puts (cond h.keeps_log (unstored h) [])) o)
    tabled true is_kept some made = rw is_kept (both-leave some (unstored h) refl made)
    tabled false is_kept some made = rw is_kept (table-leaves some 2 (omega arith) (omega arith) (inl refl) made)

    nothing : (made : ℕ) → made ≤ 0 → Leaves o latest latest h.line (grows h) 0 made (after_part made [] o)
    nothing zero le = record { sound = sound; before = λ _. refl; after = λ few. absurd (let pos = some-grow h.keeps_log in omega (arith, pos, few)); below = λ few. absurd (omega arith); whole = λ all. is }
    nothing (suc made) le = absurd (omega arith)

    by : (has : Bool) → ltb m.last_l0_seq (accepted h) ≡ has → (made : ℕ) → made ≤ length (flush_changes_under (λ xs. xs) MemTable h latest last) → LeavesBy MemTable made
    by true is_has made = rw is_has (tabled h.keeps_log refl (ltb-true m.last_l0_seq (accepted h) is_has) made)
    by false is_has made = rw is_has (nothing made)
