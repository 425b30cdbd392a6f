-- One table or log file more that was read.
use Rattle.std.proofs.Common.{◌≡◌, ℕ, ◌+◌, true, false, eqb, List, [], ◌∷◌, ◌++◌, length, Some, None, inl, inr, refl, ap, subst, ◌∙◌, arith}
use Rattle.std.proofs.lemmas.Bool.{cases_lt, eqb-true}
use Rattle.std.proofs.lemmas.Grind.{flat_map-append}
use Rattle.std.proofs.lemmas.List.{append-nil}
use Rattle.std.specs.List.{flat_map}
use Rattle.slate_types.specs.declared.batches.Batch.{Batch}
use Rattle.slate_store.specs.declared.objects.TableId.{TableId}
use Rattle.slate_store.specs.Content.{StoresTable}
use Rattle.slate_store.specs.Objects.{Objects, log_at, table_at}
use Rattle.slate_check.specs.Reads.{AreStoredTo}

pub flat-push : (tables : List (List Batch)) (table : List Batch) → flat_map (λ t. t) (tables ++ table ∷ []) ≡ flat_map (λ t. t) tables ++ table
flat-push tables table = flat_map-append (λ (t : List Batch). t) tables (table ∷ []) ∙ ap (λ l. flat_map (λ t. t) tables ++ l) (append-nil table)

pub is-empty : (table : List Batch) → eqb (length table) 0 ≡ true → table ≡ []
is-empty [] h = refl
is-empty (b ∷ bs) h = let e = eqb-true (length (b ∷ bs)) 0 h in absurd (omega (arith, e))

pub stores : (o : Objects) (id : TableId) (table : List Batch) → eqb (length table) 0 ≡ false → table_at id o ≡ Some table → StoresTable o id
stores o id [] h at = absurd (cc)
stores o id (b ∷ bs) h at = (b, bs, at)

pub stored-next : (o : Objects) (mark before : ℕ) (log : List Batch) → AreStoredTo o mark before → log_at (before + 1) o ≡ Some log → AreStoredTo o mark (before + 1)
stored-next o mark before log stored at id low high none =
    elim (cases_lt id (before + 1)) [
      | inl less ↦ stored id low (omega arith) none
      | inr same ↦ let e : id ≡ before + 1 = omega arith in let n = subst (λ k. log_at k o ≡ None) e none in cc
    ]
