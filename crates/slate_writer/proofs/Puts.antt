-- The puts of a flush, one after another, and where they break off.
use Rattle.std.proofs.Common.{◌≡◌, ◌==◌, ℕ, zero, suc, ◌+◌, ◌<◌, ◌≤◌, List, [], ◌∷◌, ◌++◌, length, take, cond, Bool, true, false, Option, Some, None, Result, Ok, Err, refl, sym, subst, ap, ◌∙◌, inl, inr, arith}
use Rattle.std.proofs.Math.Seq.{take-append_seam, take-append-add}
use Rattle.std.proofs.lemmas.List.{length-append}
use Rattle.std.proofs.lemmas.List.Elements.{Contains-append_right}
use Rattle.std.proofs.lemmas.Bool.{lt-leb, le-leb}
use Rattle.std.specs.Prelude.{nat_le}
use Rattle.slate_types.specs.declared.batches.Batch.{Batch}
use Rattle.slate_types.specs.declared.store_errors.StoreError.{StoreError}
use Rattle.slate_types.specs.declared.store_errors.StoreError.TheVariants as refusals
use Rattle.slate_types.proofs.Modelled.{modelled_as, modelled_then}
use Rattle.slate_store.proofs.Parts.{changed_all-append}
use Rattle.slate_store.specs.declared.objects.TableId.{TableId}
use Rattle.slate_store.specs.declared.objects.VersionedManifest.{VersionedManifest}
use Rattle.slate_store.specs.Calls.{Puts, WhereModelled}
use Rattle.slate_store.specs.Objects.{Objects, Change, PutLog, PutManifest, PutTable, RemoveLog, RemoveManifest, RemoveTable, changed, changed_all, is_present, last_log}
use Rattle.slate_errors.specs.Errors.{error_of_store}
use Rattle.slate_errors.specs.declared.errors.SlateError.{SlateError}
use Rattle.slate_errors.specs.declared.errors.SlateError.TheVariants as errors
use Rattle.slate_model.specs.Changes.{PartMade, after_part}
use Rattle.slate_model.specs.Flush.{DurableAfter, FlushesOnly, grows, has_log_id, log_changes, tables_put}
use Rattle.slate_model.specs.Handle.{Handle, accepted, to_log, unstored}
use Rattle.slate_writer.specs.Puts.{DurableThen, MakesPart, PutsCause, PutsLog, PutsOne, durable_by, log_put, table_puts}

-- Changes after the first ones break off at one that is refused.
record Breaks (ids : Bool) (xs ys : List Change) (c : Change) (e : SlateError) (o o' : Objects) : Type 0 where
  made : ℕ
  cause : PutsCause ids (xs ++ c ∷ ys) o e
  part : PartMade {A = Unit {0}} (Err e) (length (xs ++ c ∷ ys)) made
  only : FlushesOnly (Err e) (length (xs ++ c ∷ ys)) made
  after : o' ≡ after_part made (xs ++ c ∷ ys) o
  least : length xs ≤ made
  most : made ≤ length xs + 1
  memory : e ≡ errors.NoMemory → made ≡ length xs

module _ (ids : Bool) (xs ys : List Change) (c : Change) (o o1 : Objects) (so_far : o1 ≡ changed_all xs o) (same : is_present c o1 ≡ is_present c o) where
  abbrev all : List Change
  all = xs ++ c ∷ ys

  there : ℕ
  there = length xs

  many : length all ≡ length xs + (length ys + 1)
  many = length-append xs (c ∷ ys) ∙ omega arith

  unmade : (o2 : Objects) → o2 ≡ o1 → o2 ≡ after_part (length xs) all o
  unmade o2 h = h ∙ (so_far ∙ sym (ap (λ cs. changed_all cs o) (take-append_seam xs (c ∷ ys))))

  done : (o2 : Objects) → o2 ≡ changed c o1 → o2 ≡ after_part (length xs + 1) all o
  done o2 h =
      h ∙ (ap (changed c) so_far ∙ (sym (changed_all-append xs (c ∷ []) o) ∙ sym (ap (λ cs. changed_all cs o) (take-append-add xs (c ∷ ys) 1))))

  breaks : (r : StoreError) (o2 : Objects) → Puts c (Err r) o1 o2 → Breaks ids xs ys c (error_of_store r) o o2
  breaks refusals.Exists o2 h =
      record {
        made = length xs;
        cause = (c, Contains-append_right xs (c ∷ ys) c (0, omega arith, refl), sym same ∙ h.0);
        part = omega (arith, many);
        only = tt;
        after = unmade o2 h.1;
        least = omega arith;
        most = omega arith;
        memory = λ e. refl;
      }
  breaks refusals.Failed o2 (inl h) =
      record {
        made = length xs;
        cause = tt;
        part = omega (arith, many);
        only = tt;
        after = unmade o2 h;
        least = omega arith;
        most = omega arith;
        memory = λ e. refl;
      }
  breaks refusals.Failed o2 (inr h) =
      record {
        made = length xs + 1;
        cause = tt;
        part = omega (arith, many);
        only = tt;
        after = done o2 h.1;
        least = omega arith;
        most = omega arith;
        memory = λ e. absurd (cc);
      }
  breaks refusals.NoMemory o2 h =
      record {
        made = length xs;
        cause = tt;
        part = omega (arith, many);
        only = inr (omega (arith, many));
        after = unmade o2 h;
        least = omega arith;
        most = omega arith;
        memory = λ e. refl;
      }
  breaks refusals.NotFound o2 h = absurd h

-- the durable number of a handle, where its batches aren't stored yet, and where they are
pub kept_durable : (e : SlateError) (made : ℕ) (h : Handle) → (e ≡ errors.NoMemory → made < grows h) → DurableAfter (nat_le (grows h) made) h (Err e) h.durable
kept_durable errors.NoMemory made h low =
    let no : nat_le (grows h) made ≡ false = lt-leb (grows h) made (low refl) in
    rw no refl
kept_durable e made h low = inl refl

raised_durable : (e : SlateError) (made : ℕ) (h : Handle) → grows h ≤ made → DurableAfter (nat_le (grows h) made) h (Err e) (accepted h)
raised_durable errors.NoMemory made h le =
    let yes : nat_le (grows h) made ≡ true = le-leb (grows h) made le in
    rw yes refl
raised_durable e made h le = inr (le-leb (grows h) made le, refl)

grows-least : (k : Bool) → 1 ≤ cond k 1 2
grows-least true = omega arith
grows-least false = omega arith

-- a handle with batches for the log keeps one
keeps_by : (k : Bool) (b : Batch) (us bs : List Batch) → cond k us [] ≡ b ∷ bs → k ≡ true
keeps_by true b us bs is = refl
keeps_by false b us bs is = absurd (cc)

keeps : (h : Handle) (b : Batch) (bs : List Batch) → to_log h ≡ b ∷ bs → h.keeps_log ≡ true
keeps h b bs is = keeps_by h.keeps_log b (unstored h) bs is

-- no more tables are put by the first changes than by all
pub part-tables : (made : ℕ) (cs : List Change) → tables_put (take made cs) ≤ tables_put cs
part-tables zero cs = omega arith
part-tables (suc made) [] = omega arith
part-tables (suc made) (PutTable id t ∷ cs) = let h = part-tables made cs in omega arith
part-tables (suc made) (PutLog id l ∷ cs) = part-tables made cs
part-tables (suc made) (PutManifest id m ∷ cs) = part-tables made cs
part-tables (suc made) (RemoveLog id ∷ cs) = part-tables made cs
part-tables (suc made) (RemoveManifest id ∷ cs) = part-tables made cs
part-tables (suc made) (RemoveTable id ∷ cs) = part-tables made cs

-- the first change, where it puts a log file, puts no table
first-log : (made id : ℕ) (l : List Batch) (cs : List Change) → made ≤ 1 → tables_put (take made (PutLog id l ∷ cs)) ≡ 0
first-log zero id l cs le = refl
first-log (suc zero) id l cs le = refl
first-log (suc (suc made)) id l cs le = absurd (omega arith)

-- how many changes were made is one number, also where the store isn't modelled
pub made_with : {Q : ℕ → Type 0} {P : ℕ → Objects → Objects → Type 0} (a b : Option Objects) (n : ℕ) → Q n → WhereModelled (λ o o'. (made : ℕ) × Q made × P made o o') a b → (made : ℕ) × Q made × WhereModelled (P made) a b
made_with None b n q t = (n, q, record { none = t.none; some = λ o h. absurd (cc) })
made_with {Q} {P} (Some o) b n q t =
    let s = t.some o refl in
    (s.2.0, s.2.1, record { none = t.none; some = λ old h. (s.0, s.1, (let same : o ≡ old = cc in subst (λ x. P s.2.0 x s.0) same s.2.2)) })

-- a put of a log file alone, under the id after the last one, that was refused
abbrev pub LogLeft : ℕ → List Batch → Result (Unit {0}) SlateError → ℕ → Objects → Objects → Type 0
LogLeft mark bs r counter o o' = (made : ℕ) × MakesPart (has_log_id bs (last_log mark o)) (log_changes (λ batches. batches) bs (last_log mark o)) r counter counter made o o'

pub log_broken : (mark id last : ℕ) (bs : List Batch) (counter : ℕ) (o o' : Objects) (r : StoreError) → (length bs == 0) ≡ false → last ≡ last_log mark o → id ≡ last + 1 → Puts (PutLog id bs) (Err r) o o' → LogLeft mark bs (Err (error_of_store r)) counter o o'
log_broken mark id last [] counter o o' r filled at next h = absurd (cc)
log_broken mark id last (b ∷ bs) counter o o' r filled at next h =
    let log : Change = PutLog (last_log mark o + 1) (b ∷ bs) in
    let refused : Puts log (Err r) o o' = subst (λ n. Puts (PutLog n (b ∷ bs)) (Err r) o o') (next ∙ ap (λ n. n + 1) at) h in
    let k = breaks (has_log_id (b ∷ bs) (last_log mark o)) [] [] log o o refl refl r o' refused in
    let none = first-log k.made (last_log mark o + 1) (b ∷ bs) [] k.most in
    (k.made, record { cause = k.cause; part = k.part; only = k.only; counted = (omega (arith, none), omega arith); after = k.after })

-- The puts of a flush to a table of a handle.
module _ (h : Handle) (log : ℕ) (id : TableId) (table : List Batch) (next : VersionedManifest) where
  abbrev t : Change
  t = PutTable id table

  abbrev m : Change
  m = PutManifest next.id next.manifest

  abbrev puts : List Batch → List Change
  puts bs = table_puts log bs id table next

  -- what is left where the put of the log file is refused, that of the table, and that of the manifest
  abbrev Left : List Batch → SlateError → ℕ → ℕ → Objects → Objects → Type 0
  Left bs e counter' durable o o' =
      (made : ℕ) × DurableAfter (nat_le (grows h) made) h (Err e) durable × MakesPart true (puts bs) (Err e) h.counter counter' made o o'

  log_refused : (bs : List Batch) (e : SlateError) (o o' : Objects) → PutsLog log bs (Err e) o o' → Left bs e h.counter h.durable o o'
  log_refused [] e o o' p = absurd (let no = p.0 in cc)
  log_refused (b ∷ bs) e o o' p =
      let k = subst (λ e. Breaks true [] (t ∷ m ∷ []) (PutLog log (b ∷ bs)) e o o') (sym p.1) (breaks true [] (t ∷ m ∷ []) (PutLog log (b ∷ bs)) o o refl refl p.0 o' p.2) in
      let few = first-log k.made log (b ∷ bs) (t ∷ m ∷ []) k.most in
      let least = grows-least h.keeps_log in (
        k.made,
        kept_durable e k.made h (λ no. let z = k.memory no in omega arith),
        record {
          cause = k.cause;
          part = k.part;
          only = k.only;
          counted = (omega (arith, few), omega arith);
          after = k.after;
        },
      )

  -- the objects once the log file was put
  logged : (bs : List Batch) (o o1 : Objects) → PutsLog log bs (Ok tt) o o1 → o1 ≡ changed_all (log_put log bs) o
  logged [] o o1 p = p.1
  logged (b ∷ bs) o o1 p = p

  table_left : (bs : List Batch) → to_log h ≡ bs → (e : SlateError) (o o1 o2 : Objects) → PutsLog log bs (Ok tt) o o1 → PutsOne t (Err e) o1 o2 → Left bs e (h.counter + 1) (durable_by bs h (Ok tt)) o o2
  table_left [] is e o o1 o2 p r =
      let k = subst (λ e. Breaks true [] (m ∷ []) t e o o2) (sym r.1) (breaks true [] (m ∷ []) t o o1 p.1 (ap (is_present t) p.1) r.0 o2 r.2) in
      let few = part-tables k.made (t ∷ m ∷ []) in
      let least = grows-least h.keeps_log in (
        k.made,
        kept_durable e k.made h (λ no. let z = k.memory no in omega arith),
        record { cause = k.cause; part = k.part; only = k.only; counted = (omega (arith, few), omega arith); after = k.after },
      )
  table_left (b ∷ bs) is e o o1 o2 p r =
      let l : Change = PutLog log (b ∷ bs) in
      let k = subst (λ e. Breaks true (l ∷ []) (m ∷ []) t e o o2) (sym r.1) (breaks true (l ∷ []) (m ∷ []) t o o1 p (ap (is_present t) p) r.0 o2 r.2) in
      let few = part-tables k.made (l ∷ t ∷ m ∷ []) in
      let yes = keeps h b bs is in
      let one : grows h ≡ 1 = ap (λ x. cond x 1 2) yes in
      let low = k.least in (
        k.made,
        subst (DurableAfter (nat_le (grows h) k.made) h (Err e)) (sym (ap (λ x. cond x (accepted h) h.durable) yes)) (raised_durable e k.made h (omega arith)),
        record { cause = k.cause; part = k.part; only = k.only; counted = (omega (arith, few), omega arith); after = k.after },
      )

  -- the durable number once the table was put
  abbrev tabled_durable : List Batch → ℕ
  tabled_durable bs = cond h.keeps_log (accepted h) (durable_by bs h (Ok tt))

  -- of a handle that keeps a log its batches are stored then, and of another they aren't yet
  late_durable : (k : Bool) → h.keeps_log ≡ k → (bs : List Batch) → to_log h ≡ bs → (e : SlateError) (made : ℕ) → 1 ≤ made → (e ≡ errors.NoMemory → k ≡ false → made ≤ 1) → DurableAfter (nat_le (grows h) made) h (Err e) (tabled_durable bs)
  late_durable true keeping bs is e made some low =
      let one : grows h ≡ 1 = ap (λ x. cond x 1 2) keeping in
      subst (DurableAfter (nat_le (grows h) made) h (Err e)) (sym (ap (λ x. cond x (accepted h) (durable_by bs h (Ok tt))) keeping)) (raised_durable e made h (omega arith))
  late_durable false none [] is e made some low =
      let two : grows h ≡ 2 = ap (λ x. cond x 1 2) none in
      subst (DurableAfter (nat_le (grows h) made) h (Err e)) (sym (ap (λ x. cond x (accepted h) h.durable) none)) (kept_durable e made h (λ out. let le = low out refl in omega arith))
  late_durable false none (b ∷ bs) is e made some low = absurd (let yes = keeps h b bs is in cc)

  manifest_left : (bs : List Batch) → to_log h ≡ bs → (e : SlateError) (o o1 o2 o3 : Objects) → PutsLog log bs (Ok tt) o o1 → o2 ≡ changed t o1 → PutsOne m (Err e) o2 o3 → Left bs e (h.counter + 1) (tabled_durable bs) o o3
  manifest_left [] is e o o1 o2 o3 p q r =
      let so_far : o2 ≡ changed t o = q ∙ ap (changed t) p.1 in
      let k = subst (λ e. Breaks true (t ∷ []) [] m e o o3) (sym r.1) (breaks true (t ∷ []) [] m o o2 so_far (ap (is_present m) so_far) r.0 o3 r.2) in
      let few = part-tables k.made (t ∷ m ∷ []) in
      let low = k.least in (
        k.made,
        late_durable h.keeps_log refl [] is e k.made (omega arith) (λ out no. let z = k.memory out in omega arith),
        record { cause = k.cause; part = k.part; only = k.only; counted = (omega (arith, few), omega arith); after = k.after },
      )
  manifest_left (b ∷ bs) is e o o1 o2 o3 p q r =
      let l : Change = PutLog log (b ∷ bs) in
      let so_far : o2 ≡ changed t (changed l o) = q ∙ ap (changed t) p in
      let k = subst (λ e. Breaks true (l ∷ t ∷ []) [] m e o o3) (sym r.1) (breaks true (l ∷ t ∷ []) [] m o o2 so_far (ap (is_present m) so_far) r.0 o3 r.2) in
      let few = part-tables k.made (l ∷ t ∷ m ∷ []) in
      let low = k.least in (
        k.made,
        late_durable h.keeps_log refl (b ∷ bs) is e k.made (omega arith) (λ out no. absurd (let yes = keeps h b bs is in cc)),
        record { cause = k.cause; part = k.part; only = k.only; counted = (omega (arith, few), omega arith); after = k.after },
      )

  all_put : (bs : List Batch) (o o1 o2 o3 : Objects) → PutsLog log bs (Ok tt) o o1 → o2 ≡ changed t o1 → o3 ≡ changed m o2 → MakesPart true (puts bs) (Ok tt) h.counter (h.counter + 1) (length (puts bs)) o o3
  all_put [] o o1 o2 o3 p q r =
      record { cause = tt; part = refl; only = tt; counted = (omega arith, omega arith); after = r ∙ ap (changed m) (q ∙ ap (changed t) p.1) }
  all_put (b ∷ bs) o o1 o2 o3 p q r =
      record { cause = tt; part = refl; only = tt; counted = (omega arith, omega arith); after = r ∙ ap (changed m) (q ∙ ap (changed t) p) }

  -- the same over any store
  abbrev Outcome : List Batch → Result (Unit {0}) SlateError → Handle → Option Objects → Option Objects → Type 0
  Outcome bs r new a b = (made : ℕ) × DurableThen made h r new × WhereModelled (MakesPart true (puts bs) r h.counter new.counter made) a b

  outcome : (bs : List Batch) (e : SlateError) (new : Handle) (counter' durable n : ℕ) (a b : Option Objects) → new.counter ≡ counter' → new.durable ≡ durable →
      DurableAfter (nat_le (grows h) n) h (Err e) durable → WhereModelled (Left bs e counter' durable) a b → Outcome bs (Err e) new a b
  outcome bs e new counter' durable n a b at number none left =
      let all = made_with {Q = λ made. DurableAfter (nat_le (grows h) made) h (Err e) durable} {P = MakesPart true (puts bs) (Err e) h.counter counter'} a b n none left in (
        all.0,
        subst (DurableAfter (nat_le (grows h) all.0) h (Err e)) (sym number) all.1,
        subst (λ c. WhereModelled (MakesPart true (puts bs) (Err e) h.counter c all.0) a b) (sym at) all.2,
      )

  table_none : (bs : List Batch) → to_log h ≡ bs → (e : SlateError) → DurableAfter (nat_le (grows h) (length (log_put log bs))) h (Err e) (durable_by bs h (Ok tt))
  table_none [] is e = let least = grows-least h.keeps_log in kept_durable e 0 h (λ no. omega arith)
  table_none (b ∷ bs) is e =
      let yes = keeps h b bs is in
      let one : grows h ≡ 1 = ap (λ x. cond x 1 2) yes in
      subst (DurableAfter (nat_le (grows h) 1) h (Err e)) (sym (ap (λ x. cond x (accepted h) h.durable) yes)) (raised_durable e 1 h (omega arith))

  pub log_out : {a b : Option Objects} (new : Handle) (e : SlateError) → new.counter ≡ h.counter → new.durable ≡ h.durable → WhereModelled (PutsLog log (to_log h) (Err e)) a b → Outcome (to_log h) (Err e) new a b
  log_out {a} {b} new e at number puts_log =
      let least = grows-least h.keeps_log in
      outcome (to_log h) e new h.counter h.durable 0 a b at number (kept_durable e 0 h (λ no. omega arith))
      (modelled_as (Left (to_log h) e h.counter h.durable) puts_log (λ o o' p. log_refused (to_log h) e o o' p))

  module _ {a b : Option Objects} (first : WhereModelled (PutsLog log (to_log h) (Ok tt)) a b) where
    pub table_out : {c : Option Objects} (new : Handle) (r : StoreError) → new.counter ≡ h.counter + 1 → new.durable ≡ durable_by (to_log h) h (Ok tt) → WhereModelled (Puts t (Err r)) b c → Outcome (to_log h) (Err (error_of_store r)) new a c
    table_out {c} new r at number second =
        let e = error_of_store r in
        outcome (to_log h) e new (h.counter + 1) (durable_by (to_log h) h (Ok tt)) (length (log_put log (to_log h))) a c at number (table_none (to_log h) refl e)
        (modelled_then (Left (to_log h) e (h.counter + 1) (durable_by (to_log h) h (Ok tt))) first second
        (λ o o1 o2 p q. table_left (to_log h) refl e o o1 o2 p (r, refl, q)))

    module _ {c : Option Objects} (second : WhereModelled (Puts t (Ok tt)) b c) where
      both : WhereModelled (λ o o2. (o1 : Objects) × PutsLog log (to_log h) (Ok tt) o o1 × (o2 ≡ changed t o1)) a c
      both = modelled_then (λ o o2. (o1 : Objects) × PutsLog log (to_log h) (Ok tt) o o1 × (o2 ≡ changed t o1)) first second (λ o o1 o2 p q. (o1, p, q.1))

      pub manifest_out : {d : Option Objects} (new : Handle) (r : StoreError) → new.counter ≡ h.counter + 1 → new.durable ≡ tabled_durable (to_log h) → WhereModelled (Puts m (Err r)) c d → Outcome (to_log h) (Err (error_of_store r)) new a d
      manifest_out {d} new r at number third =
          let e = error_of_store r in
          outcome (to_log h) e new (h.counter + 1) (tabled_durable (to_log h)) 1 a d at number
          (late_durable h.keeps_log refl (to_log h) refl e 1 (omega arith) (λ out no. omega arith))
          (modelled_then (Left (to_log h) e (h.counter + 1) (tabled_durable (to_log h))) both third
          (λ o o2 o3 p q. manifest_left (to_log h) refl e o p.0 o2 o3 p.1 p.2 (r, refl, q)))

      pub all_out : {d : Option Objects} (new : Handle) → new.counter ≡ h.counter + 1 → WhereModelled (Puts m (Ok tt)) c d → Outcome (to_log h) (Ok tt) new a d
      all_out {d} new at third = (
        length (puts (to_log h)),
        tt,
        modelled_then (MakesPart true (puts (to_log h)) (Ok tt) h.counter new.counter (length (puts (to_log h)))) both third
            (λ o o2 o3 p q. subst (λ n. MakesPart true (puts (to_log h)) (Ok tt) h.counter n (length (puts (to_log h))) o o3) (sym at) (all_put (to_log h) o p.0 o2 o3 p.1 p.2 q.1)),
      )
