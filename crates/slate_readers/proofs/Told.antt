-- Watchers, and the readers that they are.
use Rattle.std.proofs.Common.{◌≡◌, ◌∙◌, ℕ, ◌<◌, ◌++◌, List, length, map, take, sym, subst, ap, arith}
use Rattle.std.proofs.Math.ListN.{get_or-map}
use Rattle.std.proofs.Math.Seq.{take-append_seam}
use Rattle.std.proofs.lemmas.List.{length-map}
use Rattle.std.proofs.lemmas.List.Elements.{All-map}
use Rattle.std.specs.List.{All}
use Rattle.slate_published.specs.Beginnings.{Beginning}
use Rattle.slate_published.specs.States.{last_of}
use Rattle.slate_readers.specs.Watching.{AreOf, StayOf}
use Rattle.slate_readers.specs.declared.watchers.Watcher.{Watcher}

-- watchers of readers that were made with a publisher
pub watchers-of : (published : Beginning) (watchers : List Watcher) (readers : List Beginning) → map (λ (w : Watcher). w.reader) watchers ≡ readers →
    All (λ reader. reader ≡ published) readers → AreOf published watchers
watchers-of published watchers readers same all k d low =
    let there : k < length (map (λ (w : Watcher). w.reader) watchers) = omega (arith, length-map watchers (λ (w : Watcher). w.reader)) in
    let each = subst (λ rs. All (λ reader. reader ≡ published) rs) (sym same) all in
    ap (λ (b : Beginning). b.origin) (sym (get_or-map (λ (w : Watcher). w.reader) watchers k d) ∙ each k d.reader there)

-- as many watchers as readers
pub watchers-count : (watchers : List Watcher) (readers : List Beginning) (count : ℕ) → map (λ (w : Watcher). w.reader) watchers ≡ readers → length readers ≡ count → length watchers ≡ count
watchers-count watchers readers count same long = sym (length-map watchers (λ (w : Watcher). w.reader)) ∙ (ap length same ∙ long)

-- they stay readers of that call
pub watchers-stay : (published published' : Beginning) (watchers watchers' : List Watcher) → length watchers' ≡ length watchers → published'.origin ≡ published.origin →
    AreOf published watchers → StayOf watchers watchers' → AreOf published' watchers'
watchers-stay published published' watchers watchers' long origin are stay k d low = stay k d (omega (arith, long)) ∙ (are k d (omega (arith, long)) ∙ sym origin)

-- readers that have seen all that was published, and the number of the last state
pub readers-seen : (published : Beginning) (watchers : List Watcher) → All (λ (w : Watcher). w.reader ≡ published) watchers → All (λ reader. reader ≡ published) (map (λ (w : Watcher). w.reader) watchers)
readers-seen published watchers all = All-map (λ reader. reader ≡ published) (λ (w : Watcher). w.reader) watchers all

pub readers-at : (published : Beginning) (number : ℕ) (readers : List Beginning) → number ≡ (last_of published.states).number → All (λ reader. reader ≡ published) readers →
    All (λ (reader : Beginning). (last_of reader.states).number ≡ number) readers
readers-at published number readers is all k d low = ap (λ (r : Beginning). (last_of r.states).number) (all k d low) ∙ sym is

-- the front of a list with another behind it
pub front-is : {X : Type 0} (n : ℕ) (xs ys : List X) → n ≡ length xs → take n (xs ++ ys) ≡ xs
front-is n xs ys long = subst (λ k. take k (xs ++ ys) ≡ xs) (sym long) (take-append_seam xs ys)
