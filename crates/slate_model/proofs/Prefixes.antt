-- Lines that begin others.
use Rattle.std.proofs.Common.{◌≡◌, ℕ, ◌-◌, ◌≤◌, Bool, true, false, List, [], ◌++◌, length, take, refl, sym, subst, ap, ◌∙◌, arith, append_assoc, length-append, if◌then◌else◌}
use Rattle.std.proofs.Math.Seq.{take-append_seam}
use Rattle.std.proofs.lemmas.List.{append-nil, take_all}
use Rattle.slate_types.specs.declared.batches.Batch.{Batch}
use Rattle.slate_types.specs.Line.{Line, IsPrefix, end, extended}
use Rattle.slate_model.specs.Valid.{up_to}

-- a line begins itself, and what goes on from it
pub prefix-same : (line : Line) → IsPrefix line line
prefix-same line = ([], ap (λ bs. record { floor = line.floor; batches = bs }) (sym (append-nil line.batches)))

pub prefix-extend : (a b : Line) (batches : List Batch) → IsPrefix a b → IsPrefix a (extended b batches)
prefix-extend a b batches p =
    (p.0 ++ batches, ap (λ l. extended l batches) p.1 ∙ ap (λ bs. record { floor = a.floor; batches = bs }) (append_assoc a.batches p.0 batches))

pub prefix-then : (a b c : Line) → IsPrefix a b → IsPrefix b c → IsPrefix a c
prefix-then a b c p q = subst (IsPrefix a) (sym q.1) (prefix-extend a b q.0 p)

pub prefix-after : (a b : Line) (some : Bool) (batches : List Batch) → IsPrefix a b → IsPrefix a (if some then extended b batches else b)
prefix-after a b true batches p = prefix-extend a b batches p
prefix-after a b false batches p = p

pub prefix-end : (a b : Line) → IsPrefix a b → end a ≤ end b
prefix-end a b p =
    let longer = ap (λ (l : Line). end l) p.1 in
    let count = length-append a.batches p.0 in
    omega (arith, longer, count)

-- a line up to its end, or past it, is the line
pub up_to-all : (number : ℕ) (line : Line) → end line ≤ number → up_to number line ≡ line
up_to-all number line all = ap (λ bs. record { floor = line.floor; batches = bs }) (take_all (number - line.floor) line.batches (omega (arith, all)))

-- what goes on from a line is the line, up to its end
pub up_to-end : (line : Line) (batches : List Batch) → up_to (end line) (extended line batches) ≡ line
up_to-end line batches =
    let count : end line - line.floor ≡ length line.batches = omega arith in
    ap (λ bs. record { floor = line.floor; batches = bs }) (ap (λ n. take n (line.batches ++ batches)) count ∙ take-append_seam line.batches batches)

-- nothing more is stored where nothing was to be
pub extended-nil : (line : Line) → extended line [] ≡ line
extended-nil line = ap (λ bs. record { floor = line.floor; batches = bs }) (append-nil line.batches)

pub after-nil : (some : Bool) (line : Line) → (if some then extended line [] else line) ≡ line
after-nil true line = extended-nil line
after-nil false line = refl
