-- The first reader among objects, and what no command takes back of it.
use Rattle.std.proofs.Common.{◌≡◌, ◌≢◌, ◌⊎◌, inl, inr, ◌∙◌, ℕ, zero, suc, ◌+◌, ◌<◌, ◌≤◌, List, [], ◌∷◌, length, map, Option, Some, None, refl, sym, subst, ap, arith}
use Rattle.std.specs.Prelude.{slice_get}
use Rattle.std.specs.Option.{option_map}
use Rattle.std.proofs.lemmas.Bool.{cases_eq}
use Rattle.std.proofs.lemmas.Option.{slice_get-map}
use Rattle.slate_model.specs.Follower.{Follower}
use Rattle.slate_model.specs.Object.{Object, Handle, Snapshot, Follower as AFollower, kept}
use Rattle.slate_live.specs.Rising.{FollowerRises, Rise, Rises}
use Rattle.slate_readers.specs.Changes.{NoneBelow, first_reader}
use Rattle.slate_live.specs.Publishing.{reader_of}

-- one number less, without the first object
none-tail : (k : ℕ) (o : Object) (os : List Object) → NoneBelow (suc k) (o ∷ os) → NoneBelow k os
none-tail k o os none n low = none (suc n) (omega arith)

-- the first object is no reader
none-head : (k : ℕ) (f : Follower) (os : List Object) → NoneBelow (suc k) (AFollower f ∷ os) → ⊥
none-head k f os none =
    let here = none 0 (omega arith) in
    let same : reader_of (Some (AFollower f)) ≡ None = ap reader_of here.1 ∙ here.2 in
    cc

-- no reader before one: it is the first
pub first-found : (k : ℕ) (os : List Object) (f : Follower) → NoneBelow k os → reader_of (slice_get os k) ≡ Some f → first_reader os ≡ Some f
first-found k [] f none at = absurd (cc)
first-found zero (Handle handle ∷ os) f none at = absurd (cc)
first-found zero (Snapshot snapshot ∷ os) f none at = absurd (cc)
first-found zero (AFollower g ∷ os) f none at = at
first-found (suc k) (Handle handle ∷ os) f none at = first-found k os f (none-tail k (Handle handle) os none) at
first-found (suc k) (Snapshot snapshot ∷ os) f none at = first-found k os f (none-tail k (Snapshot snapshot) os none) at
first-found (suc k) (AFollower g ∷ os) f none at = absurd (none-head k g os none)

-- and it stands at a place
place-next : (o : Object) (os : List Object) (f : Follower) → (n : ℕ) × (slice_get os n ≡ Some (AFollower f)) → (n : ℕ) × (slice_get (o ∷ os) n ≡ Some (AFollower f))
place-next o os f (n, at) = (suc n, at)

pub first-place : (os : List Object) (f : Follower) → first_reader os ≡ Some f → (n : ℕ) × (slice_get os n ≡ Some (AFollower f))
first-place [] f first = absurd (cc)
first-place (Handle handle ∷ os) f first = place-next (Handle handle) os f (first-place os f first)
first-place (Snapshot snapshot ∷ os) f first = place-next (Snapshot snapshot) os f (first-place os f first)
first-place (AFollower g ∷ os) f first = let same : g ≡ f = cc in (0, ap (λ h. Some (AFollower h)) same)

-- no reader at all
pub first-none : (k : ℕ) (os : List Object) → length os ≤ k → NoneBelow k os → first_reader os ≡ None
first-none k [] all none = refl
first-none zero (o ∷ os) all none = absurd (omega arith)
first-none (suc k) (Handle handle ∷ os) all none = first-none k os (omega arith) (none-tail k (Handle handle) os none)
first-none (suc k) (Snapshot snapshot ∷ os) all none = first-none k os (omega arith) (none-tail k (Snapshot snapshot) os none)
first-none (suc k) (AFollower g ∷ os) all none = absurd (none-head k g os none)

-- an object is a reader where the code's is one
kept-reader : (o : Object) → reader_of (Some (kept o)) ≡ None → reader_of (Some o) ≡ None
kept-reader (Handle handle) isnt = refl
kept-reader (Snapshot snapshot) isnt = refl
kept-reader (AFollower g) isnt = absurd (cc)

reader-kept : (o : Object) → reader_of (Some o) ≡ None → reader_of (Some (kept o)) ≡ None
reader-kept (Handle handle) isnt = refl
reader-kept (Snapshot snapshot) isnt = refl
reader-kept (AFollower g) isnt = absurd (cc)

no-kept : (object : Option Object) (o : Object) → option_map kept object ≡ Some o → reader_of (Some o) ≡ None → (p : Object) × (object ≡ Some p) × (reader_of (Some p) ≡ None)
no-kept None o is isnt = absurd (cc)
no-kept (Some p) o is isnt =
    let same : Some (kept p) ≡ Some o = is in
    (p, refl, kept-reader p (ap reader_of same ∙ isnt))

pub none-world : (k : ℕ) (os : List Object) → NoneBelow k (map kept os) → NoneBelow k os
none-world k os none n low =
    let here = none n low in
    no-kept (slice_get os n) here.0 (sym (slice_get-map kept os n) ∙ here.1) here.2

pub none-kept : (k : ℕ) (os : List Object) → NoneBelow k os → NoneBelow k (map kept os)
none-kept k os none n low =
    let here = none n low in
    (kept here.0, slice_get-map kept os n ∙ ap (option_map kept) here.1, reader-kept here.0 here.2)

slice_get_at : (os : List Object) (n : ℕ) → n < length os → (o : Object) × (slice_get os n ≡ Some o)
slice_get_at [] n low = absurd (omega arith)
slice_get_at (o ∷ os) zero low = (o, refl)
slice_get_at (o ∷ os) (suc n) low = slice_get_at os n (omega arith)

-- one number more
pub none-push : (k : ℕ) (os : List Object) → k < length os → reader_of (slice_get os k) ≡ None → NoneBelow k os → NoneBelow (k + 1) os
none-push k os low isnt none n below =
    elim (cases_eq n k) [
      | inl same ↦
          let there = slice_get_at os k low in
          (there.0, ap (slice_get os) same ∙ there.1, ap reader_of (sym there.1) ∙ isnt)
      | inr other ↦ none n (omega arith)
    ]

-- no command makes an object a reader
stays-none : (o o' : Object) → Rises o o' → reader_of (Some o) ≡ None → reader_of (Some o') ≡ None
stays-none (Handle old) (Handle new) rises isnt = refl
stays-none (Handle old) (Snapshot new) rises isnt = absurd rises
stays-none (Handle old) (AFollower new) rises isnt = absurd rises
stays-none (Snapshot old) (Handle new) rises isnt = absurd rises
stays-none (Snapshot old) (Snapshot new) rises isnt = refl
stays-none (Snapshot old) (AFollower new) rises isnt = absurd rises
stays-none (AFollower old) new rises isnt = absurd (cc)

pub none-rises : (k : ℕ) (os os' : List Object) → Rise os os' → NoneBelow k os → NoneBelow k os'
none-rises k os os' rise none n low =
    let here = none n low in
    let there = rise n here.0 here.1 in
    (there.0, there.1, stays-none here.0 there.0 there.2 here.2)

-- what is said of the objects behind the first one
rise-tail : (o o' : Object) (os os' : List Object) → Rise (o ∷ os) (o' ∷ os') → Rise os os'
rise-tail o o' os os' rise n old at = rise (suc n) old at

rise-head : (o o' : Object) (os os' : List Object) → Rise (o ∷ os) (o' ∷ os') → Rises o o'
rise-head o o' os os' rise =
    let here = rise 0 o refl in
    let same : here.0 ≡ o' = cc (here.1) in
    subst (Rises o) same here.2

-- the first reader stays the first, and its number doesn't fall
pub first-rises : (os os' : List Object) (f : Follower) → Rise os os' → first_reader os ≡ Some f → (g : Follower) × (first_reader os' ≡ Some g) × FollowerRises f g
first-rises [] os' f rise first = absurd (cc)
first-rises (o ∷ os) [] f rise first = let here = rise 0 o refl in absurd (cc (here.1))
first-rises (Handle old ∷ os) (Handle new ∷ os') f rise first = first-rises os os' f (rise-tail (Handle old) (Handle new) os os' rise) first
first-rises (Handle old ∷ os) (Snapshot new ∷ os') f rise first = absurd (rise-head (Handle old) (Snapshot new) os os' rise)
first-rises (Handle old ∷ os) (AFollower new ∷ os') f rise first = absurd (rise-head (Handle old) (AFollower new) os os' rise)
first-rises (Snapshot old ∷ os) (Handle new ∷ os') f rise first = absurd (rise-head (Snapshot old) (Handle new) os os' rise)
first-rises (Snapshot old ∷ os) (Snapshot new ∷ os') f rise first = first-rises os os' f (rise-tail (Snapshot old) (Snapshot new) os os' rise) first
first-rises (Snapshot old ∷ os) (AFollower new ∷ os') f rise first = absurd (rise-head (Snapshot old) (AFollower new) os os' rise)
first-rises (AFollower old ∷ os) (Handle new ∷ os') f rise first = absurd (rise-head (AFollower old) (Handle new) os os' rise)
first-rises (AFollower old ∷ os) (Snapshot new ∷ os') f rise first = absurd (rise-head (AFollower old) (Snapshot new) os os' rise)
first-rises (AFollower old ∷ os) (AFollower new ∷ os') f rise first =
    let same : old ≡ f = cc in
    (new, refl, subst (λ g. FollowerRises g new) same (rise-head (AFollower old) (AFollower new) os os' rise))
