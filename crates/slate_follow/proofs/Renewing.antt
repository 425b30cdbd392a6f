-- A poll of a reader that keeps a checkpoint, of a round and maybe a renewal of the lease that this took.
use Rattle.std.proofs.Common.{◌≡◌, ◌+◌, ◌≤◌, ◌∙◌, ◌∷◌, [], ℕ, ℤ, inl, inr, Bool, true, false, cond, length, List, Option, Some, None, Result, Ok, Err, refl, sym, subst, ap, arith}
use Rattle.std.specs.Option.{IfSome}
use Rattle.std.specs.Prelude.{◌&&◌, IsSome}
use Rattle.slate_types.specs.Modelled.{WhereModelled}
use Rattle.slate_types.proofs.Modelled.{modelled_as}
use Rattle.slate_types.specs.declared.batches.Batch.{Batch}
use Rattle.slate_types.specs.declared.store_errors.StoreFault.TheVariants.{Unavailable}
use Rattle.slate_store.specs.Checkpoints.{Plan, found, to_refresh}
use Rattle.slate_store.specs.Objects.{Objects, PutManifest, changed, latest_manifest}
use Rattle.slate_store.specs.Refusals.{planned}
use Rattle.slate_store.specs.declared.objects.Checkpoint.{Checkpoint}
use Rattle.slate_store.specs.declared.objects.VersionedManifest.{VersionedManifest}
use Rattle.slate_errors.specs.declared.errors.SlateError.{SlateError}
use Rattle.slate_errors.specs.declared.errors.SlateError.TheVariants as errors
use Rattle.slate_model.specs.declared.answers.PollAnswer.{PollAnswer}
use Rattle.slate_model.specs.declared.leases.Lease.{Lease}
use Rattle.slate_model.proofs.Leased.{leased-is, leased-refused, written-due}
use Rattle.slate_model.proofs.Reduced.{some-same}
use Rattle.slate_model.specs.Changes.{after_part}
use Rattle.slate_model.specs.Follower.{Follower}
use Rattle.slate_model.specs.Known.{CountsFaults, Known}
use Rattle.slate_model.specs.Lease.{differs, is_due, is_due_at_once, leased, renews_taken, replaces}
use Rattle.slate_model.specs.Managed.{IsOpenAt, Keeps, KeepsLease, PollsLeased, PutsRenewal, RenewsTaken, poll_result}
use Rattle.slate_model.specs.Segments.{Extractor}
use Rattle.slate_model.specs.Stores.{Stands, by_objects}
use Rattle.slate_follow.specs.Keeping.{CallsKeeping, CallsRound, FailsRenewal, GivesLease, HasTaken, MovesBy, PutsManifest, calls_to_keep}
use Rattle.slate_follow.specs.Rebuilding.{new_logs}
use Rattle.slate_follow.proofs.Keeping.{replaces-by, to-replace}
use Rattle.slate_follow.proofs.Rebuilt.{if_some, some_at}
use Rattle.slate_follow.proofs.Taken.{all-well, counts-then, with-made}

-- a reader that didn't move takes no lease that it renews at once
pub unmoved : (t : Option Objects) (f : ℕ) (old : Follower) (lease : Lease) (moment : ℤ) → IfSome t (MovesBy false old) → RenewsTaken old lease moment false (record { objects = t; faults = f })
unmoved t f old lease moment moves = if_some t (λ o at latest is.
    let same = some_at (MovesBy false old) t o at moves latest is in
    ap (λ b. b && is_due_at_once lease.lifetime moment) (sym same))

module _ (t t' : Option Objects) (f : ℕ) (old new : Follower) (lease : Lease) (moment : ℤ) (answer : PollAnswer) (moves : IfSome t (MovesBy true old)) (keeps : WhereModelled (λ o o'. Keeps (by_objects t) lease moment old o new answer o') t t') where
  -- one that moved has the lease that its plan took, which is due at once by its lifetime
  taken-due : (o : Objects) (at : t ≡ Some o) (latest : VersionedManifest) → latest_manifest o ≡ Some latest → (taken : Lease) → new.lease ≡ Some taken → renews_taken old.view lease moment latest ≡ is_due moment taken
  taken-due o at latest is taken held =
      let k = (keeps.some o at).2 in
      let same : latest ≡ k.latest = some-same latest k.latest (sym is ∙ k.is_latest) in
      let moved : differs old.view k.latest ≡ true = sym (some_at (MovesBy true old) t o at moves k.latest k.is_latest) in
      let replaced : replaces old.view lease moment k.latest ≡ true = replaces-by old.view k.latest lease moment true _ _ moved refl refl in
      let gives = sym (to-replace old.view k.latest lease moment replaced) ∙ k.plan in
      let given : k.given ≡ taken = some-same k.given taken (sym k.leased ∙ held) in
      let due : is_due moment k.given ≡ is_due_at_once lease.lifetime moment = written-due (Some lease.id) lease.lifetime moment k.latest k.next k.given gives in
      subst (λ v. renews_taken old.view lease moment v ≡ is_due moment taken) (sym same)
      (ap (λ b. b && is_due_at_once lease.lifetime moment) moved ∙ (sym due ∙ ap (is_due moment) given))

  -- by whether that is due
  pub taken-renews : (b : Bool) (taken : Lease) → new.lease ≡ Some taken → is_due moment taken ≡ b → RenewsTaken old lease moment b (record { objects = t; faults = f })
  taken-renews b taken held due = if_some t (λ o at latest is. taken-due o at latest is taken held ∙ due)

  -- it has one, over a store that is modelled
  pub untaken-renews : new.lease ≡ None → RenewsTaken old lease moment false (record { objects = t; faults = f })
  untaken-renews none = if_some t (λ o at latest is. absurd (let k = (keeps.some o at).2 in let some = k.leased in cc))

-- how often it called the store
pub renewal-costs : (t : Option Objects) (f : ℕ) (old : Follower) (lease : Lease) (moment : ℤ) (n n1 n' : ℕ) (b : Bool) → RenewsTaken old lease moment b (record { objects = t; faults = f }) → n' ≤ n1 + cond b 1 0 → IfSome t (λ o. CallsRound o old lease moment n n1) → IfSome t (λ o. CallsKeeping o old lease moment n n')
renewal-costs t f old lease moment n n1 n' b renews more costs = if_some t (λ o at latest is.
    let round = some_at (λ o. CallsRound o old lease moment n n1) t o at costs latest is in
    let does = some_at (λ o. (latest : VersionedManifest) → latest_manifest o ≡ Some latest → renews_taken old.view lease moment latest ≡ b) t o at renews latest is in
    subst (λ c. n' ≤ n + calls_to_keep old.view lease moment latest (new_logs old latest o) + cond c 1 0) (sym does) (omega (arith, round, more)))

pub same-costs : (t : Option Objects) (old : Follower) (lease : Lease) (moment : ℤ) (n n' : ℕ) → IfSome t (λ o. CallsRound o old lease moment n n') → IfSome t (λ o. CallsKeeping o old lease moment n n')
same-costs t old lease moment n n' costs = if_some t (λ o at latest is. (let round = some_at (λ o. CallsRound o old lease moment n n') t o at costs latest is in omega (arith, round)))

-- ---- what a renewal puts
-- so a renewal does of a lease, at a moment after this manifest
abbrev pub RenewsAt : {A : Type 0} → (moment : ℤ) → VersionedManifest → Result A SlateError → (t t' : Option Objects) → Lease → Type 0
RenewsAt moment view result t t' lease = is_due moment lease ≡ true → WhereModelled (λ o o'. (made : ℕ) × PutsRenewal Stands (to_refresh lease.id lease.lifetime moment view) o result made o') t t'

pub at-lease : (held : Option Lease) (lease : Lease) (P : Lease → Type 0) → held ≡ Some lease → P lease → IfSome held P
at-lease held lease P is p = subst (λ y. IfSome y P) (sym is) p

module _ (moment : ℤ) (view : VersionedManifest) (lease : Lease) where
  abbrev renewal : Plan Checkpoint
  renewal = to_refresh lease.id lease.lifetime moment view

  -- no manifest may follow, or there was no memory
  unplanned : {A : Type 0} (e : SlateError) (o : Objects) → GivesLease (leased lease.lifetime renewal) (Err e) → PutsRenewal {A = A} Stands renewal o (Err e) 0 o
  unplanned errors.InvalidDBState o gives = record { cause = leased-refused lease.lifetime renewal gives; done = tt; part = omega arith; after = refl }
  unplanned errors.NoMemory o gives = record { cause = tt; done = tt; part = omega arith; after = refl }
  unplanned e o gives = absurd gives

  pub renews-none : {A : Type 0} (e : SlateError) (t t' : Option Objects) → t' ≡ t → GivesLease (leased lease.lifetime renewal) (Err e) → RenewsAt {A = A} moment view (Err e) t t' lease
  renews-none e t t' kept gives due = record { none = λ no. kept ∙ no; some = λ o at. (o, kept ∙ at, (0, unplanned e o gives)) }

  module _ (next : VersionedManifest) (given : Lease) (gives : leased lease.lifetime renewal ≡ Ok (Some next, given)) where
    changes : planned {L = List Batch} renewal ≡ PutManifest next.id next.manifest ∷ []
    changes = ap planned (leased-is lease.lifetime renewal (Some next) given gives).1

    one : length (planned {L = List Batch} renewal) ≡ 1
    one = ap length changes

    is-put : (o o' : Objects) → o' ≡ changed (PutManifest next.id next.manifest) o → o' ≡ after_part 1 (planned renewal) o
    is-put o o' is = is ∙ ap (λ cs. after_part 1 cs o) (sym changes)

    put-by : {A : Type 0} (x : A) (b : Bool) (o o' : Objects) → PutsManifest next (Ok b) o o' → (made : ℕ) × PutsRenewal Stands renewal o (Ok x) made o'
    put-by x true o o' h = (1, record { cause = tt; done = inl (sym one); part = omega (arith, one); after = is-put o o' h })
    put-by x false o o' h =
        let stands : Stands (PutManifest next.id next.manifest ∷ []) o = (PutManifest next.id next.manifest, (0, omega arith, refl), h.0) in
        (0, record { cause = tt; done = inr (refl, subst (λ cs. Stands cs o) (sym changes) stands); part = omega arith; after = h.1 })

    pub renews-put : {A : Type 0} (x : A) (b : Bool) (t t' : Option Objects) → WhereModelled (PutsManifest next (Ok b)) t t' → RenewsAt moment view (Ok x) t t' lease
    renews-put x b t t' puts due = modelled_as (λ o o'. (made : ℕ) × PutsRenewal Stands renewal o (Ok x) made o') puts (put-by x b)

    failed-by : {A : Type 0} (e : SlateError) (o o' : Objects) → PutsManifest next (Err e) o o' → (made : ℕ) × PutsRenewal {A = A} Stands renewal o (Err e) made o'
    failed-by (errors.ObjectStoreError Unavailable) o o' (inl same) = (0, record { cause = tt; done = tt; part = omega arith; after = same })
    failed-by (errors.ObjectStoreError Unavailable) o o' (inr put) = (1, record { cause = tt; done = tt; part = omega (arith, one); after = is-put o o' put.1 })
    failed-by errors.NoMemory o o' h = (0, record { cause = tt; done = tt; part = omega arith; after = h })
    failed-by e o o' h = absurd h

    pub renews-failed : {A : Type 0} (e : SlateError) (t t' : Option Objects) → WhereModelled (PutsManifest next (Err e)) t t' → RenewsAt {A = A} moment view (Err e) t t' lease
    renews-failed {A} e t t' puts due = modelled_as (λ o o'. (made : ℕ) × PutsRenewal {A = A} Stands renewal o (Err e) made o') puts (failed-by e)

-- ---- a round, and a renewal
module _ (x : Option Extractor) (lease : Lease) (moment : ℤ) (old : Follower) (t t1 t' : Option Objects) (f f1 f' : ℕ) where
  abbrev before : Known (List Batch)
  before = record { objects = t; faults = f }

  abbrev between : Known (List Batch)
  between = record { objects = t1; faults = f1 }

  abbrev after : Known (List Batch)
  after = record { objects = t'; faults = f' }

  module _ (answer : PollAnswer) (middle : Follower) (made : ℕ) (round : KeepsLease (by_objects t) x made lease moment old before (Ok answer) middle between) where
    -- there is none
    pub one-round : RenewsTaken old lease moment false before → PollsLeased (by_objects t) x made lease moment old before (Ok answer) middle between
    one-round ends = inl (record { round = round; ends = ends })

    module _ (renews : RenewsTaken old lease moment true before) (taken : Lease) (leased : middle.lease ≡ Some taken) (due : is_due moment taken ≡ true) where
      abbrev plan : Plan Checkpoint
      plan = to_refresh taken.id taken.lifetime moment middle.view

      abbrev Puts : Result (Unit {0}) SlateError → Type 0
      Puts result = WhereModelled (λ o o'. (n : ℕ) × PutsRenewal Stands plan o result n o') t1 t'

      -- it is made
      pub two-rounds : CountsFaults {A = Unit {0}} f1 f' (Ok tt) → Puts (Ok tt) → (n : ℕ) × PollsLeased (by_objects t) x n lease moment old before (Ok answer) middle after
      two-rounds faults puts =
          let again = with-made {P = λ n o o'. PutsRenewal {A = Unit {0}} Stands plan o (Ok tt) n o'} {a = t1} {b = t'} puts in (
            made + again.0,
            inr (record {
              first = made;
              again = again.0;
              made_is = refl;
              answer = answer;
              middle = middle;
              between = between;
              round = round;
              renews = renews;
              given = taken;
              leased = leased;
              due = due;
              faults = all-well f1 f' answer faults.stays;
              puts = modelled_as (λ o o'. PutsRenewal Stands plan o (Ok answer) again.0 o') again.1 (λ o o' h. record { cause = tt; done = h.done; part = h.part; after = h.after });
              answers = (refl, refl);
              failed = tt;
            }),
          )

      -- it fails
      pub failed-again : (e : SlateError) (new : Follower) → new ≡ record middle { result = poll_result e } → CountsFaults {A = Unit {0}} f1 f' (Err e) → Puts (Err e) → (n : ℕ) × PollsLeased (by_objects t) x n lease moment old before (Err e) new after
      failed-again e new closed faults puts =
          let again = with-made {P = λ n o o'. PutsRenewal {A = Unit {0}} Stands plan o (Err e) n o'} {a = t1} {b = t'} puts in (
            made + again.0,
            inr (record {
              first = made;
              again = again.0;
              made_is = refl;
              answer = answer;
              middle = middle;
              between = between;
              round = round;
              renews = renews;
              given = taken;
              leased = leased;
              due = due;
              faults = counts-then f1 f1 f' e refl faults;
              puts = modelled_as (λ o o'. PutsRenewal {A = PollAnswer} Stands plan o (Err e) again.0 o') again.1 (λ o o' h. record { cause = h.cause; done = tt; part = h.part; after = h.after });
              answers = tt;
              failed = closed;
            }),
          )

    -- whether there is one, by the lease that the round took
    module _ (moves : IfSome t (MovesBy true old)) (keeps : WhereModelled (λ o o'. Keeps (by_objects t) lease moment old o middle answer o') t t1) where
      pub renewed-polls : CountsFaults {A = Unit {0}} f1 f' (Ok tt) → ((taken : Lease) → middle.lease ≡ Some taken → RenewsAt {A = Unit {0}} moment middle.view (Ok tt) t1 t' taken) →
          ((taken : Lease) → middle.lease ≡ Some taken → is_due moment taken ≡ false → after ≡ between) → (middle.lease ≡ None → after ≡ between) → (n : ℕ) × PollsLeased (by_objects t) x n lease moment old before (Ok answer) middle after
      renewed-polls faults puts undue none = by middle.lease refl where
        once : after ≡ between → RenewsTaken old lease moment false before → (n : ℕ) × PollsLeased (by_objects t) x n lease moment old before (Ok answer) middle after
        once same ends = (made, subst (PollsLeased (by_objects t) x made lease moment old before (Ok answer) middle) (sym same) (one-round ends))

        by : (held : Option Lease) → middle.lease ≡ held → (n : ℕ) × PollsLeased (by_objects t) x n lease moment old before (Ok answer) middle after
        by None bare = once (none bare) (untaken-renews t t1 f old middle lease moment answer moves keeps bare)
        by (Some taken) held = by_due (is_due moment taken) refl where
          by_due : (b : Bool) → is_due moment taken ≡ b → (n : ℕ) × PollsLeased (by_objects t) x n lease moment old before (Ok answer) middle after
          by_due true due = two-rounds (taken-renews t t1 f old middle lease moment answer moves keeps true taken held due) taken held due faults (puts taken held due)
          by_due false due = once (undue taken held due) (taken-renews t t1 f old middle lease moment answer moves keeps false taken held due)

      pub failed-polls : (e : SlateError) (new : Follower) → new ≡ record middle { result = poll_result e } → CountsFaults {A = Unit {0}} f1 f' (Err e) → ((taken : Lease) → middle.lease ≡ Some taken → RenewsAt {A = Unit {0}} moment middle.view (Err e) t1 t' taken) →
          ((taken : Lease) → middle.lease ≡ Some taken → is_due moment taken ≡ false → ⊥) → (middle.lease ≡ None → ⊥) → (n : ℕ) × PollsLeased (by_objects t) x n lease moment old before (Err e) new after
      failed-polls e new closed faults puts undue none = by middle.lease refl where
        by : (held : Option Lease) → middle.lease ≡ held → (n : ℕ) × PollsLeased (by_objects t) x n lease moment old before (Err e) new after
        by None bare = absurd (none bare)
        by (Some taken) held = by_due (is_due moment taken) refl where
          by_due : (b : Bool) → is_due moment taken ≡ b → (n : ℕ) × PollsLeased (by_objects t) x n lease moment old before (Err e) new after
          by_due true due = failed-again (taken-renews t t1 f old middle lease moment answer moves keeps true taken held due) taken held due e new closed faults (puts taken held due)
          by_due false due = absurd (undue taken held due)

-- what it leaves that fails, with any extractor
pub renewal-left : (lease : Lease) (moment : ℤ) (old : Follower) (t t1 t' : Option Objects) → old.lease ≡ Some lease → (middle : Follower) (answer : PollAnswer) → IsOpenAt old.skips old.lag middle answer → IfSome t (MovesBy true old) →
    WhereModelled (λ o o'. Keeps (by_objects t) lease moment old o middle answer o') t t1 → HasTaken middle → (e : SlateError) → ((taken : Lease) → middle.lease ≡ Some taken → RenewsAt {A = Unit {0}} moment middle.view (Err e) t1 t' taken) →
    ((taken : Lease) → middle.lease ≡ Some taken → is_due moment taken ≡ false → ⊥) → (middle.lease ≡ None → ⊥) → (new : Follower) → new ≡ record middle { result = poll_result e } → FailsRenewal moment old t e new t'
renewal-left lease moment old t t1 t' held middle answer opened moves keeps there e puts undue none new closed = by middle.lease refl where
  by : (l : Option Lease) → middle.lease ≡ l → FailsRenewal moment old t e new t'
  by None bare = absurd (none bare)
  by (Some taken) leased = by_due (is_due moment taken) refl where
    by_due : (b : Bool) → is_due moment taken ≡ b → FailsRenewal moment old t e new t'
    by_due false early = absurd (undue taken leased early)
    by_due true due = record {
      lease = lease;
      held = held;
      middle = middle;
      answer = answer;
      between = t1;
      opened = opened;
      moved = moves;
      keeps = keeps;
      taken = taken;
      leased = leased;
      there = some_at (λ (l : Lease). IsSome (found l.id middle.view)) middle.lease taken leased there;
      due = due;
      puts = puts taken leased due;
      becomes = closed;
    }

-- whether the renewal was made, by what it cost
pub renewal-calls : (t t1 : Option Objects) (f : ℕ) (old middle : Follower) (lease : Lease) (moment : ℤ) (answer : PollAnswer) → IfSome t (MovesBy true old) → WhereModelled (λ o o'. Keeps (by_objects t) lease moment old o middle answer o') t t1 →
    (n n1 n' : ℕ) → n' ≤ n1 + 1 → ((taken : Lease) → middle.lease ≡ Some taken → is_due moment taken ≡ false → n' ≡ n1) → (middle.lease ≡ None → n' ≡ n1) → IfSome t (λ o. CallsRound o old lease moment n n1) → IfSome t (λ o. CallsKeeping o old lease moment n n')
renewal-calls t t1 f old middle lease moment answer moves keeps n n1 n' more undue none costs = by middle.lease refl where
  by : (held : Option Lease) → middle.lease ≡ held → IfSome t (λ o. CallsKeeping o old lease moment n n')
  by None bare = (let same = none bare in renewal-costs t f old lease moment n n1 n' false (untaken-renews t t1 f old middle lease moment answer moves keeps bare) (omega (arith, same)) costs)
  by (Some taken) held = by_due (is_due moment taken) refl where
    by_due : (b : Bool) → is_due moment taken ≡ b → IfSome t (λ o. CallsKeeping o old lease moment n n')
    by_due true due = renewal-costs t f old lease moment n n1 n' true (taken-renews t t1 f old middle lease moment answer moves keeps true taken held due) more costs
    by_due false due = (let same = undue taken held due in renewal-costs t f old lease moment n n1 n' false (taken-renews t t1 f old middle lease moment answer moves keeps false taken held due) (omega (arith, same)) costs)
