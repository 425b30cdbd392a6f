-- What the calls of a poll by single calls find, from what each leads to.
use Rattle.std.proofs.Common.{◌≡◌, ◌∙◌, ℕ, ◌+◌, ◌-◌, ◌<◌, ◌==◌, ◌++◌, inr, List, length-append, IsSome, if◌then◌else◌, ◌≤◌, inl, true, Bool, Option, None, Some, Ok, Err, Result, refl, rules, sym, ap, subst, arith}
use Rattle.std.proofs.Math.Bool.{or-true}
use Rattle.std.proofs.lemmas.Bool.{eq-eqb, le-ltb, lt-ltb}
use Rattle.std.specs.Option.{IfSome, option_map}
use Rattle.std.specs.Prelude.{◌⊎◌, ◌||◌, nat_lt}
use Rattle.std.specs.Result.{IfErr}
use Rattle.slate_types.specs.Modelled.{WhereModelled}
use Rattle.slate_types.proofs.Modelled.{modelled_as}
use Rattle.slate_types.specs.declared.store_errors.StoreFault.TheVariants.{Unavailable}
use Rattle.slate_store.specs.declared.reader_modes.DbReaderMode.{DbReaderMode}
use Rattle.slate_store.specs.Objects.{Objects}
use Rattle.slate_errors.specs.declared.errors.SlateError.{SlateError}
use Rattle.slate_errors.specs.declared.errors.SlateError.TheVariants as errors
use Rattle.slate_types.specs.declared.batches.Batch.{Batch}
use Rattle.slate_store.specs.declared.objects.VersionedManifest.{VersionedManifest}
use Rattle.slate_model.proofs.Reduced.{some-same}
use Rattle.slate_model.specs.Begun.{Begun, Ended, Goes, LooksAt, Puts, ReadsAgain, ReadsLatest, ReadsLog, Stage, Turn, greatest_number, reached_number, read_log, replayed}
use Rattle.slate_model.specs.Follower.{Follower}
use Rattle.slate_model.specs.Known.{CountsFaults}
use Rattle.slate_model.specs.declared.leases.Lease.{Lease}
use Rattle.slate_model.specs.declared.polls.PollHistory.{PollHistory}
use Rattle.slate_follow.specs.Keeping.{FindsLatest, PutsManifest}
use Rattle.slate_follow.specs.Stepping.{CallsNext, FailsFrom, FitsReader, GivesTurn, IsOfCommit, IsOfDecision, IsOfTurn, LeavesPut, LooksTo, MeetsAt, TurnsTo, reads_latest}
use Rattle.slate_follow.specs.declared.machines.Turn.{Turn as Answered}
use Rattle.slate_follow.proofs.Planned.{modelled-kept}

pub decision-turn : (mode : DbReaderMode) (e : SlateError) → IsOfDecision mode e → IsOfTurn mode e
decision-turn mode errors.InvalidDBState of = of
decision-turn mode (errors.TransactionalObjectTimeout tries) of = of
decision-turn mode errors.NoMemory of = of
decision-turn mode e of = absurd of

-- a call that leads to this turn fails where its turn does
failing : (stage : Stage) (reader : Follower) (begun after : Begun) (o o' : Objects) (mode : DbReaderMode) (e : SlateError) (turn : Turn) → IsOfDecision mode e → GivesTurn turn (Err e) after →
    MeetsAt stage reader begun o turn o' → LeavesPut stage o o' → FailsFrom stage reader begun o e o'
failing stage reader begun after o o' mode errors.InvalidDBState turn of gives meets leaves = subst (λ (t : Turn). MeetsAt stage reader begun o t o') gives meets
failing stage reader begun after o o' mode (errors.TransactionalObjectTimeout tries) turn of gives meets leaves = subst (λ (t : Turn). MeetsAt stage reader begun o t o') gives meets
failing stage reader begun after o o' mode errors.NoMemory turn of gives meets leaves = leaves
failing stage reader begun after o o' mode e turn of gives meets leaves = absurd of

pub calls-to : (stage : Stage) (reader : Follower) (begun : Begun) (turn : Turn) (result : Result Answered SlateError) (after : Begun) {s s' : Option Objects} →
    WhereModelled (λ o o'. MeetsAt stage reader begun o turn o' × LeavesPut stage o o') s s' → TurnsTo reader turn result after → CallsNext stage reader begun result after s s'
calls-to stage reader begun turn (Ok answered) after w t = record {
  meets = modelled_as _ w (λ o o' m. subst (λ (u : Turn). MeetsAt stage reader begun o u o') t.gives m.0);
  failed = tt;
  fits = t.fits;
  kind = tt;
  staged = t.staged;
}
calls-to stage reader begun turn (Err e) after w t = record {
  meets = tt;
  failed = modelled_as _ w (λ o o' m. failing stage reader begun after o o' reader.mode e turn t.kind t.gives m.0 m.1);
  fits = tt;
  kind = decision-turn reader.mode e t.kind;
  staged = t.staged;
}

reading-leaves : (stage : Stage) (o : Objects) → reads_latest stage ≡ true → LeavesPut stage o o
reading-leaves ReadsLatest o reads = refl
reading-leaves ReadsAgain o reads = refl
reading-leaves stage o reads = absurd (search rules)

-- the latest manifest wasn't read
pub latest-failed : (stage : Stage) (reader : Follower) (begun after : Begun) (e : SlateError) {s s' : Option Objects} → reads_latest stage ≡ true → IfSome s (λ o. FindsLatest o (Err e)) → s' ≡ s →
    ((mode : DbReaderMode) → IsOfTurn mode e) → after.stage ≡ Ended → CallsNext stage reader begun (Err e) after s s'
latest-failed stage reader begun after e reads found kept kind ended = record {
  meets = tt;
  failed = modelled-kept found kept (λ o f. at o e f);
  fits = tt;
  kind = kind reader.mode;
  staged = ended;
}
  where
    at : (o : Objects) (e : SlateError) → FindsLatest o (Err e) → FailsFrom stage reader begun o e o
    at o errors.LatestTransactionalObjectVersionMissing f = (reads, f, refl)
    at o (errors.ObjectStoreError Unavailable) f = reading-leaves stage o reads
    at o errors.NoMemory f = reading-leaves stage o reads
    at o e f = absurd f

-- no fault is answered by what a poll decides
pub decision-counts : (mode : DbReaderMode) (f f' : ℕ) (result : Result Answered SlateError) → f' ≡ f → IfErr result (IsOfDecision mode) → CountsFaults f f' result
decision-counts mode f f' (Ok answered) same kind = record { count = omega (arith, same); unavailable = λ is. absurd (cc); stays = same; none_missing = λ is. cc }
decision-counts mode f f' (Err errors.InvalidDBState) same kind = record { count = omega (arith, same); unavailable = λ is. absurd (cc); stays = inl same; none_missing = λ is. cc }
decision-counts mode f f' (Err (errors.TransactionalObjectTimeout tries)) same kind = record { count = omega (arith, same); unavailable = λ is. absurd (cc); stays = inl same; none_missing = λ is. cc }
decision-counts mode f f' (Err errors.NoMemory) same kind = record { count = omega (arith, same); unavailable = λ is. absurd (cc); stays = inl same; none_missing = λ is. cc }
decision-counts mode f f' (Err e) same kind = absurd kind

pub commit-counts : (f f' : ℕ) (result : Result Answered SlateError) → f' ≡ f → IfErr result IsOfCommit → CountsFaults f f' result
commit-counts f f' (Ok answered) same kind = record { count = omega (arith, same); unavailable = λ is. absurd (cc); stays = same; none_missing = λ is. cc }
commit-counts f f' (Err errors.InvalidDBState) same kind = record { count = omega (arith, same); unavailable = λ is. absurd (cc); stays = inl same; none_missing = λ is. cc }
commit-counts f f' (Err errors.NoMemory) same kind = record { count = omega (arith, same); unavailable = λ is. absurd (cc); stays = inl same; none_missing = λ is. cc }
commit-counts f f' (Err e) same kind = absurd kind

-- what is there
pub some-of : {A : Type 0} (o : Option A) → IsSome o → (x : A) × (o ≡ Some x)
some-of (Some x) is = (x, refl)
some-of None is = absurd (cc)

-- a poll that has read more fits its reader, and goes on to keep its lease after the last log file
pub longer-fits : (reader : Follower) (begun : Begun) (added : List Batch) (mark : ℕ) → FitsReader reader begun → FitsReader reader (record begun { fresh = begun.fresh ++ added; mark = mark })
longer-fits reader begun added mark fits = record {
  leased = fits.leased;
  after = fits.after;
  low = fits.low;
  high = (let up = fits.high in let longer = length-append begun.fresh added in omega (arith, up, longer));
}

pub last-read : (reader : Follower) (latest : VersionedManifest) (last : ℕ) (fresh : List Batch) (begun : Begun) (result : Result Answered SlateError) (after : Begun) → begun.mark + 1 ≡ last →
    TurnsTo reader (replayed latest (record begun { fresh = fresh; mark = begun.mark + 1 })) result after → TurnsTo reader (read_log latest last fresh begun) result after
last-read reader latest last fresh begun result after is t =
    let read = record begun { fresh = fresh; mark = begun.mark + 1 } in
    let here : (begun.mark + 1 == last) ≡ true = eq-eqb (begun.mark + 1) last is in
    subst (λ (ends : Bool). TurnsTo reader (if ends then replayed latest read else Goes (record read { stage = ReadsLog last })) result after) (sym here) t

-- a manifest wasn't put
pub put-failed : (reader : Follower) (begun after : Begun) (next : VersionedManifest) (given : Lease) (replaces : Bool) (e : SlateError) {s s' : Option Objects} →
    WhereModelled (PutsManifest next (Err e)) s s' → ((mode : DbReaderMode) → IsOfTurn mode e) → after.stage ≡ Ended → CallsNext (Puts next given replaces) reader begun (Err e) after s s'
put-failed reader begun after next given replaces e w kind ended = record {
  meets = tt;
  failed = modelled_as _ w (λ o o' p. at o o' e p);
  fits = tt;
  kind = kind reader.mode;
  staged = ended;
}
  where
    at : (o o' : Objects) (e : SlateError) → PutsManifest next (Err e) o o' → FailsFrom (Puts next given replaces) reader begun o e o'
    at o o' (errors.ObjectStoreError Unavailable) p = p
    at o o' errors.NoMemory p = inl p
    at o o' e p = absurd p

-- a poll fits its reader while its call is made
pub counted-fits : (reader : Follower) (begun : Begun) (history : PollHistory) → FitsReader reader begun → FitsReader reader (record begun { stage = Ended; history = history })
counted-fits reader begun history fits = record { leased = fits.leased; after = fits.after; low = fits.low; high = fits.high }

-- A log file was looked at, and no more is: its newest batch is no further than the reader may be behind, and either new, or there is no
-- log file before it.
pub looked-rest : (reader : Follower) (latest : VersionedManifest) (id last newest : ℕ) (begun : Begun) (log : Option (List Batch)) → Some newest ≡ option_map greatest_number log → newest ≤ reached_number begun + reader.lag →
    (reached_number begun < newest) ⊎ (id ≡ begun.mark + 1) → LooksTo reader latest id last begun log (replayed latest begun)
looked-rest reader latest id last newest begun None is few new = absurd (cc)
looked-rest reader latest id last newest begun (Some batches) is few new =
    let same : newest ≡ greatest_number batches = some-same newest (greatest_number batches) is in
    let first = le-ltb (reached_number begun + reader.lag) (greatest_number batches) (omega (arith, few, same)) in
    let second : (nat_lt (reached_number begun) (greatest_number batches) || id == begun.mark + 1) ≡ true = elim new [
      | inl over ↦ ap (λ x. x || id == begun.mark + 1) (lt-ltb (reached_number begun) (greatest_number batches) (omega (arith, over, same)))
      | inr next ↦ ap (λ x. nat_lt (reached_number begun) (greatest_number batches) || x) (eq-eqb id (begun.mark + 1) next) ∙ or-true (nat_lt (reached_number begun) (greatest_number batches))
    ] in
    sym (ap (λ x. if x then Goes (record begun { stage = ReadsLog last }) else (if nat_lt (reached_number begun) (greatest_number batches) || id == begun.mark + 1 then replayed latest begun else Goes (record begun { stage = LooksAt (id - 1) last }))) first
    ∙ ap (λ y. if y then replayed latest begun else Goes (record begun { stage = LooksAt (id - 1) last })) second)
