-- Replaying log files one by one goes on along a line, and leads from a number to another.
use Rattle.std.proofs.Common.{◌≡◌, ℕ, ◌+◌, ◌-◌, ◌<◌, ◌≤◌, List, [], length, max, Option, Some, None, unwrap_or, Result, Ok, Err, Bool, true, false, refl, sym, subst, ap, arith}
use Rattle.std.proofs.lemmas.List.Elements.{All-nil}
use Rattle.std.specs.List.{All}
use Rattle.std.specs.Option.{IfSome, IsSomeAnd, MatchOption}
use Rattle.slate_types.specs.declared.batches.Batch.{Batch}
use Rattle.slate_types.specs.declared.store_errors.StoreError.{StoreError}
use Rattle.slate_types.specs.Line.{IsPrefix, Line, batches_above}
use Rattle.slate_store.specs.Objects.{Objects, log_at}
use Rattle.slate_store.specs.Logs.{AreTruncatedAt, AreWhole, BelongTo, HaveGap, HaveNoGap, StandsIn}
use Rattle.slate_store.proofs.Logs.{belong-count, belong-front, belong-log, whole-count, whole-next, whole-start}
use Rattle.slate_replay.specs.declared.replays.Replayed.{Replayed}
use Rattle.slate_replay.specs.declared.replays.Replayed.TheVariants.{Whole, Truncated}
use Rattle.slate_replay.specs.Replay.{AppendsNext, LogBelongsTo, Replays, ReplaysNext, line_of}

-- a replay of no log file
pub none-replayed : (mark floor : ℕ) (old : List Batch) (o : Objects) → Replays mark mark floor old old o (Ok Whole)
none-replayed mark floor old o = record { begins = λ line prefix belong. prefix; ends = whole-start mark (floor + length old) o }

-- ---- a log file that is stored, by how its batches are appended
module _ (id floor : ℕ) (m : List Batch) (o : Objects) (log m' : List Batch) (found : log_at id o ≡ Some log) where
  begins-next : (result : Result Bool StoreError) → AppendsNext floor m m' log result → (line : Line) → IsPrefix (line_of floor m) line → LogBelongsTo id (floor + length m) line o → IsPrefix (line_of floor m') line
  begins-next result next line prefix belongs = next.begins line prefix (rw found at belongs)

  pub unfinished : (error why : StoreError) → AppendsNext floor m m' log (Err why) → ReplaysNext id floor m m' o (Err error)
  unfinished error why next = record { begins = begins-next (Err why) next; ends = tt }

  pub gap : AppendsNext floor m m' log (Ok false) → ReplaysNext id floor m m' o (Ok (Truncated id))
  gap next = record { begins = begins-next (Ok false) next; ends = rw found next.ends }

  pub appended : AppendsNext floor m m' log (Ok true) → ReplaysNext id floor m m' o (Ok Whole)
  appended next = record { begins = begins-next (Ok true) next; ends = rw found next.ends }

-- ---- log file after log file
module _ (mark before floor : ℕ) (old m m' : List Batch) (o : Objects) (low : mark ≤ before) (so_far : Replays mark before floor old m o (Ok Whole)) (longer : length old ≤ length m) where
  -- the next log file belongs to a line that all belong to
  belongs-next : (last : ℕ) (line : Line) → before < last → BelongTo mark last (floor + length old) line o → LogBelongsTo (before + 1) (floor + length m) line o
  belongs-next last line less belong = go (log_at (before + 1) o) refl where
    go : (log : Option (List Batch)) → log_at (before + 1) o ≡ log → All (λ batch. StandsIn batch line) (batches_above (floor + length m) (unwrap_or log []))
    go None is = All-nil (λ batch. StandsIn batch line)
    go (Some log) is = belong-log mark before last (floor + length old) (floor + length m) line o log low less (omega arith) is belong

  begins-all : (last : ℕ) (result : Result Replayed StoreError) → before < last → ReplaysNext (before + 1) floor m m' o result → (line : Line) → IsPrefix (line_of floor old) line → BelongTo mark last (floor + length old) line o → IsPrefix (line_of floor m') line
  begins-all last result less next line prefix belong =
      next.begins line (so_far.begins line prefix (belong-front mark before last (floor + length old) line o low (omega arith) belong))
      (belongs-next last line less belong)

  pub failed : (last : ℕ) (error : StoreError) → before < last → ReplaysNext (before + 1) floor m m' o (Err error) → Replays mark last floor old m' o (Err error)
  failed last error less next = record { begins = begins-all last (Err error) less next; ends = tt }

  earlier : AreWhole mark (before + 1 - 1) (floor + length old) (floor + length m) o
  earlier =
      let at : before ≡ before + 1 - 1 = omega arith in
      subst (λ k. AreWhole mark k (floor + length old) (floor + length m) o) at so_far.ends

  -- where nothing is appended, no number is
  cut-at : (log : Option (List Batch)) → MatchOption log (m' ≡ m) (HaveGap (floor + length m) (floor + length m')) → MatchOption log (floor + length m' ≡ floor + length m) (HaveGap (floor + length m) (floor + length m'))
  cut-at None same = ap (λ xs. floor + length xs) same
  cut-at (Some log) gap = gap

  pub truncated : (last id : ℕ) → before < last → id ≡ before + 1 → ReplaysNext (before + 1) floor m m' o (Ok (Truncated id)) → Replays mark last floor old m' o (Ok (Truncated id))
  truncated last id less is next =
      record {
        begins = begins-all last (Ok (Truncated id)) less next;
        ends = subst (λ k. AreTruncatedAt k mark last (floor + length old) (floor + length m') o) (sym is)
            (record {
              above = omega arith;
              within = omega arith;
              reached = floor + length m;
              earlier = earlier;
              cut = cut-at (log_at (before + 1) o) next.ends;
            });
      }

  pub next-replayed : ReplaysNext (before + 1) floor m m' o (Ok Whole) → Replays mark (before + 1) floor old m' o (Ok Whole)
  next-replayed next =
      record { begins = begins-all (before + 1) (Ok Whole) (omega arith) next; ends = go (log_at (before + 1) o) refl next.ends }
    where
      go : (log : Option (List Batch)) → log_at (before + 1) o ≡ log → IsSomeAnd log (HaveNoGap (floor + length m) (floor + length m')) → AreWhole mark (before + 1) (floor + length old) (floor + length m') o
      go None is none = absurd none
      go (Some log) is no_gap = whole-next mark before (floor + length old) (floor + length m) (floor + length m') o log low so_far.ends is no_gap

-- the end of the ids
pub all-replayed : (mark before last floor : ℕ) (old m : List Batch) (o : Objects) → before ≤ max mark last → last ≤ before → Replays mark before floor old m o (Ok Whole) → Replays mark last floor old m o (Ok Whole)
all-replayed mark before last floor old m o within done so_far =
    let same : before - mark ≡ last - mark = omega arith in
    record {
      begins = λ line prefix belong. so_far.begins line prefix (belong-count mark last before (floor + length old) line o (sym same) belong);
      ends = whole-count mark before last (floor + length old) (floor + length m) o same so_far.ends;
    }

-- what is known of objects that are modelled
pub known : {X : Type 0} {P Q R : X → Type 0} (a b : Option X) → b ≡ a → IfSome a P → IfSome b Q → ((x : X) → P x → Q x → R x) → IfSome a R
known None b same p q f = tt
known {X} {P} {Q} {R} (Some x) b same p q f = f x p (subst (λ c. IfSome c Q) same q)
