-- A replay of log files that are whole and belong to a line gives all of the line.
use Rattle.std.proofs.Common.{◌≡◌, ℕ, ◌+◌, List, [], ◌∷◌, ◌++◌, length, Ok, refl, sym, subst, ap, ◌∙◌, arith, length-append}
use Rattle.std.proofs.lemmas.List.{append-nil}
use Rattle.slate_types.specs.declared.batches.Batch.{Batch}
use Rattle.slate_types.specs.Line.{Line}
use Rattle.slate_store.specs.Objects.{Objects}
use Rattle.slate_store.specs.Logs.{AreWhole, BelongTo}
use Rattle.slate_store.proofs.Logs.{SameLogs, belong-same, no_gap-end, truncated-same, untruncated, whole-same}
use Rattle.slate_replay.specs.declared.replays.Replayed.{Replayed}
use Rattle.slate_replay.specs.declared.replays.Replayed.TheVariants.{Whole, Truncated}
use Rattle.slate_replay.specs.Replay.{Replays, line_of}

nil-length : (xs : List Batch) → length xs ≡ 0 → xs ≡ []
nil-length [] h = refl
nil-length (x ∷ xs) h = absurd (omega arith)

module _ (mark last floor : ℕ) (all batches : List Batch) (o : Objects) (whole : AreWhole mark last floor (floor + length all) o) (belong : BelongTo mark last floor (line_of floor all) o) where
  same : floor ≡ floor + length {A = Batch} []
  same = omega arith

  pub recovered-all : (found : Replayed) → Replays mark last floor [] batches o (Ok found) → (batches ≡ all) × (found ≡ Whole)
  recovered-all Whole replays =
      let prefix = replays.begins (line_of floor all) (all, refl) (subst (λ n. BelongTo mark last n (line_of floor all) o) same belong) in
      let parts : all ≡ batches ++ prefix.0 = ap (λ (l : Line). l.batches) prefix.1 in
      let ends : AreWhole mark last floor (floor + length batches) o = subst (λ n. AreWhole mark last n (floor + length batches) o) (sym same) replays.ends in
      let end = no_gap-end floor (floor + length all) (floor + length batches) _ whole.no_gap ends.no_gap in
      let lengths = ap length parts ∙ length-append batches prefix.0 in
      let none = nil-length prefix.0 (omega (arith, end, lengths)) in
      (sym (parts ∙ (ap (λ xs. batches ++ xs) none ∙ append-nil batches)), refl)
  recovered-all (Truncated id) replays =
      absurd (untruncated id mark last (floor + length {A = Batch} []) (floor + length all) (floor + length batches) o (subst (λ n. AreWhole mark last n (floor + length all) o) same whole) replays.ends)

-- a replay goes by the log files alone that it reads
pub replays-same : (mark last floor : ℕ) (old new : List Batch) (o o' : Objects) (found : Replayed) → SameLogs mark last o o' → Replays mark last floor old new o' (Ok found) → Replays mark last floor old new o (Ok found)
replays-same mark last floor old new o o' Whole same replays =
    record {
      begins = λ line prefix belong. replays.begins line prefix (belong-same mark last (floor + length old) line o o' same belong);
      ends = whole-same mark last (floor + length old) (floor + length new) o o' same replays.ends;
    }
replays-same mark last floor old new o o' (Truncated id) same replays =
    record {
      begins = λ line prefix belong. replays.begins line prefix (belong-same mark last (floor + length old) line o o' same belong);
      ends = truncated-same id mark last (floor + length old) (floor + length new) o o' same replays.ends;
    }
