-- Batches that hold a machine hold it after an effect, once the effect's batch follows them.
use Rattle.std.proofs.Common.{◌≡◌, ℕ, ◌<◌, ◌^◌, ◌⊎◌, inl, inr, List, [], ◌∷◌, ◌++◌, length, Some, Ok, refl, sym, ap, ◌∙◌, arith}
use Rattle.std.proofs.lemmas.Bool.{cases_order}
use Rattle.std.specs.BTreeMap.{insert_entry}
use Rattle.std.specs.Option.{option_map}
use Rattle.std.specs.Ordering.{nat_cmp}
use Rattle.std.specs.Prelude.{slice_get}
use Rattle.slate_store.specs.Objects.{entry_at}
use Rattle.slate_types.specs.declared.batches.Batch.{Batch}
use Rattle.slate_jobs.specs.declared.effects.Change.{Change}
use Rattle.slate_jobs.specs.declared.effects.Change.TheVariants.{Adds, Moves, Keeps}
use Rattle.slate_jobs.specs.declared.effects.Effect.{Effect}
use Rattle.slate_jobs.specs.declared.jobs.Job.{Job}
use Rattle.slate_jobs.specs.declared.jobs.JobReply.{JobReply}
use Rattle.slate_jobs.specs.Machine.{Machine, after, jobs_after}
use Rattle.slate_jobs.specs.Rows.{Holds, job_key, job_puts, job_value, put, puts_of, reply_key, reply_value, value_at}
use Rattle.slate_jobs.proofs.Entries.{entry-other, entry-put}
use Rattle.slate_jobs.proofs.Keys.{jobs-same, kinds-differ, replies-same}
use Rattle.slate_jobs.proofs.Slots.{added-last, added-other, set-other, set-there}
use Rattle.slate_jobs.proofs.Values.{first-put, one-other, one-put, second-put, two-other}

pub same_or_not : (a b : ℕ) → (a ≡ b) ⊎ (a ≡ b → ⊥)
same_or_not a b = elim (cases_order a b) [
  | inl same ↦ inl same
  | inr unlike ↦ elim unlike [
    | inl less ↦ inr (λ same. omega (arith, less, same))
    | inr more ↦ inr (λ same. omega (arith, more, same))
  ]
]

module _ (bs : List Batch) (b : Batch) (m : Machine) (request : ℕ) (reply : JobReply) (fits : request < 2 ^ 64) (holds : Holds bs m) where
  -- the row of the reply that is put, and of another one
  put_at : (r : ℕ) → r ≡ request → value_at (bs ++ b ∷ []) (reply_key r) ≡ Ok (Some (reply_value reply)) → value_at (bs ++ b ∷ []) (reply_key r) ≡ Ok (option_map reply_value (entry_at r (insert_entry nat_cmp m.replies request reply)))
  put_at r same put = put ∙ ap (λ found. Ok (option_map reply_value found)) (sym (ap (λ n. entry_at n (insert_entry nat_cmp m.replies request reply)) same ∙ entry-put request reply m.replies))

  left_at : (r : ℕ) → r < 2 ^ 64 → (r ≡ request → ⊥) → value_at (bs ++ b ∷ []) (reply_key r) ≡ value_at bs (reply_key r) → value_at (bs ++ b ∷ []) (reply_key r) ≡ Ok (option_map reply_value (entry_at r (insert_entry nat_cmp m.replies request reply)))
  left_at r small differ left = left ∙ (holds.replies r small ∙ ap (λ found. Ok (option_map reply_value found)) (sym (entry-other request reply r differ m.replies)))

  -- a batch of a reply alone
  alone : b.ops ≡ put (reply_key request) (reply_value reply) ∷ [] → Holds (bs ++ b ∷ []) (record { jobs = m.jobs; replies = insert_entry nat_cmp m.replies request reply })
  alone ops = record {
    jobs = λ n small. one-other bs b (job_key n) (reply_key request) (reply_value reply) [] [] ops (λ same. kinds-differ n request same) ∙ holds.jobs n small;
    replies = λ r small. elim (same_or_not r request) [
      | inl same ↦ put_at r same (one-put bs b (reply_key r) (reply_key request) (reply_value reply) [] [] ops (ap reply_key (sym same)))
      | inr differ ↦ left_at r small differ (one-other bs b (reply_key r) (reply_key request) (reply_value reply) [] [] ops (λ same. differ (replies-same r request small fits same)))
    ];
    others = λ key other. one-other bs b key (reply_key request) (reply_value reply) [] [] ops (other request fits).1 ∙ holds.others key other;
  }

  -- a batch of a job and a reply
  module _ (number : ℕ) (job : Job) (jobs : List Job) (small_number : number < 2 ^ 64)
      (there : slice_get jobs number ≡ Some job) (others : (n : ℕ) → (n ≡ number → ⊥) → slice_get jobs n ≡ slice_get m.jobs n)
      (ops : b.ops ≡ put (job_key number) (job_value job) ∷ put (reply_key request) (reply_value reply) ∷ []) where
    both : Holds (bs ++ b ∷ []) (record { jobs = jobs; replies = insert_entry nat_cmp m.replies request reply })
    both = record {
      jobs = λ n small. elim (same_or_not n number) [
        | inl same ↦
            first-put bs b (job_key n) (job_key number) (job_value job) (reply_key request) (reply_value reply) ops (ap job_key (sym same)) (λ is. kinds-differ n request is)
            ∙ ap (λ found. Ok (option_map job_value found)) (sym (ap (slice_get jobs) same ∙ there))
        | inr differ ↦
            two-other bs b (job_key n) (job_key number) (job_value job) (reply_key request) (reply_value reply) ops (λ same. differ (jobs-same n number small small_number same)) (λ is. kinds-differ n request is)
            ∙ (holds.jobs n small ∙ ap (λ found. Ok (option_map job_value found)) (sym (others n differ)))
      ];
      replies = λ r small. elim (same_or_not r request) [
        | inl same ↦ put_at r same (second-put bs b (reply_key r) (job_key number) (job_value job) (reply_key request) (reply_value reply) ops (λ is. kinds-differ number r (sym is)) (ap reply_key (sym same)))
        | inr differ ↦ left_at r small differ (two-other bs b (reply_key r) (job_key number) (job_value job) (reply_key request) (reply_value reply) ops (λ is. kinds-differ number r (sym is)) (λ same. differ (replies-same r request small fits same)))
      ];
      others = λ key other. two-other bs b key (job_key number) (job_value job) (reply_key request) (reply_value reply) ops (other number small_number).0 (other request fits).1 ∙ holds.others key other;
    }

-- a change gives a job that is there another state
abbrev pub IsWithin : ℕ → Change → Type 0
IsWithin count (Adds job) = count < 2 ^ 64
IsWithin count (Moves number job) = (number < count) × (number < 2 ^ 64)
IsWithin count Keeps = Unit {0}

pub holds-after : (bs : List Batch) (b : Batch) (m : Machine) (request : ℕ) (effect : Effect) → request < 2 ^ 64 → Holds bs m → IsWithin (length m.jobs) effect.change →
    b.ops ≡ puts_of (length m.jobs) request effect → Holds (bs ++ b ∷ []) (after m request effect)
holds-after bs b m request effect fits holds within ops = by effect.change refl within where
  by : (change : Change) → effect.change ≡ change → IsWithin (length m.jobs) change → Holds (bs ++ b ∷ []) (after m request effect)
  by (Adds job) is small =
      rw is (both bs b m request effect.reply fits holds (length m.jobs) job (m.jobs ++ job ∷ []) small (added-last m.jobs job) (λ n differ. added-other m.jobs job n differ)
      (ops ∙ ap (λ change. job_puts (length m.jobs) change ++ put (reply_key request) (reply_value effect.reply) ∷ []) is))
  by (Moves number job) is small =
      rw is (both bs b m request effect.reply fits holds number job (jobs_after m.jobs (Moves number job)) small.1 (set-there m.jobs number job small.0) (λ n differ. set-other m.jobs number job n differ)
      (ops ∙ ap (λ change. job_puts (length m.jobs) change ++ put (reply_key request) (reply_value effect.reply) ∷ []) is))
  by Keeps is small =
      rw is (alone bs b m request effect.reply fits holds (ops ∙ ap (λ change. job_puts (length m.jobs) change ++ put (reply_key request) (reply_value effect.reply) ∷ []) is))
