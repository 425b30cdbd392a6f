-- The text of each answer.
use Rattle.std.specs.Prelude.{ℕ, List, [], ◌∷◌, ◌++◌, length, codes, decimal}
use Rattle.std.specs.Fmt.{signed_decimal}
use Rattle.std.specs.List.{flat_map}
use Rattle.slate_types.specs.declared.batches.Batch.{Batch}
use Rattle.slate_script.specs.Replies.{reply_words}
use Rattle.slate_feed.specs.declared.commands.FeedAnswer.{FeedAnswer}
use Rattle.slate_feed.specs.declared.commands.FeedAnswer.TheVariants as answers
use Rattle.slate_feed.specs.declared.refusals.FeedRefusal.{FeedRefusal}
use Rattle.slate_feed.specs.declared.refusals.FeedRefusal.TheVariants as refusals

-- two numbers behind texts
abbrev pub pair_text : List ℕ → ℕ → List ℕ → ℕ → List ℕ
pair_text label first between second = label ++ decimal first ++ (between ++ decimal second)

-- a batch that was delivered, on a line of its own behind the others
abbrev pub batch_text : Batch → List ℕ
batch_text batch = codes "\nbatch " ++ decimal batch.number ++ codes " created " ++ signed_decimal batch.create_ts ++ codes " ops " ++ decimal (length batch.ops)

-- a refusal
abbrev pub refusal_words : FeedRefusal → List ℕ
refusal_words refusals.LatestTransactionalObjectVersionMissing = codes "error feed missing"
refusal_words (refusals.BeforeFloor cursor floor) = pair_text (codes "error feed floor ") floor (codes " of ") cursor
refusal_words (refusals.Ahead cursor end) = pair_text (codes "error feed ahead ") cursor (codes " of ") end
refusal_words refusals.ObjectStoreError = codes "error feed store"
refusal_words refusals.NoMemory = codes "error no memory"
refusal_words refusals.Moved = codes "error feed moved"

-- an answer without the newline at its end
abbrev pub answer_words : FeedAnswer → List ℕ
answer_words (answers.Replied reply) = reply_words reply
answer_words (answers.Opened feed after) = pair_text (codes "feed ") feed (codes " after ") after
answer_words (answers.Delivered at batches) = pair_text (codes "batches ") (length batches) (codes " at ") at ++ flat_map batch_text batches
answer_words (answers.Refused refusal) = refusal_words refusal
answer_words answers.Unknown = codes "error unknown object"

-- the text of an answer
abbrev pub answer_text : FeedAnswer → List ℕ
answer_text answer = answer_words answer ++ 10 ∷ []

-- the text of answers, in order
abbrev pub answers_text : List FeedAnswer → List ℕ
answers_text answers = flat_map answer_text answers
