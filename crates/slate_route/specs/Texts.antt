-- The text of each answer.
use Rattle.std.specs.Prelude.{ℕ, List, [], ◌∷◌, ◌++◌, Option, Some, None, codes, decimal}
use Rattle.std.specs.List.{flat_map}
use Rattle.slate_types.specs.declared.batches.KeyValue.{KeyValue}
use Rattle.slate_text.specs.Words.{word_text}
use Rattle.slate_errors.specs.Texts.{error_text}
use Rattle.slate_script.specs.Replies.{reply_words}
use Rattle.slate_script.specs.declared.replies.Reply.{Reply}
use Rattle.slate_script.specs.declared.replies.Reply.TheVariants as replies
use Rattle.slate_route.specs.declared.answers.RouteRefusal.{RouteRefusal}
use Rattle.slate_route.specs.declared.answers.RouteRefusal.TheVariants as refusals
use Rattle.slate_route.specs.declared.answers.Routed.{Routed}
use Rattle.slate_route.specs.declared.commands.RouteAnswer.{RouteAnswer}
use Rattle.slate_route.specs.declared.commands.RouteAnswer.TheVariants as answers

-- two numbers behind texts
abbrev pub pair_text : List ℕ → ℕ → List ℕ → ℕ → List ℕ
pair_text label first between second = label ++ decimal first ++ (between ++ decimal second)

-- a refusal
abbrev pub refusal_words : RouteRefusal → List ℕ
refusal_words refusals.NoFollower = codes "error no follower"
refusal_words (refusals.Poll error) = codes "error " ++ error_text error
refusal_words (refusals.Behind at_least best) = pair_text (codes "error behind ") best (codes " of ") at_least
refusal_words (refusals.Read error) = codes "error " ++ error_text error
refusal_words (refusals.Open error) = codes "error " ++ error_text error
refusal_words refusals.Full = codes "error full"
refusal_words refusals.NoMemory = codes "error no memory"

-- a reply to the handle's command: a write has no number of its own
abbrev pub replied_words : Reply → List ℕ
replied_words (replies.Written write number) = codes "write number " ++ decimal number
replied_words reply = reply_words reply

abbrev pub row_words : Option KeyValue → List ℕ
row_words None = codes " none"
row_words (Some row) = codes " value " ++ word_text row.value

abbrev pub routed_words : Routed → List ℕ
routed_words routed = pair_text (codes "follower ") routed.follower (codes " at ") routed.number ++ row_words routed.row

-- an answer without the newline at its end
abbrev pub answer_words : RouteAnswer → List ℕ
answer_words (answers.Replied reply) = replied_words reply
answer_words (answers.Added added) = pair_text (codes "follower ") added.follower (codes " at ") added.at
answer_words (answers.Routed routed) = routed_words routed
answer_words (answers.Refused refusal) = refusal_words refusal

-- the text of an answer
abbrev pub answer_text : RouteAnswer → List ℕ
answer_text answer = answer_words answer ++ 10 ∷ []

-- the text of answers, in order
abbrev pub answers_text : List RouteAnswer → List ℕ
answers_text answers = flat_map answer_text answers
