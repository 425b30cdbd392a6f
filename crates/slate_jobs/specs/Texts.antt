-- The text of each answer.
use Rattle.std.specs.Prelude.{ℕ, List, [], ◌∷◌, ◌++◌, Some, None, codes, decimal}
use Rattle.std.specs.List.{flat_map}
use Rattle.slate_text.specs.Words.{word_text}
use Rattle.slate_errors.specs.Texts.{error_text}
use Rattle.slate_jobs.specs.declared.commands.JobAnswer.{JobAnswer}
use Rattle.slate_jobs.specs.declared.commands.JobAnswer.TheVariants as answers
use Rattle.slate_jobs.specs.declared.jobs.JobRefusal.{JobRefusal}
use Rattle.slate_jobs.specs.declared.jobs.JobRefusal.TheVariants as refusals
use Rattle.slate_jobs.specs.declared.jobs.JobReply.{JobReply}
use Rattle.slate_jobs.specs.declared.jobs.JobReply.TheVariants as replies

-- a reply without the newline at its end
abbrev pub reply_words : JobReply → List ℕ
reply_words (replies.Enqueued job) = codes "job " ++ decimal job
reply_words (replies.Claimed job token payload) = codes "job " ++ decimal job ++ codes " token " ++ decimal token ++ codes " payload " ++ word_text payload
reply_words replies.Empty = codes "empty"
reply_words replies.Completed = codes "completed"
reply_words (replies.Stale (Some token)) = codes "stale token " ++ decimal token
reply_words (replies.Stale None) = codes "stale"

-- a refusal
abbrev pub refusal_words : JobRefusal → List ℕ
refusal_words refusals.Foreign = codes "error foreign"
refusal_words refusals.Full = codes "error full"
refusal_words (refusals.Writer error) = codes "error " ++ error_text error
refusal_words refusals.NoMemory = codes "error no memory"

abbrev pub answer_words : JobAnswer → List ℕ
answer_words (answers.Replied reply) = reply_words reply
answer_words answers.Reopened = codes "reopened"
answer_words (answers.Refused refusal) = refusal_words refusal

-- the text of an answer
abbrev pub answer_text : JobAnswer → List ℕ
answer_text answer = answer_words answer ++ 10 ∷ []

-- the text of answers, in order
abbrev pub answers_text : List JobAnswer → List ℕ
answers_text answers = flat_map answer_text answers
