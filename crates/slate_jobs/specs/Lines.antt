-- The lines of a job store's script.
use Rattle.std.specs.Prelude.{ℕ, List, [], ◌∷◌, Option, Some, None, Result, codes, if◌then◌else◌}
use Rattle.std.specs.Str.{bytes_eq}
use Rattle.slate_text.specs.Numbers.{number_of, time_of}
use Rattle.slate_text.specs.Words.{word_of}
use Rattle.slate_script.specs.Lines.{script_by}
use Rattle.slate_script.specs.Values.{◌>>=◌}
use Rattle.slate_jobs.specs.declared.commands.JobAction.{JobAction}
use Rattle.slate_jobs.specs.declared.commands.JobAction.TheVariants.{Ask, Reopen}
use Rattle.slate_jobs.specs.declared.commands.JobCommand.{JobCommand}
use Rattle.slate_jobs.specs.declared.jobs.JobOp.TheVariants.{Enqueue, Claim, Complete}

-- enqueue R PAYLOAD
abbrev pub enqueue_form : List (List ℕ) → Option JobAction
enqueue_form (r ∷ p ∷ []) = do
  request ← number_of r
  payload ← word_of p
  Some (Ask request (Enqueue payload))
enqueue_form fields = None

-- claim R LEASE
abbrev pub claim_form : List (List ℕ) → Option JobAction
claim_form (r ∷ l ∷ []) = do
  request ← number_of r
  lease ← number_of l
  Some (Ask request (Claim lease))
claim_form fields = None

-- complete R JOB TOKEN
abbrev pub complete_form : List (List ℕ) → Option JobAction
complete_form (r ∷ j ∷ t ∷ []) = do
  request ← number_of r
  job ← number_of j
  token ← number_of t
  Some (Ask request (Complete job token))
complete_form fields = None

-- reopen
abbrev pub reopen_form : List (List ℕ) → Option JobAction
reopen_form [] = Some Reopen
reopen_form fields = None

-- the action of a name and the fields behind it
abbrev pub ask_of : List ℕ → List (List ℕ) → Option JobAction
ask_of name fields =
    if bytes_eq name (codes "claim") then claim_form fields
    else (if bytes_eq name (codes "complete") then complete_form fields
    else (if bytes_eq name (codes "reopen") then reopen_form fields
    else None))

abbrev pub action_of : List ℕ → List (List ℕ) → Option JobAction
action_of name fields = if bytes_eq name (codes "enqueue") then enqueue_form fields else ask_of name fields

-- the command that the fields of a line spell: one moment, the name, and the fields of its form
abbrev pub command_of : List (List ℕ) → Option JobCommand
command_of [] = None
command_of (m ∷ []) = None
command_of (m ∷ name ∷ fields) = do
  moment ← time_of m
  action ← action_of name fields
  Some (record { moment = moment; action = action })

-- the commands of a script
abbrev pub job_script : List ℕ → Result (List JobCommand) ℕ
job_script bytes = script_by command_of bytes
