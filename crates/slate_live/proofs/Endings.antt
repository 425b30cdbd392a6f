-- Two ways in which a session ends before anything is run.
use Rattle.std.specs.Option.{option_map}
use Rattle.std.specs.Fmt.{decimal}
use Rattle.std.proofs.Common.{◌≡◌, ◌++◌, codes, inl, inr, ℕ, List, [], Option, Some, None, refl}
use Rattle.slate_types.specs.declared.operators.ConcatOperator.{ConcatOperator}
use Rattle.slate_types.specs.Operator.{concat}
use Rattle.slate_types.specs.Prefix.{fixed_prefix}
use Rattle.slate_model.specs.Segments.{IsExtractor}
use Rattle.slate_reads.specs.Read.{IsOperator}
use Rattle.slate_script.specs.declared.options.RunOptions.{RunOptions}
use Rattle.slate_script.specs.declared.options.SessionWords.{SessionWords}
use Rattle.slate_script.specs.declared.options.SessionWords.TheVariants.{Script, Generator}
use Rattle.slate_script.specs.declared.replies.Reply.{Reply}
use Rattle.slate_script.specs.Sessions.{KeepsOutput, KeepsSource}
use Rattle.slate_script.specs.declared.sessions.Outcome.TheVariants.{NoMemory, WordsRefused}
use Rattle.slate_live.specs.Session.{Ends, StoreSides, fixed_extractor}

-- words that ask for nothing end a session before anything is read
pub ends-refused : (words : Option SessionWords) (replies : List Reply) (s : StoreSides) → words ≡ None → replies ≡ [] → Ends words replies WordsRefused s s
ends-refused words replies s refused none =
    inl (record { refused = refused; ending_is = refl; nothing = refl; no_reply = none })

-- want of memory ends it before anything is run
pub ends-unrun : (options : RunOptions) (replies : List Reply) (s s' : StoreSides) → KeepsOutput s s' → replies ≡ [] → Ends (Some (Script options)) replies NoMemory s s'
ends-unrun options replies s s' output none =
    inr (inl (record { asked = Script options; accepted = refl; stops = tt; output = output; no_reply = none }))

pub ends-ungenerated : (seed count : ℕ) (replies : List Reply) (s s' : StoreSides) → KeepsSource s s' → KeepsOutput s s' → replies ≡ [] → Ends (Some (Generator seed count)) replies NoMemory s s'
ends-ungenerated seed count replies s s' source output none =
    inr (inl (record { asked = Generator seed count; accepted = refl; stops = (refl, source); output = output; no_reply = none }))

-- the operator of a session is lawful
pub appends : (o : Option ConcatOperator) → IsOperator (λ operator key existing operand answer. answer ≡ concat key existing operand) o (option_map (λ operator. concat) o)
appends None = tt
appends (Some operator) = λ key existing operand answer is. is

-- and so is its extractor
pub extracts : (o : Option ℕ) → IsExtractor (λ length name. name ≡ codes "fixed-" ++ decimal length) (λ length key answer. answer ≡ fixed_prefix length key) o (option_map fixed_extractor o)
extracts None = tt
extracts (Some length) = record { name = λ answer is. is; prefix_of = λ key answer is. is }
