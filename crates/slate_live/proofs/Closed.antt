-- What is closed answers that, whatever an operator or an extractor does.
use Rattle.std.proofs.Common.{◌≡◌, ◌≢◌, inr, ℕ, ℤ, Bool, true, false, List, [], Option, Some, None, Result, Err, refl, sym, subst}
use Rattle.std.specs.Option.{IfSome, option_or}
use Rattle.std.specs.Result.{IfErr}
use Rattle.slate_types.specs.declared.batches.Batch.{Batch}
use Rattle.slate_types.specs.declared.batches.KeyOp.{KeyOp}
use Rattle.slate_types.specs.declared.batches.KeyValue.{KeyValue}
use Rattle.slate_types.specs.declared.read_faults.ReadFault.{ReadFault}
use Rattle.slate_store.specs.declared.objects.TableId.{TableId}
use Rattle.slate_rows.specs.Iteration.{Iteration}
use Rattle.slate_store.specs.declared.reader_modes.DbReaderMode.{DbReaderMode}
use Rattle.slate_errors.specs.Errors.{closed_error}
use Rattle.slate_errors.specs.declared.closing.CloseFault.{CloseFault}
use Rattle.slate_errors.specs.declared.errors.SlateError.{SlateError}
use Rattle.slate_model.specs.Follower.{Follower, HasSegments, is_managed}
use Rattle.slate_model.specs.Handle.{CloseResult, Handle}
use Rattle.slate_model.specs.Knowledge.{Knowledge}
use Rattle.slate_model.specs.Known.{Known, Untouched}
use Rattle.slate_model.specs.Object.{Object}
use Rattle.slate_model.specs.Read.{Gives, ReadsUnlessClosed, ReadsByAny}
use Rattle.slate_model.specs.Segments.{Extractor}
use Rattle.slate_model.specs.Write.{Writes, WritesByAny, closed_refusal}
use Rattle.slate_model.specs.declared.answers.PollAnswer.{PollAnswer}
use Rattle.slate_model.specs.declared.answers.Written.{Written}
use Rattle.slate_script.specs.declared.commands.Action.{Action}
use Rattle.slate_script.specs.declared.commands.Action.TheVariants as actions
use Rattle.slate_script.specs.declared.replies.Reply.{Reply}
use Rattle.slate_script.specs.declared.replies.Reply.TheVariants as replies
use Rattle.slate_live.specs.Calls.{asks_extractor, named, read_by, target_of}
use Rattle.slate_live.specs.declared.targets.Target.TheVariants.{NewFollower, NewHandle}
use Rattle.slate_live.specs.Followers.{PollsAs, PollsFollower}
use Rattle.slate_live.specs.Replies.{polled_reply, reply_to}
use Rattle.slate_live.specs.Scans.{IsTaken, AnswersTaken}
use Rattle.slate_live.proofs.Cases.{some-of}

-- a read of what may be closed
pub either-reads : {L A : Type 0} {tables : List TableId} {has_rows : List Batch → Type 0} {is_plain : List Batch → Result A ReadFault → Type 0} {before after : Known L} {answer : Result A SlateError} (closed : CloseResult) →
    (closed ≡ None → ReadsUnlessClosed closed tables has_rows is_plain before answer after) → ReadsByAny closed tables before answer after → ReadsUnlessClosed closed tables has_rows is_plain before answer after
either-reads None open_ any = open_ refl
either-reads (Some r) open_ any = record { closed = any.closed; read = λ no. absurd (cc) }

-- what is taken of a scan, and its reply
pub taken-of : {L : Type 0} {closed : CloseResult} {tables : List TableId} {has_rows : List Batch → Type 0} {is_scan : List Batch → Iteration → Type 0} {taken : Iteration → Result (List KeyValue) SlateError} {before after : Known L} (scan : Result Iteration SlateError) (result : Result (List KeyValue) SlateError) (reply : Reply) →
    ReadsUnlessClosed closed tables has_rows (Gives is_scan) before scan after → AnswersTaken taken scan result → reply ≡ reply_to replies.Rows result → IsTaken closed tables has_rows is_scan taken before reply after
taken-of scan result reply scans takes replied = record { scan = scan; result = result; scans = scans; takes = takes; replied = replied }

first-refusal : (r : Result (Unit {0}) CloseFault) (q : CloseResult) (rest : Option SlateError) → q ≡ Some r → option_or (closed_refusal q) rest ≡ Some (closed_error r)
first-refusal r q rest is = subst (λ (p : CloseResult). option_or (closed_refusal p) rest ≡ Some (closed_error r)) (sym is) refl

-- a write to it
pub either-writes : (x : Option Extractor) (old new : Handle) (ops : List KeyOp) (moment : ℤ) (second : Option ℤ) (result : Result Written SlateError) (closed : CloseResult) → old.result ≡ closed →
    (old.result ≡ None → Writes x old ops moment second result new) → WritesByAny [] old ops moment second result new → Writes x old ops moment second result new
either-writes x old new ops moment second result None is open_ any = open_ is
either-writes x old new ops moment second result (Some r) is open_ any =
    let error : result ≡ Err (closed_error r) = some-of (λ q. result ≡ Err (closed_error q)) old.result r is any.closed in
    let same = (subst (λ (got : Result Written SlateError). WritesByAny [] old ops moment second got new) error any).refused.1 in
    subst (λ (got : Result Written SlateError). Writes x old ops moment second got new) (sym error) (record { accepted = tt; refused = (inr (first-refusal r old.result _ is), same) })

-- a poll of it
module _ {L : Type 0} (k : Knowledge L) (x : Option Extractor) (moment : ℤ) (old new : Follower) (before after : Known L) (result : Result PollAnswer SlateError) where
  closed-polls : (managed : Bool) (r : Result (Unit {0}) CloseFault) → old.result ≡ Some r → result ≡ Err (closed_error r) → new ≡ old → after ≡ before → PollsAs k x managed 0 moment old before result new after
  closed-polls true r is error same kept = record {
    closed = subst (λ (q : CloseResult). IfSome q (λ r. (result ≡ Err (closed_error r)) × (new ≡ old) × Untouched 0 before after)) (sym is) (error, same, (refl, kept));
    keeps = λ lease live at. absurd (cc);
  }
  closed-polls false r is error same kept = (
    record {
      closed = subst (λ (q : CloseResult). IfSome q (λ r. (result ≡ Err (closed_error r)) × (after ≡ before))) (sym is) (error, kept);
      failed = subst (λ (got : Result PollAnswer SlateError). IfErr got (λ error. new ≡ old)) (sym error) same;
      pinned = λ live pinned. absurd (cc);
      rebuilds = λ live free. absurd (cc);
      segments = λ has. subst (HasSegments x) (sym same) has;
    },
    refl,
  )

  pub either-polls : (reply : Reply) → reply ≡ reply_to polled_reply result → (closed : CloseResult) → old.result ≡ closed → (old.result ≡ None → (made : ℕ) × PollsFollower k x made moment old before reply new after) →
      IfSome old.result (λ r. result ≡ Err (closed_error r)) → (old.result ≢ None → (new ≡ old) × (after ≡ before)) → (made : ℕ) × PollsFollower k x made moment old before reply new after
  either-polls reply replied None is open_ shut untouched = open_ is
  either-polls reply replied (Some r) is open_ shut untouched =
      let same = untouched (λ no. absurd (cc)) in
      (0, record { result = result; replied = replied; does = closed-polls (is_managed old.mode) r is (some-of (λ q. result ≡ Err (closed_error q)) old.result r is shut) same.0 same.1 })

-- whether a command asks the extractor, where it names one of these objects or none
abbrev pub asks-extractor : List Object → Action → Bool
asks-extractor objects action = asks_extractor (read_by objects (named objects (target_of action))) action

-- an opening of a handle does, and one of a reader
pub opening-asks : (objects : List Object) (action : Action) (keeps_log : Bool) → target_of action ≡ NewHandle keeps_log → asks-extractor objects action ≡ true
opening-asks objects (actions.Open wal) keeps_log is = refl
opening-asks objects action keeps_log is = absurd (cc)

pub following-asks : (objects : List Object) (action : Action) (mode : DbReaderMode) (managed : Option (ℕ × ℕ)) (skips : Bool) (lag : Option ℕ) → target_of action ≡ NewFollower mode managed skips lag → asks-extractor objects action ≡ true
following-asks objects (actions.Follow mode' managed' skip' lag') mode managed skips lag is = refl
following-asks objects action mode managed skips lag is = absurd (cc)
