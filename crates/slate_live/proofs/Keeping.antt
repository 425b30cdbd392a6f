-- What commands keep: the writes with their batches, which stand in the lines of their handles.
use Rattle.std.proofs.Common.{◌≡◌, ◌⊎◌, inl, inr, ℕ, ℤ, zero, suc, ◌+◌, Bool, true, false, List, [], ◌∷◌, ◌++◌, set, length, Option, Some, None, Result, Ok, Err, refl, sym, subst, ap, ◌∙◌, leb, if◌then◌else◌}
use Rattle.std.specs.List.{slice_get}
use Rattle.std.proofs.lemmas.List.{append-nil}
use Rattle.slate_types.specs.declared.batches.Batch.{Batch}
use Rattle.slate_types.specs.declared.batches.KeyOp.{KeyOp}
use Rattle.slate_types.specs.declared.batches.KeyValue.{KeyValue}
use Rattle.slate_types.specs.Line.{IsPrefix, Line}
use Rattle.slate_types.specs.Operator.{Merge}
use Rattle.slate_model.specs.Segments.{Extractor}
use Rattle.slate_live.specs.Settings.{Settings}
use Rattle.slate_errors.specs.declared.endings.Ended.{Ended}
use Rattle.slate_errors.specs.declared.endings.TaskName.{TaskName}
use Rattle.slate_store.specs.declared.reader_modes.DbReaderMode.TheVariants as modes
use Rattle.slate_errors.specs.declared.errors.SlateError.{SlateError}
use Rattle.slate_errors.specs.declared.errors.SlateError.TheVariants as errors
use Rattle.slate_model.specs.Catalogue.{Catalogue, Span}
use Rattle.slate_model.specs.Knowledge.{Knowledge}
use Rattle.slate_model.specs.declared.answers.PollAnswer.{PollAnswer}
use Rattle.slate_model.specs.declared.answers.PollAnswer.TheVariants.{Whole, Truncated}
use Rattle.slate_model.specs.declared.answers.Written.{Written}
use Rattle.slate_model.specs.Follower.{Follower}
use Rattle.slate_model.specs.Handle.{CloseResult, Handle, accepted}
use Rattle.slate_model.specs.Known.{Known}
use Rattle.slate_model.specs.declared.snapshots.HandleSnapshot.{HandleSnapshot}
use Rattle.slate_model.specs.Object.{Object, Handle as AHandle, Snapshot as ASnapshot, Follower as AFollower}
use Rattle.slate_model.specs.Stores.{by_catalogue}
use Rattle.slate_model.specs.Write.{Writes, next_batch, written}
use Rattle.slate_script.specs.declared.commands.Command.{Command}
use Rattle.slate_status.specs.declared.statuses.DbStatus.{DbStatus}
use Rattle.slate_script.specs.declared.replies.Reply.{Reply}
use Rattle.slate_script.specs.declared.replies.Reply.TheVariants as replies
use Rattle.slate_live.specs.declared.states.Write.{Write}
use Rattle.slate_live.proofs.Naming.{follower-did, handle-acted}
use Rattle.slate_live.specs.Calls.{Call, Write as WriteCall, Merge as MergeCall, Flush, Refresh, Compact, Get, Scan, Seek, Close, Poll, Status, FindTime, FindNumber, Nothing, call_of, at_snapshot, target_of}
use Rattle.slate_live.specs.declared.targets.Target.{Target}
use Rattle.slate_live.specs.declared.targets.Target.TheVariants.{NewHandle, NewSnapshot, NewFollower, NewCheckpoint, WholeStore, OfWrite, OfObject}
use Rattle.slate_live.specs.Commands.{ActsAt, ActsOn, AddsObject, DoesBy, OnlyAnswers, OpensSnapshot, ReadsSnapshot, asked_reply, write_reply}
use Rattle.slate_live.specs.Confirmed.{StandsIn}
use Rattle.slate_live.specs.Followers.{FollowerActs}
use Rattle.slate_live.specs.Handles.{HandleActs, MergesTo, noted, pending_reply}
use Rattle.slate_live.specs.Replies.{AnswersStatus, closed_reply, followed_reply, follower_closed_reply, follower_ended_reply, found_reply, polled_reply, refusal, reply_to}
use Rattle.slate_live.specs.Represents.{IsHandleAt}
use Rattle.slate_live.specs.Rising.{Rise, Rises}
use Rattle.slate_live.specs.Settings.{Settings}
use Rattle.slate_live.specs.State.{State}
use Rattle.slate_live.specs.World.{NextWhole, World, state_of}
use Rattle.slate_live.proofs.Places.{get-before, get-seam, get-set_same}
use Rattle.slate_live.proofs.Rising.{rises}

-- handles stay handles, and their lines only grow
abbrev pub KeepsHandles : List Object → List Object → Type 0
KeepsHandles objects objects' = (n : ℕ) (h : Handle) → IsHandleAt objects n h → (h' : Handle) × IsHandleAt objects' n h' × IsPrefix h.line h'.line

handle-of : (ys : List Object) (n : ℕ) (h : Handle) (new : Object) → slice_get ys n ≡ Some new → Rises (AHandle h) new → (h' : Handle) × IsHandleAt ys n h' × IsPrefix h.line h'.line
handle-of ys n h (AHandle h') at rises = (h', at, rises.line)
handle-of ys n h (ASnapshot x) at rises = absurd rises
handle-of ys n h (AFollower f) at rises = absurd rises

pub keeps-handles : (xs ys : List Object) → Rise xs ys → KeepsHandles xs ys
keeps-handles xs ys rise n h at = let r = rise n (AHandle h) at in handle-of ys n h r.0 r.1 r.2

-- the batch of each write stands in the line of its handle
abbrev pub AreWritten : List Object → List Write → Type 0
AreWritten objects writes = (n : ℕ) (write : Write) → slice_get writes n ≡ Some write → (h : Handle) × (batch : Batch) × IsHandleAt objects write.handle h × StandsIn batch h.line × (batch.number ≡ write.number)

-- what stands in a line stands in each that goes on from it
pub stands-prefix : (batch : Batch) (a b : Line) → IsPrefix a b → StandsIn batch a → StandsIn batch b
stands-prefix batch a b p s = (
  s.0,
  subst (λ (l : Line). slice_get l.batches s.0 ≡ Some batch) (sym p.1) (get-before a.batches p.0 s.0 batch s.1),
  s.2 ∙ ap (λ (l : Line). l.floor + s.0 + 1) (sym p.1),
)

-- an element of a list that is one longer is the last one, or stood there before
get-cases : {X : Type 0} (xs : List X) (x y : X) (n : ℕ) → slice_get (xs ++ x ∷ []) n ≡ Some y → (slice_get xs n ≡ Some y) ⊎ (y ≡ x)
get-cases [] x y zero is = inr (cc)
get-cases [] x y (suc n) is = absurd (cc)
get-cases (z ∷ xs) x y zero is = inl is
get-cases (z ∷ xs) x y (suc n) is = get-cases xs x y n is

-- the number that a reply gives a write is that of the write
abbrev pub Numbers : List Write → Reply → Type 0
Numbers writes (replies.Written n k) = (write : Write) × (slice_get writes n ≡ Some write) × (write.number ≡ k)
Numbers writes reply = Unit {0}

-- what a command keeps, and that it numbers its write
pub record Keeps (objects : List Object) (writes : List Write) (reply : Reply) (objects' : List Object) (writes' : List Write) : Type 0 where
  pub stays : (n : ℕ) (write : Write) → slice_get writes n ≡ Some write → slice_get writes' n ≡ Some write
  pub written : AreWritten objects writes → AreWritten objects' writes'
  pub numbers : Numbers writes' reply

module _ (xs ys : List Object) (rise : Rise xs ys) (ws vs : List Write) (reply : Reply) where
  later : (n : ℕ) (write : Write) → ((h : Handle) × (batch : Batch) × IsHandleAt xs write.handle h × StandsIn batch h.line × (batch.number ≡ write.number)) → (h : Handle) × (batch : Batch) × IsHandleAt ys write.handle h × StandsIn batch h.line × (batch.number ≡ write.number)
  later n write old =
      let new = keeps-handles xs ys rise write.handle old.0 old.2 in
      (new.0, old.1, new.1, stands-prefix old.1 (old.0).line (new.0).line new.2 old.3, old.4)

  pub keeps-by : vs ≡ ws → Numbers vs reply → Keeps xs ws reply ys vs
  keeps-by same numbers =
      record {
        stays = λ n write is. subst (λ us. slice_get us n ≡ Some write) (sym same) is;
        written = λ written n write is. later n write (written n write (subst (λ us. slice_get us n ≡ Some write) same is));
        numbers = numbers;
      }

  -- one that accepts a write
  pub keeps-write : (extractor : Option Extractor) (n : ℕ) (h h' : Handle) (ops : List KeyOp) (at : ℤ) (write : Write) → IsHandleAt xs n h → write.handle ≡ n → write.number ≡ accepted h + 1 → h' ≡ written extractor h ops at → ys ≡ set xs n (AHandle h') → vs ≡ ws ++ write ∷ [] → Numbers vs reply → Keeps xs ws reply ys vs
  keeps-write extractor n h h' ops at write is of number new objects_are writes_are numbers =
      let mine : IsHandleAt ys n (written extractor h ops at) =
      subst (λ os. IsHandleAt os n (written extractor h ops at)) (sym (objects_are ∙ ap (λ x. set xs n (AHandle x)) new)) (get-set_same xs n (AHandle (written extractor h ops at)) (AHandle h) is) in
      let stands : StandsIn (next_batch h ops at) (written extractor h ops at).line = (length h.line.batches, get-seam h.line.batches (next_batch h ops at), refl) in
      record {
        stays = λ m other there. subst (λ us. slice_get us m ≡ Some other) (sym writes_are) (get-before ws (write ∷ []) m other there);
        written = λ before m other there.
            elim (get-cases ws write other m (subst (λ us. slice_get us m ≡ Some other) writes_are there)) [
              | inl old ↦ later m other (before m other old)
              | inr last ↦ (
                written extractor h ops at,
                next_batch h ops at,
                subst (λ k. IsHandleAt ys k (written extractor h ops at)) (sym (ap (λ (x : Write). x.handle) last ∙ of)) mine,
                stands,
                sym (ap (λ (x : Write). x.number) last ∙ number),
              )
            ];
        numbers = numbers;
      }

pub numbers-by : (vs : List Write) {reply reply' : Reply} → reply ≡ reply' → Numbers vs reply' → Numbers vs reply
numbers-by vs is numbers = subst (Numbers vs) (sym is) numbers

pub numbers-refusal : (vs : List Write) (e : SlateError) → Numbers vs (refusal e)
numbers-refusal vs errors.NoMemory = tt
numbers-refusal vs (errors.Backpressure unflushed limit) = tt
numbers-refusal vs e = tt

pub numbers-to : {A : Type 0} (vs : List Write) (done : A → Reply) (r : Result A SlateError) → ((x : A) → Numbers vs (done x)) → Numbers vs (reply_to done r)
numbers-to vs done (Ok x) f = f x
numbers-to vs done (Err e) f = numbers-refusal vs e

numbers-found : (vs : List Write) (found : Option KeyValue) → Numbers vs (found_reply found)
numbers-found vs None = tt
numbers-found vs (Some row) = tt

numbers-followed : (vs : List Write) (n : ℕ) (answer : PollAnswer) → Numbers vs (followed_reply n answer)
numbers-followed vs n (Whole at) = tt
numbers-followed vs n (Truncated at) = tt

pub numbers-polled : (vs : List Write) (answer : PollAnswer) → Numbers vs (polled_reply answer)
numbers-polled vs (Whole at) = tt
numbers-polled vs (Truncated at) = tt

numbers-closed : (vs : List Write) (fault : Option SlateError) (tasks : List TaskName) → Numbers vs (closed_reply fault tasks)
numbers-closed vs (Some errors.Closed) tasks = tt
numbers-closed vs None tasks = tt
numbers-closed vs (Some e) tasks = tt

numbers-status : (vs : List Write) (status : DbStatus) {reply : Reply} → AnswersStatus status reply → Numbers vs reply
numbers-status vs status (inl is) = numbers-by vs is tt
numbers-status vs status (inr is) = numbers-by vs is tt

numbers-follower-closed : (vs : List Write) (fault : Option SlateError) (tasks : List TaskName) → Numbers vs (follower_closed_reply fault tasks)
numbers-follower-closed vs None tasks = tt
numbers-follower-closed vs (Some e) tasks = tt

numbers-follower-ended : (vs : List Write) (was : CloseResult) (ended : Ended) → Numbers vs (follower_ended_reply was ended)
numbers-follower-ended vs None ended = tt
numbers-follower-ended vs (Some result) ended = numbers-follower-closed vs ended.fault ended.tasks

numbers-pending : (vs : List Write) (b : Bool) (r : CloseResult) → Numbers vs (if b then replies.Durable else pending_reply r)
numbers-pending vs true r = tt
numbers-pending vs false None = tt
numbers-pending vs false (Some q) = tt

numbers-asked : (vs : List Write) (found : Option Object) (k : ℕ) → Numbers vs (asked_reply found k)
numbers-asked vs None k = tt
numbers-asked vs (Some (AHandle h)) k = numbers-pending vs (leb k h.durable) h.result
numbers-asked vs (Some (ASnapshot x)) k = tt
numbers-asked vs (Some (AFollower f)) k = tt

numbers-write : (vs : List Write) (xs : List Object) (write : Option Write) → Numbers vs (write_reply xs write)
numbers-write vs xs None = tt
numbers-write vs xs (Some write) = numbers-asked vs (slice_get xs write.handle) write.number

module _ (xs ys : List Object) (rise : Rise xs ys) (ws vs : List Write) where
  write-keeps : (extractor : Option Extractor) (n : ℕ) (h h' : Handle) (ops : List KeyOp) (moment : ℤ) (second : Option ℤ) (r : Result Written SlateError) (reply : Reply) → IsHandleAt xs n h → Writes extractor h ops moment second r h' → reply ≡ reply_to (λ (w : Written). replies.Written (length ws) w.number) r → vs ≡ ws ++ noted n r → ys ≡ set xs n (AHandle h') → Keeps xs ws reply ys vs
  write-keeps extractor n h h' ops moment second (Err e) reply at s is more set_is = keeps-by xs ys rise ws vs reply (more ∙ append-nil ws) (numbers-by vs is (numbers-refusal vs e))
  write-keeps extractor n h h' ops moment second (Ok w) reply at s is more set_is =
      let write : Write = record { handle = n; number = w.number } in
      keeps-write xs ys rise ws vs reply extractor n h h' ops w.create_ts write at refl s.accepted.2 s.accepted.3 set_is more
      (numbers-by vs is (write, subst (λ us. slice_get us (length ws) ≡ Some write) (sym more) (get-seam ws write), refl))

  merge-keeps : (merge : Option Merge) (extractor : Option Extractor) (n : ℕ) (op : KeyOp) (moment : ℤ) (second : Option ℤ) (h h' : Handle) (reply : Reply) → IsHandleAt xs n h → ys ≡ set xs n (AHandle h') → MergesTo merge extractor n op moment second h ws reply h' vs → Keeps xs ws reply ys vs
  merge-keeps None extractor n op moment second h h' reply at set_is a = keeps-by xs ys rise ws vs reply a.2 (numbers-by vs a.0 tt)
  merge-keeps (Some merge) extractor n op moment second h h' reply at set_is a = write-keeps extractor n h h' _ moment second a.result reply at a.does a.replied a.noted set_is

  handle-keeps : (stored : Line) (catalogue : Catalogue) (settings : Settings) (n : ℕ) (moment : ℤ) (second : Option ℤ) (call : Call) (made : ℕ) (h h' : Handle) (before after : Known Span) (reply : Reply) → IsHandleAt xs n h → ys ≡ set xs n (AHandle h') → HandleActs (by_catalogue stored catalogue) settings n moment second call made h before ws reply h' after vs → Keeps xs ws reply ys vs
  handle-keeps stored catalogue settings n moment second (WriteCall ops) made h h' before after reply at set_is a = write-keeps settings.extractor n h h' _ moment second (a.0).result reply at (a.0).does (a.0).replied (a.0).noted set_is
  handle-keeps stored catalogue settings n moment second (MergeCall op) made h h' before after reply at set_is a = merge-keeps settings.merge settings.extractor n op moment second h h' reply at set_is a.0
  handle-keeps stored catalogue settings n moment second (Flush t) made h h' before after reply at set_is a =
      keeps-by xs ys rise ws vs reply a.1 (numbers-by vs (a.0).replied (numbers-to vs _ (a.0).result (λ x. tt)))
  handle-keeps stored catalogue settings n moment second Refresh made h h' before after reply at set_is a =
      keeps-by xs ys rise ws vs reply a.2 (numbers-by vs (a.0).replied (numbers-to vs _ (a.0).result (λ x. tt)))
  handle-keeps stored catalogue settings n moment second Compact made h h' before after reply at set_is a =
      keeps-by xs ys rise ws vs reply a.1 (numbers-by vs (a.0).replied (numbers-to vs _ (a.0).result (λ x. tt)))
  handle-keeps stored catalogue settings n moment second (Close t) made h h' before after reply at set_is a =
      keeps-by xs ys rise ws vs reply a.1 (numbers-by vs (a.0).replied (numbers-closed vs _ _))
  handle-keeps stored catalogue settings n moment second (Get key remote snapshot) made h h' before after reply at set_is a =
      keeps-by xs ys rise ws vs reply a.3 (numbers-by vs (a.0).replied (numbers-to vs _ (a.0).result (numbers-found vs)))
  handle-keeps stored catalogue settings n moment second (Scan range order remote snapshot) made h h' before after reply at set_is a =
      keeps-by xs ys rise ws vs reply a.3 (numbers-by vs (a.0).replied (numbers-to vs _ (a.0).result (λ x. tt)))
  handle-keeps stored catalogue settings n moment second (Seek range take key order remote snapshot) made h h' before after reply at set_is a =
      keeps-by xs ys rise ws vs reply a.3 (numbers-by vs (a.0).replied (numbers-to vs _ (a.0).result (λ x. tt)))
  handle-keeps stored catalogue settings n moment second Poll made h h' before after reply at set_is a = keeps-by xs ys rise ws vs reply a.3 (numbers-by vs a.0 tt)
  handle-keeps stored catalogue settings n moment second Status made h h' before after reply at set_is a = keeps-by xs ys rise ws vs reply a.3 (numbers-status vs _ a.0)
  handle-keeps stored catalogue settings n moment second (FindTime number find) made h h' before after reply at set_is a = keeps-by xs ys rise ws vs reply a.3 (numbers-by vs a.0.2 tt)
  handle-keeps stored catalogue settings n moment second (FindNumber seconds find) made h h' before after reply at set_is a = keeps-by xs ys rise ws vs reply a.3 (numbers-by vs a.0.2 tt)
  handle-keeps stored catalogue settings n moment second Nothing made h h' before after reply at set_is a = keeps-by xs ys rise ws vs reply a.3 (numbers-by vs a.0 tt)

  follower-keeps : (stored : Line) (catalogue : Catalogue) (settings : Settings) (moment : ℤ) (call : Call) (made : ℕ) (f f' : Follower) (before after : Known Span) (reply : Reply) → FollowerActs (by_catalogue stored catalogue) settings moment call made f before ws reply f' after vs → Keeps xs ws reply ys vs
  follower-keeps stored catalogue settings moment Poll made f f' before after reply a =
      keeps-by xs ys rise ws vs reply a.1 (numbers-by vs (a.0).replied (numbers-to vs _ (a.0).result (numbers-polled vs)))
  follower-keeps stored catalogue settings moment (Get key remote snapshot) made f f' before after reply a =
      keeps-by xs ys rise ws vs reply a.3 (numbers-by vs (a.0).replied (numbers-to vs _ (a.0).result (numbers-found vs)))
  follower-keeps stored catalogue settings moment (Close t) made f f' before after reply a = keeps-by xs ys rise ws vs reply a.1 (numbers-by vs (a.0).replied (numbers-follower-ended vs f.result _))
  follower-keeps stored catalogue settings moment (Scan range order remote snapshot) made f f' before after reply a =
      keeps-by xs ys rise ws vs reply a.3 (numbers-by vs (a.0).replied (numbers-to vs _ (a.0).result (λ x. tt)))
  follower-keeps stored catalogue settings moment (Seek range take key order remote snapshot) made f f' before after reply a =
      keeps-by xs ys rise ws vs reply a.3 (numbers-by vs (a.0).replied (numbers-to vs _ (a.0).result (λ x. tt)))
  follower-keeps stored catalogue settings moment (WriteCall ops) made f f' before after reply a = keeps-by xs ys rise ws vs reply a.3 (numbers-by vs a.0 tt)
  follower-keeps stored catalogue settings moment (MergeCall op) made f f' before after reply a = keeps-by xs ys rise ws vs reply a.3 (numbers-by vs a.0 tt)
  follower-keeps stored catalogue settings moment (Flush t) made f f' before after reply a = keeps-by xs ys rise ws vs reply a.3 (numbers-by vs a.0 tt)
  follower-keeps stored catalogue settings moment Refresh made f f' before after reply a = keeps-by xs ys rise ws vs reply a.3 (numbers-by vs a.0 tt)
  follower-keeps stored catalogue settings moment Compact made f f' before after reply a = keeps-by xs ys rise ws vs reply a.3 (numbers-by vs a.0 tt)
  follower-keeps stored catalogue settings moment (FindTime number find) made f f' before after reply a = keeps-by xs ys rise ws vs reply a.3 (numbers-by vs a.0 tt)
  follower-keeps stored catalogue settings moment (FindNumber seconds find) made f f' before after reply a = keeps-by xs ys rise ws vs reply a.3 (numbers-by vs a.0 tt)
  follower-keeps stored catalogue settings moment Status made f f' before after reply a = keeps-by xs ys rise ws vs reply a.3 (numbers-status vs _ a.0)
  follower-keeps stored catalogue settings moment Nothing made f f' before after reply a = keeps-by xs ys rise ws vs reply a.3 (numbers-by vs a.0 tt)

module _ (settings : Settings) (w w' : World) (command : Command) (made : ℕ) (reply : Reply) (rise : Rise w.objects w'.objects) where
  abbrev k : Knowledge Span
  k = by_catalogue w.stored w.catalogue

  only-keeps : (answer : Reply) → Numbers w'.writes answer → OnlyAnswers answer made (state_of w) reply (state_of w') → Keeps w.objects w.writes reply w'.objects w'.writes
  only-keeps answer numbers d = keeps-by w.objects w'.objects rise w.writes w'.writes reply (ap (λ (s : State Span). s.writes) d.2) (numbers-by w'.writes d.1 numbers)

  handle-keep : (n : ℕ) (call : Call) (h : Handle) → slice_get w.objects n ≡ Some (AHandle h) → ActsAt k settings n command call made (AHandle h) (state_of w) reply (state_of w') → Keeps w.objects w.writes reply w'.objects w'.writes
  handle-keep n call h at a =
      let d = handle-acted k settings n command call made (state_of w) reply (state_of w') h a in
      handle-keeps w.objects w'.objects rise w.writes w'.writes w.stored w.catalogue settings n command.moment command.second call made h d.new _ _ reply at d.objects d.acts

  snapshot-keeps : (x : HandleSnapshot) (call : Call) (found : Option Object) → slice_get w.objects x.handle ≡ found → ReadsSnapshot k settings x command call made found (state_of w) reply (state_of w') → Keeps w.objects w.writes reply w'.objects w'.writes
  snapshot-keeps x call (Some (AHandle h)) at d = handle-keep x.handle (at_snapshot x.number call) h at d
  snapshot-keeps x call (Some (ASnapshot y)) at d = only-keeps _ tt d
  snapshot-keeps x call (Some (AFollower f)) at d = only-keeps _ tt d
  snapshot-keeps x call None at d = only-keeps _ tt d

  on-keeps : (n : ℕ) (call : Call) (found : Option Object) → slice_get w.objects n ≡ found → ActsOn k settings n command call made found (state_of w) reply (state_of w') → Keeps w.objects w.writes reply w'.objects w'.writes
  on-keeps n call None at d = only-keeps _ tt d
  on-keeps n call (Some (AHandle h)) at d = handle-keep n call h at d
  on-keeps n call (Some (ASnapshot x)) at d = snapshot-keeps x call (slice_get w.objects x.handle) refl d
  on-keeps n call (Some (AFollower f)) at d =
      let a = follower-did k settings n command call made (state_of w) reply (state_of w') (Some (AFollower f)) f refl d in
      follower-keeps w.objects w'.objects rise w.writes w'.writes w.stored w.catalogue settings command.moment call made f a.new _ _ reply a.acts

  opened-keeps : (n : ℕ) (found : Option Object) → OpensSnapshot n made found (state_of w) reply (state_of w') → Keeps w.objects w.writes reply w'.objects w'.writes
  opened-keeps n (Some (AHandle h)) d =
      keeps-by w.objects w'.objects rise w.writes w'.writes reply (d.0).writes (numbers-by w'.writes (d.0).replied (numbers-to w'.writes _ (d.0).result (λ x. tt)))
  opened-keeps n (Some (ASnapshot x)) d = only-keeps _ tt d
  opened-keeps n (Some (AFollower f)) d = only-keeps _ tt d
  opened-keeps n None d = only-keeps _ tt d

  followed-keeps : (did : Known Span → Result (Follower × PollAnswer) SlateError → Known Span → Type 0) → AddsObject did (λ (b : Follower × PollAnswer). AFollower b.0) (λ n (b : Follower × PollAnswer). followed_reply n b.1) (state_of w) reply (state_of w') → Keeps w.objects w.writes reply w'.objects w'.writes
  followed-keeps did d =
      keeps-by w.objects w'.objects rise w.writes w'.writes reply d.writes (numbers-by w'.writes d.replied (numbers-to w'.writes _ d.result (λ (b : Follower × PollAnswer). numbers-followed w'.writes (length w.objects) b.1)))

  keeps-target : (target : Target) → DoesBy (by_catalogue w.stored w.catalogue) settings command target made (state_of w) reply (state_of w') → Keeps w.objects w.writes reply w'.objects w'.writes
  keeps-target (NewHandle keeps_log) d =
      keeps-by w.objects w'.objects rise w.writes w'.writes reply d.writes (numbers-by w'.writes d.replied (numbers-to w'.writes _ d.result (λ x. tt)))
  keeps-target (NewSnapshot n) d = opened-keeps n (slice_get w.objects n) d
  keeps-target (NewFollower modes.FollowLatest managed skips lag) d = followed-keeps _ d.0
  keeps-target (NewFollower (modes.Checkpoint id) managed skips lag) d = followed-keeps _ d.0
  keeps-target (NewFollower modes.ManagedCheckpoint managed skips lag) d = followed-keeps _ d
  keeps-target (NewCheckpoint lifetime) d =
      keeps-by w.objects w'.objects rise w.writes w'.writes reply d.writes (numbers-by w'.writes (d.does).replied (numbers-to w'.writes _ (d.does).result (λ x. tt)))
  keeps-target WholeStore d =
      keeps-by w.objects w'.objects rise w.writes w'.writes reply d.writes (numbers-by w'.writes (d.does).replied (numbers-to w'.writes _ (d.does).result (λ x. tt)))
  keeps-target (OfWrite n) d =
      only-keeps _ (numbers-write w'.writes w.objects (slice_get w.writes n)) d
  keeps-target (OfObject n) d = on-keeps n (call_of command.action) (slice_get w.objects n) refl d

-- what every command keeps, where no object goes back
pub keeps : (settings : Settings) (w : World) (command : Command) (reply : Reply) (w' : World) → Rise w.objects w'.objects → NextWhole settings w command reply w' → Keeps w.objects w.writes reply w'.objects w'.writes
keeps settings w command reply w' rise next = keeps-target settings w w' command next.made reply rise (target_of command.action) next.does
