-- A snapshot is of a handle, and what its reads give stays.
use Rattle.std.proofs.Common.{◌≡◌, inl, inr, ℕ, ℤ, zero, suc, ◌≤◌, ◌-◌, min, true, false, set, take, drop, List, [], ◌∷◌, ◌++◌, Option, Some, None, Result, Ok, Err, refl, sym, subst, ap, ◌∙◌, arith}
use Rattle.std.specs.List.{All, slice_get}
use Rattle.std.proofs.lemmas.List.{append-nil, length-take-le, take-append-le}
use Rattle.std.proofs.lemmas.List.Elements.{All-head, All-tail}
use Rattle.slate_types.specs.declared.batches.Batch.{Batch}
use Rattle.slate_types.specs.declared.batches.KeyValue.{KeyValue}
use Rattle.slate_types.specs.declared.ranges.ByteRange.{ByteRange}
use Rattle.slate_types.specs.declared.scan_options.IterationOrder.{IterationOrder}
use Rattle.slate_types.specs.Line.{IsLine, IsPrefix, Line, end}
use Rattle.slate_types.specs.Operator.{Merge}
use Rattle.slate_reads.specs.Read.{read_at}
use Rattle.slate_rows.proofs.Unique.{IsScan-unique}
use Rattle.slate_rows.specs.Iteration.{Iteration, begun}
use Rattle.slate_rows.specs.Scan.{BeginsScan}
use Rattle.slate_errors.specs.Errors.{closed_error}
use Rattle.slate_errors.specs.declared.errors.SlateError.{SlateError}
use Rattle.slate_errors.specs.declared.errors.SlateError.TheVariants as errors
use Rattle.slate_model.specs.declared.snapshots.HandleSnapshot.{HandleSnapshot}
use Rattle.slate_store.specs.declared.objects.TableId.{TableId}
use Rattle.slate_types.specs.declared.read_faults.ReadFault.{ReadFault}
use Rattle.slate_model.specs.Catalogue.{Catalogue, Span}
use Rattle.slate_model.specs.Known.{Known}
use Rattle.slate_store.specs.declared.reader_modes.DbReaderMode.TheVariants as modes
use Rattle.slate_model.specs.Read.{AnswersRead, ReadsUnlessClosed}
use Rattle.slate_model.specs.Follower.{Follower}
use Rattle.slate_model.specs.Handle.{CloseResult, Handle, accepted, up_to}
use Rattle.slate_model.specs.Knowledge.{Knowledge}
use Rattle.slate_model.specs.Object.{Object, Handle as AHandle, Snapshot as ASnapshot, Follower as AFollower}
use Rattle.slate_model.specs.Snapshot.{unless_closed}
use Rattle.slate_model.specs.Stores.{by_catalogue}
use Rattle.slate_script.specs.declared.commands.Action.{Action}
use Rattle.slate_script.specs.declared.commands.Action.TheVariants as actions
use Rattle.slate_script.specs.declared.commands.Command.{Command}
use Rattle.slate_script.specs.declared.replies.Reply.{Reply}
use Rattle.slate_script.specs.declared.replies.Reply.TheVariants as replies
use Rattle.slate_live.specs.declared.states.Write.{Write}
use Rattle.slate_live.specs.Calls.{Whole, kind_of, Call, at_snapshot, call_of, target_of}
use Rattle.slate_live.specs.declared.targets.Target.{Target}
use Rattle.slate_live.specs.declared.targets.Target.TheVariants.{NewHandle, NewSnapshot, NewFollower, NewCheckpoint, WholeStore, OfWrite, OfObject}
use Rattle.slate_live.specs.Commands.{ActsAt, ActsOn, DoesBy, OpensSnapshot, ReadsSnapshot, added}
use Rattle.slate_live.specs.Handles.{GetsFrom, HandleActs, TakesFrom, TakesSnapshot, cut}
use Rattle.slate_live.specs.Replies.{found_reply, refusal, reply_to}
use Rattle.slate_live.specs.Represents.{IsHandleAt, IsOfHandle, IsReached, IsValid}
use Rattle.slate_live.specs.Rising.{Rise, Rises}
use Rattle.slate_live.specs.Scans.{AnswersTaken, scanned, sought}
use Rattle.slate_live.specs.Settings.{Settings}
use Rattle.slate_live.specs.Snapshots.{SnapshotsStay, is_answer, reads_all}
use Rattle.slate_live.specs.State.{State}
use Rattle.slate_live.specs.Steps.{Chain, Step}
use Rattle.slate_live.specs.Valid.{Link}
use Rattle.slate_live.specs.World.{NextWhole, World, state_of}
use Rattle.slate_live.proofs.Cases.{by-option, some-of}
use Rattle.slate_live.proofs.Keeping.{keeps-handles}
use Rattle.slate_live.proofs.Naming.{follower-did, handle-acted}
use Rattle.slate_live.proofs.Places.{get-push, get-set}
use Rattle.slate_live.proofs.Prefixes.{prefix-end}
use Rattle.slate_live.proofs.Reading.{front-read, scan-front}
use Rattle.slate_live.proofs.Rising.{rises}
use Rattle.slate_live.proofs.Begun.{by-kind}
use Rattle.slate_live.proofs.Wholes.{next-whole}

-- ---- each snapshot is of a handle
accepted-then : (result : CloseResult) (at number : ℕ) → ◌≡◌ {A = Result ℕ SlateError} (Ok number) (unless_closed result at) → number ≡ at
accepted-then None at number is = cc
accepted-then (Some q) at number is = absurd (cc)

module _ (settings : Settings) (w : World) (valid : IsValid w) (command : Command) (made : ℕ) (reply : Reply) (s' : State Span) where
  abbrev k : Knowledge Span
  k = by_catalogue w.stored w.catalogue

  -- each snapshot of the objects afterwards is of a handle before
  abbrev Were : Type 0
  Were = (n : ℕ) (x : HandleSnapshot) → slice_get s'.objects n ≡ Some (ASnapshot x) → IsOfHandle w.objects x

  were-same : s'.objects ≡ w.objects → Were
  were-same is n x at = valid.snapshots n x (subst (λ os. slice_get os n ≡ Some (ASnapshot x)) is at)

  were-pushed : (new : Object) → s'.objects ≡ w.objects ++ new ∷ [] → ((x : HandleSnapshot) → new ≡ ASnapshot x → IsOfHandle w.objects x) → Were
  were-pushed new is mine n x at =
      elim (get-push w.objects new (ASnapshot x) n (subst (λ os. slice_get os n ≡ Some (ASnapshot x)) is at)) [
        | inl old ↦ valid.snapshots n x old
        | inr last ↦ mine x last.1
      ]

  were-added : {A : Type 0} (f : A → Object) (r : Result A SlateError) → s'.objects ≡ w.objects ++ added f r → ((a : A) (x : HandleSnapshot) → r ≡ Ok a → f a ≡ ASnapshot x → IsOfHandle w.objects x) → Were
  were-added f (Ok a) is mine = were-pushed (f a) is (λ x same. mine a x refl same)
  were-added f (Err e) is mine = were-same (is ∙ append-nil w.objects)

  were-set : (m : ℕ) (old new : Object) → slice_get w.objects m ≡ Some old → s'.objects ≡ set w.objects m new → ((x : HandleSnapshot) → new ≡ ASnapshot x → ⊥) → Were
  were-set m old new there is never n x at =
      elim (get-set w.objects m n new (ASnapshot x) old there (subst (λ os. slice_get os n ≡ Some (ASnapshot x)) is at)) [
        | inl here ↦ absurd (never x here.1)
        | inr elsewhere ↦ valid.snapshots n x elsewhere.1
      ]

  were-handle : (n : ℕ) (call : Call) (h : Handle) → slice_get w.objects n ≡ Some (AHandle h) → ActsAt k settings n command call made (AHandle h) (state_of w) reply s' → Were
  were-handle n call h at a =
      let d = handle-acted k settings n command call made (state_of w) reply s' h a in
      were-set n (AHandle h) (AHandle d.new) at d.objects (λ x same. absurd (cc))

  were-read : (x : HandleSnapshot) (call : Call) (found : Option Object) → slice_get w.objects x.handle ≡ found → ReadsSnapshot k settings x command call made found (state_of w) reply s' → Were
  were-read x call (Some (AHandle h)) at a = were-handle x.handle _ h at a
  were-read x call (Some (ASnapshot y)) at a = were-same (ap (λ (s : State Span). s.objects) a.2)
  were-read x call (Some (AFollower f)) at a = were-same (ap (λ (s : State Span). s.objects) a.2)
  were-read x call None at a = were-same (ap (λ (s : State Span). s.objects) a.2)

  were-on : (n : ℕ) (call : Call) (found : Option Object) → slice_get w.objects n ≡ found → ActsOn k settings n command call made found (state_of w) reply s' → Were
  were-on n call None at a = were-same (ap (λ (s : State Span). s.objects) a.2)
  were-on n call (Some (AHandle h)) at a = were-handle n call h at a
  were-on n call (Some (ASnapshot x)) at a = were-read x call (slice_get w.objects x.handle) refl a
  were-on n call (Some (AFollower f)) at a =
      let d = follower-did k settings n command call made (state_of w) reply s' (Some (AFollower f)) f refl a in
      were-set n (AFollower f) (AFollower d.new) at d.objects (λ x same. absurd (cc))

  taken-now : (n : ℕ) (h : Handle) (r : Result ℕ SlateError) (number : ℕ) (x : HandleSnapshot) → IsHandleAt w.objects n h → TakesSnapshot h (state_of w).store r s'.store → r ≡ Ok number → ASnapshot (record { handle = n; number = number }) ≡ ASnapshot x → IsOfHandle w.objects x
  taken-now n h r number x at (inl memory, same) is new = absurd (let no : ◌≡◌ {A = Result ℕ SlateError} (Ok number) (Err errors.NoMemory) = sym is ∙ memory in cc)
  taken-now n h r number x at (inr taken, same) is new =
      let all = accepted-then h.result (accepted h) number (sym is ∙ taken) in
      let it : record { handle = n; number = number } ≡ x = cc in
      subst (IsOfHandle w.objects) it (h, at, omega (arith, all), omega (arith, all))

  were-taken : (n : ℕ) (found : Option Object) → slice_get w.objects n ≡ found → OpensSnapshot n made found (state_of w) reply s' → Were
  were-taken n (Some (AHandle h)) at d =
      were-added (λ number. ASnapshot (record { handle = n; number = number })) (d.0).result (d.0).objects (λ number x is new. taken-now n h (d.0).result number x at (d.0).does is new)
  were-taken n (Some (ASnapshot x)) at d = were-same (ap (λ (s : State Span). s.objects) d.2)
  were-taken n (Some (AFollower f)) at d = were-same (ap (λ (s : State Span). s.objects) d.2)
  were-taken n None at d = were-same (ap (λ (s : State Span). s.objects) d.2)

  were : (target : Target) → DoesBy k settings command target made (state_of w) reply s' → Were
  were (NewHandle keeps_log) d = were-added AHandle d.result d.objects (λ h x is same. absurd (cc))
  were (NewSnapshot n) d = were-taken n (slice_get w.objects n) refl d
  were (NewFollower modes.FollowLatest managed skips lag) d = were-added _ (d.0).result (d.0).objects (λ b x is same. absurd (cc))
  were (NewFollower (modes.Checkpoint id) managed skips lag) d = were-added _ (d.0).result (d.0).objects (λ b x is same. absurd (cc))
  were (NewFollower modes.ManagedCheckpoint managed skips lag) d = were-added _ d.result d.objects (λ b x is same. absurd (cc))
  were (NewCheckpoint lifetime) d = were-same d.objects
  were WholeStore d = were-same d.objects
  were (OfWrite n) d = were-same (ap (λ (s : State Span). s.objects) d.2)
  were (OfObject n) d = were-on n (call_of command.action) (slice_get w.objects n) refl d

-- where objects rise, the line of a snapshot's handle goes on from what it was
risen-handle : (xs ys : List Object) (x : HandleSnapshot) → Rise xs ys → IsOfHandle xs x → IsOfHandle ys x
risen-handle xs ys x rise (h, at, low, high) =
    let new = keeps-handles xs ys rise x.handle h at in
    let floor = ap (λ (l : Line). l.floor) (new.2).1 in
    let ends = prefix-end h.line (new.0).line new.2 in
    (new.0, new.1, omega (arith, floor, low), omega (arith, ends, high))

pub snapshots-kept : (settings : Settings) (w w' : World) (command : Command) (reply : Reply) → IsValid w → NextWhole settings w command reply w' → (n : ℕ) (x : HandleSnapshot) → slice_get w'.objects n ≡ Some (ASnapshot x) → IsOfHandle w'.objects x
snapshots-kept settings w w' command reply valid next n x at =
    risen-handle w.objects w'.objects x (rises settings w command reply w' valid next)
    (were settings w valid command next.made reply (state_of w') (target_of command.action) next.does n x at)

-- ---- what a snapshot sees
front-end : (number : ℕ) (line : Line) → line.floor ≤ number → number ≤ end line → end (up_to number line) ≡ number
front-end number line low high =
    let count = length-take-le (number - line.floor) line.batches (omega (arith, low, high)) in
    omega (arith, count, low)

take-drop : {X : Type 0} (n : ℕ) (xs : List X) → xs ≡ take n xs ++ drop n xs
take-drop zero xs = refl
take-drop (suc n) [] = refl
take-drop (suc n) (x ∷ xs) = ap (λ ys. x ∷ ys) (take-drop n xs)

front-prefix : (number : ℕ) (line : Line) → IsPrefix (up_to number line) line
front-prefix number line =
    (drop (number - line.floor) line.batches, ap (λ bs. record { floor = line.floor; batches = bs }) (take-drop (number - line.floor) line.batches))

-- a line that goes on has the same front
front-same : (number : ℕ) (line longer : Line) → IsPrefix line longer → number ≤ end line → up_to number longer ≡ up_to number line
front-same number line longer p high =
    ap (up_to number) p.1 ∙ ap (λ bs. record { floor = line.floor; batches = bs }) (take-append-le (number - line.floor) line.batches p.0 (omega (arith, high)))

-- an answered read gives what is plain over the batches of a line
abbrev Gives : Option Merge → Action → Line → Reply → Type 0
Gives merge (actions.Get n key remote) line reply =
    (found : Option KeyValue) × (◌≡◌ {A = Result (Option KeyValue) _} (Ok found) (read_at merge line.batches (Some (end line)) key)) × (reply ≡ found_reply found)
Gives merge (actions.Scan n range order remote) line reply =
    (it : Iteration) × BeginsScan merge line.batches (Some (end line)) range order it × (rows : List KeyValue) × (scanned it ≡ Ok rows) × (reply ≡ replies.Rows rows)
Gives merge (actions.Seek n range count key order remote) line reply =
    (it : Iteration) × BeginsScan merge line.batches (Some (end line)) range order it × (rows : List KeyValue) × (sought range count key it ≡ Ok rows) × (reply ≡ replies.Rows rows)
Gives merge action line reply = ⊥

ok-same : {A E : Type 0} (a b : A) → ◌≡◌ {A = Result A E} (Ok a) (Ok b) → a ≡ b
ok-same a b same = cc

one-iteration : (merge : Option Merge) (line : Line) (range : ByteRange) (order : IterationOrder) (a b : Iteration) → BeginsScan merge line.batches (Some (end line)) range order a → BeginsScan merge line.batches (Some (end line)) range order b → a ≡ b
one-iteration merge line range order a b one other =
    let same = IsScan-unique merge line.batches (Some (end line)) range order a.rows b.rows a.fault b.fault one.plain other.plain in
    one.unbegun ∙ (ap (λ rows. begun range order rows a.fault) same.0 ∙ ap (begun range order b.rows) same.1) ∙ sym other.unbegun

given-once : (merge : Option Merge) (action : Action) (line : Line) (a b : Reply) → Gives merge action line a → Gives merge action line b → b ≡ a
given-once merge (actions.Get n key remote) line a b (x, plain, is) (y, plain', is') = is' ∙ (ap found_reply (ok-same y x (plain' ∙ sym plain)) ∙ sym is)
given-once merge (actions.Scan n range order remote) line a b (it, begins, rows, all, is) (it', begins', rows', all', is') =
    let same = one-iteration merge line range order it' it begins' begins in
    is' ∙ (ap replies.Rows (ok-same rows' rows (sym all' ∙ (ap scanned same ∙ all))) ∙ sym is)
given-once merge (actions.Seek n range count key order remote) line a b (it, begins, rows, all, is) (it', begins', rows', all', is') =
    let same = one-iteration merge line range order it' it begins' begins in
    is' ∙ (ap replies.Rows (ok-same rows' rows (sym all' ∙ (ap (sought range count key) same ∙ all))) ∙ sym is)
given-once merge action line a b given other = absurd given

-- ---- what an answered read of a snapshot gives
refused-not : (e : SlateError) → is_answer (refusal e) ≡ true → ⊥
refused-not errors.NoMemory answered = absurd (cc)
refused-not (errors.Backpressure unflushed limit) answered = absurd (cc)
refused-not e answered = absurd (cc)

answered-ok : {A : Type 0} (done : A → Reply) (r : Result A SlateError) (reply : Reply) → reply ≡ reply_to done r → is_answer reply ≡ true → (x : A) × (r ≡ Ok x)
answered-ok done (Ok x) reply is answered = (x, refl)
answered-ok done (Err e) reply is answered = absurd (refused-not e (sym (ap is_answer is) ∙ answered))

-- what is read of something that answers Ok
read-of : {L A : Type 0} {has_rows : List Batch → Type 0} {is_plain : List Batch → Result A ReadFault → Type 0} {before after : Known L} (closed : CloseResult) (tables : List TableId) (r : Result A SlateError) (x : A) → r ≡ Ok x → ReadsUnlessClosed closed tables has_rows is_plain before r after → (rows : List Batch) × has_rows rows × is_plain rows (Ok x)
read-of {has_rows = has_rows} {is_plain = is_plain} closed tables r x is does =
    by-option closed
    (λ live. subst (AnswersRead has_rows is_plain) is (does.read live).plain)
    (λ q shut. absurd (let c = some-of (λ q. (r ≡ Err (closed_error q)) × _) closed q shut does.closed in let never : ◌≡◌ {A = Result _ SlateError} (Ok x) (Err (closed_error q)) = sym is ∙ c.0 in cc))

module _ (settings : Settings) (catalogue : Catalogue) (stored : Line) (x : HandleSnapshot) (h : Handle) (numbered : IsLine h.line) (low : h.line.floor ≤ x.number) (high : x.number ≤ accepted h) where
  abbrev front : Line
  front = up_to x.number h.line

  ends : end front ≡ x.number
  ends = front-end x.number h.line low high

  cut-is : cut h false (Some x.number) ≡ Some (end front)
  cut-is = let e = ends in let least : min x.number (accepted h) ≡ end front = omega (arith, high, e) in ap Some least

  get-gives : (n : ℕ) (key : List ℕ) (before after : Known Span) (reply : Reply) → is_answer reply ≡ true → GetsFrom (by_catalogue stored catalogue) settings.merge key false (Some x.number) h before reply after → Gives settings.merge (actions.Get n key false) front reply
  get-gives n key before after reply answered a =
      let ok = answered-ok found_reply a.result reply a.replied answered in
      let read = read-of h.result h.view.manifest.tables a.result ok.0 ok.1 a.does in
      let plain : ◌≡◌ {A = Result (Option KeyValue) ReadFault} (Ok ok.0) (read_at settings.merge h.line.batches (Some (end front)) key) =
      read.2 ∙ (ap (λ bs. read_at settings.merge bs (cut h false (Some x.number)) key) read.1.1 ∙ ap (λ c. read_at settings.merge h.line.batches c key) cut-is) in
      (ok.0, plain ∙ sym (front-read settings.merge front h.line key (front-prefix x.number h.line) numbered), a.replied ∙ ap (reply_to found_reply) ok.1)

  -- of the scan that a read begins, this is taken
  take-gives : (range : ByteRange) (order : IterationOrder) (taken : Iteration → Result (List KeyValue) SlateError) (before after : Known Span) (reply : Reply) → is_answer reply ≡ true → TakesFrom (by_catalogue stored catalogue) settings.merge range order false (Some x.number) taken h before reply after →
      (it : Iteration) × BeginsScan settings.merge front.batches (Some (end front)) range order it × (rows : List KeyValue) × (taken it ≡ Ok rows) × (reply ≡ replies.Rows rows)
  take-gives range order taken before after reply answered a = by a.scan refl (subst (λ r. AnswersTaken taken a.scan r) ok.1 a.takes) where
    ok : (rows : List KeyValue) × (a.result ≡ Ok rows)
    ok = answered-ok replies.Rows a.result reply a.replied answered

    by : (scan : Result Iteration SlateError) → a.scan ≡ scan → AnswersTaken taken scan (Ok ok.0) → (it : Iteration) × BeginsScan settings.merge front.batches (Some (end front)) range order it × (rows : List KeyValue) × (taken it ≡ Ok rows) × (reply ≡ replies.Rows rows)
    by (Ok it) is (inl memory) = absurd (cc)
    by (Ok it) is (inr all) =
        let read = read-of h.result h.view.manifest.tables a.scan it is a.scans in
        let begins = subst (λ c. BeginsScan settings.merge h.line.batches c range order it) cut-is (subst (λ bs. BeginsScan settings.merge bs (cut h false (Some x.number)) range order it) read.1.1 read.2) in
        (it, scan-front settings.merge front h.line range order it (front-prefix x.number h.line) numbered begins, ok.0, sym all, a.replied ∙ ap (reply_to replies.Rows) ok.1)
    by (Err e) is refused = absurd (cc)

  -- a handle that is asked this for a snapshot
  asked-gives : (action : Action) (n m : ℕ) (moment : ℤ) (second : Option ℤ) (made : ℕ) (before after : Known Span) (writes writes' : List Write) (new : Handle) (reply : Reply) → reads_all action ≡ Some n → is_answer reply ≡ true →
      HandleActs (by_catalogue stored catalogue) settings m moment second (at_snapshot x.number (call_of action)) made h before writes reply new after writes' → Gives settings.merge action front reply
  asked-gives (actions.Get o key false) n m moment second made before after writes writes' new reply is answered a = get-gives o key before after reply answered a.0
  asked-gives (actions.Scan o range order false) n m moment second made before after writes writes' new reply is answered a = take-gives range order scanned before after reply answered a.0
  asked-gives (actions.Seek o range count key order false) n m moment second made before after writes writes' new reply is answered a = take-gives range order (sought range count key) before after reply answered a.0
  asked-gives action n m moment second made before after writes writes' new reply is answered a = absurd (cc)

-- what reads an object names it
read-names : (action : Action) (n : ℕ) → reads_all action ≡ Some n → target_of action ≡ OfObject n
read-names (actions.Get m key false) n is = let same : m ≡ n = cc in ap OfObject same
read-names (actions.Scan m range order false) n is = let same : m ≡ n = cc in ap OfObject same
read-names (actions.Seek m range count key order false) n is = let same : m ≡ n = cc in ap OfObject same
read-names action n is = absurd (cc)

-- and makes a call whole
reads-whole : (action : Action) (n : ℕ) → reads_all action ≡ Some n → kind_of action ≡ Whole
reads-whole action n is = by-kind (λ a. reads_all a ≡ Some n) (λ m no. absurd (cc)) (λ m no. absurd (cc)) action is

unknown-not : (reply : Reply) → reply ≡ replies.Unknown → is_answer reply ≡ true → ⊥
unknown-not reply is answered = absurd (let known = sym (ap is_answer is) ∙ answered in cc)

-- what rises of a snapshot, a handle and a follower
snapshot-stays : (w : World) (n : ℕ) (x : HandleSnapshot) (new : Object) → slice_get w.objects n ≡ Some new → Rises (ASnapshot x) new → slice_get w.objects n ≡ Some (ASnapshot x)
snapshot-stays w n x (ASnapshot y) at same = at ∙ ap (λ z. Some (ASnapshot z)) same
snapshot-stays w n x (AHandle h) at rises = absurd rises
snapshot-stays w n x (AFollower f) at rises = absurd rises

not-handle : (h : Handle) (x : HandleSnapshot) (new : Object) → Rises (AHandle h) new → new ≡ ASnapshot x → ⊥
not-handle h x (AHandle h') rises is = absurd (cc)
not-handle h x (ASnapshot y) rises is = absurd rises
not-handle h x (AFollower f) rises is = absurd rises

not-follower : (f : Follower) (x : HandleSnapshot) (new : Object) → Rises (AFollower f) new → new ≡ ASnapshot x → ⊥
not-follower f x (AFollower f') rises is = absurd (cc)
not-follower f x (ASnapshot y) rises is = absurd rises
not-follower f x (AHandle h) rises is = absurd rises

same-snapshot : (y x : HandleSnapshot) (new : Object) → Rises (ASnapshot y) new → new ≡ ASnapshot x → y ≡ x
same-snapshot y x (ASnapshot z) same is = sym same ∙ (let it : z ≡ x = cc in it)
same-snapshot y x (AHandle h) rises is = absurd rises
same-snapshot y x (AFollower f) rises is = absurd rises

-- ---- over a run
-- the snapshots of a world are of handles, whose lines are lines
abbrev Sampled : World → Type 0
Sampled w =
    ((n : ℕ) (x : HandleSnapshot) → slice_get w.objects n ≡ Some (ASnapshot x) → IsOfHandle w.objects x)
    × ((n : ℕ) (h : Handle) → IsHandleAt w.objects n h → IsLine h.line)

sampled : (w : World) → IsValid w → Sampled w
sampled w valid = (valid.snapshots, λ n h at. (valid.handles n h at).numbered)

module _ (settings : Settings) where
  -- an answered read of a snapshot
  step-gives : (w : World) (step : Step) (n : ℕ) (x : HandleSnapshot) (h : Handle) → Sampled w → Link settings w step.command step.reply step.world → slice_get w.objects n ≡ Some (ASnapshot x) → IsHandleAt w.objects x.handle h →
      reads_all step.command.action ≡ Some n → is_answer step.reply ≡ true → Gives settings.merge step.command.action (up_to x.number h.line) step.reply
  step-gives w step n x h all link at there is answered =
      let c = step.command in
      let next = next-whole settings w c step.reply step.world (reads-whole c.action n is) link.next in
      let k = by_catalogue w.stored w.catalogue in
      let does = subst (λ t. DoesBy k settings c t next.made (state_of w) step.reply (state_of step.world)) (read-names c.action n is) next.does in
      let read = subst (λ found. ActsOn k settings n c (call_of c.action) next.made found (state_of w) step.reply (state_of step.world)) at does in
      let acts = subst (λ found. ReadsSnapshot k settings x c (call_of c.action) next.made found (state_of w) step.reply (state_of step.world)) there read in
      let d = handle-acted k settings x.handle c (at_snapshot x.number (call_of c.action)) next.made (state_of w) step.reply (state_of step.world) h acts in
      let mine = all.0 n x at in
      let same : mine.0 ≡ h = let other = mine.1 in cc in
      let low = subst (λ (a : Handle). a.line.floor ≤ x.number) same mine.2 in
      let high = subst (λ (a : Handle). x.number ≤ accepted a) same mine.3 in
      asked-gives settings w.catalogue w.stored x h (all.1 x.handle h there) low high c.action n x.handle c.moment c.second next.made _ _ w.writes _ d.new step.reply is answered d.acts

  -- a later read of a snapshot that was there before
  later-gives : (w : World) (steps : List Step) (n : ℕ) (x : HandleSnapshot) (h : Handle) → Sampled w → Chain settings w steps → All (λ step. IsReached step.world) steps → slice_get w.objects n ≡ Some (ASnapshot x) → IsHandleAt w.objects x.handle h → x.number ≤ accepted h →
      (j : ℕ) (step : Step) → slice_get steps j ≡ Some step → reads_all step.command.action ≡ Some n → is_answer step.reply ≡ true → Gives settings.merge step.command.action (up_to x.number h.line) step.reply
  later-gives w [] n x h all chain reached at there high j step is reads answered = absurd (cc)
  later-gives w (s ∷ steps) n x h all chain reached at there high zero step is reads answered =
      let same : s ≡ step = cc in
      subst (λ (s : Step). Gives settings.merge s.command.action (up_to x.number h.line) s.reply) same
      (step-gives w s n x h all chain.0 at there (ap (λ (s : Step). reads_all s.command.action) same ∙ reads) (ap (λ (s : Step). is_answer s.reply) same ∙ answered))
  later-gives w (s ∷ steps) n x h all chain reached at there high (suc j) step is reads answered =
      let rise = chain.0.rises in
      let stays = rise n (ASnapshot x) at in
      let still = snapshot-stays s.world n x stays.0 stays.1 stays.2 in
      let new = keeps-handles w.objects s.world.objects rise x.handle h there in
      let ends = prefix-end h.line (new.0).line new.2 in
      subst (λ line. Gives settings.merge step.command.action line step.reply) (front-same x.number h.line (new.0).line new.2 high)
      (later-gives s.world steps n x new.0 (sampled s.world (All-head (λ step. IsReached step.world) s steps reached).0) chain.1 (All-tail (λ step. IsReached step.world) s steps reached) still new.1 (omega (arith, ends, high)) j step is reads answered)

  -- the object of an answered read, which is a snapshot afterwards, was one before
  was-snapshot : (w : World) (step : Step) (n : ℕ) (x : HandleSnapshot) → Link settings w step.command step.reply step.world → slice_get step.world.objects n ≡ Some (ASnapshot x) → reads_all step.command.action ≡ Some n → is_answer step.reply ≡ true → slice_get w.objects n ≡ Some (ASnapshot x)
  was-snapshot w step n x link after is answered = by (slice_get w.objects n) refl where
    by : (found : Option Object) → slice_get w.objects n ≡ found → slice_get w.objects n ≡ Some (ASnapshot x)
    by None at =
        let c = step.command in
        let next = next-whole settings w c step.reply step.world (reads-whole c.action n is) link.next in
        let k = by_catalogue w.stored w.catalogue in
        let does = subst (λ t. DoesBy k settings c t next.made (state_of w) step.reply (state_of step.world)) (read-names c.action n is) next.does in
        let only = subst (λ found. ActsOn k settings n c (call_of c.action) next.made found (state_of w) step.reply (state_of step.world)) at does in
        absurd (unknown-not step.reply only.1 answered)
    by (Some (AHandle h)) at = let new = link.rises n (AHandle h) at in absurd (not-handle h x new.0 new.2 (let there = new.1 in cc))
    by (Some (ASnapshot y)) at = let new = link.rises n (ASnapshot y) at in at ∙ ap (λ x. Some (ASnapshot x)) (same-snapshot y x new.0 new.2 (let there = new.1 in cc))
    by (Some (AFollower f)) at = let new = link.rises n (AFollower f) at in absurd (not-follower f x new.0 new.2 (let there = new.1 in cc))

  stay : (w : World) (steps : List Step) → Sampled w → Chain settings w steps → All (λ step. IsReached step.world) steps → SnapshotsStay steps
  stay w [] all chain reached i j n earlier later low at_i at_j same reads of answered answered' = absurd (cc)
  stay w (s ∷ steps) all chain reached zero zero n earlier later low at_i at_j same reads of answered answered' = absurd (omega (arith, low))
  stay w (s ∷ steps) all chain reached zero (suc j) n earlier later low at_i at_j same reads of answered answered' =
      let is : s ≡ earlier = cc in
      let here = subst (λ (e : Step). slice_get e.world.objects n ≡ Some (ASnapshot of.0)) (sym is) of.1 in
      let reads_s = ap (λ (e : Step). reads_all e.command.action) is ∙ reads in
      let answered_s = ap (λ (e : Step). is_answer e.reply) is ∙ answered in
      let at = was-snapshot w s n of.0 chain.0 here reads_s answered_s in
      let mine = all.0 n of.0 at in
      let first = step-gives w s n of.0 mine.0 all chain.0 at mine.1 reads_s answered_s in
      let second = later-gives w (s ∷ steps) n of.0 mine.0 all chain reached at mine.1 mine.3 (suc j) later at_j (ap reads_all same ∙ reads) answered' in
      let action = ap (λ (e : Step). e.command.action) is in
      given-once settings.merge earlier.command.action (up_to of.0.number mine.0.line) earlier.reply later.reply
      (subst (λ (e : Step). Gives settings.merge e.command.action (up_to of.0.number mine.0.line) e.reply) is first)
      (subst (λ a. Gives settings.merge a (up_to of.0.number mine.0.line) later.reply) same second)
  stay w (s ∷ steps) all chain reached (suc i) zero n earlier later low at_i at_j same reads of answered answered' = absurd (omega (arith, low))
  stay w (s ∷ steps) all chain reached (suc i) (suc j) n earlier later low at_i at_j same reads of answered answered' =
      stay s.world steps (sampled s.world (All-head (λ step. IsReached step.world) s steps reached).0) chain.1 (All-tail (λ step. IsReached step.world) s steps reached) i j n earlier later (omega (arith, low)) at_i at_j same reads of answered answered'

  -- from a world without an object on
  pub snapshots_stay : (w : World) (steps : List Step) → w.objects ≡ [] → Chain settings w steps → All (λ step. IsReached step.world) steps → SnapshotsStay steps
  snapshots_stay w steps none chain reached =
      stay w steps (λ n x at. absurd (let empty = subst (λ os. slice_get os n ≡ Some (ASnapshot x)) none at in cc), λ n h at. absurd (let empty = subst (λ os. slice_get os n ≡ Some (AHandle h)) none at in cc)) chain reached
