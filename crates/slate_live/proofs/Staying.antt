-- A write that is reported durable is confirmed for good.
use Rattle.std.proofs.Common.{◌≡◌, ◌<◌, ℕ, ℤ, zero, suc, List, [], ◌∷◌, Option, Some, None, refl, sym, subst, ap, ◌∙◌, arith}
use Rattle.std.specs.List.{slice_get}
use Rattle.slate_types.specs.declared.batches.Batch.{Batch}
use Rattle.slate_errors.specs.Errors.{closed_error}
use Rattle.slate_model.specs.Begun.{Begun}
use Rattle.slate_model.specs.Follower.{Follower}
use Rattle.slate_model.specs.Handle.{CloseResult, Handle}
use Rattle.slate_model.specs.Known.{Known}
use Rattle.slate_model.specs.Object.{Object, Handle as AHandle, Snapshot as ASnapshot, Follower as AFollower}
use Rattle.slate_model.specs.Segments.{Extractor}
use Rattle.slate_model.specs.declared.answers.PollAnswer.{PollAnswer}
use Rattle.slate_script.specs.declared.commands.Action.TheVariants as actions
use Rattle.slate_script.specs.declared.replies.Reply.TheVariants as replies
use Rattle.slate_live.specs.declared.states.Write.{Write}
use Rattle.slate_live.specs.Calls.{Begins, Kind, Steps, Whole, kind_of}
use Rattle.slate_live.specs.Confirmed.{IsBatchOf, Sees, StandsIn}
use Rattle.slate_live.specs.Next.{NextBegun, NextBy, NextStep}
use Rattle.slate_live.specs.Settings.{Settings}
use Rattle.slate_live.specs.Represents.{IsHandleAt, up_to}
use Rattle.slate_live.specs.Steps.{Chain, StayConfirmed, Step}
use Rattle.slate_live.specs.Valid.{Link}
use Rattle.slate_live.specs.State.{Live}
use Rattle.slate_live.specs.Stepping.{BeginsOn, BeginsReader, StepsObject, StepsOn, stepped_reply}
use Rattle.slate_live.specs.World.{World}
use Rattle.slate_live.proofs.Confirming.{asked-same, reported, stands-front}
use Rattle.slate_live.proofs.Keeping.{AreWritten, Keeps, Numbers, keeps, keeps-by, numbers-by, numbers-polled, numbers-refusal, numbers-to, stands-prefix}
use Rattle.slate_live.proofs.Wholes.{next-whole}

-- the batch of a write that is reported durable is stored
pub record Confirms (w : World) (n : ℕ) : Type 0 where
  pub batch : Batch
  pub of_write : IsBatchOf w n batch
  pub stored : StandsIn batch w.stored

confirms-step : (settings : Settings) (w : World) (n : ℕ) (step : Step) → AreWritten w.objects w.writes → Link settings w step.command step.reply step.world → step.command.action ≡ actions.Await n → step.reply ≡ replies.Durable → Confirms step.world n
confirms-step settings w n step written link is durable =
    let next = next-whole settings w step.command step.reply step.world (ap kind_of is) link.next in
    let s = reported settings w step.command step.reply step.world next n is durable in
    let same = asked-same settings w step.command step.reply step.world next n is in
    let known = written n s.write s.is_write in
    let is_handle : known.0 ≡ s.handle = let there = known.2 in let here = s.is_handle in cc in
    let low = s.durable in
    let number = known.4 in
    let stands : StandsIn known.1 s.handle.line = subst (λ (x : Handle). StandsIn known.1 x.line) is_handle known.3 in
    let at_after : IsHandleAt (step.world).objects s.write.handle s.handle = subst (λ os. IsHandleAt os s.write.handle s.handle) (sym same.0) s.is_handle in
    record {
      batch = known.1;
      of_write = record {
        write = s.write;
        is_write = subst (λ ws. slice_get ws n ≡ Some s.write) (sym same.1) s.is_write;
        handle = s.handle;
        is_handle = at_after;
        accepted = stands;
        number = known.4;
      };
      stored = stands-prefix known.1 (up_to s.handle.durable s.handle.line) (step.world).stored (link.durable s.write.handle s.handle at_after)
          (stands-front known.1 s.handle.line s.handle.durable (omega (arith, low, number)) stands);
    }

kept : (settings : Settings) (w : World) (step : Step) → Link settings w step.command step.reply step.world → Keeps w.objects w.writes step.reply (step.world).objects (step.world).writes
kept settings w step link = by (kind_of step.command.action) refl
  where
    w' : World
    w' = step.world

    -- a command that writes nothing and answers no write
    unwritten : w'.writes ≡ w.writes → Numbers w'.writes step.reply → Keeps w.objects w.writes step.reply w'.objects w'.writes
    unwritten same numbers = keeps-by w.objects w'.objects link.rises w.writes w'.writes step.reply same numbers

    begun-numbers : (closed : CloseResult) (moment : ℤ) (reader : Follower) (poll : Option Begun) → BeginsReader closed moment reader step.reply poll → Numbers w'.writes step.reply
    begun-numbers None moment reader poll begins = numbers-by w'.writes begins.0 tt
    begun-numbers (Some result) moment reader poll begins = numbers-by w'.writes begins.0 (numbers-refusal w'.writes (closed_error result))

    begins-numbers : (n : ℕ) (moment : ℤ) (found : Option Object) (live live' : Live) → BeginsOn n moment found live step.reply live' → Numbers w'.writes step.reply
    begins-numbers n moment None live live' at = numbers-by w'.writes at.0 tt
    begins-numbers n moment (Some (AHandle h)) live live' at = numbers-by w'.writes at.begins.0 tt
    begins-numbers n moment (Some (ASnapshot x)) live live' at = numbers-by w'.writes at.begins.0 tt
    begins-numbers n moment (Some (AFollower f)) live live' at = begun-numbers f.result moment f at.poll' at.begins

    answer-numbers : (answer : Option PollAnswer) → Numbers w'.writes (stepped_reply answer)
    answer-numbers None = tt
    answer-numbers (Some answer) = numbers-polled w'.writes answer

    does-numbers : (x : Option Extractor) (object object' : Object) (poll poll' : Option Begun) (before after : Known (List Batch)) → StepsObject x object poll before step.reply object' poll' after → Numbers w'.writes step.reply
    does-numbers x (AFollower f) (AFollower f') (Some b) poll' before after does = numbers-by w'.writes does.replied (numbers-to w'.writes stepped_reply does.result answer-numbers)
    does-numbers x (AFollower f) (AHandle h) (Some b) poll' before after does = numbers-by w'.writes does.0 tt
    does-numbers x (AFollower f) (ASnapshot y) (Some b) poll' before after does = numbers-by w'.writes does.0 tt
    does-numbers x (AFollower f) object' None poll' before after does = numbers-by w'.writes does.0 tt
    does-numbers x (AHandle h) object' poll poll' before after does = numbers-by w'.writes does.0 tt
    does-numbers x (ASnapshot y) object' poll poll' before after does = numbers-by w'.writes does.0 tt

    steps-keep : (x : Option Extractor) (n : ℕ) (found : Option Object) (live live' : Live) (before after : Known (List Batch)) → StepsOn x n found live before step.reply live' after → (live'.writes ≡ live.writes) × Numbers w'.writes step.reply
    steps-keep x n None live live' before after at = (ap (λ (l : Live). l.writes) at.1, numbers-by w'.writes at.0 tt)
    steps-keep x n (Some object) live live' before after at = (ap (λ (l : Live). l.writes) at.same, does-numbers x object at.object' at.poll at.poll' before after at.does)

    by : (kind : Kind) → kind_of step.command.action ≡ kind → Keeps w.objects w.writes step.reply w'.objects w'.writes
    by Whole kind = keeps settings w step.command step.reply w' link.rises (next-whole settings w step.command step.reply w' kind link.next)
    by (Begins n) kind =
        let next : NextBegun settings n w step.command step.reply w' = subst (λ k. NextBy k settings w step.command step.reply w') kind link.next in
        unwritten (ap (λ (x : World). x.writes) next.same) (begins-numbers n (step.command).moment _ _ _ next.begins)
    by (Steps n) kind =
        let next : NextStep settings n w step.reply w' = subst (λ k. NextBy k settings w step.command step.reply w') kind link.next in
        let keeps_all = steps-keep settings.extractor n _ _ _ _ _ next.steps in
        unwritten keeps_all.0 keeps_all.1

-- what is stored stays stored over steps
stored-later : (settings : Settings) (batch : Batch) (w : World) (steps : List Step) → Chain settings w steps → StandsIn batch w.stored → (j : ℕ) (step : Step) → slice_get steps j ≡ Some step → StandsIn batch (step.world).stored
stored-later settings batch w [] chain stands j step at = absurd (cc)
stored-later settings batch w (s ∷ steps) chain stands zero step at =
    let is : s ≡ step = cc in
    subst (λ (x : Step). StandsIn batch (x.world).stored) is (stands-prefix batch w.stored (s.world).stored (chain.0).grows stands)
stored-later settings batch w (s ∷ steps) chain stands (suc j) step at =
    stored-later settings batch s.world steps chain.1 (stands-prefix batch w.stored (s.world).stored (chain.0).grows stands) j step at

-- what is stored is seen by steps
seen-later : (settings : Settings) (batch : Batch) (w : World) (steps : List Step) → Chain settings w steps → StandsIn batch w.stored → (j : ℕ) (step : Step) → slice_get steps j ≡ Some step → Sees batch (step.command).action step.reply step.world
seen-later settings batch w [] chain stands j step at = absurd (cc)
seen-later settings batch w (s ∷ steps) chain stands zero step at =
    let is : s ≡ step = cc in
    subst (λ (x : Step). Sees batch (x.command).action x.reply x.world) is ((chain.0).sees batch stands)
seen-later settings batch w (s ∷ steps) chain stands (suc j) step at =
    seen-later settings batch s.world steps chain.1 (stands-prefix batch w.stored (s.world).stored (chain.0).grows stands) j step at

-- a write stays one over steps
write-later : (settings : Settings) (w : World) (steps : List Step) → Chain settings w steps → (n : ℕ) (write : Write) → slice_get w.writes n ≡ Some write → (j : ℕ) (step : Step) → slice_get steps j ≡ Some step → slice_get (step.world).writes n ≡ Some write
write-later settings w [] chain n write there j step at = absurd (cc)
write-later settings w (s ∷ steps) chain n write there zero step at =
    let is : s ≡ step = cc in
    subst (λ (x : Step). slice_get (x.world).writes n ≡ Some write) is ((kept settings w s chain.0).stays n write there)
write-later settings w (s ∷ steps) chain n write there (suc j) step at =
    write-later settings s.world steps chain.1 n write ((kept settings w s chain.0).stays n write there) j step at

-- the number that a write was answered is that of its batch
number-reported : (settings : Settings) (w : World) (s : Step) (steps : List Step) (i n k : ℕ) (reported : Step) (batch : Batch) → Link settings w s.command s.reply s.world → Chain settings s.world steps → slice_get steps i ≡ Some reported → IsBatchOf reported.world n batch → s.reply ≡ replies.Written n k → batch.number ≡ k
number-reported settings w s steps i n k reported batch link chain at of_write reply =
    let answered : Numbers (s.world).writes (replies.Written n k) = subst (Numbers (s.world).writes) reply (kept settings w s link).numbers in
    let there = write-later settings s.world steps chain n answered.0 answered.1 i reported at in
    let here = of_write.is_write in
    let same : of_write.write ≡ answered.0 = cc in
    of_write.number ∙ (ap (λ (x : Write). x.number) same ∙ answered.2)

number-later : (settings : Settings) (w : World) (steps : List Step) (i n : ℕ) (reported : Step) (batch : Batch) → Chain settings w steps → slice_get steps i ≡ Some reported → IsBatchOf reported.world n batch → (h k : ℕ) (write : Step) → h < i → slice_get steps h ≡ Some write → write.reply ≡ replies.Written n k → batch.number ≡ k
number-later settings w [] i n reported batch chain at of_write h k write low at_h reply = absurd (cc)
number-later settings w (s ∷ steps) zero n reported batch chain at of_write h k write low at_h reply = absurd (omega (arith, low))
number-later settings w (s ∷ steps) (suc i) n reported batch chain at of_write zero k write low at_h reply =
    let is : s ≡ write = cc in
    number-reported settings w s steps i n k reported batch chain.0 chain.1 at of_write (ap (λ (x : Step). x.reply) is ∙ reply)
number-later settings w (s ∷ steps) (suc i) n reported batch chain at of_write (suc h) k write low at_h reply =
    number-later settings s.world steps i n reported batch chain.1 at of_write h k write (omega (arith, low)) at_h reply

-- steps after one: their places are those of the rest
stored-after : (settings : Settings) (batch : Batch) (steps : List Step) (i : ℕ) (reported : Step) (w : World) → Chain settings w steps → slice_get steps i ≡ Some reported → StandsIn batch (reported.world).stored → (j : ℕ) (step : Step) → i < j → slice_get steps j ≡ Some step → StandsIn batch (step.world).stored × Sees batch (step.command).action step.reply step.world
stored-after settings batch [] i reported w chain at stands j step low at_j = absurd (cc)
stored-after settings batch (s ∷ steps) i reported w chain at stands zero step low at_j = absurd (omega (arith, low))
stored-after settings batch (s ∷ steps) zero reported w chain at stands (suc j) step low at_j =
    let is : reported ≡ s = cc in
    let here : StandsIn batch (s.world).stored = subst (λ (x : Step). StandsIn batch (x.world).stored) is stands in
    (stored-later settings batch s.world steps chain.1 here j step at_j, seen-later settings batch s.world steps chain.1 here j step at_j)
stored-after settings batch (s ∷ steps) (suc i) reported w chain at stands (suc j) step low at_j =
    stored-after settings batch steps i reported s.world chain.1 at stands j step (omega (arith, low)) at_j

confirms-at : (settings : Settings) (w : World) (steps : List Step) → Chain settings w steps → AreWritten w.objects w.writes → (i n : ℕ) (reported : Step) → slice_get steps i ≡ Some reported → reported.command.action ≡ actions.Await n → reported.reply ≡ replies.Durable → Confirms reported.world n
confirms-at settings w [] chain written i n reported at is durable = absurd (cc)
confirms-at settings w (s ∷ steps) chain written zero n reported at is durable =
    let same : s ≡ reported = cc in
    subst (λ (x : Step). Confirms x.world n) same
    (confirms-step settings w n s written chain.0 (ap (λ (x : Step). (x.command).action) same ∙ is) (ap (λ (x : Step). x.reply) same ∙ durable))
confirms-at settings w (s ∷ steps) chain written (suc i) n reported at is durable =
    confirms-at settings s.world steps chain.1 ((kept settings w s chain.0).written written) i n reported at is durable

-- from a world without a write on, each write that is reported durable is confirmed for good
pub stay_confirmed : (settings : Settings) (w : World) (steps : List Step) → w.writes ≡ [] → Chain settings w steps → StayConfirmed steps
stay_confirmed settings w steps none chain i n reported at is durable =
    let c = confirms-at settings w steps chain (λ m write there. absurd (cc)) i n reported at is durable in
    record {
      batch = c.batch;
      of_write = c.of_write;
      number = number-later settings w steps i n reported c.batch chain at c.of_write;
      stored = c.stored;
      later = λ j step low at_j. (stored-after settings c.batch steps i reported w chain at c.stored j step low at_j).0;
      seen = λ j step low at_j. (stored-after settings c.batch steps i reported w chain at c.stored j step low at_j).1;
    }
