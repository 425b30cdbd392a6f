-- A read of a router: its polls, and then the read of the reader that covers.
use Rattle.std.proofs.Common.{◌≡◌, ◌≢◌, ◌∙◌, ◌≤◌, inl, inr, ℕ, ℤ, false, List, get_or, Option, Some, None, Result, Ok, Err, refl, sym, subst, ap, arith}
use Rattle.std.specs.Prelude.{slice_get}
use Rattle.std.proofs.lemmas.List.Quantifiers.{position-Some}
use Rattle.std.proofs.lemmas.Option.{get_or_from_slice_get, slice_get-get_or, slice_get_within}
use Rattle.slate_types.specs.declared.batches.Batch.{Batch}
use Rattle.slate_types.specs.declared.batches.KeyValue.{KeyValue}
use Rattle.slate_types.specs.declared.read_faults.ReadFault.{ReadFault}
use Rattle.slate_types.specs.declared.read_faults.ReadFault.TheVariants as reads
use Rattle.slate_types.specs.declared.store_errors.StoreFault.TheVariants.{NotFound, Unavailable}
use Rattle.slate_types.specs.Counts.{HasRisen}
use Rattle.slate_types.specs.Line.{Line}
use Rattle.slate_types.specs.Operator.{Merge}
use Rattle.slate_reads.specs.Read.{read_at}
use Rattle.slate_errors.specs.declared.errors.SlateError.{SlateError}
use Rattle.slate_errors.specs.declared.errors.SlateError.TheVariants as errors
use Rattle.slate_model.specs.Catalogue.{Catalogue}
use Rattle.slate_model.specs.Follower.{Follower, number}
use Rattle.slate_model.specs.Known.{FaultsRise, Known}
use Rattle.slate_model.specs.Object.{Follower as AFollower}
use Rattle.slate_model.specs.Read.{ReadsUnlessClosed, ReadsByAny}
use Rattle.slate_model.specs.Stores.{kept_rows}
use Rattle.slate_model.specs.Tables.{AreStored}
use Rattle.slate_script.specs.declared.commands.Action.TheVariants as actions
use Rattle.slate_live.specs.Replies.{found_reply, refusal, reply_to}
use Rattle.slate_live.specs.Settings.{Settings}
use Rattle.slate_live.specs.State.{Live}
use Rattle.slate_live.specs.Steps.{Step, last_world}
use Rattle.slate_live.specs.Valid.{Link}
use Rattle.slate_live.specs.World.{World}
use Rattle.slate_route.specs.declared.answers.RouteRefusal.{RouteRefusal}
use Rattle.slate_route.specs.declared.answers.RouteRefusal.TheVariants as refusals
use Rattle.slate_route.specs.declared.answers.Routed.{Routed}
use Rattle.slate_route.specs.declared.routers.Covering.{Covering}
use Rattle.slate_route.specs.Reading.{Answers, FindsNone, GoesBy, covers, first_covering, read_refusal}
use Rattle.slate_route.specs.Standing.{CanRead, IsAnswered, IsReadAt, ReadEnds, ReadFails, ReadLeads, RoutesOver, command_at, routing}
use Rattle.slate_route.specs.Turns.{CoverEnds, CoverLeads}
use Rattle.slate_route.proofs.Leading.{GetLeads, get-leads}
use Rattle.slate_route.proofs.Passing.{none-passes, refusal-passes}
use Rattle.slate_route.proofs.Turning.{covers-open, open-none, risen-first, stands-of}

-- the reader that a read goes by is open
first-open : (at_least : ℕ) (readers : List Follower) (place : ℕ) (reader : Follower) → first_covering at_least readers ≡ Some place → slice_get readers place ≡ Some reader → reader.result ≡ None
first-open at_least readers place reader first there =
    let found = position-Some (covers at_least) readers place reader first in
    open-none reader (covers-open at_least reader (ap (covers at_least) (sym (get_or_from_slice_get readers place reader reader there)) ∙ found.1))

-- ---- the refusal of a read that failed
refusal-ends : (settings : Settings) (moment : ℤ) (key : List ℕ) (at_least : ℕ) (places : List ℕ) (stored : Line) (steps : List Step) (new : List Follower) (w : World) (place : ℕ) (w' : World) (error : SlateError) →
    (read : IsReadAt settings moment key places place new w (refusal error) w') → (error ≢ errors.NoMemory → ReadFails settings.merge stored w read.reader key error) → ReadEnds settings moment key at_least places stored steps new w (Err (read_refusal error)) w'
refusal-ends settings moment key at_least places stored steps new w place w' errors.NoMemory read fails = tt
refusal-ends settings moment key at_least places stored steps new w place w' error read fails = (place, read, fails (λ same. cc))

refusal-answered : (error : SlateError) → (error ≢ errors.NoMemory → ⊥) → IsAnswered {A = Routed} (Err (read_refusal error))
refusal-answered errors.NoMemory never = tt
refusal-answered error never = never (λ same. cc)

-- ---- over any store
read-refused : (at_least : ℕ) (old new : List Follower) (a b c : ℕ) (place polls : ℕ) → GoesBy at_least old place polls new → a ≤ b → (error : SlateError) → FaultsRise b c (let r : Result (Option KeyValue) SlateError = Err error in r) → Answers at_least old new a c (Err (read_refusal error))
read-refused at_least old new a b c place polls goes more errors.NoMemory faults = goes.stay
read-refused at_least old new a b c place polls goes more error faults = (place, polls, goes, stands-of error a b c {A = Option KeyValue} (λ same. cc) more faults)

module _ (at_least : ℕ) (old new : List Follower) (covering : Covering) (goes : GoesBy at_least old covering.place covering.polls new) (reader : Follower) (there : slice_get new covering.place ≡ Some reader) where
  opened : reader.result ≡ None
  opened = first-open at_least new covering.place reader goes.first there

  pub row-answers : (a c : ℕ) (n : ℕ) → n ≡ number reader → (row : Option KeyValue) → Answers at_least old new a c (Ok (record { follower = covering.place; number = n; polls = covering.polls; row = row }))
  row-answers a c n is row = (goes, (reader, there, sym is))

  pub error-answers : (a : ℕ) (between after : Known (List Batch)) (error : SlateError) → a ≤ between.faults → ReadsByAny {A = Option KeyValue} reader.result reader.view.manifest.tables between (Err error) after → Answers at_least old new a after.faults (Err (read_refusal error))
  error-answers a between after error more reads = read-refused at_least old new a between.faults after.faults covering.place covering.polls goes more error (reads.read opened).faults

  -- ---- over an honest one
  module _ (merge : Option Merge) (live : Live) (places : List ℕ) (w : World) (moment : ℤ) (key : List ℕ) (store between after : Known (List Batch)) (over : RoutesOver live store places old w) (l : CoverLeads (routing merge live) moment at_least live places w old new (Ok covering) between) where
    abbrev mid : World
    mid = last_world w ((l.polled).steps)

    abbrev n : ℕ
    n = get_or places covering.place 0

    named : slice_get places covering.place ≡ Some n
    named = slice_get-get_or places covering.place 0 (let less = slice_get_within new covering.place reader there in let same = (((l.polled).over).are_at).count in omega (arith, less, same))

    faults-before : store.faults ≤ between.faults → w.faults ≤ mid.faults
    faults-before more =
        let a = ((over.represents).represents).faults in
        let b = ((((l.polled).over).represents).represents).faults in
        omega (arith, a, b, more)

    module _ (result : Result (Option KeyValue) SlateError) (read : ReadsUnlessClosed reader.result reader.view.manifest.tables (kept_rows between.objects (AFollower reader)) (λ rows answer. answer ≡ read_at merge rows (Some (number reader)) key) between result after) where
      g : GetLeads (routing merge live) (l.polled).next places new mid moment n key reader result after
      g = get-leads merge live (l.polled).next ((l.polled).others).options between after places new mid (l.polled).over covering.place n named reader there opened moment key result read

      abbrev read-at : (r : Result (Option KeyValue) SlateError) → result ≡ r → IsReadAt (routing merge live) moment key places covering.place new mid (reply_to found_reply r) g.world
      read-at r is = record {
        n = n;
        named = named;
        reader = reader;
        there = there;
        link = subst (λ (x : Result (Option KeyValue) SlateError). Link (routing merge live) mid (command_at moment (actions.Get n key false)) (reply_to found_reply x) g.world) is g.link;
      }

      last-stored : (g.world).stored ≡ w.stored
      last-stored = g.stored ∙ (l.polled).stored

      pub row-leads : (row : Option KeyValue) → result ≡ Ok row → (m : ℕ) → m ≡ number reader → ReadLeads (routing merge live) moment key at_least live places w old new (Ok (record { follower = covering.place; number = m; polls = covering.polls; row = row })) after
      row-leads row is m same = record {
        passed = l.passed;
        passes = l.passes;
        between = between;
        polled = l.polled;
        last = g.world;
        over = g.over;
        stored = last-stored;
        ends = (
          read-at (Ok row) is,
          ap (λ k. read_at merge w.stored.batches (Some k) key) same ∙ (ap (λ (line : Line). read_at merge line.batches (Some (number reader)) key) (sym (l.polled).stored) ∙ g.row row is),
          λ some. same ∙ l.ends some reader there,
        );
        completes = λ can. tt;
      }

      -- why a read fails stands against it
      unfound : (fault : ReadFault) → read_at merge w.stored.batches (Some (number reader)) key ≡ Err fault → CanRead (routing merge live) moment key at_least places old new w g.world → ⊥
      unfound fault fails can =
          let found = can.found covering.place reader goes.first there in
          let no : ◌≡◌ {A = Result (Option KeyValue) ReadFault} (Ok found.0) (Err fault) = sym found.1 ∙ fails in
          cc

      risen : result ≡ Err (errors.ObjectStoreError Unavailable) → HasRisen mid.faults (g.world).faults
      risen is =
          let a = ((((l.polled).over).represents).represents).faults in
          let b = (((g.over).represents).represents).faults in
          subst (λ m. HasRisen mid.faults m) b (subst (λ m. HasRisen m after.faults) a ((read.read opened).faults.unavailable is))

      absent : (error : SlateError) → error ≢ errors.NoMemory → result ≡ Err error → store.faults ≤ between.faults → ReadFails merge w.stored mid reader key error → CanRead (routing merge live) moment key at_least places old new w g.world → ⊥
      absent errors.MergeOperatorMissing other is more fails can = unfound reads.MergeOperatorMissing fails can
      absent errors.MergeOperatorError other is more fails can = unfound reads.MergeOperatorError fails can
      absent (errors.ObjectStoreError NotFound) other is more fails can = fails (subst (λ (c : Catalogue). AreStored c reader.view.manifest.tables) g.catalogue (can.tables covering.place reader goes.first there))
      absent (errors.ObjectStoreError Unavailable) other is more fails can = (can.covers).faults (risen-first w.faults mid.faults (g.world).faults (faults-before more) (risen is))
      absent errors.NoMemory other is more fails can = other refl
      absent error other is more fails can = fails

      why : (error : SlateError) → result ≡ Err error → error ≢ errors.NoMemory → ReadFails merge w.stored mid reader key error
      why error is other = elim (g.fails error is) [
        | inl memory ↦ absurd (other memory)
        | inr fails ↦ subst (λ (line : Line). ReadFails merge line mid reader key error) (l.polled).stored fails
      ]

      pub error-leads : (error : SlateError) → result ≡ Err error → store.faults ≤ between.faults → ReadLeads (routing merge live) moment key at_least live places w old new (Err (read_refusal error)) after
      error-leads error is more = record {
        passed = l.passed;
        passes = refusal-passes at_least old new l.passed error l.passes;
        between = between;
        polled = l.polled;
        last = g.world;
        over = g.over;
        stored = last-stored;
        ends = refusal-ends (routing merge live) moment key at_least places w.stored (l.polled).steps new mid covering.place g.world error (read-at (Err error) is) (why error is);
        completes = λ can. refusal-answered error (λ other. absent error other is more (why error is other) can);
      }

-- ---- a read whose polls found no reader
none-ends : (settings : Settings) (moment : ℤ) (key : List ℕ) (at_least : ℕ) (places : List ℕ) (stored : Line) (steps : List Step) (old new : List Follower) (faults faults' : ℕ) (w : World) (refusal : RouteRefusal) → FindsNone at_least old new faults faults' refusal → CoverEnds at_least stored steps new (Err refusal) →
    ReadEnds settings moment key at_least places stored steps new w (Err refusal) w
none-ends settings moment key at_least places stored steps old new faults faults' w (refusals.Poll error) finds ends = (ends, refl)
none-ends settings moment key at_least places stored steps old new faults faults' w (refusals.Behind asked best) finds ends = (ends.0, ends.1, ends.2, refl)
none-ends settings moment key at_least places stored steps old new faults faults' w (refusals.Read error) finds ends = absurd finds
none-ends settings moment key at_least places stored steps old new faults faults' w refusal finds ends = tt

none-answered : (refusal : RouteRefusal) → IsAnswered {A = Covering} (Err refusal) → IsAnswered {A = Routed} (Err refusal)
none-answered refusals.NoMemory answered = tt
none-answered refusal answered = absurd answered

pub none-leads : (merge : Option Merge) (live : Live) (places : List ℕ) (w : World) (moment : ℤ) (key : List ℕ) (at_least : ℕ) (old new : List Follower) (refusal : RouteRefusal) (faults faults' : ℕ) (between : Known (List Batch)) → FindsNone at_least old new faults faults' refusal →
    CoverLeads (routing merge live) moment at_least live places w old new (Err refusal) between → ReadLeads (routing merge live) moment key at_least live places w old new (Err refusal) between
none-leads merge live places w moment key at_least old new refusal faults faults' between finds l = record {
  passed = l.passed;
  passes = none-passes at_least old new l.passed refusal l.passes;
  between = between;
  polled = l.polled;
  last = last_world w (l.polled).steps;
  over = (l.polled).over;
  stored = (l.polled).stored;
  ends = none-ends (routing merge live) moment key at_least places w.stored (l.polled).steps old new faults faults' (last_world w (l.polled).steps) refusal finds l.ends;
  completes = λ can. none-answered refusal (l.completes can.covers);
}

-- the reader at the place that a read goes by
pub reader-there : (at_least : ℕ) (readers : List Follower) (place : ℕ) (reader : Follower) → first_covering at_least readers ≡ Some place → reader ≡ get_or readers place reader → slice_get readers place ≡ Some reader
reader-there at_least readers place reader first is = slice_get-get_or readers place reader (position-Some (covers at_least) readers place reader first).0 ∙ ap Some (sym is)
