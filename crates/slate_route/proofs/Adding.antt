-- An opening of a reader for a router is a step of the world to which its readers belong.
use Rattle.std.proofs.Common.{◌≡◌, ◌∙◌, ◌<◌, ◌++◌, ◌∷◌, inl, inr, ℕ, ℤ, true, false, List, [], get_or, length, Option, Some, None, Result, Ok, Err, refl, sym, subst, ap, arith}
use Rattle.std.specs.Prelude.{IfErr, is_none, slice_get}
use Rattle.std.proofs.lemmas.List.{length-append, length-map}
use Rattle.std.proofs.lemmas.Option.{slice_get_within, slice_get-get_or}
use Rattle.slate_types.specs.declared.batches.Batch.{Batch}
use Rattle.slate_types.specs.Line.{end}
use Rattle.slate_types.specs.Operator.{Merge}
use Rattle.slate_store.specs.Content.{content}
use Rattle.slate_store.specs.declared.reader_modes.DbReaderMode.TheVariants.{ManagedCheckpoint}
use Rattle.slate_errors.specs.declared.errors.SlateError.{SlateError}
use Rattle.slate_errors.specs.declared.errors.SlateError.TheVariants as errors
use Rattle.slate_model.specs.declared.answers.PollAnswer.{PollAnswer}
use Rattle.slate_model.specs.declared.answers.PollAnswer.TheVariants as answers
use Rattle.slate_model.specs.Begun.{Begun}
use Rattle.slate_model.specs.Follow.{AnswersAt}
use Rattle.slate_model.specs.Follower.{Follower, is_managed, number}
use Rattle.slate_model.specs.Known.{FaultsRise, IsContent, Known, Untouched}
use Rattle.slate_model.specs.Lease.{lease_refusal}
use Rattle.slate_model.specs.Managed.{OpensManaged, TakesLease}
use Rattle.slate_model.specs.Object.{Object, Follower as AFollower, kept}
use Rattle.slate_model.specs.Stores.{by_objects}
use Rattle.slate_follow.specs.Answering.{IsOfOpening}
use Rattle.slate_script.specs.declared.commands.Command.{Command}
use Rattle.slate_script.specs.declared.replies.Reply.{Reply}
use Rattle.slate_script.specs.declared.replies.Reply.TheVariants as replies
use Rattle.slate_live.specs.Replies.{followed_reply, refusal}
use Rattle.slate_live.specs.Settings.{Settings}
use Rattle.slate_live.specs.State.{IsBegunAt, Live}
use Rattle.slate_live.specs.Valid.{Link}
use Rattle.slate_live.specs.World.{World}
use Rattle.slate_live.proofs.Begun.{are-kept, same-polls}
use Rattle.slate_live.proofs.Cases.{by-option, some-of}
use Rattle.slate_live.proofs.Doing.{opens-follower, refuses-follower}
use Rattle.slate_live.proofs.Linking.{linked}
use Rattle.slate_live.proofs.Places.{get-before, get-push, get-seam}
use Rattle.slate_live.proofs.Wholes.{next-whole}
use Rattle.slate_route.specs.declared.answers.Added.{Added}
use Rattle.slate_route.specs.declared.answers.RouteRefusal.{RouteRefusal}
use Rattle.slate_route.specs.declared.answers.RouteRefusal.TheVariants as refusals
use Rattle.slate_route.specs.Reading.{AddsReader, is_open, most_readers, opening_refusal}
use Rattle.slate_route.specs.Standing.{AddEnds, AddLeads, AreAt, Grows, IsRouted, RoutesOver, opens_at, routing}
use Rattle.slate_route.specs.Turns.{OpensReader, reader_of}
use Rattle.slate_route.proofs.Turning.{stands-of}

-- ---- one reader more
module _ (objects : List Object) (places : List ℕ) (readers : List Follower) (a : AreAt objects places readers) (reader : Follower) (managed : IsRouted reader) where
  abbrev n : ℕ
  n = length objects

  -- the places are those of objects
  place-within : (i m : ℕ) → slice_get places i ≡ Some m → m < n
  place-within i m at =
      let less : i < length readers = (let below = slice_get_within places i m at in let same = a.count in omega (arith, below, same)) in
      let f = get_or readers i reader in
      slice_get_within objects m (AFollower f) (a.there i m f at (slice_get-get_or readers i reader less))

  pub are-pushed : AreAt (objects ++ AFollower reader ∷ []) (places ++ n ∷ []) (readers ++ reader ∷ [])
  are-pushed = record {
    count = (let one = length-append places (n ∷ []) in let two = length-append readers (reader ∷ []) in let same = a.count in omega (arith, one, two, same));
    there = λ i m f at is. elim (get-push places n m i at) [
      | inl old ↦ elim (get-push readers reader f i is) [
        | inl was ↦ get-before objects (AFollower reader ∷ []) m (AFollower f) (a.there i m f old was)
        | inr last ↦ absurd (let below = slice_get_within places i m old in let same = a.count in let e = last.0 in omega (arith, below, same, e))
      ]
      | inr new ↦ elim (get-push readers reader f i is) [
        | inl was ↦ absurd (let below = slice_get_within readers i f was in let same = a.count in let e = new.0 in omega (arith, below, same, e))
        | inr last ↦
            subst (λ k. slice_get (objects ++ AFollower reader ∷ []) k ≡ Some (AFollower f)) new.1
            (get-seam objects (AFollower reader) ∙ ap (λ (g : Follower). Some (AFollower g)) last.1)
      ]
    ];
    distinct = λ i j m at_i at_j. elim (get-push places n m i at_i) [
      | inl old ↦ elim (get-push places n m j at_j) [
        | inl other ↦ a.distinct i j m old other
        | inr last ↦ absurd (let below = place-within i m old in let e = last.1 in omega (arith, below, e))
      ]
      | inr new ↦ elim (get-push places n m j at_j) [
        | inl other ↦ absurd (let below = place-within j m other in let e = new.1 in omega (arith, below, e))
        | inr last ↦ new.0 ∙ sym last.0
      ]
    ];
    managed = λ i f is. elim (get-push readers reader f i is) [
      | inl was ↦ a.managed i f was
      | inr last ↦ subst IsRouted last.1 managed
    ];
  }

-- ---- an opening that answered a reader
module _ {made lifetime interval : ℕ} {moment : ℤ} {store store' : Known (List Batch)} (b : Follower × PollAnswer) (opens : OpensManaged (by_objects store.objects) None made lifetime interval false 0 moment store (Ok b) store') where
  passes : lease_refusal lifetime interval ≡ None
  passes = by-option (lease_refusal lifetime interval) (λ none. none)
      (λ error is. absurd (let refused = (some-of (λ e. (◌≡◌ {A = Result (Follower × PollAnswer) SlateError} (Ok b) (Err e)) × Untouched made store store') (lease_refusal lifetime interval) error is opens.refused).0 in cc))

  takes : TakesLease (by_objects store.objects) None made lifetime false 0 moment store (Ok b) store'
  takes = opens.takes passes

  pub opened-managed : IsRouted b.0
  opened-managed = (ap is_managed (takes.answers).0, (takes.answers).1, (takes.answers).2)

  pub opened-open : (b.0).result ≡ None
  opened-open = (takes.answers).3

  -- over an honest store it sees all that is stored
  pub opened-end : (live : Live) (places : List ℕ) (readers : List Follower) (w : World) → RoutesOver live store places readers w → (number b.0 ≡ end w.stored) × (b.1 ≡ answers.Whole (number b.0))
  opened-end live places readers w over =
      let r = (over.represents).represents in
      let o = (r.held).0 in
      let t = takes.takes.some o (r.held).1 in
      let stored : IsContent store.objects (content o) = (o, (r.held).1, (r.held).2, refl) in
      let all = ((t.2).sees).sees (content o) stored tt in
      let numbers = answered (takes.answers).4 all.3 in
      (numbers ∙ (ap end all.1 ∙ ap end ((r.held).3).stored), all.3 ∙ ap answers.Whole (sym numbers))
    where
      answered : {m : ℕ} → AnswersAt (number b.0) b.1 → b.1 ≡ answers.Whole m → number b.0 ≡ m
      answered (inl is) all = cc
      answered (inr is) all = absurd (cc)

-- what an opening's step leaves
pub record OpenLeads (settings : Settings) (live : Live) (w : World) (command : Command) (reply : Reply) (next : Live) (places : List ℕ) (readers : List Follower) (store' : Known (List Batch)) : Type 0 where
  pub world : World
  pub link : Link settings w command reply world
  pub over : RoutesOver next store' places readers world
  pub stored : world.stored ≡ w.stored

module _ (merge : Option Merge) (live : Live) (store store' : Known (List Batch)) (places : List ℕ) (readers : List Follower) (w : World) (over : RoutesOver live store places readers w) (made : ℕ) (lifetime interval : ℕ) (moment : ℤ) where
  abbrev settings : Settings
  settings = routing merge live

  abbrev command : Command
  command = opens_at moment lifetime interval

  -- no poll is begun of the next object
  next-unbegun : (begun : Begun) → IsBegunAt live.polls (length live.objects) begun → ⊥
  next-unbegun begun at =
      let r = over.represents in
      let o = ((r.represents).held).0 in
      let stands = r.begun o (length live.objects) begun ((r.represents).held).1 (subst (λ ps. IsBegunAt ps (length live.objects) begun) r.polls at) in
      let below = slice_get_within w.objects (length live.objects) (AFollower stands.0) stands.1 in
      let same : length live.objects ≡ length w.objects = ap (λ os. length os) (r.represents).objects ∙ length-map w.objects kept in
      absurd (omega (arith, below, same))

  pub add-leads : (b : Follower × PollAnswer) → OpensManaged (by_objects store.objects) None made lifetime interval false 0 moment store (Ok b) store' →
      OpenLeads settings live w command (replies.Follower (length live.objects) true (number b.0)) (record live { objects = live.objects ++ AFollower b.0 ∷ [] }) (places ++ length live.objects ∷ []) (readers ++ b.0 ∷ []) store'
  add-leads b opens =
      let n = length live.objects in
      let next : Live = record live { objects = live.objects ++ AFollower b.0 ∷ [] } in
      let ended = opened-end b opens live places readers w over in
      let reply : Reply = replies.Follower n true (number b.0) in
      let replied : reply ≡ followed_reply n b.1 = sym (ap (followed_reply n) ended.1) in
      let does = opens-follower (by_objects store.objects) settings ManagedCheckpoint (Some (lifetime, interval)) false 0 moment b live.objects next.objects live.writes store store' reply replied refl lifetime interval refl refl moment refl (λ no. absurd (cc)) (λ is. (made, opens)) in
      let led = linked settings command live next store store' reply refl (does, are-kept command.action live.polls live.polls (λ m. refl) (same-polls live.polls live.polls refl)) (λ m f begins. absurd (let no = begins in cc)) w over.represents over.segments in
      record {
        world = led.0;
        link = led.1;
        over = record {
          represents = led.2;
          segments = led.3;
          are_at = are-pushed live.objects places readers over.are_at b.0 (opened-managed b opens);
          unbegun = λ i m begun at is. elim (get-push places n m i at) [
            | inl old ↦ over.unbegun i m begun old is
            | inr new ↦ next-unbegun begun (subst (λ k. IsBegunAt live.polls k begun) (sym new.1) is)
          ];
        };
        stored = (next-whole settings w command reply led.0 refl (led.1).next).stored;
      }

  pub refuse-leads : (error : SlateError) → OpensManaged (by_objects store.objects) None made lifetime interval false 0 moment store (Err error) store' →
      OpenLeads settings live w command (refusal error) live places readers store'
  refuse-leads error opens =
      let does = refuses-follower (by_objects store.objects) settings ManagedCheckpoint (Some (lifetime, interval)) false 0 moment error live.objects live.writes store store' (refusal error) refl lifetime interval refl refl moment refl (λ no. absurd (cc)) (λ is. (made, opens)) in
      let led = linked settings command live live store store' (refusal error) refl (does, are-kept command.action live.polls live.polls (λ m. refl) (same-polls live.polls live.polls refl)) (λ m f begins. absurd (let no = begins in cc)) w over.represents over.segments in
      record {
        world = led.0;
        link = led.1;
        over = record { represents = led.2; segments = led.3; are_at = over.are_at; unbegun = over.unbegun };
        stored = (next-whole settings w command (refusal error) led.0 refl (led.1).next).stored;
      }

-- ---- what an opening leads to, by what it gives the router
ends-of : (settings : Settings) (command : Command) (n : ℕ) (w w' : World) (error : SlateError) → Link settings w command (refusal error) w' → AddEnds settings command n w (Err (opening_refusal error)) w'
ends-of settings command n w w' errors.NoMemory link = inr link
ends-of settings command n w w' error link = link

grows-same : (live : Live) → Grows live live
grows-same live = record { options = refl; writes = refl; polls = refl; objects = λ n object at. at }

module _ (merge : Option Merge) (live : Live) (store store' : Known (List Batch)) (places : List ℕ) (readers : List Follower) (w : World) (over : RoutesOver live store places readers w) (lifetime interval : ℕ) (moment : ℤ) where
  abbrev Left : List Follower → Result Added RouteRefusal → Known (List Batch) → Type 0
  Left new result after = AddLeads (routing merge live) moment lifetime interval live places w new result after

  added-by : (b : Follower × PollAnswer) (made : ℕ) → OpensManaged (by_objects store.objects) None made lifetime interval false 0 moment store (Ok b) store' → (added : Added) → added.at ≡ number b.0 → Left (readers ++ b.0 ∷ []) (Ok added) store'
  added-by b made opens added at =
      let l = add-leads merge live store store' places readers w over made lifetime interval moment b opens in
      let sees = (opened-end b opens live places readers w over).0 in
      record {
        next = record live { objects = live.objects ++ AFollower b.0 ∷ [] };
        grows = record { options = refl; writes = refl; polls = refl; objects = λ n object there. get-before live.objects (AFollower b.0 ∷ []) n object there };
        last = l.world;
        over = l.over;
        stored = l.stored;
        ends = (subst (λ k. Link (routing merge live) w (opens_at moment lifetime interval) (replies.Follower (length live.objects) true k) l.world) (sym at) l.link, at ∙ sees);
      }

  refused-by : (error : SlateError) (made : ℕ) → OpensManaged (by_objects store.objects) None made lifetime interval false 0 moment store (Err error) store' → Left readers (Err (opening_refusal error)) store'
  refused-by error made opens =
      let l = refuse-leads merge live store store' places readers w over made lifetime interval moment error opens in
      record {
        next = live;
        grows = grows-same live;
        last = l.world;
        over = l.over;
        stored = l.stored;
        ends = ends-of (routing merge live) (opens_at moment lifetime interval) (length live.objects) w l.world error l.link;
      }

  pub opening-adds : (reader : Follower) → OpensReader moment lifetime interval store (Ok reader) store' → (added : Added) → added.at ≡ number reader → Left (readers ++ reader ∷ []) (Ok added) store'
  opening-adds reader o added at = by o.opened o.result_is (o.opens).0 (o.opens).1 where
    by : (opened : Result (Follower × PollAnswer) SlateError) → Ok reader ≡ reader_of opened → (made : ℕ) → OpensManaged (by_objects store.objects) None made lifetime interval false 0 moment store opened store' → Left (readers ++ reader ∷ []) (Ok added) store'
    by (Ok b) is made opens =
        let it : b.0 ≡ reader = cc in
        subst (λ (f : Follower). Left (readers ++ f ∷ []) (Ok added) store') it (added-by b made opens added (at ∙ ap number (sym it)))
    by (Err error) is made opens = absurd (cc)

  pub opening-refused : (refused : RouteRefusal) → OpensReader moment lifetime interval store (Err refused) store' → Left readers (Err refused) store'
  opening-refused refused o = by o.opened o.result_is (o.opens).0 (o.opens).1 where
    by : (opened : Result (Follower × PollAnswer) SlateError) → Err refused ≡ reader_of opened → (made : ℕ) → OpensManaged (by_objects store.objects) None made lifetime interval false 0 moment store opened store' → Left readers (Err refused) store'
    by (Ok b) is made opens = absurd (cc)
    by (Err error) is made opens =
        let it : opening_refusal error ≡ refused = cc in
        subst (λ (r : RouteRefusal). Left readers (Err r) store') it (refused-by error made opens)

  -- nothing was done
  pub full-leads : Left readers (Err refusals.Full) store
  full-leads = record { next = live; grows = grows-same live; last = w; over = over; stored = refl; ends = refl }

  pub no-room-leads : Left readers (Err refusals.NoMemory) store
  no-room-leads = record { next = live; grows = grows-same live; last = w; over = over; stored = refl; ends = inl refl }

-- over any store the reader is open, and the store hasn't failed
pub opening-ready : {moment : ℤ} {lifetime interval : ℕ} {before after : Known (List Batch)} (reader : Follower) → OpensReader moment lifetime interval before (Ok reader) after → (is_open reader ≡ true) × (after.faults ≡ before.faults)
opening-ready {moment} {lifetime} {interval} {before} {after} reader o = by o.opened o.result_is o.faults (o.opens).0 (o.opens).1 where
  by : (opened : Result (Follower × PollAnswer) SlateError) → Ok reader ≡ reader_of opened → FaultsRise before.faults after.faults opened → (made : ℕ) → OpensManaged (by_objects before.objects) None made lifetime interval false 0 moment before opened after → (is_open reader ≡ true) × (after.faults ≡ before.faults)
  by (Ok b) is faults made opens =
      let it : b.0 ≡ reader = cc in
      (ap (λ (f : Follower). is_none f.result) (sym it) ∙ ap is_none (opened-open b opens), faults.stays)
  by (Err error) is faults made opens = absurd (cc)

-- and an error refuses it, and no more
pub opening-refuses : {moment : ℤ} {lifetime interval : ℕ} {before after : Known (List Batch)} (old : List Follower) → length old < most_readers → (refused : RouteRefusal) → OpensReader moment lifetime interval before (Err refused) after → AddsReader old old before.faults after.faults (Err refused)
opening-refuses {moment} {lifetime} {interval} {before} {after} old few refused o = by o.opened o.result_is o.faults o.kind where
  one : (error : SlateError) → IsOfOpening ManagedCheckpoint error → FaultsRise before.faults after.faults (let r : Result (Follower × PollAnswer) SlateError = Err error in r) → AddsReader old old before.faults after.faults (Err (opening_refusal error))
  one errors.NoMemory kind faults = (few, refl)
  one error kind faults = (few, refl, kind, stands-of error before.faults before.faults after.faults {A = Follower × PollAnswer} (λ same. cc) (omega arith) faults)

  by : (opened : Result (Follower × PollAnswer) SlateError) → Err refused ≡ reader_of opened → FaultsRise before.faults after.faults opened → IfErr opened (IsOfOpening ManagedCheckpoint) → AddsReader old old before.faults after.faults (Err refused)
  by (Ok b) is faults kind = absurd (cc)
  by (Err error) is faults kind =
      let it : opening_refusal error ≡ refused = cc in
      subst (λ (r : RouteRefusal). AddsReader old old before.faults after.faults (Err r)) it (one error kind faults)

pub leads-with : {settings : Settings} {lifetime interval : ℕ} {live : Live} {places : List ℕ} {w : World} {new new' : List Follower} {result : Result Added RouteRefusal} {store : Known (List Batch)} (at moment : ℤ) → at ≡ moment → new ≡ new' →
    AddLeads settings at lifetime interval live places w new result store → AddLeads settings moment lifetime interval live places w new' result store
leads-with {settings} {lifetime} {interval} {live} {places} {w} {new} {new'} {result} {store} at moment same items l =
    subst (λ m. AddLeads settings m lifetime interval live places w new' result store) same (subst (λ xs. AddLeads settings at lifetime interval live places w xs result store) items l)
