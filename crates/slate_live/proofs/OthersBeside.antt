-- What others do leaves a reader beside a world standing, and a begun poll of it.
use Rattle.std.proofs.Common.{◌≡◌, ◌∙◌, ◌⊎◌, ℕ, ◌-◌, ◌≤◌, inl, inr, List, [], Option, Some, sym, ap, subst, arith}
use Rattle.std.specs.Option.{IfSome}
use Rattle.slate_types.specs.Line.{IsPrefix, Line, end}
use Rattle.slate_types.specs.declared.batches.Batch.{Batch}
use Rattle.slate_store.specs.Content.{IsSound}
use Rattle.slate_store.specs.Objects.{Objects, entry_at, last_log, latest_manifest}
use Rattle.slate_store.specs.declared.objects.VersionedManifest.{VersionedManifest}
use Rattle.slate_store.specs.declared.reader_modes.DbReaderMode.TheVariants as modes
use Rattle.slate_replay.specs.declared.replays.Replayed.TheVariants as replays
use Rattle.slate_errors.specs.declared.errors.SlateError.TheVariants as errors
use Rattle.slate_model.specs.Begun.{Begun, reached_number, view_of}
use Rattle.slate_model.specs.Catalogue.{Catalogue}
use Rattle.slate_model.specs.declared.answers.PollAnswer.TheVariants as answers
use Rattle.slate_model.specs.declared.leases.Lease.{Lease}
use Rattle.slate_model.specs.Follower.{Follower, kept_follower, number}
use Rattle.slate_model.specs.Known.{Known}
use Rattle.slate_model.specs.Stood.{WasLatest}
use Rattle.slate_model.proofs.Fronts.{front-grown}
use Rattle.slate_model.proofs.Owing.{tabled}
use Rattle.slate_model.proofs.Prefixes.{prefix-end}
use Rattle.slate_model.proofs.Logging.{LogsAre, LogsFollow, LogsGo, OfLine, PastLine}
use Rattle.slate_model.proofs.Stale.{latest-entry}
use Rattle.slate_model.proofs.Reduced.{some-same}
use Rattle.slate_follow.proofs.Following.{others-keep}
use Rattle.slate_follow.specs.Lasting.{OthersAct}
use Rattle.slate_follow.proofs.Lasting.{follows-acts, others-last}
use Rattle.slate_script.specs.declared.commands.Command.{Command}
use Rattle.slate_script.specs.declared.replies.Reply.{Reply}
use Rattle.slate_live.specs.Settings.{Settings}
use Rattle.slate_live.specs.Beside.{OthersLeaveThem, PollsBegin, ReadersStand, StepsStand}
use Rattle.slate_live.specs.Reaching.{ReachesTo}
use Rattle.slate_live.specs.Standing.{PollStands, StandsBeside, placed}
use Rattle.slate_live.proofs.Reaching.{anew-then, late-news, reaches-then}
use Rattle.slate_live.specs.Represents.{Holds, IsReached, RepresentsObjects}
use Rattle.slate_live.specs.State.{Live}
use Rattle.slate_live.specs.World.{NextWhole, World}
use Rattle.slate_live.proofs.Cases.{if-some}
use Rattle.slate_live.proofs.Chains.{reached}
use Rattle.slate_live.proofs.Leases.{entry-after, latest-after, nothing-spared}
use Rattle.slate_live.proofs.Begun.{are-left, left_polls}
use Rattle.slate_live.proofs.Growing.{grows}
use Rattle.slate_live.proofs.Representing.{BesideThen, leads-beside}
use Rattle.slate_live.proofs.Beside.{all-held, poll-begins, reader-stands, step-stands}

-- ---- what others do
module _ (settings : Settings) (w w' : World) (command : Command) (reply : Reply) (reached : IsReached w) (reached' : IsReached w') (next : NextWhole settings w command reply w') (o o' : Objects) (sound_before : IsSound o) (holds : Holds o w) (holds' : Holds o' w') (sound' : IsSound o') where
  -- a manifest that was the latest one still was
  was-then : (last : VersionedManifest) → WasLatest o last → WasLatest o' last
  was-then last (latest, is, low, same) =
      let at = sym (ap latest_manifest holds.catalogue) ∙ is in
      let c = latest-after settings w w' command reply reached reached' next (λ manifest. Unit {0}) latest at (nothing-spared w latest command) in
      let is' : latest_manifest o' ≡ Some c.latest = ap latest_manifest holds'.catalogue ∙ c.is in
      let up = c.up in (
        c.latest,
        is',
        omega (arith, low, up),
        λ ids. same (omega (arith, low, up, ids)) ∙ latest-same latest c.latest at (omega (arith, low, up, ids)) is',
      )
    where
      latest-same : (latest latest' : VersionedManifest) → latest_manifest w.catalogue ≡ Some latest → latest.id ≡ latest'.id → latest_manifest o' ≡ Some latest' → latest ≡ latest'
      latest-same latest latest' at ids is' =
          let there : entry_at latest'.id o'.manifests ≡ Some latest'.manifest = latest-entry o' latest' sound' is' in
          let here : entry_at latest.id w'.catalogue.manifests ≡ Some latest'.manifest = ap (λ (x : Catalogue). entry_at latest.id x.manifests) (sym holds'.catalogue) ∙ (ap (λ n. entry_at n o'.manifests) ids ∙ there) in
          let o_latest : latest_manifest o ≡ Some latest = ap latest_manifest holds.catalogue ∙ at in
          let before : entry_at latest.id w.catalogue.manifests ≡ Some latest.manifest = ap (λ (x : Catalogue). entry_at latest.id x.manifests) (sym holds.catalogue) ∙ latest-entry o latest sound_before o_latest in
          elim (entry-after settings w w' command reply reached reached' next (λ manifest. Unit {0}) latest at (nothing-spared w latest command) latest.id (omega arith)) [
            | inl gone ↦ absurd (cc (gone, here))
            | inr kept ↦
                let manifests : latest.manifest ≡ latest'.manifest = (cc (kept, here, before)) in
                ap (λ m. record { id = latest.id; manifest = m }) manifests ∙ ap (λ n. record { id = n; manifest = latest'.manifest }) ids
          ]

  module _ (begun_beside : (f : Follower) → StandsBeside o w f → StandsBeside o' w' f) (logs : LogsAre (OfLine w'.stored) o o') (act : OthersAct o o') (reader : Follower) (begun : Begun) (p : PollStands o w reader begun) where
    line-grows : IsPrefix w.stored w'.stored
    line-grows = grows settings w command reply w' next

    floor-same : {n : ℕ} → w.stored.floor ≤ n → w'.stored.floor ≤ n
    floor-same {n} low = subst (λ (l : Line). l.floor ≤ n) (sym line-grows.1) low

    end-grows : end w.stored ≤ end w'.stored
    end-grows = prefix-end w.stored w'.stored line-grows

    placed-then : (view : VersionedManifest) (n mark : ℕ) (lease : Option Lease) → n ≤ end w.stored → StandsBeside o w (placed w.stored reader view n mark lease) → StandsBeside o' w' (placed w'.stored reader view n mark lease)
    placed-then view n mark lease within s =
        let then_stands = begun_beside (placed w.stored reader view n mark lease) s in
        subst (λ (l : Line). StandsBeside o' w' (record reader { view = view; line = l; segments = []; mark = mark; lease = lease })) (sym (front-grown n w.stored w'.stored line-grows within)) then_stands

    pub poll-then : PollStands o' w' reader begun
    poll-then = record {
      reader_stands = begun_beside reader p.reader_stands;
      keeps = p.keeps;
      follows = others-keep o o' w.stored w'.stored (kept_follower reader) begun line-grows logs p.follows;
      fits = p.fits;
      viewed = floor-same p.viewed;
      within = (let low = p.within in let up = end-grows in omega (arith, low, up));
      comes = placed-then (view_of reader begun) (reached_number begun) begun.mark begun.lease p.within p.comes;
      read = λ last at.
          let read = p.read last at in
          let high = read.2 in
          let up = end-grows in
          (was-then last read.0, floor-same read.1, omega (arith, high, up), placed-then last last.manifest.last_l0_seq last.manifest.replay_after_wal_id begun.lease read.2 read.3);
      staged = p.staged;
      bare = p.bare;
      anew = p.anew;
      numbered = p.numbered;
      risen = p.risen;
      above = p.above;
      tabled = p.tabled;
      lasts = others-last o o' (kept_follower reader) begun act p.lasts;
    }

-- a poll of a reader that reaches a number still does after what others did
pub reaches-on : (target : ℕ) (w w' : World) (o o' : Objects) (l next : VersionedManifest) → latest_manifest o ≡ Some l → latest_manifest o' ≡ Some next → Holds o w → Holds o' w' → IsPrefix w.stored w'.stored → l.manifest.last_l0_seq ≤ next.manifest.last_l0_seq → (next.manifest.last_l0_seq ≡ l.manifest.last_l0_seq) ⊎ (end w.stored ≤ next.manifest.last_l0_seq) →
    LogsFollow o o' l.manifest.replay_after_wal_id next.manifest.replay_after_wal_id → LogsGo (last_log l.manifest.replay_after_wal_id o) o o' → LogsAre (PastLine w.stored) o o' → (reader : Follower) (begun : Begun) → ReachesTo target o w reader begun → ReachesTo target o' w' reader begun
reaches-on target w w' o o' l next is is' holds holds' grows tabled leaps follows goes news reader begun r = record {
  stored = (let low = r.stored in let up = prefix-end w.stored w'.stored grows in omega (arith, low, up));
  tabled = λ skips found at.
      let low = r.tabled skips l (sym (ap latest_manifest holds.catalogue) ∙ is) in
      let same = ap (λ (v : VersionedManifest). v.manifest.last_l0_seq) (some-same next found (sym is' ∙ (ap latest_manifest holds'.catalogue ∙ at))) in
      omega (arith, low, tabled, same);
  apart = λ reads found at.
      let same = ap (λ (v : VersionedManifest). v.manifest.last_l0_seq) (some-same next found (sym is' ∙ (ap latest_manifest holds'.catalogue ∙ at))) in
      elim leaps [
        | inl kept ↦ elim (r.apart reads l (sym (ap latest_manifest holds.catalogue) ∙ is)) [
          | inl low ↦ inl (omega (arith, low, kept, same))
          | inr far ↦ inr (omega (arith, far, kept, same))
        ]
        | inr past ↦ inl (let high = r.stored in omega (arith, high, past, same))
      ];
  anew = λ m at. anew-then target o o' l next is is' follows goes (late-news target w.stored o o' r.stored news) reader.skips m (r.anew m at);
  next = reaches-then target o o' l next is is' follows goes (late-news target w.stored o o' r.stored news) reader.lag begun begun.stage r.next;
}

pub reaches-beside : (settings : Settings) (live live' : Live) (store store' : Known (List Batch)) (w w' : World) (command : Command) (reply : Reply) → RepresentsObjects live store w → (next : NextWhole settings w command reply w') → RepresentsObjects live' store' w' → BesideThen store w store' w' →
    (o o' : Objects) → store.objects ≡ Some o → store'.objects ≡ Some o' → (n : ℕ) (reader : Follower) (begun : Begun) → PollStands o w reader begun → IfSome begun.history.first (λ _. ReachesTo (w.owed n) o w reader begun) → IfSome begun.history.first (λ _. ReachesTo (w'.owed n) o' w' reader begun)
reaches-beside settings live live' store store' w w' command reply r next r' beside o o' at at' n reader begun p reaches =
    let h = all-held live store w o r at in
    let h' = all-held live' store' w' o' r' at' in
    let l = p.lasts.latest in
    let go = (beside o o' reader at at').2 l.0 l.1 in
    let f = go.1 in
    if-some begun.history.first (λ _. ReachesTo (w.owed n) o w reader begun) (λ _. ReachesTo (w'.owed n) o' w' reader begun)
    (λ _ r. subst (λ (owed : ℕ → ℕ). ReachesTo (owed n) o' w' reader begun) (sym next.owed) (reaches-on (w.owed n) w w' o o' l.0 go.0 l.1 f.latest_is h.1 h'.1 f.grows f.tabled f.leaps f.logs f.goes f.news reader begun r)) reaches

-- what others do leaves a begun poll standing
pub polls-beside : (settings : Settings) (live live' : Live) (store store' : Known (List Batch)) (w w' : World) (command : Command) (reply : Reply) → RepresentsObjects live store w → NextWhole settings w command reply w' → RepresentsObjects live' store' w' → BesideThen store w store' w' →
    (o o' : Objects) → store.objects ≡ Some o → store'.objects ≡ Some o' → (reader : Follower) (begun : Begun) → PollStands o w reader begun → PollStands o' w' reader begun
polls-beside settings live live' store store' w w' command reply r next r' beside o o' at at' reader begun p =
    let h = all-held live store w o r at in
    let h' = all-held live' store' w' o' r' at' in
    poll-then settings w w' command reply (reached live store w r) (reached live' store' w' r') next o o' h.0 h.1 h'.1 h'.0 (λ f. (beside o o' f at at').0) (beside o o' reader at at').1
    (follows-acts o o' (beside o o' reader at at').2 (was-then settings w w' command reply (reached live store w r) (reached live' store' w' r') next o o' h.0 h.1 h'.1 h'.0)) reader begun p

pub others_leave_them : OthersLeaveThem
others_leave_them settings live live' store store' w command made reply r d =
    let l = leads-beside settings live live' store store' w command made reply (left_polls command.action w.polls) (are-left command.action w.polls) r d in (
      l.0,
      l.1,
      l.2,
      λ o o' at at'. (
        λ f s. (l.3 o o' f at at').0 s,
        λ reader begun p. polls-beside settings live live' store store' w l.0 command reply r l.1 l.2 l.3 o o' at at' reader begun p,
      ),
    )

pub readers_stand : ReadersStand
readers_stand live store w o n reader r at there = reader-stands live store w o r at n reader there

pub polls_begin : PollsBegin
polls_begin live store w o reader moment r at s unpinned leased keeps = poll-begins live store w o r at reader moment s unpinned leased keeps

pub steps_stand : StepsStand
steps_stand live store store' w o o' reader reader' begun begun' result r at at' open_ unpinned p steps =
    let h = all-held live store w o r at in
    step-stands live store store' w o o' h.0 h.1 r.valid h.2 r at' reader open_ unpinned begun p reader' begun' result steps
