-- A world with other begun polls: all else that holds of it holds as before.
use Rattle.std.proofs.Common.{◌≡◌, ◌∙◌, ℕ, true, List, map, Option, Some, ap}
use Rattle.slate_types.specs.declared.batches.Batch.{Batch}
use Rattle.slate_store.specs.Objects.{Objects}
use Rattle.slate_model.specs.Begun.{Begun}
use Rattle.slate_model.specs.Follower.{Follower}
use Rattle.slate_model.specs.Known.{Known}
use Rattle.slate_model.specs.Object.{kept}
use Rattle.slate_model.specs.Segments.{Extractor}
use Rattle.slate_script.specs.declared.options.Options.{Options}
use Rattle.slate_live.specs.declared.states.Write.{Write}
use Rattle.slate_model.specs.Object.{Object}
use Rattle.slate_live.specs.Next.{shown, stored_in}
use Rattle.slate_live.specs.Represents.{AllInSegments, AreInSegments, Holds, IsFollowerAt, IsValid, PollHasSegments, Represents, RepresentsObjects, StandsAt, follows_all}
use Rattle.slate_live.specs.Standing.{PollStands, StandsBeside}
use Rattle.slate_live.specs.State.{IsBegunAt, Live}
use Rattle.slate_live.specs.Reaching.{ReachesTo}
use Rattle.slate_live.proofs.Cases.{if-some}
use Rattle.slate_live.specs.World.{World}

module _ (w : World) (polls : List (Option Begun)) where
  abbrev pub polled : World
  polled = record w { polls = polls }

  pub holds-polled : (o : Objects) → Holds o w → Holds o polled
  holds-polled o h = record { stored = h.stored; catalogue = h.catalogue }

  pub valid-polled : IsValid w → IsValid polled
  valid-polled v = record { line = v.line; followers = v.followers; handles = v.handles; snapshots = v.snapshots; named = v.named; past = v.past; distinct = v.distinct }

  pub represents-polled : (live live' : Live) (store : Known (List Batch)) → live'.objects ≡ live.objects → live'.writes ≡ live.writes → RepresentsObjects live store w → RepresentsObjects live' store polled
  represents-polled live live' store objects writes r = record {
    held = ((r.held).0, (r.held).1, (r.held).2, holds-polled (r.held).0 (r.held).3, (r.held).4);
    faults = r.faults;
    objects = objects ∙ r.objects;
    writes = writes ∙ r.writes;
    valid = valid-polled r.valid;
  }

  pub beside-polled : (o : Objects) (reader : Follower) → StandsBeside o w reader → StandsBeside o polled reader
  beside-polled o reader s = record { valid = s.valid; named = s.named; past = s.past; held = s.held }

  pub poll-polled : (o : Objects) (reader : Follower) (begun : Begun) → PollStands o w reader begun → PollStands o polled reader begun
  poll-polled o reader begun p = record {
    reader_stands = beside-polled o reader p.reader_stands;
    keeps = p.keeps;
    follows = p.follows;
    fits = p.fits;
    viewed = p.viewed;
    within = p.within;
    comes = beside-polled o _ p.comes;
    read = λ last at. let read = p.read last at in (read.0, read.1, read.2, beside-polled o _ read.3);
    staged = p.staged;
    bare = p.bare;
    anew = p.anew;
    numbered = p.numbered;
    risen = p.risen;
    above = p.above;
    tabled = p.tabled;
    lasts = p.lasts;
  }

  pub reach-polled : (o : Objects) (n : ℕ) (reader : Follower) (begun : Begun) → ReachesTo (w.owed n) o w reader begun → ReachesTo (w.owed n) o polled reader begun
  reach-polled o n reader begun r = record { stored = r.stored; tabled = r.tabled; apart = r.apart; anew = r.anew; next = r.next }

  pub at-polled : (o : Objects) (n : ℕ) (begun : Begun) → StandsAt o w n begun → StandsAt o polled n begun
  at-polled o n begun (reader, there, open_, stands) =
      (reader, there, open_, λ free. (poll-polled o reader begun (stands free).0, if-some begun.history.first (λ _. ReachesTo (w.owed n) o w reader begun) (λ _. ReachesTo (w.owed n) o polled reader begun) (λ _ r. reach-polled o n reader begun r) (stands free).1))

  pub segments-polled : (extractor : Option Extractor) → AreInSegments extractor w → AreInSegments extractor polled
  segments-polled extractor s = record { unstored = s.unstored; stored = s.stored }

  -- where the begun polls have segments
  pub all-polled : (extractor : Option Extractor) → AllInSegments extractor w →
      ((n : ℕ) (reader : Follower) (begun : Begun) → IsFollowerAt w.objects n reader → IsBegunAt polls n begun → follows_all reader.mode reader.skips ≡ true → PollHasSegments extractor w.stored reader begun) → AllInSegments extractor polled
  all-polled extractor s have = record { keys = segments-polled extractor s.keys; viewed = s.viewed; polled = have }

-- the live state and the store that represent a world are what it shows
pub shown-is : (options : Options) (live : Live) (store : Known (List Batch)) (w : World) → live.options ≡ options → Represents live store w → live ≡ shown options w
shown-is options live store w opts r =
    ap (λ x. record { options = x; objects = live.objects; polls = live.polls; writes = live.writes }) opts
    ∙ (ap (λ (x : List Object). record { options = options; objects = x; polls = live.polls; writes = live.writes }) (r.represents).objects
    ∙ (ap (λ (x : List (Option Begun)). record { options = options; objects = map kept w.objects; polls = x; writes = live.writes }) r.polls
    ∙ ap (λ (x : List Write). record { options = options; objects = map kept w.objects; polls = w.polls; writes = x }) (r.represents).writes))

pub stored-is : (live : Live) (store : Known (List Batch)) (w : World) (r : RepresentsObjects live store w) → store ≡ stored_in (r.held).0 w
stored-is live store w r =
    ap (λ x. record { objects = x; faults = store.faults }) (r.held).1
    ∙ ap (λ x. record { objects = Some (r.held).0; faults = x }) r.faults
