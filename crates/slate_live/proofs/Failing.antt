-- A world whose store has failed more often is the same to state and store.
use Rattle.std.proofs.Common.{◌≡◌, ℕ, List, Option, Some, None, IfSome, refl, sym, ◌∙◌}
use Rattle.slate_types.specs.declared.batches.Batch.{Batch}
use Rattle.slate_store.specs.declared.objects.VersionedManifest.{VersionedManifest}
use Rattle.slate_store.specs.Objects.{Objects}
use Rattle.slate_model.specs.Begun.{Begun}
use Rattle.slate_model.specs.Follower.{Follower}
use Rattle.slate_model.specs.Known.{Known}
use Rattle.slate_model.specs.declared.polls.FirstRead.{FirstRead}
use Rattle.slate_model.specs.Segments.{Extractor}
use Rattle.slate_live.specs.Reaching.{ReachesTo}
use Rattle.slate_live.specs.Represents.{AllInSegments, Represents, StandsAt}
use Rattle.slate_live.specs.Standing.{PollStands, ReadLast, StandsBeside}
use Rattle.slate_live.specs.State.{Live}
use Rattle.slate_live.specs.World.{World}
use Rattle.slate_live.specs.Worlds.{IsValid}

module _ (w : World) (faults : ℕ) where
  abbrev after : World
  after = record w { faults = faults }

  same-valid : IsValid w → IsValid after
  same-valid v = record { line = v.line; followers = v.followers; handles = v.handles; snapshots = v.snapshots; named = v.named; past = v.past; distinct = v.distinct }

  same-beside : (o : Objects) (reader : Follower) → StandsBeside o w reader → StandsBeside o after reader
  same-beside o reader s = record { valid = s.valid; named = s.named; past = s.past; held = s.held }

  same-read : (o : Objects) (reader : Follower) (begun : Begun) (last : VersionedManifest) → ReadLast o w reader begun last → ReadLast o after reader begun last
  same-read o reader begun last r = (r.0, r.1, r.2, same-beside o _ r.3)

  same-poll : (o : Objects) (reader : Follower) (begun : Begun) → PollStands o w reader begun → PollStands o after reader begun
  same-poll o reader begun p = record {
    reader_stands = same-beside o reader p.reader_stands;
    keeps = p.keeps;
    follows = p.follows;
    fits = p.fits;
    viewed = p.viewed;
    within = p.within;
    comes = same-beside o _ p.comes;
    read = λ last is. same-read o reader begun last (p.read last is);
    staged = p.staged;
    bare = p.bare;
    anew = p.anew;
    numbered = p.numbered;
    risen = p.risen;
    above = p.above;
    tabled = p.tabled;
    lasts = p.lasts;
  }

  same-reaches : (o : Objects) (n : ℕ) (reader : Follower) (begun : Begun) (first : Option FirstRead) → IfSome first (λ _. ReachesTo (w.owed n) o w reader begun) → IfSome first (λ _. ReachesTo (w.owed n) o after reader begun)
  same-reaches o n reader begun (Some first) r = record { stored = r.stored; tabled = r.tabled; apart = r.apart; anew = r.anew; next = r.next }
  same-reaches o n reader begun None r = r

  same-at : (o : Objects) (n : ℕ) (begun : Begun) → StandsAt o w n begun → StandsAt o after n begun
  same-at o n begun s = (s.0, s.1, s.2, λ unpinned. (same-poll o s.0 begun (s.3 unpinned).0, same-reaches o n s.0 begun begun.history.first (s.3 unpinned).1))

  same-segments : (extractor : Option Extractor) → AllInSegments extractor w → AllInSegments extractor after
  same-segments extractor s = record { keys = record { unstored = s.keys.unstored; stored = s.keys.stored }; viewed = s.viewed; polled = s.polled }

pub may-fail : (live : Live) (store store' : Known (List Batch)) (w : World) → Represents live store w → store'.objects ≡ store.objects →
    Represents live store' (record w { faults = store'.faults }) × ((extractor : Option Extractor) → AllInSegments extractor w → AllInSegments extractor (record w { faults = store'.faults }))
may-fail live store store' w r same =
    let held = r.represents.held in (
      record {
        represents = record {
          held = (held.0, same ∙ held.1, held.2, record { stored = held.3.stored; catalogue = held.3.catalogue }, held.4);
          faults = refl;
          objects = r.represents.objects;
          writes = r.represents.writes;
          valid = same-valid w store'.faults r.represents.valid;
        };
        polls = r.polls;
        begun = λ objects n begun is at. same-at w store'.faults objects n begun (r.begun objects n begun (sym same ∙ is) at);
      },
      same-segments w store'.faults,
    )
