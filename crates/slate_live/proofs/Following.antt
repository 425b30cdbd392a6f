-- What an opening and a poll of a follower leave of it: over sound objects it sees what it is owed, or what it saw and the tables, where
-- it may lag.
use Rattle.std.proofs.Common.{◌≡◌, ℕ, ◌+◌, ◌-◌, ◌≤◌, max, inl, inr, ◌⊎◌, Bool, true, false, List, Option, Some, refl, sym, subst, ap, ◌∙◌, arith}
use Rattle.std.proofs.lemmas.List.{length-take}
use Rattle.slate_types.specs.Line.{IsLine, IsPrefix, Line, end}
use Rattle.slate_store.specs.Content.{IsSound, content}
use Rattle.slate_store.specs.Objects.{Objects, ObjectsOf, latest_manifest}
use Rattle.slate_store.specs.declared.objects.VersionedManifest.{VersionedManifest}
use Rattle.slate_store.specs.declared.reader_modes.DbReaderMode.{DbReaderMode}
use Rattle.slate_store.specs.declared.reader_modes.DbReaderMode.TheVariants as modes
use Rattle.slate_model.specs.Catalogue.{Catalogue, Span, catalogue_of}
use Rattle.slate_model.specs.declared.answers.PollAnswer.{PollAnswer}
use Rattle.slate_model.specs.declared.answers.PollAnswer.TheVariants.{Whole}
use Rattle.slate_model.specs.Follow.{IsOwed, SeesOwed, SeesPolled, StaysBehind}
use Rattle.slate_model.specs.Followed.{IsView, last_read}
use Rattle.slate_model.specs.Follower.{Follower, follower_tasks, is_managed, is_pinned, kept_follower, number, rebuilt, unsegmented}
use Rattle.slate_model.specs.Handle.{up_to}
use Rattle.slate_model.specs.Object.{Follower as AFollower}
use Rattle.slate_model.specs.Seen.{HasSeen}
use Rattle.slate_model.specs.Stores.{by_catalogue, by_objects}
use Rattle.slate_model.specs.Tables.{AreStored}
use Rattle.slate_model.specs.Valid.{IsHeld, ReadsLine}
use Rattle.slate_model.proofs.Fronts.{front-begins, front-end as up_to-number, reads-front, seen-both, whole-front}
use Rattle.slate_model.proofs.Keeping.{line_above-end}
use Rattle.slate_model.proofs.Logging.{none-seen}
use Rattle.slate_model.proofs.Moving.{Follows}
use Rattle.slate_model.proofs.Owing.{are-stored, ends, latest-view, owed-is, owed-reads, owed-seen, owed_line, tabled as tables-within, view-tables}
use Rattle.slate_model.proofs.Reduced.{its, its-line, owed-begins}
use Rattle.slate_live.specs.Represents.{IsTabled, IsValidFollower, IsViewed, follows_all}
use Rattle.slate_live.proofs.Prefixes.{prefix-end, prefix-then}

-- what such a one is owed is all that is stored, or what is in tables
owed-by : (c : Catalogue) (o : ObjectsOf Span) (mode : DbReaderMode) (skips : Bool) (view : VersionedManifest) (stored owed : Line) → is_pinned mode ≡ false → IsOwed (by_catalogue stored c) mode skips o view stored owed → (owed ≡ stored) ⊎ ((skips ≡ true) × (owed ≡ up_to view.manifest.last_l0_seq stored))
owed-by c o mode true view stored owed free is = inr (refl, is)
owed-by c o (modes.Checkpoint id) false view stored owed free is = absurd (cc)
owed-by c o modes.FollowLatest false view stored owed free is = inl is
owed-by c o modes.ManagedCheckpoint false view stored owed free is = inl is

-- one that follows all that is stored is owed that
pub owed-all : (c : Catalogue) (o : ObjectsOf Span) (mode : DbReaderMode) (skips : Bool) (view : VersionedManifest) (stored owed : Line) → follows_all mode skips ≡ true → IsOwed (by_catalogue stored c) mode skips o view stored owed → owed ≡ stored
owed-all c o (modes.Checkpoint id) true view stored owed all is = absurd (cc)
owed-all c o modes.FollowLatest true view stored owed all is = absurd (cc)
owed-all c o modes.ManagedCheckpoint true view stored owed all is = absurd (cc)
owed-all c o (modes.Checkpoint id) false view stored owed all is = absurd (cc)
owed-all c o modes.FollowLatest false view stored owed all is = is
owed-all c o modes.ManagedCheckpoint false view stored owed all is = is

-- the front of a line up to a number doesn't end below one that isn't above it nor above the end of the line
front-end : (n k : ℕ) (line : Line) → k ≤ n → k ≤ end line → line.floor ≤ k → k ≤ end (up_to n line)
front-end n k line low within floor = let count = length-take (n - line.floor) line.batches in omega (arith, count, low, within, floor)

prefix-floor : (a b : Line) → IsPrefix a b → a.floor ≡ b.floor
prefix-floor a b p = sym (ap (λ (l : Line). l.floor) p.1)

-- what a follower is owed under a manifest doesn't end below its number, where one that skips isn't above the tables of that
owed-not_below : (stored : Line) (c : Catalogue) (o : ObjectsOf Span) (f : Follower) (mode : DbReaderMode) (view : VersionedManifest) (owed : Line) → IsPrefix f.line stored → is_pinned mode ≡ false → (f.skips ≡ true → number f ≤ view.manifest.last_l0_seq) →
    IsOwed (by_catalogue stored c) mode f.skips o view stored owed → number f ≤ end owed
owed-not_below stored c o f mode view owed begins free tabled is = elim (owed-by c o mode f.skips view stored owed free is) [
  | inl all ↦ subst (λ l. number f ≤ end l) (sym all) (prefix-end f.line stored begins)
  | inr few ↦
      let low = tabled few.0 in
      let floor = prefix-floor f.line stored begins in
      subst (λ l. number f ≤ end l) (sym few.1) (front-end view.manifest.last_l0_seq (number f) stored low (prefix-end f.line stored begins) (omega (arith, floor)))
]

-- nor does what a poll leaves of it: it is there, or where it was by the tables
pub polled-above : (stored : Line) (c : Catalogue) (o : ObjectsOf Span) (f f' : Follower) (answer : PollAnswer) → IsPrefix f.line stored → is_pinned f.mode ≡ false → (f.skips ≡ true → number f ≤ f'.view.manifest.last_l0_seq) →
    SeesPolled (by_catalogue stored c) f o stored f' answer → number f ≤ number f'
polled-above stored c o f f' answer begins free tabled (inl (all, catches)) = subst (λ (g : Follower). number f ≤ number g) (sym all.2) (owed-not_below stored c o f f.mode f'.view all.0 begins free tabled all.1)
polled-above stored c o f f' answer begins free tabled (inr stays) = let reached = stays.reached in omega (arith, reached)

-- its answer is that all was read, and gives the number that it leaves
pub polled-answer : (stored : Line) (c : Catalogue) (o : ObjectsOf Span) (f f' : Follower) (answer : PollAnswer) → SeesPolled (by_catalogue stored c) f o stored f' answer → answer ≡ Whole (number f')
polled-answer stored c o f f' answer (inl (all, catches)) = all.3 ∙ ap (λ (g : Follower). Whole (number g)) (sym all.2)
polled-answer stored c o f f' answer (inr stays) = stays.answered

-- one that follows all that is stored isn't further behind that than it may lag
pub polled-near : (stored : Line) (c : Catalogue) (o : ObjectsOf Span) (f f' : Follower) (answer : PollAnswer) → follows_all f.mode f.skips ≡ true → SeesPolled (by_catalogue stored c) f o stored f' answer → end stored ≤ number f' + f.lag
polled-near stored c o f f' answer follows (inl (all, catches)) =
    let at : number f' ≡ end all.0 = ap (λ (g : Follower). number g) all.2 in
    let whole = ap end (owed-all c o f.mode f.skips f'.view stored all.0 follows all.1) in
    omega (arith, at, whole)
polled-near stored c o f f' answer follows (inr stays) = let near = stays.near in let reached = stays.reached in omega (arith, near, reached)

-- the tasks of what it leaves are those of its mode
pub polled-tasks : (stored : Line) (c : Catalogue) (o : ObjectsOf Span) (f f' : Follower) (answer : PollAnswer) → SeesPolled (by_catalogue stored c) f o stored f' answer → f'.tasks ≡ follower_tasks f.mode
polled-tasks stored c o f f' answer (inl (all, catches)) = ap (λ (g : Follower). g.tasks) all.2
polled-tasks stored c o f f' answer (inr stays) = ap (λ (g : Follower). g.tasks) stays.sees

-- a follower that was valid is valid over objects that follow
pub follower-follows : (stored stored' : Line) (o o' : Objects) (latest latest' : VersionedManifest) → latest_manifest o ≡ Some latest → Follows stored stored' o o' latest latest' → (g : Follower) → IsValidFollower stored (catalogue_of o) g → IsValidFollower stored' (catalogue_of o') g
follower-follows stored stored' o o' latest latest' is f g v = (
  prefix-then g.line stored stored' v.0 f.grows,
  λ skips free found at.
      let same : latest' ≡ found = (let b = f.latest_is in cc) in
      let e = ap (λ (m : VersionedManifest). m.manifest.last_l0_seq) same in
      let before = v.1 skips free latest is in
      let up = f.tabled in
      omega (arith, e, before, up),
  v.2,
  λ free found at.
      let same : latest' ≡ found = (let b = f.latest_is in cc) in
      let e = ap (λ (m : VersionedManifest). m.manifest.last_l0_seq) same in
      let before = v.3 free latest is in
      let up = f.tabled in
      omega (arith, e, before, up),
)

-- a follower with these segments
abbrev pub with_segments : List (List ℕ) → Follower → Follower
with_segments segments follower = record follower { segments = segments }

-- it has seen what it has seen
pub segmented-seen : (o : Objects) (segments : List (List ℕ)) (f : Follower) → HasSeen o f → HasSeen o (with_segments segments f)
segmented-seen o segments f seen = record { mark = seen.mark; logs = seen.logs }

-- ---- a line that a follower sees under a manifest
-- It begins what is stored, and one that skips log files has the tables alone; the tables of the manifest read as its front, and it has
-- what the log files up to a mark have.
pub record Lined (stored : Line) (mode : DbReaderMode) (skips : Bool) (lag : ℕ) (o : Objects) (view : VersionedManifest) (line : Line) (mark : ℕ) : Type 0 where
  pub begins : IsPrefix line stored
  pub tabled : skips ≡ true → end line ≤ view.manifest.last_l0_seq
  pub reads : ReadsLine o view line
  pub seen : is_pinned mode ≡ false → HasSeen o (rebuilt mode skips lag view line mark)

module _ (stored : Line) (mode : DbReaderMode) (skips opening : Bool) (o : Objects) (view : VersionedManifest) (sound : IsSound o) (holds : content o ≡ stored) (v : IsView mode opening o view) where
  tabled_floor : stored.floor ≤ view.manifest.last_l0_seq
  tabled_floor =
      let e = ends o view.manifest (content o) (view-tables o mode opening view sound v) sound.line in
      let same = ap (λ (l : Line). l.floor) holds in
      omega (arith, e, same)

  tabled_within : view.manifest.last_l0_seq ≤ end stored
  tabled_within = subst (λ (l : Line). view.manifest.last_l0_seq ≤ end l) holds (tables-within o view.manifest (content o) (view-tables o mode opening view sound v) sound.line)

  low-end : (mode : DbReaderMode) (skips : Bool) → skips ≡ true → end (owed_line mode skips o view stored) ≤ view.manifest.last_l0_seq
  low-end mode false skips = absurd (cc)
  low-end mode true skips =
      let floor = tabled_floor in
      let count = length-take (view.manifest.last_l0_seq - stored.floor) stored.batches in
      omega (arith, floor, count)

  -- what it is owed is one, where it has read the log files for that
  pub owed-lined : (lag mark : ℕ) → mark ≡ last_read mode skips view o → Lined stored mode skips lag o view (owed_line mode skips o view stored) mark
  owed-lined lag mark mark_is = record {
    begins = owed-begins stored mode skips opening o view sound holds v;
    tabled = λ few. low-end mode skips few;
    reads = subst (ReadsLine o view) (its-line stored mode skips opening o view sound holds v) (owed-reads o stored mode skips view (its stored mode skips opening o view sound holds v));
    seen = λ free.
        subst (λ n. HasSeen o (rebuilt mode skips lag view (owed_line mode skips o view stored) n)) (sym mark_is)
        (subst (λ l. HasSeen o (rebuilt mode skips lag view (owed_line mode skips o view l) (last_read mode skips view o))) holds (owed-seen o mode skips opening lag view sound v free));
  }

  -- the tables of the manifest are stored
  pub view-stored : AreStored o view.manifest.tables
  view-stored = are-stored o view.manifest (content o) (view-tables o mode opening view sound v) sound.line

-- so is what it saw, and the tables, where it waits with what is in log files
module _ (stored : Line) (f : Follower) (o : Objects) (view : VersionedManifest) (sound : IsSound o) (holds : content o ≡ stored) (v : IsView f.mode false o view) (begins : IsPrefix f.line stored) (free : is_pinned f.mode ≡ false) (had : HasSeen o f) (reads : f.skips ≡ false)
    (n mark : ℕ) (reached : n ≡ max (number f) view.manifest.last_l0_seq) (mark_is : (mark ≡ max f.mark view.manifest.replay_after_wal_id) ⊎ (mark ≡ view.manifest.replay_after_wal_id)) where
  numbered : IsLine stored
  numbered = subst IsLine holds sound.line

  ends_there : end (up_to n stored) ≡ n
  ends_there =
      let low = tabled_floor stored f.mode f.skips false o view sound holds v in
      let high = tabled_within stored f.mode f.skips false o view sound holds v in
      let before = prefix-end f.line stored begins in
      up_to-number stored numbered n (omega (arith, low, reached)) (omega (arith, high, before, reached))

  abbrev bare : Follower
  bare = rebuilt f.mode f.skips f.lag view (up_to n stored) view.manifest.replay_after_wal_id

  bare-seen : HasSeen o bare
  bare-seen = none-seen o view f.mode f.skips f.lag (up_to n stored) (latest-view f.mode false o view free v)

  waiting-seen : (mark ≡ max f.mark view.manifest.replay_after_wal_id) ⊎ (mark ≡ view.manifest.replay_after_wal_id) → HasSeen o (rebuilt f.mode f.skips f.lag view (up_to n stored) mark)
  waiting-seen (inl far) = let there = ends_there in seen-both o f bare (rebuilt f.mode f.skips f.lag view (up_to n stored) mark) far (omega (arith, there, reached)) (omega arith) had bare-seen
  waiting-seen (inr few) = subst (λ k. HasSeen o (rebuilt f.mode f.skips f.lag view (up_to n stored) k)) (sym few) bare-seen

  pub waiting-lined : Lined stored f.mode f.skips f.lag o view (up_to n stored) mark
  waiting-lined = record {
    begins = front-begins n stored;
    tabled = λ few. absurd (let is = sym reads ∙ few in cc);
    reads =
        let at_tables = subst (ReadsLine o view) (its-line stored f.mode true false o view sound holds v) (owed-reads o stored f.mode true view (its stored f.mode true false o view sound holds v)) in
        reads-front stored numbered o view view.manifest.last_l0_seq n (omega arith) (omega (arith, reached)) at_tables;
    seen = λ _. waiting-seen mark_is;
  }

-- the follower that sees such a line
module _ (segments : List (List ℕ)) (stored : Line) (mode : DbReaderMode) (skips opening : Bool) (lag : ℕ) (o : Objects) (view : VersionedManifest) (v : IsView mode opening o view) (line : Line) (mark : ℕ) (lined : Lined stored mode skips lag o view line mark) where
  abbrev new : Follower
  new = with_segments segments (rebuilt mode skips lag view line mark)

  pub new-tabled : IsTabled (catalogue_of o) new
  new-tabled few free found at =
      let is = latest-view mode opening o view free v in
      let same : view ≡ found = (let b = at in cc) in
      let e = ap (λ (m : VersionedManifest). m.manifest.last_l0_seq) same in
      let low = lined.tabled few in
      omega (arith, e, low)

  pub new-viewed : IsViewed (catalogue_of o) new
  new-viewed free found at =
      let is = latest-view mode opening o view free v in
      let same : view ≡ found = (let b = at in cc) in
      let e = ap (λ (m : VersionedManifest). m.manifest.last_l0_seq) same in
      omega (arith, e)

  pub new-valid : is_managed mode ≡ false → IsValidFollower stored (catalogue_of o) new
  new-valid unmanaged = (lined.begins, new-tabled, λ managed live. absurd (cc), new-viewed)

  pub new-held : IsHeld o (AFollower new)
  new-held = (lined.reads, λ free. segmented-seen o segments (rebuilt mode skips lag view line mark) (lined.seen free))

-- the code keeps it where it was found that what it is owed is seen
module _ (t : Option Objects) (stored : Line) (mode : DbReaderMode) (skips : Bool) (lag : ℕ) (o : Objects) (b : Follower) (answer : PollAnswer) (all : SeesOwed (by_objects t) mode skips lag o stored b answer) where
  pub seen-mark : b.mark ≡ last_read mode skips b.view o
  seen-mark = ap (λ (x : Follower). x.mark) all.2

  unsegmented-kept : unsegmented b ≡ kept_follower (rebuilt mode skips lag b.view (owed_line mode skips o b.view stored) b.mark)
  unsegmented-kept =
      all.2
      ∙ (ap (λ l. kept_follower (rebuilt mode skips lag b.view l (last_read mode skips b.view o))) (owed-is t o mode skips b.view stored all.0 all.1)
      ∙ ap (λ n. kept_follower (rebuilt mode skips lag b.view (owed_line mode skips o b.view stored) n)) (sym seen-mark))

  pub seen-kept : b ≡ kept_follower (with_segments b.segments (rebuilt mode skips lag b.view (owed_line mode skips o b.view stored) b.mark))
  seen-kept = ap (with_segments b.segments) unsegmented-kept

-- ---- a poll
-- what a follower sees after it: what is stored up to its number
abbrev pub polled_line : (stored : Line) → Follower → Line
polled_line stored b = up_to (number b) stored

module _ (t : Option Objects) (stored : Line) (f : Follower) (o : Objects) (b : Follower) (answer : PollAnswer) (sound : IsSound o) (holds : content o ≡ stored) (v : IsView f.mode false o b.view) where
  -- all that is stored, or what is in the tables, is that where it is owed it
  owed-polled : SeesOwed (by_objects t) f.mode f.skips f.lag o stored b answer → owed_line f.mode f.skips o b.view stored ≡ polled_line stored b
  owed-polled all =
      let owed = owed_line f.mode f.skips o b.view stored in
      let line = owed-is t o f.mode f.skips b.view stored all.0 all.1 in
      let ends : number b ≡ end owed = ap number all.2 ∙ (line_above-end b.view.manifest.last_l0_seq all.0 ∙ ap end line) in
      whole-front owed stored (owed-begins stored f.mode f.skips false o b.view sound holds v) ∙ ap (λ n. up_to n stored) (sym ends)

  -- of which the code keeps a part
  pub polled-kept : SeesPolled (by_objects t) (kept_follower f) o stored b answer → b ≡ kept_follower (with_segments b.segments (rebuilt f.mode f.skips f.lag b.view (polled_line stored b) b.mark))
  polled-kept (inl (all, catches)) =
      seen-kept t stored f.mode f.skips f.lag o b answer all
      ∙ ap (λ l. kept_follower (with_segments b.segments (rebuilt f.mode f.skips f.lag b.view l b.mark))) (owed-polled all)
  polled-kept (inr stays) = ap (with_segments b.segments) stays.sees

  module _ (begins : IsPrefix f.line stored) (free : is_pinned f.mode ≡ false) (had : HasSeen o f) where
    waits : StaysBehind (by_objects t) (kept_follower f) stored b answer → Lined stored f.mode f.skips f.lag o b.view (polled_line stored b) b.mark
    waits stays =
        let same = line_above-end f.view.manifest.last_l0_seq f.line in
        let reached = stays.reached in
        waiting-lined stored f o b.view sound holds v begins free had stays.reads (number b) b.mark (omega (arith, same, reached))
        (elim stays.mark [
          | inl far ↦ inl far
          | inr few ↦ inr few.1
        ])

    pub polled-lined : SeesPolled (by_objects t) (kept_follower f) o stored b answer → Lined stored f.mode f.skips f.lag o b.view (polled_line stored b) b.mark
    polled-lined (inl (all, catches)) =
        subst (λ l. Lined stored f.mode f.skips f.lag o b.view l b.mark) (owed-polled all)
        (owed-lined stored f.mode f.skips false o b.view sound holds v f.lag b.mark (seen-mark t stored f.mode f.skips f.lag o b answer all))
    polled-lined (inr stays) = waits stays
