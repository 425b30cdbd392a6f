-- What a command on an object leaves of an honest store and of the handles and followers of a world.
use Rattle.std.proofs.Common.{◌≡◌, ◌≢◌, ℕ, List, [], ◌∷◌, ◌++◌, set, Some, None, inl, inr, sym, subst, ap, ◌∙◌, ◌≤◌, ◌⊎◌, get_or, arith, All}
use Rattle.std.proofs.lemmas.Bool.{cases_lt}
use Rattle.std.specs.List.{slice_get}
use Rattle.slate_types.specs.Line.{Line, extended}
use Rattle.slate_store.specs.Content.{IsSound, content}
use Rattle.slate_store.specs.Objects.{Objects, latest_manifest, table_at}
use Rattle.slate_store.specs.declared.objects.TableId.{TableId}
use Rattle.slate_store.specs.declared.objects.VersionedManifest.{VersionedManifest}
use Rattle.slate_model.specs.Catalogue.{catalogue_of}
use Rattle.slate_model.specs.Follower.{Follower}
use Rattle.slate_model.specs.Handle.{Handle, unstored}
use Rattle.slate_model.specs.Object.{Object, Handle as AHandle, Snapshot as ASnapshot, Follower as AFollower, tables_of}
use Rattle.slate_model.specs.Tables.{AreStored}
use Rattle.slate_model.proofs.Adding.{Lasts}
use Rattle.slate_model.proofs.Logging.{LogsFollow, still-seen}
use Rattle.slate_model.proofs.Moving.{Follows, Moved, none-known, still-reads, still-valid}
use Rattle.slate_model.proofs.Opening.{absent-table}
use Rattle.slate_store.proofs.Latest.{its-objects}
use Rattle.slate_live.specs.Represents.{AreBefore, AreOfPast, IsHeld, Holds, IsFollowerAt, IsHandleAt, IsValid, IsValidFollower, IsValidHandle}
use Rattle.slate_live.specs.World.{World}
use Rattle.slate_live.proofs.Changing.{distinct-set, followers-set, followers-set-handle, handles-set-follower, valid-set}
use Rattle.slate_live.proofs.Places.{get-push, get-set}
use Rattle.slate_live.proofs.Following.{follower-follows}

-- the tables that are stored come before the next one of a valid handle
pub stored-before : (stored : Line) (o : Objects) (a : Handle) → IsValidHandle stored (catalogue_of o) a → (ids : List TableId) → AreStored o ids → AreBefore a ids
stored-before stored o a v ids there k d less epoch =
    elim (cases_lt (get_or ids k d).index a.counter) [
      | inl low ↦ low
      | inr high ↦ absurd (there k d less (subst (λ q. table_at q o ≡ None) (same-id (get_or ids k d) a.epoch epoch) (none-known (record { epoch = a.epoch; index = (get_or ids k d).index }) o (v.unused (get_or ids k d).index high))))
    ] where
      same-id : (q : TableId) (e : ℕ) → q.epoch ≡ e → record { epoch = e; index = q.index } ≡ q
      same-id q e is = ap (λ n. record { epoch = n; index = q.index }) (sym is)

-- and their epochs aren't above the latest manifest's
pub stored-past : (o : Objects) (latest : VersionedManifest) → IsSound o → latest_manifest o ≡ Some latest → (ids : List TableId) → AreStored o ids → AreOfPast (catalogue_of o) ids
stored-past o latest sound is ids there = (
  latest,
  is,
  λ k d less.
      elim (cases_lt latest.manifest.writer_epoch (get_or ids k d).epoch) [
        | inl above ↦ absurd (there k d less (absent-table latest.manifest.writer_epoch (get_or ids k d) o.tables above (its-objects o latest sound is).epochs))
        | inr low ↦ low
      ],
)

pub past-follows : (o o' : Objects) (latest next : VersionedManifest) → latest_manifest o ≡ Some latest → latest_manifest o' ≡ Some next → latest.manifest.writer_epoch ≤ next.manifest.writer_epoch → (ids : List TableId) → AreOfPast (catalogue_of o) ids → AreOfPast (catalogue_of o') ids
past-follows o o' latest next is is' up ids past =
    let same : past.0 ≡ latest = (let at = past.1 in cc) in
    let e = ap (λ (m : VersionedManifest). m.manifest.writer_epoch) same in
    (next, is', λ k d less. let low = past.2 k d less in omega (arith, low, e, up))

-- what objects are to one of a world they are after they changed, where the tables of its view last
pub still-held : (o o' : Objects) (latest next : VersionedManifest) → latest_manifest o ≡ Some latest → latest_manifest o' ≡ Some next → LogsFollow o o' latest.manifest.replay_after_wal_id next.manifest.replay_after_wal_id →
    (x : Object) → All (Lasts o o') (tables_of x) → IsHeld o x → IsHeld o' x
still-held o o' latest next is is' logs (AHandle a) last held = (still-reads o o' a.view a.line last held.0, tt)
still-held o o' latest next is is' logs (ASnapshot x) last held = (tt, tt)
still-held o o' latest next is is' logs (AFollower g) last held = (still-reads o o' g.view g.line last held.0, λ free. still-seen o o' latest next g is is' logs (held.1 free))

-- what holds of the objects of a world that it represents with objects of a store: a line is stored there, and each handle
-- and follower is valid over it and reads what it should
pub record Leads (stored' : Line) (o' : Objects) (objects : List Object) : Type 0 where
  pub sound : IsSound o'
  pub content : content o' ≡ stored'
  pub handles : (m : ℕ) (a : Handle) → IsHandleAt objects m a → IsValidHandle stored' (catalogue_of o') a
  pub followers : (m : ℕ) (f : Follower) → IsFollowerAt objects m f → IsValidFollower stored' (catalogue_of o') f
  pub named : (m n : ℕ) (a : Handle) (x : Object) → IsHandleAt objects m a → slice_get objects n ≡ Some x → AreBefore a (tables_of x)
  pub past : (n : ℕ) (x : Object) → slice_get objects n ≡ Some x → AreOfPast (catalogue_of o') (tables_of x)
  pub distinct : (m n : ℕ) (a b : Handle) → IsHandleAt objects m a → IsHandleAt objects n b → a.epoch ≡ b.epoch → m ≡ n
  pub reads : (n : ℕ) (x : Object) → slice_get objects n ≡ Some x → IsHeld o' x

module _ (w : World) (o : Objects) (is_sound : IsSound o) (holds : Holds o w) (valid : IsValid w) (reads : (n : ℕ) (x : Object) → slice_get w.objects n ≡ Some x → IsHeld o x) where
  pub valid-over : (m : ℕ) (a : Handle) → IsHandleAt w.objects m a → IsValidHandle w.stored (catalogue_of o) a
  valid-over m a at = subst (λ c. IsValidHandle w.stored c a) (sym holds.catalogue) (valid.handles m a at)

  pub past-over : (n : ℕ) (x : Object) → slice_get w.objects n ≡ Some x → AreOfPast (catalogue_of o) (tables_of x)
  past-over n x at = subst (λ c. AreOfPast c (tables_of x)) (sym holds.catalogue) (valid.past n x at)

  pub followers-over : (m : ℕ) (f : Follower) → IsFollowerAt w.objects m f → IsValidFollower w.stored (catalogue_of o) f
  followers-over m f at = subst (λ c. IsValidFollower w.stored c f) (sym holds.catalogue) (valid.followers m f at)

  -- where nothing changed
  pub leads-same : Leads w.stored o w.objects
  leads-same = record {
    sound = is_sound;
    content = holds.stored;
    handles = valid-over;
    followers = followers-over;
    named = valid.named;
    past = past-over;
    distinct = valid.distinct;
    reads = reads;
  }

  module _ (n : ℕ) (h : Handle) (there : IsHandleAt w.objects n h) where
    -- the latest manifest, which a handle went by
    abbrev pub the_latest : VersionedManifest
    the_latest = (valid.handles n h there).behind.0

    pub is_latest : latest_manifest o ≡ Some the_latest
    is_latest = ap latest_manifest holds.catalogue ∙ (valid.handles n h there).behind.1

    module _ (stored' : Line) (o' : Objects) (new : Handle) (moved : Moved w.stored stored' o o' the_latest h new) where
      abbrev f : Follows w.stored stored' o o' the_latest moved.next
      f = moved.follows

      -- another handle, whose epoch is another
      other-epoch : (m : ℕ) (a : Handle) → m ≢ n → IsHandleAt w.objects m a → a.epoch ≡ h.epoch → ⊥
      other-epoch m a other at epochs = other (valid.distinct m n a h at there epochs)

      other-valid : (m : ℕ) (a : Handle) → m ≢ n → IsHandleAt w.objects m a → IsValidHandle stored' (catalogue_of o') a
      other-valid m a other at =
          let v = valid-over m a at in
          let same_latest : v.behind.0 ≡ the_latest = (let p = v.behind.1 in let q = is_latest in cc) in
          let low_epoch = ap (λ (x : VersionedManifest). x.manifest.writer_epoch) same_latest in
          let low = v.behind.2 in
          still-valid w.stored stored' o o' the_latest moved.next is_latest f a
          (λ index high none. moved.others (record { epoch = a.epoch; index = index }) (λ epochs. other-epoch m a other at epochs) ∙ none)
          (λ found live known above.
          let same : moved.next ≡ found = (let p = f.latest_is in cc) in
          let ep = ap (λ (x : VersionedManifest). x.manifest.writer_epoch) same in
          let se = moved.same_epoch in
          let cur : the_latest.manifest.writer_epoch ≤ a.epoch = omega (arith, ep, se, above) in
          elim moved.alone [
            | inl alone ↦
                let before = v.current the_latest live is_latest cur in
                let number = ap (λ (x : VersionedManifest). x.manifest.last_l0_seq) same in
                (ap (λ l. extended l (unstored a)) alone.0 ∙ before.0, sym number ∙ (alone.1 ∙ before.1))
            | inr mine ↦
                let low_mine = (valid.handles n h there).behind.2 in
                absurd (other-epoch m a other at (omega (arith, low_epoch, low, low_mine, cur, mine)))
          ]) v

      -- the tables that a view names come before the next one of each handle
      other-named : (m : ℕ) (a : Handle) → m ≢ n → IsHandleAt w.objects m a → (ids : List TableId) → AreStored o' ids → AreBefore a ids
      other-named m a other at ids stored = stored-before stored' o' a (other-valid m a other at) ids stored

      before-then : (ids : List TableId) → AreBefore h ids → AreBefore new ids
      before-then ids before k d less epoch = let low = before k d less (epoch ∙ moved.epoch) in let up = moved.counter in omega (arith, low, up)

      named-by : (i j : ℕ) (a : Handle) (x : Object) → ((i ≡ n) × (AHandle new ≡ AHandle a)) ⊎ ((i ≢ n) × IsHandleAt w.objects i a) → ((j ≡ n) × (AHandle new ≡ x)) ⊎ ((j ≢ n) × (slice_get w.objects j ≡ Some x)) → AreBefore a (tables_of x)
      named-by i j a x (inl mine) (inl here) =
          let is_new : new ≡ a = (let e = mine.1 in cc) in
          subst (λ (b : Handle). AreBefore b (tables_of x)) is_new
          (subst (λ (y : Object). AreBefore new (tables_of y)) here.1
          (elim moved.view [
            | inl same ↦ subst (λ (v : VersionedManifest). AreBefore new v.manifest.tables) (sym same) (before-then h.view.manifest.tables (valid.named n n h (AHandle h) there there))
            | inr stored ↦ stored-before stored' o' new moved.mine new.view.manifest.tables stored
          ]))
      named-by i j a x (inl mine) (inr elsewhere) =
          let is_new : new ≡ a = (let e = mine.1 in cc) in
          subst (λ (b : Handle). AreBefore b (tables_of x)) is_new (before-then (tables_of x) (valid.named n j h x there elsewhere.1))
      named-by i j a x (inr other) (inl here) =
          subst (λ (y : Object). AreBefore a (tables_of y)) here.1
          (elim moved.view [
            | inl same ↦ subst (λ (v : VersionedManifest). AreBefore a v.manifest.tables) (sym same) (valid.named i n a (AHandle h) other.1 there)
            | inr stored ↦ other-named i a other.0 other.1 new.view.manifest.tables stored
          ])
      named-by i j a x (inr other) (inr elsewhere) = valid.named i j a x other.1 elsewhere.1

      past-then : (ids : List TableId) → AreOfPast (catalogue_of o) ids → AreOfPast (catalogue_of o') ids
      past-then ids past = past-follows o o' the_latest moved.next is_latest f.latest_is f.epochs ids past

      past-by : (j : ℕ) (x : Object) → ((j ≡ n) × (AHandle new ≡ x)) ⊎ ((j ≢ n) × (slice_get w.objects j ≡ Some x)) → AreOfPast (catalogue_of o') (tables_of x)
      past-by j x (inl here) =
          subst (λ (y : Object). AreOfPast (catalogue_of o') (tables_of y)) here.1
          (elim moved.view [
            | inl same ↦ subst (λ (v : VersionedManifest). AreOfPast (catalogue_of o') v.manifest.tables) (sym same) (past-then h.view.manifest.tables (past-over n (AHandle h) there))
            | inr stored ↦ stored-past o' moved.next f.sound f.latest_is new.view.manifest.tables stored
          ])
      past-by j x (inr elsewhere) = past-then (tables_of x) (past-over j x elsewhere.1)

      reads-by : (j : ℕ) (x : Object) → ((j ≡ n) × (AHandle new ≡ x)) ⊎ ((j ≢ n) × (slice_get w.objects j ≡ Some x)) → IsHeld o' x
      reads-by j x (inl here) = subst (IsHeld o') here.1 (moved.reads, tt)
      reads-by j x (inr elsewhere) = still-held o o' the_latest moved.next is_latest f.latest_is f.logs x (λ k d less. moved.lasts _ (valid.named n j h x there elsewhere.1 k d less)) (reads j x elsewhere.1)

      pub moved-leads : Leads stored' o' (set w.objects n (AHandle new))
      moved-leads = record {
        sound = f.sound;
        content = f.content;
        handles = valid-set (IsValidHandle stored' (catalogue_of o')) w.objects n h new there moved.mine other-valid;
        followers = followers-set-handle (IsValidFollower stored' (catalogue_of o')) w.objects n (AHandle h) new there (λ m g at. follower-follows w.stored stored' o o' the_latest moved.next is_latest f g (followers-over m g at));
        named = λ i j a x at_i at_j. named-by i j a x (get-set w.objects n i (AHandle new) (AHandle a) (AHandle h) there at_i) (get-set w.objects n j (AHandle new) x (AHandle h) there at_j);
        past = λ j x at. past-by j x (get-set w.objects n j (AHandle new) x (AHandle h) there at);
        distinct = distinct-set w.objects n h new there moved.epoch valid.distinct;
        reads = λ j x at. reads-by j x (get-set w.objects n j (AHandle new) x (AHandle h) there at);
      }

  -- a follower that changed, and nothing else: it goes by its old view, or by one whose tables are stored
  module _ (n : ℕ) (g g' : Follower) (there : IsFollowerAt w.objects n g) (view : (g'.view ≡ g.view) ⊎ AreStored o g'.view.manifest.tables) where
    follower-before : (m : ℕ) (a : Handle) → IsHandleAt (set w.objects n (AFollower g')) m a → IsHandleAt w.objects m a
    follower-before = handles-set-follower w.objects n (AFollower g) g' there

    follower-named : (i j : ℕ) (a : Handle) (x : Object) → IsHandleAt w.objects i a → ((j ≡ n) × (AFollower g' ≡ x)) ⊎ ((j ≢ n) × (slice_get w.objects j ≡ Some x)) → AreBefore a (tables_of x)
    follower-named i j a x at (inl here) =
        subst (λ (y : Object). AreBefore a (tables_of y)) here.1
        (elim view [
          | inl same ↦ subst (λ (v : VersionedManifest). AreBefore a v.manifest.tables) (sym same) (valid.named i n a (AFollower g) at there)
          | inr stored ↦ stored-before w.stored o a (valid-over i a at) g'.view.manifest.tables stored
        ])
    follower-named i j a x at (inr elsewhere) = valid.named i j a x at elsewhere.1

    follower-past : (j : ℕ) (x : Object) → ((j ≡ n) × (AFollower g' ≡ x)) ⊎ ((j ≢ n) × (slice_get w.objects j ≡ Some x)) → AreOfPast (catalogue_of o) (tables_of x)
    follower-past j x (inl here) =
        subst (λ (y : Object). AreOfPast (catalogue_of o) (tables_of y)) here.1
        (elim view [
          | inl same ↦ subst (λ (v : VersionedManifest). AreOfPast (catalogue_of o) v.manifest.tables) (sym same) (past-over n (AFollower g) there)
          | inr stored ↦ stored-past o (past-over n (AFollower g) there).0 is_sound (past-over n (AFollower g) there).1 g'.view.manifest.tables stored
        ])
    follower-past j x (inr elsewhere) = past-over j x elsewhere.1

    follower-reads : IsHeld o (AFollower g') → (j : ℕ) (x : Object) → ((j ≡ n) × (AFollower g' ≡ x)) ⊎ ((j ≢ n) × (slice_get w.objects j ≡ Some x)) → IsHeld o x
    follower-reads its j x (inl here) = subst (IsHeld o) here.1 its
    follower-reads its j x (inr elsewhere) = reads j x elsewhere.1

    pub follower-leads : IsValidFollower w.stored (catalogue_of o) g' → IsHeld o (AFollower g') → Leads w.stored o (set w.objects n (AFollower g'))
    follower-leads mine its = record {
      sound = is_sound;
      content = holds.stored;
      handles = λ m a at. valid-over m a (follower-before m a at);
      followers = followers-set (IsValidFollower w.stored (catalogue_of o)) w.objects n (AFollower g) g' there mine followers-over;
      named = λ i j a x at_i at_j. follower-named i j a x (follower-before i a at_i) (get-set w.objects n j (AFollower g') x (AFollower g) there at_j);
      past = λ j x at. follower-past j x (get-set w.objects n j (AFollower g') x (AFollower g) there at);
      distinct = λ i j a b at_i at_j epochs. valid.distinct i j a b (follower-before i a at_i) (follower-before j b at_j) epochs;
      reads = λ j x at. follower-reads its j x (get-set w.objects n j (AFollower g') x (AFollower g) there at);
    }

  -- the objects with one more, which is no handle and goes by tables that are stored
  module _ (object : Object) (no_handle : (a : Handle) → object ≡ AHandle a → ⊥) (latest : VersionedManifest) (is : latest_manifest o ≡ Some latest) (tables-stored : AreStored o (tables_of object)) where
    before-push : (m : ℕ) (a : Handle) → IsHandleAt (w.objects ++ object ∷ []) m a → IsHandleAt w.objects m a
    before-push m a at =
        elim (get-push w.objects object (AHandle a) m at) [
          | inl old ↦ old
          | inr last_one ↦ absurd (no_handle a last_one.1)
        ]

    pushed : (P : Object → Type 0) → P object → ((m : ℕ) (x : Object) → slice_get w.objects m ≡ Some x → P x) → (m : ℕ) (x : Object) → slice_get (w.objects ++ object ∷ []) m ≡ Some x → P x
    pushed P mine before m x at =
        elim (get-push w.objects object x m at) [
          | inl old ↦ before m x old
          | inr last_one ↦ subst P last_one.1 mine
        ]

    pub pushed-leads : ((f : Follower) → object ≡ AFollower f → IsValidFollower w.stored (catalogue_of o) f) → IsHeld o object → Leads w.stored o (w.objects ++ object ∷ [])
    pushed-leads mine its = record {
      sound = is_sound;
      content = holds.stored;
      handles = λ m a at. valid-over m a (before-push m a at);
      followers = λ m f at.
          elim (get-push w.objects object (AFollower f) m at) [
            | inl old ↦ followers-over m f old
            | inr last_one ↦ mine f last_one.1
          ];
      named = λ i j a x at_i at_j.
          let at_before = before-push i a at_i in
          pushed (λ y. AreBefore a (tables_of y)) (stored-before w.stored o a (valid-over i a at_before) (tables_of object) tables-stored)
          (λ m y at. valid.named i m a y at_before at) j x at_j;
      past = pushed (λ y. AreOfPast (catalogue_of o) (tables_of y)) (stored-past o latest is_sound is (tables_of object) tables-stored) past-over;
      distinct = λ i j a b at_i at_j epochs. valid.distinct i j a b (before-push i a at_i) (before-push j b at_j) epochs;
      reads = pushed (IsHeld o) its reads;
    }

  pub followed-leads : (g : Follower) (latest : VersionedManifest) → latest_manifest o ≡ Some latest → AreStored o g.view.manifest.tables → IsValidFollower w.stored (catalogue_of o) g → IsHeld o (AFollower g) → Leads w.stored o (w.objects ++ AFollower g ∷ [])
  followed-leads g latest is there mine its =
      pushed-leads (AFollower g) (λ a same. absurd (cc)) latest is there
      (λ f same. let is_it : g ≡ f = cc in subst (IsValidFollower w.stored (catalogue_of o)) is_it mine) its
