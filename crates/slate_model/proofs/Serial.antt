-- What a transaction at SerializableSnapshot read is what it would have read just before its batch.
use Rattle.std.proofs.Common.{◌≡◌, ◌≢◌, ◌<◌, ◌≤◌, ◌+◌, refl, sym, ◌∙◌, ap, subst, ℕ, ℤ, Bool, true, false, cond, not, ◌&&◌, ◌||◌, min, List, [], ◌∷◌, ◌++◌, Contains, length, map, filter, Option, Some, None, Result, ◌⊎◌, inl, inr, arith, suc}
use Rattle.std.specs.List.{AllByRecursion, flat_map, list_any}
use Rattle.std.specs.Option.{option_map, unwrap_or}
use Rattle.std.specs.Str.{bytes_eq}
use Rattle.std.proofs.lemmas.Bool.{false≢true, le-leb, lt-leb}
use Rattle.std.proofs.Math.Nat.{min-eq_left}
use Rattle.std.proofs.lemmas.List.{append-nil, append_assoc, length-append}
use Rattle.std.proofs.lemmas.List.Concat.{flat_map-append}
use Rattle.std.proofs.lemmas.List.Elements.{filter-append}
use Rattle.slate_types.specs.declared.batches.Batch.{Batch}
use Rattle.slate_types.specs.declared.batches.KeyOp.{KeyOp}
use Rattle.slate_types.specs.declared.batches.KeyValue.{KeyValue}
use Rattle.slate_types.specs.declared.options.DurabilityLevel.TheVariants.{Memory}
use Rattle.slate_types.specs.declared.ranges.ByteRange.{ByteRange}
use Rattle.slate_types.specs.declared.read_faults.ReadFault.{ReadFault}
use Rattle.slate_types.specs.declared.scan_options.IterationOrder.{IterationOrder}
use Rattle.slate_types.specs.Line.{AreNumberedFrom, IsLine, Line}
use Rattle.slate_types.specs.Operator.{Merge}
use Rattle.slate_types.specs.Range.{contains}
use Rattle.slate_types.proofs.Lines.{numbered-push}
use Rattle.slate_reads.specs.Read.{Version, fold_versions, history, is_within, read_at, since_base, versions_in}
use Rattle.slate_reads.proofs.Ends.{history-append}
use Rattle.slate_rows.specs.Scan.{IsScan, rows_of, with_found}
use Rattle.slate_transactions.specs.Transaction.{is_newer, is_newer_in, is_any_newer}
use Rattle.slate_transactions.specs.Writes.{LastWrites, after_writes, is_among, last_write}
use Rattle.slate_transactions.specs.declared.levels.IsolationLevel.{IsolationLevel}
use Rattle.slate_transactions.specs.declared.levels.IsolationLevel.TheVariants.{Snapshot, SerializableSnapshot}
use Rattle.slate_transactions.proofs.Noting.{among-kept, among-with, last_write-after, scanned-among, unread-newer, unscanned-newer}
use Rattle.slate_transactions.proofs.Owning.{all-pass, seen-history}
use Rattle.slate_model.specs.Handle.{Handle, accepted}
use Rattle.slate_model.specs.Segments.{Extractor}
use Rattle.slate_model.specs.Serial.{Act, Acts, Add, AllTrack, AreSerial, Get, Run, Scan, Side, Step, StillReads, Tracks, Turn, Write, first_side, last_side}
use Rattle.slate_model.specs.Transaction.{Transaction, having_got, having_scanned, is_in_conflict, seen_by, start_bound, start_of, writes_of}
use Rattle.slate_model.specs.Write.{next_batch}

-- ---- batches up to a number
up-to-all : (floor bound : ℕ) (bs : List Batch) → AreNumberedFrom floor bs → floor + length bs ≤ bound → filter (λ (b : Batch). is_within (Some bound) b.number) bs ≡ bs
up-to-all floor bound [] numbered fits = refl
up-to-all floor bound (b ∷ bs) numbered fits =
    let number = numbered.0 in
    rw (le-leb b.number bound (omega (arith, number, fits))) (ap (λ xs. b ∷ xs) (up-to-all (floor + 1) bound bs numbered.1 (omega (arith, fits))))

up-to-none : (floor bound : ℕ) (bs : List Batch) → AreNumberedFrom floor bs → bound ≤ floor → filter (λ (b : Batch). is_within (Some bound) b.number) bs ≡ []
up-to-none floor bound [] numbered low = refl
up-to-none floor bound (b ∷ bs) numbered low =
    let number = numbered.0 in
    rw (lt-leb b.number bound (omega (arith, number, low))) (up-to-none (floor + 1) bound bs numbered.1 (omega (arith, low)))

whole-history : (bs : List Batch) (key : List ℕ) → history bs None key ≡ flat_map (versions_in key) bs
whole-history bs key = ap (flat_map (versions_in key)) (all-pass bs)

no-versions : (key : List ℕ) (number : ℕ) (at : ℤ) (ops : List KeyOp) → list_any (λ (o : KeyOp). bytes_eq o.key key) ops ≡ false → versions_in key (record { number = number; create_ts = at; ops = ops }) ≡ []
no-versions key number at [] none = refl
no-versions key number at (o ∷ ops) none = go (bytes_eq o.key key) (list_any (λ (x : KeyOp). bytes_eq x.key key) ops) refl refl none (no-versions key number at ops) where
  version : KeyOp → Version
  version x = record { op = x.op; number = number; create_ts = at }

  mine : List KeyOp → List KeyOp
  mine xs = filter (λ (x : KeyOp). bytes_eq x.key key) xs

  go : (b any : Bool) → bytes_eq o.key key ≡ b → list_any (λ (x : KeyOp). bytes_eq x.key key) ops ≡ any → (b || any) ≡ false → (list_any (λ (x : KeyOp). bytes_eq x.key key) ops ≡ false → map version (mine ops) ≡ [])
      → map version (cond b (o ∷ mine ops) (mine ops)) ≡ []
  go true any is any-is none more = absurd (false≢true (sym none))
  go false any is any-is none more = more (any-is ∙ none)

-- ---- a scan goes by the histories of the keys in its range
rows-same : (read other : List ℕ → Result (Option KeyValue) ReadFault) (keys : List (List ℕ)) → AllByRecursion (λ key. read key ≡ other key) keys → rows_of read keys ≡ rows_of other keys
rows-same read other [] same = refl
rows-same read other (key ∷ keys) same = ap (λ r. with_found r (rows_of read keys)) same.0 ∙ ap (with_found (other key)) (rows-same read other keys same.1)

all-keys : (P : List ℕ → Type 0) (keys : List (List ℕ)) → ((key : List ℕ) → Contains keys key → P key) → AllByRecursion P keys
all-keys P [] each = tt
all-keys P (key ∷ keys) each = (each key (0, omega arith, refl), all-keys P keys (λ other there. each other (suc there.0, omega (arith, there.1), there.2)))

read-same : (merge : Option Merge) (bs cs : List Batch) (key : List ℕ) → history bs None key ≡ history cs None key → read_at merge bs None key ≡ read_at merge cs None key
read-same merge bs cs key same = ap (λ vs. fold_versions merge key None (since_base vs)) same

scan-same : (merge : Option Merge) (bs cs : List Batch) (range : ByteRange) (order : IterationOrder) (rows : List KeyValue) (fault : Option ReadFault) →
    ((key : List ℕ) → contains range key ≡ true → history bs None key ≡ history cs None key) → IsScan merge bs None range order rows fault → IsScan merge cs None range order rows fault
scan-same merge bs cs range order rows fault same scan = record {
  keys = scan.keys;
  in_order = scan.in_order;
  whole = λ key. (
    (λ there. let w = (scan.whole key).0 there in (w.0, subst (λ vs. vs ≢ []) (same key w.0) w.1)),
    (λ w. (scan.whole key).1 (w.0, subst (λ vs. vs ≢ []) (sym (same key w.0)) w.1)),
  );
  taken = rows-same (read_at merge cs None) (read_at merge bs None) scan.keys (all-keys _ scan.keys (λ key there. sym (read-same merge bs cs key (same key ((scan.whole key).0 there).0)))) ∙ scan.taken;
}

module _ (x : Option Extractor) (merge : Option Merge) (h : Handle) (numbered : IsLine h.line) where
  -- What holds after acts since the beginning, of which none unmarked a write of a key: the line has more batches, and one of
  -- them has an operation on the key only where the last write of it is after the start.
  record Since (key : List ℕ) (side : Side) : Type 0 where
    more : List Batch
    floor : side.handle.line.floor ≡ h.line.floor
    line : side.handle.line.batches ≡ h.line.batches ++ more
    later : AreNumberedFrom (accepted h) more
    writes : LastWrites
    tracks : side.handle.writes ≡ Some writes
    start : start_of side.transaction ≡ accepted h
    level : side.transaction.level ≡ SerializableSnapshot
    quiet : (flat_map (versions_in key) more ≡ []) ⊎ (accepted h < last_write writes key)

  since-first : (id key : List ℕ) → Since key (first_side h id)
  since-first id key = record {
    more = [];
    floor = refl;
    line = sym (append-nil h.line.batches);
    later = tt;
    writes = writes_of h;
    tracks = refl;
    start = refl;
    level = refl;
    quiet = inl refl;
  }

  own-got : (level : IsolationLevel) (key : List ℕ) (t : Transaction) → (having_got level key t).own ≡ t.own
  own-got Snapshot key t = refl
  own-got SerializableSnapshot key t = refl

  own-scanned : (level : IsolationLevel) (range : ByteRange) (t : Transaction) → (having_scanned level range t).own ≡ t.own
  own-scanned Snapshot range t = refl
  own-scanned SerializableSnapshot range t = refl

  level-got : (level : IsolationLevel) (key : List ℕ) (t : Transaction) → (having_got level key t).level ≡ t.level
  level-got Snapshot key t = refl
  level-got SerializableSnapshot key t = refl

  level-scanned : (level : IsolationLevel) (range : ByteRange) (t : Transaction) → (having_scanned level range t).level ≡ t.level
  level-scanned Snapshot range t = refl
  level-scanned SerializableSnapshot range t = refl

  -- a read or another call that leaves the handle
  since-still : (key : List ℕ) (side new : Side) → Since key side → new.handle.line ≡ side.handle.line → new.handle.writes ≡ side.handle.writes →
      new.transaction.own.number ≡ side.transaction.own.number → new.transaction.level ≡ side.transaction.level → Since key new
  since-still key side new s line writes number level = record {
    more = s.more;
    floor = ap (λ (l : Line). l.floor) line ∙ s.floor;
    line = ap (λ (l : Line). l.batches) line ∙ s.line;
    later = s.later;
    writes = s.writes;
    tracks = writes ∙ s.tracks;
    start = number ∙ s.start;
    level = level ∙ s.level;
    quiet = s.quiet;
  }

  since-next : (key : List ℕ) (side : Side) (act : Act) (new : Side) → Tracks key act → Acts x merge side act new → Since key side → Since key new
  since-next key side (Write unmarked ops at) new tracked acts s =
      let b = next_batch side.handle ops at in
      let number = accepted side.handle + 1 in
      let floor = s.floor in
      let count : length side.handle.line.batches ≡ length h.line.batches + length s.more = ap length s.line ∙ length-append h.line.batches s.more in
      let next : number ≡ accepted h + length s.more + 1 = omega (arith, floor, count) in
      let after = last_write-after number unmarked ops s.writes key in
      record {
        more = s.more ++ b ∷ [];
        floor = ap (λ (k : Handle). k.line.floor) acts.0 ∙ s.floor;
        line = ap (λ (k : Handle). k.line.batches) acts.0 ∙ ap (λ bs. bs ++ b ∷ []) s.line ∙ append_assoc h.line.batches s.more (b ∷ []);
        later = numbered-push (accepted h) s.more b s.later next;
        writes = after_writes number unmarked ops s.writes;
        tracks = ap (λ (k : Handle). k.writes) acts.0 ∙ ap (option_map (after_writes number unmarked ops)) s.tracks;
        start = ap start_of acts.1 ∙ s.start;
        level = ap (λ (t : Transaction). t.level) acts.1 ∙ s.level;
        quiet = go (list_any (λ (o : KeyOp). bytes_eq o.key key) ops) refl after next s.quiet;
      } where
        b' : Batch
        b' = next_batch side.handle ops at

        go : (any : Bool) → list_any (λ (o : KeyOp). bytes_eq o.key key) ops ≡ any
            → last_write (after_writes (accepted side.handle + 1) unmarked ops s.writes) key ≡ cond (list_any (λ (o : KeyOp). bytes_eq o.key key) ops && not (is_among unmarked key)) (accepted side.handle + 1) (last_write s.writes key)
            → accepted side.handle + 1 ≡ accepted h + length s.more + 1
            → (flat_map (versions_in key) s.more ≡ []) ⊎ (accepted h < last_write s.writes key)
            → (flat_map (versions_in key) (s.more ++ b' ∷ []) ≡ []) ⊎ (accepted h < last_write (after_writes (accepted side.handle + 1) unmarked ops s.writes) key)
        go true any after next quiet =
            let is = after ∙ ap (λ c. cond (c && not (is_among unmarked key)) (accepted side.handle + 1) (last_write s.writes key)) any ∙ ap (λ u. cond (not u) (accepted side.handle + 1) (last_write s.writes key)) (tracked any) in
            inr (omega (arith, is, next))
        go false any after next (inl none) =
            inl (flat_map-append (versions_in key) s.more (b' ∷ []) ∙ ap (λ vs. vs ++ (versions_in key b' ++ [])) none ∙ ap (λ vs. vs ++ []) (no-versions key (accepted side.handle + 1) at ops any))
        go false any after next (inr above) =
            let is = after ∙ ap (λ c. cond (c && not (is_among unmarked key)) (accepted side.handle + 1) (last_write s.writes key)) any in
            inr (omega (arith, is, above))
  since-next key side Turn new tracked acts s = since-still key side new s acts.0 acts.1 (ap start_of acts.2) (ap (λ (t : Transaction). t.level) acts.2)
  since-next key side (Add ops unmarked marked) new tracked acts s =
      since-still key side new s (ap (λ (k : Handle). k.line) acts.0) (ap (λ (k : Handle). k.writes) acts.0) (ap start_of acts.2) (ap (λ (t : Transaction). t.level) acts.2)
  since-next key side (Get at dirty found) new tracked acts s =
      since-still key side new s (ap (λ (k : Handle). k.line) acts.1) (ap (λ (k : Handle). k.writes) acts.1)
      (ap start_of acts.2 ∙ ap (λ (b : Batch). b.number) (own-got side.transaction.level at side.transaction)) (ap (λ (t : Transaction). t.level) acts.2 ∙ level-got side.transaction.level at side.transaction)
  since-next key side (Scan range order dirty rows fault) new tracked acts s =
      since-still key side new s (ap (λ (k : Handle). k.line) acts.1) (ap (λ (k : Handle). k.writes) acts.1)
      (ap start_of acts.2 ∙ ap (λ (b : Batch). b.number) (own-scanned side.transaction.level range side.transaction)) (ap (λ (t : Transaction). t.level) acts.2 ∙ level-scanned side.transaction.level range side.transaction)

  since-last : (key : List ℕ) (side : Side) (steps : List Step) → AllTrack key steps → Run x merge side steps → Since key side → Since key (last_side side steps)
  since-last key side [] tracked run s = s
  since-last key side (step ∷ steps) tracked run s = since-last key step.after steps tracked.1 run.1 (since-next key side step.act step.after tracked.0 run.0 s)

  -- ---- what was read stays read
  read-got : (level : IsolationLevel) (key at : List ℕ) (t : Transaction) → is_among t.read key ≡ true → is_among (having_got level at t).read key ≡ true
  read-got Snapshot key at t there = there
  read-got SerializableSnapshot key at t there = among-kept t.read at key there

  read-scanned : (level : IsolationLevel) (range : ByteRange) (t : Transaction) → (having_scanned level range t).read ≡ t.read
  read-scanned Snapshot range t = refl
  read-scanned SerializableSnapshot range t = refl

  read-next : (key : List ℕ) (side : Side) (act : Act) (new : Side) → Acts x merge side act new → is_among side.transaction.read key ≡ true → is_among new.transaction.read key ≡ true
  read-next key side (Write unmarked ops at) new acts there = ap (λ (t : Transaction). is_among t.read key) acts.1 ∙ there
  read-next key side Turn new acts there = ap (λ (t : Transaction). is_among t.read key) acts.2 ∙ there
  read-next key side (Add ops unmarked marked) new acts there = ap (λ (t : Transaction). is_among t.read key) acts.2 ∙ acts.1 key there
  read-next key side (Get at dirty found) new acts there = ap (λ (t : Transaction). is_among t.read key) acts.2 ∙ read-got side.transaction.level key at side.transaction there
  read-next key side (Scan range order dirty rows fault) new acts there =
      ap (λ (t : Transaction). is_among t.read key) acts.2 ∙ ap (λ read. is_among read key) (read-scanned side.transaction.level range side.transaction) ∙ there

  read-last : (key : List ℕ) (side : Side) (steps : List Step) → Run x merge side steps → is_among side.transaction.read key ≡ true → is_among (last_side side steps).transaction.read key ≡ true
  read-last key side [] run there = there
  read-last key side (step ∷ steps) run there = read-last key step.after steps run.1 (read-next key side step.act step.after run.0 there)

  -- the ranges that were scanned begin those that are scanned later
  abbrev Begins : List ByteRange → List ByteRange → Type 0
  Begins old new = (rest : List ByteRange) × (new ≡ old ++ rest)

  scanned-got : (level : IsolationLevel) (at : List ℕ) (t : Transaction) → (having_got level at t).scanned ≡ t.scanned
  scanned-got Snapshot at t = refl
  scanned-got SerializableSnapshot at t = refl

  scanned-more : (level : IsolationLevel) (range : ByteRange) (t : Transaction) → Begins t.scanned (having_scanned level range t).scanned
  scanned-more Snapshot range t = ([], sym (append-nil t.scanned))
  scanned-more SerializableSnapshot range t = (range ∷ [], refl)

  begins-same : (old new : List ByteRange) → new ≡ old → Begins old new
  begins-same old new same = ([], same ∙ sym (append-nil old))

  scanned-next : (side : Side) (act : Act) (new : Side) → Acts x merge side act new → Begins side.transaction.scanned new.transaction.scanned
  scanned-next side (Write unmarked ops at) new acts = begins-same _ _ (ap (λ (t : Transaction). t.scanned) acts.1)
  scanned-next side Turn new acts = begins-same _ _ (ap (λ (t : Transaction). t.scanned) acts.2)
  scanned-next side (Add ops unmarked marked) new acts = begins-same _ _ (ap (λ (t : Transaction). t.scanned) acts.2)
  scanned-next side (Get at dirty found) new acts = begins-same _ _ (ap (λ (t : Transaction). t.scanned) acts.2 ∙ scanned-got side.transaction.level at side.transaction)
  scanned-next side (Scan range order dirty rows fault) new acts =
      let more = scanned-more side.transaction.level range side.transaction in
      (more.0, ap (λ (t : Transaction). t.scanned) acts.2 ∙ more.1)

  scanned-last : (side : Side) (steps : List Step) → Run x merge side steps → Begins side.transaction.scanned (last_side side steps).transaction.scanned
  scanned-last side [] run = begins-same _ _ refl
  scanned-last side (step ∷ steps) run =
      let first = scanned-next side step.act step.after run.0 in
      let rest = scanned-last step.after steps run.1 in
      (first.0 ++ rest.0, rest.1 ∙ ap (λ rs. rs ++ rest.0) first.1 ∙ append_assoc side.transaction.scanned first.0 rest.0)

  -- ---- what a read saw, and what it would see at last
  bound-is : (t : Transaction) (k : Handle) (dirty : Bool) → start_of t ≡ accepted h → accepted h ≤ accepted k → start_bound t k Memory dirty ≡ Some (accepted h)
  bound-is t k true start above = ap Some start
  bound-is t k false start above = ap (λ n. Some (min n (accepted k))) start ∙ ap Some (min-eq_left above)

  seen-is : (key : List ℕ) (side : Side) (dirty : Bool) → Since key side → history (seen_by side.transaction (start_bound side.transaction side.handle Memory dirty) side.handle.line.batches) None key
      ≡ flat_map (versions_in key) h.line.batches ++ versions_in key side.transaction.own
  seen-is key side dirty s =
      let floor = s.floor in
      let count : length side.handle.line.batches ≡ length h.line.batches + length s.more = ap length s.line ∙ length-append h.line.batches s.more in
      let within = filter (λ (b : Batch). is_within (Some (accepted h)) b.number) in
      let front : within side.handle.line.batches ≡ h.line.batches =
      ap within s.line ∙ filter-append (λ (b : Batch). is_within (Some (accepted h)) b.number) h.line.batches s.more
      ∙ ap (λ bs. bs ++ within s.more) (up-to-all h.line.floor (accepted h) h.line.batches numbered (omega arith))
      ∙ ap (λ bs. h.line.batches ++ bs) (up-to-none (accepted h) (accepted h) s.more s.later (omega arith))
      ∙ append-nil h.line.batches
      in
      ap (λ n. history (seen_by side.transaction n side.handle.line.batches) None key) (bound-is side.transaction side.handle dirty s.start (omega (arith, floor, count)))
      ∙ seen-history (Some (accepted h)) side.handle.line.batches side.transaction.own key
      ∙ ap (λ bs. flat_map (versions_in key) bs ++ versions_in key side.transaction.own) front

  line-is : (key : List ℕ) (side : Side) (own : Batch) (s : Since key side) → last_write s.writes key ≤ accepted h →
      history (side.handle.line.batches ++ own ∷ []) None key ≡ flat_map (versions_in key) h.line.batches ++ versions_in key own
  line-is key side own s least =
      history-append side.handle.line.batches (own ∷ []) None key
      ∙ ap (λ vs. history side.handle.line.batches None key ++ vs) (append-nil (versions_in key own))
      ∙ ap (λ vs. vs ++ versions_in key own) (whole-history side.handle.line.batches key ∙ ap (flat_map (versions_in key)) s.line ∙ flat_map-append (versions_in key) h.line.batches s.more
      ∙ ap (λ vs. flat_map (versions_in key) h.line.batches ++ vs) (none s.quiet) ∙ append-nil (flat_map (versions_in key) h.line.batches)) where
        none : (flat_map (versions_in key) s.more ≡ []) ⊎ (accepted h < last_write s.writes key) → flat_map (versions_in key) s.more ≡ []
        none (inl is) = is
        none (inr above) = absurd (omega (arith, above, least))

  own-kept : (step : Step) (side : Side) (key : List ℕ) → step.after.transaction ≡ having_got side.transaction.level key side.transaction → step.after.transaction.own ≡ side.transaction.own
  own-kept step side key is = ap (λ (t : Transaction). t.own) is ∙ own-got side.transaction.level key side.transaction

  module _ (all : List Step) (last : Side) (quiet : (key : List ℕ) → AllTrack key all → Since key last)
      (unread : (key : List ℕ) (tracked : AllTrack key all) → is_among last.transaction.read key ≡ true → last_write (quiet key tracked).writes key ≤ accepted h)
      (unscanned : (range : ByteRange) (before rest : List ByteRange) → last.transaction.scanned ≡ (before ++ range ∷ []) ++ rest →
      (key : List ℕ) (tracked : AllTrack key all) → contains range key ≡ true → last_write (quiet key tracked).writes key ≤ accepted h) where
    same-at : (key : List ℕ) (tracked : AllTrack key all) (side : Side) (dirty : Bool) (own : Batch) → own ≡ side.transaction.own → Since key side → last_write (quiet key tracked).writes key ≤ accepted h →
        history (seen_by side.transaction (start_bound side.transaction side.handle Memory dirty) side.handle.line.batches) None key ≡ history (last.handle.line.batches ++ own ∷ []) None key
    same-at key tracked side dirty own own-is s least =
        seen-is key side dirty s ∙ ap (λ b. flat_map (versions_in key) h.line.batches ++ versions_in key b) (sym own-is) ∙ sym (line-is key last own (quiet key tracked) least)

    serial-step : (side : Side) (act : Act) (after : Side) → Acts x merge side act after → ((key : List ℕ) → AllTrack key all → Since key side) →
        side.transaction.level ≡ SerializableSnapshot →
        ((key : List ℕ) → is_among after.transaction.read key ≡ true → is_among last.transaction.read key ≡ true) →
        Begins after.transaction.scanned last.transaction.scanned → StillReads merge all last.handle.line.batches after.transaction.own act
    serial-step side (Write unmarked ops at) after acts since level read scanned = tt
    serial-step side Turn after acts since level read scanned = tt
    serial-step side (Add ops unmarked marked) after acts since level read scanned = tt
    serial-step side (Get key dirty found) after acts since level read scanned = λ (tracked : AllTrack key all).
        let t = side.transaction in
        let taken : is_among after.transaction.read key ≡ true =
        ap (λ (t : Transaction). is_among t.read key) acts.2 ∙ ap (λ l. is_among (having_got l key t).read key) level ∙ among-with t.read key in
        let own = ap (λ (t : Transaction). t.own) acts.2 ∙ own-got t.level key t in
        sym (read-same merge (seen_by t (start_bound t side.handle Memory dirty) side.handle.line.batches) (last.handle.line.batches ++ after.transaction.own ∷ []) key
        (same-at key tracked side dirty after.transaction.own own (since key tracked) (unread key tracked (read key taken))))
        ∙ acts.0
    serial-step side (Scan range order dirty rows fault) after acts since level read scanned = λ (tracked : (key : List ℕ) → contains range key ≡ true → AllTrack key all).
        let t = side.transaction in
        let taken : after.transaction.scanned ≡ t.scanned ++ range ∷ [] =
        ap (λ (t : Transaction). t.scanned) acts.2 ∙ ap (λ l. (having_scanned l range t).scanned) level in
        let own = ap (λ (t : Transaction). t.own) acts.2 ∙ own-scanned t.level range t in
        let all-scanned = scanned.1 ∙ ap (λ rs. rs ++ scanned.0) taken in
        scan-same merge (seen_by t (start_bound t side.handle Memory dirty) side.handle.line.batches) (last.handle.line.batches ++ after.transaction.own ∷ []) range order rows fault
        (λ key inside. same-at key (tracked key inside) side dirty after.transaction.own own (since key (tracked key inside))
        (unscanned range t.scanned scanned.0 all-scanned key (tracked key inside) inside))
        acts.0

    serial-steps : (side : Side) (steps : List Step) → Run x merge side steps → last ≡ last_side side steps → ((key : List ℕ) → AllTrack key all → AllTrack key steps) →
        ((key : List ℕ) → AllTrack key all → Since key side) → side.transaction.level ≡ SerializableSnapshot →
        AllByRecursion (λ (step : Step). StillReads merge all last.handle.line.batches step.after.transaction.own step.act) steps
    serial-steps side [] run last-is part since level = tt
    serial-steps side (step ∷ steps) run last-is part since level = (
      serial-step side step.act step.after run.0 since level
          (λ key there. ap (λ (s : Side). is_among s.transaction.read key) last-is ∙ read-last key step.after steps run.1 there)
          (let b = scanned-last step.after steps run.1 in (b.0, ap (λ (s : Side). s.transaction.scanned) last-is ∙ b.1)),
      serial-steps step.after steps run.1 last-is (λ key tracked. (part key tracked).1) (λ key tracked. since-next key side step.act step.after (part key tracked).0 run.0 (since key tracked)) (level-next side step.act step.after run.0 level),
    ) where
      level-next : (side : Side) (act : Act) (new : Side) → Acts x merge side act new → side.transaction.level ≡ SerializableSnapshot → new.transaction.level ≡ SerializableSnapshot
      level-next side (Write unmarked ops at) new acts is = ap (λ (t : Transaction). t.level) acts.1 ∙ is
      level-next side Turn new acts is = ap (λ (t : Transaction). t.level) acts.2 ∙ is
      level-next side (Add ops unmarked marked) new acts is = ap (λ (t : Transaction). t.level) acts.2 ∙ is
      level-next side (Get at dirty found) new acts is = ap (λ (t : Transaction). t.level) acts.2 ∙ level-got side.transaction.level at side.transaction ∙ is
      level-next side (Scan range order dirty rows fault) new acts is = ap (λ (t : Transaction). t.level) acts.2 ∙ level-scanned side.transaction.level range side.transaction ∙ is

  -- ---- where there is no conflict
  none-of : (a b c : Bool) → (a || b || c) ≡ false → (b ≡ false) × (c ≡ false)
  none-of true b c none = absurd (false≢true (sym none))
  none-of false true c none = absurd (false≢true (sym none))
  none-of false false c none = (refl, none)

  -- Each read of a transaction whose commit isn't in conflict is what it would be just before its batch.
  pub serial : (id : List ℕ) (steps : List Step) → Run x merge (first_side h id) steps → let last = last_side (first_side h id) steps in
      is_in_conflict last.transaction (writes_of last.handle) ≡ false → AreSerial merge steps last.handle.line.batches
  serial id steps run none =
      let last = last_side (first_side h id) steps in
      let quiet : (key : List ℕ) → AllTrack key steps → Since key last = λ key tracked. since-last key (first_side h id) steps tracked run (since-first id key) in
      let t = last.transaction in
      let w = writes_of last.handle in
      let parts = none-of (is_any_newer (start_of t) w t.own.ops t.unmarked) (list_any (is_newer (start_of t) w) t.read) (list_any (is_newer_in (start_of t) w) t.scanned) none in
      serial-steps steps last quiet
      (λ key tracked there.
      let s = quiet key tracked in
      let same : w ≡ s.writes = ap (λ ws. unwrap_or ws []) s.tracks in
      let start = s.start in
      let least = unread-newer (start_of t) w t.read key parts.0 there in
      subst (λ ws. last_write ws key ≤ accepted h) same (omega (arith, start, least)))
      (λ range before rest is key tracked inside.
      let s = quiet key tracked in
      let same : w ≡ s.writes = ap (λ ws. unwrap_or ws []) s.tracks in
      let start = s.start in
      let least = unscanned-newer (start_of t) w range key (scanned-among (start_of t) w before range rest (ap (list_any (is_newer_in (start_of t) w)) (sym is) ∙ parts.1)) inside in
      subst (λ ws. last_write ws key ≤ accepted h) same (omega (arith, start, least)))
      (first_side h id) steps run refl (λ key tracked. tracked) (λ key tracked. since-first id key) refl
