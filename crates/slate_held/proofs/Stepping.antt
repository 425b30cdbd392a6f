-- A handle stays in step with its store over changes that move neither its line nor what it stored.
use Rattle.std.proofs.Common.{◌≡◌, ℕ, ◌<◌, ◌≤◌, inl, inr, List, All, Option, Some, None, refl, sym, subst, ap, ◌∙◌, arith}
use Rattle.std.specs.List.{Contains}
use Rattle.std.specs.Option.{IfSome}
use Rattle.std.proofs.lemmas.List.Elements.{All-weaker}
use Rattle.slate_types.specs.declared.batches.Batch.{Batch}
use Rattle.slate_types.specs.Line.{IsLine, end}
use Rattle.slate_store.specs.declared.objects.Manifest.{Manifest}
use Rattle.slate_store.specs.declared.objects.TableId.{TableId}
use Rattle.slate_store.specs.declared.objects.VersionedManifest.{VersionedManifest}
use Rattle.slate_store.specs.Logs.{IsLogged}
use Rattle.slate_store.specs.Objects.{IsGreatest, Objects, PutManifest, changed, latest_manifest, log_at, table_at}
use Rattle.slate_store.proofs.Latest.{next-greatest, next-latest}
use Rattle.slate_model.specs.Handle.{CloseResult, Handle}
use Rattle.slate_held.specs.Keeping.{IsInStep, IsKept, IsStored, IsTabled}

-- ---- where batches stand
pub logged-same : (mark : ℕ) (o o' : Objects) (b : Batch) → ((id : ℕ) → mark < id → log_at id o' ≡ log_at id o) → IsLogged mark o b → IsLogged mark o' b
logged-same mark o o' b same x = record { id = x.id; log = x.log; above = x.above; stored = same x.id x.above ∙ x.stored; has = x.has }

pub tabled-same : (m m' : Manifest) (o o' : Objects) (b : Batch) → m'.tables ≡ m.tables → ((id : TableId) → Contains m.tables id → table_at id o' ≡ table_at id o) → IsTabled m o b → IsTabled m' o' b
tabled-same m m' o o' b tables same x =
    record { id = x.id; table = x.table; named = subst (λ (ids : List TableId). Contains ids x.id) (sym tables) x.named; stored = same x.id x.named ∙ x.stored; has = x.has }

-- what a manifest names stands: its log files above the replay mark, and its tables
pub record Stands (m : Manifest) (o o' : Objects) : Type 0 where
  pub logs : (id : ℕ) → m.replay_after_wal_id < id → log_at id o' ≡ log_at id o
  pub tables : (id : TableId) → Contains m.tables id → table_at id o' ≡ table_at id o

pub stands-then : (m : Manifest) (a b c : Objects) → Stands m a b → Stands m b c → Stands m a c
stands-then m a b c x y = record {
  logs = λ id above. y.logs id above ∙ x.logs id above;
  tables = λ id named. y.tables id named ∙ x.tables id named;
}

-- a manifest that names the same
pub record NamesSame (m m' : Manifest) : Type 0 where
  pub mark : m'.replay_after_wal_id ≡ m.replay_after_wal_id
  pub tables : m'.tables ≡ m.tables
  pub epoch : m'.writer_epoch ≡ m.writer_epoch
  pub number : m'.last_l0_seq ≡ m.last_l0_seq

stored-same : (r : CloseResult) (m m' : Manifest) (o o' : Objects) (b : Batch) → m'.replay_after_wal_id ≡ m.replay_after_wal_id → m'.tables ≡ m.tables → Stands m o o' → IsStored r m o b → IsStored r m' o' b
stored-same r m m' o o' b mark tables stands (inl log) = inl (subst (λ k. IsLogged k o' b) (sym mark) (logged-same m.replay_after_wal_id o o' b stands.logs log))
stored-same r m m' o o' b mark tables stands (inr table) = inr (table.0, tabled-same m m' o o' b tables stands.tables table.1)

-- ---- the same handle
-- after objects whose latest manifest names the same, and in which that stands
pub step-over : (h : Handle) (o o' : Objects) (latest next : VersionedManifest) → IsInStep h o latest → latest_manifest o' ≡ Some next → IsGreatest o' next → NamesSame latest.manifest next.manifest → Stands latest.manifest o o' → IsInStep h o' next
step-over h o o' latest next s is greatest names stands = record {
  is = is;
  greatest = greatest;
  epoch = names.epoch ∙ s.epoch;
  tabled = λ unclosed. names.number ∙ s.tabled unclosed;
  floor = s.floor;
  stored = All-weaker (λ b. b.number ≤ h.durable → IsStored h.result latest.manifest o b) (λ b. b.number ≤ h.durable → IsStored h.result next.manifest o' b)
      (λ b at low. stored-same h.result latest.manifest next.manifest o o' b names.mark names.tables stands (at low)) h.line.batches s.stored;
}

pub names-same : (m : Manifest) → NamesSame m m
names-same m = record { mark = refl; tables = refl; epoch = refl; number = refl }

-- after a put of the next manifest, which names the same
pub step-put : (h : Handle) (o : Objects) (latest next : VersionedManifest) → IsInStep h o latest → latest.id < next.id → NamesSame latest.manifest next.manifest → IsInStep h (changed (PutManifest next.id next.manifest) o) next
step-put h o latest next s above names =
    step-over h o (changed (PutManifest next.id next.manifest) o) latest next s (next-latest o latest.id next s.greatest above) (next-greatest o latest.id next s.greatest above) names
    (record { logs = λ id over. refl; tables = λ id named. refl })

-- ---- a handle that goes on from another, over the same objects
-- one that is closed in the end, and else as it was
pub step-closed : (h k : Handle) (o : Objects) (latest : VersionedManifest) → k.line ≡ h.line → k.durable ≡ h.durable → k.view ≡ h.view → k.epoch ≡ h.epoch → (k.result ≡ None → h.result ≡ None) → IsInStep h o latest → IsInStep k o latest
step-closed h k o latest line durable view epoch closed s = record {
  is = s.is;
  greatest = s.greatest;
  epoch = s.epoch ∙ sym epoch;
  tabled = λ unclosed. s.tabled (closed unclosed) ∙ ap (λ (v : VersionedManifest). v.manifest.last_l0_seq) (sym view);
  floor = ap (λ l. l.floor) line ∙ (s.floor ∙ ap (λ (v : VersionedManifest). v.manifest.last_l0_seq) (sym view));
  stored = subst (λ (l : List Batch). All (λ b. b.number ≤ k.durable → IsStored k.result latest.manifest o b) l) (ap (λ l. l.batches) (sym line))
      (All-weaker (λ b. b.number ≤ h.durable → IsStored h.result latest.manifest o b) (λ b. b.number ≤ k.durable → IsStored k.result latest.manifest o b)
      (λ b at low. weaker b (at (omega (arith, low, durable)))) h.line.batches s.stored);
} where
  weaker : (b : Batch) → IsStored h.result latest.manifest o b → IsStored k.result latest.manifest o b
  weaker b (inl log) = inl log
  weaker b (inr table) = inr (λ none. table.0 (closed none), table.1)

pub kept-closed : (t : Option Objects) (h k : Handle) → k.line ≡ h.line → k.durable ≡ h.durable → k.view ≡ h.view → k.epoch ≡ h.epoch → (k.result ≡ None → h.result ≡ None) → IsKept t h → IsKept t k
kept-closed t h k line durable view epoch closed kept = record {
  line = subst (λ l. IsLine l) (sym line) kept.line;
  durable = (let low = kept.durable in let e = ap end line in omega (arith, low, durable, e));
  step = by t kept.step;
} where
  by : (t : Option Objects) → IfSome t (λ o. (latest : VersionedManifest) × IsInStep h o latest) → IfSome t (λ o. (latest : VersionedManifest) × IsInStep k o latest)
  by None s = tt
  by (Some o) s = (s.0, step-closed h k o s.0 line durable view epoch closed s.1)
