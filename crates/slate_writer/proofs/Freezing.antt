-- What a flush to a table puts of a handle is that of the handle before its memory was frozen.
use Rattle.std.proofs.Common.{◌≡◌, ℕ, true, List, Option, Result, subst}
use Rattle.slate_types.specs.declared.batches.Batch.{Batch}
use Rattle.slate_store.specs.declared.objects.VersionedManifest.{VersionedManifest}
use Rattle.slate_store.specs.Calls.{WhereModelled}
use Rattle.slate_store.specs.Objects.{Objects}
use Rattle.slate_errors.specs.declared.errors.SlateError.{SlateError}
use Rattle.slate_model.specs.Handle.{Handle, next_table, to_log}
use Rattle.slate_writer.specs.Puts.{DurableThen, MakesPart, table_puts}

-- what is put of a handle, by its answer
abbrev pub PutsAll : List Batch → VersionedManifest → Result (Unit {0}) SlateError → Handle → Option Objects → Option Objects → Handle → Type 0
PutsAll table next result new before after old =
    (made : ℕ) × DurableThen made old result new
    × WhereModelled (MakesPart true (table_puts next.manifest.replay_after_wal_id (to_log old) (next_table old) table next) result old.counter new.counter made) before after

pub put-frozen : {before after : Option Objects} {result : Result (Unit {0}) SlateError} (old frozen new : Handle) (table : List Batch) (next : VersionedManifest) → frozen ≡ old →
    PutsAll table next result new before after frozen → PutsAll table next result new before after old
put-frozen {before} {after} {result} old frozen new table next same put = subst (PutsAll table next result new before after) same put
