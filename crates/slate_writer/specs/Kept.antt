-- What a handle keeps in memory, and the handle of the model that it represents.
use Rattle.std.specs.Prelude.{◌≡◌, true, ◌+◌, ◌<◌, ◌≤◌, ◌^◌, length, min, option_map, Some, IfSome}
use Rattle.slate_seqtrack.specs.Tracker.{last_number}
use Rattle.slate_types.specs.Line.{AreNumberedFrom, batches_above}
use Rattle.slate_model.specs.Handle.{Handle}
use Rattle.slate_model.specs.Unflushed.{most_bytes}
use Rattle.slate_reads.specs.Size.{size_of}
use Rattle.slate_status.specs.Segments.{PrefixesRise}
use Rattle.std.specs.Arc.{arc_value}
use Rattle.slate_writer.specs.Board.{lead_at, words_of}
use Rattle.slate_writer.specs.declared.states.WriterState.TheInside.{Inside}

-- the handle that the fields represent
abbrev pub handle_of : Inside → Handle
handle_of a =
    record {
      keeps_log = a.keeps_log;
      limit = a.limit;
      line = record { floor = a.floor; batches = a.memory };
      segments = a.segments.items;
      durable = a.status.durable;
      epoch = a.epoch;
      counter = a.counter;
      tick = a.tick;
      tracker = a.tracker;
      writes = option_map (λ t. t.writes) a.tracked;
      view = a.status.manifest;
      result = a.status.result;
      tasks = a.tasks.names;
    }

-- the batches in memory are numbered from the floor on, none past the last of them is stored or tracked, their prefixes
-- rise, and so do those of the view where the handle says so, its seat is the lead of its board and has seen its words,
-- those above a number have so many bytes, and tasks that have ended were told the result with which it closed
pub record IsKeptHandle (a : Inside) : Type 0 where
  pub numbered : AreNumberedFrom a.floor a.memory
  pub fits : a.floor + length a.memory < 2 ^ 64
  pub durable : a.status.durable ≤ a.floor + length a.memory
  pub tracked : IfSome (last_number a.tracker.pairs) (λ last. last ≤ a.floor + length a.memory)
  pub rising : PrefixesRise a.segments.items
  pub stored : a.stored_rise ≡ true → PrefixesRise a.status.manifest.manifest.segments
  pub seated : a.lead ≡ lead_at (arc_value a.board) (words_of (handle_of a))
  pub told : IfSome a.tasks.told (λ outcome. a.status.result ≡ Some outcome)
  pub counted : a.unlogged ≡ min (size_of (batches_above a.counted a.memory)) most_bytes
