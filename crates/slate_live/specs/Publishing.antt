-- What is published of a reader that commands name.
use Rattle.std.specs.Prelude.{ℕ, Option, Some, None, slice_get}
use Rattle.std.specs.Option.{option_map}
use Rattle.slate_types.specs.Line.{Line, batches_above}
use Rattle.slate_published.specs.Published.{Published}
use Rattle.slate_model.specs.Follower.{Follower, number}
use Rattle.slate_model.specs.Handle.{up_to}
use Rattle.slate_model.specs.Object.{Object, Follower as AFollower}
use Rattle.slate_live.specs.World.{World}

-- the reader that an object is, where it is one
abbrev pub reader_of : Option Object → Option Follower
reader_of (Some (AFollower reader)) = Some reader
reader_of object = None

-- what a reader sees where this line is stored: its number, the manifest that it goes by, and the stored batches above the last
-- number in the tables of that, up to its own
abbrev pub seen_state : Line → Follower → Published
seen_state stored reader =
    let m = reader.view.manifest in
    record {
      number = number reader;
      manifest_id = reader.view.id;
      tables = m.tables;
      last_l0_seq = m.last_l0_seq;
      memory = batches_above m.last_l0_seq (up_to (number reader) stored).batches;
    }

-- what the reader with a number sees in a world
abbrev pub seen_at : World → ℕ → Option Published
seen_at w n = option_map (seen_state w.stored) (reader_of (slice_get w.objects n))
