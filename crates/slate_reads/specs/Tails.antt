-- The versions that a read holds while it looks for a key's tail.
use Rattle.std.specs.Prelude.{◌≡◌, ℕ, Bool, List, [], ◌++◌, map, reverse, if◌then◌else◌}
use Rattle.std.specs.List.{AllByRecursion}
use Rattle.slate_reads.specs.declared.reads.Version.{Version as Held}
use Rattle.slate_reads.specs.Read.{Version, since_base}

-- a version that the code holds, as a read sees it
abbrev pub seen : Held → Version
seen held = record { op = held.key_op.now.op; number = held.batch.now.number; create_ts = held.batch.now.create_ts }

-- The versions held are those of a key since the last put or delete of a history.
pub record IsTail (key : List ℕ) (history : List Version) (held : List Held) : Type 0 where
  pub tail : map seen held ≡ since_base history
  pub same_key : AllByRecursion (λ h. h.key_op.now.key ≡ key) held

-- The versions held, newest first, end a tail of a key. Unless a put or a delete has ended the search, what goes before
-- them is the tail of the rest.
pub record IsEnd (key : List ℕ) (whole rest : List Version) (ended : Bool) (held : List Held) : Type 0 where
  pub tail : (if ended then [] else since_base rest) ++ reverse (map seen held) ≡ whole
  pub same_key : AllByRecursion (λ h. h.key_op.now.key ≡ key) held

-- The versions held, newest first, end a history of a key. What goes before them is the rest.
pub record IsBack (key : List ℕ) (whole rest : List Version) (held : List Held) : Type 0 where
  pub joined : rest ++ reverse (map seen held) ≡ whole
  pub same_key : AllByRecursion (λ h. h.key_op.now.key ≡ key) held
