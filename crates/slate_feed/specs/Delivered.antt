-- What one feed delivers over all of its calls.
use Rattle.std.specs.Prelude.{◌≡◌, ℕ, ◌+◌, List, [], ◌∷◌, ◌++◌, length}
use Rattle.std.specs.List.{flat_map}
use Rattle.slate_types.specs.declared.batches.Batch.{Batch}
use Rattle.slate_types.specs.Line.{AreNumberedFrom, IsLine, IsPrefix, Line, batches_above}

-- these batches are those of a line right above a cursor: numbered one after another from it on, they begin what the line has above it
pub record BeginsAbove (cursor : ℕ) (line : Line) (batches : List Batch) : Type 0 where
  pub numbered : AreNumberedFrom cursor batches
  pub rest : List Batch
  pub begins : batches_above cursor line.batches ≡ batches ++ rest

-- a call of a feed: the line that was stored then, and the batches that it delivered, none where it was refused
pub record Delivery : Type 0 where
  pub line : Line
  pub batches : List Batch

-- Calls of one feed, one after another, while the stored line only grows: each delivers what is right above the cursor then, and leaves
-- the cursor at the last one's number.
abbrev pub AreDeliveries : (cursor : ℕ) → Line → List Delivery → Type 0
AreDeliveries cursor line [] = Unit {0}
AreDeliveries cursor line (call ∷ calls) =
    IsPrefix line call.line × IsLine call.line × BeginsAbove cursor call.line call.batches × AreDeliveries (cursor + length call.batches) call.line calls

-- all that they delivered, in order
abbrev pub delivered_by : List Delivery → List Batch
delivered_by calls = flat_map (λ call. call.batches) calls

-- the line that is stored at the last of them
abbrev pub last_line : Line → List Delivery → Line
last_line line [] = line
last_line line (call ∷ calls) = last_line call.line calls

-- What was delivered is what the stored line has above the cursor at which the feed was opened, up to its cursor, each batch once: what
-- is left of the line is above that.
abbrev pub DeliversTheLine : Type 0
DeliversTheLine =
    (cursor : ℕ) (line : Line) (calls : List Delivery) → IsLine line → AreDeliveries cursor line calls →
    AreNumberedFrom cursor (delivered_by calls)
    × (batches_above cursor (last_line line calls).batches
    ≡ delivered_by calls ++ batches_above (cursor + length (delivered_by calls)) (last_line line calls).batches)
