use Rattle.std.proofs.Common.{◌≡◌, take}
use Rattle.slate_blobs.specs.Kept.{bytes_of}
use Rattle.slate_blobs.proofs.kept_tables.bytes_of.Given as goal

-- the bytes so far
abbrev pub invariant-loop-kept : goal.invariant-loop-kept
invariant-loop-kept l = l.bytes ≡ bytes_of (take l.kept-index l.tables)
