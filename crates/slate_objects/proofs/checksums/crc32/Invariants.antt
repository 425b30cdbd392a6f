use Rattle.std.proofs.Common.{◌≡◌, ◌-◌, ◌^◌, drop}
use Rattle.slate_objects.specs.Checksum.{crc_bytes}
use Rattle.slate_objects.proofs.checksums.crc32.Given as goal

abbrev pub invariant-loop-byte : goal.invariant-loop-byte
invariant-loop-byte l = crc_bytes l.crc (drop l.byte-index l.bytes) ≡ crc_bytes (2 ^ 32 - 1) l.bytes
