-- the bytes so far are written behind the old text
use Rattle.std.proofs.Common.{◌≡◌, ◌++◌, take}
use Rattle.std.specs.List.{flat_map}
use Rattle.slate_text.specs.Words.{byte_text}
use Rattle.slate_text.proofs.words.write_bytes.Given as goal

abbrev pub invariant-loop-byte : goal.invariant-loop-byte
invariant-loop-byte l = l.out.items ≡ l.fn.out.items ++ flat_map byte_text (take l.byte-index l.bytes)
