use Rattle.std.proofs.Common.{◌≡◌, pos, ◌-◌, ◌-ℤ◌}
use Rattle.slate_seqtrack.specs.Reading.{behind, later_at}
use Rattle.slate_seqtrack.proofs.decoding.read_later.Given as goal

abbrev pub invariant-loop : goal.invariant-loop
invariant-loop l =
    behind l.values.items (later_at (l.count - l.counter) l.previous (l.previous -ℤ l.before) l.reader) ≡ behind l.fn.values.items (later_at l.count l.first (pos 0) l.fn.reader)
