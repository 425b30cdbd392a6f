use Rattle.std.proofs.Common.{◌≡◌, ◌≤◌, take, drop, map}
use Rattle.slate_reads.specs.Read.{since_base}
use Rattle.slate_reads.specs.Tails.{seen}
use Rattle.slate_rows.proofs.scans.tail_start.Given as goal

abbrev pub invariant-loop-i : goal.invariant-loop-i
invariant-loop-i l = record {
  before : l.start ≤ l.i;
  tail : map seen (drop l.start (take l.i l.versions)) ≡ since_base (map seen (take l.i l.versions));
}
