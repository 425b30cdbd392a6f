use Rattle.std.proofs.Common.{◌-◌, length}
use Rattle.slate_readers.specs.Changes.{NoneBelow}
use Rattle.slate_readers.proofs.broadcasts.first_reader.Given as goal

abbrev pub invariant-loop-place : goal.invariant-loop-place
invariant-loop-place l = NoneBelow l.fn.place l.live.objects → NoneBelow l.place l.live.objects

abbrev pub decreases-loop-place : goal.decreases-loop-place
decreases-loop-place l = length l.live.objects - l.place
