use Rattle.slate_live.proofs.OthersBeside.{others_leave_them, polls_begin, readers_stand, steps_stand}
use Rattle.slate_live.proofs.laws.begun_polls_stand.Goals as goal

pub returns : goal.returns
returns c = record {
  readers = readers_stand;
  begin = polls_begin;
  others = others_leave_them;
  steps = steps_stand;
}
