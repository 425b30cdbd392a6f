use Rattle.std.proofs.Common.{◌≡◌, ◌≤◌, ◌++◌, length, map, vec_capacity, vec_len}
use Rattle.slate_dispatch.specs.Executors.{new_member}
use Rattle.slate_dispatch.proofs.executors.enrol.Given as goal

abbrev pub invariant-loop-task : goal.invariant-loop-task
invariant-loop-task g l =
    record {
      can_next : (goal.iterator-loop-task g).can_next l.task-iterator;
      is_finite : (goal.iterator-loop-task g).is_finite l.task-iterator;
      so_far : l.enrolled.items ≡ map new_member l.yielded;
      count : vec_len l.enrolled ≡ length l.yielded;
      whole : l.fn.tasks.items ≡ l.yielded ++ l.task-iterator.rest.items;
      room : length l.fn.tasks.items ≤ vec_capacity l.enrolled;
    }
