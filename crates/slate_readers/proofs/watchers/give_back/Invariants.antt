use Rattle.std.proofs.Common.{◌≡◌, ◌≤◌, ◌++◌, length, map, vec_capacity}
use Rattle.slate_readers.specs.declared.watchers.Watcher.{Watcher}
use Rattle.slate_readers.proofs.watchers.give_back.Given as goal

abbrev pub invariant-loop-watcher : goal.invariant-loop-watcher
invariant-loop-watcher l =
    record {
      can_next : (goal.iterator-loop-watcher).can_next l.watcher-iterator;
      is_finite : (goal.iterator-loop-watcher).is_finite l.watcher-iterator;
      moved : l.readers.items ≡ map (λ (w : Watcher). w.reader) l.yielded;
      whole : l.fn.watchers.items ≡ l.yielded ++ l.watcher-iterator.rest.items;
      room : length l.fn.watchers.items ≤ vec_capacity l.readers;
    }
