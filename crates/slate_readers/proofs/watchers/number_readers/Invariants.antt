use Rattle.std.proofs.Common.{◌≡◌, ◌++◌, length, map}
use Rattle.slate_readers.specs.declared.watchers.Watcher.{Watcher}
use Rattle.slate_readers.proofs.watchers.number_readers.Given as goal

abbrev pub invariant-loop-reader : goal.invariant-loop-reader
invariant-loop-reader l =
    record {
      can_next : (goal.iterator-loop-reader).can_next l.reader-iterator;
      is_finite : (goal.iterator-loop-reader).is_finite l.reader-iterator;
      moved : map (λ (w : Watcher). w.reader) l.watchers.items ≡ l.yielded;
      whole : l.fn.readers.items ≡ l.yielded ++ l.reader-iterator.rest.items;
      number : l.number ≡ length l.yielded;
    }
