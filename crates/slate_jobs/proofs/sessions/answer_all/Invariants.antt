-- the commands so far are events, and there is room for the answers to the others
use Rattle.std.proofs.Common.{◌≡◌, ◌≤◌, ◌++◌, List, Some, length, vec_len, vec_capacity}
use Rattle.slate_store.specs.Objects.{Objects}
use Rattle.slate_jobs.specs.Histories.{Event}
use Rattle.slate_jobs.specs.Session.{AreOf, AreRun, IsAlive, running}
use Rattle.slate_jobs.proofs.sessions.answer_all.Given as goal

abbrev pub invariant-loop-command : goal.invariant-loop-command
invariant-loop-command g l =
    record {
      can_next : (goal.iterator-loop-command g).can_next l.command-iterator;
      is_finite : (goal.iterator-loop-command g).is_finite l.command-iterator;
      faults : g.S.Store.faults l.fn.store ≤ g.S.Store.faults l.store;
      count : vec_len l.answers ≡ length l.yielded;
      whole : l.fn.commands.items ≡ l.yielded ++ l.command-iterator.rest.items;
      room : length l.fn.commands.items ≤ vec_capacity l.answers;
      each : (events : List Event) × AreOf l.yielded l.answers.items events;
      runs : (o : Objects) → g.S.Store.objects l.fn.store ≡ Some o → IsAlive (running o (g.S.Store.faults l.fn.store) l.fn.jobs) →
          (events : List Event) × (o' : Objects) × (g.S.Store.objects l.store ≡ Some o') × AreOf l.yielded l.answers.items events
          × AreRun events (running o (g.S.Store.faults l.fn.store) l.fn.jobs) (running o' (g.S.Store.faults l.store) l.jobs)
          × IsAlive (running o' (g.S.Store.faults l.store) l.jobs);
    }
