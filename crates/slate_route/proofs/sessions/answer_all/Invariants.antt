-- the commands so far led to a route that state, store and router stand for, and there is room for the answers to the others
use Rattle.std.proofs.Common.{◌≡◌, ◌≤◌, ◌++◌, List, [], length, vec_len, vec_capacity}
use Rattle.slate_model.specs.Known.{known}
use Rattle.slate_route.specs.Session.{Route, RouteStep, StandFor, last_route, route_settings}
use Rattle.slate_route.proofs.Running.{Done}
use Rattle.slate_route.proofs.sessions.answer_all.Given as goal

abbrev pub invariant-loop-command : goal.invariant-loop-command
invariant-loop-command g l =
    record {
      can_next : (goal.iterator-loop-command g).can_next l.command-iterator;
      is_finite : (goal.iterator-loop-command g).is_finite l.command-iterator;
      faults : g.S.Store.faults l.fn.store ≤ g.S.Store.faults l.store;
      count : vec_len l.answers ≡ length l.yielded;
      whole : l.fn.commands.items ≡ l.yielded ++ l.command-iterator.rest.items;
      room : length l.fn.commands.items ≤ vec_capacity l.answers;
      options : l.live.options ≡ route_settings.options;
      leads : (first : Route) → StandFor l.fn.live (known g.S.Store.objects g.S.Store.faults l.fn.store) [] first →
          (steps : List RouteStep) × Done first l.yielded l.answers.items steps × StandFor l.live (known g.S.Store.objects g.S.Store.faults l.store) l.router (last_route first steps);
    }
