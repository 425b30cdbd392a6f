-- the commands so far led to a world that state, store and feeds stand for, and there is room for the answers to the others
use Rattle.std.proofs.Common.{◌≡◌, ◌≤◌, List, Some, length, take, vec_len, vec_capacity}
use Rattle.slate_store.specs.Content.{IsSound}
use Rattle.slate_store.specs.Objects.{Objects}
use Rattle.slate_model.specs.Known.{known}
use Rattle.slate_feed.specs.Session.{FeedStep, StandFor, feed_settings, last_fed, start_fed}
use Rattle.slate_feed.proofs.Fed.{Done}
use Rattle.slate_feed.proofs.sessions.run_commands.Given as goal

abbrev pub invariant-loop-command : goal.invariant-loop-command
invariant-loop-command g l =
    record {
      faults : g.S.Store.faults l.fn.store ≤ g.S.Store.faults l.store;
      count : vec_len l.answers ≡ l.command-index;
      room : length l.commands ≤ vec_capacity l.answers;
      options : l.live.options ≡ feed_settings.options;
      leads : (before : Objects) → g.S.Store.objects l.fn.store ≡ Some before → IsSound before →
          (steps : List FeedStep) × Done (start_fed before (g.S.Store.faults l.fn.store)) (take l.command-index l.commands) l.answers.items steps
          × StandFor l.live (known g.S.Store.objects g.S.Store.faults l.store) l.feeds.items (last_fed (start_fed before (g.S.Store.faults l.fn.store)) steps);
    }
