use Rattle.std.proofs.Common.{◌≡◌, ◌≤◌, List, Some, length, take, vec_len, vec_capacity}
use Rattle.std.specs.Option.{option_copied}
use Rattle.slate_store.specs.Objects.{Objects}
use Rattle.slate_store.specs.Content.{IsSound}
use Rattle.slate_model.specs.Known.{known}
use Rattle.slate_live.specs.Lawful.{AreLawful, asks_in}
use Rattle.slate_live.specs.Run.{DoAll, none_live}
use Rattle.slate_live.specs.Steps.{Step, last_world}
use Rattle.slate_live.specs.Represents.{AllInSegments, Represents}
use Rattle.slate_live.specs.Settings.{Settings}
use Rattle.slate_live.specs.World.{start}
use Rattle.slate_live.proofs.Chains.{Done}
use Rattle.slate_live.proofs.runs.run.Given as goal

-- the commands so far led to a world that state and store represent, and there is room for the replies to the others
abbrev pub invariant-loop-command : goal.invariant-loop-command
invariant-loop-command g l =
    record {
      faults : g.S.Store.faults l.fn.store ≤ g.S.Store.faults l.store;
      count : vec_len l.replies ≡ l.command-index;
      room : length l.commands ≤ vec_capacity l.replies;
      options : l.live.options ≡ l.options;
      does : (settings : Settings) → AreLawful g.M.MergeOperator.may_answer (option_copied l.operator) g.E.PrefixExtractor.may_name g.E.PrefixExtractor.may_extract (option_copied l.extractor) settings (asks_in l.commands) → settings.options ≡ l.options →
          DoAll settings (none_live settings.options) (known g.S.Store.objects g.S.Store.faults l.fn.store)
          (take l.command-index l.commands) l.replies.items l.live (known g.S.Store.objects g.S.Store.faults l.store);
      leads : (settings : Settings) → AreLawful g.M.MergeOperator.may_answer (option_copied l.operator) g.E.PrefixExtractor.may_name g.E.PrefixExtractor.may_extract (option_copied l.extractor) settings (asks_in l.commands) → settings.options ≡ l.options →
          (before : Objects) → g.S.Store.objects l.fn.store ≡ Some before → IsSound before →
          (steps : List Step) × Done settings (start before (g.S.Store.faults l.fn.store)) (take l.command-index l.commands) l.replies.items steps
          × Represents l.live (known g.S.Store.objects g.S.Store.faults l.store) (last_world (start before (g.S.Store.faults l.fn.store)) steps)
          × AllInSegments settings.extractor (last_world (start before (g.S.Store.faults l.fn.store)) steps);
    }
