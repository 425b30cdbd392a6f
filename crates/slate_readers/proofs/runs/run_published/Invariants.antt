use Rattle.std.proofs.Common.{◌≡◌, ◌≤◌, List, Some, length, take, vec_len, vec_capacity}
use Rattle.slate_reads.specs.Read.{IsOperator}
use Rattle.slate_store.specs.Objects.{Objects}
use Rattle.slate_store.specs.Content.{IsSound}
use Rattle.slate_model.specs.Known.{known}
use Rattle.slate_model.specs.Segments.{IsExtractor}
use Rattle.slate_live.specs.Run.{DoAll, none_live}
use Rattle.slate_live.specs.Settings.{Settings}
use Rattle.slate_readers.proofs.Publishing.{IsPublishing}
use Rattle.slate_readers.proofs.runs.run_published.Given as goal

-- the commands so far led to a world that state and store represent, what its first reader saw was published, and there is room for
-- the replies to the others
abbrev pub invariant-loop-command : goal.invariant-loop-command
invariant-loop-command g l =
    record {
      faults : g.S.Store.faults l.fn.store ≤ g.S.Store.faults l.store;
      count : vec_len l.replies ≡ l.command-index;
      room : length l.script.commands.now ≤ vec_capacity l.replies;
      options : l.live.options ≡ l.script.options.now;
      origin : l.broadcast.list.origin ≡ l.fn.broadcast.list.origin;
      does : (settings : Settings) → IsOperator g.M.MergeOperator.may_answer l.script.operator.now settings.merge → IsExtractor g.E.PrefixExtractor.may_name g.E.PrefixExtractor.may_extract l.script.extractor.now settings.extractor → settings.options ≡ l.script.options.now →
          DoAll settings (none_live settings.options) (known g.S.Store.objects g.S.Store.faults l.fn.store)
          (take l.command-index l.script.commands.now) l.replies.items l.live (known g.S.Store.objects g.S.Store.faults l.store);
      leads : (settings : Settings) → IsOperator g.M.MergeOperator.may_answer l.script.operator.now settings.merge → IsExtractor g.E.PrefixExtractor.may_name g.E.PrefixExtractor.may_extract l.script.extractor.now settings.extractor → settings.options ≡ l.script.options.now →
          (before : Objects) → g.S.Store.objects l.fn.store ≡ Some before → IsSound before →
          IsPublishing settings before (g.S.Store.faults l.fn.store) (take l.command-index l.script.commands.now) l.replies.items l.live (known g.S.Store.objects g.S.Store.faults l.store) l.broadcast;
    }
