use Rattle.std.proofs.Common.{◌∙◌, ap}
use Rattle.std.specs.Map.{keys_of}
use Rattle.slate_store.specs.Objects.{greatest}
use Rattle.slate_store.proofs.LastLog.{greatest_key}
use Rattle.slate_store.proofs.memory_store.MemoryStoreStore.last_log.Goals as goal

pub returns-in-Some-clause-found : goal.returns-in-Some-clause-found
returns-in-Some-clause-found c =
    let logs = c.count_call.new.self.logs.entries in
    c.max.ensures
    ∙ (greatest_key c.args.after c.in-Some.id.now _ logs _ c.in-Some.ensures.last c.in-Some.ensures.all_up_to
    ∙ ap (λ s. greatest c.args.after (keys_of s.logs.entries)) c.count_call.ensures)
