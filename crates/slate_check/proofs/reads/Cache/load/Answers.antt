use Rattle.std.proofs.Common.{◌∙◌, ap, subst}
use Rattle.std.specs.List.{All}
use Rattle.slate_store.specs.Content.{StoresTable, table_batches}
use Rattle.slate_check.specs.Reads.{FindsLogs, FindsTables}
use Rattle.slate_check.proofs.reads.Cache.load.Goals as goal

pub returns-then-manifest-mark-clause-found : goal.returns-then-manifest-mark-clause-found
returns-then-manifest-mark-clause-found g c o h a =
    let found = subst (FindsTables o c.as_slice.result.now) c.in-Ok.is (c.in_ok-tables.ensures.found o h a) in
    (subst (All (StoresTable o)) c.as_slice.ensures found.0, c.if-manifest-mark.true)

pub returns-in-Ok-2-clause-found : goal.returns-in-Ok-2-clause-found
returns-in-Ok-2-clause-found g c o h a =
    let found = subst (FindsTables o c.as_slice.result.now) c.in-Ok.is (c.in_ok-tables.ensures.found o h a) in
    let logs = subst (FindsLogs o c.args.manifest.now.replay_after_wal_id c.args.last) c.in-Ok-2.is
    (c.in_ok-logs.ensures.found o (c.in_ok-tables.ensures.kept ∙ h) (c.in_ok-tables.ensures.of o h a)) in
    record {
      stored = subst (All (StoresTable o)) c.as_slice.ensures found.0;
      joined = found.1 ∙ ap (table_batches o) c.as_slice.ensures;
      next = c.if-manifest-mark.false;
      logs_stored = logs.0;
      logged = logs.1;
    }

pub returns-in-Err-2-clause-found : goal.returns-in-Err-2-clause-found
returns-in-Err-2-clause-found g c o h a =
    let found = subst (FindsTables o c.as_slice.result.now) c.in-Ok.is (c.in_ok-tables.ensures.found o h a) in
    let logs = subst (FindsLogs o c.args.manifest.now.replay_after_wal_id c.args.last) c.in-Err-2.is
    (c.in_ok-logs.ensures.found o (c.in_ok-tables.ensures.kept ∙ h) (c.in_ok-tables.ensures.of o h a)) in
    (subst (All (StoresTable o)) c.as_slice.ensures found.0, c.if-manifest-mark.false, logs.0, logs.1, logs.2, logs.3)
