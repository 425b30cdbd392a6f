use Rattle.std.proofs.Common.{Ok, Err, rules}
use Rattle.slate_store.proofs.Tries.{err-undecided, put-undecided, latest-known, with_plan, without_latest, without_plan}
use Rattle.slate_store.proofs.commits.attempt.Goals as goal

pub returns-in_err-latest-clause-follows : goal.returns-in_err-latest-clause-follows
returns-in_err-latest-clause-follows g c =
    let e = c.in_err-latest.field-0.0 in
    let read = c.in_err-latest.ensures in
    let all = without_latest (g.C.Change.plan c.args.change.now) e (latest-known (Err e) read.kept read.found) in
    search (rules, all)

pub returns-in_err-next-clause-follows : goal.returns-in_err-next-clause-follows
returns-in_err-next-clause-follows g c =
    let read = c.in_ok-latest.ensures in
    let all = without_plan (g.C.Change.plan c.args.change.now) c.in_ok-latest.latest (latest-known (Ok c.in_ok-latest.latest) read.kept read.found) _ c.in_err-next.field-0.0 c.in_err-next.ensures.plan c.in_err-next.ensures.refusals in
    search (rules, all)

pub returns-in_err-put_planned-clause-follows : goal.returns-in_err-put_planned-clause-follows
returns-in_err-put_planned-clause-follows g c =
    let read = c.in_ok-latest.ensures in
    let all = with_plan (g.C.Change.plan c.args.change.now) c.in_ok-latest.latest (latest-known (Ok c.in_ok-latest.latest) read.kept read.found) c.in_ok-next.next c.in_ok-next.answer _ c.in_ok-next.ensures.plan c.in_err-put_planned.ensures.puts in
    search (rules, all)

pub returns-clause-follows : goal.returns-clause-follows
returns-clause-follows g c =
    let read = c.in_ok-latest.ensures in
    let all = with_plan (g.C.Change.plan c.args.change.now) c.in_ok-latest.latest (latest-known (Ok c.in_ok-latest.latest) read.kept read.found) c.in_ok-next.next c.in_ok-next.answer _ c.in_ok-next.ensures.plan c.in_ok-put_planned.ensures.puts in
    search (rules, all)

pub returns-in_err-latest-clause-undecided : goal.returns-in_err-latest-clause-undecided
returns-in_err-latest-clause-undecided g c =
    let plan = g.C.Change.plan c.args.change.now in
    let e = c.in_err-latest.field-0.0 in
    let read = c.in_err-latest.ensures in
    let all = err-undecided plan e (without_latest plan e (latest-known (Err e) read.kept read.found)) in
    search (rules, all)

pub returns-in_err-next-clause-undecided : goal.returns-in_err-next-clause-undecided
returns-in_err-next-clause-undecided g c =
    let plan = g.C.Change.plan c.args.change.now in
    let e = c.in_err-next.field-0.0 in
    let read = c.in_ok-latest.ensures in
    let all = err-undecided plan e (without_plan plan c.in_ok-latest.latest (latest-known (Ok c.in_ok-latest.latest) read.kept read.found) _ e c.in_err-next.ensures.plan c.in_err-next.ensures.refusals) in
    search (rules, all)

pub returns-in_err-put_planned-clause-undecided : goal.returns-in_err-put_planned-clause-undecided
returns-in_err-put_planned-clause-undecided g c =
    let plan = g.C.Change.plan c.args.change.now in
    let e = c.in_err-put_planned.field-0.0 in
    let read = c.in_ok-latest.ensures in
    let all = err-undecided plan e (with_plan plan c.in_ok-latest.latest (latest-known (Ok c.in_ok-latest.latest) read.kept read.found) c.in_ok-next.next c.in_ok-next.answer _ c.in_ok-next.ensures.plan c.in_err-put_planned.ensures.puts) in
    search (rules, all)

pub returns-clause-undecided : goal.returns-clause-undecided
returns-clause-undecided g c =
    let plan = g.C.Change.plan c.args.change.now in
    let read = c.in_ok-latest.ensures in
    let all = put-undecided plan c.in_ok-latest.latest c.in_ok-next.next c.in_ok-next.answer _ (latest-known (Ok c.in_ok-latest.latest) read.kept read.found) c.in_ok-next.ensures.plan c.in_ok-put_planned.ensures.puts c.in_ok-put_planned.ensures.free in
    search (rules, all)
