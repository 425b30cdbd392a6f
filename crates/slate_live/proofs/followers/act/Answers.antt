use Rattle.std.proofs.Common.{rules, ◌≡◌, ◌∙◌, ℕ, ℤ, List, Some, ap, refl, sym, subst, w64, to_z, of_z}
use Rattle.slate_model.specs.Known.{Known, known}
use Rattle.slate_model.specs.Stores.{by_objects}
use Rattle.slate_live.specs.Followers.{FollowerActs, PollsFollower}
use Rattle.slate_live.specs.Settings.{Settings}
use Rattle.slate_live.specs.declared.states.Write.{Write}
use Rattle.slate_model.specs.Follower.{Follower}
use Rattle.slate_model.specs.Knowledge.{Knowledge}
use Rattle.slate_script.specs.declared.commands.Action.{Action}
use Rattle.slate_script.specs.declared.commands.Action.TheVariants as actions
use Rattle.slate_script.specs.declared.replies.Reply.{Reply}
use Rattle.std.specs.Option.{is_none}
use Rattle.slate_model.specs.Object.{Follower as AFollower}
use Rattle.slate_live.specs.Calls.{asks_extractor, asks_operator, call_of}
use Rattle.slate_live.proofs.Closed.{either-reads, taken-of}
use Rattle.slate_live.proofs.followers.act.Goals as goal

pub returns-in-Get-clause-does : goal.returns-in-Get-clause-does
returns-in-Get-clause-does g c settings writes lawful =
    let f = c.args.follower.now in
    (0, rw c.in-Get.is (record { result = c.get.result; replied = c.read_reply.ensures; does = rw (← c.as_slice.ensures) (either-reads f.result (λ open_. c.get.ensures.read settings.merge (lawful.operator_is (ap (asks_operator (Some (AFollower f))) c.in-Get.is ∙ ap is_none open_))) c.get.ensures.by_any) }, refl {a = f}, refl, refl {a = writes}))

pub returns-in-Scan-clause-does : goal.returns-in-Scan-clause-does
returns-in-Scan-clause-does g c settings writes lawful =
    let f = c.args.follower.now in
    (0, rw c.in-Scan.is (rw (sym c.as_ref.ensures) (taken-of c.scan-scan.result c.all_rows.result c.rows_reply.result (either-reads f.result (λ open_. c.scan-scan.ensures.scan settings.merge (lawful.operator_is (ap (asks_operator (Some (AFollower f))) c.in-Scan.is ∙ ap is_none open_))) c.scan-scan.ensures.by_any) c.all_rows.ensures c.rows_reply.ensures), refl {a = f}, refl, refl {a = writes}))

pub returns-in-Seek-clause-does : goal.returns-in-Seek-clause-does
returns-in-Seek-clause-does g c settings writes lawful =
    let f = c.args.follower.now in
    (0, rw c.in-Seek.is (rw (sym c.as_ref-range.ensures) (taken-of c.scan-scan-in-Seek.result c.rows_with_seek.result c.rows_reply-in-Seek.result (either-reads f.result (λ open_. c.scan-scan-in-Seek.ensures.scan settings.merge (lawful.operator_is (ap (asks_operator (Some (AFollower f))) c.in-Seek.is ∙ ap is_none open_))) c.scan-scan-in-Seek.ensures.by_any) c.rows_with_seek.ensures c.rows_reply-in-Seek.ensures), refl {a = f}, refl, refl {a = writes}))

-- a poll, by the command that asks it
polls-by : {L : Type 0} (k : Knowledge L) (settings : Settings) (moment : ℤ) (action : Action) (n made : ℕ) (old : Follower) (before : Known L) (writes : List Write) (reply : Reply) (new : Follower) (after : Known L) → action ≡ actions.Poll n →
    PollsFollower k settings.extractor made moment old before reply new after → FollowerActs k settings moment (call_of action) made old before writes reply new after writes
polls-by k settings moment action n made old before writes reply new after is did = rw is (did, refl {a = writes})

pub returns-in-Poll-clause-does : goal.returns-in-Poll-clause-does
returns-in-Poll-clause-does g c settings writes lawful =
    let d = c.poll.ensures.does settings.extractor (λ open_. lawful.extractor_is (ap (asks_extractor (Some (AFollower c.args.follower.now))) c.in-Poll.is ∙ ap is_none open_)) in
    let back : to_z w64 (of_z w64 c.args.command.now.moment) ≡ c.args.command.now.moment = search rules in
    let did = subst (λ m. PollsFollower (by_objects (g.S.Store.objects c.args.store.now)) settings.extractor d.0 m c.args.follower.now (known g.S.Store.objects g.S.Store.faults c.args.store.now) c.poll.result c.poll.new.follower (known g.S.Store.objects g.S.Store.faults c.poll.new.store)) back d.1 in
    (d.0, polls-by _ settings _ _ _ d.0 _ _ writes _ _ _ c.in-Poll.is did)
