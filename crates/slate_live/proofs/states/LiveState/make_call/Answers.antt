use Rattle.std.proofs.Common.{rules, ◌≡◌, ◌∙◌, ℕ, ℤ, Bool, true, Option, refl, sym, subst, w64, to_z, of_z}
use Rattle.slate_live.specs.Calls.{asks_extractor, asks_operator, named, read_by, target_of}
use Rattle.slate_live.specs.declared.targets.Target.TheVariants.{NewHandle, NewFollower, NewCheckpoint, WholeStore, OfObject}
use Rattle.slate_model.specs.Known.{known}
use Rattle.slate_model.specs.Stores.{by_objects}
use Rattle.slate_store.specs.declared.reader_modes.DbReaderMode.{DbReaderMode}
use Rattle.slate_model.specs.Knowledge.{Knowledge}
use Rattle.slate_script.specs.declared.replies.Reply.{Reply}
use Rattle.slate_live.specs.Commands.{OpensFollowerIn}
use Rattle.slate_live.specs.Maintenance.{CommitsTo, SweepsTo}
use Rattle.slate_live.specs.Settings.{Settings}
use Rattle.slate_live.specs.State.{State, running}
use Rattle.slate_live.proofs.Begun.{are-kept, drops-none, same-polls}
use Rattle.slate_live.proofs.Closed.{following-asks, opening-asks}
use Rattle.slate_live.proofs.Linking.{does-at}
use Rattle.slate_live.proofs.states.LiveState.make_call.Goals as goal

-- an opening of a reader with the moment, the skipping and the lag that a command has
opens_as : {L : Type 0} (k : Knowledge L) (s : Settings) (mode : DbReaderMode) (managed : Option (ℕ × ℕ)) (made : ℕ) (before : State L) (reply : Reply) (after : State L) (moment moment' : ℤ) (skips skips' : Bool) (lag lag' : ℕ) → moment ≡ moment' → skips ≡ skips' → lag ≡ lag' →
    OpensFollowerIn k s mode managed skips lag moment made before reply after → OpensFollowerIn k s mode managed skips' lag' moment' made before reply after
opens_as k s mode managed made before reply after moment moment' skips skips' lag lag' at same as_far opens =
    subst (λ m. OpensFollowerIn k s mode managed skips' lag' m made before reply after) at
    (subst (λ x. OpensFollowerIn k s mode managed x lag' moment made before reply after) same
    (subst (λ n. OpensFollowerIn k s mode managed skips n moment made before reply after) as_far opens))

pub returns-in-NewHandle-clause-does : goal.returns-in-NewHandle-clause-does
returns-in-NewHandle-clause-does g c settings lawful options_are =
    let d = c.open.ensures.does settings (lawful.extractor_is (opening-asks c.args.self.now.objects c.args.command.now.action c.in-NewHandle.keeps_log (sym c.target_of.ensures ∙ c.in-NewHandle.is))) options_are in
    let k = by_objects (g.S.Store.objects c.args.store.now) in
    let store = known g.S.Store.objects g.S.Store.faults c.args.store.now in
    let store' = known g.S.Store.objects g.S.Store.faults c.open.new.store in
    (d.0, does-at k settings c.args.command.now d.0 (running c.args.self.now store) c.open.result (running c.open.new.self store') (NewHandle c.in-NewHandle.keeps_log) (sym c.target_of.ensures ∙ c.in-NewHandle.is) d.1)

pub returns-in-NewFollower-clause-does : goal.returns-in-NewFollower-clause-does
returns-in-NewFollower-clause-does g c settings lawful options_are =
    let o = c.reader_options-options.ensures in
    let d = c.follow.ensures.does settings c.in-NewFollower.managed (lawful.extractor_is (following-asks c.args.self.now.objects c.args.command.now.action _ _ _ _ (sym c.target_of.ensures ∙ c.in-NewFollower.is))) o.lifetime o.interval in
    let k = by_objects (g.S.Store.objects c.args.store.now) in
    let before = running c.args.self.now (known g.S.Store.objects g.S.Store.faults c.args.store.now) in
    let after = running c.follow.new.self (known g.S.Store.objects g.S.Store.faults c.follow.new.store) in
    let did = opens_as k settings c.in-NewFollower.mode c.in-NewFollower.managed d.0 before c.follow.result after _ _ _ _ _ _ (search rules) o.skips o.lag d.1 in
    (d.0, does-at k settings c.args.command.now d.0 before c.follow.result after (NewFollower c.in-NewFollower.mode c.in-NewFollower.managed c.in-NewFollower.skips c.in-NewFollower.lag) (sym c.target_of.ensures ∙ c.in-NewFollower.is) did)

pub returns-in-NewCheckpoint-clause-does : goal.returns-in-NewCheckpoint-clause-does
returns-in-NewCheckpoint-clause-does g c settings lawful options_are =
    let d = c.checkpoint.ensures.does in
    let k = by_objects (g.S.Store.objects c.args.store.now) in
    let store = known g.S.Store.objects g.S.Store.faults c.args.store.now in
    let store' = known g.S.Store.objects g.S.Store.faults c.checkpoint.new.store in
    let back : to_z w64 (of_z w64 c.args.command.now.moment) ≡ c.args.command.now.moment = search rules in
    let did : CommitsTo k d.0 c.in-NewCheckpoint.lifetime c.args.command.now.moment store c.checkpoint.result store' = subst (λ m. CommitsTo k d.0 c.in-NewCheckpoint.lifetime m store c.checkpoint.result store') back d.1 in
    (d.0, does-at k settings c.args.command.now d.0 (running c.args.self.now store) c.checkpoint.result (running c.args.self.now store') (NewCheckpoint c.in-NewCheckpoint.lifetime) (sym c.target_of.ensures ∙ c.in-NewCheckpoint.is) (record { does = did; objects = refl; writes = refl }))

pub returns-in-WholeStore-clause-does : goal.returns-in-WholeStore-clause-does
returns-in-WholeStore-clause-does g c settings lawful options_are =
    let d = c.sweep.ensures.does in
    let k = by_objects (g.S.Store.objects c.args.store.now) in
    let store = known g.S.Store.objects g.S.Store.faults c.args.store.now in
    let store' = known g.S.Store.objects g.S.Store.faults c.sweep.new.store in
    let back : to_z w64 (of_z w64 c.args.command.now.moment) ≡ c.args.command.now.moment = search rules in
    let did : SweepsTo k d.0 c.args.command.now.moment store c.sweep.result store' = subst (λ m. SweepsTo k d.0 m store c.sweep.result store') back d.1 in
    (d.0, does-at k settings c.args.command.now d.0 (running c.args.self.now store) c.sweep.result (running c.args.self.now store') WholeStore (sym c.target_of.ensures ∙ c.in-WholeStore.is) (record { does = did; objects = refl; writes = refl }))

pub returns-in-OfObject-clause-does : goal.returns-in-OfObject-clause-does
returns-in-OfObject-clause-does g c settings lawful options_are =
    let names = sym c.target_of.ensures ∙ c.in-OfObject.is in
    let objects = c.args.self.now.objects in
    let d = c.act.ensures.does settings (record { operator_is = λ asks. lawful.operator_is (subst (λ t. asks_operator (read_by objects (named objects t)) c.args.command.now.action ≡ true) (sym names) asks); extractor_is = λ asks. lawful.extractor_is (subst (λ t. asks_extractor (read_by objects (named objects t)) c.args.command.now.action ≡ true) (sym names) asks) }) in
    let k = by_objects (g.S.Store.objects c.args.store.now) in
    let store = known g.S.Store.objects g.S.Store.faults c.args.store.now in
    let store' = known g.S.Store.objects g.S.Store.faults c.act.new.store in
    (d.0, does-at k settings c.args.command.now d.0 (running c.args.self.now store) c.act.result (running c.act.new.self store') (OfObject c.in-OfObject.object) names d.1)

pub returns-in-NewHandle-clause-polls : goal.returns-in-NewHandle-clause-polls
returns-in-NewHandle-clause-polls g c = are-kept c.args.command.now.action c.args.self.now.polls c.open.new.self.polls (λ n. drops-none c.args.command.now.action _ (sym c.target_of.ensures ∙ c.in-NewHandle.is) (λ m other. absurd (cc)) n) c.open.ensures.polls

pub returns-in-NewSnapshot-clause-polls : goal.returns-in-NewSnapshot-clause-polls
returns-in-NewSnapshot-clause-polls g c = are-kept c.args.command.now.action c.args.self.now.polls c.snapshot.new.self.polls (λ n. drops-none c.args.command.now.action _ (sym c.target_of.ensures ∙ c.in-NewSnapshot.is) (λ m other. absurd (cc)) n) c.snapshot.ensures.polls

pub returns-in-NewFollower-clause-polls : goal.returns-in-NewFollower-clause-polls
returns-in-NewFollower-clause-polls g c = are-kept c.args.command.now.action c.args.self.now.polls c.follow.new.self.polls (λ n. drops-none c.args.command.now.action _ (sym c.target_of.ensures ∙ c.in-NewFollower.is) (λ m other. absurd (cc)) n) c.follow.ensures.polls

pub returns-in-NewCheckpoint-clause-polls : goal.returns-in-NewCheckpoint-clause-polls
returns-in-NewCheckpoint-clause-polls g c = are-kept c.args.command.now.action c.args.self.now.polls c.args.self.now.polls (λ n. drops-none c.args.command.now.action _ (sym c.target_of.ensures ∙ c.in-NewCheckpoint.is) (λ m other. absurd (cc)) n) (same-polls _ _ refl)

pub returns-in-WholeStore-clause-polls : goal.returns-in-WholeStore-clause-polls
returns-in-WholeStore-clause-polls g c = are-kept c.args.command.now.action c.args.self.now.polls c.args.self.now.polls (λ n. drops-none c.args.command.now.action _ (sym c.target_of.ensures ∙ c.in-WholeStore.is) (λ m other. absurd (cc)) n) (same-polls _ _ refl)

pub returns-in-OfWrite-clause-polls : goal.returns-in-OfWrite-clause-polls
returns-in-OfWrite-clause-polls g c = are-kept c.args.command.now.action c.args.self.now.polls c.args.self.now.polls (λ n. drops-none c.args.command.now.action _ (sym c.target_of.ensures ∙ c.in-OfWrite.is) (λ m other. absurd (cc)) n) (same-polls _ _ refl)

pub returns-in-OfObject-clause-polls : goal.returns-in-OfObject-clause-polls
returns-in-OfObject-clause-polls g c = c.act.ensures.polls (sym c.target_of.ensures ∙ c.in-OfObject.is)
