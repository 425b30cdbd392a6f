use Rattle.std.proofs.Common.{rules, ◌≡◌, ◌∙◌, ℕ, ℤ, List, Some, refl, sym, subst, ap}
use Rattle.std.specs.List.{slice_get}
use Rattle.slate_types.specs.declared.batches.Batch.{Batch}
use Rattle.slate_model.specs.Follower.{Follower}
use Rattle.slate_model.specs.Known.{Known, known}
use Rattle.slate_model.specs.Object.{Follower as AFollower}
use Rattle.slate_script.specs.declared.commands.Command.{Command}
use Rattle.slate_script.specs.declared.replies.Reply.{Reply}
use Rattle.slate_script.specs.declared.replies.Reply.TheVariants as replies
use Rattle.slate_live.specs.Calls.{Begins, Kind, Steps, Whole, kind_of, named, read_by, target_of}
use Rattle.slate_live.specs.Settings.{Settings}
use Rattle.slate_live.specs.Shut.{IsShutAt}
use Rattle.slate_live.specs.State.{Live}
use Rattle.slate_live.specs.Stepping.{BeginsPoll, DoesKind, IsDone}
use Rattle.slate_live.proofs.Begun.{whole-of}
use Rattle.slate_live.proofs.Closed.{asks-extractor}
use Rattle.slate_live.proofs.Linking.{linked}
use Rattle.slate_live.proofs.states.LiveState.apply.Goals as goal

-- what a command does, by its kind
done-by : (settings : Settings) (live : Live) (store : Known (List Batch)) (command : Command) (reply : Reply) (live' : Live) (store' : Known (List Batch)) (kind : Kind) → kind_of command.action ≡ kind → DoesKind kind settings live store command reply live' store' → IsDone settings live store command reply live' store'
done-by settings live store command reply live' store' kind is does = subst (λ k. DoesKind k settings live store command reply live' store') (sym is) does

-- nothing is begun by a command of another kind
never : (command : Command) (kind : Kind) → kind_of command.action ≡ kind → ((n : ℕ) → kind ≡ Begins n → ⊥) → (P : Follower → Type 0) (live : Live) (reply : Reply) →
    (n : ℕ) (reader : Follower) → kind_of command.action ≡ Begins n → slice_get live.objects n ≡ Some (AFollower reader) → reply ≡ replies.Begun → P reader
never command kind is other P live reply n reader begins at begun = absurd (other n (sym is ∙ begins))

begins-same : (m n : ℕ) → Begins m ≡ Begins n → m ≡ n
begins-same m n is = cc

begin-did : (n : ℕ) (moment moment' : ℤ) (live : Live) (reply : Reply) (live' : Live) → moment ≡ moment' → BeginsPoll n moment live reply live' → BeginsPoll n moment' live reply live'
begin-did n moment moment' live reply live' same did = subst (λ m. BeginsPoll n m live reply live') same did

pub returns-in-Begin-clause-does : goal.returns-in-Begin-clause-does
returns-in-Begin-clause-does g c settings lawful options_are =
    let store = known g.S.Store.objects g.S.Store.faults c.args.store.now in
    done-by settings c.args.self.now store c.args.command.now c.begin.result c.begin.new.self store (Begins c.in-Begin.follower) (ap kind_of c.in-Begin.is)
    (begin-did c.in-Begin.follower _ c.args.command.now.moment c.args.self.now c.begin.result c.begin.new.self (search rules) c.begin.ensures.begins, refl)

pub returns-in-Begin-clause-link : goal.returns-in-Begin-clause-link
returns-in-Begin-clause-link g c settings lawful options_are =
    let store = known g.S.Store.objects g.S.Store.faults c.args.store.now in
    linked settings c.args.command.now c.args.self.now c.begin.new.self store store c.begin.result (sym options_are)
    (done-by settings c.args.self.now store c.args.command.now c.begin.result c.begin.new.self store (Begins c.in-Begin.follower) (ap kind_of c.in-Begin.is)
    (begin-did c.in-Begin.follower _ c.args.command.now.moment c.args.self.now c.begin.result c.begin.new.self (search rules) c.begin.ensures.begins, refl))
    (λ n reader kind at begun. c.begin.ensures.keeps reader (subst (λ i. slice_get c.args.self.now.objects i ≡ Some (AFollower reader)) (sym (begins-same c.in-Begin.follower n (sym (ap kind_of c.in-Begin.is) ∙ kind))) at) begun)

pub returns-in-Step-clause-does : goal.returns-in-Step-clause-does
returns-in-Step-clause-does g c settings lawful options_are =
    done-by settings c.args.self.now (known g.S.Store.objects g.S.Store.faults c.args.store.now) c.args.command.now c.step.result c.step.new.self (known g.S.Store.objects g.S.Store.faults c.step.new.store) (Steps c.in-Step.follower) (ap kind_of c.in-Step.is)
    (c.step.ensures.steps settings.extractor (lawful.extractor_is (ap (asks-extractor c.args.self.now.objects) c.in-Step.is)))

pub returns-in-Step-clause-link : goal.returns-in-Step-clause-link
returns-in-Step-clause-link g c settings lawful options_are =
    linked settings c.args.command.now c.args.self.now c.step.new.self (known g.S.Store.objects g.S.Store.faults c.args.store.now) (known g.S.Store.objects g.S.Store.faults c.step.new.store) c.step.result (sym options_are)
    (done-by settings c.args.self.now (known g.S.Store.objects g.S.Store.faults c.args.store.now) c.args.command.now c.step.result c.step.new.self (known g.S.Store.objects g.S.Store.faults c.step.new.store) (Steps c.in-Step.follower) (ap kind_of c.in-Step.is)
    (c.step.ensures.steps settings.extractor (lawful.extractor_is (ap (asks-extractor c.args.self.now.objects) c.in-Step.is))))
    (never c.args.command.now (Steps c.in-Step.follower) (ap kind_of c.in-Step.is) (λ n no. absurd (cc)) _ c.args.self.now c.step.result)

pub returns-in_default-clause-does : goal.returns-in_default-clause-does
returns-in_default-clause-does g c settings lawful options_are =
    let whole = whole-of c.args.command.now.action c.in_default.not-Begin c.in_default.not-Step in
    done-by settings c.args.self.now (known g.S.Store.objects g.S.Store.faults c.args.store.now) c.args.command.now c.make_call.result c.make_call.new.self (known g.S.Store.objects g.S.Store.faults c.make_call.new.store) Whole whole
    (c.make_call.ensures.does settings lawful options_are, c.make_call.ensures.polls)

pub returns-in_default-clause-link : goal.returns-in_default-clause-link
returns-in_default-clause-link g c settings lawful options_are =
    let whole = whole-of c.args.command.now.action c.in_default.not-Begin c.in_default.not-Step in
    linked settings c.args.command.now c.args.self.now c.make_call.new.self (known g.S.Store.objects g.S.Store.faults c.args.store.now) (known g.S.Store.objects g.S.Store.faults c.make_call.new.store) c.make_call.result (sym options_are)
    (done-by settings c.args.self.now (known g.S.Store.objects g.S.Store.faults c.args.store.now) c.args.command.now c.make_call.result c.make_call.new.self (known g.S.Store.objects g.S.Store.faults c.make_call.new.store) Whole whole
    (c.make_call.ensures.does settings lawful options_are, c.make_call.ensures.polls))
    (never c.args.command.now Whole whole (λ n no. absurd (cc)) _ c.args.self.now c.make_call.result)

pub returns-in-Step-clause-untouched : goal.returns-in-Step-clause-untouched
returns-in-Step-clause-untouched g c shut =
    c.step.ensures.untouched (subst (λ target. IsShutAt (read_by c.args.self.now.objects (named c.args.self.now.objects target))) (ap target_of c.in-Step.is) shut)
