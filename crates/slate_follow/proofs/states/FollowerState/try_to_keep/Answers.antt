use Rattle.std.proofs.Common.{◌≡◌, ◌∙◌, false, true, is_none, None, Option, Some, Ok, Err, IfOk, IfSome, refl, rules, sym, ap, subst, arith, of_z, to_z}
use Rattle.std.proofs.Math.Facts.{to_z-of_z}
use Rattle.std.proofs.lemmas.Result.{err_from_is_err_and}
use Rattle.std.specs.Int.{w64}
use Rattle.slate_types.specs.Modelled.{WhereModelled}
use Rattle.slate_store.specs.Checkpoints.{found}
use Rattle.slate_store.specs.declared.reader_modes.DbReaderMode.TheVariants.{ManagedCheckpoint}
use Rattle.slate_errors.specs.declared.errors.SlateError.{SlateError}
use Rattle.slate_errors.specs.declared.errors.SlateError.TheVariants.{InvalidDBState, TransactionalObjectTimeout}
use Rattle.slate_model.specs.Follower.{Follower, HasSegments, follower_tasks, is_pinned, number}
use Rattle.slate_model.specs.Lease.{differs, is_due, replaces, to_keep}
use Rattle.slate_model.specs.Managed.{unrefused}
use Rattle.slate_model.specs.Stores.{Stands}
use Rattle.slate_store.specs.Refusals.{planned}
use Rattle.slate_follow.specs.declared.leased_polls.Kept.{Kept}
use Rattle.slate_follow.specs.Keeping.{MayLack, PutsBy, ReplaceLacks, Replaces, TakesLatest, put_tried, answered}
use Rattle.slate_follow.proofs.Answering.{polling-poll, turn-polling}
use Rattle.slate_follow.proofs.Counted.{due-costs, news-then, replaced-costs, replaced-first, rest-costs}
use Rattle.slate_follow.specs.Rebuilding.{TakesUnder, Truncates, answer_of}
use Rattle.slate_follow.specs.Takings.{GivesTaking, installed}
use Rattle.slate_follow.proofs.Informed.{tabled-same}
use Rattle.slate_follow.proofs.Having.{has-open, has-segments, has-truncated, replaced-open, replaced-segments, replaced-truncates}
use Rattle.slate_follow.proofs.Keeping.{puts-by, renewal, replacement, replaces-by, to-renewal, to-replace, to-stay}
use Rattle.slate_follow.proofs.Lacking.{news-keeps, renew-keeps, replace-keeps}
use Rattle.slate_follow.proofs.Leased.{mode-leased}
use Rattle.slate_follow.proofs.Planned.{modelled-kept, modelled-put, nothing-put, polling-cause}
use Rattle.slate_follow.proofs.Refusing.{err-same}
use Rattle.slate_follow.proofs.Taken.{all-well, counts-on, counts-then}
use Rattle.slate_follow.proofs.Trying.{if-ok-all, if-ok-as, kept-truncates, missing-all, renewal-done, renewal-failed, renewed-kept, renewed-puts, replaced-kept, stays-kept, stays-puts, unstanding-by, unstanding-none}
use Rattle.slate_follow.proofs.states.FollowerState.try_to_keep.Goals as goal

pub returns-then-differs-clause-puts : goal.returns-then-differs-clause-puts
returns-then-differs-clause-puts g c =
    let v = c.in_ok-latest in
    let l = c.args.lease.now in
    let old = c.args.self.now in
    let r = c.replace_lease in
    let other : differs old.view v.latest ≡ true = search rules in
    let puts = subst (λ m. WhereModelled (λ o o'. PutsBy MayLack (replacement old.view v.latest l m) old.lease o (answered r.result) r.new.self.lease o') (g.S.Store.objects c.latest_of.new.store) (g.S.Store.objects r.new.store))
    (to_z-of_z {w = w64} {z = c.args.moment} (search rules)) r.ensures.puts in
    let replaced : replaces old.view l c.args.moment v.latest ≡ true = replaces-by old.view v.latest l c.args.moment true _ _ other refl refl in
    let all = modelled-put v.ensures.found v.ensures.kept puts (λ o o' is h. puts-by o v.latest is l c.args.moment old (replacement old.view v.latest l c.args.moment) (to-replace old.view v.latest l c.args.moment replaced) (answered r.result) r.new.self o' h) in
    search (rules, all)

pub returns-then-differs-clause-keeps : goal.returns-then-differs-clause-keeps
returns-then-differs-clause-keeps g c =
    let v = c.in_ok-latest in
    let l = c.args.lease.now in
    let m = c.args.moment in
    let old = c.args.self.now in
    let r = c.replace_lease in
    let other : differs old.view v.latest ≡ true = search rules in
    let undone = to_z-of_z {w = w64} {z = m} (search rules) in
    let puts = subst (λ m. WhereModelled (λ o o'. PutsBy MayLack (replacement old.view v.latest l m) old.lease o (answered r.result) r.new.self.lease o') (g.S.Store.objects c.latest_of.new.store) (g.S.Store.objects r.new.store)) undone r.ensures.puts in
    let took = subst (λ m. IfOk (answered r.result) (λ answer. IfSome (g.S.Store.objects r.new.store) (λ o'. TakesLatest (replacement old.view v.latest l m) old o' r.new.self answer))) undone r.ensures.taken in
    let replaced : replaces old.view l m v.latest ≡ true = replaces-by old.view v.latest l m true _ _ other refl refl in
    let held : c.self.inside.lease ≡ Some l = ap (λ (f : Follower). f.lease) c.self.view_is ∙ c.requires.leased in
    let managed : old.mode ≡ ManagedCheckpoint = sym (ap (λ (f : Follower). f.mode) c.self.view_is) ∙ mode-leased c.self.inside.following.mode c.self.inside.lease l c.self.invariant.leased held in
    replaced-kept (g.S.Store.objects c.args.store.now) v.latest v.ensures.found l m old r.new.self managed replaced v.ensures.kept (answered r.result) puts took

pub returns-then-differs-clause-lacks : goal.returns-then-differs-clause-lacks
returns-then-differs-clause-lacks g c x lawful is =
    let v = c.in_ok-latest in
    let l = c.args.lease.now in
    let old = c.args.self.now in
    let r = c.replace_lease in
    let other : differs old.view v.latest ≡ true = search rules in
    let replaced : replaces old.view l c.args.moment v.latest ≡ true = replaces-by old.view v.latest l c.args.moment true _ _ other refl refl in
    let lacks = subst (λ m. IfSome (g.S.Store.objects c.latest_of.new.store) (λ o. ReplaceLacks x (replacement old.view v.latest l m) old o)) (to_z-of_z {w = w64} {z = c.args.moment} (search rules)) (r.ensures.lacks x lawful is) in
    let held : c.self.inside.lease ≡ Some l = ap (λ (f : Follower). f.lease) c.self.view_is ∙ c.requires.leased in
    let managed : old.mode ≡ ManagedCheckpoint = sym (ap (λ (f : Follower). f.mode) c.self.view_is) ∙ mode-leased c.self.inside.following.mode c.self.inside.lease l c.self.invariant.leased held in
    replace-keeps x v.latest v.ensures.kept v.ensures.found l c.args.moment old managed replaced lacks

pub returns-in_err-latest-clause-kind : goal.returns-in_err-latest-clause-kind
returns-in_err-latest-clause-kind g c =
    let is : c.from_residual.result ≡ Err c.in_err-latest.field-0.0 = search rules in
    rw is (turn-polling c.in_err-latest.field-0.0 c.in_err-latest.ensures.kind)

pub returns-then-differs-clause-calls : goal.returns-then-differs-clause-calls
returns-then-differs-clause-calls g c =
    let v = c.in_ok-latest in
    let l = c.args.lease.now in
    let m = c.args.moment in
    let old = c.args.self.now in
    let t = g.S.Store.objects c.args.store.now in
    let t1 = g.S.Store.objects c.latest_of.new.store in
    let held : c.self.inside.lease ≡ Some l = ap (λ (f : Follower). f.lease) c.self.view_is ∙ c.requires.leased in
    let managed : old.mode ≡ ManagedCheckpoint = sym (ap (λ (f : Follower). f.mode) c.self.view_is) ∙ mode-leased c.self.inside.following.mode c.self.inside.lease l c.self.invariant.leased held in
    let k = g.S.Store.calls c.args.store.now in
    let k1 = g.S.Store.calls c.latest_of.new.store in
    replaced-first v.latest t t1 v.ensures.kept v.ensures.found old managed l m k k1 v.ensures.calls (g.S.Store.calls c.replace_lease.new.store) c.replace_lease.ensures.calls

pub returns-then-differs-clause-costs : goal.returns-then-differs-clause-costs
returns-then-differs-clause-costs g c =
    let v = c.in_ok-latest in
    let l = c.args.lease.now in
    let m = c.args.moment in
    let old = c.args.self.now in
    let t = g.S.Store.objects c.args.store.now in
    let t1 = g.S.Store.objects c.latest_of.new.store in
    let held : c.self.inside.lease ≡ Some l = ap (λ (f : Follower). f.lease) c.self.view_is ∙ c.requires.leased in
    let managed : old.mode ≡ ManagedCheckpoint = sym (ap (λ (f : Follower). f.mode) c.self.view_is) ∙ mode-leased c.self.inside.following.mode c.self.inside.lease l c.self.invariant.leased held in
    let k = g.S.Store.calls c.args.store.now in
    let k1 = g.S.Store.calls c.latest_of.new.store in
    let other : differs old.view v.latest ≡ true = search rules in
    if-ok-all (answered c.replace_lease.result) (replaced-costs v.latest t t1 v.ensures.kept v.ensures.found old managed l m k k1 v.ensures.calls (g.S.Store.calls c.replace_lease.new.store) c.replace_lease.ensures.calls other)

pub returns-then-differs-clause-free : goal.returns-then-differs-clause-free
returns-then-differs-clause-free g c =
    let v = c.in_ok-latest in
    let l = c.args.lease.now in
    let m = c.args.moment in
    let old = c.args.self.now in
    let t = g.S.Store.objects c.args.store.now in
    let t1 = g.S.Store.objects c.latest_of.new.store in
    let r = c.replace_lease in
    let other : differs old.view v.latest ≡ true = search rules in
    let replaced : replaces old.view l m v.latest ≡ true = replaces-by old.view v.latest l m true _ _ other refl refl in
    let free = subst (λ m. IfOk (answered r.result) (λ _. IfSome t1 (λ o. Stands (planned (replacement old.view v.latest l m)) o → ⊥))) (to_z-of_z {w = w64} {z = m} (search rules)) r.ensures.free in
    if-ok-as (answered r.result) (λ f. unstanding-by t v.latest v.ensures.found l m old (replacement old.view v.latest l m) (to-replace old.view v.latest l m replaced) v.ensures.kept f) free

pub returns-then-differs-clause-truncates : goal.returns-then-differs-clause-truncates
returns-then-differs-clause-truncates g c = kept-truncates (λ o a. Truncates o c.replace_lease.new.self a) (answered c.replace_lease.result) c.in_ok-latest.ensures.kept c.replace_lease.ensures.truncates

pub returns-in_err-taken-clause-puts : goal.returns-in_err-taken-clause-puts
returns-in_err-taken-clause-puts g c =
    let v = c.in_ok-latest in
    let l = c.args.lease.now in
    let m = c.args.moment in
    let old = c.args.self.now in
    let e = c.in_err-taken.field-0.0 in
    let plan = to_keep old.view l m v.latest in
    let all = modelled-kept v.ensures.found (c.in_err-taken.ensures.kept ∙ v.ensures.kept) (λ o is. puts-by o v.latest is l m old plan refl (Err e) old o (nothing-put MayLack plan old.lease o e (polling-cause plan o e c.in_err-taken.ensures.refusals))) in
    let is : c.from_residual-in_err-taken.result ≡ Err e = search rules in
    rw is all

pub returns-in_err-taken-clause-lacks : goal.returns-in_err-taken-clause-lacks
returns-in_err-taken-clause-lacks g c x lawful is =
    let v = c.in_ok-latest in
    let l = c.args.lease.now in
    let m = c.args.moment in
    let old = c.args.self.now in
    let e = c.in_err-taken.field-0.0 in
    let held : c.self.inside.lease ≡ Some l = ap (λ (f : Follower). f.lease) c.self.view_is ∙ c.requires.leased in
    let managed : old.mode ≡ ManagedCheckpoint = sym (ap (λ (f : Follower). f.mode) c.self.view_is) ∙ mode-leased c.self.inside.following.mode c.self.inside.lease l c.self.invariant.leased held in
    let floor : old.line.floor ≡ old.view.manifest.last_l0_seq = subst (λ (f : Follower). f.line.floor ≡ f.view.manifest.last_l0_seq) c.self.view_is refl in
    let same : differs old.view v.latest ≡ false = search rules in
    let p = err_from_is_err_and c.from_residual-in_err-taken.result c.from_residual-in_err-taken.ensures.1 in
    let invalid : e ≡ InvalidDBState = err-same (Option Kept) e InvalidDBState (sym (p.1 ∙ ap Err p.2) ∙ is) in
    news-keeps x v.latest v.ensures.kept v.ensures.found l m old managed floor same (c.in_err-taken.ensures.lacks x lawful (ap Err invalid))

pub returns-in_err-taken-clause-kind : goal.returns-in_err-taken-clause-kind
returns-in_err-taken-clause-kind g c =
    let is : c.from_residual-in_err-taken.result ≡ Err c.in_err-taken.field-0.0 = search rules in
    rw is (polling-poll c.in_err-taken.field-0.0 c.in_err-taken.ensures.refusals)

pub returns-in_err-taken-clause-calls : goal.returns-in_err-taken-clause-calls
returns-in_err-taken-clause-calls g c =
    let v = c.in_ok-latest in
    let l = c.args.lease.now in
    let m = c.args.moment in
    let old = c.args.self.now in
    let t = g.S.Store.objects c.args.store.now in
    let t1 = g.S.Store.objects c.latest_of.new.store in
    let held : c.self.inside.lease ≡ Some l = ap (λ (f : Follower). f.lease) c.self.view_is ∙ c.requires.leased in
    let managed : old.mode ≡ ManagedCheckpoint = sym (ap (λ (f : Follower). f.mode) c.self.view_is) ∙ mode-leased c.self.inside.following.mode c.self.inside.lease l c.self.invariant.leased held in
    let k = g.S.Store.calls c.args.store.now in
    let k1 = g.S.Store.calls c.latest_of.new.store in
    let k2 = g.S.Store.calls c.taking_new.new.store in
    news-then v.latest t t1 v.ensures.kept v.ensures.found old managed l m k k1 v.ensures.calls k2 c.in_err-taken.ensures.calls k2 (omega arith)

pub returns-then-not-is_due-clause-puts : goal.returns-then-not-is_due-clause-puts
returns-then-not-is_due-clause-puts g c =
    let v = c.in_ok-latest in
    let l = c.args.lease.now in
    let m = c.args.moment in
    let old = c.args.self.now in
    let t = g.S.Store.objects c.args.store.now in
    let e = c.in_ok-taken.ensures in
    let t2 = g.S.Store.objects c.taking_new.new.store in
    let kept : t2 ≡ t = e.kept ∙ v.ensures.kept in
    let same : differs old.view v.latest ≡ false = search rules in
    let early : is_due m l ≡ false = search rules in
    let unreplaced : replaces old.view l m v.latest ≡ false = replaces-by old.view v.latest l m false false _ same early refl in
    let new = c.install-answer.new.self in
    let answer = c.install-answer.result in
    let becomes : new ≡ record (installed old.view c.in_ok-taken.taken old) { lease = old.lease } = c.install-answer.ensures.becomes in
    let all = stays-puts t v.latest v.ensures.found l m old new unreplaced early c.requires.leased (ap (λ (f : Follower). f.lease) becomes ∙ c.requires.leased) answer kept in
    search (rules, all)

pub returns-then-not-is_due-clause-answers : goal.returns-then-not-is_due-clause-answers
returns-then-not-is_due-clause-answers g c =
    let l = c.args.lease.now in
    let old = c.args.self.now in
    let held : c.self.inside.lease ≡ Some l = ap (λ (f : Follower). f.lease) c.self.view_is ∙ c.requires.leased in
    let managed : old.mode ≡ ManagedCheckpoint = sym (ap (λ (f : Follower). f.mode) c.self.view_is) ∙ mode-leased c.self.inside.following.mode c.self.inside.lease l c.self.invariant.leased held in
    let new = c.install-answer.new.self in
    let answer = c.install-answer.result in
    let becomes : new ≡ record (installed old.view c.in_ok-taken.taken old) { lease = old.lease } = c.install-answer.ensures.becomes in
    let answers : answer ≡ answer_of c.in_ok-taken.taken.replayed (number new) = c.install-answer.ensures.answer in
    has-open old.view c.in_ok-taken.taken old.lease old new answer becomes answers managed c.requires.open_

pub returns-then-not-is_due-clause-keeps : goal.returns-then-not-is_due-clause-keeps
returns-then-not-is_due-clause-keeps g c =
    let v = c.in_ok-latest in
    let l = c.args.lease.now in
    let m = c.args.moment in
    let old = c.args.self.now in
    let t = g.S.Store.objects c.args.store.now in
    let e = c.in_ok-taken.ensures in
    let t2 = g.S.Store.objects c.taking_new.new.store in
    let kept : t2 ≡ t = e.kept ∙ v.ensures.kept in
    let held : c.self.inside.lease ≡ Some l = ap (λ (f : Follower). f.lease) c.self.view_is ∙ c.requires.leased in
    let managed : old.mode ≡ ManagedCheckpoint = sym (ap (λ (f : Follower). f.mode) c.self.view_is) ∙ mode-leased c.self.inside.following.mode c.self.inside.lease l c.self.invariant.leased held in
    let tasks : old.tasks ≡ follower_tasks old.mode = subst (λ (f : Follower). f.result ≡ None → f.tasks ≡ follower_tasks f.mode) c.self.view_is c.self.invariant.running c.requires.open_ in
    let floor : old.line.floor ≡ old.view.manifest.last_l0_seq = subst (λ (f : Follower). f.line.floor ≡ f.view.manifest.last_l0_seq) c.self.view_is refl in
    let same : differs old.view v.latest ≡ false = search rules in
    let early : is_due m l ≡ false = search rules in
    let unreplaced : replaces old.view l m v.latest ≡ false = replaces-by old.view v.latest l m false false _ same early refl in
    let new = c.install-answer.new.self in
    let answer = c.install-answer.result in
    let becomes : new ≡ record (installed old.view c.in_ok-taken.taken old) { lease = old.lease } = c.install-answer.ensures.becomes in
    let answers : answer ≡ answer_of c.in_ok-taken.taken.replayed (number new) = c.install-answer.ensures.answer in
    let all = stays-kept t v.latest v.ensures.found l m old new managed c.requires.open_ tasks floor same c.in_ok-taken.taken answer answers t2 kept (subst (λ s. IfSome s (λ o. GivesTaking (TakesUnder o v.latest old) v.latest old c.in_ok-taken.taken)) (sym e.kept) e.takes)
    (becomes ∙ ap (λ x. record (installed old.view c.in_ok-taken.taken old) { lease = x }) (sym (ap (λ (f : Follower). f.lease) becomes))) unreplaced early (ap (λ (f : Follower). f.lease) becomes ∙ c.requires.leased) in
    search (rules, all)

pub returns-then-not-is_due-clause-truncates : goal.returns-then-not-is_due-clause-truncates
returns-then-not-is_due-clause-truncates g c =
    let v = c.in_ok-latest in
    let old = c.args.self.now in
    let t = g.S.Store.objects c.args.store.now in
    let e = c.in_ok-taken.ensures in
    let new = c.install-answer.new.self in
    let answer = c.install-answer.result in
    let becomes : new ≡ record (installed old.view c.in_ok-taken.taken old) { lease = old.lease } = c.install-answer.ensures.becomes in
    let answers : answer ≡ answer_of c.in_ok-taken.taken.replayed (number new) = c.install-answer.ensures.answer in
    has-truncated old.view c.in_ok-taken.taken old.lease old new answer becomes answers v.latest t (subst (λ s. IfSome s (λ o. GivesTaking (TakesUnder o v.latest old) v.latest old c.in_ok-taken.taken)) v.ensures.kept e.takes)

pub returns-then-not-is_due-clause-segments : goal.returns-then-not-is_due-clause-segments
returns-then-not-is_due-clause-segments g c x lawful has =
    let v = c.in_ok-latest in
    let old = c.args.self.now in
    let e = c.in_ok-taken.ensures in
    let same : differs old.view v.latest ≡ false = search rules in
    let new = c.install-answer.new.self in
    let answer = c.install-answer.result in
    let becomes : new ≡ record (installed old.view c.in_ok-taken.taken old) { lease = old.lease } = c.install-answer.ensures.becomes in
    let answers : answer ≡ answer_of c.in_ok-taken.taken.replayed (number new) = c.install-answer.ensures.answer in
    has-segments old.view c.in_ok-taken.taken old.lease old new answer becomes answers x (e.floor ∙ sym (tabled-same old.view v.latest same)) (e.segments x lawful has)

pub returns-then-not-is_due-clause-calls : goal.returns-then-not-is_due-clause-calls
returns-then-not-is_due-clause-calls g c =
    let v = c.in_ok-latest in
    let l = c.args.lease.now in
    let m = c.args.moment in
    let old = c.args.self.now in
    let t = g.S.Store.objects c.args.store.now in
    let t1 = g.S.Store.objects c.latest_of.new.store in
    let e = c.in_ok-taken.ensures in
    let held : c.self.inside.lease ≡ Some l = ap (λ (f : Follower). f.lease) c.self.view_is ∙ c.requires.leased in
    let managed : old.mode ≡ ManagedCheckpoint = sym (ap (λ (f : Follower). f.mode) c.self.view_is) ∙ mode-leased c.self.inside.following.mode c.self.inside.lease l c.self.invariant.leased held in
    let k = g.S.Store.calls c.args.store.now in
    let k1 = g.S.Store.calls c.latest_of.new.store in
    let k2 = g.S.Store.calls c.taking_new.new.store in
    news-then v.latest t t1 v.ensures.kept v.ensures.found old managed l m k k1 v.ensures.calls k2 e.calls k2 (omega arith)

pub returns-then-not-is_due-clause-costs : goal.returns-then-not-is_due-clause-costs
returns-then-not-is_due-clause-costs g c =
    let v = c.in_ok-latest in
    let l = c.args.lease.now in
    let m = c.args.moment in
    let old = c.args.self.now in
    let t = g.S.Store.objects c.args.store.now in
    let t1 = g.S.Store.objects c.latest_of.new.store in
    let e = c.in_ok-taken.ensures in
    let held : c.self.inside.lease ≡ Some l = ap (λ (f : Follower). f.lease) c.self.view_is ∙ c.requires.leased in
    let managed : old.mode ≡ ManagedCheckpoint = sym (ap (λ (f : Follower). f.mode) c.self.view_is) ∙ mode-leased c.self.inside.following.mode c.self.inside.lease l c.self.invariant.leased held in
    let same : differs old.view v.latest ≡ false = search rules in
    let early : is_due m l ≡ false = search rules in
    let k = g.S.Store.calls c.args.store.now in
    let k1 = g.S.Store.calls c.latest_of.new.store in
    let k2 = g.S.Store.calls c.taking_new.new.store in
    rest-costs v.latest t t1 v.ensures.kept v.ensures.found old managed l m k k1 v.ensures.calls k2 e.calls k2 same early (omega arith)

pub returns-then-not-is_due-clause-free : goal.returns-then-not-is_due-clause-free
returns-then-not-is_due-clause-free g c =
    let v = c.in_ok-latest in
    let l = c.args.lease.now in
    let m = c.args.moment in
    let old = c.args.self.now in
    let t = g.S.Store.objects c.args.store.now in
    let same : differs old.view v.latest ≡ false = search rules in
    let early : is_due m l ≡ false = search rules in
    let unreplaced : replaces old.view l m v.latest ≡ false = replaces-by old.view v.latest l m false false _ same early refl in
    unstanding-none t v.latest v.ensures.found l m old (to-stay old.view v.latest l m unreplaced early)

pub returns-then-is_none-clause-faults : goal.returns-then-is_none-clause-faults
returns-then-is_none-clause-faults g c =
    let same : g.S.Store.faults c.taking_new.new.store ≡ g.S.Store.faults c.args.store.now = (let a = c.in_ok-latest.ensures.faults.stays in let b = c.in_ok-taken.ensures.faults.stays in omega (arith, a, b)) in
    counts-on (g.S.Store.faults c.args.store.now) (g.S.Store.faults c.taking_new.new.store) (g.S.Store.faults c.replace_missing.new.store) c.replace_missing.result same c.replace_missing.ensures.faults

pub returns-then-is_none-clause-puts : goal.returns-then-is_none-clause-puts
returns-then-is_none-clause-puts g c =
    let v = c.in_ok-latest in
    let l = c.args.lease.now in
    let m = c.args.moment in
    let old = c.args.self.now in
    let t = g.S.Store.objects c.args.store.now in
    let e = c.in_ok-taken.ensures in
    let t2 = g.S.Store.objects c.taking_new.new.store in
    let kept : t2 ≡ t = e.kept ∙ v.ensures.kept in
    let r = c.replace_missing in
    let same : differs old.view v.latest ≡ false = search rules in
    let due : is_due m l ≡ true = search rules in
    let gone : is_none (found l.id v.latest) ≡ true = search rules in
    let replaced : replaces old.view l m v.latest ≡ true = replaces-by old.view v.latest l m false true true same due gone in
    let undone = to_z-of_z {w = w64} {z = m} (search rules) in
    let puts = subst (λ m. WhereModelled (λ o o'. PutsBy MayLack (replacement old.view v.latest l m) old.lease o (answered r.result) r.new.self.lease o') t2 (g.S.Store.objects r.new.store)) undone r.ensures.puts in
    let all = modelled-put v.ensures.found kept puts (λ o o' is h. puts-by o v.latest is l m old (replacement old.view v.latest l m) (to-replace old.view v.latest l m replaced) (answered r.result) r.new.self o' h) in
    search (rules, all)

pub returns-then-is_none-clause-answers : goal.returns-then-is_none-clause-answers
returns-then-is_none-clause-answers g c =
    let v = c.in_ok-latest in
    let l = c.args.lease.now in
    let m = c.args.moment in
    let old = c.args.self.now in
    let r = c.replace_missing in
    let held : c.self.inside.lease ≡ Some l = ap (λ (f : Follower). f.lease) c.self.view_is ∙ c.requires.leased in
    let managed : old.mode ≡ ManagedCheckpoint = sym (ap (λ (f : Follower). f.mode) c.self.view_is) ∙ mode-leased c.self.inside.following.mode c.self.inside.lease l c.self.invariant.leased held in
    let undone = to_z-of_z {w = w64} {z = m} (search rules) in
    let became = subst (λ m. IfOk (answered r.result) (λ answer. Replaces (replacement old.view v.latest l m) c.in_ok-taken.taken old r.new.self answer)) undone r.ensures.becomes in
    replaced-open (replacement old.view v.latest l m) c.in_ok-taken.taken old r.new.self managed c.requires.open_ (answered r.result) became

pub returns-then-is_none-clause-keeps : goal.returns-then-is_none-clause-keeps
returns-then-is_none-clause-keeps g c =
    let v = c.in_ok-latest in
    let l = c.args.lease.now in
    let m = c.args.moment in
    let old = c.args.self.now in
    let t = g.S.Store.objects c.args.store.now in
    let e = c.in_ok-taken.ensures in
    let t2 = g.S.Store.objects c.taking_new.new.store in
    let kept : t2 ≡ t = e.kept ∙ v.ensures.kept in
    let r = c.replace_missing in
    let held : c.self.inside.lease ≡ Some l = ap (λ (f : Follower). f.lease) c.self.view_is ∙ c.requires.leased in
    let managed : old.mode ≡ ManagedCheckpoint = sym (ap (λ (f : Follower). f.mode) c.self.view_is) ∙ mode-leased c.self.inside.following.mode c.self.inside.lease l c.self.invariant.leased held in
    let tasks : old.tasks ≡ follower_tasks old.mode = subst (λ (f : Follower). f.result ≡ None → f.tasks ≡ follower_tasks f.mode) c.self.view_is c.self.invariant.running c.requires.open_ in
    let floor : old.line.floor ≡ old.view.manifest.last_l0_seq = subst (λ (f : Follower). f.line.floor ≡ f.view.manifest.last_l0_seq) c.self.view_is refl in
    let same : differs old.view v.latest ≡ false = search rules in
    let due : is_due m l ≡ true = search rules in
    let gone : is_none (found l.id v.latest) ≡ true = search rules in
    let replaced : replaces old.view l m v.latest ≡ true = replaces-by old.view v.latest l m false true true same due gone in
    let undone = to_z-of_z {w = w64} {z = m} (search rules) in
    let puts = subst (λ m. WhereModelled (λ o o'. PutsBy MayLack (replacement old.view v.latest l m) old.lease o (answered r.result) r.new.self.lease o') t2 (g.S.Store.objects r.new.store)) undone r.ensures.puts in
    let became = subst (λ m. IfOk (answered r.result) (λ answer. Replaces (replacement old.view v.latest l m) c.in_ok-taken.taken old r.new.self answer)) undone r.ensures.becomes in
    let all = missing-all t v.latest v.ensures.found l m old r.new.self managed c.requires.open_ tasks floor same c.in_ok-taken.taken t2 kept (subst (λ s. IfSome s (λ o. GivesTaking (TakesUnder o v.latest old) v.latest old c.in_ok-taken.taken)) (sym e.kept) e.takes)
    replaced (answered r.result) became puts in
    search (rules, all)

pub returns-then-is_none-clause-truncates : goal.returns-then-is_none-clause-truncates
returns-then-is_none-clause-truncates g c =
    let v = c.in_ok-latest in
    let l = c.args.lease.now in
    let m = c.args.moment in
    let old = c.args.self.now in
    let t = g.S.Store.objects c.args.store.now in
    let e = c.in_ok-taken.ensures in
    let r = c.replace_missing in
    let undone = to_z-of_z {w = w64} {z = m} (search rules) in
    let became = subst (λ m. IfOk (answered r.result) (λ answer. Replaces (replacement old.view v.latest l m) c.in_ok-taken.taken old r.new.self answer)) undone r.ensures.becomes in
    replaced-truncates (replacement old.view v.latest l m) c.in_ok-taken.taken old r.new.self v.latest t (subst (λ s. IfSome s (λ o. GivesTaking (TakesUnder o v.latest old) v.latest old c.in_ok-taken.taken)) v.ensures.kept e.takes) (answered r.result) became

pub returns-then-is_none-clause-segments : goal.returns-then-is_none-clause-segments
returns-then-is_none-clause-segments g c x lawful has =
    let v = c.in_ok-latest in
    let l = c.args.lease.now in
    let m = c.args.moment in
    let old = c.args.self.now in
    let e = c.in_ok-taken.ensures in
    let r = c.replace_missing in
    let undone = to_z-of_z {w = w64} {z = m} (search rules) in
    let became = subst (λ m. IfOk (answered r.result) (λ answer. Replaces (replacement old.view v.latest l m) c.in_ok-taken.taken old r.new.self answer)) undone r.ensures.becomes in
    replaced-segments x l m v.latest c.in_ok-taken.taken old r.new.self e.floor (e.segments x lawful has) has (answered r.result) became r.ensures.failed

pub returns-then-is_none-clause-again : goal.returns-then-is_none-clause-again
returns-then-is_none-clause-again g c =
    let v = c.in_ok-latest in
    let t = g.S.Store.objects c.args.store.now in
    let e = c.in_ok-taken.ensures in
    let t2 = g.S.Store.objects c.taking_new.new.store in
    let kept : t2 ≡ t = e.kept ∙ v.ensures.kept in
    let r = c.replace_missing in
    λ is. (let again = r.ensures.again is in (again.0, again.1 ∙ kept))

pub returns-then-is_none-clause-kind : goal.returns-then-is_none-clause-kind
returns-then-is_none-clause-kind g c =
    c.replace_missing.ensures.kind

pub returns-then-is_none-clause-free : goal.returns-then-is_none-clause-free
returns-then-is_none-clause-free g c =
    let v = c.in_ok-latest in
    let l = c.args.lease.now in
    let m = c.args.moment in
    let old = c.args.self.now in
    let t = g.S.Store.objects c.args.store.now in
    let e = c.in_ok-taken.ensures in
    let t2 = g.S.Store.objects c.taking_new.new.store in
    let kept : t2 ≡ t = e.kept ∙ v.ensures.kept in
    let r = c.replace_missing in
    let same : differs old.view v.latest ≡ false = search rules in
    let due : is_due m l ≡ true = search rules in
    let gone : is_none (found l.id v.latest) ≡ true = search rules in
    let replaced : replaces old.view l m v.latest ≡ true = replaces-by old.view v.latest l m false true true same due gone in
    let undone = to_z-of_z {w = w64} {z = m} (search rules) in
    let free = subst (λ m. IfOk (answered r.result) (λ _. IfSome t2 (λ o. Stands (planned (replacement old.view v.latest l m)) o → ⊥))) undone r.ensures.free in
    if-ok-as (answered r.result) (λ f. unstanding-by t v.latest v.ensures.found l m old (replacement old.view v.latest l m) (to-replace old.view v.latest l m replaced) kept f) free

pub returns-then-is_none-clause-calls : goal.returns-then-is_none-clause-calls
returns-then-is_none-clause-calls g c =
    let v = c.in_ok-latest in
    let l = c.args.lease.now in
    let m = c.args.moment in
    let old = c.args.self.now in
    let t = g.S.Store.objects c.args.store.now in
    let t1 = g.S.Store.objects c.latest_of.new.store in
    let e = c.in_ok-taken.ensures in
    let held : c.self.inside.lease ≡ Some l = ap (λ (f : Follower). f.lease) c.self.view_is ∙ c.requires.leased in
    let managed : old.mode ≡ ManagedCheckpoint = sym (ap (λ (f : Follower). f.mode) c.self.view_is) ∙ mode-leased c.self.inside.following.mode c.self.inside.lease l c.self.invariant.leased held in
    let k = g.S.Store.calls c.args.store.now in
    let k1 = g.S.Store.calls c.latest_of.new.store in
    let k2 = g.S.Store.calls c.taking_new.new.store in
    news-then v.latest t t1 v.ensures.kept v.ensures.found old managed l m k k1 v.ensures.calls k2 e.calls (g.S.Store.calls c.replace_missing.new.store) c.replace_missing.ensures.calls

pub returns-then-is_none-clause-costs : goal.returns-then-is_none-clause-costs
returns-then-is_none-clause-costs g c =
    let v = c.in_ok-latest in
    let l = c.args.lease.now in
    let m = c.args.moment in
    let old = c.args.self.now in
    let t = g.S.Store.objects c.args.store.now in
    let t1 = g.S.Store.objects c.latest_of.new.store in
    let e = c.in_ok-taken.ensures in
    let held : c.self.inside.lease ≡ Some l = ap (λ (f : Follower). f.lease) c.self.view_is ∙ c.requires.leased in
    let managed : old.mode ≡ ManagedCheckpoint = sym (ap (λ (f : Follower). f.mode) c.self.view_is) ∙ mode-leased c.self.inside.following.mode c.self.inside.lease l c.self.invariant.leased held in
    let due : is_due m l ≡ true = search rules in
    let k = g.S.Store.calls c.args.store.now in
    let k1 = g.S.Store.calls c.latest_of.new.store in
    let k2 = g.S.Store.calls c.taking_new.new.store in
    if-ok-all (answered c.replace_missing.result) (due-costs v.latest t t1 v.ensures.kept v.ensures.found old managed l m k k1 v.ensures.calls k2 e.calls (g.S.Store.calls c.replace_missing.new.store) due c.replace_missing.ensures.calls)

pub returns-then-is_none-clause-lacks : goal.returns-then-is_none-clause-lacks
returns-then-is_none-clause-lacks g c x lawful is =
    let v = c.in_ok-latest in
    let l = c.args.lease.now in
    let m = c.args.moment in
    let old = c.args.self.now in
    let t = g.S.Store.objects c.args.store.now in
    let e = c.in_ok-taken.ensures in
    let t2 = g.S.Store.objects c.taking_new.new.store in
    let kept : t2 ≡ t = e.kept ∙ v.ensures.kept in
    let r = c.replace_missing in
    let held : c.self.inside.lease ≡ Some l = ap (λ (f : Follower). f.lease) c.self.view_is ∙ c.requires.leased in
    let managed : old.mode ≡ ManagedCheckpoint = sym (ap (λ (f : Follower). f.mode) c.self.view_is) ∙ mode-leased c.self.inside.following.mode c.self.inside.lease l c.self.invariant.leased held in
    let same : differs old.view v.latest ≡ false = search rules in
    let due : is_due m l ≡ true = search rules in
    let gone : is_none (found l.id v.latest) ≡ true = search rules in
    let replaced : replaces old.view l m v.latest ≡ true = replaces-by old.view v.latest l m false true true same due gone in
    let undone = to_z-of_z {w = w64} {z = m} (search rules) in
    let lacks = subst (λ m. IfSome t2 (λ o. ReplaceLacks x (replacement old.view v.latest l m) old o)) undone (r.ensures.lacks x is) in
    replace-keeps x v.latest kept v.ensures.found l m old managed replaced lacks

pub returns-in_err-renewed-clause-faults : goal.returns-in_err-renewed-clause-faults
returns-in_err-renewed-clause-faults g c =
    let same : g.S.Store.faults c.taking_new.new.store ≡ g.S.Store.faults c.args.store.now = (let a = c.in_ok-latest.ensures.faults.stays in let b = c.in_ok-taken.ensures.faults.stays in omega (arith, a, b)) in
    let got : c.from_residual-in_err-renewed.result ≡ Err c.in_err-renewed.field-0.0 = search rules in
    rw got (counts-then (g.S.Store.faults c.args.store.now) (g.S.Store.faults c.taking_new.new.store) (g.S.Store.faults c.renew_lease.new.store) c.in_err-renewed.field-0.0 same c.in_err-renewed.ensures.faults)

pub returns-in_err-renewed-clause-puts : goal.returns-in_err-renewed-clause-puts
returns-in_err-renewed-clause-puts g c =
    let v = c.in_ok-latest in
    let l = c.args.lease.now in
    let m = c.args.moment in
    let old = c.args.self.now in
    let t = g.S.Store.objects c.args.store.now in
    let e = c.in_ok-taken.ensures in
    let t2 = g.S.Store.objects c.taking_new.new.store in
    let kept : t2 ≡ t = e.kept ∙ v.ensures.kept in
    let then = c.renew_lease.new.self in
    let t3 = g.S.Store.objects c.renew_lease.new.store in
    let f = c.in_err-renewed.field-0.0 in
    let got : c.from_residual-in_err-renewed.result ≡ Err f = search rules in
    let same : differs old.view v.latest ≡ false = search rules in
    let due : is_due m l ≡ true = search rules in
    let there : is_none (found l.id v.latest) ≡ false = search rules in
    let unreplaced : replaces old.view l m v.latest ≡ false = replaces-by old.view v.latest l m false true false same due there in
    let undone = to_z-of_z {w = w64} {z = m} (search rules) in
    let puts = subst (λ m. WhereModelled (λ o o'. PutsBy {A = Unit {0}} unrefused (renewal old.view v.latest l m) old.lease o (Err f) then.lease o') t2 t3) undone c.in_err-renewed.ensures.puts in
    let all = renewed-puts t v.latest v.ensures.found l m old then unreplaced due (Err f) (Err f) kept puts (λ o o' h. renewal-failed old.view v.latest l m MayLack old.lease then.lease o o' f h) in
    rw got (search (rules, all))

pub returns-in_err-renewed-clause-lacks : goal.returns-in_err-renewed-clause-lacks
returns-in_err-renewed-clause-lacks g c x lawful is =
    let v = c.in_ok-latest in
    let l = c.args.lease.now in
    let m = c.args.moment in
    let old = c.args.self.now in
    let t = g.S.Store.objects c.args.store.now in
    let e = c.in_ok-taken.ensures in
    let t2 = g.S.Store.objects c.taking_new.new.store in
    let kept : t2 ≡ t = e.kept ∙ v.ensures.kept in
    let then = c.renew_lease.new.self in
    let t3 = g.S.Store.objects c.renew_lease.new.store in
    let f = c.in_err-renewed.field-0.0 in
    let got : c.from_residual-in_err-renewed.result ≡ Err f = search rules in
    let same : differs old.view v.latest ≡ false = search rules in
    let due : is_due m l ≡ true = search rules in
    let there : is_none (found l.id v.latest) ≡ false = search rules in
    let unreplaced : replaces old.view l m v.latest ≡ false = replaces-by old.view v.latest l m false true false same due there in
    let undone = to_z-of_z {w = w64} {z = m} (search rules) in
    let invalid : f ≡ InvalidDBState = err-same (Option Kept) f InvalidDBState (sym got ∙ is) in
    let puts = subst (λ m. WhereModelled (λ o o'. PutsBy {A = Unit {0}} unrefused (renewal old.view v.latest l m) old.lease o (Err f) then.lease o') t2 t3) undone c.in_err-renewed.ensures.puts in
    renew-keeps x v.latest kept v.ensures.found l m old unreplaced due old.lease then.lease t3 (subst (λ f. WhereModelled (λ o o'. PutsBy {A = Unit {0}} unrefused (renewal old.view v.latest l m) old.lease o (Err f) then.lease o') t2 t3) invalid puts)

pub returns-in_err-renewed-clause-calls : goal.returns-in_err-renewed-clause-calls
returns-in_err-renewed-clause-calls g c =
    let v = c.in_ok-latest in
    let l = c.args.lease.now in
    let m = c.args.moment in
    let old = c.args.self.now in
    let t = g.S.Store.objects c.args.store.now in
    let t1 = g.S.Store.objects c.latest_of.new.store in
    let e = c.in_ok-taken.ensures in
    let held : c.self.inside.lease ≡ Some l = ap (λ (f : Follower). f.lease) c.self.view_is ∙ c.requires.leased in
    let managed : old.mode ≡ ManagedCheckpoint = sym (ap (λ (f : Follower). f.mode) c.self.view_is) ∙ mode-leased c.self.inside.following.mode c.self.inside.lease l c.self.invariant.leased held in
    let k = g.S.Store.calls c.args.store.now in
    let k1 = g.S.Store.calls c.latest_of.new.store in
    let k2 = g.S.Store.calls c.taking_new.new.store in
    news-then v.latest t t1 v.ensures.kept v.ensures.found old managed l m k k1 v.ensures.calls k2 e.calls (g.S.Store.calls c.renew_lease.new.store) c.in_err-renewed.ensures.calls

pub returns-in_err-renewed-clause-segments : goal.returns-in_err-renewed-clause-segments
returns-in_err-renewed-clause-segments g c x lawful has =
    subst (HasSegments x) (sym c.in_err-renewed.ensures.same) has

pub returns-then-not-renewed-clause-puts : goal.returns-then-not-renewed-clause-puts
returns-then-not-renewed-clause-puts g c =
    let v = c.in_ok-latest in
    let l = c.args.lease.now in
    let m = c.args.moment in
    let old = c.args.self.now in
    let t = g.S.Store.objects c.args.store.now in
    let e = c.in_ok-taken.ensures in
    let t2 = g.S.Store.objects c.taking_new.new.store in
    let kept : t2 ≡ t = e.kept ∙ v.ensures.kept in
    let then = c.renew_lease.new.self in
    let t3 = g.S.Store.objects c.renew_lease.new.store in
    let same : differs old.view v.latest ≡ false = search rules in
    let due : is_due m l ≡ true = search rules in
    let there : is_none (found l.id v.latest) ≡ false = search rules in
    let unreplaced : replaces old.view l m v.latest ≡ false = replaces-by old.view v.latest l m false true false same due there in
    let is : c.in_ok-renewed.renewed ≡ false = search rules in
    let undone = to_z-of_z {w = w64} {z = m} (search rules) in
    let f : SlateError = TransactionalObjectTimeout 8 in
    let made = subst (λ b. WhereModelled (λ o o'. PutsBy unrefused (renewal old.view v.latest l (to_z w64 (of_z w64 m))) old.lease o (put_tried (Ok b)) then.lease o') t2 t3) is c.in_ok-renewed.ensures.puts in
    let puts = subst (λ m. WhereModelled (λ o o'. PutsBy {A = Unit {0}} unrefused (renewal old.view v.latest l m) old.lease o (Err f) then.lease o') t2 t3) undone made in
    let all = renewed-puts t v.latest v.ensures.found l m old then unreplaced due (Err f) (Err f) kept puts (λ o o' h. renewal-failed old.view v.latest l m MayLack old.lease then.lease o o' f h) in
    search (rules, all)

pub returns-then-not-renewed-clause-again : goal.returns-then-not-renewed-clause-again
returns-then-not-renewed-clause-again g c =
    let v = c.in_ok-latest in
    let t = g.S.Store.objects c.args.store.now in
    let e = c.in_ok-taken.ensures in
    let t2 = g.S.Store.objects c.taking_new.new.store in
    let kept : t2 ≡ t = e.kept ∙ v.ensures.kept in
    let is : c.in_ok-renewed.renewed ≡ false = search rules in
    λ answered. (let again = c.in_ok-renewed.ensures.again (ap Ok is) in (again.0, again.1 ∙ kept))

pub returns-then-not-renewed-clause-calls : goal.returns-then-not-renewed-clause-calls
returns-then-not-renewed-clause-calls g c =
    let v = c.in_ok-latest in
    let l = c.args.lease.now in
    let m = c.args.moment in
    let old = c.args.self.now in
    let t = g.S.Store.objects c.args.store.now in
    let t1 = g.S.Store.objects c.latest_of.new.store in
    let e = c.in_ok-taken.ensures in
    let held : c.self.inside.lease ≡ Some l = ap (λ (f : Follower). f.lease) c.self.view_is ∙ c.requires.leased in
    let managed : old.mode ≡ ManagedCheckpoint = sym (ap (λ (f : Follower). f.mode) c.self.view_is) ∙ mode-leased c.self.inside.following.mode c.self.inside.lease l c.self.invariant.leased held in
    let k = g.S.Store.calls c.args.store.now in
    let k1 = g.S.Store.calls c.latest_of.new.store in
    let k2 = g.S.Store.calls c.taking_new.new.store in
    news-then v.latest t t1 v.ensures.kept v.ensures.found old managed l m k k1 v.ensures.calls k2 e.calls (g.S.Store.calls c.renew_lease.new.store) c.in_ok-renewed.ensures.calls

pub returns-then-not-renewed-clause-segments : goal.returns-then-not-renewed-clause-segments
returns-then-not-renewed-clause-segments g c x lawful has =
    subst (HasSegments x) (sym c.in_ok-renewed.ensures.same) has

pub returns-clause-faults : goal.returns-clause-faults
returns-clause-faults g c =
    let same : g.S.Store.faults c.renew_lease.new.store ≡ g.S.Store.faults c.args.store.now = (let a = c.in_ok-latest.ensures.faults.stays in let b = c.in_ok-taken.ensures.faults.stays in let d = c.in_ok-renewed.ensures.faults.stays in omega (arith, a, b, d)) in
    let all = all-well (g.S.Store.faults c.args.store.now) (g.S.Store.faults c.renew_lease.new.store) (Some c.install-answer-2.result) same in
    search (rules, all)

pub returns-clause-puts : goal.returns-clause-puts
returns-clause-puts g c =
    let v = c.in_ok-latest in
    let l = c.args.lease.now in
    let m = c.args.moment in
    let old = c.args.self.now in
    let t = g.S.Store.objects c.args.store.now in
    let e = c.in_ok-taken.ensures in
    let t2 = g.S.Store.objects c.taking_new.new.store in
    let kept : t2 ≡ t = e.kept ∙ v.ensures.kept in
    let same : differs old.view v.latest ≡ false = search rules in
    let due : is_due m l ≡ true = search rules in
    let there : is_none (found l.id v.latest) ≡ false = search rules in
    let unreplaced : replaces old.view l m v.latest ≡ false = replaces-by old.view v.latest l m false true false same due there in
    let is : c.in_ok-renewed.renewed ≡ true = search rules in
    let undone = to_z-of_z {w = w64} {z = m} (search rules) in
    let then = c.renew_lease.new.self in
    let t3 = g.S.Store.objects c.renew_lease.new.store in
    let new = c.install-answer-2.new.self in
    let answer = c.install-answer-2.result in
    let lease_is : new.lease ≡ then.lease = ap (λ (f : Follower). f.lease) c.install-answer-2.ensures.becomes in
    let made = subst (λ b. WhereModelled (λ o o'. PutsBy unrefused (renewal old.view v.latest l (to_z w64 (of_z w64 m))) old.lease o (put_tried (Ok b)) then.lease o') t2 t3) is c.in_ok-renewed.ensures.puts in
    let puts0 = subst (λ m. WhereModelled (λ o o'. PutsBy {A = Unit {0}} unrefused (renewal old.view v.latest l m) old.lease o (Ok tt) then.lease o') t2 t3) undone made in
    let puts = subst (λ x. WhereModelled (λ o o'. PutsBy {A = Unit {0}} unrefused (renewal old.view v.latest l m) old.lease o (Ok tt) x o') t2 t3) (sym lease_is) puts0 in
    let all = renewed-puts t v.latest v.ensures.found l m old new unreplaced due (Ok tt) (Ok answer) kept puts (λ o o' h. renewal-done old.view v.latest l m MayLack old.lease new.lease o o' answer h) in
    search (rules, all)

pub returns-clause-answers : goal.returns-clause-answers
returns-clause-answers g c =
    let l = c.args.lease.now in
    let old = c.args.self.now in
    let held : c.self.inside.lease ≡ Some l = ap (λ (f : Follower). f.lease) c.self.view_is ∙ c.requires.leased in
    let managed : old.mode ≡ ManagedCheckpoint = sym (ap (λ (f : Follower). f.mode) c.self.view_is) ∙ mode-leased c.self.inside.following.mode c.self.inside.lease l c.self.invariant.leased held in
    let then = c.renew_lease.new.self in
    let new = c.install-answer-2.new.self in
    let answer = c.install-answer-2.result in
    let lease_is : new.lease ≡ then.lease = ap (λ (f : Follower). f.lease) c.install-answer-2.ensures.becomes in
    let becomes : new ≡ record (installed old.view c.in_ok-taken.taken old) { lease = new.lease } =
    c.install-answer-2.ensures.becomes ∙ (ap (λ (f : Follower). installed f.view c.in_ok-taken.taken f) c.in_ok-renewed.ensures.same ∙ ap (λ x. record (installed old.view c.in_ok-taken.taken old) { lease = x }) (sym lease_is)) in
    let answers : answer ≡ answer_of c.in_ok-taken.taken.replayed (number new) = c.install-answer-2.ensures.answer in
    has-open old.view c.in_ok-taken.taken new.lease old new answer becomes answers managed c.requires.open_

pub returns-clause-keeps : goal.returns-clause-keeps
returns-clause-keeps g c =
    let v = c.in_ok-latest in
    let l = c.args.lease.now in
    let m = c.args.moment in
    let old = c.args.self.now in
    let t = g.S.Store.objects c.args.store.now in
    let e = c.in_ok-taken.ensures in
    let t2 = g.S.Store.objects c.taking_new.new.store in
    let kept : t2 ≡ t = e.kept ∙ v.ensures.kept in
    let held : c.self.inside.lease ≡ Some l = ap (λ (f : Follower). f.lease) c.self.view_is ∙ c.requires.leased in
    let managed : old.mode ≡ ManagedCheckpoint = sym (ap (λ (f : Follower). f.mode) c.self.view_is) ∙ mode-leased c.self.inside.following.mode c.self.inside.lease l c.self.invariant.leased held in
    let tasks : old.tasks ≡ follower_tasks old.mode = subst (λ (f : Follower). f.result ≡ None → f.tasks ≡ follower_tasks f.mode) c.self.view_is c.self.invariant.running c.requires.open_ in
    let floor : old.line.floor ≡ old.view.manifest.last_l0_seq = subst (λ (f : Follower). f.line.floor ≡ f.view.manifest.last_l0_seq) c.self.view_is refl in
    let same : differs old.view v.latest ≡ false = search rules in
    let due : is_due m l ≡ true = search rules in
    let there : is_none (found l.id v.latest) ≡ false = search rules in
    let unreplaced : replaces old.view l m v.latest ≡ false = replaces-by old.view v.latest l m false true false same due there in
    let is : c.in_ok-renewed.renewed ≡ true = search rules in
    let undone = to_z-of_z {w = w64} {z = m} (search rules) in
    let then = c.renew_lease.new.self in
    let t3 = g.S.Store.objects c.renew_lease.new.store in
    let new = c.install-answer-2.new.self in
    let answer = c.install-answer-2.result in
    let lease_is : new.lease ≡ then.lease = ap (λ (f : Follower). f.lease) c.install-answer-2.ensures.becomes in
    let becomes : new ≡ record (installed old.view c.in_ok-taken.taken old) { lease = new.lease } =
    c.install-answer-2.ensures.becomes ∙ (ap (λ (f : Follower). installed f.view c.in_ok-taken.taken f) c.in_ok-renewed.ensures.same ∙ ap (λ x. record (installed old.view c.in_ok-taken.taken old) { lease = x }) (sym lease_is)) in
    let answers : answer ≡ answer_of c.in_ok-taken.taken.replayed (number new) = c.install-answer-2.ensures.answer in
    let made = subst (λ b. WhereModelled (λ o o'. PutsBy unrefused (renewal old.view v.latest l (to_z w64 (of_z w64 m))) old.lease o (put_tried (Ok b)) then.lease o') t2 t3) is c.in_ok-renewed.ensures.puts in
    let puts0 = subst (λ m. WhereModelled (λ o o'. PutsBy {A = Unit {0}} unrefused (renewal old.view v.latest l m) old.lease o (Ok tt) then.lease o') t2 t3) undone made in
    let puts = subst (λ x. WhereModelled (λ o o'. PutsBy {A = Unit {0}} unrefused (renewal old.view v.latest l m) old.lease o (Ok tt) x o') t2 t3) (sym lease_is) puts0 in
    let all = renewed-kept t v.latest v.ensures.found l m old new managed c.requires.open_ tasks floor same c.in_ok-taken.taken answer answers t2 kept (subst (λ s. IfSome s (λ o. GivesTaking (TakesUnder o v.latest old) v.latest old c.in_ok-taken.taken)) (sym e.kept) e.takes)
    becomes unreplaced due puts in
    search (rules, all)

pub returns-clause-truncates : goal.returns-clause-truncates
returns-clause-truncates g c =
    let v = c.in_ok-latest in
    let old = c.args.self.now in
    let t = g.S.Store.objects c.args.store.now in
    let e = c.in_ok-taken.ensures in
    let then = c.renew_lease.new.self in
    let new = c.install-answer-2.new.self in
    let answer = c.install-answer-2.result in
    let lease_is : new.lease ≡ then.lease = ap (λ (f : Follower). f.lease) c.install-answer-2.ensures.becomes in
    let becomes : new ≡ record (installed old.view c.in_ok-taken.taken old) { lease = new.lease } =
    c.install-answer-2.ensures.becomes ∙ (ap (λ (f : Follower). installed f.view c.in_ok-taken.taken f) c.in_ok-renewed.ensures.same ∙ ap (λ x. record (installed old.view c.in_ok-taken.taken old) { lease = x }) (sym lease_is)) in
    let answers : answer ≡ answer_of c.in_ok-taken.taken.replayed (number new) = c.install-answer-2.ensures.answer in
    has-truncated old.view c.in_ok-taken.taken new.lease old new answer becomes answers v.latest t (subst (λ s. IfSome s (λ o. GivesTaking (TakesUnder o v.latest old) v.latest old c.in_ok-taken.taken)) v.ensures.kept e.takes)

pub returns-clause-segments : goal.returns-clause-segments
returns-clause-segments g c x lawful has =
    let v = c.in_ok-latest in
    let old = c.args.self.now in
    let e = c.in_ok-taken.ensures in
    let same : differs old.view v.latest ≡ false = search rules in
    let then = c.renew_lease.new.self in
    let new = c.install-answer-2.new.self in
    let answer = c.install-answer-2.result in
    let lease_is : new.lease ≡ then.lease = ap (λ (f : Follower). f.lease) c.install-answer-2.ensures.becomes in
    let becomes : new ≡ record (installed old.view c.in_ok-taken.taken old) { lease = new.lease } =
    c.install-answer-2.ensures.becomes ∙ (ap (λ (f : Follower). installed f.view c.in_ok-taken.taken f) c.in_ok-renewed.ensures.same ∙ ap (λ x. record (installed old.view c.in_ok-taken.taken old) { lease = x }) (sym lease_is)) in
    let answers : answer ≡ answer_of c.in_ok-taken.taken.replayed (number new) = c.install-answer-2.ensures.answer in
    has-segments old.view c.in_ok-taken.taken new.lease old new answer becomes answers x (e.floor ∙ sym (tabled-same old.view v.latest same)) (e.segments x lawful has)

pub returns-clause-calls : goal.returns-clause-calls
returns-clause-calls g c =
    let v = c.in_ok-latest in
    let l = c.args.lease.now in
    let m = c.args.moment in
    let old = c.args.self.now in
    let t = g.S.Store.objects c.args.store.now in
    let t1 = g.S.Store.objects c.latest_of.new.store in
    let e = c.in_ok-taken.ensures in
    let held : c.self.inside.lease ≡ Some l = ap (λ (f : Follower). f.lease) c.self.view_is ∙ c.requires.leased in
    let managed : old.mode ≡ ManagedCheckpoint = sym (ap (λ (f : Follower). f.mode) c.self.view_is) ∙ mode-leased c.self.inside.following.mode c.self.inside.lease l c.self.invariant.leased held in
    let k = g.S.Store.calls c.args.store.now in
    let k1 = g.S.Store.calls c.latest_of.new.store in
    let k2 = g.S.Store.calls c.taking_new.new.store in
    news-then v.latest t t1 v.ensures.kept v.ensures.found old managed l m k k1 v.ensures.calls k2 e.calls (g.S.Store.calls c.renew_lease.new.store) c.in_ok-renewed.ensures.calls

pub returns-clause-costs : goal.returns-clause-costs
returns-clause-costs g c =
    let v = c.in_ok-latest in
    let l = c.args.lease.now in
    let m = c.args.moment in
    let old = c.args.self.now in
    let t = g.S.Store.objects c.args.store.now in
    let t1 = g.S.Store.objects c.latest_of.new.store in
    let e = c.in_ok-taken.ensures in
    let held : c.self.inside.lease ≡ Some l = ap (λ (f : Follower). f.lease) c.self.view_is ∙ c.requires.leased in
    let managed : old.mode ≡ ManagedCheckpoint = sym (ap (λ (f : Follower). f.mode) c.self.view_is) ∙ mode-leased c.self.inside.following.mode c.self.inside.lease l c.self.invariant.leased held in
    let due : is_due m l ≡ true = search rules in
    let k = g.S.Store.calls c.args.store.now in
    let k1 = g.S.Store.calls c.latest_of.new.store in
    let k2 = g.S.Store.calls c.taking_new.new.store in
    due-costs v.latest t t1 v.ensures.kept v.ensures.found old managed l m k k1 v.ensures.calls k2 e.calls (g.S.Store.calls c.renew_lease.new.store) due c.in_ok-renewed.ensures.calls

pub returns-clause-free : goal.returns-clause-free
returns-clause-free g c =
    let v = c.in_ok-latest in
    let l = c.args.lease.now in
    let m = c.args.moment in
    let old = c.args.self.now in
    let t = g.S.Store.objects c.args.store.now in
    let e = c.in_ok-taken.ensures in
    let t2 = g.S.Store.objects c.taking_new.new.store in
    let kept : t2 ≡ t = e.kept ∙ v.ensures.kept in
    let same : differs old.view v.latest ≡ false = search rules in
    let due : is_due m l ≡ true = search rules in
    let there : is_none (found l.id v.latest) ≡ false = search rules in
    let unreplaced : replaces old.view l m v.latest ≡ false = replaces-by old.view v.latest l m false true false same due there in
    let is : c.in_ok-renewed.renewed ≡ true = search rules in
    let undone = to_z-of_z {w = w64} {z = m} (search rules) in
    let free = subst (λ m. IfSome t2 (λ o. Stands (planned (renewal old.view v.latest l m)) o → ⊥)) undone (c.in_ok-renewed.ensures.free (ap Ok is)) in
    unstanding-by t v.latest v.ensures.found l m old (renewal old.view v.latest l m) (to-renewal old.view v.latest l m unreplaced due) kept free

pub install-answer-requires : goal.install-answer-requires
install-answer-requires g c =
    let v = c.in_ok-latest in
    let old = c.args.self.now in
    let same : differs old.view v.latest ≡ false = search rules in
    c.in_ok-taken.ensures.floor ∙ sym (tabled-same old.view v.latest same)

pub install-answer-requires-2 : goal.install-answer-requires-2
install-answer-requires-2 g c =
    let v = c.in_ok-latest in
    let old = c.args.self.now in
    let same : differs old.view v.latest ≡ false = search rules in
    c.in_ok-taken.ensures.floor ∙ (sym (tabled-same old.view v.latest same) ∙ sym (ap (λ (f : Follower). f.view.manifest.last_l0_seq) c.in_ok-renewed.ensures.same))

pub taking_new-requires : goal.taking_new-requires
taking_new-requires g c =
    let l = c.args.lease.now in
    let old = c.args.self.now in
    let held : c.self.inside.lease ≡ Some l = ap (λ (f : Follower). f.lease) c.self.view_is ∙ c.requires.leased in
    let managed : old.mode ≡ ManagedCheckpoint = sym (ap (λ (f : Follower). f.mode) c.self.view_is) ∙ mode-leased c.self.inside.following.mode c.self.inside.lease l c.self.invariant.leased held in
    record { open_ = c.requires.open_; free = ap is_pinned managed }
