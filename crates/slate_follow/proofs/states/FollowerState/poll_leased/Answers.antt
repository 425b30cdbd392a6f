use Rattle.std.proofs.Common.{◌≡◌, true, false, Result, Ok, Err, Some, ap, inl, inr, refl, rules, subst}
use Rattle.std.proofs.Math.Facts.{to_z-of_z}
use Rattle.std.specs.Int.{w64}
use Rattle.std.specs.Option.{IfSome}
use Rattle.slate_types.specs.Modelled.{WhereModelled}
use Rattle.slate_errors.specs.declared.errors.SlateError.{SlateError}
use Rattle.slate_errors.specs.declared.errors.SlateError.TheVariants.{InvalidDBState}
use Rattle.slate_model.specs.Known.{known}
use Rattle.slate_model.specs.Lease.{is_due}
use Rattle.slate_model.specs.Managed.{Keeps}
use Rattle.slate_model.specs.Stores.{by_objects}
use Rattle.slate_model.specs.declared.leases.Lease.{Lease}
use Rattle.slate_follow.specs.Keeping.{CallsRound, KeepLacks, MovesBy}
use Rattle.slate_follow.proofs.Keeping.{PutsAndKeeps}
use Rattle.slate_follow.proofs.Rebuilt.{some_at}
use Rattle.slate_follow.proofs.Renewing.{RenewsAt, failed-polls, one-round, renewal-calls, renewal-left, renewed-polls, unmoved}
use Rattle.slate_follow.proofs.Taken.{all-well, counts-then, keeps-err, keeps-ok, round-left}
use Rattle.slate_follow.proofs.states.FollowerState.poll_leased.Goals as goal

-- ---- a round that fails
pub returns-in-Err-clause-keeps : goal.returns-in-Err-clause-keeps
returns-in-Err-clause-keeps g c x lawful =
    let k = c.in-Err.ensures in
    let l = c.args.lease.now in
    let old = c.args.self.now in
    let inner = c.keep_lease.new.self in
    let t = g.S.Store.objects c.args.store.now in
    let t' = g.S.Store.objects c.keep_lease.new.store in
    let undone = to_z-of_z {w = w64} {z = c.args.moment} (search rules) in
    let goes = subst (λ m. WhereModelled (PutsAndKeeps l m old (Err c.in-Err.error) inner) t t') undone k.puts in
    let lacks = λ (is : c.in-Err.error ≡ InvalidDBState). subst (λ m. IfSome t (λ o. KeepLacks x l m old o)) undone (k.lacks x lawful (ap Err is)) in
    let f = g.S.Store.faults c.args.store.now in
    let f' = g.S.Store.faults c.keep_lease.new.store in
    let round = keeps-err x l c.args.moment old t t' f f' c.in-Err.error inner c.close_by.new.self (counts-then f f f' c.in-Err.error refl k.faults) goes k.failed c.close_by.ensures lacks in
    (round.0, inl (record { round = round.1; ends = tt }))

pub returns-in-Err-clause-left : goal.returns-in-Err-clause-left
returns-in-Err-clause-left g c =
    let k = c.in-Err.ensures in
    let l = c.args.lease.now in
    let old = c.args.self.now in
    let inner = c.keep_lease.new.self in
    let t = g.S.Store.objects c.args.store.now in
    let t' = g.S.Store.objects c.keep_lease.new.store in
    let held : old.lease ≡ Some l = search rules in
    let goes = subst (λ m. WhereModelled (PutsAndKeeps l m old (Err c.in-Err.error) inner) t t') (to_z-of_z {w = w64} {z = c.args.moment} (search rules)) k.puts in
    inl (round-left l c.args.moment old t t' held c.in-Err.error inner c.close_by.new.self goes k.failed c.close_by.ensures)

-- ---- one that answers, and moves to no other manifest for a view that differs
pub returns-then-not-kept-clause-keeps : goal.returns-then-not-kept-clause-keeps
returns-then-not-kept-clause-keeps g c x lawful =
    let k = c.in-Ok.ensures in
    let l = c.args.lease.now in
    let m = c.args.moment in
    let old = c.args.self.now in
    let new = c.keep_lease.new.self in
    let a = c.in-Ok.kept.answer in
    let t = g.S.Store.objects c.args.store.now in
    let t' = g.S.Store.objects c.keep_lease.new.store in
    let f = g.S.Store.faults c.args.store.now in
    let f' = g.S.Store.faults c.keep_lease.new.store in
    let undone = to_z-of_z {w = w64} {z = m} (search rules) in
    let goes = subst (λ m. WhereModelled (PutsAndKeeps l m old (Ok a) new) t t') undone k.puts in
    let keeps = subst (λ m. WhereModelled (λ o o'. Keeps (by_objects t) l m old o new a o') t t') undone k.keeps in
    let unmoving : c.in-Ok.kept.moved ≡ false = search rules in
    let moves = subst (λ b. IfSome t (MovesBy b old)) unmoving k.moved in
    let round = keeps-ok x l m old t t' f f' a new (all-well f f' a k.faults.stays) goes k.answers keeps (k.segments x lawful) in
    (round.0, one-round x l m old t t' t' f f' f' a new round.0 round.1 (unmoved t f old l m moves))

-- ---- one that does
pub returns-in-Ok-renew_taken-clause-keeps : goal.returns-in-Ok-renew_taken-clause-keeps
returns-in-Ok-renew_taken-clause-keeps g c x lawful =
    let k = c.in-Ok.ensures in
    let r = c.in-Ok-renew_taken.ensures in
    let l = c.args.lease.now in
    let m = c.args.moment in
    let old = c.args.self.now in
    let middle = c.keep_lease.new.self in
    let a = c.in-Ok.kept.answer in
    let t = g.S.Store.objects c.args.store.now in
    let t1 = g.S.Store.objects c.keep_lease.new.store in
    let t' = g.S.Store.objects c.renew_taken.new.store in
    let f = g.S.Store.faults c.args.store.now in
    let f1 = g.S.Store.faults c.keep_lease.new.store in
    let f' = g.S.Store.faults c.renew_taken.new.store in
    let undone = to_z-of_z {w = w64} {z = m} (search rules) in
    let goes = subst (λ m. WhereModelled (PutsAndKeeps l m old (Ok a) middle) t t1) undone k.puts in
    let keeps = subst (λ m. WhereModelled (λ o o'. Keeps (by_objects t) l m old o middle a o') t t1) undone k.keeps in
    let moving : c.in-Ok.kept.moved ≡ true = search rules in
    let moves = subst (λ b. IfSome t (MovesBy b old)) moving k.moved in
    let round = keeps-ok x l m old t t1 f f1 a middle (all-well f f1 a k.faults.stays) goes k.answers keeps (k.segments x lawful) in
    let puts = subst (λ m. IfSome middle.lease (RenewsAt {A = Unit {0}} m middle.view (Ok tt) t1 t')) undone r.puts in
    let Fine : Type 0 = ◌≡◌ {A = Result (Unit {0}) SlateError} (Ok tt) (Ok tt) in
    let undue = subst (λ m. IfSome middle.lease (λ lease. is_due m lease ≡ false → Fine × (c.renew_taken.new.store ≡ c.keep_lease.new.store))) undone r.undue in
    renewed-polls x l m old t t1 t' f f1 f' a middle round.0 round.1 moves keeps r.faults
    (λ taken held. some_at (RenewsAt {A = Unit {0}} m middle.view (Ok tt) t1 t') middle.lease taken held puts)
    (λ taken held early. ap (known g.S.Store.objects g.S.Store.faults) (some_at (λ (lease : Lease). is_due m lease ≡ false → Fine × (c.renew_taken.new.store ≡ c.keep_lease.new.store)) middle.lease taken held undue early).1)
    (λ bare. ap (known g.S.Store.objects g.S.Store.faults) (r.none bare).1)

pub returns-in-Ok-renew_taken-clause-costs : goal.returns-in-Ok-renew_taken-clause-costs
returns-in-Ok-renew_taken-clause-costs g c =
    let k = c.in-Ok.ensures in
    let r = c.in-Ok-renew_taken.ensures in
    let l = c.args.lease.now in
    let m = c.args.moment in
    let old = c.args.self.now in
    let middle = c.keep_lease.new.self in
    let a = c.in-Ok.kept.answer in
    let t = g.S.Store.objects c.args.store.now in
    let t1 = g.S.Store.objects c.keep_lease.new.store in
    let n = g.S.Store.calls c.args.store.now in
    let n1 = g.S.Store.calls c.keep_lease.new.store in
    let n' = g.S.Store.calls c.renew_taken.new.store in
    let undone = to_z-of_z {w = w64} {z = m} (search rules) in
    let keeps = subst (λ m. WhereModelled (λ o o'. Keeps (by_objects t) l m old o middle a o') t t1) undone k.keeps in
    let costs = subst (λ m. IfSome t (λ o. CallsRound o old l m n n1)) undone k.costs in
    let moving : c.in-Ok.kept.moved ≡ true = search rules in
    let moves = subst (λ b. IfSome t (MovesBy b old)) moving k.moved in
    let Fine : Type 0 = ◌≡◌ {A = Result (Unit {0}) SlateError} (Ok tt) (Ok tt) in
    let undue = subst (λ m. IfSome middle.lease (λ lease. is_due m lease ≡ false → Fine × (c.renew_taken.new.store ≡ c.keep_lease.new.store))) undone r.undue in
    renewal-calls t t1 (g.S.Store.faults c.args.store.now) old middle l m a moves keeps n n1 n' r.calls
    (λ taken held early. ap g.S.Store.calls (some_at (λ (lease : Lease). is_due m lease ≡ false → Fine × (c.renew_taken.new.store ≡ c.keep_lease.new.store)) middle.lease taken held undue early).1)
    (λ bare. ap g.S.Store.calls (r.none bare).1) costs

pub returns-in-Err-renew_taken-clause-keeps : goal.returns-in-Err-renew_taken-clause-keeps
returns-in-Err-renew_taken-clause-keeps g c x lawful =
    let k = c.in-Ok.ensures in
    let r = c.in-Err-renew_taken.ensures in
    let e = c.in-Err-renew_taken.error in
    let l = c.args.lease.now in
    let m = c.args.moment in
    let old = c.args.self.now in
    let middle = c.keep_lease.new.self in
    let a = c.in-Ok.kept.answer in
    let t = g.S.Store.objects c.args.store.now in
    let t1 = g.S.Store.objects c.keep_lease.new.store in
    let t' = g.S.Store.objects c.renew_taken.new.store in
    let f = g.S.Store.faults c.args.store.now in
    let f1 = g.S.Store.faults c.keep_lease.new.store in
    let f' = g.S.Store.faults c.renew_taken.new.store in
    let undone = to_z-of_z {w = w64} {z = m} (search rules) in
    let goes = subst (λ m. WhereModelled (PutsAndKeeps l m old (Ok a) middle) t t1) undone k.puts in
    let keeps = subst (λ m. WhereModelled (λ o o'. Keeps (by_objects t) l m old o middle a o') t t1) undone k.keeps in
    let moving : c.in-Ok.kept.moved ≡ true = search rules in
    let moves = subst (λ b. IfSome t (MovesBy b old)) moving k.moved in
    let round = keeps-ok x l m old t t1 f f1 a middle (all-well f f1 a k.faults.stays) goes k.answers keeps (k.segments x lawful) in
    let puts = subst (λ m. IfSome middle.lease (RenewsAt {A = Unit {0}} m middle.view (Err e) t1 t')) undone r.puts in
    let Refused : Type 0 = ◌≡◌ {A = Result (Unit {0}) SlateError} (Err e) (Ok tt) in
    let undue = subst (λ m. IfSome middle.lease (λ lease. is_due m lease ≡ false → Refused × (c.renew_taken.new.store ≡ c.keep_lease.new.store))) undone r.undue in
    failed-polls x l m old t t1 t' f f1 f' a middle round.0 round.1 moves keeps e c.close_by-in-Err-renew_taken.new.self c.close_by-in-Err-renew_taken.ensures r.faults
    (λ taken held. some_at (RenewsAt {A = Unit {0}} m middle.view (Err e) t1 t') middle.lease taken held puts)
    (λ taken held early. let no = (some_at (λ (lease : Lease). is_due m lease ≡ false → Refused × (c.renew_taken.new.store ≡ c.keep_lease.new.store)) middle.lease taken held undue early).0 in absurd (cc))
    (λ bare. let no = (r.none bare).0 in absurd (cc))

pub returns-in-Err-renew_taken-clause-left : goal.returns-in-Err-renew_taken-clause-left
returns-in-Err-renew_taken-clause-left g c =
    let k = c.in-Ok.ensures in
    let r = c.in-Err-renew_taken.ensures in
    let e = c.in-Err-renew_taken.error in
    let l = c.args.lease.now in
    let m = c.args.moment in
    let old = c.args.self.now in
    let middle = c.keep_lease.new.self in
    let a = c.in-Ok.kept.answer in
    let t = g.S.Store.objects c.args.store.now in
    let t1 = g.S.Store.objects c.keep_lease.new.store in
    let t' = g.S.Store.objects c.renew_taken.new.store in
    let undone = to_z-of_z {w = w64} {z = m} (search rules) in
    let held : old.lease ≡ Some l = search rules in
    let keeps = subst (λ m. WhereModelled (λ o o'. Keeps (by_objects t) l m old o middle a o') t t1) undone k.keeps in
    let moving : c.in-Ok.kept.moved ≡ true = search rules in
    let moves = subst (λ b. IfSome t (MovesBy b old)) moving k.moved in
    let puts = subst (λ m. IfSome middle.lease (RenewsAt {A = Unit {0}} m middle.view (Err e) t1 t')) undone r.puts in
    let Refused : Type 0 = ◌≡◌ {A = Result (Unit {0}) SlateError} (Err e) (Ok tt) in
    let undue = subst (λ m. IfSome middle.lease (λ lease. is_due m lease ≡ false → Refused × (c.renew_taken.new.store ≡ c.keep_lease.new.store))) undone r.undue in
    inr (renewal-left l m old t t1 t' held middle a k.answers moves keeps (k.there moving) e
    (λ taken leased. some_at (RenewsAt {A = Unit {0}} m middle.view (Err e) t1 t') middle.lease taken leased puts)
    (λ taken leased early. let no = (some_at (λ (lease : Lease). is_due m lease ≡ false → Refused × (c.renew_taken.new.store ≡ c.keep_lease.new.store)) middle.lease taken leased undue early).0 in absurd (cc))
    (λ bare. let no = (r.none bare).0 in absurd (cc))
    c.close_by-in-Err-renew_taken.new.self c.close_by-in-Err-renew_taken.ensures)
