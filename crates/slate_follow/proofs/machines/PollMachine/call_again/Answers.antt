use Rattle.std.proofs.Common.{◌≡◌, Err, Some, false, nat_lt, refl, rules, subst, sym}
use Rattle.slate_model.specs.Begun.{Begun, ReadsAgain, read_again, replayed}
use Rattle.slate_follow.specs.Stepping.{FitsReader, TurnsTo}
use Rattle.slate_follow.proofs.Called.{calls-to, commit-counts, latest-failed}
use Rattle.slate_follow.proofs.Planned.{modelled-kept}
use Rattle.slate_follow.proofs.Stepped.{again-on}
use Rattle.slate_follow.proofs.machines.PollMachine.call_again.Goals as goal

pub returns-in_err-latest-clause-next : goal.returns-in_err-latest-clause-next
returns-in_err-latest-clause-next g c = λ reader fits.
    let e = c.in_err-latest.field-0.0 in
    let all = latest-failed ReadsAgain reader c.args.self.now c.args.self.now e refl c.in_err-latest.ensures.found c.in_err-latest.ensures.kept c.in_err-latest.ensures.kind c.requires.ended in
    let result : c.from_residual.result ≡ Err e = search rules in
    rw result all

pub returns-clause-next : goal.returns-clause-next
returns-clause-next g c = λ reader fits.
    let old = c.args.self.now in
    let v = c.in_ok-latest.latest in
    let still : nat_lt old.mark v.manifest.replay_after_wal_id ≡ false = search rules in
    let read = record old { latest = Some v } in
    let fits' : FitsReader reader read = record { leased = fits.leased; after = fits.after; low = fits.low; high = fits.high } in
    let turn = c.keep_lease.ensures.turns reader v (subst (λ (b : Begun). FitsReader reader (record b { latest = Some v })) (sym c.self.view_is) fits') refl in
    let turn' = subst (λ (b : Begun). TurnsTo reader (replayed v (record b { latest = Some v })) c.keep_lease.result c.keep_lease.new.self) c.self.view_is turn in
    calls-to ReadsAgain reader old (read_again v old) c.keep_lease.result c.keep_lease.new.self
    (modelled-kept c.in_ok-latest.ensures.found c.in_ok-latest.ensures.kept (λ o is. ((v, is, refl, refl), refl))) (again-on reader v old _ _ still turn')

pub returns-clause-faults : goal.returns-clause-faults
returns-clause-faults g c = commit-counts _ _ c.keep_lease.result c.in_ok-latest.ensures.faults.stays c.keep_lease.ensures.kind
