use Rattle.std.proofs.Common.{◌≡◌, ◌∙◌, false, true, None, Some, Ok, Err, refl, rules, ap, sym, subst, of_z, to_z}
use Rattle.std.proofs.Math.Facts.{to_z-of_z}
use Rattle.std.specs.Int.{w64}
use Rattle.slate_store.specs.Checkpoints.{to_write}
use Rattle.slate_model.specs.Begun.{Begun, Puts, Turn, put_by, replaying}
use Rattle.slate_model.specs.Lease.{differs, leased}
use Rattle.slate_follow.specs.Stepping.{FitsReader, GivesPut, TurnsTo}
use Rattle.slate_follow.proofs.Stepped.{decided-unleased, decided-same, decided-other, lease-managed, turn-failed, turn-made}
use Rattle.slate_follow.proofs.machines.PollMachine.decide.Goals as goal

pub returns-in_default : goal.returns-in_default
returns-in_default c =
    let old = c.args.self.now in
    let reader = c.args.state.now in
    let v = c.args.latest in
    let none : old.lease ≡ None = search rules in
    let turn = subst (λ (b : Begun). TurnsTo reader (replaying reader v (record b { view = Some v; latest = Some v })) c.replay.result c.replay.new.self) c.self.view_is (c.replay.ensures v refl) in
    decided-unleased reader v old.lease old _ _ none turn

pub returns-then-not-differs : goal.returns-then-not-differs
returns-then-not-differs c =
    let old = c.args.self.now in
    let reader = c.args.state.now in
    let v = c.args.latest in
    let l = c.in-Some.lease in
    let held : old.lease ≡ Some l = search rules in
    let same : differs reader.view v ≡ false = search rules in
    let r = c.replay-then-not-differs in
    let turn = subst (λ (b : Begun). TurnsTo reader (replaying reader v (record b { latest = Some v })) r.result r.new.self) c.self.view_is (r.ensures v refl) in
    decided-same reader v old.lease l old _ _ held same turn

pub returns-in_err-commit : goal.returns-in_err-commit
returns-in_err-commit c =
    let old = c.args.self.now in
    let reader = c.args.state.now in
    let v = c.args.latest in
    let l = c.in-Some.lease in
    let e = c.in_err-commit.field-0.0 in
    let held : old.lease ≡ Some l = search rules in
    let other : differs reader.view v ≡ true = search rules in
    let read = record old { latest = Some v } in
    let moment : to_z w64 (of_z w64 c.self.inside.moment) ≡ old.moment = to_z-of_z {w = w64} {z = c.self.inside.moment} (search rules) ∙ ap (λ (b : Begun). b.moment) c.self.view_is in
    let gives = subst (λ m. GivesPut (put_by (leased l.lifetime (to_write (Some l.id) (Some l.lifetime) m v)) true read) read (Err e)) moment (c.in_err-commit.ensures.gives read) in
    let all = turn-failed reader (put_by (leased l.lifetime (to_write (Some l.id) (Some l.lifetime) old.moment v)) true read) read old e
    (lease-managed reader old l c.requires.fits.leased held) c.in_err-commit.ensures.kind gives c.requires.ended in
    let result : c.from_residual.result ≡ Err e = search rules in
    rw result (subst (λ (t : Turn). TurnsTo reader t (Err e) old) (sym (decided-other reader v old.lease l old held other)) all)

pub returns : goal.returns
returns c =
    let old = c.args.self.now in
    let reader = c.args.state.now in
    let v = c.args.latest in
    let l = c.in-Some.lease in
    let commit = c.in_ok-commit.commit in
    let held : old.lease ≡ Some l = search rules in
    let other : differs reader.view v ≡ true = search rules in
    let read = record old { latest = Some v } in
    let moment : to_z w64 (of_z w64 c.self.inside.moment) ≡ old.moment = to_z-of_z {w = w64} {z = c.self.inside.moment} (search rules) ∙ ap (λ (b : Begun). b.moment) c.self.view_is in
    let gives = subst (λ m. GivesPut (put_by (leased l.lifetime (to_write (Some l.id) (Some l.lifetime) m v)) true read) read (Ok commit)) moment (c.in_ok-commit.ensures.gives read) in
    let fits = c.requires.fits in
    let fits' : FitsReader reader read = record { leased = fits.leased; after = fits.after; low = fits.low; high = fits.high } in
    let after = c.put.ensures.1 ∙ ap (λ (b : Begun). record b { latest = Some v; stage = Puts commit.next commit.lease commit.replaces }) c.self.view_is in
    let all = turn-made reader (put_by (leased l.lifetime (to_write (Some l.id) (Some l.lifetime) old.moment v)) true read) read c.put.new.self commit c.put.result gives c.put.ensures.0 after fits' in
    subst (λ (t : Turn). TurnsTo reader t (Ok c.put.result) c.put.new.self) (sym (decided-other reader v old.lease l old held other)) all
