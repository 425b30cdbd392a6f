use Rattle.std.proofs.Common.{◌≡◌, Bool, Some, true, refl, rules, subst}
use Rattle.slate_store.specs.declared.objects.VersionedManifest.{VersionedManifest}
use Rattle.slate_model.specs.Begun.{Begun, committed, replaying}
use Rattle.slate_model.specs.declared.leases.Lease.{Lease}
use Rattle.slate_follow.specs.Stepping.{TurnsTo}
use Rattle.slate_follow.proofs.Stepped.{committed-goes}
use Rattle.slate_follow.proofs.machines.PollMachine.commit.Goals as goal

pub returns : goal.returns
returns c =
    let old = c.args.self.now in
    let reader = c.args.state.now in
    let p = c.into_parts-next.result in
    let r = c.replay in
    let replaces : p.2 ≡ true = search rules in
    let turn = subst (λ (b : Begun). TurnsTo reader (replaying reader p.0 (record b { view = Some p.0; latest = Some p.0; lease = Some p.1 })) r.result r.new.self) c.self.view_is (r.ensures p.0 refl) in
    subst (λ (q : VersionedManifest × Lease × Bool). TurnsTo reader (committed reader q.0 q.1 q.2 old) r.result r.new.self) c.into_parts-next.ensures (committed-goes reader p.0 p.1 p.2 old _ _ replaces turn)
