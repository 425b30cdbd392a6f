use Rattle.std.proofs.Common.{◌≡◌, ◌∙◌, true, rules, ap, sym, subst}
use Rattle.slate_store.specs.declared.objects.VersionedManifest.{VersionedManifest}
use Rattle.slate_model.specs.Begun.{Begun, emptied, replayed, view_of}
use Rattle.slate_follow.specs.Stepping.{FitsReader, TurnsTo}
use Rattle.slate_follow.proofs.Stepped.{emptied-fits, replaying-skips}
use Rattle.slate_follow.proofs.machines.PollMachine.replay.Goals as goal

pub returns-then-state : goal.returns-then-state
returns-then-state c = λ latest is.
    let reader = c.args.state.now in
    let old = c.args.self.now in
    let skips : reader.skips ≡ true = search rules in
    let there : c.latest.result.now ≡ latest = search rules in
    let tabled : c.tabled-tabled.result ≡ (view_of reader old).manifest.last_l0_seq = search rules in
    let after = c.empty.ensures reader tabled ∙ ap (λ (v : VersionedManifest). emptied reader v.manifest.replay_after_wal_id old) there in
    let fits = subst (λ (b : Begun). FitsReader reader b) (sym after) (emptied-fits reader latest.manifest.replay_after_wal_id old c.requires.fits) in
    let turn = c.keep_lease.ensures.turns reader latest fits (ap (λ (b : Begun). b.latest) after ∙ is) in
    replaying-skips reader latest old _ _ skips (subst (λ (b : Begun). TurnsTo reader (replayed latest b) c.keep_lease.result c.keep_lease.new.self) after turn)
