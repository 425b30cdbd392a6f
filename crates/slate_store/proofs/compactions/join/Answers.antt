use Rattle.std.proofs.Common.{subst}
use Rattle.std.specs.Option.{IfSome}
use Rattle.slate_store.specs.Content.{AreStored}
use Rattle.slate_store.proofs.Joining.{all-read}
use Rattle.slate_store.proofs.compactions.join.Goals as goal

pub returns-clause-read : goal.returns-clause-read
returns-clause-read g c =
    let read = subst (λ ids. IfSome (g.S.Store.objects c.read_latest.new.store) (λ o. AreStored o ids)) c.as_slice-2.ensures c.in_ok-table.ensures.read in
    all-read _ _ c.in_ok-latest.latest c.in_ok-latest.ensures.kept c.in_ok-latest.ensures.found read
