use Rattle.std.proofs.Common.{◌≡◌, ◌∙◌, Some, ap, subst, sym}
use Rattle.slate_store.specs.Calls.{Finds}
use Rattle.slate_store.specs.Objects.{Objects, table_at}
use Rattle.slate_check.specs.Reads.{AreOf}
use Rattle.slate_check.proofs.Cached.{table-put}
use Rattle.slate_check.proofs.Lists.{known}
use Rattle.slate_check.proofs.reads.Cache.table.Goals as goal

pub returns-in-Some-clause-found : goal.returns-in-Some-clause-found
returns-in-Some-clause-found g c o h of =
    ap Some c.in_ok-copy.ensures ∙ sym (of.tables c.args.id c.in-Some.table.now (sym c.in-Some.ensures.value))

pub returns-in_err-insert-clause-of : goal.returns-in_err-insert-clause-of
returns-in_err-insert-clause-of g c o h of = subst (λ e. AreOf o e c.args.self.now.logs.entries) (sym c.in_err-insert.ensures.err) of

pub returns-clause-of : goal.returns-clause-of
returns-clause-of g c o h of =
    let found = known (λ (o : Objects). Finds (table_at c.args.id o) c.read_table.result) (g.S.Store.objects c.args.store.now) o h c.read_table.ensures.found in
    let is : table_at c.args.id o ≡ Some c.in-Ok.table = rw c.in-Ok.is at found in
    table-put o c.args.self.now.tables.entries c.insert.new.map.entries c.args.self.now.logs.entries c.args.id c.in_ok-kept.kept c.in_ok-insert.ensures.ok.0 (is ∙ ap Some (sym c.in_ok-kept.ensures)) of
