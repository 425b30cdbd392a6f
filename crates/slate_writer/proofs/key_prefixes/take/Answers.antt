use Rattle.std.proofs.Common.{◌≡◌, ◌++◌, ◌∷◌, [], Ok, Err, ap, subst, sym, ◌∙◌}
use Rattle.std.specs.List.{insert}
use Rattle.slate_segments.specs.Prefixes.{HaveSame}
use Rattle.slate_segments.proofs.Prefixes.{same-known}
use Rattle.slate_status.specs.Segments.{PrefixesRise}
use Rattle.slate_writer.proofs.Orders.{placed, rising-insert, same-insert, same-some}
use Rattle.slate_writer.proofs.key_prefixes.take.Goals as goal

pub returns-in_default-clause-same : goal.returns-in_default-clause-same
returns-in_default-clause-same c =
    let ks = c.args.taken.now.items in
    let p = c.args.prefix.now in
    same-known ks p (same-some ks p c.in_default.field-0 (placed c.as_slice.result.now ks p c.place.result (Ok c.in_default.field-0) c.as_slice.ensures.value c.in_default.is c.place.ensures))

pub returns-in_ok-insert-clause-same : goal.returns-in_ok-insert-clause-same
returns-in_ok-insert-clause-same c =
    let ks = c.args.taken.now.items in
    let p = c.args.prefix.now in
    let is : c.insert.new.self.items ≡ insert ks c.in-Err.i p = c.in_ok-insert.ensures.items ∙ ap (insert ks c.in-Err.i) c.in_ok-copy_from_slice.ensures in
    subst (λ xs. HaveSame xs (ks ++ p ∷ [])) (sym is) (same-insert ks c.in-Err.i p)

pub returns-in_ok-insert-clause-rising : goal.returns-in_ok-insert-clause-rising
returns-in_ok-insert-clause-rising c =
    let ks = c.args.taken.now.items in
    let p = c.args.prefix.now in
    let is : c.insert.new.self.items ≡ insert ks c.in-Err.i p = c.in_ok-insert.ensures.items ∙ ap (insert ks c.in-Err.i) c.in_ok-copy_from_slice.ensures in
    let at = placed c.as_slice.result.now ks p c.place.result (Err c.in-Err.i) c.as_slice.ensures.value c.in-Err.is c.place.ensures in
    subst PrefixesRise (sym is) (rising-insert ks c.in-Err.i p c.requires at.1 at.2)
