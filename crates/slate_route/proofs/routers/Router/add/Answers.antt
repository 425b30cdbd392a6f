use Rattle.std.proofs.Common.{rules, ◌≡◌, ◌<◌, ◌++◌, ◌∷◌, [], List, length, Err, sym, subst, ap, ◌∙◌}
use Rattle.slate_model.specs.Follower.{Follower}
use Rattle.slate_model.specs.Known.{known}
use Rattle.slate_route.specs.Reading.{AddsReader, most_readers}
use Rattle.slate_route.proofs.Adding.{leads-with, opening-adds, opening-ready, opening-refused, opening-refuses}
use Rattle.slate_route.proofs.routers.Router.add.Goals as goal

pub returns-in-Ok-clause-adds : goal.returns-in-Ok-clause-adds
returns-in-Ok-clause-adds g c =
    let ready = opening-ready c.in-Ok.reader c.in-Ok.ensures.opens in
    let items : c.push_reserved.new.self.items ≡ c.args.self.now ++ c.in-Ok.reader ∷ [] = c.push_reserved.ensures.items ∙ ap (λ (xs : List Follower). xs ++ c.in-Ok.reader ∷ []) (c.reserve.ensures.items ∙ c.self.view_is) in
    (c.count-follower.ensures, c.in-Ok.reader, items, ready.0, sym c.number-at.ensures, ready.1)

pub returns-in-Ok-clause-leads : goal.returns-in-Ok-clause-leads
returns-in-Ok-clause-leads g c live places w merge over =
    let items : c.push_reserved.new.self.items ≡ c.args.self.now ++ c.in-Ok.reader ∷ [] = c.push_reserved.ensures.items ∙ ap (λ (xs : List Follower). xs ++ c.in-Ok.reader ∷ []) (c.reserve.ensures.items ∙ c.self.view_is) in
    let before = known g.S.Store.objects g.S.Store.faults c.args.store.now in
    let after = known g.S.Store.objects g.S.Store.faults c.open_reader.new.store in
    leads-with _ _ (search rules) (sym items) (opening-adds merge live before after places c.args.self.now w over c.args.lifetime_ms c.args.interval_ms _ c.in-Ok.reader c.in-Ok.ensures.opens (record { follower = c.count-follower.result; at = c.number-at.result }) c.number-at.ensures)

pub returns-in-Err-clause-adds : goal.returns-in-Err-clause-adds
returns-in-Err-clause-adds g c =
    let before = known g.S.Store.objects g.S.Store.faults c.args.store.now in
    let after = known g.S.Store.objects g.S.Store.faults c.open_reader.new.store in
    let few : length c.args.self.now < most_readers = search rules in
    subst (λ (xs : List Follower). AddsReader c.args.self.now xs before.faults after.faults (Err c.in-Err.refusal)) (sym (c.reserve.ensures.items ∙ c.self.view_is)) (opening-refuses c.args.self.now few c.in-Err.refusal c.in-Err.ensures.opens)

pub returns-in-Err-clause-leads : goal.returns-in-Err-clause-leads
returns-in-Err-clause-leads g c live places w merge over =
    let before = known g.S.Store.objects g.S.Store.faults c.args.store.now in
    let after = known g.S.Store.objects g.S.Store.faults c.open_reader.new.store in
    leads-with _ _ (search rules) (sym (c.reserve.ensures.items ∙ c.self.view_is)) (opening-refused merge live before after places c.args.self.now w over c.args.lifetime_ms c.args.interval_ms _ c.in-Err.refusal c.in-Err.ensures.opens)
