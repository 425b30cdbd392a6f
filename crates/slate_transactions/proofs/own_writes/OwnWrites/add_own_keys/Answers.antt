use Rattle.std.proofs.Common.{◌≡◌, ◌∙◌, ◌++◌, ◌∷◌, [], ap, subst, map, ℕ, List}
use Rattle.std.specs.Map.Iter.{deref_pair}
use Rattle.std.proofs.lemmas.Map.Iter.{iter_end}
use Rattle.slate_types.specs.declared.batches.Batch.{Batch}
use Rattle.slate_rows.specs.Walked.{AreWalked, key_list}
use Rattle.slate_transactions.proofs.Adding.{keys-more, own-walk}
use Rattle.slate_transactions.proofs.own_writes.OwnWrites.add_own_keys.Goals as goal

pub loop-key-preserved : goal.loop-key-preserved
loop-key-preserved c =
    keys-more c.args.keys.now.items c.loop-key.keys.items c.push.new.self.items c.loop-key.yielded c.in-Some.key c.in-Some.field-0-1 c.loop-key.invariant c.in_ok-push.ensures.items

pub returns : goal.returns
returns c batches walked =
    let i = c.self.inside in
    let all : map deref_pair c.loop-key.yielded ≡ c.entries_in-key-items.result = (iter_end deref_pair c.entries_in-key-items.result c.loop-key.yielded c.into_iter-key-iterator.result c.loop-key.key-iterator c.next.new.self c.next.result c.into_iter-key-iterator.ensures.into_iter_gives c.loop-key.yielded_by c.in-None.is c.next.ensures.steps).0 in
    let keys = c.loop-key.invariant ∙ ap (λ es. key_list c.args.keys.now.items ++ map (λ (e : List ℕ × Batch). e.0) es) (all ∙ c.entries_in-key-items.ensures) in
    subst (λ own. AreWalked (batches ++ own ∷ []) c.args.range.now (key_list c.loop-key.keys.items)) c.self.view_is
    (own-walk batches i.start i.ops.items i.by_key c.args.range.now (key_list c.args.keys.now.items) (key_list c.loop-key.keys.items) c.self.invariant walked keys)
