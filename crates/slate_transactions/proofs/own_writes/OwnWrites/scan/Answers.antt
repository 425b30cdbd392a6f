use Rattle.std.proofs.Common.{ap, ◌++◌, ◌∷◌, [], None}
use Rattle.std.specs.List.{flat_map}
use Rattle.std.proofs.lemmas.Result.{IfOk-weaker}
use Rattle.slate_rows.specs.Walked.{key_list}
use Rattle.slate_rows.proofs.Scanned.{IsScan-begun}
use Rattle.slate_rows.proofs.Walks.{AreWalked-begun, AreWalked-ordered, IsScan-from_walk}
use Rattle.slate_transactions.specs.Own.{seen_with}
use Rattle.slate_transactions.proofs.Owning.{walked-seen}
use Rattle.slate_transactions.proofs.own_writes.OwnWrites.scan.Goals as goal

pub of_rows-requires-clause-in_range : goal.of_rows-requires-clause-in_range
of_rows-requires-clause-in_range g c =
    let stored = flat_map (λ table. table) c.args.stored.now in
    let memory = flat_map (λ table. table) c.args.memory.now in
    let begun = c.in_ok-add_range_keys.ensures [] (AreWalked-begun c.args.range.now (key_list c.new-keys.result.items) (ap key_list c.new-keys.ensures.items)) in
    let own = c.in_ok-add_own_keys.ensures (stored ++ memory) (c.in_ok-add_range_keys-2.ensures stored begun) in
    let walked = AreWalked-ordered ((stored ++ memory) ++ c.args.self.now ∷ []) c.args.range.now (key_list c.add_own_keys.new.keys.items) (key_list c.order_keys.new.keys.items) c.in_ok-order_keys.ensures.same own in
    rw (c.of.ensures, c.in_ok-clone.ensures.cases) (c.in_ok-rows.ensures.within c.args.range.now (rw c.as_slice-keys.ensures.value walked.within))

pub of_rows-requires-clause-in_order : goal.of_rows-requires-clause-in_order
of_rows-requires-clause-in_order g c =
    rw c.of.ensures (c.in_ok-rows.ensures.in_order c.args.order (rw c.as_slice-keys.ensures.value c.in_ok-order_keys.ensures.in_order))

pub returns-clause-plain : goal.returns-clause-plain
returns-clause-plain g c merge lawful =
    let stored = flat_map (λ table. table) c.args.stored.now in
    let memory = flat_map (λ table. table) c.args.memory.now in
    let begun = c.in_ok-add_range_keys.ensures [] (AreWalked-begun c.args.range.now (key_list c.new-keys.result.items) (ap key_list c.new-keys.ensures.items)) in
    let own = c.in_ok-add_own_keys.ensures (stored ++ memory) (c.in_ok-add_range_keys-2.ensures stored begun) in
    let walked = AreWalked-ordered ((stored ++ memory) ++ c.args.self.now ∷ []) c.args.range.now (key_list c.add_own_keys.new.keys.items) (key_list c.order_keys.new.keys.items) c.in_ok-order_keys.ensures.same own in
    let plain = IsScan-from_walk merge (seen_with c.args.bound (stored ++ memory) c.args.self.now) None c.args.range.now c.args.order (key_list c.order_keys.new.keys.items) c.in_ok-rows.rows.items c.in_ok-rows.fault
    (walked-seen c.args.bound (stored ++ memory) c.args.self.now c.args.range.now (key_list c.order_keys.new.keys.items) walked) c.in_ok-order_keys.ensures.in_order
    (rw c.as_slice-keys.ensures.value at c.in_ok-rows.ensures.plain merge lawful) in
    IfOk-weaker c.of_rows.result _ _ (IsScan-begun merge _ _ _ _ _ _ _ _ c.of.ensures plain) c.of_rows.ensures
