use Rattle.std.proofs.Common.{ap, ◌∙◌, []}
use Rattle.slate_rows.specs.Recency.{listed}
use Rattle.slate_rows.specs.Walked.{key_list}
use Rattle.slate_rows.proofs.Listing.{AreNewestFirst-from_walk}
use Rattle.slate_rows.proofs.Walks.{AreWalked-begun, AreWalked-ordered}
use Rattle.slate_rows.proofs.recency_scans.list_table.Goals as goal

pub returns : goal.returns
returns c =
    let table = c.args.table.now in
    let range = c.in_ok-range.range in
    let begun = AreWalked-begun range (key_list c.new-keys.result.items) (ap key_list c.new-keys.ensures.items) in
    let walked = AreWalked-ordered table range (key_list c.add_table_keys.new.keys.items) (key_list c.order_keys.new.keys.items) c.in_ok-order_keys.ensures.same (c.in_ok-add_table_keys.ensures [] begun) in
    AreNewestFirst-from_walk c.args.order c.args.bound c.args.prefix.now table range (key_list c.order_keys.new.keys.items) c.from_vec.result.items c.batches.ensures.rising c.in_ok-range.ensures.bounds walked
    c.in_ok-order_keys.ensures.in_order (c.from_vec.ensures.items ∙ c.in_ok-entries.ensures ∙ ap (λ keys. listed c.args.bound c.args.prefix.now table (key_list keys)) c.as_slice.ensures.value)
