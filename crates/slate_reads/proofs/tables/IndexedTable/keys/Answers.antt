use Rattle.std.proofs.Common.{◌≢◌, sym, ◌∙◌, ap, subst, Contains, []}
use Rattle.std.specs.List.{flat_map}
use Rattle.std.specs.BTreeSet.{keys_between}
use Rattle.std.specs.declared.ops.Bound.TheVariants.{Excluded as Past, Unbounded as Open}
use Rattle.std.proofs.lemmas.List.Kept.{IsStrictlySortedBy-filter}
use Rattle.slate_types.specs.Range.{key_cmp}
use Rattle.slate_reads.specs.Read.{versions_in}
use Rattle.slate_reads.proofs.Walking.{crossed-none, has-key, keys_between-same, keys-within, keys-whole, below-least}
use Rattle.slate_reads.proofs.tables.IndexedTable.keys.Goals as goal

pub returns-then-is_crossed-clause-within : goal.returns-then-is_crossed-clause-within
returns-then-is_crossed-clause-within c =
    let none = c.range.ensures.between tt ∙ ap (λ key. keys_between key_cmp Open (Past key) c.self.inside.order) c.new-least.ensures ∙ below-least c.self.inside.order.keys in
    rw none tt

pub returns-then-is_crossed-clause-whole : goal.returns-then-is_crossed-clause-whole
returns-then-is_crossed-clause-whole c key within some = absurd (crossed-none c.args.range.now (sym c.is_crossed.ensures ∙ c.if-is_crossed.true) key within)

pub returns-clause-within : goal.returns-clause-within
returns-clause-within c =
    let is = c.range-2.ensures.between tt ∙ keys_between-same _ _ _ _ c.self.inside.order c.as_bound.ensures c.as_bound-2.ensures in
    rw is (keys-within c.args.range.now c.self.inside.order)

pub returns-clause-whole : goal.returns-clause-whole
returns-clause-whole c key within some =
    let is = c.range-2.ensures.between tt ∙ keys_between-same _ _ _ _ c.self.inside.order c.as_bound.ensures c.as_bound-2.ensures in
    let there = has-key c.self.inside.batches c.self.inside.entries c.self.inside.latest c.self.inside.order c.self.inside.size c.self.invariant key (subst (λ bs. flat_map (versions_in key) bs ≢ []) (sym c.self.view_is) some) in
    subst (λ keys. Contains keys key) (sym is) (keys-whole c.args.range.now c.self.inside.order key within there)

pub returns-then-is_crossed-clause-in_order : goal.returns-then-is_crossed-clause-in_order
returns-then-is_crossed-clause-in_order c =
    rw (c.range.ensures.between tt) (IsStrictlySortedBy-filter key_cmp _ c.self.inside.order.keys c.range.ensures.ordered)

pub returns-clause-in_order : goal.returns-clause-in_order
returns-clause-in_order c =
    rw (c.range-2.ensures.between tt) (IsStrictlySortedBy-filter key_cmp _ c.self.inside.order.keys c.range-2.ensures.ordered)
