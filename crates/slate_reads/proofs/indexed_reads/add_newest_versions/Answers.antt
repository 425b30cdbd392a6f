use Rattle.std.proofs.Common.{◌≡◌, sym, ◌∙◌, ap, subst, ◌++◌, reverse, length, arith}
use Rattle.std.specs.List.{flat_map}
use Rattle.std.proofs.lemmas.List.{reverse-reverse, append-nil}
use Rattle.slate_reads.specs.Tails.{IsBack}
use Rattle.slate_reads.specs.Read.{history, versions_in}
use Rattle.slate_reads.specs.Index.{Leads}
use Rattle.slate_reads.proofs.Index.{Leads-found, Leads-end, Stands-same, back-smaller}
use Rattle.slate_reads.proofs.Ends.{within, within-all, IsBack-walk, IsBack-skip}
use Rattle.slate_reads.proofs.indexed_reads.add_newest_versions.Goals as goal

pub loop-entry-init : goal.loop-entry-init
loop-entry-init c =
    let key = c.args.key.now in
    let batches = c.table.inside.batches.items in
    let versions = flat_map (versions_in key) batches in
    let taken : history c.args.table.now c.args.bound key ≡ within c.args.bound (reverse (reverse versions)) =
    ap (λ bs. history bs c.args.bound key) (sym c.table.view_is) ∙ sym (within-all c.args.bound key batches) ∙ ap (within c.args.bound) (sym (reverse-reverse versions)) in (
      reverse versions,
      subst (λ next. Leads c.table.inside.batches c.table.inside.entries key next (reverse versions)) (sym c.last_place-next.ensures) (c.table.invariant.index.led key),
      λ whole rest end. subst (λ vs. IsBack key whole (rest ++ vs) c.args.newest.now.items) taken end,
    )

pub at-batch-requires-clause-from : goal.at-batch-requires-clause-from
at-batch-requires-clause-from c =
    let e = c.in-Some.ensures in
    let f = Leads-found c.table.inside.batches c.table.inside.entries c.args.key.now c.loop-entry.next e.0 c.in-Some.entry c.loop-entry.invariant.0 e.1 e.2 c.loop-entry.invariant.1 in
    f.batch_at.from

pub at-batch-requires-clause-before : goal.at-batch-requires-clause-before
at-batch-requires-clause-before c =
    let e = c.in-Some.ensures in
    let f = Leads-found c.table.inside.batches c.table.inside.entries c.args.key.now c.loop-entry.next e.0 c.in-Some.entry c.loop-entry.invariant.0 e.1 e.2 c.loop-entry.invariant.1 in
    omega (arith, f.batch_at.from, f.batch_at.at.within)

pub bounds-as_slice-entry : goal.bounds-as_slice-entry
bounds-as_slice-entry c =
    let e = c.in-Some.ensures in
    let f = Leads-found c.table.inside.batches c.table.inside.entries c.args.key.now c.loop-entry.next e.0 c.in-Some.entry c.loop-entry.invariant.0 e.1 e.2 c.loop-entry.invariant.1 in
    let ops = c.as_slice.ensures ∙ ap (λ b. b.ops) (Stands-same c.table.inside.batches c.in-Some.entry.batch c.at-batch.result.now f.batch c.at-batch.ensures f.batch_at) in
    omega (arith, f.op_at.within, ap length ops)

pub offset_bounds-as_slice-entry : goal.offset_bounds-as_slice-entry
offset_bounds-as_slice-entry c =
    let e = c.in-Some.ensures in
    let f = Leads-found c.table.inside.batches c.table.inside.entries c.args.key.now c.loop-entry.next e.0 c.in-Some.entry c.loop-entry.invariant.0 e.1 e.2 c.loop-entry.invariant.1 in
    let ops = c.as_slice.ensures ∙ ap (λ b. b.ops) (Stands-same c.table.inside.batches c.in-Some.entry.batch c.at-batch.result.now f.batch c.at-batch.ensures f.batch_at) in
    omega (arith, f.op_at.within, ap length ops, c.as_slice.type_inv)

pub loop-entry-smaller : goal.loop-entry-smaller
loop-entry-smaller c =
    let e = c.in-Some.ensures in
    let f = Leads-found c.table.inside.batches c.table.inside.entries c.args.key.now c.loop-entry.next e.0 c.in-Some.entry c.loop-entry.invariant.0 e.1 e.2 c.loop-entry.invariant.1 in
    back-smaller c.in-Some.entry.previous c.loop-entry.next e.0 e.1 f.back

pub loop-entry-smaller-in_ok-push : goal.loop-entry-smaller-in_ok-push
loop-entry-smaller-in_ok-push c =
    let e = c.in-Some.ensures in
    let f = Leads-found c.table.inside.batches c.table.inside.entries c.args.key.now c.loop-entry.next e.0 c.in-Some.entry c.loop-entry.invariant.0 e.1 e.2 c.loop-entry.invariant.1 in
    back-smaller c.in-Some.entry.previous c.loop-entry.next e.0 e.1 f.back

pub loop-entry-preserved-in_ok-push : goal.loop-entry-preserved-in_ok-push
loop-entry-preserved-in_ok-push c =
    let e = c.in-Some.ensures in
    let f = Leads-found c.table.inside.batches c.table.inside.entries c.args.key.now c.loop-entry.next e.0 c.in-Some.entry c.loop-entry.invariant.0 e.1 e.2 c.loop-entry.invariant.1 in (
      f.older,
      f.led,
      λ whole rest back. IsBack-walk c.table.inside.batches c.table.inside.entries c.args.key.now e.0 c.in-Some.entry c.loop-entry.invariant.0 f
          c.args.bound c.loop-entry.newest.items c.push.new.self.items _ c.as_slice.result.now c.at-batch.ensures c.as_slice.ensures c.index-as_slice-entry.is c.if-is_within.ensures c.in_ok-push.ensures.items whole rest
          (c.loop-entry.invariant.2 whole rest back),
    )

pub loop-entry-preserved : goal.loop-entry-preserved
loop-entry-preserved c =
    let e = c.in-Some.ensures in
    let f = Leads-found c.table.inside.batches c.table.inside.entries c.args.key.now c.loop-entry.next e.0 c.in-Some.entry c.loop-entry.invariant.0 e.1 e.2 c.loop-entry.invariant.1 in (
      f.older,
      f.led,
      λ whole rest back. IsBack-skip c.table.inside.batches c.table.inside.entries c.args.key.now e.0 c.in-Some.entry c.loop-entry.invariant.0 f
          c.args.bound c.loop-entry.newest.items c.at-batch.result.now c.at-batch.ensures c.if-is_within.ensures whole rest (c.loop-entry.invariant.2 whole rest back),
    )

pub returns : goal.returns
returns c whole rest end =
    let empty = Leads-end c.table.inside.batches c.table.inside.entries c.args.key.now c.loop-entry.next c.loop-entry.invariant.0 c.in_default.ensures c.loop-entry.invariant.1 in
    subst (λ vs. IsBack c.args.key.now whole vs c.loop-entry.newest.items) (ap (λ left. rest ++ within c.args.bound (reverse left)) empty ∙ append-nil rest) (c.loop-entry.invariant.2 whole rest end)
