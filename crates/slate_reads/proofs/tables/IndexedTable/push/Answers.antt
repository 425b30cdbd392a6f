use Rattle.std.proofs.Common.{◌≡◌, sym, ◌∙◌, ap, subst, length, false, Result, Ok, Err, OnOk, is_err, arith}
use Rattle.slate_reads.specs.Index.{IsAboveLast}
use Rattle.slate_reads.proofs.Keeping.{IsTable-same, IsTable-pushed}
use Rattle.slate_reads.proofs.tables.IndexedTable.push.Goals as goal

-- what an Ok says, where it isn't an Err
on_ok : {T E : Type 0} (result : Result T E) (P : Type 0) → OnOk result P → is_err result ≡ false → P
on_ok (Ok x) P holds is = holds
on_ok (Err e) P holds is = absurd (let no = is in cc)

pub invariant_of-self : goal.invariant_of-self
invariant_of-self c =
    IsTable-same c.self.inside.batches c.make_room.new.batches c.self.inside.entries c.make_room.new.entries c.self.inside.latest c.make_room.new.latest c.self.inside.order c.make_room.new.order c.self.inside.size
    c.make_room.ensures.batches c.make_room.ensures.entries c.make_room.ensures.same c.make_room.ensures.ordered c.self.invariant

pub invariant_of-self-2 : goal.invariant_of-self-2
invariant_of-self-2 c =
    let room = on_ok c.make_room.result _ c.make_room.ensures.fits (sym c.is_err.ensures.value ∙ c.if-is_err.false) in
    IsTable-pushed c.self.inside.batches c.make_room.new.batches c.push_reserved.new.self c.self.inside.entries c.make_room.new.entries c.add_entries.new.entries
    c.self.inside.latest c.make_room.new.latest c.add_entries.new.latest c.self.inside.order c.make_room.new.order c.self.inside.size c.batch_size.result c.in-Some.size c.args.batch
    c.make_room.ensures.batches c.make_room.ensures.entries room.0 room.1 c.make_room.ensures.same
    (λ key some. c.make_room.ensures.ordered c.self.invariant.ordered key (c.add_entries.ensures.stays key some))
    (subst (IsAboveLast c.args.batch.number) (sym c.self.view_is) c.requires) c.batch_size.ensures c.in-Some.ensures.1 c.push_reserved.ensures.start c.push_reserved.ensures.items c.add_entries.ensures.start c.add_entries.ensures.len
    (λ index. c.add_entries.ensures.index c.make_room.new.batches c.push_reserved.new.self (omega (arith, c.start.ensures, ap length c.as_slice.ensures)) c.push_reserved.ensures.start c.push_reserved.ensures.items index) c.self.invariant
