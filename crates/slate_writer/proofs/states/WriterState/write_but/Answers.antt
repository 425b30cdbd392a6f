use Rattle.std.proofs.Common.{◌≡◌, ◌+◌, ◌<◌, ◌^◌, min, List, length, length-append, arith, rules, ap, sym, subst, ◌∙◌, false, All, IsTrue, Option, Result, Ok, Err}
use Rattle.std.specs.Option.{IfSome}
use Rattle.std.specs.Result.{OnOk, is_err}
use Rattle.std.proofs.lemmas.Bool.{false≢true}
use Rattle.slate_types.specs.declared.batches.KeyOp.{KeyOp}
use Rattle.slate_transactions.specs.Writes.{Tracking, is_among}
use Rattle.slate_reads.specs.Size.{ops_size, size_of}
use Rattle.std.specs.Prelude.{unwrap_or}
use Rattle.slate_status.specs.Segments.{PrefixesRise}
use Rattle.slate_model.specs.Handle.{Handle, accepted, unstored}
use Rattle.slate_model.specs.Unflushed.{most_bytes}
use Rattle.slate_types.proofs.Lines.{numbered-push}
use Rattle.slate_replay.proofs.Appending.{numbered-last}
use Rattle.slate_writer.proofs.Counted.{IsCounted, counted-push}
use Rattle.slate_writer.proofs.Tracking.{ends-later, ends-pushed}
use Rattle.slate_writer.proofs.states.WriterState.write_but.Goals as goal

pub push-requires : goal.push-requires
push-requires g c =
    let memory = c.self.inside.memory in
    let number = c.in-Ok.admitted.0.number in
    let admitted = rw c.in-Ok.is at c.admit.ensures.number in
    let next : number ≡ c.self.inside.floor + length memory + 1 = admitted.0 ∙ ap (λ h. accepted h + 1) (sym c.self.view_is) in
    numbered-last c.self.inside.floor number memory c.self.invariant.numbered (omega arith)

pub track-requires : goal.track-requires
track-requires g c =
    let memory = c.self.inside.memory in
    let admitted = rw c.in-Ok.is at c.admit.ensures.number in
    let next : c.in-Ok.admitted.0.number ≡ c.self.inside.floor + length memory + 1 = admitted.0 ∙ ap (λ h. accepted h + 1) (sym c.self.view_is) in
    ends-later _ _ c.self.inside.tracker.pairs (omega arith) c.self.invariant.tracked

pub invariant_of-self-2 : goal.invariant_of-self-2
invariant_of-self-2 g c =
    let memory = c.self.inside.memory in
    let admitted = rw c.in-Ok.is at c.admit.ensures.number in
    let rises = rw c.in-Ok.is at c.admit.ensures.rising in
    let next : c.in-Ok.admitted.0.number ≡ c.self.inside.floor + length memory + 1 = admitted.0 ∙ ap (λ h. accepted h + 1) (sym c.self.view_is) in
    let fits : c.in-Ok.admitted.0.number < 2 ^ 64 = rw admitted.0 admitted.1 in
    let durable : c.durable-durable.result ≡ c.self.inside.status.durable = c.durable-durable.ensures.value ∙ ap (λ (h : Handle). h.durable) (sym c.self.view_is) in
    let counted : IsCounted c.durable-durable.result memory c.unstored_size.result =
    subst (λ n. IsCounted n memory c.unstored_size.result) (sym durable) (c.unstored_size.ensures ∙ ap (λ h. min (size_of (unstored h)) most_bytes) (sym c.self.view_is))
    in
    let size = c.ops_size-size.ensures ∙ ap (λ ops. min (ops_size ops) most_bytes) c.as_slice.ensures in
    rw c.in_default.ensures.ok (record {
      numbered = numbered-push c.self.inside.floor memory _ c.self.invariant.numbered (omega arith);
      fits = simp length-append (omega arith);
      durable = simp length-append (omega (arith, c.self.invariant.durable));
      tracked = ends-pushed c.self.inside.floor memory _ c.self.inside.tracker _ _ c.self.invariant.tracked next c.track.ensures.taken;
      rising = rw c.replace.ensures (subst (λ (h : Handle). PrefixesRise (unwrap_or c.in-Ok.admitted.1 h.segments)) (sym c.self.view_is) rises);
      stored = c.self.invariant.stored;
      seated = search rules;
      told = c.self.invariant.told;
      counted = counted-push c.durable-durable.result memory _ _ c.ops_size-size.result _ (omega (arith, durable, next, c.self.invariant.durable)) counted size c.saturating_add-unlogged.ensures;
    })

on-ok : {E P : Type 0} (r : Result (Unit {0}) E) → is_err r ≡ false → OnOk r P → P
on-ok (Ok _) is there = there
on-ok (Err e) is there = absurd (false≢true (sym is))

pub note-requires-clause-room : goal.note-requires-clause-room
note-requires-clause-room g c =
    let tracked : Option Tracking = c.make_room.new.tracked in
    let HaveRoom : List KeyOp → Type 0 = λ ops. IfSome tracked (λ t. All (λ o. IsTrue (is_among t.room o.key)) ops) in
    let room : HaveRoom c.as_slice-2.result.now = on-ok c.make_room.result (sym c.is_err.ensures.value ∙ c.if-is_err.false) c.make_room.ensures.room in
    let last : c.last_ops-ops.result.now ≡ c.args.batch.ops = c.last_ops-ops.ensures c.self.inside.memory _ (c.batches.ensures.value ∙ c.in_default.ensures.ok) in
    subst HaveRoom (c.as_slice-2.ensures ∙ sym last) room
