use Rattle.std.proofs.Common.{◌≡◌, ◌+◌, ◌++◌, [], ◌∷◌, length, take, refl, ap, sym, subst, ◌∙◌, arith, length-append, append_assoc}
use Rattle.std.proofs.lemmas.List.{take_more}
use Rattle.slate_types.proofs.Lines.{numbered-push}
use Rattle.slate_store.specs.Logs.{HaveNoGap}
use Rattle.slate_store.proofs.Logs.{no_gap-next, no_gap-passed}
use Rattle.slate_replay.proofs.Appending.{begins-push, gap-at, numbered-last}
use Rattle.slate_replay.proofs.Logged.{from-push}
use Rattle.slate_replay.proofs.replays.append_next.Goals as goal

pub loop-batch-preserved-then-batch-end : goal.loop-batch-preserved-then-batch-end
loop-batch-preserved-then-batch-end c =
    let i = c.loop-batch.invariant in
    let all = c.args.batches.now in
    let so_far = take c.loop-batch.batch-index all in
    let b = c.batch-item.result in
    let from = c.args.floor + length c.args.memory.now in
    let end = c.args.floor + length c.loop-batch.memory in
    let more : take (c.loop-batch.batch-index + 1) all ≡ so_far ++ b ∷ [] = take_more all c.loop-batch.batch-index b c.loop-batch-test.true ∙ ap (λ x. so_far ++ x ∷ []) (sym c.batch-item.is) in
    record {
      numbered = i.numbered;
      fits = i.fits;
      grows = i.grows;
      begins = i.begins;
      from = i.from;
      no_gap = subst (HaveNoGap from end) (sym more) (no_gap-passed from end so_far b i.no_gap (omega (arith, ap length c.batches.ensures.value)));
    }

pub returns-then-batch-end-2-clause-appended : goal.returns-then-batch-end-2-clause-appended
returns-then-batch-end-2-clause-appended c =
    let i = c.loop-batch.invariant in
    record {
      begins = i.begins;
      ends = gap-at (c.args.floor + length c.args.memory.now) (c.args.floor + length c.loop-batch.memory) c.loop-batch.batch-index c.args.batches.now c.batch-item.result i.no_gap c.loop-batch-test.true c.batch-item.is
          (omega (arith, ap length c.batches.ensures.value));
    }

pub push_copy-requires : goal.push_copy-requires
push_copy-requires c =
    let i = c.loop-batch.invariant in
    numbered-last c.args.floor c.batch-item.result.number c.loop-batch.memory i.numbered (omega (arith, ap length c.batches.ensures.value))

pub loop-batch-preserved : goal.loop-batch-preserved
loop-batch-preserved c =
    let i = c.loop-batch.invariant in
    let all = c.args.batches.now in
    let so_far = take c.loop-batch.batch-index all in
    let b = c.batch-item.result in
    let from = c.args.floor + length c.args.memory.now in
    let end = c.args.floor + length c.loop-batch.memory in
    let is : c.push_copy.new.memory ≡ c.loop-batch.memory ++ b ∷ [] = grind arith in
    let l = ap length i.grows.1 ∙ length-append c.args.memory.now i.grows.0 in
    let next : b.number ≡ end + 1 = omega (arith, ap length c.batches.ensures.value) in
    let more : take (c.loop-batch.batch-index + 1) all ≡ so_far ++ b ∷ [] = take_more all c.loop-batch.batch-index b c.loop-batch-test.true ∙ ap (λ x. so_far ++ x ∷ []) (sym c.batch-item.is) in
    let end_is : end + 1 ≡ c.args.floor + length (c.loop-batch.memory ++ b ∷ []) = simp length-append (omega arith) in
    rw is (record {
      numbered = numbered-push c.args.floor c.loop-batch.memory b i.numbered next;
      fits = simp length-append (omega (arith, next));
      grows = (i.grows.0 ++ b ∷ [], ap (λ xs. xs ++ b ∷ []) i.grows.1 ∙ append_assoc c.args.memory.now i.grows.0 (b ∷ []));
      begins = begins-push c.args.floor c.loop-batch.batch-index c.args.memory.now c.loop-batch.memory all b i.begins (omega (arith, l)) c.loop-batch-test.true c.batch-item.is next;
      from = from-push c.args.memory.now c.loop-batch.memory all c.loop-batch.batch-index b i.from c.loop-batch-test.true c.batch-item.is;
      no_gap = subst (λ xs. HaveNoGap from (c.args.floor + length (c.loop-batch.memory ++ b ∷ [])) xs) (sym more)
          (subst (λ e. HaveNoGap from e (so_far ++ b ∷ [])) end_is (no_gap-next from end so_far b i.no_gap next));
    })

pub returns-then-is_err-clause-appended : goal.returns-then-is_err-clause-appended
returns-then-is_err-clause-appended c =
    let i = c.loop-batch.invariant in
    let kept : c.push_copy.new.memory ≡ c.loop-batch.memory = grind arith in
    rw kept (record { begins = i.begins; ends = refl })

pub returns-then-is_err-clause-from : goal.returns-then-is_err-clause-from
returns-then-is_err-clause-from c =
    let kept : c.push_copy.new.memory ≡ c.loop-batch.memory = grind arith in
    rw kept c.loop-batch.invariant.from
