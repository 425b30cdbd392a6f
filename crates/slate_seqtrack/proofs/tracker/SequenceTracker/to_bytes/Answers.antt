use Rattle.std.proofs.Common.{◌≡◌, sym, ◌∙◌, ap, ◌<◌, ◌^◌}
use Rattle.std.specs.List.{AllByRecursion}
use Rattle.slate_seqtrack.specs.Tracker.{numbers_of, times_of}
use Rattle.slate_seqtrack.proofs.Pairing.{numbers-paired, times-paired}
use Rattle.slate_seqtrack.proofs.Spelled.{answer-again, kept-lists}
use Rattle.slate_seqtrack.proofs.tracker.SequenceTracker.to_bytes.Goals as goal

pub returns-clause-written : goal.returns-clause-written
returns-clause-written c =
    let numbers : numbers_of c.args.self.now ≡ c.deref.result.now = sym (ap numbers_of c.self.view_is) ∙ numbers-paired _ _ c.self.invariant.paired ∙ sym c.deref.ensures.value in
    let times : times_of c.args.self.now ≡ c.deref-2.result.now = sym (ap times_of c.self.view_is) ∙ times-paired _ _ c.self.invariant.paired ∙ sym c.deref-2.ensures.value in
    rw (numbers, times) c.write_lists.ensures.written

pub returns-clause-spelled : goal.returns-clause-spelled
returns-clause-spelled c =
    let numbers : numbers_of c.args.self.now ≡ c.deref.result.now = sym (ap numbers_of c.self.view_is) ∙ numbers-paired _ _ c.self.invariant.paired ∙ sym c.deref.ensures.value in
    let times : times_of c.args.self.now ≡ c.deref-2.result.now = sym (ap times_of c.self.view_is) ∙ times-paired _ _ c.self.invariant.paired ∙ sym c.deref-2.ensures.value in
    rw (numbers, times) c.write_lists.ensures.spelled

pub returns-clause-again : goal.returns-clause-again
returns-clause-again c =
    let numbers : numbers_of c.args.self.now ≡ c.self.inside.sequence_numbers.items = sym (ap numbers_of c.self.view_is) ∙ numbers-paired _ _ c.self.invariant.paired in
    let times : times_of c.args.self.now ≡ c.self.inside.timestamps.items = sym (ap times_of c.self.view_is) ∙ times-paired _ _ c.self.invariant.paired in
    let fit : AllByRecursion (λ n. n < 2 ^ 64) c.self.inside.sequence_numbers.items = rw c.deref.ensures.value at c.write_lists.ensures.numbers in
    answer-again c.write_lists.result (λ bytes. bytes.items) (numbers_of c.args.self.now) (times_of c.args.self.now) _ _ _
    (λ times_fit. rw (numbers, times) (kept-lists _ _ _ _ _ _ c.self.invariant fit times_fit)) (rw c.deref-2.ensures.value at c.write_lists.ensures.times) (returns-clause-written c)
