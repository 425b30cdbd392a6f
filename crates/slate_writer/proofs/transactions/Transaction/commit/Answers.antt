use Rattle.std.proofs.Common.{◌≡◌, ◌≢◌, ◌∙◌, ◌⊎◌, ◌==◌, ℤ, sym, ap, subst, List, [], length, Some, None, false, w64, to_z, of_z}
use Rattle.std.proofs.lemmas.Bool.{false≢true}
use Rattle.std.proofs.lemmas.Int.{to_z-of_z}
use Rattle.slate_types.specs.declared.batches.KeyOp.{KeyOp}
use Rattle.slate_errors.specs.declared.errors.SlateError.TheVariants.{NoMemory}
use Rattle.slate_model.specs.Write.{IsOfSegments, write_refusal}
use Rattle.slate_model.specs.Handle.{Handle}
use Rattle.slate_model.specs.Serial.{first_side, last_side}
use Rattle.slate_model.specs.Transaction.{Transaction, is_in_conflict, writes_of}
use Rattle.slate_model.proofs.Serial.{serial}
use Rattle.slate_writer.proofs.Committing.{commit-refused, commit-refused-by-any}
use Rattle.slate_writer.proofs.transactions.Transaction.commit.Goals as goal

pub returns-in-Ok-clause-serial : goal.returns-in-Ok-clause-serial
returns-in-Ok-clause-serial g c x merge h steps numbered run handle-is transaction-is =
    let last = last_side (first_side h c.args.self.id) steps in
    serial x merge h numbered c.args.self.id steps run
    (ap (λ (t : Transaction). is_in_conflict t (writes_of last.handle)) transaction-is ∙ ap (λ (k : Handle). is_in_conflict c.args.self (writes_of k)) handle-is ∙ sym c.is_in_conflict.ensures ∙ c.if-is_in_conflict.false)

pub returns-clause-commits : goal.returns-clause-commits
returns-clause-commits g c x lawful =
    let t = c.args.self in
    let old = c.args.writer.now in
    let error = c.in-Err.refusal.error in
    let refused = (c.in-Err.ensures.does x lawful).refused in
    let alive : old.result ≡ None = sym c.closed.ensures ∙ c.in_default.is in
    let none : is_in_conflict t (writes_of old) ≡ false = sym c.is_in_conflict.ensures ∙ c.if-is_in_conflict.false in
    let some : t.own.ops ≢ [] = λ is. false≢true (sym c.if-is_empty.false ∙ c.is_empty.ensures ∙ ap (λ (ops : List KeyOp). length ops == 0) (c.ops.ensures ∙ ap (λ (t : Transaction). t.own.ops) c.self.view_is ∙ is)) in
    let ops : c.into_batch-batch.result.ops ≡ t.own.ops = c.into_batch-batch.ensures ∙ ap (λ (t : Transaction). t.own.ops) c.self.view_is in
    let moment_back : to_z w64 (of_z w64 c.args.moment) ≡ c.args.moment = to_z-of_z w64 _ c.ranges.moment in
    let by_moment = subst (λ (m : ℤ). (error ≡ NoMemory) ⊎ (write_refusal x old c.into_batch-batch.result.ops m c.args.second ≡ Some error)) moment_back refused.0 in
    let cause = subst (λ (os : List KeyOp). (error ≡ NoMemory) ⊎ (write_refusal x old os c.args.moment c.args.second ≡ Some error)) ops by_moment in
    (commit-refused x t old c.args.moment c.args.second error alive some none cause, refused.1)

pub returns-clause-by_any : goal.returns-clause-by_any
returns-clause-by_any g c =
    let t = c.args.self in
    let old = c.args.writer.now in
    let error = c.in-Err.refusal.error in
    let refused = c.in-Err.ensures.by_any.refused in
    let alive : old.result ≡ None = sym c.closed.ensures ∙ c.in_default.is in
    let none : is_in_conflict t (writes_of old) ≡ false = sym c.is_in_conflict.ensures ∙ c.if-is_in_conflict.false in
    let some : t.own.ops ≢ [] = λ is. false≢true (sym c.if-is_empty.false ∙ c.is_empty.ensures ∙ ap (λ (ops : List KeyOp). length ops == 0) (c.ops.ensures ∙ ap (λ (t : Transaction). t.own.ops) c.self.view_is ∙ is)) in
    let ops : c.into_batch-batch.result.ops ≡ t.own.ops = c.into_batch-batch.ensures ∙ ap (λ (t : Transaction). t.own.ops) c.self.view_is in
    let moment_back : to_z w64 (of_z w64 c.args.moment) ≡ c.args.moment = to_z-of_z w64 _ c.ranges.moment in
    let by_moment = subst (λ (m : ℤ). (error ≡ NoMemory) ⊎ (IsOfSegments error ⊎ (write_refusal None old c.into_batch-batch.result.ops m c.args.second ≡ Some error))) moment_back refused.0 in
    let cause = subst (λ (os : List KeyOp). (error ≡ NoMemory) ⊎ (IsOfSegments error ⊎ (write_refusal None old os c.args.moment c.args.second ≡ Some error))) ops by_moment in
    commit-refused-by-any t old _ c.args.moment c.args.second error alive some none cause refused.1
