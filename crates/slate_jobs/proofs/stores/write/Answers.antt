use Rattle.std.proofs.Common.{◌≡◌, ◌⊎◌, None, Some, subst}
use Rattle.std.proofs.lemmas.Int.{to_z-of_z}
use Rattle.std.specs.Int.{w64}
use Rattle.slate_errors.specs.declared.errors.SlateError.TheVariants.{NoMemory}
use Rattle.slate_model.specs.Write.{write_refusal}
use Rattle.slate_jobs.proofs.stores.write.Goals as goal

pub returns-in-Ok-clause-ok : goal.returns-in-Ok-clause-ok
returns-in-Ok-clause-ok c = (_, (c.in-Ok.ensures.does None tt).accepted.3)

pub returns-in-Err-clause-err : goal.returns-in-Err-clause-err
returns-in-Err-clause-err c =
    subst (λ m. ((c.in-Err.refusal.error ≡ NoMemory) ⊎ (write_refusal None c.args.writer.now c.args.batch.ops m None ≡ Some c.in-Err.refusal.error)) × (c.write.new.self ≡ c.args.writer.now))
    (to_z-of_z w64 c.args.moment c.ranges.moment) (c.in-Err.ensures.does None tt).refused
