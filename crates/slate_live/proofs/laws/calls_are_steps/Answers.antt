use Rattle.std.proofs.Common.{Some, refl}
use Rattle.slate_live.specs.Run.{none_live}
use Rattle.slate_live.proofs.Chains.{stands_start}
use Rattle.slate_live.proofs.Failing.{may-fail}
use Rattle.slate_live.proofs.Lines.{list-lines, read-lines}
use Rattle.slate_live.proofs.Remembering.{remembers}
use Rattle.slate_live.proofs.Representing.{leads}
use Rattle.slate_live.proofs.laws.calls_are_steps.Goals as goal

pub returns : goal.returns
returns c = record {
  begins = λ options objects faults sound. stands_start objects (record { objects = Some objects; faults = faults }) (none_live options) refl refl refl refl sound;
  steps = leads;
  fails = may-fail;
  rows = read-lines;
  recent = list-lines;
  tracks = remembers;
}
