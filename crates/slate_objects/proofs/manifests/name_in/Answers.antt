use Rattle.std.proofs.Common.{◌≡◌, ◌∙◌, refl}
use Rattle.slate_objects.specs.Manifests.{name_in}
use Rattle.slate_objects.proofs.Texts.{text, no_text}
use Rattle.slate_objects.proofs.manifests.name_in.Goals as goal

pub returns-in_ok-from_str-in-Ok : goal.returns-in_ok-from_str-in-Ok
unfolding name_in
returns-in_ok-from_str-in-Ok c =
    let same : c.of.result ≡ c.args.bytes.now = c.of.ensures ∙ c.in_ok-from_str-in-Ok.ensures.ok ∙ c.in-Ok.ensures.cases.0 in
    rw (text c.args.bytes.now c.in-Ok.ensures.cases.1, same) refl

pub returns-in-Err : goal.returns-in-Err
unfolding name_in
returns-in-Err c = rw (no_text c.args.bytes.now c.in-Err.ensures.cases.0) refl
