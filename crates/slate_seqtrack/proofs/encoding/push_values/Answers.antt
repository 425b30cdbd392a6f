use Rattle.std.proofs.Common.{◌≡◌, w64, rules}
use mir.Val.{of_z, SFits}
use Rattle.std.proofs.lemmas.Int.{to_z-of_z}
use Rattle.slate_seqtrack.proofs.Twos.{IsSigned-64, fits_i64-yes}
use Rattle.slate_seqtrack.proofs.Coding.{AreValues-behind, first-fits}
use Rattle.slate_seqtrack.proofs.encoding.push_values.Goals as goal

pub returns-clause-written : goal.returns-clause-written
returns-clause-written c =
    let fits : SFits w64 c.in-Some.first.now = search rules in
    let value = to_z-of_z w64 c.in-Some.first.now fits in
    let pushed : c.cast_unsigned.result ≡ of_z w64 c.in-Some.first.now = rw value at c.cast_unsigned.ensures in
    AreValues-behind c.push_later.result c.args.values.now c.in-Some.later.now c.in-Some.first.now c.args.writer.now _ _ _ c.in-Some.ensures.cases.0
    (rw pushed (IsSigned-64 c.in-Some.first.now fits.sfits)) c.in_ok-push64.ensures.ok (rw value at c.push_later.ensures.written)

pub returns-clause-fit : goal.returns-clause-fit
returns-clause-fit c =
    let fits : SFits w64 c.in-Some.first.now = search rules in
    first-fits c.push_later.result c.in-Some.ensures.cases.0 (fits_i64-yes _ fits) c.push_later.ensures.fit
