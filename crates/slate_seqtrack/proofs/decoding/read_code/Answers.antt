use Rattle.std.proofs.Common.{w32, rules}
use mir.Val.{SFits}
use Rattle.std.proofs.lemmas.Int.{to_z-of_z}
use Rattle.slate_seqtrack.proofs.Grammar.{code-read}
use Rattle.slate_seqtrack.proofs.decoding.read_code.Goals as goal

pub returns : goal.returns
returns c =
    let fits : SFits w32 c.sign_extend.result = search rules in
    rw (to_z-of_z w32 c.sign_extend.result fits, c.sign_extend.ensures) (code-read _ _ _ _ _ c.in_ok-width.ensures.width c.in_ok-bits.ensures.0)
