use Rattle.std.proofs.Common.{◌≡◌, ◌-◌, ◌≤◌, ◌<◌, ◌*◌, ◌%◌, ◌^◌, bit_and, arith}
use Rattle.std.proofs.lemmas.Nat.{mod_below, pow_pos}
use Rattle.slate_seqtrack.proofs.Twos.{masked, halved, signed-low, signed-high}
use Rattle.slate_seqtrack.proofs.bits.sign_extend.Goals as goal

pub returns-then-low-half : goal.returns-then-low-half
returns-then-low-half c =
    let low : bit_and c.from.result (2 * (1 * 2 ^ (c.args.bits - 1) % 2 ^ 64) - 1) ≡ c.args.val % 2 ^ c.args.bits = rw c.from.ensures (masked c.args.bits c.args.val c.requires.some c.requires.few) in
    let sizes = halved c.args.bits c.requires.some c.requires.few in
    let below : 2 * (c.args.val % 2 ^ c.args.bits) < 2 ^ c.args.bits = omega (arith, low, sizes.0, c.if-low-half.true) in
    rw low (signed-low c.args.bits (c.args.val % 2 ^ c.args.bits) below sizes.1)

pub returns-else-low-half : goal.returns-else-low-half
returns-else-low-half c =
    let low : bit_and c.from.result (2 * (1 * 2 ^ (c.args.bits - 1) % 2 ^ 64) - 1) ≡ c.args.val % 2 ^ c.args.bits = rw c.from.ensures (masked c.args.bits c.args.val c.requires.some c.requires.few) in
    let sizes = halved c.args.bits c.requires.some c.requires.few in
    let above : 2 ^ c.args.bits ≤ 2 * (c.args.val % 2 ^ c.args.bits) = omega (arith, low, sizes.0, c.if-low-half.false) in
    rw (low, sizes.0) (signed-high c.args.bits (c.args.val % 2 ^ c.args.bits) above (mod_below c.args.val (2 ^ c.args.bits) (pow_pos c.args.bits)) sizes.1)
