use Rattle.std.proofs.Common.{◌≡◌, ◌<◌, ◌≤◌, w32, arith}
use mir.Val.{of_z, to_z}
use Rattle.std.specs.Int.RustNames.{unsigned_abs}
use Rattle.std.proofs.lemmas.Int.{to_z-of_z}
use Rattle.std.proofs.lemmas.Result.{on_ok_weaker}
use Rattle.slate_seqtrack.proofs.Coding.{first-0, first-7, first-9, first-12, first-32}
use Rattle.slate_seqtrack.proofs.encoding.push_code.Goals as goal

pub returns-in-0 : goal.returns-in-0
returns-in-0 c =
    let same : to_z w32 (of_z w32 c.args.value) ≡ c.args.value = to_z-of_z w32 c.args.value c.ranges.value in
    let abs : c.unsigned_abs.result ≡ unsigned_abs c.args.value = rw same at c.unsigned_abs.ensures.value in
    let a : unsigned_abs c.args.value ≡ 0 = omega (arith, abs) in
    on_ok_weaker c.push_form.result (λ e. (_, first-0 c.args.value a, e)) (rw same at c.push_form.ensures)

pub returns-in-1-to-63 : goal.returns-in-1-to-63
returns-in-1-to-63 c =
    let same : to_z w32 (of_z w32 c.args.value) ≡ c.args.value = to_z-of_z w32 c.args.value c.ranges.value in
    let abs : c.unsigned_abs.result ≡ unsigned_abs c.args.value = rw same at c.unsigned_abs.ensures.value in
    let a : 0 < unsigned_abs c.args.value = omega (arith, abs) in
    let b : unsigned_abs c.args.value < 64 = omega (arith, abs) in
    on_ok_weaker c.push_form-in-1-to-63.result (λ e. (_, first-7 c.args.value a b, e)) (rw same at c.push_form-in-1-to-63.ensures)

pub returns-in-64-to-255 : goal.returns-in-64-to-255
returns-in-64-to-255 c =
    let same : to_z w32 (of_z w32 c.args.value) ≡ c.args.value = to_z-of_z w32 c.args.value c.ranges.value in
    let abs : c.unsigned_abs.result ≡ unsigned_abs c.args.value = rw same at c.unsigned_abs.ensures.value in
    let a : 64 ≤ unsigned_abs c.args.value = omega (arith, abs) in
    let b : unsigned_abs c.args.value < 256 = omega (arith, abs) in
    on_ok_weaker c.push_form-in-64-to-255.result (λ e. (_, first-9 c.args.value a b, e)) (rw same at c.push_form-in-64-to-255.ensures)

pub returns-in-256-to-2047 : goal.returns-in-256-to-2047
returns-in-256-to-2047 c =
    let same : to_z w32 (of_z w32 c.args.value) ≡ c.args.value = to_z-of_z w32 c.args.value c.ranges.value in
    let abs : c.unsigned_abs.result ≡ unsigned_abs c.args.value = rw same at c.unsigned_abs.ensures.value in
    let a : 256 ≤ unsigned_abs c.args.value = omega (arith, abs) in
    let b : unsigned_abs c.args.value < 2048 = omega (arith, abs) in
    on_ok_weaker c.push_form-in-256-to-2047.result (λ e. (_, first-12 c.args.value a b, e)) (rw same at c.push_form-in-256-to-2047.ensures)

pub returns-in-2048-to-4294967295 : goal.returns-in-2048-to-4294967295
returns-in-2048-to-4294967295 c =
    let same : to_z w32 (of_z w32 c.args.value) ≡ c.args.value = to_z-of_z w32 c.args.value c.ranges.value in
    let abs : c.unsigned_abs.result ≡ unsigned_abs c.args.value = rw same at c.unsigned_abs.ensures.value in
    let a : 2048 ≤ unsigned_abs c.args.value = omega (arith, abs) in
    on_ok_weaker c.push_form-in-2048-to-4294967295.result (λ e. (_, first-32 c.args.value a c.ranges.value.sfits, e)) (rw same at c.push_form-in-2048-to-4294967295.ensures)
