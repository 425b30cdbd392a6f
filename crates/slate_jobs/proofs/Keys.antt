-- Keys of different jobs and replies differ.
use Rattle.std.proofs.Common.{◌≡◌, ℕ, ◌<◌, ◌^◌, drop, get_or, sym, ap, ◌∙◌, arith}
use Rattle.std.proofs.lemmas.Nat.{from_be_bytes-to_be_bytes_8}
use Rattle.std.specs.Int.{w64, from_be_bytes}
use Rattle.slate_jobs.specs.Rows.{eight, job_key, reply_key}

-- a number is read again
numbers-same : (a b : ℕ) → a < 2 ^ 64 → b < 2 ^ 64 → eight a ≡ eight b → a ≡ b
numbers-same a b fits_a fits_b same =
    sym (from_be_bytes-to_be_bytes_8 a fits_a) ∙ (ap (from_be_bytes w64) same ∙ from_be_bytes-to_be_bytes_8 b fits_b)

pub jobs-same : (a b : ℕ) → a < 2 ^ 64 → b < 2 ^ 64 → job_key a ≡ job_key b → a ≡ b
jobs-same a b fits_a fits_b same = numbers-same a b fits_a fits_b (ap (drop 1) same)

pub replies-same : (a b : ℕ) → a < 2 ^ 64 → b < 2 ^ 64 → reply_key a ≡ reply_key b → a ≡ b
replies-same a b fits_a fits_b same = numbers-same a b fits_a fits_b (ap (drop 1) same)

pub kinds-differ : (a b : ℕ) → job_key a ≡ reply_key b → ⊥
kinds-differ a b same = let first : 106 ≡ 114 = ap (λ key. get_or key 0 0) same in omega (arith, first)
