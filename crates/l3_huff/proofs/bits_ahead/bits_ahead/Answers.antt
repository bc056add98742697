use Rattle.std.proofs.Common.{◌≡◌, ℕ, ◌+◌, ◌-◌, ◌*◌, ◌/◌, ◌%◌, ◌^◌, ◌<◌, ◌≤◌, get_or, ap, ◌∙◌, arith}
use Rattle.std.proofs.Math.Nat.{mod-eq_of_lt, mod-lt}
use Rattle.std.proofs.Math.Pow.{pow_pos}
use Rattle.std.proofs.lemmas.Nat.{pow_below}
use Rattle.l3_huff.proofs.BitsAhead.{bits_ahead_is}
use Rattle.l3_huff.proofs.bits_ahead.bits_ahead.Goals as goal

-- one, shifted by a width
mask : (width : ℕ) → width ≤ 16 → 1 * 2 ^ width % 4294967296 ≡ 2 ^ width
mask width le =
    let one : 1 * 2 ^ width ≡ 2 ^ width = omega arith in
    let lt : 2 ^ width < 2 ^ 32 = pow_below width 32 (omega arith) in
    ap (λ n. n % 4294967296) one ∙ mod-eq_of_lt lt

below : (a b : ℕ) → a ≡ b → a < 256 → b < 2 ^ 8
below a b is lt = omega arith

pub returns-clause-value : goal.returns-clause-value
returns-clause-value c =
    let bytes = c.args.bytes.now in
    let at = c.args.at in
    let ahead : c.three_bytes-ahead.result ≡ (get_or bytes (at / 8) 0 * 2 ^ 8 + get_or bytes (at / 8 + 1) 0) * 2 ^ 8 + get_or bytes (at / 8 + 2) 0 = cc in
    ap (λ m. c.three_bytes-ahead.result / 2 ^ (24 - at % 8 - c.args.width) % m) (mask c.args.width c.requires.width)
    ∙ (ap (λ w. w / 2 ^ (24 - at % 8 - c.args.width) % 2 ^ c.args.width) ahead
    ∙ bits_ahead_is bytes at c.args.width c.requires.within c.requires.width
    (below c.byte_or_zero.result (get_or bytes (at / 8) 0) c.byte_or_zero.ensures c.byte_or_zero.type_inv)
    (below c.byte_or_zero-2.result (get_or bytes (at / 8 + 1) 0) c.byte_or_zero-2.ensures c.byte_or_zero-2.type_inv)
    (below c.byte_or_zero-3.result (get_or bytes (at / 8 + 2) 0) c.byte_or_zero-3.ensures c.byte_or_zero-3.type_inv))

pub returns-clause-small : goal.returns-clause-small
returns-clause-small c =
    let v = c.three_bytes-ahead.result / 2 ^ (24 - c.args.at % 8 - c.args.width) in
    let P : ℕ → Type 0 = λ m. v % m < 2 ^ c.args.width in
    rw (mask c.args.width c.requires.width) (mod-lt v (pow_pos c.args.width))
