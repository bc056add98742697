-- A code, and after it more digits.
use Rattle.std.proofs.Common.{◌≡◌, ℕ, ◌+◌, ◌*◌, ◌%◌, ◌^◌, ◌<◌, Bool, List, ◌++◌, length, sym, ap, ◌∙◌, arith, length-append}
use Rattle.std.specs.Prelude.{fold}
use Rattle.std.proofs.Math.Nat.{mod-eq_of_lt}
use Rattle.std.proofs.lemmas.Nat.{pow-add, mul-add-lt, pow_below}
use Rattle.std.proofs.lemmas.List.Sums.{fold-append}
use Rattle.l3_bits.specs.Bits.{digits, number_of}
use Rattle.l3_bits.proofs.Numbers.{joined, fold-digits, digits-fold}
use Rattle.l3_bits.proofs.Places.{length-digits}
use Rattle.l3_bits.proofs.Bytes.{number_of-digits}

abbrev joined_from : ℕ → List Bool → ℕ
joined_from n bits = fold joined n bits

-- the number of two codes in a row
pub number_of-append : (a b v w : ℕ) → v < 2 ^ a → w < 2 ^ b → number_of (digits a v ++ digits b w) ≡ v * 2 ^ b + w
number_of-append a b v w lv lw =
    fold-append joined 0 (digits a v) (digits b w)
    ∙ (ap (λ n. joined_from n (digits b w)) (number_of-digits a v lv) ∙ (fold-digits b w v ∙ ap (λ m. v * 2 ^ b + m) (mod-eq_of_lt lw)))

pub digits-append : (a b v w : ℕ) → v < 2 ^ a → w < 2 ^ b → digits (a + b) (v * 2 ^ b + w) ≡ digits a v ++ digits b w
digits-append a b v w lv lw =
    let both = digits a v ++ digits b w in
    let size : length both ≡ a + b = omega (arith, length-append (digits a v) (digits b w), length-digits a v, length-digits b w) in
    ap (λ n. digits n (v * 2 ^ b + w)) (sym size) ∙ (ap (digits (length both)) (sym (number_of-append a b v w lv lw)) ∙ digits-fold both 0)

pub joined-lt : (a b v w : ℕ) → v < 2 ^ a → w < 2 ^ b → v * 2 ^ b + w < 2 ^ (a + b)
joined-lt a b v w lv lw =
    let whole : 2 ^ (a + b) ≡ 2 ^ b * 2 ^ a = pow-add 2 a b ∙ omega arith in
    rw whole (mul-add-lt v (2 ^ b) w (2 ^ a) lv lw)

-- a shift that loses nothing
pub shifted : (a b v w : ℕ) → v < 2 ^ a → w < 2 ^ b → a + b < 64 → v * 2 ^ b % 2 ^ 64 ≡ v * 2 ^ b
shifted a b v w lv lw room =
    let whole = joined-lt a b v w lv lw in
    let top : 2 ^ (a + b) < 2 ^ 64 = pow_below (a + b) 64 room in
    let lt : v * 2 ^ b < 2 ^ 64 = omega (arith, whole, top) in
    mod-eq_of_lt lt

pub joined_fits : (a b v w : ℕ) → v < 2 ^ a → w < 2 ^ b → a + b < 64 → v * 2 ^ b + w < 2 ^ 64
joined_fits a b v w lv lw room =
    let whole = joined-lt a b v w lv lw in
    let top : 2 ^ (a + b) < 2 ^ 64 = pow_below (a + b) 64 room in
    omega (arith, whole, top)
