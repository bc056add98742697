-- Lengths of codes, and codes put together.
use Rattle.std.proofs.Common.{◌≡◌, ℕ, zero, suc, cond, leb, inl, inr, ◌+◌, ◌-◌, ◌*◌, ◌%◌, ◌^◌, ◌<◌, ◌≤◌, Bool, List, [], ◌++◌, length, refl, sym, ap, ◌∙◌, arith, length-append}
use Rattle.std.proofs.lemmas.Int.{ints}
use Rattle.std.specs.Prelude.{ℤ, pos, negsuc, ◌<ℤ◌, ◌≤ℤ◌, min, unsigned_abs}
use Rattle.std.proofs.lemmas.Bool.{cases_lt, le-leb, lt-leb}
use Rattle.std.proofs.lemmas.Nat.{pow_below}
use Rattle.std.proofs.lemmas.List.{append-nil}
use Rattle.std.proofs.Math.Nat.{mod-eq_of_lt}
use Rattle.l3_bits.specs.Bits.{digits}
use Rattle.l3_bits.proofs.Places.{length-digits}
use Rattle.l3_huff.specs.Tables.{linbits_of, table_code}
use Rattle.l3_huff.specs.Codes.{linbits_code, pair_code_of, sign_code, tail_code}
use Rattle.l3_huff.specs.Laws.{tail_length}
use Rattle.l3_huff.proofs.Tails.{length-sign_code}

pub length-tail_code : (table : ℕ) (x : ℤ) → length (tail_code table x) ≡ length (linbits_code table (unsigned_abs x)) + min (unsigned_abs x) 1
unfolding tail_code
length-tail_code table x = length-append (linbits_code table (unsigned_abs x)) (sign_code x) ∙ ap (λ n. length (linbits_code table (unsigned_abs x)) + n) (length-sign_code x)

pub length-pair_code_of : (table : ℕ) (x y : ℤ) → length (pair_code_of table x y) ≡ length (table_code table (min (unsigned_abs x) 15) (min (unsigned_abs y) 15)) + (length (tail_code table x) + length (tail_code table y))
unfolding pair_code_of
length-pair_code_of table x y =
    let code = table_code table (min (unsigned_abs x) 15) (min (unsigned_abs y) 15) in
    length-append code (tail_code table x ++ tail_code table y) ∙ ap (λ n. length code + n) (length-append (tail_code table x) (tail_code table y))

pub linbits-large : (table n : ℕ) → 15 ≤ n → linbits_code table n ≡ digits (linbits_of table) (n - 15)
unfolding linbits_code
linbits-large table n large = rw (le-leb 15 n large) refl

pub linbits-small : (table n : ℕ) → n < 15 → linbits_code table n ≡ []
unfolding linbits_code
linbits-small table n small = rw (lt-leb 15 n small) refl

pub length-linbits-large : (table n : ℕ) → 15 ≤ n → length (linbits_code table n) ≡ linbits_of table
length-linbits-large table n large = ap length (linbits-large table n large) ∙ length-digits (linbits_of table) (n - 15)

pub length-linbits-small : (table n : ℕ) → n < 15 → length (linbits_code table n) ≡ 0
length-linbits-small table n small = ap length (linbits-small table n small)

-- nothing after a code
pub append-none : (front back : List Bool) → back ≡ [] → front ++ back ≡ front
append-none front back none = ap (λ l. front ++ l) none ∙ append-nil front

-- one, shifted by linbits
pub one_shifted : (l : ℕ) → l ≤ 13 → 1 * 2 ^ l % 2 ^ 16 ≡ 2 ^ l
one_shifted l le =
    let one : 1 * 2 ^ l ≡ 2 ^ l = omega arith in
    let lt : 2 ^ l < 2 ^ 16 = pow_below l 16 (omega arith) in
    ap (λ n. n % 2 ^ 16) one ∙ mod-eq_of_lt lt

pub power_small : (l : ℕ) → l ≤ 13 → 2 ^ l < 2 ^ 14
power_small l le = pow_below l 14 (omega arith)

pub sign_code-zero : (x : ℤ) → x ≡ pos 0 → sign_code x ≡ []
unfolding sign_code
sign_code-zero x is = ap sign_code is

pub sign_code-negative : (x : ℤ) → x <ℤ pos 0 → sign_code x ≡ digits 1 1
unfolding sign_code
sign_code-negative (pos n) lt = absurd (omega (arith, ints, lt))
sign_code-negative (negsuc n) lt = refl

pub sign_code-positive : (x : ℤ) → (x ≡ pos 0 → ⊥) → pos 0 ≤ℤ x → sign_code x ≡ digits 1 0
unfolding sign_code
sign_code-positive (pos zero) ne le = absurd (ne refl)
sign_code-positive (pos (suc n)) ne le = refl
sign_code-positive (negsuc n) ne le = absurd (omega (arith, ints, le))

pub length-of_magnitudes : (table : ℕ) (x y : ℤ) → length (pair_code_of table x y) ≡ length (pair_code_of table (pos (unsigned_abs x)) (pos (unsigned_abs y)))
length-of_magnitudes table x y =
    let a = unsigned_abs x in
    let b = unsigned_abs y in
    let code = length (table_code table (min a 15) (min b 15)) in
    length-pair_code_of table x y
    ∙ (ap (λ n. code + (n + length (tail_code table y))) (length-tail_code table x ∙ sym (length-tail_code table (pos a)))
    ∙ (ap (λ n. code + (length (tail_code table (pos a)) + n)) (length-tail_code table y ∙ sym (length-tail_code table (pos b)))
    ∙ sym (length-pair_code_of table (pos a) (pos b))))

length-linbits_code : (table n : ℕ) → length (linbits_code table n) ≡ cond (leb 15 n) (linbits_of table) 0
length-linbits_code table n =
    elim (cases_lt n 15) as (λ _. length (linbits_code table n) ≡ cond (leb 15 n) (linbits_of table) 0) [
      | inl small ↦ rw (lt-leb 15 n small) (length-linbits-small table n small)
      | inr large ↦ rw (le-leb 15 n large) (length-linbits-large table n large)
    ]

pub length-of_parts : (table : ℕ) (x y : ℤ) → length (pair_code_of table x y)
    ≡ length (table_code table (min (unsigned_abs x) 15) (min (unsigned_abs y) 15)) + (tail_length table (unsigned_abs x) + tail_length table (unsigned_abs y))
length-of_parts table x y =
    let a = unsigned_abs x in
    let b = unsigned_abs y in
    let code = length (table_code table (min a 15) (min b 15)) in
    let first : length (tail_code table x) ≡ tail_length table a = length-tail_code table x ∙ ap (λ n. n + min a 1) (length-linbits_code table a) in
    let second : length (tail_code table y) ≡ tail_length table b = length-tail_code table y ∙ ap (λ n. n + min b 1) (length-linbits_code table b) in
    length-pair_code_of table x y ∙ (ap (λ n. code + (n + length (tail_code table y))) first ∙ ap (λ n. code + (tail_length table a + n)) second)
