-- The sign in front of bits.
use Rattle.std.proofs.Common.{◌≡◌, ℕ, zero, suc, ◌+◌, ◌-◌, ◌*◌, ◌<◌, ◌≤◌, Bool, true, false, List, [], ◌∷◌, length, get_or, take, drop, Option, Some, None, refl, sym, ap, ◌∙◌, arith}
use Rattle.std.specs.Prelude.{ℤ, pos, negsuc, ◌-ℤ◌}
use Rattle.std.proofs.lemmas.Int.{ints}
use Rattle.std.proofs.Math.Seq.{drop-cons}
use Rattle.l3_bits.specs.Bits.{bits_of, digit_value, number_of}
use Rattle.l3_bits.proofs.Places.{length-bits_of}
use Rattle.l3_huff.specs.Reading.{sign_at}
use Rattle.l3_huff.specs.Words.{GoesOn, between, with_zeros}
use Rattle.l3_huff.proofs.Betweens.{bits_ahead-front}

-- the bit at a place
abbrev pub bit_at : List ℕ → ℕ → Bool
bit_at bytes at = get_or (bits_of bytes) at false

pub between-cons : (bytes : List ℕ) (at end : ℕ) → at < end → end ≤ 8 * length bytes → between bytes at end ≡ bit_at bytes at ∷ between bytes (at + 1) end
between-cons bytes at end lt within =
    let some : end - at ≡ suc (end - (at + 1)) = omega arith in
    let next : suc at ≡ at + 1 = omega arith in
    ap (λ n. take n (drop at (bits_of bytes))) some
    ∙ (ap (take (suc (end - (at + 1)))) (drop-cons (bits_of bytes) at false (omega (arith, length-bits_of bytes)))
    ∙ ap (λ n. bit_at bytes at ∷ take (end - (at + 1)) (drop n (bits_of bytes))) next)

pub bits_ahead-bit : (bytes : List ℕ) (at end : ℕ) → at < end → end ≤ 8 * length bytes → number_of (take 1 (drop at (bits_of (with_zeros bytes)))) ≡ digit_value (bit_at bytes at)
bits_ahead-bit bytes at end lt within =
    ap number_of (bits_ahead-front bytes at end 1 (omega arith) within (omega arith) ∙ ap (take 1) (between-cons bytes at end lt within)) ∙ one (bit_at bytes at)
  where
    one : (b : Bool) → number_of (b ∷ []) ≡ digit_value b
    one true = refl
    one false = refl

pub set_bit : (b : Bool) → digit_value b ≡ 1 → b ≡ true
set_bit true e = refl
set_bit false e = absurd (omega (arith, e))

pub clear_bit : (b : Bool) → (digit_value b ≡ 1 → ⊥) → b ≡ false
clear_bit true e = absurd (e refl)
clear_bit false e = refl

pub sign-none : (value : ℕ) (bytes : List ℕ) (at end : ℕ) → (value ≡ 0 → ⊥) → at ≡ end → sign_at value (between bytes at end) ≡ None
unfolding sign_at
sign-none zero bytes at end some is = absurd (some refl)
sign-none (suc n) bytes at end some is =
    let none : end - at ≡ 0 = omega arith in
    ap (λ m. sign_at (suc n) (take m (drop at (bits_of bytes)))) none

pub sign-zero : (value : ℕ) (bytes : List ℕ) (at end : ℕ) → value ≡ 0 → at ≤ end → GoesOn (sign_at value) bytes at end (pos 0) at
unfolding sign_at
sign-zero zero bytes at end is order = record { forward = omega arith; within = order; given = refl }
sign-zero (suc n) bytes at end is order = absurd (omega (arith, is))

negated : (n : ℕ) → pos 0 -ℤ pos (suc n) ≡ negsuc n
negated n = omega (arith, ints)

pub sign-negative : (value : ℕ) (bytes : List ℕ) (at end : ℕ) → (value ≡ 0 → ⊥) → at < end → end ≤ 8 * length bytes → bit_at bytes at ≡ true →
    GoesOn (sign_at value) bytes at end (pos 0 -ℤ pos value) (at + 1)
unfolding sign_at
sign-negative zero bytes at end some lt within bit = absurd (some refl)
sign-negative (suc n) bytes at end some lt within bit = record {
  forward = omega arith;
  within = omega arith;
  given = let make : ℤ → Option (ℤ × List Bool) = λ z. Some (z, between bytes (at + 1) end) in
      ap (sign_at (suc n)) (between-cons bytes at end lt within ∙ ap (λ b. b ∷ between bytes (at + 1) end) bit) ∙ ap make (sym (negated n));
}

pub sign-positive : (value : ℕ) (bytes : List ℕ) (at end : ℕ) → (value ≡ 0 → ⊥) → at < end → end ≤ 8 * length bytes → bit_at bytes at ≡ false →
    GoesOn (sign_at value) bytes at end (pos value) (at + 1)
unfolding sign_at
sign-positive zero bytes at end some lt within bit = absurd (some refl)
sign-positive (suc n) bytes at end some lt within bit = record {
  forward = omega arith;
  within = omega arith;
  given = ap (sign_at (suc n)) (between-cons bytes at end lt within ∙ ap (λ b. b ∷ between bytes (at + 1) end) bit);
}
