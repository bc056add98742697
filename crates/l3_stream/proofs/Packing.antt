-- Bits packed in parts.
use Rattle.std.proofs.Common.{◌≡◌, ℕ, zero, suc, ◌*◌, Bool, List, [], ◌∷◌, ◌++◌, length, refl, ap, arith}
use Rattle.l3_bits.specs.Bits.{number_of, packed}

pub packed-append : (n : ℕ) (a b : List Bool) → length a ≡ 8 * n → packed (a ++ b) ≡ packed a ++ packed b
packed-append n [] y is = refl
packed-append n (a ∷ []) y is = absurd (omega (arith, is))
packed-append n (a ∷ b ∷ []) y is = absurd (omega (arith, is))
packed-append n (a ∷ b ∷ c ∷ []) y is = absurd (omega (arith, is))
packed-append n (a ∷ b ∷ c ∷ d ∷ []) y is = absurd (omega (arith, is))
packed-append n (a ∷ b ∷ c ∷ d ∷ e ∷ []) y is = absurd (omega (arith, is))
packed-append n (a ∷ b ∷ c ∷ d ∷ e ∷ f ∷ []) y is = absurd (omega (arith, is))
packed-append n (a ∷ b ∷ c ∷ d ∷ e ∷ f ∷ g ∷ []) y is = absurd (omega (arith, is))
packed-append zero (a ∷ b ∷ c ∷ d ∷ e ∷ f ∷ g ∷ h ∷ rest) y is = absurd (omega (arith, is))
packed-append (suc n) (a ∷ b ∷ c ∷ d ∷ e ∷ f ∷ g ∷ h ∷ rest) y is =
    ap (λ l. number_of (a ∷ b ∷ c ∷ d ∷ e ∷ f ∷ g ∷ h ∷ []) ∷ l) (packed-append n rest y (omega (arith, is)))

pub packed-length : (n : ℕ) (a : List Bool) → length a ≡ 8 * n → length (packed a) ≡ n
packed-length n [] is = omega arith
packed-length n (a ∷ []) is = absurd (omega (arith, is))
packed-length n (a ∷ b ∷ []) is = absurd (omega (arith, is))
packed-length n (a ∷ b ∷ c ∷ []) is = absurd (omega (arith, is))
packed-length n (a ∷ b ∷ c ∷ d ∷ []) is = absurd (omega (arith, is))
packed-length n (a ∷ b ∷ c ∷ d ∷ e ∷ []) is = absurd (omega (arith, is))
packed-length n (a ∷ b ∷ c ∷ d ∷ e ∷ f ∷ []) is = absurd (omega (arith, is))
packed-length n (a ∷ b ∷ c ∷ d ∷ e ∷ f ∷ g ∷ []) is = absurd (omega (arith, is))
packed-length zero (a ∷ b ∷ c ∷ d ∷ e ∷ f ∷ g ∷ h ∷ rest) is = absurd (omega (arith, is))
packed-length (suc n) (a ∷ b ∷ c ∷ d ∷ e ∷ f ∷ g ∷ h ∷ rest) is =
    let more = packed-length n rest (omega (arith, is)) in omega arith
