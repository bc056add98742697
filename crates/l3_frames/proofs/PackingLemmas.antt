-- Bytes put together of bits.
use Rattle.std.proofs.Common.{◌≡◌, ℕ, zero, suc, ◌+◌, ◌*◌, ◌^◌, ◌<◌, Bool, false, List, [], ◌∷◌, ◌++◌, replicate, refl, ap, sym, ◌∙◌, arith}
use Rattle.std.specs.Prelude.{All}
use Rattle.std.proofs.lemmas.List.{replicate-append-replicate}
use Rattle.std.proofs.lemmas.List.Elements.{All-head, All-tail}
use Rattle.l3_bits.specs.Bits.{bits_of, packed}
use Rattle.l3_bits.proofs.Bytes.{number_of-digits}

-- bytes, and then bits
pub packed-bits_of-append : (bytes : List ℕ) (bits : List Bool) → All (λ byte. byte < 2 ^ 8) bytes → packed (bits_of bytes ++ bits) ≡ bytes ++ packed bits
packed-bits_of-append [] bits all = refl
packed-bits_of-append (b ∷ bytes) bits all =
    ap (λ x. x ∷ packed (bits_of bytes ++ bits)) (number_of-digits 8 b (All-head (λ byte. byte < 2 ^ 8) b bytes all))
    ∙ ap (λ l. b ∷ l) (packed-bits_of-append bytes bits (All-tail (λ byte. byte < 2 ^ 8) b bytes all))

-- zero bits are zero bytes
pub packed-zeros : (n : ℕ) → packed (replicate (8 * n) false) ≡ replicate n 0
packed-zeros zero = refl
packed-zeros (suc n) =
    let more : 8 * suc n ≡ 8 + 8 * n = omega arith in
    ap (λ k. packed (replicate k false)) more
    ∙ (ap packed (sym (replicate-append-replicate 8 (8 * n) false)) ∙ ap (λ l. 0 ∷ l) (packed-zeros n))
