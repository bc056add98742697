-- Fields of given widths, one after the other.
use Rattle.std.proofs.Common.{◌≡◌, ℕ, ◌+◌, ◌^◌, ◌<◌, ◌≤◌, Bool, true, false, List, [], ◌∷◌, ◌++◌, length, take, drop, refl, sym, ap, subst, ◌∙◌, arith, append_assoc}
use Rattle.std.proofs.lemmas.List.{take_at, drop_at, length-take-le, length-drop}
use Rattle.std.proofs.Math.Seq.{take-add}
use Rattle.l3_bits.specs.Bits.{digits, number_of}
use Rattle.l3_bits.proofs.Numbers.{digits-fold, number_of-below}
use Rattle.l3_bits.proofs.Places.{length-digits}
use Rattle.l3_bits.proofs.Bytes.{number_of-digits}
use Rattle.l3_stream.specs.Fields.{same, spelled, fields_at, FieldsFit}

pub same_is : (xs ys : List Bool) → same xs ys ≡ true → xs ≡ ys
same_is [] [] h = refl
same_is [] (y ∷ ys) h = cc
same_is (true ∷ xs) [] h = cc
same_is (false ∷ xs) [] h = cc
same_is (true ∷ xs) (true ∷ ys) h = ap (λ l. true ∷ l) (same_is xs ys h)
same_is (true ∷ xs) (false ∷ ys) h = cc
same_is (false ∷ xs) (true ∷ ys) h = cc
same_is (false ∷ xs) (false ∷ ys) h = ap (λ l. false ∷ l) (same_is xs ys h)

pub same_again : (xs : List Bool) → same xs xs ≡ true
same_again [] = refl
same_again (true ∷ xs) = same_again xs
same_again (false ∷ xs) = same_again xs

-- the bits of fields
abbrev pub total : List ℕ → ℕ
total [] = 0
total (w ∷ ws) = w + total ws

-- what is spelled is read, whatever follows
pub fields_again : (ws vs : List ℕ) (rest : List Bool) → FieldsFit ws vs → fields_at ws (spelled ws vs ++ rest) ≡ vs
fields_again [] [] rest fit = refl
fields_again [] (v ∷ vs) rest fit = absurd fit
fields_again (w ∷ ws) [] rest fit = absurd fit
fields_again (w ∷ ws) (v ∷ vs) rest fit =
    let tail = spelled ws vs ++ rest in
    let regrouped : (digits w v ++ spelled ws vs) ++ rest ≡ digits w v ++ tail = append_assoc (digits w v) (spelled ws vs) rest in
    ap (fields_at (w ∷ ws)) regrouped
    ∙ rw (take_at (digits w v) tail w (length-digits w v), drop_at (digits w v) tail w (length-digits w v), number_of-digits w v fit.0, fields_again ws vs rest fit.1) refl

-- what is read is spelled so
pub spelled_again : (ws : List ℕ) (bits : List Bool) → total ws ≤ length bits → spelled ws (fields_at ws bits) ≡ take (total ws) bits
spelled_again [] bits le = refl
spelled_again (w ∷ ws) bits le =
    let front : length (take w bits) ≡ w = length-take-le w bits (omega arith) in
    let own : digits w (number_of (take w bits)) ≡ take w bits = ap (λ n. digits n (number_of (take w bits))) (sym front) ∙ digits-fold (take w bits) 0 in
    rw (own, spelled_again ws (drop w bits) (omega (arith, length-drop w bits))) (sym (take-add w (total ws) bits))

pub fields_small : (ws : List ℕ) (bits : List Bool) → total ws ≤ length bits → FieldsFit ws (fields_at ws bits)
fields_small [] bits le = tt
fields_small (w ∷ ws) bits le =
    let size : length (take w bits) ≡ w = length-take-le w bits (omega arith) in
    (subst (λ (n : ℕ). number_of (take w bits) < 2 ^ n) size (number_of-below (take w bits)), fields_small ws (drop w bits) (omega (arith, length-drop w bits)))
