-- Numbers put together of fields, and taken apart again.
use Rattle.std.proofs.Common.{◌≡◌, ℕ, ◌+◌, ◌*◌, ◌/◌, ◌%◌, ◌^◌, ◌<◌, Bool, List, [], ◌∷◌, ◌++◌, length, take, drop, refl, ap, sym, subst, ◌∙◌, arith, length-append}
use Rattle.std.specs.Prelude.{fold}
use Rattle.std.proofs.Math.Nat.{mod-eq_of_lt, mul-add-div_right, mul-add-mod_self_right}
use Rattle.std.proofs.lemmas.Nat.{div-add-mod', div-mul-add, pow-add, pow_pos}
use Rattle.std.proofs.lemmas.List.{length-take-le, length-drop, take-append-drop}
use Rattle.std.proofs.lemmas.List.Sums.{fold-append}
use Rattle.l3_bits.specs.Bits.{digits, number_of}
use Rattle.l3_bits.proofs.Numbers.{joined, fold-digits, digits-fold, fold-from, number_of-below}
use Rattle.l3_bits.proofs.Places.{length-digits}
use Rattle.l3_bits.proofs.Bytes.{number_of-digits}
use Rattle.l3_stream.specs.Fields.{spelled, fields_at, FieldsFit}
use Rattle.l3_stream.specs.Numbers.{total_width, fields_of_number}

-- the digits of a number with a field after it
pub digits-append : (m n a b : ℕ) → b < 2 ^ n → digits (m + n) (a * 2 ^ n + b) ≡ digits m a ++ digits n b
digits-append m n a b small =
    let bits = digits m a ++ digits n b in
    let above = a / 2 ^ m in
    let high : fold joined above (digits m a) ≡ a = fold-digits m a above ∙ div-add-mod' a (2 ^ m) in
    let low : fold joined a (digits n b) ≡ a * 2 ^ n + b = fold-digits n b a ∙ ap (λ x. a * 2 ^ n + x) (mod-eq_of_lt small) in
    let value : fold joined above bits ≡ a * 2 ^ n + b = fold-append joined above (digits m a) (digits n b) ∙ (ap (λ q. fold joined q (digits n b)) high ∙ low) in
    let long : length bits ≡ m + n = omega (arith, length-append (digits m a) (digits n b), length-digits m a, length-digits n b) in
    ap (λ k. digits k (a * 2 ^ n + b)) (sym long) ∙ (ap (λ v. digits (length bits) v) (sym value) ∙ digits-fold bits above)

-- the number of fields of these widths, the last in its lowest bits
abbrev pub number_in : List ℕ → List ℕ → ℕ
number_in [] values = 0
number_in (width ∷ widths) [] = 0
number_in (width ∷ widths) (value ∷ values) = value * 2 ^ total_width widths + number_in widths values

raised : (value w p n : ℕ) → value < w → n < p → value * p + n < w * p
raised value w p n lt small = grind arith

pub number_in-small : (ws vs : List ℕ) → FieldsFit ws vs → number_in ws vs < 2 ^ total_width ws
number_in-small [] [] fit = omega arith
number_in-small [] (v ∷ vs) fit = absurd fit
number_in-small (w ∷ ws) [] fit = absurd fit
number_in-small (w ∷ ws) (v ∷ vs) fit = rw (pow-add 2 w (total_width ws)) (raised v (2 ^ w) (2 ^ total_width ws) (number_in ws vs) fit.0 (number_in-small ws vs fit.1))

-- its digits are the fields, one after the other
pub number_in-digits : (ws vs : List ℕ) → FieldsFit ws vs → digits (total_width ws) (number_in ws vs) ≡ spelled ws vs
number_in-digits [] [] fit = refl
number_in-digits [] (v ∷ vs) fit = absurd fit
number_in-digits (w ∷ ws) [] fit = absurd fit
number_in-digits (w ∷ ws) (v ∷ vs) fit =
    digits-append w (total_width ws) v (number_in ws vs) (number_in-small ws vs fit.1) ∙ ap (λ l. digits w v ++ l) (number_in-digits ws vs fit.1)

pub number_of-spelled : (ws vs : List ℕ) → FieldsFit ws vs → number_of (spelled ws vs) ≡ number_in ws vs
number_of-spelled ws vs fit =
    ap number_of (sym (number_in-digits ws vs fit)) ∙ number_of-digits (total_width ws) (number_in ws vs) (number_in-small ws vs fit)

-- what stands above the fields does not count
fields_of_number-low : (ws : List ℕ) (high low : ℕ) → fields_of_number ws (high * 2 ^ total_width ws + low) ≡ fields_of_number ws low
fields_of_number-low [] high low = refl
fields_of_number-low (w ∷ ws) high low =
    let p = 2 ^ total_width ws in
    let grouped : high * 2 ^ (w + total_width ws) + low ≡ high * 2 ^ w * p + low = rw (pow-add 2 w (total_width ws)) (omega arith) in
    let head : (high * 2 ^ w * p + low) / p % 2 ^ w ≡ low / p % 2 ^ w =
    ap (λ x. x % 2 ^ w) (mul-add-div_right (pow_pos (total_width ws)) (high * 2 ^ w) low) ∙ mul-add-mod_self_right high (2 ^ w) (low / p) in
    ap (fields_of_number (w ∷ ws)) grouped
    ∙ (ap (λ x. x ∷ fields_of_number ws (high * 2 ^ w * p + low)) head ∙ ap (λ xs. low / p % 2 ^ w ∷ xs) (fields_of_number-low ws (high * 2 ^ w) low))

-- the fields that bits hold are those of the number that the bits stand for
pub fields_at-number : (ws : List ℕ) (bits : List Bool) → length bits ≡ total_width ws → fields_at ws bits ≡ fields_of_number ws (number_of bits)
fields_at-number [] bits size = refl
fields_at-number (w ∷ ws) bits size =
    let front = take w bits in
    let back = drop w bits in
    let p = 2 ^ total_width ws in
    let wide : length front ≡ w = length-take-le w bits (omega arith) in
    let rest : length back ≡ total_width ws = omega (arith, length-drop w bits) in
    let value : number_of bits ≡ number_of front * p + number_of back =
    ap number_of (sym (take-append-drop w bits)) ∙ (fold-append joined 0 front back ∙ (fold-from back (number_of front) ∙ ap (λ n. number_of front * 2 ^ n + number_of back) rest)) in
    let low : number_of back < p = subst (λ (n : ℕ). number_of back < 2 ^ n) rest (number_of-below back) in
    let high : number_of front < 2 ^ w = subst (λ (n : ℕ). number_of front < 2 ^ n) wide (number_of-below front) in
    let head : number_of front ≡ number_of bits / p % 2 ^ w =
    sym (ap (λ n. n / p % 2 ^ w) value ∙ (ap (λ n. n % 2 ^ w) (div-mul-add (number_of front) p (number_of back) low) ∙ mod-eq_of_lt high)) in
    let tail : fields_at ws back ≡ fields_of_number ws (number_of bits) =
    fields_at-number ws back rest ∙ sym (ap (fields_of_number ws) value ∙ fields_of_number-low ws (number_of front) (number_of back)) in
    ap (λ n. n ∷ fields_at ws back) head ∙ ap (λ xs. number_of bits / p % 2 ^ w ∷ xs) tail
