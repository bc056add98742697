-- The next bits, taken out of three bytes.
use Rattle.std.proofs.Common.{◌≡◌, ℕ, zero, suc, ◌+◌, ◌-◌, ◌*◌, ◌/◌, ◌%◌, ◌^◌, ◌<◌, ◌≤◌, Bool, List, [], ◌∷◌, ◌++◌, length, get_or, take, drop, refl, sym, ap, ◌∙◌, arith, length-append, append_assoc}
use Rattle.std.proofs.Math.Nat.{div-div-eq-div-mul}
use Rattle.std.proofs.Math.Seq.{drop-cons}
use Rattle.std.proofs.lemmas.Nat.{pow-add}
use Rattle.std.proofs.lemmas.List.{take-append-le, drop-append-le}
use Rattle.l3_bits.specs.Bits.{digits, bits_of, number_of}
use Rattle.l3_bits.proofs.Numbers.{fold-digits}
use Rattle.l3_bits.proofs.Places.{length-digits}
use Rattle.l3_huff.specs.Words.{with_zeros}
use Rattle.l3_huff.proofs.Joined.{digits-append, joined-lt}

-- the bits of bytes from a byte on
pub drop-bits_of : (bytes : List ℕ) (i j : ℕ) → drop (8 * i + j) (bits_of bytes) ≡ drop j (bits_of (drop i bytes))
drop-bits_of bytes zero j = ap (λ n. drop n (bits_of bytes)) (let e : 8 * 0 + j ≡ j = omega arith in e)
drop-bits_of [] (suc i) j = nothing (8 * suc i + j) ∙ sym (nothing j)
  where
    nothing : (n : ℕ) → drop n (bits_of []) ≡ []
    nothing zero = refl
    nothing (suc n) = refl
drop-bits_of (b ∷ bytes) (suc i) j =
    let e : 8 * suc i + j ≡ suc (suc (suc (suc (suc (suc (suc (suc (8 * i + j)))))))) = omega arith in
    ap (λ n. drop n (bits_of (b ∷ bytes))) e ∙ drop-bits_of bytes i j

-- the last digits, and the first
drop-digits : (n m v : ℕ) → drop n (digits (n + m) v) ≡ digits m v
drop-digits zero m v = ap (λ k. digits k v) (let e : 0 + m ≡ m = omega arith in e)
drop-digits (suc n) m v = ap (λ k. drop (suc n) (digits k v)) (let e : suc n + m ≡ suc (n + m) = omega arith in e) ∙ drop-digits n m v

take-digits : (n m v : ℕ) → take n (digits (n + m) v) ≡ digits n (v / 2 ^ m)
take-digits zero m v = refl
take-digits (suc n) m v =
    let e : suc n + m ≡ suc (n + m) = omega arith in
    let power : 2 ^ (n + m) ≡ 2 ^ m * 2 ^ n = pow-add 2 n m ∙ omega arith in
    let high : v / 2 ^ (n + m) ≡ v / 2 ^ m / 2 ^ n = ap (λ p. v / p) power ∙ sym (div-div-eq-div-mul v (2 ^ m) (2 ^ n)) in
    ap (λ k. take (suc n) (digits k v)) e ∙ rw (high, take-digits n m v) refl

number_of-mod : (n v : ℕ) → number_of (digits n v) ≡ v % 2 ^ n
number_of-mod n v = fold-digits n v 0 ∙ omega arith

-- some digits amid others
amid : (n width v : ℕ) (rest : List Bool) → n + width ≤ 24 → number_of (take width (drop n (digits 24 v ++ rest))) ≡ v / 2 ^ (24 - n - width) % 2 ^ width
amid n width v rest le =
    let m = 24 - n - width in
    let whole : 24 ≡ n + (width + m) = omega arith in
    let within : n ≤ length (digits 24 v) = omega (arith, length-digits 24 v) in
    let size : width ≤ length (digits (width + m) v) = omega (arith, length-digits (width + m) v) in
    ap (λ l. number_of (take width l)) (drop-append-le n (digits 24 v) rest within)
    ∙ (ap (λ k. number_of (take width (drop n (digits k v) ++ rest))) whole
    ∙ (ap (λ l. number_of (take width (l ++ rest))) (drop-digits n (width + m) v)
    ∙ (ap number_of (take-append-le width (digits (width + m) v) rest size)
    ∙ (ap number_of (take-digits width m v) ∙ number_of-mod width (v / 2 ^ m)))))

-- three bytes are 24 digits
three_digits : (a b c : ℕ) (rest : List Bool) → a < 2 ^ 8 → b < 2 ^ 8 → c < 2 ^ 8 →
    digits 8 a ++ (digits 8 b ++ (digits 8 c ++ rest)) ≡ digits 24 ((a * 2 ^ 8 + b) * 2 ^ 8 + c) ++ rest
three_digits a b c rest la lb lc =
    let two = digits-append 8 8 a b la lb in
    let three : digits 24 ((a * 2 ^ 8 + b) * 2 ^ 8 + c) ≡ digits 16 (a * 2 ^ 8 + b) ++ digits 8 c = digits-append 16 8 (a * 2 ^ 8 + b) c (joined-lt 8 8 a b la lb) lc in
    sym (ap (λ l. l ++ rest) three ∙ (append_assoc (digits 16 (a * 2 ^ 8 + b)) (digits 8 c) rest
    ∙ (ap (λ l. l ++ (digits 8 c ++ rest)) two ∙ append_assoc (digits 8 a) (digits 8 b) (digits 8 c ++ rest))))

-- three bytes from a place on
three_bytes : (bs : List ℕ) (i : ℕ) → i + 2 < length bs → drop i bs ≡ get_or bs i 0 ∷ get_or bs (i + 1) 0 ∷ get_or bs (i + 2) 0 ∷ drop (i + 3) bs
three_bytes bs i lt =
    let one : suc i ≡ i + 1 = omega arith in
    let two : suc (i + 1) ≡ i + 2 = omega arith in
    let three : suc (i + 2) ≡ i + 3 = omega arith in
    drop-cons bs i 0 (omega arith)
    ∙ ap (λ l. get_or bs i 0 ∷ l) (ap (λ n. drop n bs) one ∙ (drop-cons bs (i + 1) 0 (omega arith)
    ∙ ap (λ l. get_or bs (i + 1) 0 ∷ l) (ap (λ n. drop n bs) two ∙ (drop-cons bs (i + 2) 0 lt
    ∙ ap (λ n. get_or bs (i + 2) 0 ∷ drop n bs) three))))

-- past the bytes stand zeros
with_zeros-at : (bytes : List ℕ) (i : ℕ) → get_or (with_zeros bytes) i 0 ≡ get_or bytes i 0
with_zeros-at [] zero = refl
with_zeros-at [] (suc zero) = refl
with_zeros-at [] (suc (suc zero)) = refl
with_zeros-at [] (suc (suc (suc i))) = refl
with_zeros-at (b ∷ bytes) zero = refl
with_zeros-at (b ∷ bytes) (suc i) = with_zeros-at bytes i

pub bits_ahead_is : (bytes : List ℕ) (at width : ℕ) → at ≤ 8 * length bytes → width ≤ 16 →
    get_or bytes (at / 8) 0 < 2 ^ 8 → get_or bytes (at / 8 + 1) 0 < 2 ^ 8 → get_or bytes (at / 8 + 2) 0 < 2 ^ 8 →
    ((get_or bytes (at / 8) 0 * 2 ^ 8 + get_or bytes (at / 8 + 1) 0) * 2 ^ 8 + get_or bytes (at / 8 + 2) 0) / 2 ^ (24 - at % 8 - width) % 2 ^ width
    ≡ number_of (take width (drop at (bits_of (with_zeros bytes))))
bits_ahead_is bytes at width within le la lb lc =
    let bs = with_zeros bytes in
    let i = at / 8 in
    let place : at ≡ 8 * i + at % 8 = omega arith in
    let size : length bs ≡ length bytes + 3 = length-append bytes (0 ∷ 0 ∷ 0 ∷ []) in
    let inside : i + 2 < length bs = omega arith in
    let a = get_or bytes i 0 in
    let b = get_or bytes (i + 1) 0 in
    let c = get_or bytes (i + 2) 0 in
    let three : drop i bs ≡ a ∷ b ∷ c ∷ drop (i + 3) bs = three_bytes bs i inside ∙ (ap (λ x. x ∷ get_or bs (i + 1) 0 ∷ get_or bs (i + 2) 0 ∷ drop (i + 3) bs) (with_zeros-at bytes i)
    ∙ (ap (λ x. a ∷ x ∷ get_or bs (i + 2) 0 ∷ drop (i + 3) bs) (with_zeros-at bytes (i + 1)) ∙ ap (λ x. a ∷ b ∷ x ∷ drop (i + 3) bs) (with_zeros-at bytes (i + 2)))) in
    let bits : drop at (bits_of bs) ≡ drop (at % 8) (digits 24 ((a * 2 ^ 8 + b) * 2 ^ 8 + c) ++ bits_of (drop (i + 3) bs)) =
    ap (λ n. drop n (bits_of bs)) place ∙ (drop-bits_of bs i (at % 8) ∙ (ap (λ l. drop (at % 8) (bits_of l)) three
    ∙ ap (drop (at % 8)) (three_digits a b c (bits_of (drop (i + 3) bs)) la lb lc))) in
    sym (ap (λ l. number_of (take width l)) bits ∙ amid (at % 8) width ((a * 2 ^ 8 + b) * 2 ^ 8 + c) (bits_of (drop (i + 3) bs)) (omega arith))
