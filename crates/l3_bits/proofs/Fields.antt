-- Fields of numbers and of bytes: numbers cut into fields, and fields put into numbers and bytes.
use Rattle.std.proofs.Common.{◌≡◌, ℕ, zero, suc, ◌+◌, ◌-◌, ◌*◌, ◌/◌, ◌%◌, ◌^◌, ◌<◌, ◌≤◌, eqb, Bool}
use Rattle.std.proofs.Common.{List, [], ◌∷◌, ◌++◌, length, take, drop, ap, sym, ◌∙◌, arith, subst}
use Rattle.std.proofs.Common.{append_assoc, mul_comm}
use Rattle.std.proofs.Common.{w32}
use Rattle.std.specs.Prelude.{fold}
use Rattle.std.specs.Int.{to_be_bytes}
use Rattle.std.proofs.Math.Nat.{div-div-eq-div-mul, mod-eq_of_lt, mul-le-mul_right}
use Rattle.std.proofs.Math.Seq.{take-add}
use Rattle.std.proofs.lemmas.Nat.{pow-add, pow_pos, div-mul-add, mod-mul-add, mod_below, div_below}
use Rattle.std.proofs.lemmas.Nat.{div-add-mod'}
use Rattle.std.proofs.lemmas.List.{take_at, drop_at, drop-drop, length-drop, length-take-le}
use Rattle.std.proofs.lemmas.List.{length-append}
use Rattle.std.proofs.lemmas.List.Sums.{fold-append}
use Rattle.l3_bits.specs.Bits.{digits, bits_of, number_of}
use Rattle.l3_bits.proofs.Numbers.{joined, fold-digits, fold-from, digits-fold}
use Rattle.l3_bits.proofs.Places.{length-digits}

-- the digits of a number: those of its front, and then its last ones
pub digits-add : (m n v : ℕ) → digits (m + n) v ≡ digits m (v / 2 ^ n) ++ digits n v
digits-add zero n v = let none : 0 + n ≡ n = omega arith in ap (λ k. digits k v) none
digits-add (suc m) n v =
    let next : suc m + n ≡ suc (m + n) = omega arith in
    let front : v / 2 ^ n / 2 ^ m ≡ v / 2 ^ (m + n) =
    div-div-eq-div-mul v (2 ^ n) (2 ^ m)
    ∙ ap (λ d. v / d) (mul_comm (2 ^ n) (2 ^ m) ∙ sym (pow-add 2 m n)) in
    ap (λ k. digits k v) next
    ∙ (ap (λ q. eqb (q % 2) 1 ∷ digits (m + n) v) (sym front)
    ∙ ap (λ l. eqb (v / 2 ^ n / 2 ^ m % 2) 1 ∷ l) (digits-add m n v))

-- digits are those of the remainder
pub digits-mod : (n v : ℕ) → digits n (v % 2 ^ n) ≡ digits n v
digits-mod n v =
    let low : number_of (digits n v) ≡ v % 2 ^ n = fold-digits n v 0 ∙ omega arith in
    ap (digits n) (sym low)
    ∙ (ap (λ m. digits m (number_of (digits n v))) (sym (length-digits n v))
    ∙ digits-fold (digits n v) 0)

pub number_of-digits_mod : (n v : ℕ) → number_of (digits n v) ≡ v % 2 ^ n
number_of-digits_mod n v = fold-digits n v 0 ∙ omega arith

-- three fields of a number
three_fields : (f w s v : ℕ) →
    digits (f + (w + s)) v ≡ digits f (v / 2 ^ (w + s)) ++ (digits w (v / 2 ^ s) ++ digits s v)
three_fields f w s v =
    digits-add f (w + s) v ∙ ap (λ l. digits f (v / 2 ^ (w + s)) ++ l) (digits-add w s v)

pub middle : (f w s v : ℕ) → take w (drop f (digits (f + (w + s)) v)) ≡ digits w (v / 2 ^ s)
middle f w s v =
    ap (λ l. take w (drop f l)) (three_fields f w s v)
    ∙ (ap (take w) (drop_at (digits f (v / 2 ^ (w + s))) (digits w (v / 2 ^ s) ++ digits s v) f
    (length-digits f (v / 2 ^ (w + s))))
    ∙ take_at (digits w (v / 2 ^ s)) (digits s v) w (length-digits w (v / 2 ^ s)))

front : (f w s v : ℕ) → take f (digits (f + (w + s)) v) ≡ digits f (v / 2 ^ (w + s))
front f w s v =
    ap (take f) (digits-add f (w + s) v)
    ∙ take_at (digits f (v / 2 ^ (w + s))) (digits (w + s) v) f (length-digits f (v / 2 ^ (w + s)))

back : (f w s v : ℕ) → drop (f + w) (digits (f + (w + s)) v) ≡ digits s v
back f w s v =
    let regrouped : f + (w + s) ≡ f + w + s = omega arith in
    ap (λ n. drop (f + w) (digits n v)) regrouped
    ∙ (ap (drop (f + w)) (digits-add (f + w) s v)
    ∙ drop_at (digits (f + w) (v / 2 ^ s)) (digits s v) (f + w) (length-digits (f + w) (v / 2 ^ s)))

-- the field of a number by a quotient and a remainder
pub field-is : (size f w v : ℕ) → f + w ≤ size →
    take w (drop f (digits size v)) ≡ digits w (v / 2 ^ (size - f - w))
field-is size f w v within =
    let whole : size ≡ f + (w + (size - f - w)) = omega arith in
    ap (λ n. take w (drop f (digits n v))) whole ∙ middle f w (size - f - w) v

-- three fields put together
placed : (f w s h m l : ℕ) → m < 2 ^ w → l < 2 ^ s →
    digits (f + (w + s)) ((h * 2 ^ w + m) * 2 ^ s + l) ≡ digits f h ++ (digits w m ++ digits s l)
placed f w s h m l below small =
    let whole = (h * 2 ^ w + m) * 2 ^ s + l in
    let upper : whole / 2 ^ s ≡ h * 2 ^ w + m = div-mul-add (h * 2 ^ w + m) (2 ^ s) l small in
    let first : whole / 2 ^ (w + s) ≡ h =
    ap (λ d. whole / d) (pow-add 2 w s ∙ mul_comm (2 ^ w) (2 ^ s))
    ∙ (sym (div-div-eq-div-mul whole (2 ^ s) (2 ^ w))
    ∙ (ap (λ q. q / 2 ^ w) upper ∙ div-mul-add h (2 ^ w) m below)) in
    let second : digits w (whole / 2 ^ s) ≡ digits w m =
    ap (digits w) upper ∙ (sym (digits-mod w (h * 2 ^ w + m))
    ∙ ap (digits w) (mod-mul-add h (2 ^ w) m below)) in
    let third : digits s whole ≡ digits s l =
    sym (digits-mod s whole) ∙ ap (digits s) (mod-mul-add (h * 2 ^ w + m) (2 ^ s) l small) in
    three_fields f w s whole
    ∙ (ap (λ q. digits f q ++ (digits w (whole / 2 ^ s) ++ digits s whole)) first
    ∙ (ap (λ d. digits f h ++ (d ++ digits s whole)) second
    ∙ ap (λ d. digits f h ++ (digits w m ++ d)) third))

-- one field of a number replaced
replaced : (f w s v x : ℕ) →
    digits (f + (w + s)) (v - v % 2 ^ (w + s) + x % 2 ^ w * 2 ^ s + v % 2 ^ s)
    ≡ take f (digits (f + (w + s)) v) ++ digits w x ++ drop (f + w) (digits (f + (w + s)) v)
replaced f w s v x =
    let h = v / 2 ^ (w + s) in
    let above : v - v % 2 ^ (w + s) ≡ h * (2 ^ w * 2 ^ s) =
    whole_part v (2 ^ (w + s)) ∙ ap (λ p. h * p) (pow-add 2 w s) in
    let sum : v - v % 2 ^ (w + s) + x % 2 ^ w * 2 ^ s + v % 2 ^ s
    ≡ (h * 2 ^ w + x % 2 ^ w) * 2 ^ s + v % 2 ^ s =
    ap (λ n. n + x % 2 ^ w * 2 ^ s + v % 2 ^ s) above
    ∙ gathered h (2 ^ w) (2 ^ s) (x % 2 ^ w) (v % 2 ^ s) in
    ap (digits (f + (w + s))) sum
    ∙ (placed f w s h (x % 2 ^ w) (v % 2 ^ s) (mod_below x (2 ^ w) (pow_pos w))
    (mod_below v (2 ^ s) (pow_pos s))
    ∙ (ap (λ d. digits f h ++ (d ++ digits s (v % 2 ^ s))) (digits-mod w x)
    ∙ (ap (λ d. digits f h ++ (digits w x ++ d)) (digits-mod s v ∙ sym (back f w s v))
    ∙ (ap (λ d. d ++ (digits w x ++ drop (f + w) (digits (f + (w + s)) v))) (sym (front f w s v))
    ∙ sym (append_assoc (take f (digits (f + (w + s)) v)) (digits w x)
    (drop (f + w) (digits (f + (w + s)) v)))))))
  where
    whole_part : (v p : ℕ) → v - v % p ≡ v / p * p
    whole_part v p = omega (arith, div-add-mod' v p)

    gathered : (h a b m l : ℕ) → h * (a * b) + m * b + l ≡ (h * a + m) * b + l
    gathered h a b m l = omega arith

-- the same by its powers, as numbers of their own
pub with_field-is : (size f w v x above unit end : ℕ) → f + w ≤ size →
    above ≡ 2 ^ (size - f) → unit ≡ 2 ^ w → end ≡ 2 ^ (size - f - w) →
    digits size (v - v % above + x % unit * end + v % end)
    ≡ take f (digits size v) ++ digits w x ++ drop (f + w) (digits size v)
with_field-is size f w v x above unit end within a u e =
    let s = size - f - w in
    let whole : f + (w + s) ≡ size = omega arith in
    let over : size - f ≡ w + s = omega arith in
    let P : ℕ → Type 0 = λ n. digits n (v - v % above + x % unit * end + v % end)
    ≡ take f (digits n v) ++ digits w x ++ drop (f + w) (digits n v) in
    subst P whole (ap (digits (f + (w + s)))
    (ap (λ p. v - v % p + x % unit * end + v % end) (a ∙ ap (λ n. 2 ^ n) over)
    ∙ (ap (λ p. v - v % 2 ^ (w + s) + x % p * end + v % end) u
    ∙ ap (λ p. v - v % 2 ^ (w + s) + x % 2 ^ w * p + v % p) e))
    ∙ replaced f w s v x)

-- what is put together stays below
pub joined-below : (a b h l : ℕ) → h < 2 ^ a → l < 2 ^ b → h * 2 ^ b + l < 2 ^ (a + b)
joined-below a b h l high low =
    let next : suc h * 2 ^ b ≤ 2 ^ a * 2 ^ b = mul-le-mul_right (2 ^ b) high in
    rw (pow-add 2 a b) (omega (arith, next, low))

-- the number with a field replaced stays below
pub with_field-below : (size f w v x above unit end : ℕ) → f + w ≤ size → v < 2 ^ size →
    above ≡ 2 ^ (size - f) → unit ≡ 2 ^ w → end ≡ 2 ^ (size - f - w) →
    v - v % above + x % unit * end + v % end < 2 ^ size
with_field-below size f w v x above unit end within small a u e =
    let s = size - f - w in
    let whole : f + (w + s) ≡ size = omega arith in
    let over : size - f ≡ w + s = omega arith in
    let front : v / 2 ^ (w + s) < 2 ^ f = div_below v (2 ^ (w + s)) (2 ^ f) (pow_pos (w + s))
    (rw (← pow-add 2 f (w + s)) (rw whole small)) in
    let tail = joined-below w s (x % 2 ^ w) (v % 2 ^ s) (mod_below x (2 ^ w) (pow_pos w))
    (mod_below v (2 ^ s) (pow_pos s)) in
    let all = joined-below f (w + s) (v / 2 ^ (w + s)) (x % 2 ^ w * 2 ^ s + v % 2 ^ s) front tail in
    let same : v - v % above + x % unit * end + v % end
    ≡ v / 2 ^ (w + s) * 2 ^ (w + s) + (x % 2 ^ w * 2 ^ s + v % 2 ^ s) =
    ap (λ p. v - v % p + x % unit * end + v % end) (a ∙ ap (λ n. 2 ^ n) over)
    ∙ (ap (λ p. v - v % 2 ^ (w + s) + x % p * end + v % end) u
    ∙ (ap (λ p. v - v % 2 ^ (w + s) + x % 2 ^ w * p + v % p) e
    ∙ omega (arith, div-add-mod' v (2 ^ (w + s))))) in
    let most = subst (λ n. v / 2 ^ (w + s) * 2 ^ (w + s) + (x % 2 ^ w * 2 ^ s + v % 2 ^ s) < 2 ^ n)
    whole all in
    subst (λ n. n < 2 ^ size) (sym same) most

-- one number after another, as digits
pub number_of-append : (xs ys : List Bool) →
    number_of (xs ++ ys) ≡ number_of xs * 2 ^ length ys + number_of ys
number_of-append xs ys = fold-append joined 0 xs ys ∙ fold-from ys (number_of xs)

-- the four bytes of a number
pub bits_of_word : (n : ℕ) → bits_of (to_be_bytes w32 n) ≡ digits 32 n
bits_of_word n =
    let a = digits 8 (n / 2 ^ 24) in
    let b = digits 8 (n / 2 ^ 16) in
    let c = digits 8 (n / 2 ^ 8) in
    ap (λ l. l ++ (digits 8 (n / 2 ^ 16 % 2 ^ 8)
    ++ (digits 8 (n / 2 ^ 8 % 2 ^ 8) ++ digits 8 (n % 2 ^ 8)))) (digits-mod 8 (n / 2 ^ 24))
    ∙ (ap (λ l. a ++ (l ++ (digits 8 (n / 2 ^ 8 % 2 ^ 8) ++ digits 8 (n % 2 ^ 8))))
    (digits-mod 8 (n / 2 ^ 16))
    ∙ (ap (λ l. a ++ (b ++ (l ++ digits 8 (n % 2 ^ 8)))) (digits-mod 8 (n / 2 ^ 8))
    ∙ (ap (λ l. a ++ (b ++ (c ++ l))) (digits-mod 8 n)
    ∙ sym (digits-add 8 24 n
    ∙ ap (λ l. a ++ l) (digits-add 8 16 n ∙ ap (λ l. b ++ l) (digits-add 8 8 n))))))

-- four bytes as a number
pub word_of_bytes : (a b c d n : ℕ) → a < 256 → b < 256 → c < 256 → d < 256 →
    n ≡ a * 16777216 + b * 65536 + c * 256 + d → digits 32 n ≡ bits_of (a ∷ b ∷ c ∷ d ∷ [])
word_of_bytes a b c d n a_small b_small c_small d_small is =
    let bits = bits_of (a ∷ b ∷ c ∷ d ∷ []) in
    let front = (0 * 256 + a) * 256 + b in
    let sum : (front * 256 + c) * 256 + d ≡ n = omega arith in
    let whole : number_of bits ≡ n =
    byte_more a (b ∷ c ∷ d ∷ []) 0 a_small
    ∙ (byte_more b (c ∷ d ∷ []) (0 * 256 + a) b_small
    ∙ (byte_more c (d ∷ []) front c_small ∙ (byte_more d [] (front * 256 + c) d_small ∙ sum))) in
    ap (digits 32) (sym whole) ∙ digits-fold bits 0
  where
    byte_more : (byte : ℕ) (bytes : List ℕ) (n : ℕ) → byte < 256 →
        fold joined n (bits_of (byte ∷ bytes)) ≡ fold joined (n * 256 + byte) (bits_of bytes)
    byte_more byte bytes n small =
        fold-append joined n (digits 8 byte) (bits_of bytes)
        ∙ ap (λ m. fold joined m (bits_of bytes)) (fold-digits 8 byte n
        ∙ omega (arith, mod-eq_of_lt small))

-- what was read and what is read next
pub read_more : (bits : List Bool) (at k c value part unit : ℕ) → at + (k + c) ≤ length bits →
    value ≡ number_of (take k (drop at bits)) → part ≡ number_of (take c (drop (at + k) bits)) →
    unit ≡ 2 ^ c →
    value * unit + part ≡ number_of (take (k + c) (drop at bits))
read_more bits at k c value part unit within is next u =
    let found = take c (drop k (drop at bits)) in
    let long : length found ≡ c =
    length-take-le c (drop k (drop at bits))
    (omega (arith, length-drop k (drop at bits), length-drop at bits)) in
    let same : part ≡ number_of found =
    next ∙ ap (λ l. number_of (take c l)) (sym (drop-drop k at bits)) in
    ap (λ n. n * unit + part) is
    ∙ (ap (λ p. number_of (take k (drop at bits)) * p + part) (u ∙ ap (λ n. 2 ^ n) (sym long))
    ∙ (ap (λ n. number_of (take k (drop at bits)) * 2 ^ length found + n) same
    ∙ (sym (number_of-append (take k (drop at bits)) found)
    ∙ ap number_of (sym (take-add k c (drop at bits))))))

-- what was written and what is written next
pub write_more : (old now new : List Bool) (at k c n v : ℕ) → at + n ≤ length old → k + c ≤ n →
    now ≡ take at old ++ take k (digits n v) ++ drop (at + k) old →
    new ≡ take (at + k) now ++ digits c (v / 2 ^ (n - k - c)) ++ drop (at + k + c) now →
    new ≡ take at old ++ take (k + c) (digits n v) ++ drop (at + (k + c)) old
write_more old now new at k c n v within below is next =
    let done = take at old ++ take k (digits n v) in
    let part = digits c (v / 2 ^ (n - k - c)) in
    let long : length done ≡ at + k =
    omega (
      arith,
      length-append (take at old) (take k (digits n v)),
      length-take-le at old (omega arith),
      length-take-le k (digits n v) (omega (arith, length-digits n v)),
    ) in
    let place : at + k + c ≡ at + (k + c) = omega arith in
    let before : take (at + k) now ≡ done =
    ap (take (at + k)) is ∙ take_at done (drop (at + k) old) (at + k) long in
    let behind : drop (at + k + c) now ≡ drop (at + (k + c)) old =
    sym (drop-drop c (at + k) now)
    ∙ (ap (λ l. drop c (drop (at + k) l)) is
    ∙ (ap (drop c) (drop_at done (drop (at + k) old) (at + k) long)
    ∙ (drop-drop c (at + k) old ∙ ap (λ m. drop m old) place))) in
    let digit : take (k + c) (digits n v) ≡ take k (digits n v) ++ part =
    take-add k c (digits n v) ∙ ap (λ l. take k (digits n v) ++ l) (field-is n k c v below) in
    next
    ∙ (ap (λ l. l ++ part ++ drop (at + k + c) now) before
    ∙ (ap (λ l. done ++ part ++ l) behind
    ∙ (ap (λ l. l ++ drop (at + (k + c)) old) (append_assoc (take at old) (take k (digits n v)) part
    ∙ ap (λ l. take at old ++ l) (sym digit)))))
