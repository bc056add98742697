-- Linbits and sign, written and read.
use Rattle.std.proofs.Common.{◌≡◌, ℕ, zero, suc, ◌+◌, ◌-◌, ◌^◌, ◌<◌, ◌≤◌, Bool, true, false, cond, ltb, List, [], ◌∷◌, ◌++◌, length, take, drop, Option, Some, None, refl, sym, ap, subst, ◌∙◌, arith, inl, inr, append_assoc, length-append}
use Rattle.std.specs.Prelude.{ℤ, pos, negsuc, min, unsigned_abs}
use Rattle.std.proofs.lemmas.Bool.{cases_lt, ltb-false, le-ltb, le-leb, lt-leb, ne_eqb}
use Rattle.std.proofs.lemmas.Option.{same_Some}
use Rattle.std.proofs.lemmas.List.{take_at, drop_at, take-append-drop, length-take-le}
use Rattle.std.proofs.Math.Pow.{pow_pos}
use Rattle.l3_bits.specs.Bits.{digits, number_of}
use Rattle.l3_bits.proofs.Numbers.{digits-fold, number_of-below}
use Rattle.l3_bits.proofs.Places.{length-digits}
use Rattle.l3_bits.proofs.Bytes.{number_of-digits}
use Rattle.l3_huff.specs.Tables.{Holds, IsTable, greatest_of, linbits_of, width_of}
use Rattle.l3_huff.specs.Codes.{linbits_code, sign_code, tail_code}
use Rattle.l3_huff.specs.Reading.{sign_at, tail_at}
use Rattle.l3_huff.proofs.Shapes.{shape_of}

-- ---- signs

abbrev pub IsSigned : ℕ → List Bool → ℤ × List Bool → Type 0
IsSigned n bits x = (unsigned_abs x.0 ≡ n) × (bits ≡ sign_code x.0 ++ x.1)

pub sign_takes : (n : ℕ) (bits : List Bool) (x : ℤ × List Bool) → sign_at n bits ≡ Some x → IsSigned n bits x
unfolding sign_at sign_code
sign_takes zero bits x e = subst (IsSigned 0 bits) (same_Some (pos zero, bits) x e) (refl, refl)
sign_takes (suc n) [] x e = absurd cc
sign_takes (suc n) (false ∷ bits) x e = subst (IsSigned (suc n) (false ∷ bits)) (same_Some (pos (suc n), bits) x e) (refl, refl)
sign_takes (suc n) (true ∷ bits) x e = subst (IsSigned (suc n) (true ∷ bits)) (same_Some (negsuc n, bits) x e) (refl, refl)

pub sign_own : (x : ℤ) (rest : List Bool) → sign_at (unsigned_abs x) (sign_code x ++ rest) ≡ Some (x, rest)
unfolding sign_at sign_code
sign_own (pos zero) rest = refl
sign_own (pos (suc n)) rest = refl
sign_own (negsuc n) rest = refl

pub length-sign_code : (x : ℤ) → length (sign_code x) ≡ min (unsigned_abs x) 1
unfolding sign_code
length-sign_code (pos zero) = refl
length-sign_code (pos (suc n)) = omega arith
length-sign_code (negsuc n) = omega arith

-- ---- which values have linbits

-- a value that a table holds has a row, and linbits only where the table is the widest
pub row-lt : (table n : ℕ) → Holds table n → min n 15 < width_of table
unfolding greatest_of
row-lt table n holds =
    let shape = shape_of table holds.0 in
    let some = shape.some in
    let le = holds.1 in
    elim shape.last as (λ _. min n 15 < width_of table) [
      | inl full ↦ omega (arith, full)
      | inr none ↦ let le' : n ≤ width_of table - 1 + (2 ^ 0 - 1) = subst (λ l. n ≤ width_of table - 1 + (2 ^ l - 1)) none le in omega (arith, le')
    ]

pub linbits-lt : (table n : ℕ) → Holds table n → 15 ≤ n → n - 15 < 2 ^ linbits_of table
unfolding greatest_of
linbits-lt table n holds large =
    let shape = shape_of table holds.0 in
    let wide = shape.wide in
    let le = holds.1 in
    let some : 0 < 2 ^ linbits_of table = pow_pos (linbits_of table) in
    omega arith

small_holds : (table n : ℕ) → IsTable table → n < width_of table → n ≤ greatest_of table
unfolding greatest_of
small_holds table n is lt = omega arith

linbits_hold : (table k : ℕ) → IsTable table → 15 < width_of table → k < 2 ^ linbits_of table → 15 + k ≤ greatest_of table
unfolding greatest_of
linbits_hold table k is wide lt = omega arith

tail-large : (table : ℕ) (x : ℤ) → 15 ≤ unsigned_abs x → tail_code table x ≡ digits (linbits_of table) (unsigned_abs x - 15) ++ sign_code x
unfolding tail_code linbits_code
tail-large table x large = rw (le-leb 15 (unsigned_abs x) large) refl

tail-small : (table : ℕ) (x : ℤ) → unsigned_abs x < 15 → tail_code table x ≡ sign_code x
unfolding tail_code linbits_code
tail-small table x small = rw (lt-leb 15 (unsigned_abs x) small) refl

-- ---- reading

-- what was read is a value of this row or column, its tail in front of the bits
pub record IsTail (table entry : ℕ) (bits : List Bool) (x : ℤ × List Bool) : Type 0 where
  pub held : Holds table (unsigned_abs x.0)
  pub is : min (unsigned_abs x.0) 15 ≡ entry
  pub text : bits ≡ tail_code table x.0 ++ x.1

guard_some : {A : Type 0} (b : Bool) (o : Option A) (x : A) → cond b None o ≡ Some x → (b ≡ false) × (o ≡ Some x)
guard_some true o x e = absurd cc
guard_some false o x e = (refl, e)

takes_small : (table entry : ℕ) (bits : List Bool) (x : ℤ × List Bool) → IsTable table → entry < width_of table → entry < 15 → tail_at table entry bits ≡ Some x → IsTail table entry bits x
unfolding tail_at
takes_small table entry bits x is lt small e =
    let found : sign_at entry bits ≡ Some x = rw (ne_eqb entry 15 (λ same. absurd (omega (arith, same)))) at e in
    let s = sign_takes entry bits x found in
    let size : unsigned_abs x.0 ≡ entry = s.0 in
    let below : unsigned_abs x.0 < 15 = omega arith in
    record {
      held = (is, small_holds table (unsigned_abs x.0) is (omega arith));
      is = omega arith;
      text = s.1 ∙ ap (λ l. l ++ x.1) (sym (tail-small table x.0 below));
    }

takes_large : (table : ℕ) (bits : List Bool) (x : ℤ × List Bool) → IsTable table → 15 < width_of table → tail_at table 15 bits ≡ Some x → IsTail table 15 bits x
unfolding tail_at
takes_large table bits x is lt e =
    let l = linbits_of table in
    let g = guard_some (ltb (length bits) l) (sign_at (15 + number_of (take l bits)) (drop l bits)) x e in
    let size : length (take l bits) ≡ l = length-take-le l bits (ltb-false _ _ g.0) in
    let k = number_of (take l bits) in
    let small : k < 2 ^ l = subst (λ (n : ℕ). k < 2 ^ n) size (number_of-below (take l bits)) in
    let s = sign_takes (15 + k) (drop l bits) x g.1 in
    let n = unsigned_abs x.0 in
    let value : n ≡ 15 + k = s.0 in
    let large : 15 ≤ n = omega arith in
    let above : n - 15 ≡ k = omega arith in
    let written : digits l (n - 15) ≡ take l bits = ap (digits l) above ∙ (ap (λ m. digits m k) (sym size) ∙ digits-fold (take l bits) 0) in
    record {
      held = (is, rw value (linbits_hold table k is lt small));
      is = omega arith;
      text = sym (take-append-drop l bits) ∙ (ap (λ f. f ++ drop l bits) (sym written) ∙ (ap (λ f. digits l (n - 15) ++ f) s.1
          ∙ (sym (append_assoc (digits l (n - 15)) (sign_code x.0) x.1) ∙ ap (λ f. f ++ x.1) (sym (tail-large table x.0 large)))));
    }

pub tail_takes : (table entry : ℕ) (bits : List Bool) (x : ℤ × List Bool) → IsTable table → entry < width_of table → tail_at table entry bits ≡ Some x → IsTail table entry bits x
tail_takes table entry bits x is lt e =
    elim (cases_lt entry 15) as (λ _. IsTail table entry bits x) [
      | inl small ↦ takes_small table entry bits x is lt small e
      | inr large ↦
          let wide = (shape_of table is).wide in
          let last : 15 ≡ entry = omega arith in
          let P : ℕ → Type 0 = λ a. IsTail table a bits x in
          subst P last (takes_large table bits x is (omega arith) (ap (λ a. tail_at table a bits) last ∙ e))
    ]

again_small : (table : ℕ) (x : ℤ) (rest : List Bool) → unsigned_abs x < 15 → tail_at table (min (unsigned_abs x) 15) (tail_code table x ++ rest) ≡ Some (x, rest)
unfolding tail_at
again_small table x rest small =
    let row : min (unsigned_abs x) 15 ≡ unsigned_abs x = omega arith in
    ap (λ l. tail_at table (min (unsigned_abs x) 15) (l ++ rest)) (tail-small table x small)
    ∙ (ap (λ a. tail_at table a (sign_code x ++ rest)) row
    ∙ rw (ne_eqb (unsigned_abs x) 15 (λ same. absurd (omega (arith, same)))) (sign_own x rest))

again_large : (table : ℕ) (x : ℤ) (rest : List Bool) → Holds table (unsigned_abs x) → 15 ≤ unsigned_abs x → tail_at table (min (unsigned_abs x) 15) (tail_code table x ++ rest) ≡ Some (x, rest)
unfolding tail_at
again_large table x rest holds large =
    let n = unsigned_abs x in
    let l = linbits_of table in
    let row : min n 15 ≡ 15 = omega arith in
    let small : n - 15 < 2 ^ l = linbits-lt table n holds large in
    let written = digits l (n - 15) in
    let after_it = sign_code x ++ rest in
    let size : length written ≡ l = length-digits l (n - 15) in
    let text : tail_code table x ++ rest ≡ written ++ after_it = ap (λ f. f ++ rest) (tail-large table x large) ∙ append_assoc written (sign_code x) rest in
    let long : ltb (length (written ++ after_it)) l ≡ false = le-ltb _ _ (omega (arith, length-append written after_it, size)) in
    let again : 15 + number_of (take l (written ++ after_it)) ≡ n = ap (λ f. 15 + number_of f) (take_at written after_it l size) ∙ (ap (λ k. 15 + k) (number_of-digits l (n - 15) small) ∙ omega arith) in
    ap (tail_at table (min n 15)) text
    ∙ (ap (λ a. tail_at table a (written ++ after_it)) row
    ∙ rw (long, again, drop_at written after_it l size) (sign_own x rest))

pub tail_again : (table : ℕ) (x : ℤ) (rest : List Bool) → Holds table (unsigned_abs x) → tail_at table (min (unsigned_abs x) 15) (tail_code table x ++ rest) ≡ Some (x, rest)
tail_again table x rest holds =
    elim (cases_lt (unsigned_abs x) 15) as (λ _. tail_at table (min (unsigned_abs x) 15) (tail_code table x ++ rest) ≡ Some (x, rest)) [
      | inl small ↦ again_small table x rest small
      | inr large ↦ again_large table x rest holds large
    ]
