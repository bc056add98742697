-- The header of a frame, compared with the right one, and the header of the first.
use Rattle.std.proofs.Common.{◌≡◌, ℕ, eqb, true, false, Bool, List, length, take, drop, Option, Some, None, refl, sym, ap, ◌∙◌, arith, inl, inr}
use Rattle.std.proofs.lemmas.Bool.{cases_Bool, eq-eqb, eqb-true}
use Rattle.std.proofs.lemmas.List.{take_all}
use Rattle.l3_bits.specs.Bits.{bits_of, digits, number_of}
use Rattle.l3_bits.proofs.Numbers.{digits-fold}
use Rattle.l3_bits.proofs.Places.{length-bits_of}
use Rattle.l3_base.specs.declared.settings.Settings.{Settings}
use Rattle.l3_base.specs.Header.{header_bits}
use Rattle.l3_stream.specs.Fields.{same}
use Rattle.l3_stream.specs.Header.{header_at, header_from, settings_at}
use Rattle.l3_stream.proofs.Fields.{same_is, same_again}
use Rattle.l3_stream.proofs.Header.{header-length, headers_are_there, headers_are_found}

same_by_number : (a b : List Bool) → length a ≡ length b → number_of a ≡ number_of b → a ≡ b
same_by_number a b size e = sym (digits-fold a 0) ∙ (ap (λ n. digits n (number_of a)) size
    ∙ (ap (digits (length b)) e ∙ digits-fold b 0))

numbers_tell : (a b : List Bool) (is : Bool) → same a b ≡ is → length a ≡ length b
    → eqb (number_of a) (number_of b) ≡ is
numbers_tell a b true e size = eq-eqb _ _ (ap number_of (same_is a b e))
numbers_tell a b false e size =
    elim (cases_Bool (eqb (number_of a) (number_of b))) as (λ _. eqb (number_of a) (number_of b)
    ≡ false) [
      | inl equal ↦
          let one : a ≡ b = same_by_number a b size (eqb-true (number_of a) (number_of b) equal) in
          let again : same a b ≡ true = ap (same a) (sym one) ∙ same_again a in
          absurd cc
      | inr other ↦ other
    ]

pub header_told : (h w : List ℕ) (x y : ℕ) (st : Settings) (n : ℕ) → length h ≡ 4 → bits_of w
    ≡ header_at st n → x ≡ number_of (take 32 (drop 0 (bits_of h)))
    → y ≡ number_of (take 32 (drop 0 (bits_of w)))
    → eqb x y ≡ same (bits_of h) (header_at st n)
header_told h w x y st n four is ex ey =
    let size : length (bits_of h) ≡ 32 = omega (arith, length-bits_of h) in
    let size' : length (bits_of w) ≡ 32 = ap length is ∙ header-length st n in
    let a : x ≡ number_of (bits_of h) = ex ∙ ap number_of (take_all 32 (bits_of h) (omega arith)) in
    let b : y ≡ number_of (bits_of w) = ey ∙ ap number_of (take_all 32 (bits_of w) (omega arith)) in
    ap (λ k. eqb k y) a ∙ (ap (eqb (number_of (bits_of h))) b
    ∙ (numbers_tell (bits_of h) (bits_of w) (same (bits_of h) (bits_of w)) refl
    (size ∙ sym size') ∙ ap (same (bits_of h)) is))

-- ---- the first header

none_of : {X : Type 0} (o : Option X) → ((x : X) → o ≡ Some x → ⊥) → o ≡ None
none_of None never = refl
none_of (Some x) never = absurd (never x refl)

first_padding : (st : Settings) → header_at st 0 ≡ header_bits st false false false
unfolding header_at
first_padding st = refl

unpadded : (bits : List Bool) (st : Settings) → settings_at bits ≡ Some st → header_from bits ≡ Some
    (st, false)
unpadded bits st e =
    let is : bits ≡ header_bits st false false false = (headers_are_there bits).of_first st e
    ∙ first_padding st in
    ap header_from is ∙ (headers_are_found st).of_any false

pub first_none : (bits : List Bool) → header_from bits ≡ None → settings_at bits ≡ None
first_none bits e = none_of (settings_at bits) (λ st is. let h = unpadded bits st is in absurd cc)

flags_apart : (a b : Settings × Bool) → a ≡ b → a.1 ≡ true → b.1 ≡ false → ⊥
flags_apart a b e x y = let bad : true ≡ false = sym x ∙ (ap (λ p. p.1) e ∙ y) in absurd cc

same_pair : (a b : Settings × Bool) (o : Option (Settings × Bool)) → o ≡ Some a → o ≡ Some b → a ≡ b
same_pair a b o e h = cc

pub first_padded : (bits : List Bool) (st : Settings) (padded : Bool) → padded ≡ true
    → header_from bits ≡ Some (st, padded) → settings_at bits ≡ None
first_padded bits st padded is e = none_of (settings_at bits) (λ other h. flags_apart (st, padded)
    (other, false) (same_pair (st, padded) (other, false) (header_from bits) e
    (unpadded bits other h)) is refl)

pub first_found : (bits : List Bool) (st : Settings) (padded : Bool) → padded ≡ false
    → header_from bits ≡ Some (st, padded) → settings_at bits ≡ Some st
first_found bits st padded is e =
    let text : bits ≡ header_at st 0 = (headers_are_there bits).of_any st padded e
    ∙ (ap (λ b. header_bits st b false false) is ∙ sym (first_padding st)) in
    ap settings_at text ∙ (headers_are_found st).of_first
