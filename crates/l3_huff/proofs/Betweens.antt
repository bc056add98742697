-- The bits between two places, and the code in front of them.
use Rattle.std.proofs.Common.{◌≡◌, ℕ, ◌+◌, ◌-◌, ◌*◌, ◌<◌, ◌≤◌, Bool, true, List, [], ◌∷◌, ◌++◌, length, get_or, take, drop, Option, Some, None, refl, sym, ap, ◌∙◌, arith, length-append, length-drop, append_assoc}
use Rattle.std.proofs.lemmas.List.{take-append-le, drop-append-le, drop-drop, drop-take, take-append-drop, length-take-le, take_at}
use Rattle.std.proofs.lemmas.Option.{same_Some}
use Rattle.l3_bits.proofs.Bytes.{bits_of-append}
use Rattle.l3_bits.specs.Bits.{bits_of, digits, number_of}
use Rattle.l3_bits.proofs.Numbers.{digits-fold}
use Rattle.l3_bits.proofs.Places.{length-bits_of}
use Rattle.l3_huff.specs.Facts.{Begins}
use Rattle.l3_huff.specs.Reading.{entry_at}
use Rattle.l3_huff.specs.Words.{GoesOn, between, with_zeros}
use Rattle.l3_huff.proofs.Entries.{all_apart, entry_again, entry_takes}

pub length-between : (bytes : List ℕ) (at end : ℕ) → at ≤ end → end ≤ 8 * length bytes → length (between bytes at end) ≡ end - at
length-between bytes at end order within = length-take-le (end - at) (drop at (bits_of bytes)) (omega (arith, length-drop at (bits_of bytes), length-bits_of bytes))

-- going on by some bits
pub drop-between : (bytes : List ℕ) (at end n : ℕ) → n ≤ end - at → drop n (between bytes at end) ≡ between bytes (at + n) end
drop-between bytes at end n le =
    let whole : end - at ≡ n + (end - at - n) = omega arith in
    let rest : end - at - n ≡ end - (at + n) = omega arith in
    ap (λ m. drop n (take m (drop at (bits_of bytes)))) whole
    ∙ (drop-take n (end - at - n) (drop at (bits_of bytes))
    ∙ (ap (λ m. take m (drop n (drop at (bits_of bytes)))) rest ∙ ap (take (end - (at + n))) (drop-drop n at (bits_of bytes))))

-- the bits from a place on begin with those up to the end
pub bits_from : (bytes : List ℕ) (at end : ℕ) → at ≤ 8 * length bytes → (more : List Bool) × (drop at (bits_of (with_zeros bytes)) ≡ between bytes at end ++ more)
bits_from bytes at end within =
    let zeros = bits_of (0 ∷ 0 ∷ 0 ∷ []) in
    let rest = drop at (bits_of bytes) in
    let inside : at ≤ length (bits_of bytes) = omega (arith, length-bits_of bytes) in (
      drop (end - at) rest ++ zeros,
      ap (drop at) (bits_of-append bytes (0 ∷ 0 ∷ 0 ∷ []))
          ∙ (drop-append-le at (bits_of bytes) zeros inside
          ∙ (ap (λ l. l ++ zeros) (sym (take-append-drop (end - at) rest)) ∙ append_assoc (take (end - at) rest) (drop (end - at) rest) zeros)),
    )

-- bits ahead of a place that are within the bits are their front
pub bits_ahead-front : (bytes : List ℕ) (at end width : ℕ) → at ≤ end → end ≤ 8 * length bytes → width ≤ end - at →
    take width (drop at (bits_of (with_zeros bytes))) ≡ take width (between bytes at end)
bits_ahead-front bytes at end width order within le =
    let a = bits_from bytes at end (omega arith) in
    ap (take width) a.1 ∙ take-append-le width (between bytes at end) a.0 (omega (arith, length-between bytes at end order within))

-- ---- the code in front of the bits ahead

-- the bits ahead are in front of longer bits, and a code in front of them
pub record IsAhead (codes : List (List Bool)) (i width ahead : ℕ) (bits longer more : List Bool) : Type 0 where
  pub free : all_apart codes ≡ true
  pub place : i < length codes
  pub whole : longer ≡ bits ++ more
  pub wide : width ≤ length longer
  pub value : ahead ≡ number_of (take width longer)
  pub begins : Begins (get_or codes i []) (digits width ahead)

module _ (codes : List (List Bool)) (i width ahead : ℕ) (bits longer more : List Bool) (is : IsAhead codes i width ahead bits longer more) where
  code : List Bool
  code = get_or codes i []

  front_bits : take width longer ≡ get_or codes i [] ++ is.begins.0
  front_bits =
      let size : length (take width longer) ≡ width = length-take-le width longer is.wide in
      let same : digits width ahead ≡ take width longer = ap (λ w. digits width w) is.value ∙ (ap (λ n. digits n (number_of (take width longer))) (sym size) ∙ digits-fold (take width longer) 0) in
      sym same ∙ is.begins.1

  -- the code is no longer than the bits ahead
  code_fits : length (get_or codes i []) ≤ width
  code_fits =
      let size : length (take width longer) ≡ width = length-take-le width longer is.wide in
      omega (arith, size, ap length front_bits, length-append (get_or codes i []) is.begins.0)

  -- longer bits begin with the code
  longer_is : longer ≡ get_or codes i [] ++ (is.begins.0 ++ drop width longer)
  longer_is = sym (take-append-drop width longer) ∙ (ap (λ l. l ++ drop width longer) front_bits ∙ append_assoc (get_or codes i []) is.begins.0 (drop width longer))

  -- where the code is whole within the bits, it is the one found
  pub found : length (get_or codes i []) ≤ length bits → entry_at codes bits ≡ Some (i, drop (length (get_or codes i [])) bits)
  found le =
      let c = get_or codes i [] in
      let front : take (length c) bits ≡ c =
      sym (take-append-le (length c) bits more le) ∙ (ap (take (length c)) (sym is.whole ∙ longer_is) ∙ take_at c (is.begins.0 ++ drop width longer) (length c) refl) in
      let text : bits ≡ c ++ drop (length c) bits = sym (take-append-drop (length c) bits) ∙ ap (λ l. l ++ drop (length c) bits) front in
      ap (entry_at codes) text ∙ entry_again codes i (drop (length c) bits) is.free is.place

  -- where it isn't, no code is
  pub not_found : length bits < length (get_or codes i []) → entry_at codes bits ≡ None
  not_found short = other (entry_at codes bits) refl
    where
      other : (o : Option (ℕ × List Bool)) → entry_at codes bits ≡ o → o ≡ None
      other None e = refl
      other (Some x) e =
          let entry = entry_takes codes bits x e in
          let d = get_or codes x.0 [] in
          let text : longer ≡ d ++ (x.1 ++ more) = is.whole ∙ (ap (λ l. l ++ more) entry.text ∙ append_assoc d x.1 more) in
          let one : ℕ × List Bool = (i, is.begins.0 ++ drop width longer) in
          let two : ℕ × List Bool = (x.0, x.1 ++ more) in
          let same : one ≡ two = same_Some one two (sym (entry_again codes i (is.begins.0 ++ drop width longer) is.free is.place)
          ∙ (ap (entry_at codes) (sym longer_is ∙ text) ∙ entry_again codes x.0 (x.1 ++ more) is.free entry.within)) in
          let places : i ≡ x.0 = ap (λ p. p.0) same in
          let sizes : length (get_or codes i []) ≡ length d = ap (λ k. length (get_or codes k [])) places in
          absurd (omega (arith, sizes, short, ap length entry.text, length-append d x.1))

-- ---- what a reader answers

pub is_ahead : (codes : List (List Bool)) (i width ahead : ℕ) (bytes : List ℕ) (at end : ℕ) → all_apart codes ≡ true → i < length codes → (within : at ≤ 8 * length bytes) → width ≤ 16 →
    ahead ≡ number_of (take width (drop at (bits_of (with_zeros bytes)))) → Begins (get_or codes i []) (digits width ahead) →
    IsAhead codes i width ahead (between bytes at end) (drop at (bits_of (with_zeros bytes))) (bits_from bytes at end within).0
is_ahead codes i width ahead bytes at end free place within wide value begins = record {
  free = free;
  place = place;
  whole = (bits_from bytes at end within).1;
  wide = omega (arith, length-drop at (bits_of (with_zeros bytes)), length-bits_of (with_zeros bytes), length-append bytes (0 ∷ 0 ∷ 0 ∷ []));
  value = value;
  begins = begins;
}

pub goes_on : (codes : List (List Bool)) (i n : ℕ) (bytes : List ℕ) (at end : ℕ) → at ≤ end → n ≤ end - at → n ≡ length (get_or codes i []) →
    entry_at codes (between bytes at end) ≡ Some (i, drop (length (get_or codes i [])) (between bytes at end)) → GoesOn (entry_at codes) bytes at end i (at + n)
goes_on codes i n bytes at end order room size e = record {
  forward = omega arith;
  within = omega arith;
  given = let make : List Bool → Option (ℕ × List Bool) = λ l. Some (i, l) in
      e ∙ (ap (λ m. make (drop m (between bytes at end))) (sym size) ∙ ap make (drop-between bytes at end n room));
}
