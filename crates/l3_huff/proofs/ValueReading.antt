-- Linbits and sign in front of bits.
use Rattle.std.proofs.Common.{◌≡◌, ℕ, ◌+◌, ◌-◌, ◌*◌, ◌<◌, ◌≤◌, Bool, List, length, take, drop, Option, Some, None, refl, ap, ◌∙◌, arith}
use Rattle.std.specs.Prelude.{ℤ, IfSome, IfNone}
use Rattle.std.proofs.lemmas.Bool.{le-ltb, lt-ltb, ne_eqb}
use Rattle.l3_bits.specs.Bits.{bits_of, number_of}
use Rattle.l3_huff.specs.Tables.{IsTable, linbits_of, width_of}
use Rattle.l3_huff.specs.Reading.{sign_at, tail_at}
use Rattle.l3_huff.specs.Words.{GoesOn, between, with_zeros}
use Rattle.l3_huff.proofs.Shapes.{shape_of}
use Rattle.l3_huff.proofs.Betweens.{drop-between, length-between, bits_ahead-front}

tail_at-small : (table entry : ℕ) (bits : List Bool) → entry < 15 → tail_at table entry bits ≡ sign_at entry bits
unfolding tail_at
tail_at-small table entry bits small = rw (ne_eqb entry 15 (λ same. absurd (omega (arith, same)))) refl

tail_at-large : (table l k : ℕ) (bits : List Bool) → l ≡ linbits_of table → l ≤ length bits → k ≡ number_of (take l bits) → tail_at table 15 bits ≡ sign_at (15 + k) (drop l bits)
unfolding tail_at
tail_at-large table l k bits is le value = rw (← is, le-ltb (length bits) l le, value) refl

tail_at-cut : (table l : ℕ) (bits : List Bool) → l ≡ linbits_of table → length bits < l → tail_at table 15 bits ≡ None
unfolding tail_at
tail_at-cut table l bits is lt = rw (← is, lt-ltb (length bits) l lt) refl

-- a row or a column that is 15 or more is 15
pub last_entry : (table entry : ℕ) → IsTable table → entry < width_of table → 15 ≤ entry → entry ≡ 15
last_entry table entry is lt large =
    let wide = (shape_of table is).wide in
    omega arith

-- an entry below 15 has a sign alone
pub small-found : (o : Option (ℤ × ℕ)) (table entry : ℕ) (bytes : List ℕ) (at end : ℕ) → entry < 15 →
    IfSome o (λ r. GoesOn (sign_at entry) bytes at end r.0 r.1) → IfSome o (λ r. GoesOn (tail_at table entry) bytes at end r.0 r.1)
small-found None table entry bytes at end small h = h
small-found (Some r) table entry bytes at end small h = record {
  forward = h.forward;
  within = h.within;
  given = tail_at-small table entry (between bytes at end) small ∙ h.given;
}

pub small-none : (o : Option (ℤ × ℕ)) (table entry : ℕ) (bytes : List ℕ) (at end : ℕ) → entry < 15 →
    IfNone o (sign_at entry (between bytes at end) ≡ None) → IfNone o (tail_at table entry (between bytes at end) ≡ None)
small-none None table entry bytes at end small h = tail_at-small table entry (between bytes at end) small ∙ h
small-none (Some r) table entry bytes at end small h = h

pub large-cut : (table entry l : ℕ) (bytes : List ℕ) (at end : ℕ) → at ≤ end → end ≤ 8 * length bytes → entry ≡ 15 → l ≡ linbits_of table → end - at < l →
    tail_at table entry (between bytes at end) ≡ None
large-cut table entry l bytes at end order within last is short =
    ap (λ e. tail_at table e (between bytes at end)) last ∙ tail_at-cut table l (between bytes at end) is (omega (arith, short, length-between bytes at end order within))

-- an entry of 15 has linbits before its sign
module _ (table entry l k : ℕ) (bytes : List ℕ) (at end : ℕ) (order : at ≤ end) (within : end ≤ 8 * length bytes) (last : entry ≡ 15) (is : l ≡ linbits_of table) (room : l ≤ end - at)
    (value : k ≡ number_of (take l (drop at (bits_of (with_zeros bytes))))) where
  tail_is : tail_at table entry (between bytes at end) ≡ sign_at (15 + k) (between bytes (at + l) end)
  tail_is =
      let size : l ≤ length (between bytes at end) = omega (arith, length-between bytes at end order within) in
      ap (λ e. tail_at table e (between bytes at end)) last
      ∙ (tail_at-large table l k (between bytes at end) is size (value ∙ ap number_of (bits_ahead-front bytes at end l order within room))
      ∙ ap (sign_at (15 + k)) (drop-between bytes at end l room))

  pub large-found : (o : Option (ℤ × ℕ)) → IfSome o (λ r. GoesOn (sign_at (15 + k)) bytes (at + l) end r.0 r.1) → IfSome o (λ r. GoesOn (tail_at table entry) bytes at end r.0 r.1)
  large-found None h = h
  large-found (Some r) h =
      let forward = h.forward in
      record { forward = omega arith; within = h.within; given = tail_is ∙ h.given }

  pub large-none : (o : Option (ℤ × ℕ)) → IfNone o (sign_at (15 + k) (between bytes (at + l) end) ≡ None) → IfNone o (tail_at table entry (between bytes at end) ≡ None)
  large-none None h = tail_is ∙ h
  large-none (Some r) h = h
