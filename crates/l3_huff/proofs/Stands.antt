-- What reading found or did not find, said of the bytes.
use Rattle.std.proofs.Common.{◌≡◌, ℕ, ◌+◌, ◌-◌, ◌*◌, ◌/◌, ◌%◌, ◌<◌, ◌≤◌, Bool, List, [], ◌∷◌, ◌++◌, length, take, drop, Some, None, refl, sym, ap, ◌∙◌, arith, length-append}
use Rattle.std.specs.Prelude.{ℤ}
use Rattle.std.proofs.lemmas.List.{take-take, take-append-drop, take_at}
use Rattle.std.proofs.lemmas.Nat.{div-mul-add, mod-mul-add}
use Rattle.l3_bits.specs.Bits.{bits_of}
use Rattle.l3_huff.specs.declared.quads.QuadTable.{QuadTable}
use Rattle.l3_huff.specs.Tables.{IsTable, codes_of, quad_codes, width_of}
use Rattle.l3_huff.specs.Codes.{pair_code_of, quad_code_of}
use Rattle.l3_huff.specs.Reading.{entry_at, pair_at, quad_at, sign_at, signs_at, tail_at}
use Rattle.l3_huff.specs.Standing.{PairStands, QuadStands}
use Rattle.l3_huff.specs.Words.{between}
use Rattle.l3_huff.proofs.PairLaws.{pair_takes, pair_again}
use Rattle.l3_huff.proofs.QuadLaws.{quad_takes, quad_again}
use Rattle.l3_huff.proofs.Betweens.{drop-between, length-between}

take-between : (bytes : List ℕ) (at end n : ℕ) → n ≤ end - at → take n (between bytes at end) ≡ take n (drop at (bits_of bytes))
take-between bytes at end n le = take-take n (end - at) (drop at (bits_of bytes)) le

-- a code that stands at a place is in front of the bits there
in_front : (bytes : List ℕ) (at end next : ℕ) (code : List Bool) → next ≡ at + length code → next ≤ end → take (next - at) (drop at (bits_of bytes)) ≡ code →
    between bytes at end ≡ code ++ between bytes next end
in_front bytes at end next code after whole is =
    let n = length code in
    let room : n ≤ end - at = omega (arith, after, whole) in
    let size : n ≡ next - at = omega (arith, after) in
    sym (take-append-drop n (between bytes at end))
    ∙ (ap (λ l. l ++ drop n (between bytes at end)) (take-between bytes at end n room ∙ (ap (λ m. take m (drop at (bits_of bytes))) size ∙ is))
    ∙ ap (λ l. code ++ l) (drop-between bytes at end n room ∙ ap (λ m. between bytes m end) (sym after)))

-- and a code in front of the bits stands at the place
record StandsAt (bytes : List ℕ) (at next : ℕ) (code : List Bool) : Type 0 where
  after : next ≡ at + length code
  is : take (next - at) (drop at (bits_of bytes)) ≡ code

stands_at : (bytes : List ℕ) (at end next : ℕ) (code : List Bool) → at ≤ next → next ≤ end → end ≤ 8 * length bytes → between bytes at end ≡ code ++ between bytes next end → StandsAt bytes at next code
stands_at bytes at end next code forward whole within text =
    let after : next ≡ at + length code = omega (arith, forward, whole, ap length text, length-append code (between bytes next end), length-between bytes at end (omega (arith, forward, whole)) within, length-between bytes next end whole within) in
    let n = next - at in
    let size : length code ≡ n = omega (arith, after) in
    record {
      after = after;
      is = sym (take-between bytes at end n (omega (arith, forward, whole))) ∙ (ap (take n) text ∙ take_at code (between bytes next end) n size);
    }

-- ---- pairs

pub pair_stands : (table : ℕ) (bytes : List ℕ) (at end : ℕ) (x y : ℤ) (next : ℕ) → IsTable table → at ≤ next → next ≤ end → end ≤ 8 * length bytes →
    pair_at table (between bytes at end) ≡ Some ((x, y), between bytes next end) → PairStands table bytes at end x y next
pair_stands table bytes at end x y next is forward whole within found =
    let taken = pair_takes table (between bytes at end) ((x, y), between bytes next end) is found in
    let stands = stands_at bytes at end next (pair_code_of table x y) forward whole within taken.1 in
    record { holds_x = taken.0.0; holds_y = taken.0.1; after = stands.after; whole = whole; code = stands.is }

pub pair_none : (table : ℕ) (bytes : List ℕ) (at end : ℕ) → pair_at table (between bytes at end) ≡ None → (x y : ℤ) (next : ℕ) → PairStands table bytes at end x y next → ⊥
pair_none table bytes at end none x y next stands =
    let text = in_front bytes at end next (pair_code_of table x y) stands.after stands.whole stands.code in
    let found : pair_at table (between bytes at end) ≡ Some ((x, y), between bytes next end) = ap (pair_at table) text ∙ pair_again table x y (between bytes next end) (stands.holds_x, stands.holds_y) in
    cc

pub pair_at-no_entry : (table : ℕ) (bits : List Bool) → entry_at (codes_of table) bits ≡ None → pair_at table bits ≡ None
unfolding pair_at
pair_at-no_entry table bits none = rw none refl

module _ (table row column : ℕ) (bits first : List Bool) (lt : column < width_of table) (entry : entry_at (codes_of table) bits ≡ Some (row * width_of table + column, first)) where
  pub pair_at-no_x : tail_at table row first ≡ None → pair_at table bits ≡ None
  unfolding pair_at
  pair_at-no_x none = rw (entry, div-mul-add row (width_of table) column lt, none) refl

  pub pair_at-no_y : (x : ℤ) (second : List Bool) → tail_at table row first ≡ Some (x, second) → tail_at table column second ≡ None → pair_at table bits ≡ None
  unfolding pair_at
  pair_at-no_y x second is none = rw (entry, div-mul-add row (width_of table) column lt, is, mod-mul-add row (width_of table) column lt, none) refl

  pub pair_at-some : (x y : ℤ) (second rest : List Bool) → tail_at table row first ≡ Some (x, second) → tail_at table column second ≡ Some (y, rest) → pair_at table bits ≡ Some ((x, y), rest)
  unfolding pair_at
  pair_at-some x y second rest is is' = rw (entry, div-mul-add row (width_of table) column lt, is, mod-mul-add row (width_of table) column lt, is') refl

-- ---- quadruples

pub quad_stands : (table : QuadTable) (bytes : List ℕ) (at end : ℕ) (quad : List ℤ) (next : ℕ) → at ≤ next → next ≤ end → end ≤ 8 * length bytes →
    quad_at table (between bytes at end) ≡ Some (quad, between bytes next end) → QuadStands table bytes at end quad next
quad_stands table bytes at end quad next forward whole within found =
    let taken = quad_takes table (between bytes at end) (quad, between bytes next end) found in
    let stands = stands_at bytes at end next (quad_code_of table quad) forward whole within taken.1 in
    record { values = taken.0; after = stands.after; whole = whole; code = stands.is }

pub quad_none : (table : QuadTable) (bytes : List ℕ) (at end : ℕ) → quad_at table (between bytes at end) ≡ None → (quad : List ℤ) (next : ℕ) → QuadStands table bytes at end quad next → ⊥
quad_none table bytes at end none quad next stands =
    let text = in_front bytes at end next (quad_code_of table quad) stands.after stands.whole stands.code in
    let found : quad_at table (between bytes at end) ≡ Some (quad, between bytes next end) = ap (quad_at table) text ∙ quad_again table quad (between bytes next end) stands.values in
    cc

pub quad_at-no_index : (table : QuadTable) (bits : List Bool) → entry_at (quad_codes table) bits ≡ None → quad_at table bits ≡ None
unfolding quad_at
quad_at-no_index table bits none = rw none refl

module _ (table : QuadTable) (index : ℕ) (bits b0 : List Bool) (entry : entry_at (quad_codes table) bits ≡ Some (index, b0)) where
  pub quad_at-no_v : sign_at (index / 8) b0 ≡ None → quad_at table bits ≡ None
  unfolding quad_at signs_at
  quad_at-no_v none = rw (entry, none) refl

  pub quad_at-no_w : (v : ℤ) (b1 : List Bool) → sign_at (index / 8) b0 ≡ Some (v, b1) → sign_at (index / 4 % 2) b1 ≡ None → quad_at table bits ≡ None
  unfolding quad_at signs_at
  quad_at-no_w v b1 is-v none = rw (entry, is-v, none) refl

  pub quad_at-no_x : (v w : ℤ) (b1 b2 : List Bool) → sign_at (index / 8) b0 ≡ Some (v, b1) → sign_at (index / 4 % 2) b1 ≡ Some (w, b2) → sign_at (index / 2 % 2) b2 ≡ None → quad_at table bits ≡ None
  unfolding quad_at signs_at
  quad_at-no_x v w b1 b2 is-v is-w none = rw (entry, is-v, is-w, none) refl

  pub quad_at-no_y : (v w x : ℤ) (b1 b2 b3 : List Bool) → sign_at (index / 8) b0 ≡ Some (v, b1) → sign_at (index / 4 % 2) b1 ≡ Some (w, b2) → sign_at (index / 2 % 2) b2 ≡ Some (x, b3) → sign_at (index % 2) b3 ≡ None → quad_at table bits ≡ None
  unfolding quad_at signs_at
  quad_at-no_y v w x b1 b2 b3 is-v is-w is-x none = rw (entry, is-v, is-w, is-x, none) refl

  pub quad_at-some : (v w x y : ℤ) (b1 b2 b3 b4 : List Bool) → sign_at (index / 8) b0 ≡ Some (v, b1) → sign_at (index / 4 % 2) b1 ≡ Some (w, b2) → sign_at (index / 2 % 2) b2 ≡ Some (x, b3) → sign_at (index % 2) b3 ≡ Some (y, b4) → quad_at table bits ≡ Some (v ∷ w ∷ x ∷ y ∷ [], b4)
  unfolding quad_at signs_at
  quad_at-some v w x y b1 b2 b3 b4 is-v is-w is-x is-y = rw (entry, is-v, is-w, is-x, is-y) refl
