-- A code that stands at a place is the one that reading finds there, and where none stands none is
-- found.
use Rattle.std.proofs.Common.{◌≡◌, ℕ, ◌+◌, ◌-◌, ◌*◌, ◌≤◌, Bool, List, ◌++◌, length, take, drop, Option, Some, None, refl, sym, ap, ◌∙◌, arith, length-append}
use Rattle.std.specs.Prelude.{ℤ, slice_range}
use Rattle.std.proofs.lemmas.List.{take-take, take-append-drop, drop_at}
use Rattle.l3_bits.specs.Bits.{bits_of}
use Rattle.l3_huff.specs.declared.quads.QuadTable.{QuadTable}
use Rattle.l3_huff.specs.Tables.{IsTable}
use Rattle.l3_huff.specs.Codes.{pair_code_of, quad_code_of}
use Rattle.l3_huff.specs.Reading.{pair_at, quad_at}
use Rattle.l3_huff.specs.Standing.{PairStands, QuadStands}
use Rattle.l3_huff.specs.Words.{between}
use Rattle.l3_huff.proofs.PairLaws.{pair_takes, pair_again}
use Rattle.l3_huff.proofs.QuadLaws.{quad_takes, quad_again}
use Rattle.l3_huff.proofs.Betweens.{drop-between, length-between}
use Rattle.l3_huff.proofs.Stands.{pair_stands, quad_stands}

-- a code that stands at a place is in front of the bits there
pub in_front : (bytes : List ℕ) (at end next : ℕ) (code : List Bool) → next ≡ at + length code
    → next ≤ end → slice_range (bits_of bytes) at next ≡ code →
    between bytes at end ≡ code ++ between bytes next end
in_front bytes at end next code after whole is =
    let n = length code in
    let room : n ≤ end - at = omega (arith, after, whole) in
    let size : n ≡ next - at = omega (arith, after) in
    sym (take-append-drop n (between bytes at end))
    ∙ (ap (λ l. l ++ drop n (between bytes at end))
    (take-take n (end - at) (drop at (bits_of bytes)) room
    ∙ (ap (λ m. take m (drop at (bits_of bytes))) size ∙ is))
    ∙ ap (λ l. code ++ l) (drop-between bytes at end n room ∙ ap (λ m. between bytes m end)
    (sym after)))

-- what is behind a code in front of the bits
record IsBehind (bytes : List ℕ) (at end next : ℕ) (rest : List Bool) : Type 0 where
  whole : next ≤ end
  is : rest ≡ between bytes next end

behind : (bytes : List ℕ) (at end : ℕ) (code rest : List Bool) → at ≤ end → end ≤ 8 * length bytes
    → between bytes at end ≡ code ++ rest → IsBehind bytes at end (at + length code) rest
behind bytes at end code rest order within text =
    let size : length code + length rest ≡ end - at = omega (
      arith,
      ap length text,
      length-append code rest,
      length-between bytes at end order within,
    ) in
    record {
      whole = omega (arith, size, order);
      is = sym (drop_at code rest (length code) refl) ∙ (ap (drop (length code)) (sym text)
          ∙ drop-between bytes at end (length code) (omega (arith, size)));
    }

pub pair_found : (table : ℕ) (bytes : List ℕ) (at end : ℕ) (x y : ℤ) (next : ℕ)
    → PairStands table bytes at end x y next → pair_at table (between bytes at end) ≡ Some (
      (x, y),
      between bytes next end,
    )
pair_found table bytes at end x y next stands =
    ap (pair_at table) (in_front bytes at end next (pair_code_of table x y) stands.after
    stands.whole stands.code) ∙ pair_again table x y (between bytes next end) (
      stands.holds_x,
      stands.holds_y,
    )

pair_none_of : (table : ℕ) (bytes : List ℕ) (at end : ℕ) (read : Option ((ℤ × ℤ) × List Bool))
    → pair_at table (between bytes at end) ≡ read → IsTable table → at ≤ end
    → end ≤ 8 * length bytes →
    ((x y : ℤ) (next : ℕ) → PairStands table bytes at end x y next → ⊥) → read ≡ None
pair_none_of table bytes at end None e is order within none = refl
pair_none_of table bytes at end (Some p) e is order within none =
    let taken = pair_takes table (between bytes at end) p is e in
    let code = pair_code_of table p.0.0 p.0.1 in
    let next = at + length code in
    let b = behind bytes at end code p.1 order within taken.1 in
    absurd (none p.0.0 p.0.1 next (pair_stands table bytes at end p.0.0 p.0.1 next is
    (omega arith) b.whole within (e ∙ ap (λ (l : List Bool). Some (p.0, l)) b.is)))

pub pair_not_found : (table : ℕ) (bytes : List ℕ) (at end : ℕ) → IsTable table → at ≤ end
    → end ≤ 8 * length bytes →
    ((x y : ℤ) (next : ℕ) → PairStands table bytes at end x y next → ⊥)
    → pair_at table (between bytes at end) ≡ None
pair_not_found table bytes at end is order within none = pair_none_of table bytes at end
    (pair_at table (between bytes at end)) refl is order within none

pub quad_found : (table : QuadTable) (bytes : List ℕ) (at end : ℕ) (quad : List ℤ) (next : ℕ)
    → QuadStands table bytes at end quad next → quad_at table (between bytes at end) ≡ Some
    (quad, between bytes next end)
quad_found table bytes at end quad next stands =
    ap (quad_at table) (in_front bytes at end next (quad_code_of table quad) stands.after
    stands.whole stands.code) ∙ quad_again table quad (between bytes next end) stands.values

quad_none_of : (table : QuadTable) (bytes : List ℕ) (at end : ℕ)
    (read : Option (List ℤ × List Bool)) → quad_at table (between bytes at end) ≡ read → at ≤ end
    → end ≤ 8 * length bytes →
    ((quad : List ℤ) (next : ℕ) → QuadStands table bytes at end quad next → ⊥) → read ≡ None
quad_none_of table bytes at end None e order within none = refl
quad_none_of table bytes at end (Some p) e order within none =
    let taken = quad_takes table (between bytes at end) p e in
    let code = quad_code_of table p.0 in
    let next = at + length code in
    let b = behind bytes at end code p.1 order within taken.1 in
    absurd (none p.0 next (quad_stands table bytes at end p.0 next (omega arith) b.whole within
    (e ∙ ap (λ (l : List Bool). Some (p.0, l)) b.is)))

pub quad_not_found : (table : QuadTable) (bytes : List ℕ) (at end : ℕ) → at ≤ end
    → end ≤ 8 * length bytes →
    ((quad : List ℤ) (next : ℕ) → QuadStands table bytes at end quad next → ⊥)
    → quad_at table (between bytes at end) ≡ None
quad_not_found table bytes at end order within none = quad_none_of table bytes at end
    (quad_at table (between bytes at end)) refl order within none
