-- The lines of a unit: those of pairs, those of quadruples, and zeros.
use Rattle.std.proofs.Common.{◌≡◌, ℕ, ◌+◌, ◌-◌, ◌*◌, ◌/◌, ◌≤◌, List, [], ◌++◌, length, take, drop, replicate, sym, ap, ◌∙◌, arith}
use Rattle.std.specs.Prelude.{ℤ, pos}
use Rattle.std.proofs.lemmas.List.{drop-replicate, length-replicate, take_at, drop_at, take_all, take-append-drop, length-take-le, append-nil}
use borrow.Rule.Slice.PartMut.{put_mid, mid_of, post_of}
use Rattle.l3_stream.specs.declared.unit.Unit.{Unit}
use Rattle.l3_stream.specs.Units.{zero_lines}
use Rattle.l3_stream.specs.SideReading.{stripped}
use Rattle.l3_stream.specs.UnitReading.{with_lines}
use Rattle.l3_stream.specs.FieldReading.{IsBare}

pub zeros-length : (n : ℕ) → length (zero_lines n) ≡ n
unfolding zero_lines
zeros-length n = length-replicate n (pos 0)

zeros-drop : (m n : ℕ) → drop m (zero_lines n) ≡ zero_lines (n - m)
unfolding zero_lines
zeros-drop m n = drop-replicate m n (pos 0)

pub bare_lines : (u : Unit) → IsBare u → u.lines ≡ zero_lines 576
unfolding stripped
bare_lines u bare = sym (ap (λ v. v.lines) bare)

pub bare_size : (u : Unit) → IsBare u → length u.lines ≡ 576
bare_size u bare = ap length (bare_lines u bare) ∙ zeros-length 576

-- zeros are zeros of their own number
pub own_zeros : (lines : List ℤ) (n : ℕ) → lines ≡ zero_lines n → lines ≡ zero_lines (length lines)
own_zeros lines n e = e ∙ ap zero_lines (sym (ap length e ∙ zeros-length n))

no_lines : (n : ℕ) → n ≡ 0 → zero_lines n ≡ []
unfolding zero_lines
no_lines n none = ap (λ k. replicate k (pos 0)) none

module _ (lines pairs : List ℤ) (n : ℕ) (size : length pairs ≡ n) (within : n ≤ 576)
    (are : lines ≡ zero_lines 576) where
  behind : drop n lines ≡ zero_lines (576 - n)
  behind = ap (drop n) are ∙ zeros-drop n 576

  -- the lines behind the pairs
  pub behind_pairs : mid_of n (576 - n) (pairs ++ post_of 0 n lines) ≡ zero_lines (576 - n)
  behind_pairs =
      let rest : drop n (pairs ++ drop n lines) ≡ zero_lines (576 - n) = drop_at pairs
      (drop n lines) n size ∙ behind in
      ap (take (576 - n)) rest ∙ take_all (576 - n) (zero_lines (576 - n))
      (omega (arith, zeros-length (576 - n)))

  pub all_lines : (quads : List ℤ) (count : ℕ) → length quads ≡ 576 - n → 4 * count ≤ 576 - n
      → drop (4 * count) quads ≡ zero_lines (576 - n - 4 * count)
      → put_mid n (576 - n) (pairs ++ post_of 0 n lines) quads ≡ pairs ++
      (take (4 * count) quads ++ zero_lines
      (576 - (length pairs + length (take (4 * count) quads))))
  all_lines quads count room few past =
      let four : length (take (4 * count) quads) ≡ 4 * count = length-take-le (4 * count) quads
      (omega arith) in
      let left : 576 - n - 4 * count ≡ 576 -
      (length pairs + length (take (4 * count) quads)) = omega arith in
      let nothing : drop (576 - n) (drop n (pairs ++ drop n lines)) ≡ [] =
      ap (drop (576 - n)) (drop_at pairs (drop n lines) n size ∙ behind)
      ∙ (zeros-drop (576 - n) (576 - n) ∙ no_lines (576 - n - (576 - n)) (omega arith)) in
      ap (λ l. l ++ (quads ++ drop (576 - n) (drop n (pairs ++ drop n lines))))
      (take_at pairs (drop n lines) n size)
      ∙ ap (λ l. pairs ++ l) (ap (λ l. quads ++ l) nothing
      ∙ (append-nil quads ∙ (sym (take-append-drop (4 * count) quads)
      ∙ ap (λ l. take (4 * count) quads ++ l) (past ∙ ap zero_lines left))))

abbrev made : Unit → ℕ → List ℤ → Unit
made u k l = record u { quads = k; lines = l }

-- the unit with these lines
pub unit_with : (u : Unit) (pairs quads all : List ℤ) (count : ℕ) → length quads ≡ 4 * count
    → all ≡ pairs ++ (quads ++ zero_lines (576 - (length pairs + length quads)))
    → with_lines u pairs quads ≡ record u { quads = count; lines = all }
unfolding with_lines
unit_with u pairs quads all count four is =
    let n : length quads / 4 ≡ count = omega arith in
    ap (λ k. made u k (pairs ++ (quads ++ zero_lines (576 - (length pairs + length quads))))) n
    ∙ ap (λ l. made u count l) (sym is)
