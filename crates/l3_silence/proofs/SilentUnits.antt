-- The unit of lines that are 0 is blank, whatever its budget.
use Rattle.std.proofs.Common.{◌≡◌, refl, sym, ap, subst, ◌∙◌, ℕ, zero, suc, ◌+◌, List, [], ◌∷◌, replicate, map, get_or, arith}
use Rattle.std.specs.Prelude.{ℤ, pos, slice_range, unsigned_abs}
use Rattle.std.proofs.lemmas.List.{get_or-replicate, length-replicate}
use Rattle.l3_base.specs.Amp.{no_amp}
use Rattle.l3_base.specs.declared.settings.Settings.{Settings}
use Rattle.l3_quant.specs.Quantiser.{IsCodable, magnitude, quantised, quantised_lines, steps_of}
use Rattle.l3_quant.proofs.Codable.{magnitude_at-zero}
use Rattle.l3_huff.specs.declared.quads.QuadTable.{QuadTable}
use Rattle.l3_huff.specs.declared.quads.QuadTable.TheVariants.{A}
use Rattle.l3_region.specs.Split.{end_of_pairs, quad_values_of, split_of}
use Rattle.l3_region.specs.Regions.{cut, pair_bits_in, pair_for, quad_bits_in, quad_table_for, region_bits, regions_at, regions_cost, regions_of, table_for}
use Rattle.l3_region.proofs.Chosen.{grid, grid-at, grid-long, is_pair, pair_for-at}
use Rattle.l3_region.proofs.Fewest.{zero_bits, zero_table}
use Rattle.l3_region.proofs.Ranges.{All-slice}
use Rattle.l3_count.specs.Count.{counted}
use Rattle.l3_count.proofs.Counts.{count_of-some_at_one_gain}
use Rattle.l3_count.proofs.Tops.{zeros-bits, zeros-split}
use Rattle.l3_search.specs.Gain.{picked_gain}
use Rattle.l3_search.proofs.Fits.{picked_gain-is}
use Rattle.l3_stream.specs.declared.unit.Unit.{Unit}
use Rattle.l3_stream.specs.Units.{zero_lines}
use Rattle.l3_stream.specs.Frames.{blank}
use Rattle.l3_commit.specs.Units.{unit_of, unit_at_gain, unit_within}
use Rattle.l3_base.specs.Bands.{band_edges}
use Rattle.l3_silence.specs.Silent.{AreZero}

-- ---- the quantised values

replicated-zero : (n : ℕ) → AreZero (replicate n (pos 0))
replicated-zero n = λ k d lt. get_or-replicate n k (pos 0) d (omega (arith, lt, length-replicate n (pos 0)))

lines-zero : AreZero (zero_lines 576)
unfolding zero_lines
lines-zero = replicated-zero 576

magnitude-zero : magnitude (pos 0) (pos 0) ≡ 0
magnitude-zero = magnitude_at-zero (steps_of (pos 0))

quantised-zero : quantised (pos 0) (pos 0) ≡ pos 0
quantised-zero = ap (λ n. pos n) magnitude-zero

mapped-zero : (f : ℤ → ℤ) (n : ℕ) → f (pos 0) ≡ pos 0 → map f (replicate n (pos 0)) ≡ replicate n (pos 0)
mapped-zero f zero e = refl
mapped-zero f (suc n) e =
    let rest : map f (replicate n (pos 0)) ≡ replicate n (pos 0) = mapped-zero f n e in
    cc

quantised-lines : quantised_lines (pos 0) (zero_lines 576) ≡ zero_lines 576
unfolding zero_lines
quantised-lines = mapped-zero (quantised (pos 0)) 576 quantised-zero

codable-zero : IsCodable (quantised_lines (pos 0) (zero_lines 576))
codable-zero = subst IsCodable (sym quantised-lines) zeros
  where
    zeros : IsCodable (zero_lines 576)
    zeros = λ k d lt.
        let here : unsigned_abs (get_or (zero_lines 576) k d) ≡ 0 = ap unsigned_abs (lines-zero k d lt) in
        omega arith

-- ---- regions and tables

cost-zero : (edges : List ℕ) (q : List ℤ) (pair : ℕ × ℕ) → AreZero q → regions_cost edges q pair ≡ 0
unfolding regions_cost
cost-zero edges q pair zeros =
    let end = end_of_pairs q in
    let second = cut edges end (pair.0 + 1) in
    let third = cut edges end (pair.0 + pair.1 + 2) in
    omega (arith, bits-zero 0 second, bits-zero second third, bits-zero third end)
  where
    bits-zero : (a b : ℕ) → region_bits (slice_range q a b) ≡ 0
    bits-zero a b =
        let slice = All-slice (λ x. x ≡ pos 0) q a b zeros in
        ap (λ t. pair_bits_in t (slice_range q a b)) (zero_table (slice_range q a b) slice) ∙ zero_bits (slice_range q a b) slice

-- the first pair of regions is taken
pair-zero : (edges : List ℕ) (q : List ℤ) → AreZero q → pair_for edges q ≡ (0, 0)
pair-zero edges q zeros = pair_for-at edges q 0 (record {
  below = omega (arith, grid-long);
  allowed = ap is_pair (grid-at 0 (omega arith));
  least = λ j lt good. omega (arith, cost-zero edges q (get_or grid 0 (0, 0)) zeros);
  first = λ j lt. absurd (omega arith);
})

tables-zero : (edges : List ℕ) (q : List ℤ) (pair : ℕ × ℕ) → AreZero q → map table_for (regions_at edges q pair) ≡ 0 ∷ 0 ∷ 0 ∷ []
tables-zero edges q pair zeros =
    let end = end_of_pairs q in
    let second = cut edges end (pair.0 + 1) in
    let third = cut edges end (pair.0 + pair.1 + 2) in
    let first = table 0 second in
    let middle = table second third in
    let last = table third end in
    rw (first, middle, last) refl
  where
    table : (a b : ℕ) → table_for (slice_range q a b) ≡ 0
    table a b = zero_table (slice_range q a b) (All-slice (λ x. x ≡ pos 0) q a b zeros)

-- of no quadruples table A is taken
quad-zero : (q : List ℤ) → 0 ≡ (split_of q).big → 0 ≡ (split_of q).quads → quad_table_for (quad_values_of q) ≡ A
unfolding quad_table_for quad_bits_in
quad-zero q big quads = rw (← big, ← quads) refl

-- ---- the unit

blank-by : (bits big quads region0 region1 : ℕ) (tables : List ℕ) (quad : QuadTable) →
    bits ≡ 0 → big ≡ 0 → quads ≡ 0 → region0 ≡ 0 → region1 ≡ 0 → tables ≡ 0 ∷ 0 ∷ 0 ∷ [] → quad ≡ A →
    (let u : Unit = record { length = bits; big = big; quads = quads; gain = 0; region0 = region0; region1 = region1; tables = tables; quad = quad; lines = zero_lines 576 } in u ≡ blank)
unfolding blank
blank-by bits big quads region0 region1 tables quad e1 e2 e3 e4 e5 e6 e7 = rw (e1, e2, e3, e4, e5, e6, e7) refl

unit-zero : (edges : List ℕ) → unit_of (counted edges no_amp 0 (zero_lines 576)) (zero_lines 576) ≡ blank
unfolding counted regions_of
unit-zero edges =
    let q = zero_lines 576 in
    let pair = pair-zero edges q lines-zero in
    let split = zeros-split q lines-zero in
    blank-by (regions_of edges q).bits (split_of q).big (split_of q).quads (pair_for edges q).0 (pair_for edges q).1 (map table_for (regions_at edges q (pair_for edges q))) (quad_table_for (quad_values_of q))
    (zeros-bits edges q lines-zero) (sym split.0) (sym split.1) (ap (λ (p : ℕ × ℕ). p.0) pair) (ap (λ (p : ℕ × ℕ). p.1) pair)
    (tables-zero edges q (pair_for edges q) lines-zero) (quad-zero q split.0 split.1)

bits-zero : (edges : List ℕ) (q : List ℤ) → AreZero q → (counted edges no_amp 0 q).bits ≡ 0
unfolding counted
bits-zero edges q zeros = zeros-bits edges q zeros

-- the least gain has no bits, so that it is within each budget
gain-zero : (edges : List ℕ) (budget : ℕ) → picked_gain edges no_amp (zero_lines 576) budget ≡ 0
gain-zero edges budget =
    let q = quantised_lines (pos 0) (zero_lines 576) in
    let c = counted edges no_amp 0 q in
    let none : c.bits ≡ 0 = bits-zero edges q (subst AreZero (sym quantised-lines) lines-zero) in
    picked_gain-is edges no_amp (zero_lines 576) budget 0 c (omega arith) (count_of-some_at_one_gain edges (zero_lines 576) 0 codable-zero) (omega (arith, none)) (λ k lt. absurd (omega arith))

pub unit-blank : (st : Settings) (budget : ℕ) → unit_within st budget (zero_lines 576) ≡ blank
unfolding unit_within
unit-blank st budget =
    ap (λ g. unit_at_gain st g (zero_lines 576)) (gain-zero (band_edges st.sample_rate) budget)
    ∙ (ap (λ q. unit_of (counted (band_edges st.sample_rate) no_amp 0 q) q) quantised-lines ∙ unit-zero (band_edges st.sample_rate))
