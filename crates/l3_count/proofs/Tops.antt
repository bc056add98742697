-- The count at the highest gain.
use Rattle.std.proofs.Common.{◌≡◌, ℕ, ◌≤◌, true, List, refl, sym, arith, ℤ, pos, min}
use Rattle.std.specs.Prelude.{All, unsigned_abs, get_or, ◌==◌}
use Rattle.l3_quant.specs.Quantiser.{IsCodable}
use Rattle.l3_quant.specs.Amplified.{quantised_bands}
use Rattle.l3_quant.proofs.BandLemmas.{zeros_at_the_top}
use Rattle.l3_huff.specs.Tables.{is_table}
use Rattle.l3_huff.specs.declared.quads.QuadTable.TheVariants.{A}
use Rattle.l3_region.specs.Split.{end_of_pairs, is_zero_from, ones_before, quad_values_of, split_of, zero_from}
use Rattle.l3_region.specs.Regions.{quad_bits_in, regions_of}
use Rattle.l3_region.specs.Laws.{HoldsAll, MayTake, region}
use Rattle.l3_region.proofs.Fewest.{none_fewer, zero_bits}
use Rattle.l3_region.proofs.Ranges.{All-slice}
use Rattle.l3_region.proofs.SplitLemmas.{ones_before-full, ones_none, split_of-big, split_of-quads, zero_from-start}
use Rattle.l3_region.proofs.AllPass.{all_true}
use Rattle.l3_count.specs.Count.{counted}
use Rattle.l3_count.specs.Laws.{EmptyAtTheTop}
use Rattle.l3_count.proofs.Counts.{count_of-some, first_gain_of-le}

-- all of the values are 0
abbrev pub AreZero : List ℤ → Type 0
AreZero q = All (λ x. x ≡ pos 0) q

zeros-from : (q : List ℤ) → AreZero q → is_zero_from q 0 ≡ true
zeros-from q zeros = all_true (λ x. unsigned_abs x == 0) q (λ k d lt. rw (zeros k d lt) refl)

-- zeros are split into no pairs and no quadruples
pub zeros-split : (q : List ℤ) → AreZero q → (0 ≡ (split_of q).big) × (0 ≡ (split_of q).quads)
zeros-split q zeros =
    let start : 0 ≡ zero_from q = zero_from-start q 0 (omega arith) (zeros-from q zeros) in
    let ones : 0 ≡ ones_before q 0 = ones_before-full q 0 0 (omega arith) (omega arith) (ones_none q 0) in
    (split_of-big q 0 0 start ones, split_of-quads q 0 0 start ones)

zeros-hold : (values : List ℤ) → AreZero values → HoldsAll 0 values
unfolding is_table
zeros-hold values zeros = record { table_is = refl; held = λ k d lt. rw (zeros k d lt) (omega arith) }

-- all regions may take table 0
zeros-take : (edges : List ℕ) (q : List ℤ) → AreZero (region edges q 0 0 0) →
    AreZero (region edges q 0 0 1) → AreZero (region edges q 0 0 2) → MayTake edges q 0 0 0 0 0
zeros-take edges q first second third = record {
  first = omega arith;
  second = omega arith;
  within = omega arith;
  table0 = zeros-hold (region edges q 0 0 0) first;
  table1 = zeros-hold (region edges q 0 0 1) second;
  table2 = zeros-hold (region edges q 0 0 2) third;
}

no_quads : (q : List ℤ) → (0 ≡ (split_of q).big) → (0 ≡ (split_of q).quads) →
    quad_bits_in A (quad_values_of q) ≡ 0
unfolding quad_bits_in
no_quads q big quads = rw (← big, ← quads) refl

-- and have no bits
pub zeros-bits : (edges : List ℕ) (q : List ℤ) → AreZero q → (regions_of edges q).bits ≡ 0
zeros-bits edges q zeros =
    let split = zeros-split q zeros in
    let end = end_of_pairs q in
    let second = min (get_or edges 1 0) end in
    let third = min (get_or edges 2 0) end in
    let first : AreZero (region edges q 0 0 0) = All-slice (λ x. x ≡ pos 0) q 0 second zeros in
    let middle : AreZero (region edges q 0 0 1) = All-slice (λ x. x ≡ pos 0) q second third zeros in
    let last : AreZero (region edges q 0 0 2) = All-slice (λ x. x ≡ pos 0) q third end zeros in
    let small : All (λ x. unsigned_abs x ≤ 8191) q = λ k d lt. rw (zeros k d lt) (omega arith) in
    let fewest = none_fewer edges q 0 0 0 0 0 A small (zeros-take edges q first middle last) in
    omega (arith, fewest, zero_bits (region edges q 0 0 0) first, zero_bits (region edges q 0 0 1) middle, zero_bits (region edges q 0 0 2) last, no_quads q split.0 split.1)

zeros-counted : (edges amp : List ℕ) (q : List ℤ) → AreZero q →
    ((counted edges amp 255 q).bits ≡ 0) × ((counted edges amp 255 q).big ≡ 0) × ((counted edges amp 255 q).quads ≡ 0)
unfolding counted
zeros-counted edges amp q zeros = (zeros-bits edges q zeros, sym (zeros-split q zeros).0, sym (zeros-split q zeros).1)

pub empty_at_the_top : EmptyAtTheTop
empty_at_the_top edges amp lines is small =
    let q = quantised_bands edges amp (pos 255) lines in
    let zeros = zeros_at_the_top edges amp lines is small in
    let codable : IsCodable q = λ k d lt. rw (zeros k d lt) (omega arith) in
    let none = zeros-counted edges amp q zeros in (
      counted edges amp 255 q,
      record {
        first = first_gain_of-le edges amp lines 255 codable;
        there = count_of-some edges amp lines 255 codable;
        bits = none.0;
        big = none.1;
        quads = none.2;
      },
    )
