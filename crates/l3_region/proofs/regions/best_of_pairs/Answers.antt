use Rattle.std.proofs.Common.{◌≡◌, ℕ, List, ◌≤◌, ◌+◌, ◌*◌, ◌/◌, ◌%◌, ◌∙◌, length, arith, ap, sym, refl, subst}
use Rattle.std.specs.Prelude.{ℤ, All, slice_range, unsigned_abs}
use Rattle.l3_base.specs.Bands.{edges_at, band_edges}
use Rattle.l3_region.specs.Pairs.{ArePairsOf, lines_in, unpacked}
use Rattle.l3_region.specs.declared.split.Split.{Split}
use Rattle.l3_region.specs.Lanes.{IsBestPair, rows_of}
use Rattle.l3_region.specs.Regions.{quad_bits_in, quad_table_for}
use Rattle.l3_region.specs.Split.{split_of, end_of_pairs, end_of_quads, quad_values_of}
use Rattle.l3_region.proofs.Composed.{AreChosen, are_chosen, best_bits-le, regions_is, tables_hold}
use Rattle.l3_region.proofs.CutClasses.{by_rate}
use Rattle.l3_region.proofs.CutLines.{split_same}
use Rattle.l3_region.proofs.CutQuads.{quad_bits_same, quad_table_same}
use Rattle.l3_region.proofs.SplitLemmas.{split_within, split_ones}
use Rattle.l3_region.proofs.Unpacked.{unpacked_same}
use Rattle.l3_region.proofs.regions.best_of_pairs.Goals as goal

-- the places of a split, read as numbers
places : (q : List ℤ) (split : Split) (big quads : ℕ) → split ≡ split_of q → big ≡ split.big → quads ≡ split.quads →
    (2 * big ≡ end_of_pairs q) × (2 * big + 4 * quads ≡ end_of_quads q) × (2 * big + 4 * quads ≤ 576)
places q split big quads is eb eq =
    let b : split.big ≡ (split_of q).big = ap (λ (s : Split). s.big) is in
    let n : split.quads ≡ (split_of q).quads = ap (λ (s : Split). s.quads) is in
    (omega arith, omega arith, omega (arith, split_within q))

-- the split is that of the packed values
split_is : {edges : List ℕ} (q : List ℤ) (pairs classes : List ℕ) (split : Split) → length pairs ≡ 288 → ArePairsOf edges q pairs classes → split ≡ split_of q → split ≡ split_of (lines_in pairs)
split_is q pairs classes split long is own = own ∙ sym (split_same q (unpacked pairs) (unpacked_same q pairs classes long is))

pub sum_bands-requires-clause-within : goal.sum_bands-requires-clause-within
sum_bands-requires-clause-within c =
    let p = places (lines_in c.args.pairs.now) c.args.split c.from-big.result c.args.split.quads (split_is c.requires.known.0 c.args.pairs.now c.args.classes.now c.args.split c.told-pairs c.requires.known.1 c.requires.known.2) c.from-big.ensures (λ _. c.args.split.quads) in
    omega (arith, p.2)

pub sum_bands-requires-clause-ends : goal.sum_bands-requires-clause-ends
sum_bands-requires-clause-ends c = (places (lines_in c.args.pairs.now) c.args.split c.from-big.result c.args.split.quads (split_is c.requires.known.0 c.args.pairs.now c.args.classes.now c.args.split c.told-pairs c.requires.known.1 c.requires.known.2) c.from-big.ensures (λ _. c.args.split.quads)).0

pub sum_bands-requires-clause-known : goal.sum_bands-requires-clause-known
sum_bands-requires-clause-known c = (c.requires.known.0, by_rate c.requires.known.0 c.args.pairs.now c.args.classes.now (sym c.index.ensures) c.requires.known.1)

pub best_quads-quads-requires-clause-within : goal.best_quads-quads-requires-clause-within
best_quads-quads-requires-clause-within c = (places (lines_in c.args.pairs.now) c.args.split c.from-big.result c.from-2.result (split_is c.requires.known.0 c.args.pairs.now c.args.classes.now c.args.split c.told-pairs c.requires.known.1 c.requires.known.2) c.from-big.ensures c.from-2.ensures).2

-- the values of the quadruples
quads_are : (q : List ℤ) (start end : ℕ) → start ≡ end_of_pairs q → end ≡ end_of_quads q → slice_range q start end ≡ quad_values_of q
quads_are q start end is more = ap (λ a. slice_range q a end) is ∙ ap (slice_range q (end_of_pairs q)) more

pub best_quads-quads-requires-clause-small : goal.best_quads-quads-requires-clause-small
best_quads-quads-requires-clause-small c =
    let q = lines_in c.args.pairs.now in
    let p = places q c.args.split c.from-big.result c.from-2.result (split_is c.requires.known.0 c.args.pairs.now c.args.classes.now c.args.split c.told-pairs c.requires.known.1 c.requires.known.2) c.from-big.ensures c.from-2.ensures in
    let P : List ℤ → Type 0 = λ values. All (λ x. unsigned_abs x ≤ 1) values in
    subst P (sym (quads_are q (2 * c.from-big.result) (2 * c.from-big.result + 4 * c.from-2.result) p.0 p.1)) (split_ones q)

-- pairs take at most 16 bits a line and quadruples at most 2
few_bits : (bits more end quads : ℕ) → bits ≤ 16 * end → more ≤ 8 * quads → end + 4 * quads ≤ 576 → bits + more ≤ 9216
few_bits bits more end quads pairs rest within = omega arith

-- a place by its two lengths
by_parts : {f : ℕ → ℕ} {bits : ℕ} (place : ℕ) → IsBestPair f 128 place bits → IsBestPair f 128 (8 * (place / 8) + place % 8) bits
by_parts {f = f} {bits = bits} place is = let same : place ≡ 8 * (place / 8) + place % 8 = omega arith in subst (λ (p : ℕ). IsBestPair f 128 p bits) same is

pub overflow_add-result : goal.overflow_add-result
overflow_add-result c =
    let p = places (lines_in c.args.pairs.now) c.args.split c.from-big.result c.from-2.result (split_is c.requires.known.0 c.args.pairs.now c.args.classes.now c.args.split c.told-pairs c.requires.known.1 c.requires.known.2) c.from-big.ensures c.from-2.ensures in
    let known = c.requires.known in
    let best = c.best_pair-pair.result in
    let is = c.sum_bands.ensures.made known.0 (by_rate known.0 c.args.pairs.now c.args.classes.now (sym c.index.ensures) known.1) in
    let pairs = best_bits-le known.0 c.index.result (2 * c.from-big.result) (rows_of c.sum_bands.new.sums) c.sum_bands.new.parts (best.place / 8) (best.place % 8) best.bits is (omega arith) (by_parts best.place (c.best_pair-pair.ensures.best)) in
    let few = few_bits best.bits c.best_quads-quads.result.bits (2 * c.from-big.result) c.from-2.result pairs c.best_quads-quads.ensures.limit p.2 in
    omega (arith, few)

pub returns : goal.returns
returns c =
    let pairs = c.args.pairs.now in
    let classes = c.args.classes.now in
    let lines = lines_in pairs in
    let known = c.requires.known in
    let p = places lines c.args.split c.from-big.result c.from-2.result (split_is known.0 pairs classes c.args.split c.told-pairs known.1 known.2) c.from-big.ensures c.from-2.ensures in
    let edges = band_edges c.args.rate in
    let packed = λ (q : List ℤ) (is : ArePairsOf edges q pairs classes). unpacked_same q pairs classes c.told-pairs is in
    let rate = c.index.result in
    let end = 2 * c.from-big.result in
    let rows = rows_of c.sum_bands.new.sums in
    let parts = c.sum_bands.new.parts in
    let best = c.best_pair-pair.result in
    let a = best.place / 8 in
    let b = best.place % 8 in
    let s = c.range_table.result in
    let t = c.range_table-2.result in
    let u = c.range_table-3.result in
    let quads = c.best_quads-quads.result in
    let from = c.from-second.result + 1 in
    let to = from + c.from.result + 1 in
    let small1 : b ≤ 7 = omega arith in
    let is_best = by_parts best.place c.best_pair-pair.ensures.best in
    let made = λ (q : List ℤ) (is : ArePairsOf edges q pairs classes). c.sum_bands.ensures.made q (by_rate q pairs classes (sym c.index.ensures) is) in
    let few = best_bits-le known.0 rate end rows parts a b best.bits (made known.0 known.1) small1 is_best in
    let from_is : from ≡ a + 1 = omega (arith, c.from-second.ensures) in
    let to_is : to ≡ a + b + 2 = omega (arith, c.from-second.ensures, c.from.ensures) in
    let fx = c.range_table.ensures in
    let fy = c.range_table-2.ensures in
    let fz = c.range_table-3.ensures in
    let chosen : (q : List ℤ) → ArePairsOf edges q pairs classes → AreChosen edges q a b s t u best.bits =
    λ q is.
    let end_is : end ≡ end_of_pairs q = p.0 ∙ ap (λ (k : Split). 2 * k.big) (split_same q (unpacked pairs) (packed q is)) in
    let by_index = are_chosen q rate end rows parts a b best.bits from to s t u fx.0 fy.0 fz.0 (made q is) end_is small1 is_best from_is to_is fx.1 fx.2 fy.1 fy.2 fz.1 fz.2 in
    subst (λ (i : ℕ). AreChosen (edges_at i) q a b s t u best.bits) c.index.ensures by_index in
    let values = quads_are lines end (end + 4 * c.from-2.result) p.0 p.1 in
    record {
      value = λ q is.
          let quad_is : quads.table ≡ quad_table_for (quad_values_of q) = c.best_quads-quads.ensures.table ∙ (ap quad_table_for values ∙ quad_table_same q (unpacked pairs) (packed q is)) in
          let more_is : quads.bits ≡ quad_bits_in quads.table (quad_values_of q) = c.best_quads-quads.ensures.bits ∙ (ap (quad_bits_in quads.table) values ∙ quad_bits_same quads.table q (unpacked pairs) (packed q is)) in
          regions_is edges q a b s t u best.bits quads.bits quads.table (chosen q is) quad_is more_is;
      limit = few_bits best.bits quads.bits end c.from-2.result few c.best_quads-quads.ensures.limit p.2;
      first = omega (arith, c.best_pair-pair.ensures.place);
      second = small1;
      within = (chosen known.0 known.1).within;
      three = refl;
      held = λ q is. tables_hold edges q a b s t u best.bits (chosen q is) is.codable;
    }
