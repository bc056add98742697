-- The unit of a count is coded: its pairs are those of the three regions, each with its own table.
use Rattle.std.proofs.Common.{◌≡◌, ℕ, ◌+◌, ◌-◌, ◌*◌, ◌%◌, ◌/◌, ◌<◌, ◌≤◌, ltb, cond, true, List, ◌++◌, length, get_or, take, drop, min, refl, sym, ap, subst, ◌∙◌, arith, inl, inr}
use Rattle.std.specs.Prelude.{ℤ, pos, slice_range}
use Rattle.std.proofs.lemmas.Bool.{cases_lt, lt-ltb, le-ltb}
use Rattle.std.proofs.lemmas.List.{length-drop, length-map}
use Rattle.l3_base.specs.Choosing.{least_passing}
use Rattle.l3_base.specs.Rates.{hertz_index_of}
use Rattle.l3_base.specs.declared.settings.Settings.{Settings}
use Rattle.l3_base.proofs.ChoosingLemmas.{least_passing-least}
use Rattle.l3_count.specs.Count.{Counted, counted}
use Rattle.l3_count.specs.Laws.{IsCountOf}
use Rattle.l3_base.specs.Amp.{no_amp}
use Rattle.l3_count.proofs.Counts.{count_of-some_at_one_gain, what_is_taken}
use Rattle.l3_quant.proofs.BandLemmas.{one_gain_without_amp}
use Rattle.l3_quant.specs.Quantiser.{IsCodable, quantised, quantised_lines}
use Rattle.l3_region.specs.Bands.{edge_at}
use Rattle.l3_region.specs.Laws.{HoldsAll, MayTake, pairs_taken}
use Rattle.l3_region.specs.Regions.{pair_bits_in, quad_bits_in, regions_of}
use Rattle.l3_region.specs.Split.{end_of_pairs, is_zero_from, quad_values_of, split_of, zero_from}
use Rattle.l3_region.specs.declared.split.Split.{Split}
use Rattle.l3_base.proofs.Edges.{edge_even, edge_order, index_small}
use Rattle.l3_region.proofs.Slices.{length-slice, slice_range-split}
use Rattle.l3_region.proofs.SplitLemmas.{split_ones, split_places, split_within, zero_past, zeros-all}
use Rattle.l3_stream.specs.Units.{IsCodedUnit, edge, pairs_of, quads_of, table_at, zero_lines}
use Rattle.l3_stream.specs.declared.unit.Unit.{Unit}
use Rattle.l3_stream.proofs.Shapes.{unit_length, zeros_of_count}
use Rattle.l3_commit.specs.Units.{unit_at_gain, unit_of}
use Rattle.l3_base.specs.Bands.{band_edges}
use Rattle.l3_commit.proofs.CodedLines.{ArePairs, AreQuads, HasTable, pairs_in_table, pairs_joined, quads_of_ones}

-- ---- the regions of lines

abbrev place_at : ℕ → ℕ → ℕ → ℕ
place_at first second line = cond (ltb line first) 0 (cond (ltb line second) 1 2)

place_0 : (first second line : ℕ) → line < first → place_at first second line ≡ 0
place_0 first second line lt = rw (lt-ltb line first lt) refl

place_1 : (first second line : ℕ) → first ≤ line → line < second → place_at first second line ≡ 1
place_1 first second line le lt = rw (le-ltb line first le, lt-ltb line second lt) refl

place_2 : (first second line : ℕ) → first ≤ line → second ≤ line → place_at first second line ≡ 2
place_2 first second line le ge = rw (le-ltb line first le, le-ltb line second ge) refl

-- ---- pairs in three regions

halved : (n : ℕ) → n % 2 ≡ 0 → n ≡ 2 * (n / 2)
halved n even = omega arith

part-even : (q : List ℤ) (a b : ℕ) → a % 2 ≡ 0 → b % 2 ≡ 0 → a ≤ b → b ≤ length q → length (slice_range q a b) ≡ 2 * ((b - a) / 2)
part-even q a b one two le within = omega (arith, length-slice q a b within)

-- the values up to the end are those of three stretches, each of an even number of values
pub three_stretches : (table : ℕ → ℕ) (q : List ℤ) (second third end t0 t1 t2 : ℕ) → second % 2 ≡ 0 → third % 2 ≡ 0 → end % 2 ≡ 0 → second ≤ third → third ≤ end → end ≤ length q →
    HasTable table 0 second t0 → HasTable table second third t1 → HasTable table third end t2 →
    HoldsAll t0 (slice_range q 0 second) → HoldsAll t1 (slice_range q second third) → HoldsAll t2 (slice_range q third end) →
    ArePairs table 0 (slice_range q 0 end) (pair_bits_in t0 (slice_range q 0 second) + (pair_bits_in t1 (slice_range q second third) + pair_bits_in t2 (slice_range q third end)))
three_stretches table q second third end t0 t1 t2 even0 even1 even2 le0 le1 within same0 same1 same2 holds0 holds1 holds2 =
    let xs = slice_range q 0 second in
    let ys = slice_range q second third in
    let zs = slice_range q third end in
    let b0 = pair_bits_in t0 xs in
    let b1 = pair_bits_in t1 ys in
    let b2 = pair_bits_in t2 zs in
    let l0 : length xs ≡ 2 * ((second - 0) / 2) = part-even q 0 second (omega arith) even0 (omega arith) (omega arith) in
    let l1 : length ys ≡ 2 * ((third - second) / 2) = part-even q second third even0 even1 le0 (omega arith) in
    let l2 : length zs ≡ 2 * ((end - third) / 2) = part-even q third end even1 even2 le1 within in
    let p0 : ArePairs table 0 xs b0 = pairs_in_table table t0 0 ((second - 0) / 2) second xs l0 (omega arith) same0 holds0 in
    let p1 : ArePairs table second ys b1 = pairs_in_table table t1 second ((third - second) / 2) third ys l1 (omega arith) same1 holds1 in
    let p2 : ArePairs table third zs b2 = pairs_in_table table t2 third ((end - third) / 2) end zs l2 (omega arith) same2 holds2 in
    let p12 : ArePairs table second (ys ++ zs) (b1 + b2) = pairs_joined table second ((third - second) / 2) third ys zs b1 b2 l1 (omega arith) p1 p2 in
    let p012 : ArePairs table 0 (xs ++ (ys ++ zs)) (b0 + (b1 + b2)) = pairs_joined table 0 ((second - 0) / 2) second xs (ys ++ zs) b0 (b1 + b2) l0 (omega arith) p0 p12 in
    let rest : slice_range q second end ≡ ys ++ zs = slice_range-split q second third end le0 le1 in
    let whole : slice_range q 0 end ≡ xs ++ (ys ++ zs) = slice_range-split q 0 second end (omega arith) (omega arith) ∙ ap (λ l. xs ++ l) rest in
    subst (λ l. ArePairs table 0 l (b0 + (b1 + b2))) (sym whole) p012

-- ---- the tables of a unit's lines

table_at-is : (st : Settings) (u : Unit) (line : ℕ) →
    table_at st u line ≡ get_or u.tables (place_at (edge_at (hertz_index_of st.sample_rate) (u.region0 + 1)) (edge_at (hertz_index_of st.sample_rate) (u.region0 + u.region1 + 2)) line) 0
unfolding table_at edge
table_at-is st u line = refl

-- the tables of three regions, cut at an end
abbrev tables_at : List ℕ → ℕ → ℕ → ℕ → ℕ
tables_at tables first last line = get_or tables (place_at first last line) 0

has_0 : (tables : List ℕ) (first last end : ℕ) → HasTable (tables_at tables first last) 0 (min first end) (get_or tables 0 0)
has_0 tables first last end line from lt = ap (λ r. get_or tables r 0) (place_0 first last line (omega arith))

has_1 : (tables : List ℕ) (first last end : ℕ) → HasTable (tables_at tables first last) (min first end) (min last end) (get_or tables 1 0)
has_1 tables first last end line from lt = ap (λ r. get_or tables r 0) (place_1 first last line (omega arith) (omega arith))

has_2 : (tables : List ℕ) (first last end : ℕ) → first ≤ last → HasTable (tables_at tables first last) (min last end) end (get_or tables 2 0)
has_2 tables first last end le line from lt = ap (λ r. get_or tables r 0) (place_2 first last line (omega arith) (omega arith))

same_tables : (f g : ℕ → ℕ) (from to t : ℕ) → ((line : ℕ) → f line ≡ g line) → HasTable g from to t → HasTable f from to t
same_tables f g from to t same has line ge lt = same line ∙ has line ge lt

even_min : (a b : ℕ) → a % 2 ≡ 0 → b % 2 ≡ 0 → min a b % 2 ≡ 0
even_min a b one two = elim (cases_lt a b) [
  | inl lt ↦ (let e : min a b ≡ a = omega arith in ap (λ n. n % 2) e ∙ one)
  | inr ge ↦ (let e : min a b ≡ b = omega arith in ap (λ n. n % 2) e ∙ two)
]

-- the pairs of a unit whose regions and tables may be taken
pub pairs_of_count : (st : Settings) (u : Unit) (q : List ℤ) → length q ≡ 576 →
    MayTake (band_edges st.sample_rate) q u.region0 u.region1 (get_or u.tables 0 0) (get_or u.tables 1 0) (get_or u.tables 2 0) →
    ArePairs (table_at st u) 0 (take (end_of_pairs q) q) (pairs_taken (band_edges st.sample_rate) q u.region0 u.region1 (get_or u.tables 0 0) (get_or u.tables 1 0) (get_or u.tables 2 0))
unfolding edge_at
pairs_of_count st u q long may =
    let rate = hertz_index_of st.sample_rate in
    let small : rate < 3 = index_small st.sample_rate in
    let a = u.region0 in
    let b = u.region1 in
    let end = end_of_pairs q in
    let first = edge_at rate (a + 1) in
    let last = edge_at rate (a + b + 2) in
    let room = may.within in
    let le : first ≤ last = edge_order rate (a + 1) (a + b + 2) small (omega arith) (omega arith) in
    let even0 : first % 2 ≡ 0 = edge_even rate (a + 1) small (omega arith) in
    let even1 : last % 2 ≡ 0 = edge_even rate (a + b + 2) small (omega arith) in
    let even2 : end % 2 ≡ 0 = omega arith in
    let within : end ≤ 576 = omega (arith, split_within q) in
    let ts = u.tables in
    let f = table_at st u in
    let g = tables_at ts first last in
    let same : (line : ℕ) → f line ≡ g line = table_at-is st u in
    let t0 = get_or ts 0 0 in
    let t1 = get_or ts 1 0 in
    let t2 = get_or ts 2 0 in
    let joined = three_stretches f q (min first end) (min last end) end t0 t1 t2 (even_min first end even0 even2) (even_min last end even1 even2) even2 (omega (arith, le)) (omega arith) (omega (arith, within, long))
    (same_tables f g 0 (min first end) t0 same (has_0 ts first last end))
    (same_tables f g (min first end) (min last end) t1 same (has_1 ts first last end))
    (same_tables f g (min last end) end t2 same (has_2 ts first last end le))
    may.table0 may.table1 may.table2 in
    let b0 = pair_bits_in t0 (slice_range q 0 (min first end)) in
    let b1 = pair_bits_in t1 (slice_range q (min first end) (min last end)) in
    let b2 = pair_bits_in t2 (slice_range q (min last end) end) in
    let sum : b0 + (b1 + b2) ≡ b0 + b1 + b2 = omega arith in
    let all : end - 0 ≡ end = omega arith in
    subst (λ n. ArePairs f 0 (take n q) (b0 + b1 + b2)) all (subst (λ n. ArePairs f 0 (slice_range q 0 end) n) sum joined)

-- ---- the lines behind the pairs

zero_from-zero : (q : List ℤ) → length q ≡ 576 → is_zero_from q (zero_from q) ≡ true
unfolding zero_from
zero_from-zero q long =
    let test = λ (n : ℕ). is_zero_from q (2 * n) in
    let least = least_passing-least 288 test in
    let r = least_passing 288 test in
    elim (cases_lt r 288) [
      | inl lt ↦ least.passing lt
      | inr ge ↦ (let last : r ≡ 288 = omega (arith, least.within) in ap test last ∙ zero_past q long)
    ]

past_zero : (q : List ℤ) (at : ℕ) → length q ≡ 576 → at ≡ zero_from q → drop at q ≡ zero_lines (576 - at)
past_zero q at long e =
    let zero : is_zero_from q at ≡ true = ap (is_zero_from q) e ∙ zero_from-zero q long in
    zeros_of_count (drop at q) (576 - at) (omega (arith, length-drop at q, long)) (zeros-all q at zero)

quad_values-long : (q : List ℤ) → length q ≡ 576 → length (quad_values_of q) ≡ 4 * (split_of q).quads
quad_values-long q long =
    let big = (split_of q).big in
    let quads = (split_of q).quads in
    omega (arith, length-slice q (2 * big) (2 * big + 4 * quads) (omega (arith, split_within q, long)))

quads_of_count : (q : List ℤ) (big quads : ℕ) → big ≡ (split_of q).big → quads ≡ (split_of q).quads → take (4 * quads) (drop (2 * big) q) ≡ quad_values_of q
quads_of_count q big quads one two =
    let there : 4 * quads ≡ 2 * (split_of q).big + 4 * (split_of q).quads - 2 * (split_of q).big = omega arith in
    ap (λ n. take n (drop (2 * big) q)) there ∙ ap (λ n. take (2 * (split_of q).big + 4 * (split_of q).quads - 2 * (split_of q).big) (drop (2 * n) q)) one

-- ---- the unit

-- the unit of a count and of the values that it counts, at most 4095 bits of them
pub coded_of_count : (st : Settings) (q : List ℤ) (gain : ℕ) (c : Counted) → length q ≡ 576 → gain ≤ 255 → c.bits ≤ 4095 → length c.tables ≡ 3 → IsCountOf (band_edges st.sample_rate) no_amp q gain c →
    IsCodedUnit st (unit_of c q)
unfolding pairs_of quads_of
coded_of_count st q gain c long most few three is =
    let u = unit_of c q in
    let may = is.taken in
    let big : c.big ≡ (split_of q).big = ap (λ (s : Split). s.big) is.split_is in
    let quads : c.quads ≡ (split_of q).quads = ap (λ (s : Split). s.quads) is.split_is in
    let at = is.gain_is in
    let room = may.within in
    let one = may.first in
    let two = may.second in
    let places : 2 * c.big + 4 * c.quads ≤ 576 = omega (arith, split_within q) in
    let bits = is.bits_are in
    let own = pairs_of_count st u q long may in
    let taken = pairs_taken (band_edges st.sample_rate) q c.region0 c.region1 (get_or c.tables 0 0) (get_or c.tables 1 0) (get_or c.tables 2 0) in
    let end : end_of_pairs q ≡ 2 * c.big = omega arith in
    let pairs : ArePairs (table_at st u) 0 (pairs_of u) taken = subst (λ n. ArePairs (table_at st u) 0 (take n q) taken) end own in
    let ones : AreQuads c.quad (quad_values_of q) = quads_of_ones c.quad (split_of q).quads (quad_values_of q) (quad_values-long q long) (split_ones q) in
    let values : quads_of u ≡ quad_values_of q = quads_of_count q c.big c.quads big quads in
    let held : AreQuads c.quad (quads_of u) = subst (AreQuads c.quad) (sym values) ones in
    let sum = ap (quad_bits_in c.quad) values in
    let first = pairs.counted in
    let second = held.counted in
    let is_table0 = may.table0.table_is in
    let is_table1 = may.table1.table_is in
    let is_table2 = may.table2.table_is in
    record {
      fields = record {
        size = omega arith;
        big = omega arith;
        gain = omega arith;
        region0 = omega arith;
        region1 = omega arith;
        regions = omega arith;
        three = three;
        table0 = is_table0;
        table1 = is_table1;
        table2 = is_table2;
      };
      lines = long;
      places = places;
      past = past_zero q (2 * c.big + 4 * c.quads) long (omega (arith, (split_places q).0));
      pairs = pairs.held;
      quads = held.held;
      bits = omega (arith, unit_length st u, bits, first, second, sum);
    }

three_tables : (edges : List ℕ) (gain : ℕ) (q : List ℤ) → length (counted edges no_amp gain q).tables ≡ 3
unfolding counted regions_of
three_tables edges gain q = refl

quantised-long : (gain : ℕ) (lines : List ℤ) → length lines ≡ 576 → length (quantised_lines (pos gain) lines) ≡ 576
quantised-long gain lines long = length-map lines (quantised (pos gain)) ∙ long

-- at a gain where the spectrum is codable
pub coded_at_gain : (st : Settings) (gain : ℕ) (lines : List ℤ) → length lines ≡ 576 → gain ≤ 255 → IsCodable (quantised_lines (pos gain) lines) →
    (counted (band_edges st.sample_rate) no_amp gain (quantised_lines (pos gain) lines)).bits ≤ 4095 → IsCodedUnit st (unit_at_gain st gain lines)
coded_at_gain st gain lines long most codable few =
    let edges = band_edges st.sample_rate in
    let q = quantised_lines (pos gain) lines in
    let c = counted edges no_amp gain q in
    let P : List ℤ → Type 0 = λ values. IsCountOf edges no_amp values gain c in
    coded_of_count st q gain c (quantised-long gain lines long) most few (three_tables edges gain q)
    (subst P (one_gain_without_amp edges (pos gain) lines)
    (what_is_taken edges no_amp lines gain c (count_of-some_at_one_gain edges lines gain codable)))
