-- A coded unit and a coded frame, put together from their parts.
use Rattle.std.proofs.Common.{◌≡◌, ℕ, ◌+◌, ◌-◌, ◌*◌, ◌≤◌, List, [], ◌∷◌, length, drop, get_or, refl, sym, ap, subst, ◌∙◌, arith, length-append}
use Rattle.std.specs.Prelude.{ℤ}
use Rattle.std.specs.List.{AllByRecursion}
use Rattle.l3_base.specs.declared.settings.Settings.{Settings}
use Rattle.l3_base.specs.declared.rate.Channels.{Channels}
use Rattle.l3_base.specs.declared.rate.Channels.TheVariants.{Mono, Stereo}
use Rattle.l3_huff.specs.declared.quads.QuadTable.{QuadTable}
use Rattle.l3_huff.specs.declared.quads.QuadTable.TheVariants.{A}
use Rattle.l3_stream.specs.declared.unit.Unit.{Unit}
use Rattle.l3_stream.specs.declared.unit.ChosenFrame.{ChosenFrame}
use Rattle.l3_stream.specs.Units.{HasFields, IsCodedUnit, PairsHold, QuadsHold, pairs_code, quads_code, pairs_of, quads_of, table_at, unit_bits, zero_lines}
use Rattle.l3_stream.specs.Frames.{blank, placed, units_of, units_number, IsCoded}
use Rattle.l3_stream.specs.Coded.{HasZeroFields, IsCodedGranule}
use Rattle.l3_stream.proofs.Lines.{AreZero, zeros_from, zeros_are}

-- ---- a unit

-- so many lines are 0
pub zeros_of_count : (lines : List ℤ) (n : ℕ) → length lines ≡ n → AreZero lines → lines ≡ zero_lines n
zeros_of_count lines n e zero = zeros_from lines zero ∙ ap zero_lines e

pub count_of_zeros : (lines : List ℤ) (n : ℕ) → length lines ≡ n → lines ≡ zero_lines n → AreZero lines
count_of_zeros lines n e is = zeros_are lines (is ∙ ap zero_lines (sym e))

pub unit_length : (st : Settings) (u : Unit) → length (unit_bits st u) ≡ length (pairs_code (table_at st u) 0 (pairs_of u)) + length (quads_code u.quad (quads_of u))
unfolding unit_bits
unit_length st u = length-append (pairs_code (table_at st u) 0 (pairs_of u)) (quads_code u.quad (quads_of u))

-- ---- the blank unit

four_of : (ts : List ℕ) → length ts ≡ 3 → get_or ts 0 0 ≡ 0 → get_or ts 1 0 ≡ 0 → get_or ts 2 0 ≡ 0 → ts ≡ 0 ∷ 0 ∷ 0 ∷ []
four_of [] e a b c = absurd (omega arith)
four_of (x ∷ []) e a b c = absurd (omega arith)
four_of (x ∷ y ∷ []) e a b c = absurd (omega arith)
four_of (x ∷ y ∷ z ∷ []) e a b c = cc
four_of (x ∷ y ∷ z ∷ w ∷ ts) e a b c = absurd (omega arith)

abbrev made : ℕ → ℕ → ℕ → ℕ → ℕ → ℕ → List ℕ → QuadTable → List ℤ → Unit
made length big quads gain region0 region1 tables quad lines = record { length = length; big = big; quads = quads; gain = gain; region0 = region0; region1 = region1; tables = tables; quad = quad; lines = lines }

pub blank_from : (u : Unit) → HasZeroFields u → length u.lines ≡ 576 → AreZero u.lines → u ≡ blank
unfolding blank
blank_from u h size zero =
    ap (λ n. made n u.big u.quads u.gain u.region0 u.region1 u.tables u.quad u.lines) h.size
    ∙ (ap (λ n. made 0 n u.quads u.gain u.region0 u.region1 u.tables u.quad u.lines) h.big
    ∙ (ap (λ n. made 0 0 n u.gain u.region0 u.region1 u.tables u.quad u.lines) h.quads
    ∙ (ap (λ n. made 0 0 0 n u.region0 u.region1 u.tables u.quad u.lines) h.gain
    ∙ (ap (λ n. made 0 0 0 0 n u.region1 u.tables u.quad u.lines) h.region0
    ∙ (ap (λ n. made 0 0 0 0 0 n u.tables u.quad u.lines) h.region1
    ∙ (ap (λ ts. made 0 0 0 0 0 0 ts u.quad u.lines) (four_of u.tables h.three h.table0 h.table1 h.table2)
    ∙ (ap (λ q. made 0 0 0 0 0 0 (0 ∷ 0 ∷ 0 ∷ []) q u.lines) h.quad
    ∙ ap (λ l. made 0 0 0 0 0 0 (0 ∷ 0 ∷ 0 ∷ []) A l) (zeros_of_count u.lines 576 size zero))))))))

pub fields_of_blank : HasZeroFields blank
unfolding blank
fields_of_blank = record { size = refl; big = refl; quads = refl; gain = refl; region0 = refl; region1 = refl; three = refl; table0 = refl; table1 = refl; table2 = refl; quad = refl }

lines_of_blank : blank.lines ≡ zero_lines 576
unfolding blank
lines_of_blank = refl

pub zeros_of_blank : (u : Unit) → length u.lines ≡ 576 → u ≡ blank → AreZero u.lines
zeros_of_blank u size e = count_of_zeros u.lines 576 size (ap (λ v. v.lines) e ∙ lines_of_blank)

-- ---- a frame

-- granules of units for the channels that are there
pub record AreCoded (st : Settings) (c : Channels) (granules : List (List Unit)) : Type 0 where
  pub shape : granules ≡ placed c (units_of c granules)
  pub number : length (units_of c granules) ≡ units_number c
  pub units : AllByRecursion (IsCodedUnit st) (units_of c granules)

no_unit : (st : Settings) (c : Channels) → IsCodedGranule st c [] → ⊥
no_unit st Mono h = h
no_unit st Stereo h = h

one_unit : (st : Settings) (c : Channels) (a : Unit) → IsCodedGranule st c (a ∷ []) → ⊥
one_unit st Mono a h = h
one_unit st Stereo a h = h

three_units : (st : Settings) (c : Channels) (a b d : Unit) (us : List Unit) → IsCodedGranule st c (a ∷ b ∷ d ∷ us) → ⊥
three_units st Mono a b d us h = h
three_units st Stereo a b d us h = h

two_granules : (st : Settings) (c : Channels) (a b p q : Unit) → IsCodedGranule st c (a ∷ b ∷ []) → IsCodedGranule st c (p ∷ q ∷ []) → AreCoded st c ((a ∷ b ∷ []) ∷ (p ∷ q ∷ []) ∷ [])
unfolding units_of placed
two_granules st Mono a b p q first second = record {
  shape = rw (first.1, second.1) refl;
  number = refl;
  units = (first.0, (second.0, tt));
}
two_granules st Stereo a b p q first second = record {
  shape = refl;
  number = refl;
  units = (first.0, (first.1, (second.0, (second.1, tt))));
}

coded_granules : (st : Settings) (c : Channels) (g h : List Unit) → IsCodedGranule st c g → IsCodedGranule st c h → AreCoded st c (g ∷ h ∷ [])
coded_granules st c [] h first second = absurd (no_unit st c first)
coded_granules st c (a ∷ []) h first second = absurd (one_unit st c a first)
coded_granules st c (a ∷ b ∷ d ∷ g) h first second = absurd (three_units st c a b d g first)
coded_granules st c (a ∷ b ∷ []) [] first second = absurd (no_unit st c second)
coded_granules st c (a ∷ b ∷ []) (p ∷ []) first second = absurd (one_unit st c p second)
coded_granules st c (a ∷ b ∷ []) (p ∷ q ∷ d ∷ h) first second = absurd (three_units st c p q d h second)
coded_granules st c (a ∷ b ∷ []) (p ∷ q ∷ []) first second = two_granules st c a b p q first second

pub record BothCoded (st : Settings) (c : Channels) (g h : List Unit) : Type 0 where
  pub first : IsCodedGranule st c g
  pub second : IsCodedGranule st c h

granules_coded : (st : Settings) (c : Channels) (g h : List Unit) → AreCoded st c (g ∷ h ∷ []) → BothCoded st c g h
unfolding units_of placed
granules_coded st Mono [] h all = let e = all.number in absurd cc
granules_coded st Mono (a ∷ g) [] all = let e = all.number in absurd cc
granules_coded st Mono (a ∷ g) (p ∷ h) all =
    let e = all.shape in
    let one : g ≡ blank ∷ [] = cc in
    let other : h ≡ blank ∷ [] = cc in
    record {
      first = subst (λ (l : List Unit). IsCodedGranule st Mono (a ∷ l)) (sym one) (all.units.0, refl);
      second = subst (λ (l : List Unit). IsCodedGranule st Mono (p ∷ l)) (sym other) (all.units.1.0, refl);
    }
granules_coded st Stereo [] h all = let e = all.number in absurd cc
granules_coded st Stereo (a ∷ []) h all = let e = all.number in absurd cc
granules_coded st Stereo (a ∷ b ∷ g) [] all = let e = all.number in absurd cc
granules_coded st Stereo (a ∷ b ∷ g) (p ∷ []) all = let e = all.number in absurd cc
granules_coded st Stereo (a ∷ b ∷ g) (p ∷ q ∷ h) all =
    let e = all.shape in
    let one : g ≡ [] = cc in
    let other : h ≡ [] = cc in
    record {
      first = subst (λ (l : List Unit). IsCodedGranule st Stereo (a ∷ b ∷ l)) (sym one) (all.units.0, all.units.1.0);
      second = subst (λ (l : List Unit). IsCodedGranule st Stereo (p ∷ q ∷ l)) (sym other) (all.units.1.1.0, all.units.1.1.1.0);
    }

-- two granules one by one
pub two_of : (gs : List (List Unit)) → length gs ≡ 2 → gs ≡ get_or gs 0 [] ∷ get_or gs 1 [] ∷ []
two_of [] e = absurd (omega arith)
two_of (g ∷ []) e = absurd (omega arith)
two_of (g ∷ h ∷ []) e = refl
two_of (g ∷ h ∷ i ∷ gs) e = absurd (omega arith)

pub coded_frame : (st : Settings) (f : ChosenFrame) → length f.units ≡ 2 → IsCodedGranule st st.channels (get_or f.units 0 []) → IsCodedGranule st st.channels (get_or f.units 1 []) → IsCoded st f
coded_frame st f two first second =
    let all = subst (AreCoded st st.channels) (sym (two_of f.units two)) (coded_granules st st.channels (get_or f.units 0 []) (get_or f.units 1 []) first second) in
    record { shape = all.shape; number = all.number; units = all.units }

pub frame_coded : (st : Settings) (f : ChosenFrame) → length f.units ≡ 2 → IsCoded st f → BothCoded st st.channels (get_or f.units 0 []) (get_or f.units 1 [])
frame_coded st f two is =
    let all : AreCoded st st.channels f.units = record { shape = is.shape; number = is.number; units = is.units } in
    granules_coded st st.channels (get_or f.units 0 []) (get_or f.units 1 []) (subst (AreCoded st st.channels) (two_of f.units two) all)

-- ---- a unit from its parts

pub coded_unit : (st : Settings) (u : Unit) (past : List ℤ) (first second size : ℕ) → HasFields u → 2 * u.big + 4 * u.quads ≤ 576 → length u.lines ≡ 576 →
    past ≡ drop (2 * u.big + 4 * u.quads) u.lines → length past ≡ 576 - (2 * u.big + 4 * u.quads) → AreZero past →
    PairsHold (table_at st u) 0 (pairs_of u) → first ≡ length (pairs_code (table_at st u) 0 (pairs_of u)) → QuadsHold (quads_of u) → second ≡ length (quads_code u.quad (quads_of u)) →
    size ≡ u.length → size ≡ first + second → IsCodedUnit st u
coded_unit st u past first second size fields places lines is count zero pairs counted_pairs quads counted_quads same whole = record {
  fields = fields;
  lines = lines;
  places = places;
  past = sym is ∙ zeros_of_count past (576 - (2 * u.big + 4 * u.quads)) count zero;
  pairs = pairs;
  quads = quads;
  bits = omega (arith, unit_length st u);
}

pub past_zeros : (st : Settings) (u : Unit) (past : List ℤ) → past ≡ drop (2 * u.big + 4 * u.quads) u.lines → length past ≡ 576 - (2 * u.big + 4 * u.quads) → IsCodedUnit st u → AreZero past
past_zeros st u past is count coded = count_of_zeros past (576 - (2 * u.big + 4 * u.quads)) count (is ∙ coded.past)

pub same_length : (st : Settings) (u : Unit) (first second size : ℕ) → first ≡ length (pairs_code (table_at st u) 0 (pairs_of u)) → second ≡ length (quads_code u.quad (quads_of u)) → size ≡ u.length → IsCodedUnit st u → size ≡ first + second
same_length st u first second size counted_pairs counted_quads same coded = let bits = coded.bits in omega (arith, unit_length st u)
