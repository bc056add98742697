-- The tests of side information, in the words of the rule of reading.
use Rattle.std.proofs.Common.{◌≡◌, ℕ, zero, suc, ◌*◌, ◌<◌, ◌≤◌, Bool, true, ◌&&◌, List, [], ◌∷◌, ◌++◌, length, take, drop, get_or, Some, refl, sym, ap, ◌∙◌, arith}
use Rattle.std.specs.List.{AllByRecursion}
use Rattle.std.proofs.lemmas.Bool.{and_parts, and_from, le-leb}
use Rattle.std.proofs.lemmas.Option.{cond_some}
use Rattle.std.proofs.lemmas.List.{take-append-drop, length-take-le, length-drop, take_all}
use Rattle.l3_base.specs.declared.rate.Channels.{Channels}
use Rattle.l3_base.specs.declared.rate.Channels.TheVariants.{Mono, Stereo}
use Rattle.l3_stream.specs.declared.unit.Unit.{Unit}
use Rattle.l3_stream.specs.Frames.{units_number}
use Rattle.l3_stream.specs.Fields.{same, spelled, fields_at, FieldsFit}
use Rattle.l3_stream.specs.Side.{quad_number, unit_widths, unit_values, unit_side, front_bits, front_width, front_widths, side_bytes}
use Rattle.l3_stream.specs.SideReading.{quad_from, unit_from, unit_side_of, has_fields, unit_side_passes, units_at, units_pass, begin_at, front_passes, side_at, PassesRule, unit_fields_at, SidePassesRule}
use Rattle.l3_stream.specs.Laws.{SideIsExact}
use Rattle.l3_stream.proofs.Fields.{same_is, same_again, fields_again, spelled_again, fields_small}
use Rattle.l3_stream.proofs.Side.{unit_values_again, unit_side_takes, side_sizes}

quad_number_of : (v : ℕ) → v < 2 → quad_number (quad_from v) ≡ v
quad_number_of zero lt = refl
quad_number_of (suc zero) lt = refl
quad_number_of (suc (suc v)) lt = absurd (omega arith)

values_again : (vs : List ℕ) → length vs ≡ 13 → FieldsFit unit_widths vs → PassesRule vs → unit_values (unit_from vs) ≡ vs
values_again (a ∷ b ∷ c ∷ d ∷ e ∷ f ∷ g ∷ h ∷ i ∷ j ∷ k ∷ l ∷ m ∷ []) size fit rule =
    let d0 = rule.scalefac_compress in
    let e0 = rule.window_switching in
    let k0 = rule.preflag in
    let l0 = rule.scalefac_scale in
    let q = quad_number_of m fit.1.1.1.1.1.1.1.1.1.1.1.1.0 in
    cc
values_again _ size fit rule = absurd (omega arith)

unit_allows : (bits : List Bool) → length bits ≡ 59 → PassesRule (fields_at unit_widths bits) → unit_side_passes bits ≡ true
unfolding unit_side_passes unit_side unit_side_of has_fields
unit_allows bits size rule =
    let vs = fields_at unit_widths bits in
    let fit = fields_small unit_widths bits (omega arith) in
    let all : take 59 bits ≡ bits = take_all 59 bits (omega arith) in
    let text : spelled unit_widths (unit_values (unit_from vs)) ≡ bits = ap (spelled unit_widths) (values_again vs refl fit rule) ∙ (spelled_again unit_widths bits (omega arith) ∙ all) in
    and_from _ _ (ap (same bits) text ∙ same_again bits)
    (and_from _ _ (le-leb _ _ rule.big_values) (and_from _ _ (le-leb _ _ rule.regions) (and_from _ _ rule.table0 (and_from _ _ rule.table1 rule.table2))))

unit_obeys : (bits : List Bool) → unit_side_passes bits ≡ true → PassesRule (fields_at unit_widths bits)
unfolding unit_side_of
unit_obeys bits e =
    let u = unit_side_of bits in
    let is = unit_side_takes bits e in
    let unit = is.unit in
    let fields = unit.fields in
    let values : fields_at unit_widths bits ≡ unit_values u = ap (fields_at unit_widths) is.text ∙ unit_values_again u fields in
    record {
      scalefac_compress = ap (λ vs. get_or vs 3 0) values;
      window_switching = ap (λ vs. get_or vs 4 0) values;
      preflag = ap (λ vs. get_or vs 10 0) values;
      scalefac_scale = ap (λ vs. get_or vs 11 0) values;
      big_values = fields.big;
      regions = fields.regions;
      table0 = fields.table0;
      table1 = fields.table1;
      table2 = fields.table2;
    }

units_obey : (n : ℕ) (bits : List Bool) → units_pass n bits ≡ true → AllByRecursion PassesRule (unit_fields_at n bits)
unfolding units_pass
units_obey zero bits e = tt
units_obey (suc n) bits e =
    let both = and_parts (unit_side_passes (take 59 bits)) (units_pass n (drop 59 bits)) e in
    (unit_obeys (take 59 bits) both.0, units_obey n (drop 59 bits) both.1)

units_allow : (n : ℕ) (bits : List Bool) → 59 * n ≤ length bits → AllByRecursion PassesRule (unit_fields_at n bits) → units_pass n bits ≡ true
unfolding units_pass
units_allow zero bits le all = refl
units_allow (suc n) bits le all =
    and_from _ _ (unit_allows (take 59 bits) (length-take-le 59 bits (omega arith)) all.0) (units_allow n (drop 59 bits) (omega (arith, length-drop 59 bits)) all.1)

-- private_bits and scfsi
record FrontObeys (c : Channels) (bits : List Bool) : Type 0 where
  private_bits : get_or (fields_at (front_widths c) bits) 1 0 ≡ 0
  scfsi : get_or (fields_at (front_widths c) bits) 2 0 ≡ 0

begin_fits : (bits : List Bool) → 9 ≤ length bits → FieldsFit (9 ∷ []) (begin_at bits ∷ [])
begin_fits bits le = fields_small (9 ∷ []) bits (omega arith)

front_values : (c : Channels) (begin : ℕ) (rest : List Bool) → FieldsFit (9 ∷ []) (begin ∷ []) → fields_at (front_widths c) (front_bits c begin ++ rest) ≡ begin ∷ 0 ∷ 0 ∷ []
unfolding front_bits
front_values Mono begin rest fit = fields_again (front_widths Mono) (begin ∷ 0 ∷ 0 ∷ []) rest (fit.0, (omega arith, (omega arith, tt)))
front_values Stereo begin rest fit = fields_again (front_widths Stereo) (begin ∷ 0 ∷ 0 ∷ []) rest (fit.0, (omega arith, (omega arith, tt)))

front_obeys : (c : Channels) (bits : List Bool) → 9 ≤ length bits → front_passes c bits ≡ true → FrontObeys c bits
unfolding front_passes
front_obeys c bits le e =
    let front : take (front_width c) bits ≡ front_bits c (begin_at bits) = same_is _ _ e in
    let rest = drop (front_width c) bits in
    let text : bits ≡ front_bits c (begin_at bits) ++ rest = sym (take-append-drop (front_width c) bits) ∙ ap (λ l. l ++ rest) front in
    let values : fields_at (front_widths c) bits ≡ begin_at bits ∷ 0 ∷ 0 ∷ [] = ap (fields_at (front_widths c)) text ∙ front_values c (begin_at bits) rest (begin_fits bits le) in
    record { private_bits = ap (λ vs. get_or vs 1 0) values; scfsi = ap (λ vs. get_or vs 2 0) values }

front_allows : (c : Channels) (bits : List Bool) → front_width c ≤ length bits → FrontObeys c bits → front_passes c bits ≡ true
unfolding front_passes front_bits
front_allows Mono bits le is =
    let text : spelled (front_widths Mono) (fields_at (front_widths Mono) bits) ≡ take 18 bits = spelled_again (front_widths Mono) bits (omega arith) in
    let p = is.private_bits in
    let s = is.scfsi in
    let values : fields_at (front_widths Mono) bits ≡ begin_at bits ∷ 0 ∷ 0 ∷ [] = cc in
    ap (same (take 18 bits)) (ap (spelled (front_widths Mono)) (sym values) ∙ text) ∙ same_again (take 18 bits)
front_allows Stereo bits le is =
    let text : spelled (front_widths Stereo) (fields_at (front_widths Stereo) bits) ≡ take 20 bits = spelled_again (front_widths Stereo) bits (omega arith) in
    let p = is.private_bits in
    let s = is.scfsi in
    let values : fields_at (front_widths Stereo) bits ≡ begin_at bits ∷ 0 ∷ 0 ∷ [] = cc in
    ap (same (take 20 bits)) (ap (spelled (front_widths Stereo)) (sym values) ∙ text) ∙ same_again (take 20 bits)

wide : (c : Channels) → 9 ≤ front_width c
wide Mono = omega arith
wide Stereo = omega arith

obeys : (c : Channels) (bits : List Bool) (side : ℕ × List Unit) → length bits ≡ 8 * side_bytes c → side_at c bits ≡ Some side → SidePassesRule c bits
unfolding side_at
obeys c bits side size e =
    let later = drop (front_width c) bits in
    let found = cond_some (front_passes c bits && units_pass (units_number c) later) (begin_at bits, units_at (units_number c) later) side e in
    let both = and_parts (front_passes c bits) (units_pass (units_number c) later) found.0 in
    let front = front_obeys c bits (omega (arith, size, side_sizes c, wide c)) both.0 in
    record { private_bits = front.private_bits; scfsi = front.scfsi; units = units_obey (units_number c) later both.1 }

allows : (c : Channels) (bits : List Bool) → length bits ≡ 8 * side_bytes c → SidePassesRule c bits → (side : ℕ × List Unit) × (side_at c bits ≡ Some side)
unfolding side_at
allows c bits size rule =
    let later = drop (front_width c) bits in
    let front = front_allows c bits (omega (arith, size, side_sizes c)) (record { private_bits = rule.private_bits; scfsi = rule.scfsi }) in
    let units = units_allow (units_number c) later (omega (arith, size, side_sizes c, length-drop (front_width c) bits)) rule.units in
    ((begin_at bits, units_at (units_number c) later), rw (front, units) refl)

pub side_is_exact : (c : Channels) (bits : List Bool) → length bits ≡ 8 * side_bytes c → SideIsExact c bits
side_is_exact c bits size = record { allowed = λ side. obeys c bits side size; read = allows c bits size }
