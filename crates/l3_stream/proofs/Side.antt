-- Side information: what is read is spelled so, and what is spelled is read so.
use Rattle.std.proofs.Common.{◌≡◌, ℕ, zero, suc, ◌+◌, ◌*◌, ◌^◌, ◌<◌, ◌≤◌, Bool, true, ◌&&◌, leb, List, [], ◌∷◌, ◌++◌, length, take, drop, map, get_or, Some, refl, sym, ap, subst, ◌∙◌, arith, append_assoc, length-append}
use Rattle.std.specs.List.{flat_map, AllByRecursion}
use Rattle.std.proofs.lemmas.Bool.{and_parts, and_from, leb-true, le-leb}
use Rattle.std.proofs.lemmas.Option.{cond_some}
use Rattle.std.proofs.lemmas.List.{take_at, drop_at, take-append-drop, length-take-le, length-drop, append-nil, nil_from_length}
use Rattle.l3_bits.specs.Bits.{number_of}
use Rattle.l3_bits.proofs.Numbers.{number_of-below}
use Rattle.l3_bits.proofs.Bytes.{number_of-digits}
use Rattle.l3_base.specs.declared.rate.Channels.{Channels}
use Rattle.l3_base.specs.declared.rate.Channels.TheVariants.{Mono, Stereo}
use Rattle.l3_huff.specs.declared.quads.QuadTable.{QuadTable}
use Rattle.l3_huff.specs.declared.quads.QuadTable.TheVariants.{A, B}
use Rattle.l3_huff.specs.Tables.{is_table}
use Rattle.l3_huff.proofs.Shapes.{IsTable-below}
use Rattle.l3_stream.specs.declared.unit.Unit.{Unit}
use Rattle.l3_stream.specs.Units.{HasFields, zero_lines}
use Rattle.l3_stream.specs.Frames.{units_number}
use Rattle.l3_stream.specs.Fields.{same, fields_at, FieldsFit}
use Rattle.l3_stream.specs.Side.{quad_number, unit_widths, unit_values, unit_side, front_bits, front_width, side_bytes, side_bits, IsSide}
use Rattle.l3_stream.specs.SideReading.{quad_from, unit_from, stripped, unit_side_of, has_fields, unit_side_passes, units_at, units_pass, begin_at, front_passes, side_at}
use Rattle.l3_stream.proofs.Fields.{same_is, same_again, fields_again, fields_small}

-- ---- one unit

pub unit_side-length : (u : Unit) → length (unit_side u) ≡ 59
unfolding unit_side
unit_side-length u = refl

pub unit_side-stripped : (u : Unit) → unit_side (stripped u) ≡ unit_side u
unfolding unit_side stripped
unit_side-stripped u = refl

three_of : (ts : List ℕ) → length ts ≡ 3 → get_or ts 0 0 ∷ get_or ts 1 0 ∷ get_or ts 2 0 ∷ [] ≡ ts
three_of [] e = absurd (omega arith)
three_of (a ∷ []) e = absurd (omega arith)
three_of (a ∷ b ∷ []) e = absurd (omega arith)
three_of (a ∷ b ∷ c ∷ []) e = refl
three_of (a ∷ b ∷ c ∷ d ∷ ts) e = absurd (omega arith)

quad_of : (q : QuadTable) → quad_from (quad_number q) ≡ q
quad_of A = refl
quad_of B = refl

quad_small : (q : QuadTable) → quad_number q < 2 ^ 1
quad_small A = omega arith
quad_small B = omega arith

pub values_fit : (u : Unit) → HasFields u → FieldsFit unit_widths (unit_values u)
values_fit u h =
    let big = h.big in
    let first = IsTable-below _ h.table0 in
    let second = IsTable-below _ h.table1 in
    let third = IsTable-below _ h.table2 in
    (h.size, (omega arith, (h.gain, (omega arith, (omega arith, (first, (second, (third, (h.region0, (h.region1, (omega arith, (omega arith, (quad_small u.quad, tt)))))))))))))

abbrev with_parts : Unit → List ℕ → QuadTable → Unit
with_parts u tables quad = record u { quads = 0; lines = zero_lines 576; tables = tables; quad = quad }

pub unit_values_again : (u : Unit) → HasFields u → fields_at unit_widths (unit_side u) ≡ unit_values u
unfolding unit_side
unit_values_again u h = ap (fields_at unit_widths) (sym (append-nil (unit_side u))) ∙ fields_again unit_widths (unit_values u) [] (values_fit u h)

pub unit_side_again : (u : Unit) → HasFields u → unit_side_of (unit_side u) ≡ stripped u
unfolding unit_side_of stripped
unit_side_again u h =
    ap unit_from (unit_values_again u h)
    ∙ (ap (λ ts. with_parts u ts (quad_from (quad_number u.quad))) (three_of u.tables h.three) ∙ ap (λ q. with_parts u u.tables q) (quad_of u.quad))

has_fields_again : (u : Unit) → HasFields u → has_fields (stripped u) ≡ true
unfolding has_fields stripped
has_fields_again u h = and_from _ _ (le-leb _ _ h.big) (and_from _ _ (le-leb _ _ h.regions) (and_from _ _ h.table0 (and_from _ _ h.table1 h.table2)))

pub unit_side_passes_again : (u : Unit) → HasFields u → unit_side_passes (unit_side u) ≡ true
unfolding unit_side_passes
unit_side_passes_again u h = rw (unit_side_again u h, unit_side-stripped u) (and_from _ _ (same_again (unit_side u)) (has_fields_again u h))

-- a unit as the side information gives it
pub record IsSideUnit (u : Unit) : Type 0 where
  pub fields : HasFields u
  pub bare : stripped u ≡ u

pub record IsUnitSide (bits : List Bool) (u : Unit) : Type 0 where
  pub text : bits ≡ unit_side u
  pub unit : IsSideUnit u

pub unit_side_takes : (bits : List Bool) → unit_side_passes bits ≡ true → IsUnitSide bits (unit_side_of bits)
unfolding unit_side_passes has_fields stripped unit_side_of
unit_side_takes bits e =
    let u = unit_side_of bits in
    let a = and_parts (same bits (unit_side u)) (has_fields u) e in
    let b = and_parts (leb u.big 288) (leb (u.region0 + u.region1 + 2) 22 && (is_table (get_or u.tables 0 0) && (is_table (get_or u.tables 1 0) && is_table (get_or u.tables 2 0)))) a.1 in
    let c = and_parts (leb (u.region0 + u.region1 + 2) 22) (is_table (get_or u.tables 0 0) && (is_table (get_or u.tables 1 0) && is_table (get_or u.tables 2 0))) b.1 in
    let d = and_parts (is_table (get_or u.tables 0 0)) (is_table (get_or u.tables 1 0) && is_table (get_or u.tables 2 0)) c.1 in
    let f = and_parts (is_table (get_or u.tables 1 0)) (is_table (get_or u.tables 2 0)) d.1 in
    let text : bits ≡ unit_side u = same_is bits (unit_side u) a.0 in
    let small = fields_small unit_widths bits (omega (arith, ap length text, unit_side-length u)) in
    record {
      text = text;
      unit = record {
        fields = record { size = small.0; big = leb-true _ _ b.0; gain = small.1.1.0; region0 = small.1.1.1.1.1.1.1.1.0; region1 = small.1.1.1.1.1.1.1.1.1.0; regions = leb-true _ _ c.0; three = refl; table0 = d.0; table1 = f.0; table2 = f.1 };
        bare = refl;
      };
    }

-- ---- all units

pub record AreSides (n : ℕ) (bits : List Bool) (us : List Unit) : Type 0 where
  pub number : length us ≡ n
  pub units : AllByRecursion IsSideUnit us
  pub rest : List Bool
  pub text : bits ≡ flat_map unit_side us ++ rest

pub units_take : (n : ℕ) (bits : List Bool) → units_pass n bits ≡ true → AreSides n bits (units_at n bits)
unfolding units_at units_pass
units_take zero bits e = record { number = refl; units = tt; rest = bits; text = refl }
units_take (suc n) bits e =
    let both = and_parts (unit_side_passes (take 59 bits)) (units_pass n (drop 59 bits)) e in
    let one = unit_side_takes (take 59 bits) both.0 in
    let more = units_take n (drop 59 bits) both.1 in
    let others = units_at n (drop 59 bits) in
    let text : bits ≡ unit_side (unit_side_of (take 59 bits)) ++ (flat_map unit_side others ++ more.rest) =
    sym (take-append-drop 59 bits) ∙ (ap (λ l. l ++ drop 59 bits) one.text ∙ ap (λ l. unit_side (unit_side_of (take 59 bits)) ++ l) more.text) in
    record {
      number = ap suc more.number;
      units = (one.unit, more.units);
      rest = more.rest;
      text = text ∙ sym (append_assoc (unit_side (unit_side_of (take 59 bits))) (flat_map unit_side others) more.rest);
    }

record AreFound (us : List Unit) (bits : List Bool) : Type 0 where
  pass : units_pass (length us) bits ≡ true
  given : units_at (length us) bits ≡ map stripped us

units_again : (us : List Unit) (rest : List Bool) → AllByRecursion HasFields us → AreFound us (flat_map unit_side us ++ rest)
unfolding units_at units_pass
units_again [] rest all = record { pass = refl; given = refl }
units_again (u ∷ us) rest all =
    let tail = flat_map unit_side us ++ rest in
    let whole = flat_map unit_side (u ∷ us) ++ rest in
    let regrouped : whole ≡ unit_side u ++ tail = append_assoc (unit_side u) (flat_map unit_side us) rest in
    let front : take 59 whole ≡ unit_side u = ap (take 59) regrouped ∙ take_at (unit_side u) tail 59 (unit_side-length u) in
    let back : drop 59 whole ≡ tail = ap (drop 59) regrouped ∙ drop_at (unit_side u) tail 59 (unit_side-length u) in
    let more = units_again us rest all.1 in
    record {
      pass = and_from _ _ (ap unit_side_passes front ∙ unit_side_passes_again u all.0) (ap (units_pass (length us)) back ∙ more.pass);
      given = ap (λ v. v ∷ units_at (length us) (drop 59 whole)) (ap unit_side_of front ∙ unit_side_again u all.0)
          ∙ ap (λ vs. stripped u ∷ vs) (ap (units_at (length us)) back ∙ more.given);
    }

pub sides-length : (us : List Unit) → length (flat_map unit_side us) ≡ 59 * length us
sides-length [] = refl
sides-length (u ∷ us) = omega (arith, length-append (unit_side u) (flat_map unit_side us), unit_side-length u, sides-length us)

-- ---- the side information

pub front-length : (c : Channels) (begin : ℕ) → length (front_bits c begin) ≡ front_width c
unfolding front_bits
front-length Mono begin = refl
front-length Stereo begin = refl

front_number : (c : Channels) (begin : ℕ) (rest : List Bool) → begin < 2 ^ 9 → begin_at (front_bits c begin ++ rest) ≡ begin
unfolding front_bits
front_number Mono begin rest lt = number_of-digits 9 begin lt
front_number Stereo begin rest lt = number_of-digits 9 begin lt

pub side_sizes : (c : Channels) → 8 * side_bytes c ≡ front_width c + 59 * units_number c
side_sizes Mono = refl
side_sizes Stereo = refl

wide_enough : (c : Channels) → 9 ≤ 8 * side_bytes c
wide_enough Mono = omega arith
wide_enough Stereo = omega arith

pub side-length : (c : Channels) (begin : ℕ) (us : List Unit) → length us ≡ units_number c → length (side_bits c begin us) ≡ 8 * side_bytes c
side-length c begin us e = omega (arith, length-append (front_bits c begin) (flat_map unit_side us), front-length c begin, sides-length us, side_sizes c, ap (λ n. 59 * n) e)

-- side information, and that its units have no lines
pub record IsSideRead (c : Channels) (bits : List Bool) (x : ℕ × List Unit) : Type 0 where
  pub side : IsSide c bits x.0 x.1
  pub units : AllByRecursion IsSideUnit x.1

all_fields : (us : List Unit) → AllByRecursion IsSideUnit us → AllByRecursion HasFields us
all_fields [] all = tt
all_fields (u ∷ us) all = let one : IsSideUnit u = all.0 in (one.fields, all_fields us all.1)

pub side_takes : (c : Channels) (bits : List Bool) (x : ℕ × List Unit) → length bits ≡ 8 * side_bytes c → side_at c bits ≡ Some x → IsSideRead c bits x
unfolding side_at front_passes
side_takes c bits x size e =
    let begin = begin_at bits in
    let later = drop (front_width c) bits in
    let us = units_at (units_number c) later in
    let found = cond_some (front_passes c bits && units_pass (units_number c) later) (begin, us) x e in
    let both = and_parts (front_passes c bits) (units_pass (units_number c) later) found.0 in
    let front : take (front_width c) bits ≡ front_bits c begin = same_is _ _ both.0 in
    let more = units_take (units_number c) later both.1 in
    let nothing : more.rest ≡ [] = nil_from_length more.rest (omega (arith, size, side_sizes c, length-drop (front_width c) bits, ap length more.text, length-append (flat_map unit_side us) more.rest, sides-length us, ap (λ n. 59 * n) more.number)) in
    let back : later ≡ flat_map unit_side us = more.text ∙ (ap (λ l. flat_map unit_side us ++ l) nothing ∙ append-nil (flat_map unit_side us)) in
    let nine : length (take 9 bits) ≡ 9 = length-take-le 9 bits (omega (arith, size, wide_enough c)) in
    subst (IsSideRead c bits) found.1 (record {
      side = record {
        small = subst (λ (n : ℕ). number_of (take 9 bits) < 2 ^ n) nine (number_of-below (take 9 bits));
        number = more.number;
        fields = all_fields us more.units;
        text = sym (take-append-drop (front_width c) bits) ∙ (ap (λ l. l ++ later) front ∙ ap (λ l. front_bits c begin ++ l) back);
      };
      units = more.units;
    })

pub side_again : (c : Channels) (begin : ℕ) (us : List Unit) → begin < 2 ^ 9 → length us ≡ units_number c → AllByRecursion HasFields us → side_at c (side_bits c begin us) ≡ Some (begin, map stripped us)
unfolding side_at front_passes
side_again c begin us lt number all =
    let tail = flat_map unit_side us in
    let bits = front_bits c begin ++ tail in
    let front : take (front_width c) bits ≡ front_bits c begin = take_at (front_bits c begin) tail (front_width c) (front-length c begin) in
    let back : drop (front_width c) bits ≡ tail ++ [] = drop_at (front_bits c begin) tail (front_width c) (front-length c begin) ∙ sym (append-nil tail) in
    let more = units_again us [] all in
    let pass : units_pass (units_number c) (drop (front_width c) bits) ≡ true = ap (λ n. units_pass n (drop (front_width c) bits)) (sym number) ∙ (ap (units_pass (length us)) back ∙ more.pass) in
    let given : units_at (units_number c) (drop (front_width c) bits) ≡ map stripped us = ap (λ n. units_at n (drop (front_width c) bits)) (sym number) ∙ (ap (units_at (length us)) back ∙ more.given) in
    rw (front_number c begin tail lt, front, same_again (front_bits c begin), pass, given) refl

pub side_is_found : (c : Channels) (bits : List Bool) (begin : ℕ) (us : List Unit) → IsSide c bits begin us → side_at c bits ≡ Some (begin, map stripped us)
side_is_found c bits begin us is = ap (side_at c) is.text ∙ side_again c begin us is.small is.number is.fields

pub side_is_there : (c : Channels) (bits : List Bool) (begin : ℕ) (us : List Unit) → length bits ≡ 8 * side_bytes c → side_at c bits ≡ Some (begin, us) → IsSide c bits begin us
side_is_there c bits begin us size e = (side_takes c bits (begin, us) size e).side
