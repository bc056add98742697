-- Units: what is read from their bits is spelled so, and what is spelled so is read.
use Rattle.std.proofs.Common.{◌≡◌, ℕ, ◌+◌, ◌-◌, ◌*◌, ◌/◌, ◌≤◌, Bool, List, [], ◌∷◌, ◌++◌, length, take, drop, map, get_or, cond, ltb, Ok, refl, sym, ap, subst, ◌∙◌, arith, append_assoc, length-append, inl, inr}
use Rattle.std.specs.Prelude.{ℤ, pos}
use Rattle.std.specs.List.{AllByRecursion}
use Rattle.std.proofs.lemmas.Bool.{cases_Bool}
use Rattle.std.proofs.lemmas.List.{take_at, drop_at, take-append-drop, length-take-le, length-drop, length-replicate, drop-drop}
use Rattle.l3_base.specs.declared.settings.Settings.{Settings}
use Rattle.l3_huff.specs.Tables.{IsTable}
use Rattle.l3_stream.specs.declared.unit.Unit.{Unit}
use Rattle.l3_stream.specs.Units.{edge, table_at, pairs_code, PairsHold, quads_code, pairs_of, quads_of, zero_lines, unit_bits, lengths, HasFields, IsCodedUnit}
use Rattle.l3_stream.specs.Frames.{units_bits}
use Rattle.l3_stream.specs.SideReading.{stripped}
use Rattle.l3_stream.specs.Faults.{◌>>=◌}
use Rattle.l3_stream.specs.UnitReading.{pairs_at, quads_at, with_lines, unit_at, main_units_at}
use Rattle.l3_stream.proofs.Steps.{bind_ok, ok_is}
use Rattle.l3_stream.proofs.Side.{IsSideUnit}
use Rattle.l3_stream.proofs.LineReading.{AreTables, pairs_take, pairs_again, quads_take, quads_again}

-- ---- a unit

-- each line of a unit has a table of the profile
table_is : (st : Settings) (u : Unit) → HasFields u → AreTables (table_at st u)
unfolding table_at
table_is st u h line =
    elim (cases_Bool (ltb line (edge st (u.region0 + 1)))) as (λ _. IsTable (get_or u.tables (cond (ltb line (edge st (u.region0 + 1))) 0 (cond (ltb line (edge st (u.region0 + u.region1 + 2))) 1 2)) 0)) [
      | inl below ↦ rw below h.table0
      | inr above ↦ elim (cases_Bool (ltb line (edge st (u.region0 + u.region1 + 2)))) as (λ _. IsTable (get_or u.tables (cond (ltb line (edge st (u.region0 + 1))) 0 (cond (ltb line (edge st (u.region0 + u.region1 + 2))) 1 2)) 0)) [
        | inl within ↦ rw (above, within) h.table1
        | inr past ↦ rw (above, past) h.table2
      ]
    ]

pub table_at-with_lines : (st : Settings) (u : Unit) (pairs quads : List ℤ) (at : ℕ) → table_at st (with_lines u pairs quads) at ≡ table_at st u at
unfolding table_at with_lines
table_at-with_lines st u pairs quads at = refl

unit_bits-with_lines : (st : Settings) (u : Unit) (pairs quads : List ℤ) → pairs_of (with_lines u pairs quads) ≡ pairs → quads_of (with_lines u pairs quads) ≡ quads
    → unit_bits st (with_lines u pairs quads) ≡ pairs_code (table_at st u) 0 pairs ++ quads_code u.quad quads
unfolding unit_bits with_lines table_at
unit_bits-with_lines st u pairs quads p q = rw (p, q) refl

zeros-length : (n : ℕ) → length (zero_lines n) ≡ n
unfolding zero_lines
zeros-length n = length-replicate n (pos 0)

record HasLines (u : Unit) (pairs quads : List ℤ) (n : ℕ) : Type 0 where
  count : (with_lines u pairs quads).quads ≡ n
  first : pairs_of (with_lines u pairs quads) ≡ pairs
  second : quads_of (with_lines u pairs quads) ≡ quads
  size : length (with_lines u pairs quads).lines ≡ 576
  past : drop (2 * u.big + 4 * n) (with_lines u pairs quads).lines ≡ zero_lines (576 - (2 * u.big + 4 * n))

has_lines : (u : Unit) (pairs quads : List ℤ) (n : ℕ) → length pairs ≡ 2 * u.big → length quads ≡ 4 * n → 2 * u.big + 4 * n ≤ 576 → HasLines u pairs quads n
unfolding with_lines pairs_of quads_of
has_lines u pairs quads n two four le =
    let zeros = zero_lines (576 - (length pairs + length quads)) in
    let count : length quads / 4 ≡ n = omega arith in
    let behind : drop (2 * u.big) (pairs ++ (quads ++ zeros)) ≡ quads ++ zeros = drop_at pairs (quads ++ zeros) (2 * u.big) two in
    let size : length pairs + length quads ≡ 2 * u.big + 4 * n = omega arith in
    record {
      count = count;
      first = take_at pairs (quads ++ zeros) (2 * u.big) two;
      second = rw (behind, count) (take_at quads zeros (4 * n) four);
      size = omega (arith, length-append pairs (quads ++ zeros), length-append quads zeros, zeros-length (576 - (length pairs + length quads)));
      past = ap (drop (2 * u.big + 4 * n)) (sym (append_assoc pairs quads zeros)) ∙ (drop_at (pairs ++ quads) zeros (2 * u.big + 4 * n) (length-append pairs quads ∙ size) ∙ ap (λ k. zero_lines (576 - k)) size);
    }

pub record IsRead (st : Settings) (u : Unit) (bits : List Bool) (v : Unit) : Type 0 where
  pub coded : IsCodedUnit st v
  pub side : stripped v ≡ stripped u
  pub text : unit_bits st v ≡ bits

fields-with_lines : (u : Unit) (pairs quads : List ℤ) → HasFields u → HasFields (with_lines u pairs quads)
unfolding with_lines
fields-with_lines u pairs quads h = record { size = h.size; big = h.big; gain = h.gain; region0 = h.region0; region1 = h.region1; regions = h.regions; three = h.three; table0 = h.table0; table1 = h.table1; table2 = h.table2 }

stripped-with_lines : (u : Unit) (pairs quads : List ℤ) → stripped (with_lines u pairs quads) ≡ stripped u
unfolding with_lines stripped
stripped-with_lines u pairs quads = refl

big-with_lines : (u : Unit) (pairs quads : List ℤ) → (with_lines u pairs quads).big ≡ u.big
unfolding with_lines
big-with_lines u pairs quads = refl

length-with_lines : (u : Unit) (pairs quads : List ℤ) → (with_lines u pairs quads).length ≡ u.length
unfolding with_lines
length-with_lines u pairs quads = refl

pairs_hold-with_lines : (st : Settings) (u : Unit) (pairs quads xs : List ℤ) → PairsHold (table_at st u) 0 xs → PairsHold (table_at st (with_lines u pairs quads)) 0 xs
unfolding table_at with_lines
pairs_hold-with_lines st u pairs quads xs h = h

pub unit_takes : (st : Settings) (end : ℕ) (u : Unit) (bits : List Bool) (v : Unit) → HasFields u → length bits ≡ u.length → unit_at st end u bits ≡ Ok v → IsRead st u bits v
unfolding unit_at
unit_takes st end u bits v fields size e =
    let a = bind_ok (pairs_at (table_at st u) end 0 u.big bits) (λ pairs. quads_at u.quad end ((576 - 2 * u.big) / 4) pairs.1 >>= λ quads. Ok (with_lines u pairs.0 quads)) v e in
    let b = bind_ok (quads_at u.quad end ((576 - 2 * u.big) / 4) a.0.1) (λ quads. Ok (with_lines u a.0.0 quads)) v a.2 in
    let pairs = pairs_take (table_at st u) end 0 u.big bits a.0 (table_is st u fields) a.1 in
    let quads = quads_take u.quad end ((576 - 2 * u.big) / 4) a.0.1 b.0 b.1 in
    let big = fields.big in
    let few = quads.few in
    let n = quads.count in
    let le : 2 * u.big + 4 * quads.count ≤ 576 = omega arith in
    let has = has_lines u a.0.0 b.0 quads.count pairs.number quads.number le in
    let w = with_lines u a.0.0 b.0 in
    let text : unit_bits st w ≡ bits = unit_bits-with_lines st u a.0.0 b.0 has.first has.second ∙ (ap (λ l. pairs_code (table_at st u) 0 a.0.0 ++ l) (sym quads.text) ∙ sym pairs.text) in
    let places : 2 * w.big + 4 * w.quads ≡ 2 * u.big + 4 * quads.count = omega (arith, has.count, big-with_lines u a.0.0 b.0) in
    subst (IsRead st u bits) (ok_is w v b.2) (record {
      coded = record {
        fields = fields-with_lines u a.0.0 b.0 fields;
        lines = has.size;
        places = omega arith;
        past = rw places has.past;
        pairs = rw has.first (pairs_hold-with_lines st u a.0.0 b.0 a.0.0 pairs.held);
        quads = rw has.second quads.held;
        bits = length-with_lines u a.0.0 b.0 ∙ (sym size ∙ ap length (sym text));
      };
      side = stripped-with_lines u a.0.0 b.0;
      text = text;
    })

pairs_of-length : (u : Unit) → length u.lines ≡ 576 → 2 * u.big ≤ 576 → length (pairs_of u) ≡ 2 * u.big
unfolding pairs_of
pairs_of-length u e le = length-take-le (2 * u.big) u.lines (omega arith)

quads_of-length : (u : Unit) → length u.lines ≡ 576 → 2 * u.big + 4 * u.quads ≤ 576 → length (quads_of u) ≡ 4 * u.quads
unfolding quads_of
quads_of-length u e le = length-take-le (4 * u.quads) (drop (2 * u.big) u.lines) (omega (arith, length-drop (2 * u.big) u.lines))

abbrev whole : Unit → ℕ → List ℤ → Unit
whole u n xs = record u { quads = n; lines = xs }

lines_again : (u : Unit) → length (pairs_of u) + length (quads_of u) ≡ 2 * u.big + 4 * u.quads → drop (2 * u.big + 4 * u.quads) u.lines ≡ zero_lines (576 - (2 * u.big + 4 * u.quads)) → pairs_of u ++ (quads_of u ++ zero_lines (576 - (length (pairs_of u) + length (quads_of u)))) ≡ u.lines
unfolding pairs_of quads_of
lines_again u size past =
    rw (size, ← past, ← drop-drop (4 * u.quads) (2 * u.big) u.lines, take-append-drop (4 * u.quads) (drop (2 * u.big) u.lines)) (take-append-drop (2 * u.big) u.lines)

again-with_lines : (st : Settings) (u : Unit) → IsCodedUnit st u → with_lines (stripped u) (pairs_of u) (quads_of u) ≡ u
unfolding with_lines stripped
again-with_lines st u h =
    let places = h.places in
    let two = pairs_of-length u h.lines (omega arith) in
    let four = quads_of-length u h.lines h.places in
    let count : length (quads_of u) / 4 ≡ u.quads = omega arith in
    let size : length (pairs_of u) + length (quads_of u) ≡ 2 * u.big + 4 * u.quads = omega arith in
    ap (λ n. whole u n (pairs_of u ++ (quads_of u ++ zero_lines (576 - (length (pairs_of u) + length (quads_of u)))))) count
    ∙ ap (λ xs. whole u u.quads xs) (lines_again u size h.past)

big_same : (u : Unit) → (stripped u).big ≡ u.big
unfolding stripped
big_same u = refl

pairs_same : (st : Settings) (end : ℕ) (u : Unit) → IsCodedUnit st u → pairs_at (table_at st (stripped u)) end 0 (stripped u).big (pairs_code (table_at st u) 0 (pairs_of u) ++ quads_code u.quad (quads_of u)) ≡ Ok (pairs_of u, quads_code u.quad (quads_of u))
unfolding stripped table_at
pairs_same st end u h =
    let places = h.places in
    pairs_again (table_at st u) end 0 u.big (pairs_of u) (quads_code u.quad (quads_of u)) (pairs_of-length u h.lines (omega arith)) h.pairs

quads_same : (st : Settings) (end : ℕ) (u : Unit) → IsCodedUnit st u → quads_at (stripped u).quad end ((576 - 2 * (stripped u).big) / 4) (quads_code u.quad (quads_of u)) ≡ Ok (quads_of u)
unfolding stripped
quads_same st end u h =
    let places = h.places in
    quads_again u.quad end ((576 - 2 * u.big) / 4) u.quads (quads_of u) (quads_of-length u h.lines h.places) (omega arith) h.quads

pub unit_again : (st : Settings) (end : ℕ) (u : Unit) → IsCodedUnit st u → unit_at st end (stripped u) (unit_bits st u) ≡ Ok u
unfolding unit_at unit_bits ◌>>=◌
unit_again st end u h =
    let places = h.places in
    let big : (stripped u).big ≡ u.big = big_same u in
    let pairs : pairs_at (table_at st (stripped u)) end 0 (stripped u).big (pairs_code (table_at st u) 0 (pairs_of u) ++ quads_code u.quad (quads_of u)) ≡ Ok (pairs_of u, quads_code u.quad (quads_of u)) = pairs_same st end u h in
    let quads : quads_at (stripped u).quad end ((576 - 2 * (stripped u).big) / 4) (quads_code u.quad (quads_of u)) ≡ Ok (quads_of u) = quads_same st end u h in
    rw (pairs, quads, again-with_lines st u h) refl

-- ---- units one after the other

pub record AreRead (st : Settings) (sides : List Unit) (bits : List Bool) (us : List Unit) : Type 0 where
  pub coded : AllByRecursion (IsCodedUnit st) us
  pub side : map stripped us ≡ map stripped sides
  pub text : bits ≡ units_bits st us ++ drop (lengths sides) bits

pub units_take : (st : Settings) (at : ℕ) (sides : List Unit) (bits : List Bool) (us : List Unit) → AllByRecursion IsSideUnit sides → lengths sides ≤ length bits → main_units_at st at sides bits ≡ Ok us → AreRead st sides bits us
unfolding main_units_at
units_take st at [] bits us all le e = subst (AreRead st [] bits) (ok_is [] us e) (record { coded = tt; side = refl; text = refl })
units_take st at (u ∷ sides) bits us all le e =
    let a = bind_ok (unit_at st (at + u.length) u (take u.length bits)) (λ unit. main_units_at st (at + u.length) sides (drop u.length bits) >>= λ others. Ok (unit ∷ others)) us e in
    let b = bind_ok (main_units_at st (at + u.length) sides (drop u.length bits)) (λ others. Ok (a.0 ∷ others)) us a.2 in
    let here : IsSideUnit u = all.0 in
    let one = unit_takes st (at + u.length) u (take u.length bits) a.0 here.fields (length-take-le u.length bits (omega arith)) a.1 in
    let more = units_take st (at + u.length) sides (drop u.length bits) b.0 all.1 (omega (arith, length-drop u.length bits)) b.1 in
    let side : stripped a.0 ∷ map stripped b.0 ≡ stripped u ∷ map stripped sides = ap (λ x. x ∷ map stripped b.0) one.side ∙ ap (λ l. stripped u ∷ l) more.side in
    let rest = drop (u.length + lengths sides) bits in
    let back : drop u.length bits ≡ units_bits st b.0 ++ rest = more.text ∙ ap (λ l. units_bits st b.0 ++ l) (drop-drop (lengths sides) u.length bits) in
    let text : bits ≡ unit_bits st a.0 ++ (units_bits st b.0 ++ rest) = sym (take-append-drop u.length bits) ∙ (ap (λ l. l ++ drop u.length bits) (sym one.text) ∙ ap (λ l. unit_bits st a.0 ++ l) back) in
    subst (AreRead st (u ∷ sides) bits) (ok_is (a.0 ∷ b.0) us b.2) (record {
      coded = (one.coded, more.coded);
      side = side;
      text = text ∙ sym (append_assoc (unit_bits st a.0) (units_bits st b.0) rest);
    })

stripped-length : (u : Unit) → (stripped u).length ≡ u.length
unfolding stripped
stripped-length u = refl

pub units_again : (st : Settings) (at : ℕ) (us : List Unit) (rest : List Bool) → AllByRecursion (IsCodedUnit st) us → main_units_at st at (map stripped us) (units_bits st us ++ rest) ≡ Ok us
unfolding main_units_at ◌>>=◌
units_again st at [] rest all = refl
units_again st at (u ∷ us) rest all =
    let here : IsCodedUnit st u = all.0 in
    let tail = units_bits st us ++ rest in
    let regrouped : units_bits st (u ∷ us) ++ rest ≡ unit_bits st u ++ tail = append_assoc (unit_bits st u) (units_bits st us) rest in
    let size : length (unit_bits st u) ≡ (stripped u).length = sym here.bits ∙ sym (stripped-length u) in
    let front : take (stripped u).length (unit_bits st u ++ tail) ≡ unit_bits st u = take_at (unit_bits st u) tail (stripped u).length size in
    let back : drop (stripped u).length (unit_bits st u ++ tail) ≡ tail = drop_at (unit_bits st u) tail (stripped u).length size in
    ap (main_units_at st at (map stripped (u ∷ us))) regrouped
    ∙ rw (front, back, unit_again st (at + (stripped u).length) u here, units_again st (at + (stripped u).length) us rest all.1) refl

pub lengths-bits : (st : Settings) (us : List Unit) → AllByRecursion (IsCodedUnit st) us → lengths (map stripped us) ≡ length (units_bits st us)
lengths-bits st [] all = refl
lengths-bits st (u ∷ us) all =
    let here : IsCodedUnit st u = all.0 in
    let bits = here.bits in
    omega (arith, stripped-length u, lengths-bits st us all.1, length-append (unit_bits st u) (units_bits st us))

pub lengths-stripped : (us : List Unit) → lengths (map stripped us) ≡ lengths us
lengths-stripped [] = refl
lengths-stripped (u ∷ us) = omega (arith, stripped-length u, lengths-stripped us)

pub bare_units : (us : List Unit) → AllByRecursion IsSideUnit us → map stripped us ≡ us
bare_units [] all = refl
bare_units (u ∷ us) all =
    let here : IsSideUnit u = all.0 in
    ap (λ x. x ∷ map stripped us) here.bare ∙ ap (λ l. u ∷ l) (bare_units us all.1)

pub fields_of : (st : Settings) (us : List Unit) → AllByRecursion (IsCodedUnit st) us → AllByRecursion HasFields us
fields_of st [] all = tt
fields_of st (u ∷ us) all = let here : IsCodedUnit st u = all.0 in (here.fields, fields_of st us all.1)
