-- The planes of the classes of bands, and the classes that they tell.
use Rattle.std.proofs.Common.{◌≡◌, ◌↔◌, ℕ, ◌+◌, ◌-◌, ◌*◌, ◌<◌, ◌≤◌, Bool, true, ◌&&◌, leb, ltb, eqb, arith, refl, subst, inl, inr}
use Rattle.std.proofs.lemmas.Bool.{agree_below, agree_below_at, and_parts, cases_lt, leb-true, ltb-true, eqb-true}
use Rattle.l3_base.specs.Steps.{quarter_at}
use Rattle.l3_quant.specs.Quantiser.{magnitude_at}
use Rattle.l3_quant.specs.Thresholds.{threshold_at}
use Rattle.l3_region.specs.Lanes.{bound_at}
use Rattle.l3_region.proofs.Tables.{AreLess, AreLess-more}
use Rattle.l3_count.specs.Planes.{IsPlane, key_at}
use Rattle.l3_count.specs.Classes.{IsWide, least_at, class_less_at, class_cut_at}
use Rattle.l3_count.proofs.PlaneCuts.{IsCut, plane_is, plane_zero}
use Rattle.l3_count.proofs.Constants.{cut_test, cut_tested}

step_test : ℕ → ℕ → Bool
step_test class j = cut_test (least_at class) (265 - (130 - class_less_at class) - j) (class_cut_at class j)

order_test : ℕ → Bool
order_test class =
    ltb (class_cut_at class 0) (class_cut_at class 1) && (ltb (class_cut_at class 1) (class_cut_at class 2) && ltb (class_cut_at class 2) (class_cut_at class 3))

row_test : ℕ → Bool
row_test class =
    agree_below (step_test class) (λ _. true) 4 && (order_test class && (leb 4 (class_less_at class) && (leb (class_less_at class) 80 && (leb 1 (least_at class) && ltb (least_at class) 8193))))

rows_tested : (class : ℕ) → class < 14 → row_test class ≡ true
unfolding row_test order_test step_test cut_test threshold_at quarter_at least_at class_less_at class_cut_at
rows_tested class lt = agree_below_at row_test (λ _. true) 14 class refl lt

pub record IsClassRow (class : ℕ) : Type 0 where
  pub cuts : (j : ℕ) → j < 4 → IsCut (least_at class) (265 - (130 - class_less_at class) - j) (class_cut_at class j)
  pub first : class_cut_at class 0 < class_cut_at class 1
  pub second : class_cut_at class 1 < class_cut_at class 2
  pub third : class_cut_at class 2 < class_cut_at class 3
  pub less_least : 4 ≤ class_less_at class
  pub less_most : class_less_at class ≤ 80
  pub some : 1 ≤ least_at class
  pub room : least_at class < 8193

pub class_row : (class : ℕ) → class < 14 → IsClassRow class
unfolding row_test order_test step_test
class_row class lt =
    let one = and_parts _ _ (rows_tested class lt) in
    let two = and_parts _ _ one.1 in
    let order = and_parts _ _ two.0 in
    let order' = and_parts _ _ order.1 in
    let three = and_parts _ _ two.1 in
    let four = and_parts _ _ three.1 in
    let five = and_parts _ _ four.1 in
    record {
      cuts = λ j room. cut_tested (least_at class) (265 - (130 - class_less_at class) - j) (class_cut_at class j) (agree_below_at (step_test class) (λ _. true) 4 j one.0 room);
      first = ltb-true _ _ order.0;
      second = ltb-true _ _ order'.0;
      third = ltb-true _ _ order'.1;
      less_least = leb-true _ _ three.0;
      less_most = leb-true _ _ four.0;
      some = leb-true _ _ five.0;
      room = ltb-true _ _ five.1;
    }

-- the octave less the class's part, and the cuts that the mantissa is at
pub class_plane_from : (class x octave m s p : ℕ) → class < 14 → IsWide x octave m → ((j : ℕ) → j < 4 → (j < s) ↔ (class_cut_at class j ≤ m)) → s ≤ 4 →
    p ≡ (octave - class_less_at class) + s → IsPlane (least_at class) x p
class_plane_from class x octave m s p value is counts few e =
    let row = class_row class value in
    elim (cases_lt 0 x) [
      | inl some ↦
          (let t = is.some some in
          let same : 4 * t.0 + (130 - class_less_at class) + s ≡ p = omega (arith, e, t.2, row.less_least, row.less_most) in
          subst (λ (z : ℕ). IsPlane (least_at class) x z) same
          (plane_is (least_at class) (130 - class_less_at class) s x t.0 m (class_cut_at class) row.room (omega (arith, row.less_most)) (omega (arith, row.less_least)) few t.1 row.cuts counts))
      | inr le ↦
          (let zero_x : x ≡ 0 = omega arith in
          let both = is.zero zero_x in
          let cut = row.cuts 0 (omega arith) in
          let none : s ≡ 0 = elim (cases_lt 0 s) [
            | inl some ↦ (let at : class_cut_at class 0 ≤ m = (counts 0 (omega arith)).0 some in absurd (omega (arith, at, both.1, cut.low)))
            | inr few' ↦ omega arith
          ] in
          let p0 : 0 ≡ p = omega (arith, e, both.0, none) in
          let x0 : 0 ≡ x = omega arith in
          subst (λ (z : ℕ). IsPlane (least_at class) x z) p0 (subst (λ (z : ℕ). IsPlane (least_at class) z 0) x0 (plane_zero (least_at class) row.some)))
    ]

-- the least value above a class is one more than the class's greatest
bound_test : ℕ → Bool
bound_test class = eqb (least_at class) (bound_at class + 1)

pub least_is : (class : ℕ) → class < 13 → least_at class ≡ bound_at class + 1
unfolding bound_test least_at bound_at
least_is class lt = eqb-true _ _ (agree_below_at bound_test (λ _. true) 13 class refl lt)

-- classes counted so far
pub no_less : (value class : ℕ) → class ≡ 0 → AreLess value class 0
no_less value class e = record { within = omega arith; less = λ j lt. absurd (omega arith); others = λ j from lt. absurd (omega arith) }

pub less_more : (class peak h plane key old new : ℕ) → class < 13 → IsPlane (least_at class) peak plane → key ≡ key_at h → AreLess (magnitude_at peak h) old class →
    (key ≤ plane → new ≡ old + 1) → (plane < key → new ≡ old) → AreLess (magnitude_at peak h) new (class + 1)
less_more class peak h plane key old new lt is same before more equal =
    let least = least_is class lt in
    let r = is.reaches h in
    elim (cases_lt plane key) [
      | inl under ↦
          (let e : old + 0 ≡ new = omega (arith, equal under) in
          let few : magnitude_at peak h ≤ bound_at class = elim (cases_lt (bound_at class) (magnitude_at peak h)) [
            | inl over ↦ (let le : key_at h ≤ plane = r.1 (omega (arith, least, over)) in absurd (omega (arith, le, same, under)))
            | inr le ↦ le
          ] in
          subst (λ (z : ℕ). AreLess (magnitude_at peak h) z (class + 1)) e
          (AreLess-more (magnitude_at peak h) old class 0 (omega arith) before (λ over. absurd (omega (arith, few, over))) (λ _. refl)))
      | inr at ↦
          (let e : old + 1 ≡ new = omega (arith, more at) in
          let over : least_at class ≤ magnitude_at peak h = r.0 (let le : key_at h ≤ plane = omega (arith, same, at) in le) in
          subst (λ (z : ℕ). AreLess (magnitude_at peak h) z (class + 1)) e
          (AreLess-more (magnitude_at peak h) old class 1 (omega arith) before (λ _. refl) (λ few. absurd (omega (arith, least, over, few)))))
    ]

pub small_more : (old new class plane key : ℕ) → old ≤ class → (key ≤ plane → new ≡ old + 1) → (plane < key → new ≡ old) → new ≤ class + 1
small_more old new class plane key le more equal = elim (cases_lt plane key) [ inl under ↦ omega (arith, equal under) | inr at ↦ omega (arith, more at) ]
