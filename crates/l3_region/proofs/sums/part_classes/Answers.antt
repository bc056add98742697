use Rattle.std.proofs.Common.{◌≡◌, ◌≢◌, ℕ, List, ◌<◌, ◌≤◌, ◌+◌, ◌-◌, ◌/◌, ◌∙◌, get_or, get_or-set_other, get_or-set_same, length, inl, inr, arith, ap, sym, subst, min, leb}
use Rattle.std.specs.Prelude.{slice_range}
use Rattle.std.proofs.lemmas.Bool.{cases_eq, cases_lt}
use Rattle.std.proofs.lemmas.List.{get_or_past}
use Rattle.std.proofs.Math.ListN.{set, length-set}
use Rattle.l3_base.specs.Bands.{edge_at}
use Rattle.l3_base.proofs.Edges.{edge_order}
use Rattle.std.specs.List.{list_all}
use Rattle.l3_region.specs.Split.{end_of_pairs}
use Rattle.l3_region.specs.Pairs.{IsBandClass, lines_in}
use Rattle.l3_region.proofs.CutClasses.{part_tells, whole_tells}
use Rattle.l3_region.proofs.sums.part_classes.Goals as goal

few_first : (own classes : List ℕ) → length own ≡ 32 → ((b : ℕ) → b < 22 → get_or own b 0 ≡ get_or classes b 0) → ((b : ℕ) → 22 ≤ b → b < 32 → get_or own b 0 ≡ 0) → ((b : ℕ) → b < 22 → get_or classes b 0 < 14) →
    (b : ℕ) → get_or own b 0 < 14
few_first own classes long whole none few b = elim (cases_lt b 22) [
  | inl band ↦ omega (arith, whole b band, few b band)
  | inr past ↦ elim (cases_lt b 32) [
    | inl lt ↦ omega (arith, none b past lt)
    | inr ge ↦ (let e = get_or_past own b 0 (omega (arith, long, ge)) in omega (arith, e))
  ]
]

pub loop-band-init : goal.loop-band-init
loop-band-init c =
    let made = c.whole_classes-own.ensures in
    record {
      within = omega arith;
      long = made.long;
      done = λ b from to. absurd (omega arith);
      whole = made.own;
      few = few_first c.whole_classes-own.result c.args.classes.now made.long made.own made.none c.requires.known.1.few;
    }

few_more : (classes : List ℕ) (i v : ℕ) → i < length classes → v < 14 → ((b : ℕ) → get_or classes b 0 < 14) → (b : ℕ) → get_or (set classes i v) b 0 < 14
few_more classes i v lt small few b = elim (cases_eq b i) [
  | inl same ↦ (let e = get_or-set_same classes i v 0 lt in let at = ap (λ j. get_or (set classes i v) j 0) same in omega (arith, e, at))
  | inr other ↦ (let ne : b ≢ i = other in let e = get_or-set_other classes i b v 0 ne in omega (arith, e, few b))
]

-- the class of one part more
told : (rate : ℕ) (pairs classes : List ℕ) (end b from found whole : ℕ) → length pairs ≡ 288 → rate < 3 → b < 22 → end < edge_at rate (b + 1) → end ≡ end_of_pairs (lines_in pairs) → from ≡ min (edge_at rate b) end →
    whole ≡ get_or classes b 0 → (2 ≤ whole → found ≡ whole) → (whole < 2 → found < 2) → (whole < 2 → list_all (λ x. leb x 0) (slice_range pairs (from / 2) (end / 2)) ≡ leb found 0) → IsBandClass pairs classes rate end b found
unfolding IsBandClass
told rate pairs classes end b from found whole long small lt past ends from_is own high low zeros = λ q is.
    part_tells rate q pairs classes end b from found is long small lt past ends from_is (λ many. high (omega (arith, own, many)) ∙ own) (λ few. low (omega (arith, own, few))) (λ few. zeros (omega (arith, own, few)))

pub loop-band-preserved : goal.loop-band-preserved
loop-band-preserved c =
    let inv = c.loop-band.invariant in
    let own = c.loop-band.own in
    let b = c.loop-band.band - 1 in
    let found = c.part_class.result in
    let part = c.part_class.ensures in
    let next : b + 1 ≡ c.loop-band.band = omega (arith, c.loop-band-test.true) in
    let band : b < 22 = omega (arith, inv.within, next) in
    let room : b < length own = omega (arith, inv.long, band) in
    let past : c.args.end < edge_at c.args.rate (b + 1) = omega (arith, c.if-from-end.true, c.from.ensures, c.edge.ensures.value, ap (edge_at c.args.rate) next) in
    let from_is : c.min-from.result ≡ min (edge_at c.args.rate b) c.args.end = omega (arith, c.min-from.ensures, c.from-in-loop-band.ensures, c.edge-in-loop-band.ensures.value) in
    let whole = inv.whole b (omega (arith, next)) in
    let here = told c.args.rate c.args.pairs.now c.args.classes.now c.args.end b c.min-from.result found (get_or own b 0) c.told-pairs c.requires.rate band past c.requires.ends from_is whole part.high part.low part.zeros in
    let small : found < 14 = elim (cases_lt (get_or own b 0) 2) [
      | inl few ↦ omega (arith, part.low few)
      | inr many ↦ omega (arith, part.high many, inv.few b)
    ] in
    record {
      within = omega (arith, inv.within);
      long = length-set own b found ∙ inv.long;
      done = λ i from to. elim (cases_eq i b) [
        | inl same ↦
            (let at : get_or (set own b found) i 0 ≡ found = ap (λ k. get_or (set own b found) k 0) same ∙ get_or-set_same own b found 0 room in
            let P : ℕ → ℕ → Type 0 = λ k v. IsBandClass c.args.pairs.now c.args.classes.now c.args.rate c.args.end k v in
            subst (λ (v : ℕ). P i v) (sym at) (subst (λ (k : ℕ). P k found) (sym same) here))
        | inr other ↦
            (let ne : i ≢ b = other in
            let at : get_or (set own b found) i 0 ≡ get_or own i 0 = get_or-set_other own b i found 0 ne in
            let P : ℕ → Type 0 = λ v. IsBandClass c.args.pairs.now c.args.classes.now c.args.rate c.args.end i v in
            subst P (sym at) (inv.done i (omega (arith, from, ne, next)) to))
      ];
      whole = λ i lt.
          let ne : i ≢ b = omega arith in
          get_or-set_other own b i found 0 ne ∙ inv.whole i (omega (arith, lt));
      few = few_more own b found room small inv.few;
    }

-- bands that end before the pairs do have their own classes
ended : (rate : ℕ) (pairs classes own : List ℕ) (end band : ℕ) → rate < 3 → band ≤ 22 → (0 < band → edge_at rate band ≤ end) → ((b : ℕ) → band ≤ b → b < 22 → IsBandClass pairs classes rate end b (get_or own b 0)) →
    ((b : ℕ) → b < band → get_or own b 0 ≡ get_or classes b 0) → (b : ℕ) → b < 22 → IsBandClass pairs classes rate end b (get_or own b 0)
unfolding IsBandClass
ended rate pairs classes own end band small within past done whole b lt = elim (cases_lt b band) [
  | inl before ↦ λ q is.
      let rises = edge_order rate (b + 1) band small (omega arith) (omega arith) in
      let le = past (omega arith) in
      rw (whole b before) (whole_tells rate q pairs classes end b is small lt (omega (arith, rises, le)))
  | inr after ↦ done b after lt
]

pub returns-else-from-end-clause-value : goal.returns-else-from-end-clause-value
returns-else-from-end-clause-value c =
    let inv = c.loop-band.invariant in
    ended c.args.rate c.args.pairs.now c.args.classes.now c.loop-band.own c.args.end c.loop-band.band c.requires.rate inv.within (λ some. omega (arith, c.if-from-end.false, c.from.ensures, c.edge.ensures.value)) inv.done inv.whole

pub returns-after-loop-band-clause-value : goal.returns-after-loop-band-clause-value
returns-after-loop-band-clause-value c =
    let inv = c.loop-band.invariant in
    ended c.args.rate c.args.pairs.now c.args.classes.now c.loop-band.own c.args.end c.loop-band.band c.requires.rate inv.within (λ some. absurd (omega (arith, some, c.loop-band-test.false))) inv.done inv.whole
