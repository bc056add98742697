use Rattle.std.proofs.Common.{◌≡◌, ℕ, ◌+◌, ◌-◌, ◌*◌, ◌≤◌, min, List, get_or, arith, ap, ◌∙◌}
use Rattle.l3_region.specs.Lanes.{cell_at, cost_between, extra_of, kept_cost, least_below, long_cost}
use Rattle.l3_region.proofs.LaneLemmas.{least_below-none, least_below-more}
use Rattle.l3_region.proofs.LongRegions.{cost-long}
use Rattle.l3_region.proofs.costs.costs_to_end.Goals as goal

-- one lane more
more : (f : ℕ → ℕ) (t long cost now : ℕ) → cost ≡ min long (least_below f t) → now ≡ min cost (f t) → now ≡ min long (least_below f (t + 1))
more f t long cost now before own = omega (arith, before, own, least_below-more f t)

-- no lane yet
start : (f : ℕ → ℕ) (long : ℕ) → long ≤ 9216 → long ≡ min long (least_below f 0)
start f long small = omega (arith, small, least_below-none f)

-- what the regions cost with linbits
long_is : (sums : List (List ℕ)) (from to class result low high few many : ℕ) → result ≡ high - low + extra_of class * (many - few) → low ≡ cell_at sums 12 from → high ≡ cell_at sums 12 to → few ≡ cell_at sums 13 from → many ≡ cell_at sums 13 to →
    result ≡ long_cost sums from to class
long_is sums from to class result low high few many is a b x y =
    let e = extra_of class in
    let counts = ap (λ n. e * (n - few)) y ∙ ap (λ n. e * (cell_at sums 13 to - n)) x in
    omega (arith, is, a, b, counts)

-- no more than with linbits
within : (long least own result : ℕ) → own ≡ long → own ≤ 9216 → result ≡ min long least → result ≤ 9216
within long least own result is small less = omega arith

pub with_lane-first-requires : goal.with_lane-first-requires
with_lane-first-requires c = record { lane = omega arith; kept = c.requires.kept; within = c.requires.within; most = c.requires.most }

pub with_lane-second-requires : goal.with_lane-second-requires
with_lane-second-requires c = record { lane = omega arith; kept = c.requires.kept; within = c.requires.within; most = c.requires.most }

pub with_lane-third-requires : goal.with_lane-third-requires
with_lane-third-requires c = record { lane = omega arith; kept = c.requires.kept; within = c.requires.within; most = c.requires.most }

pub with_lane-fourth-requires : goal.with_lane-fourth-requires
with_lane-fourth-requires c = record { lane = omega arith; kept = c.requires.kept; within = c.requires.within; most = c.requires.most }

pub with_lane-fifth-requires : goal.with_lane-fifth-requires
with_lane-fifth-requires c = record { lane = omega arith; kept = c.requires.kept; within = c.requires.within; most = c.requires.most }

pub with_lane-sixth-requires : goal.with_lane-sixth-requires
with_lane-sixth-requires c = record { lane = omega arith; kept = c.requires.kept; within = c.requires.within; most = c.requires.most }

pub with_lane-seventh-requires : goal.with_lane-seventh-requires
with_lane-seventh-requires c = record { lane = omega arith; kept = c.requires.kept; within = c.requires.within; most = c.requires.most }

pub with_lane-eighth-requires : goal.with_lane-eighth-requires
with_lane-eighth-requires c = record { lane = omega arith; kept = c.requires.kept; within = c.requires.within; most = c.requires.most }

pub with_lane-ninth-requires : goal.with_lane-ninth-requires
with_lane-ninth-requires c = record { lane = omega arith; kept = c.requires.kept; within = c.requires.within; most = c.requires.most }

pub with_lane-tenth-requires : goal.with_lane-tenth-requires
with_lane-tenth-requires c = record { lane = omega arith; kept = c.requires.kept; within = c.requires.within; most = c.requires.most }

pub with_lane-eleventh-requires : goal.with_lane-eleventh-requires
with_lane-eleventh-requires c = record { lane = omega arith; kept = c.requires.kept; within = c.requires.within; most = c.requires.most }

pub with_lane-requires : goal.with_lane-requires
with_lane-requires c = record { lane = omega arith; kept = c.requires.kept; within = c.requires.within; most = c.requires.most }

pub returns-clause-values : goal.returns-clause-values
unfolding cost_between
returns-clause-values c = λ j lt.
    let sums = c.args.sums.now in
    let from = c.args.band + j in
    let to : ℕ = 22 in
    let class = get_or c.args.most.now j 0 in
    let made = c.with_linbits-long.ensures in
    let own = long_is sums from to class (get_or c.with_linbits-long.result j 0) (get_or c.moving.result j 0) (get_or c.still.result j 0) (get_or c.moving-2.result j 0) (get_or c.still-2.result j 0) (made.values j lt)
    (c.moving.ensures.values j lt) (c.still.ensures.values j lt) (c.moving-2.ensures.values j lt) (c.still-2.ensures.values j lt) in
    let f = kept_cost sums from to class in
    let long = long_cost sums from to class in
    let l0 = own ∙ start f long (omega (arith, own, made.small j lt)) in
    let l1 = more f 0 long (get_or c.with_linbits-long.result j 0) (get_or c.with_lane-first.result j 0) l0 (c.with_lane-first.ensures.values j lt) in
    let l2 = more f 1 long (get_or c.with_lane-first.result j 0) (get_or c.with_lane-second.result j 0) l1 (c.with_lane-second.ensures.values j lt) in
    let l3 = more f 2 long (get_or c.with_lane-second.result j 0) (get_or c.with_lane-third.result j 0) l2 (c.with_lane-third.ensures.values j lt) in
    let l4 = more f 3 long (get_or c.with_lane-third.result j 0) (get_or c.with_lane-fourth.result j 0) l3 (c.with_lane-fourth.ensures.values j lt) in
    let l5 = more f 4 long (get_or c.with_lane-fourth.result j 0) (get_or c.with_lane-fifth.result j 0) l4 (c.with_lane-fifth.ensures.values j lt) in
    let l6 = more f 5 long (get_or c.with_lane-fifth.result j 0) (get_or c.with_lane-sixth.result j 0) l5 (c.with_lane-sixth.ensures.values j lt) in
    let l7 = more f 6 long (get_or c.with_lane-sixth.result j 0) (get_or c.with_lane-seventh.result j 0) l6 (c.with_lane-seventh.ensures.values j lt) in
    let l8 = more f 7 long (get_or c.with_lane-seventh.result j 0) (get_or c.with_lane-eighth.result j 0) l7 (c.with_lane-eighth.ensures.values j lt) in
    let l9 = more f 8 long (get_or c.with_lane-eighth.result j 0) (get_or c.with_lane-ninth.result j 0) l8 (c.with_lane-ninth.ensures.values j lt) in
    let l10 = more f 9 long (get_or c.with_lane-ninth.result j 0) (get_or c.with_lane-tenth.result j 0) l9 (c.with_lane-tenth.ensures.values j lt) in
    let l11 = more f 10 long (get_or c.with_lane-tenth.result j 0) (get_or c.with_lane-eleventh.result j 0) l10 (c.with_lane-eleventh.ensures.values j lt) in
    more f 11 long (get_or c.with_lane-eleventh.result j 0) (get_or c.with_lane.result j 0) l11 (c.with_lane.ensures.values j lt)

pub returns-clause-small : goal.returns-clause-small
unfolding cost_between
returns-clause-small c = λ j lt.
    let sums = c.args.sums.now in
    let from = c.args.band + j in
    let to : ℕ = 22 in
    let class = get_or c.args.most.now j 0 in
    let made = c.with_linbits-long.ensures in
    let own = long_is sums from to class (get_or c.with_linbits-long.result j 0) (get_or c.moving.result j 0) (get_or c.still.result j 0) (get_or c.moving-2.result j 0) (get_or c.still-2.result j 0) (made.values j lt)
    (c.moving.ensures.values j lt) (c.still.ensures.values j lt) (c.moving-2.ensures.values j lt) (c.still-2.ensures.values j lt) in
    within (long_cost sums from to class) (least_below (kept_cost sums from to class) 12) (get_or c.with_linbits-long.result j 0) (get_or c.with_lane.result j 0) own (made.small j lt) (returns-clause-values c j lt)

pub returns-then-least_class-ge6-clause-values : goal.returns-then-least_class-ge6-clause-values
returns-then-least_class-ge6-clause-values c = λ j lt.
    let sums = c.args.sums.now in
    let from = c.args.band + j in
    let to : ℕ = 22 in
    let class = get_or c.args.most.now j 0 in
    let made = c.with_linbits-long.ensures in
    let cost = get_or c.with_linbits-long.result j 0 in
    let own = long_is sums from to class cost (get_or c.moving.result j 0) (get_or c.still.result j 0) (get_or c.moving-2.result j 0) (get_or c.still-2.result j 0) (made.values j lt)
    (c.moving.ensures.values j lt) (c.still.ensures.values j lt) (c.moving-2.ensures.values j lt) (c.still-2.ensures.values j lt) in
    cost-long sums from to class cost (omega (arith, c.least_class.ensures j lt)) (c.requires.most j lt) (made.small j lt) own
