-- The ranks of mantissas.
use Rattle.std.proofs.Common.{◌≡◌, ℕ, zero, suc, ◌+◌, ◌-◌, ◌*◌, ◌/◌, ◌^◌, ◌<◌, ◌≤◌, Bool, true, ◌&&◌, ◌||◌, leb, ltb, arith, refl, subst, inl, inr}
use Rattle.std.proofs.lemmas.Bool.{agree_below_at, and_parts, or_cases, cases_lt, leb-true, ltb-true}
use Rattle.l3_count.specs.Planes.{IsRank, ranked_at, bucket_at}

-- the entry before the bucket's number is at most its first mantissa, and that two places on is
-- above its last
bucket_test : ℕ → Bool
bucket_test b =
    ltb (bucket_at b) 60 && ((leb (bucket_at b) 0 || leb (ranked_at (bucket_at b - 1)) ((b + 256) * 2 ^ 20)) && leb ((b + 257) * 2 ^ 20) (ranked_at (bucket_at b + 2)))

pub record IsBucket (b : ℕ) : Type 0 where
  pub small : bucket_at b < 60
  pub before : 0 < bucket_at b → ranked_at (bucket_at b - 1) ≤ (b + 256) * 2 ^ 20
  pub behind : (b + 257) * 2 ^ 20 ≤ ranked_at (bucket_at b + 2)

bucket_tested : (b : ℕ) → b < 256 → bucket_test b ≡ true
unfolding bucket_test bucket_at ranked_at
bucket_tested b lt = agree_below_at bucket_test (λ _. true) 256 b refl lt

pub bucket_is : (b : ℕ) → b < 256 → IsBucket b
unfolding bucket_test
bucket_is b room =
    let one = and_parts (ltb (bucket_at b) 60) _ (bucket_tested b room) in
    let two = and_parts (leb (bucket_at b) 0 || leb (ranked_at (bucket_at b - 1)) ((b + 256) * 2 ^ 20)) (leb ((b + 257) * 2 ^ 20) (ranked_at (bucket_at b + 2))) one.1 in
    record {
      small = ltb-true _ _ one.0;
      before = λ some. elim (or_cases (leb (bucket_at b) 0) (leb (ranked_at (bucket_at b - 1)) ((b + 256) * 2 ^ 20)) two.0) [
        | inl none ↦ (let le : bucket_at b ≤ 0 = leb-true (bucket_at b) 0 none in absurd (omega arith))
        | inr le ↦ leb-true (ranked_at (bucket_at b - 1)) ((b + 256) * 2 ^ 20) le
      ];
      behind = leb-true ((b + 257) * 2 ^ 20) (ranked_at (bucket_at b + 2)) two.1;
    }

pub bucket_small : (b : ℕ) → b < 256 → bucket_at b < 60
bucket_small b room = (bucket_is b room).small

rises_test : ℕ → Bool
rises_test i = leb (ranked_at i) (ranked_at (i + 1))

ranked_rises : (i : ℕ) → i < 63 → ranked_at i ≤ ranked_at (i + 1)
unfolding rises_test ranked_at
ranked_rises i lt = leb-true _ _ (agree_below_at rises_test (λ _. true) 63 i refl lt)

ranked_order : (i d : ℕ) → i + d < 64 → ranked_at i ≤ ranked_at (i + d)
ranked_order i zero lt = let same : i + zero ≡ i = omega arith in rw same (omega arith)
ranked_order i (suc d) lt =
    let before : ranked_at i ≤ ranked_at (i + d) = ranked_order i d (omega arith) in
    let step : ranked_at (i + d) ≤ ranked_at (i + d + 1) = ranked_rises (i + d) (omega arith) in
    let P : ℕ → Type 0 = λ k. ranked_at i ≤ ranked_at k in
    subst P (let e : i + d + 1 ≡ i + suc d = omega arith in e) (let both : ranked_at i ≤ ranked_at (i + d + 1) = omega arith in both)

ordered : (i k : ℕ) → i ≤ k → k < 64 → ranked_at i ≤ ranked_at k
ordered i k le lt =
    let P : ℕ → Type 0 = λ z. ranked_at i ≤ ranked_at z in
    subst P (let e : i + (k - i) ≡ k = omega arith in e) (ranked_order i (k - i) (omega arith))

ranked_top : ranked_at 60 ≡ 2 ^ 29
unfolding ranked_at
ranked_top = refl

-- a mantissa between an entry and the one before it has the entry's place as its rank
rank_between : (m r : ℕ) → r ≤ 60 → (0 < r → ranked_at (r - 1) ≤ m) → m < ranked_at r → IsRank m r
rank_between m r within before under = record {
  within = within;
  counts = λ i lt. (
    λ below. let le : ranked_at i ≤ ranked_at (r - 1) = ordered i (r - 1) (omega arith) (omega arith) in omega (arith, before (omega arith)),
    λ le. elim (cases_lt i r) [
      | inl early ↦ early
      | inr far ↦ (let above : ranked_at r ≤ ranked_at i = ordered r i far (omega arith) in absurd (omega arith))
    ],
  );
}

-- two comparisons, each with the entry at the count so far, find the rank
pub rank_is : (m b first next : ℕ) → b ≡ m / 2 ^ 20 - 256 → 2 ^ 28 ≤ m → m < 2 ^ 29 →
    (ranked_at (bucket_at b) ≤ m → first ≡ bucket_at b + 1) → (m < ranked_at (bucket_at b) → first ≡ bucket_at b) →
    (ranked_at first ≤ m → next ≡ first + 1) → (m < ranked_at first → next ≡ first) → IsRank m next
rank_is m b first next part low high one_more one_same two_more two_same =
    let room : b < 256 = omega arith in
    let from : (b + 256) * 2 ^ 20 ≤ m = omega arith in
    let to : m < (b + 257) * 2 ^ 20 = omega arith in
    let bucket = bucket_is b room in
    let n = bucket_at b in
    let small : n < 60 = bucket.small in
    let P : ℕ → Type 0 = λ r. IsRank m r in
    elim (cases_lt m (ranked_at n)) [
      | inl under ↦
          (let f : first ≡ n = one_same under in
          let still : m < ranked_at first = rw f under in
          let g : n ≡ next = omega (arith, two_same still) in
          subst P g (rank_between m n (omega arith) (λ some. omega (arith, bucket.before some)) under))
      | inr at ↦
          (let f : first ≡ n + 1 = one_more at in
          elim (cases_lt m (ranked_at (n + 1))) [
            | inl under ↦
                (let still : m < ranked_at first = rw f under in
                let g : n + 1 ≡ next = omega (arith, two_same still) in
                let here : ranked_at (n + 1 - 1) ≤ m = (let e : n + 1 - 1 ≡ n = omega arith in rw e at) in
                subst P g (rank_between m (n + 1) (omega arith) (λ some. here) under))
            | inr over ↦
                (let still : ranked_at first ≤ m = rw f over in
                let g : n + 2 ≡ next = omega (arith, two_more still) in
                let here : ranked_at (n + 2 - 1) ≤ m = (let e : n + 2 - 1 ≡ n + 1 = omega arith in rw e over) in
                let last : n + 1 < 60 = elim (cases_lt (n + 1) 60) [
                  | inl early ↦ early
                  | inr far ↦ (let top : ranked_at 60 ≤ ranked_at (n + 1) = ordered 60 (n + 1) far (omega arith) in absurd (omega (arith, ranked_top)))
                ] in
                subst P g (rank_between m (n + 2) (omega arith) (λ some. here) (let behind : (b + 257) * 2 ^ 20 ≤ ranked_at (n + 2) = bucket.behind in omega arith)))
          ])
    ]
