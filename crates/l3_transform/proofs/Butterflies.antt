-- Butterflies one after the other, and borders one after the other.
use Rattle.std.proofs.Common.{◌≡◌, ◌≢◌, inl, inr, ℕ, ◌+◌, ◌-◌, ◌*◌, ◌%◌, ◌<◌, ◌≤◌, List, length, get_or-set_other, get_or-set_same, below_more, ℤ, arith, refl, ap, ◌∙◌}
use Rattle.std.proofs.Math.ListN.{set, length-set}
use Rattle.std.proofs.lemmas.Bool.{cases_lt}
use Rattle.l3_base.specs.Lists.{entry}
use Rattle.l3_transform.specs.Alias.{with_butterfly}
use Rattle.l3_transform.specs.Spectrum.{lower_end, upper_end, line_after}
use Rattle.l3_transform.proofs.Reduction.{line_after-lower, line_after-upper, line_after-same_line}

-- the first k butterflies about a border
pub record AreCrossed (border k : ℕ) (start now : List ℤ) : Type 0 where
  pub long : length now ≡ 576
  pub lower : (j : ℕ) → j < k → entry now (18 * border - 1 - j) ≡ lower_end j (entry start (18 * border - 1 - j)) (entry start (18 * border + j))
  pub upper : (j : ℕ) → j < k → entry now (18 * border + j) ≡ upper_end j (entry start (18 * border - 1 - j)) (entry start (18 * border + j))
  pub before : (n : ℕ) → n + k < 18 * border → entry now n ≡ entry start n
  pub after : (n : ℕ) → 18 * border + k ≤ n → entry now n ≡ entry start n

both_kept : (xs : List ℤ) (p q n : ℕ) (x y : ℤ) → n ≢ p → n ≢ q → entry (set (set xs p x) q y) n ≡ entry xs n
both_kept xs p q n x y not_first not_second = rw (get_or-set_other, get_or-set_other) refl

first_set : (xs : List ℤ) (p q : ℕ) (x y : ℤ) → p < length xs → p ≢ q → entry (set (set xs p x) q y) p ≡ x
first_set xs p q x y inside not_second = rw (get_or-set_other, get_or-set_same) refl

second_set : (xs : List ℤ) (p q : ℕ) (x y : ℤ) → q < length xs → entry (set (set xs p x) q y) q ≡ y
second_set xs p q x y inside =
    let room : q < length (set xs p x) = omega (arith, length-set xs p x) in
    rw get_or-set_same refl

pub crossed_more : (border k : ℕ) (start now : List ℤ) → 0 < border → border < 32 → k < 8 → AreCrossed border k start now → AreCrossed border (k + 1) start (with_butterfly border k now)
crossed_more border k start now from to low h =
    let p : ℕ = 18 * border - 1 - k in
    let q : ℕ = 18 * border + k in
    let x : ℤ = lower_end k (entry now p) (entry now q) in
    let y : ℤ = upper_end k (entry now p) (entry now q) in
    let below : entry now p ≡ entry start p = h.before p (omega arith) in
    let above : entry now q ≡ entry start q = h.after q (omega arith) in
    let long : length now ≡ 576 = h.long in
    record {
      long = length-set (set now p x) q y ∙ (length-set now p x ∙ long);
      lower = below_more _ _
          (λ j lt. both_kept now p q (18 * border - 1 - j) x y (omega arith) (omega arith) ∙ h.lower j lt)
          (first_set now p q x y (omega arith) (omega arith) ∙ (ap (λ a. lower_end k a (entry now q)) below ∙ ap (lower_end k (entry start p)) above));
      upper = below_more _ _
          (λ j lt. both_kept now p q (18 * border + j) x y (omega arith) (omega arith) ∙ h.upper j lt)
          (second_set now p q x y (omega arith) ∙ (ap (λ a. upper_end k a (entry now q)) below ∙ ap (upper_end k (entry start p)) above));
      before = λ n lt. both_kept now p q n x y (omega arith) (omega arith) ∙ h.before n (omega arith);
      after = λ n le. both_kept now p q n x y (omega arith) (omega arith) ∙ h.after n (omega arith);
    }

-- the borders below one
pub record AreReduced (border : ℕ) (start now : List ℤ) : Type 0 where
  pub long : length now ≡ 576
  pub done : (n : ℕ) → n + 8 < 18 * border → entry now n ≡ line_after (entry start) n
  pub left : (n : ℕ) → 18 * border ≤ n + 8 → entry now n ≡ entry start n

pub reduced_first : (start : List ℤ) → length start ≡ 576 → AreReduced 1 start start
reduced_first start long = record {
  long = long;
  done = λ n lt. line_after-same_line (entry start) n (inr (omega arith)) (elim (cases_lt n 8) [ inl low ↦ inl (omega arith, omega arith) | inr high ↦ inr (omega arith) ]);
  left = λ n le. refl;
}

lower_is : (border n : ℕ) (start now next : List ℤ) → 0 < border → border < 32 → n < 18 * border → 18 * border ≤ n + 8 → AreReduced border start now → AreCrossed border 8 now next → entry next n ≡ line_after (entry start) n
lower_is border n start now next from to lt le h crossed =
    let k : ℕ = 17 - n % 18 in
    let place : 18 * border - 1 - (17 - n % 18) ≡ n = omega arith in
    let other : 18 * border + (17 - n % 18) ≡ n + 1 + 2 * (17 - n % 18) = omega arith in
    let value : entry next n ≡ lower_end (17 - n % 18) (entry now n) (entry now (n + 1 + 2 * (17 - n % 18))) = rw (place, other) at (crossed.lower (17 - n % 18) (omega arith)) in
    value
    ∙ (ap (λ a. lower_end (17 - n % 18) a (entry now (n + 1 + 2 * (17 - n % 18)))) (h.left n le)
    ∙ (ap (lower_end (17 - n % 18) (entry start n)) (h.left (n + 1 + 2 * (17 - n % 18)) (omega arith))
    ∙ line_after-lower (entry start) n (omega arith) (omega arith)))

upper_is : (border n : ℕ) (start now next : List ℤ) → 0 < border → 18 * border ≤ n → n < 18 * border + 8 → AreReduced border start now → AreCrossed border 8 now next → entry next n ≡ line_after (entry start) n
upper_is border n start now next from le lt h crossed =
    let place : 18 * border + n % 18 ≡ n = omega arith in
    let other : 18 * border - 1 - n % 18 ≡ n - 1 - 2 * (n % 18) = omega arith in
    let value : entry next n ≡ upper_end (n % 18) (entry now (n - 1 - 2 * (n % 18))) (entry now n) = rw (place, other) at (crossed.upper (n % 18) (omega arith)) in
    value
    ∙ (ap (λ a. upper_end (n % 18) a (entry now n)) (h.left (n - 1 - 2 * (n % 18)) (omega arith))
    ∙ (ap (upper_end (n % 18) (entry start (n - 1 - 2 * (n % 18)))) (h.left n (omega arith))
    ∙ line_after-upper (entry start) n (omega arith) (omega arith)))

pub reduced_more : (border : ℕ) (start now next : List ℤ) → 0 < border → border < 32 → AreReduced border start now → AreCrossed border 8 now next → AreReduced (border + 1) start next
reduced_more border start now next from to h crossed = record {
  long = crossed.long;
  done = λ n lt. elim (cases_lt (n + 8) (18 * border)) [
    | inl under ↦ crossed.before n under ∙ h.done n under
    | inr near ↦ elim (cases_lt n (18 * border)) [
      | inl below ↦ lower_is border n start now next from to below (omega arith) h crossed
      | inr above ↦ elim (cases_lt n (18 * border + 8)) [
        | inl low ↦ upper_is border n start now next from (omega arith) low h crossed
        | inr high ↦ crossed.after n (omega arith) ∙ (h.left n (omega arith) ∙ line_after-same_line (entry start) n (inr (omega arith)) (inr (omega arith)))
      ]
    ]
  ];
  left = λ n le. crossed.after n (omega arith) ∙ h.left n (omega arith);
}

pub reduced_last : (start now : List ℤ) → AreReduced 32 start now → (n : ℕ) → n < 576 → entry now n ≡ line_after (entry start) n
reduced_last start now h n lt = elim (cases_lt (n + 8) (18 * 32)) [
  | inl below ↦ h.done n below
  | inr above ↦ h.left n (omega arith) ∙ line_after-same_line (entry start) n (inl (omega arith, omega arith)) (inr (omega arith))
]
