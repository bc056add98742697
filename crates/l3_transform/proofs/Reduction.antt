-- The alias reduction line by line, and the bound of a spectrum.
use Rattle.std.proofs.Common.{◌≡◌, ◌⊎◌, inl, inr, ℕ, ◌+◌, ◌-◌, ◌*◌, ◌/◌, ◌%◌, ◌<◌, ◌≤◌, Bool, true, false, List, [], get_or, ℤ, pos, neg_ℤ, ◌-ℤ◌, arith, refl, sym, ap, ◌∙◌}
use Rattle.std.proofs.lemmas.Int.{ints}
use Rattle.std.proofs.lemmas.Bool.Decides.{nat_tests}
use Rattle.std.proofs.lemmas.List.Elements.{All-from_get_or}
use Rattle.std.specs.Prelude.{unsigned_abs, All, if◌then◌else◌, ◌&&◌, ◌==◌}
use Rattle.l3_base.specs.Slots.{slot_in}
use Rattle.l3_base.specs.Lists.{entry, tabulate}
use Rattle.l3_base.specs.Sums.{IsWithin}
use Rattle.l3_base.specs.Filterbank.{window_of, window_slot, slot_of, turned, turned_slot, slots_of}
use Rattle.l3_base.proofs.Entries.{within_same}
use Rattle.l3_base.proofs.ListLemmas.{length-tabulate, get_or-tabulate, tabulate-same}
use Rattle.l3_base.proofs.SlotLemmas.{slots_of_window, slot_is_bounded}
use Rattle.l3_transform.specs.Spectrum.{line_before, lower_end, upper_end, is_lower, is_upper, line_after, lines_of, SlotsOfGranule, SpectrumIsBounded}
use Rattle.l3_transform.proofs.Bounds.{line_before_small, lower_end_small, upper_end_small}

is_lower_low : (n : ℕ) → is_lower n ≡ true → 10 ≤ n % 18
is_lower_low n e = grind (arith, nat_tests)

is_lower_inside : (n : ℕ) → is_lower n ≡ true → n < 558
is_lower_inside n e = grind (arith, nat_tests)

is_upper_low : (n : ℕ) → is_upper n ≡ true → n % 18 < 8
is_upper_low n e = grind (arith, nat_tests)

is_upper_inside : (n : ℕ) → is_upper n ≡ true → 18 ≤ n
is_upper_inside n e = grind (arith, nat_tests)

chosen_small : (bound : ℕ) (b c : Bool) (x y z : ℤ) → (b ≡ true → unsigned_abs x ≤ bound) → (c ≡ true → unsigned_abs y ≤ bound) → unsigned_abs z ≤ bound → unsigned_abs (if b then x else (if c then y else z)) ≤ bound
chosen_small bound true c x y z p q r = p refl
chosen_small bound false true x y z p q r = q refl
chosen_small bound false false x y z p q r = r

pub line_after_small : (line : ℕ → ℤ) (n : ℕ) → n < 576 → ((m : ℕ) → m < 576 → unsigned_abs (line m) ≤ 178392064) → unsigned_abs (line_after line n) ≤ 268435456
unfolding line_after
line_after_small line n lt small =
    chosen_small 268435456 (is_lower n) (is_upper n) _ _ _
    (λ e. let low : 10 ≤ n % 18 = is_lower_low n e in
    let inside : n < 558 = is_lower_inside n e in
    lower_end_small (17 - n % 18) (line n) (line (n + 1 + 2 * (17 - n % 18))) (omega arith) (small n lt) (small (n + 1 + 2 * (17 - n % 18)) (omega arith)))
    (λ e. let low : n % 18 < 8 = is_upper_low n e in
    upper_end_small (n % 18) (line (n - 1 - 2 * (n % 18))) (line n) low (small (n - 1 - 2 * (n % 18)) (omega arith)) (small n lt))
    (omega (arith, small n lt))

-- the three cases, as the code finds them
first_of_three : (b c : Bool) (x y z : ℤ) → b ≡ true → (if b then x else (if c then y else z)) ≡ x
first_of_three true c x y z e = refl
first_of_three false c x y z e = cc

second_of_three : (b c : Bool) (x y z : ℤ) → b ≡ false → c ≡ true → (if b then x else (if c then y else z)) ≡ y
second_of_three false true x y z e f = refl
second_of_three false false x y z e f = cc
second_of_three true c x y z e f = cc

third_of_three : (b c : Bool) (x y z : ℤ) → b ≡ false → c ≡ false → (if b then x else (if c then y else z)) ≡ z
third_of_three false false x y z e f = refl
third_of_three false true x y z e f = cc
third_of_three true c x y z e f = cc

is_lower-true : (n : ℕ) → 10 ≤ n % 18 → n < 558 → is_lower n ≡ true
is_lower-true n low inside = grind (arith, nat_tests)

is_lower-false : (n : ℕ) → n % 18 < 10 → is_lower n ≡ false
is_lower-false n high = grind (arith, nat_tests)

is_lower-outside : (n : ℕ) → 558 ≤ n → is_lower n ≡ false
is_lower-outside n outside = grind (arith, nat_tests)

is_upper-true : (n : ℕ) → n % 18 < 8 → 18 ≤ n → is_upper n ≡ true
is_upper-true n high inside = grind (arith, nat_tests)

is_upper-false : (n : ℕ) → 8 ≤ n % 18 → is_upper n ≡ false
is_upper-false n low = grind (arith, nat_tests)

is_upper-outside : (n : ℕ) → n < 18 → is_upper n ≡ false
is_upper-outside n outside = grind (arith, nat_tests)

pub line_after-lower : (line : ℕ → ℤ) (n : ℕ) → 10 ≤ n % 18 → n < 558 → lower_end (17 - n % 18) (line n) (line (n + 1 + 2 * (17 - n % 18))) ≡ line_after line n
unfolding line_after
line_after-lower line n low inside = sym (first_of_three (is_lower n) (is_upper n) _ _ _ (is_lower-true n low inside))

pub line_after-upper : (line : ℕ → ℤ) (n : ℕ) → n % 18 < 8 → 18 ≤ n → upper_end (n % 18) (line (n - 1 - 2 * (n % 18))) (line n) ≡ line_after line n
unfolding line_after
line_after-upper line n high inside = sym (second_of_three (is_lower n) (is_upper n) _ _ _ (is_lower-false n (omega arith)) (is_upper-true n high inside))

pub line_after-same_line : (line : ℕ → ℤ) (n : ℕ) → ((10 ≤ n % 18) × (558 ≤ n)) ⊎ (n % 18 < 10) → ((n % 18 < 8) × (n < 18)) ⊎ (8 ≤ n % 18) → line n ≡ line_after line n
unfolding line_after
line_after-same_line line n below above =
    let lower : is_lower n ≡ false = elim below [ inl p ↦ is_lower-outside n p.1 | inr p ↦ is_lower-false n p ] in
    let upper : is_upper n ≡ false = elim above [ inl p ↦ is_upper-outside n p.1 | inr p ↦ is_upper-false n p ] in
    sym (third_of_three (is_lower n) (is_upper n) _ _ _ lower upper)

chosen_same : (b c : Bool) (x y z t u v : ℤ) → (b ≡ true → x ≡ t) → (c ≡ true → y ≡ u) → z ≡ v → (if b then x else (if c then y else z)) ≡ (if b then t else (if c then u else v))
chosen_same true c x y z t u v p q r = p refl
chosen_same false true x y z t u v p q r = q refl
chosen_same false false x y z t u v p q r = r

-- a line depends on the 576 lines before alone
pub line_after-same : (f g : ℕ → ℤ) (n : ℕ) → n < 576 → ((m : ℕ) → m < 576 → f m ≡ g m) → line_after f n ≡ line_after g n
unfolding line_after
line_after-same f g n lt h =
    chosen_same (is_lower n) (is_upper n) _ _ _ _ _ _
    (λ e. let low : 10 ≤ n % 18 = is_lower_low n e in
    let inside : n < 558 = is_lower_inside n e in
    ap (λ z. lower_end (17 - n % 18) z (f (n + 1 + 2 * (17 - n % 18)))) (h n lt) ∙ ap (lower_end (17 - n % 18) (g n)) (h (n + 1 + 2 * (17 - n % 18)) (omega arith)))
    (λ e. let low : n % 18 < 8 = is_upper_low n e in
    ap (λ z. upper_end (n % 18) z (f n)) (h (n - 1 - 2 * (n % 18)) (omega arith)) ∙ ap (upper_end (n % 18) (g (n - 1 - 2 * (n % 18)))) (h n lt))
    (h n lt)

pub lines_are : (lines : List ℤ) (slots : List (List ℤ)) → ((n : ℕ) → n < 576 → entry lines n ≡ line_before slots n) → tabulate 576 (line_after (entry lines)) ≡ lines_of slots
unfolding lines_of
lines_are lines slots h = tabulate-same 576 (line_after (entry lines)) (line_after (line_before slots)) (λ n lt. line_after-same (entry lines) (line_before slots) n lt h)

turned_by : (b : Bool) (x : ℤ) (bound : ℕ) → unsigned_abs x ≤ bound → unsigned_abs (if b then neg_ℤ x else x) ≤ bound
turned_by true x bound small = grind (arith, ints)
turned_by false x bound small = small

pub slots_of_granule : SlotsOfGranule
unfolding slots_of turned_slot
slots_of_granule p g i k low_i low_k =
    let band : get_or (slots_of (window_of p g)) i [] ≡ tabulate 36 (λ k. turned i k (window_slot (window_of p g) i k)) =
    get_or-tabulate 32 i (λ i. tabulate 36 (λ k. turned i k (window_slot (window_of p g) i k))) [] low_i in
    ap (λ b. get_or b k (pos 0)) band
    ∙ (get_or-tabulate 36 k (λ k. turned i k (window_slot (window_of p g) i k)) (pos 0) low_k ∙ ap (turned i k) (slots_of_window p g i k low_k))

granule_slot_small : (p : List ℤ) (g i k : ℕ) → All (IsWithin 32768) p → i < 32 → k < 36 → unsigned_abs (slot_in (slots_of (window_of p g)) i k) ≤ 44598016
granule_slot_small p g i k all low_i low_k =
    within_same 44598016 _ _ (slots_of_granule p g i k low_i low_k)
    (turned_by (((i % 2) == 1) && ((k % 2) == 1)) (slot_of p (pos (18 * g + k) -ℤ pos 18) i) 44598016 (slot_is_bounded p (pos (18 * g + k) -ℤ pos 18) i all))

pub spectrum_is_bounded : SpectrumIsBounded
unfolding lines_of
spectrum_is_bounded p g all =
    let slots : List (List ℤ) = slots_of (window_of p g) in
    All-from_get_or (IsWithin 268435456) (tabulate 576 (line_after (line_before slots))) (pos 0) (λ n lt.
    let low : n < 576 = omega (arith, length-tabulate 576 (line_after (line_before slots))) in
    within_same 268435456 _ _ (get_or-tabulate 576 n (line_after (line_before slots)) (pos 0) low)
    (line_after_small (line_before slots) n low (λ m below. line_before_small slots m (λ k low_k. granule_slot_small p g (m / 18) k all (omega arith) low_k))))
