-- The sizes of slots under the window and of lines.
use Rattle.std.proofs.Common.{ℕ, zero, suc, ◌+◌, ◌*◌, ◌/◌, ◌%◌, ◌<◌, ◌≤◌, List, [], ◌∷◌, get_or, ℤ, pos, ◌+ℤ◌, ◌-ℤ◌, ◌*ℤ◌, arith, refl}
use Rattle.std.proofs.lemmas.Int.{ints, unsigned_abs-mul}
use Rattle.std.proofs.lemmas.List.Elements.{All-head, All-tail}
use Rattle.std.proofs.Math.Nat.{mul-le-mul}
use Rattle.std.specs.Prelude.{unsigned_abs, All}
use Rattle.l3_base.specs.Slots.{slot_in}
use Rattle.l3_base.specs.Sums.{sum_below, IsWithin}
use Rattle.l3_base.specs.Cosines.{cosine72}
use Rattle.l3_base.specs.Steps.{cs_at, ca_at}
use Rattle.l3_base.proofs.Entries.{not_above_at}
use Rattle.l3_base.proofs.Circles.{cosine72_small}
use Rattle.l3_base.proofs.FloorLemmas.{floor_div_small}
use Rattle.l3_base.proofs.SumLemmas.{abs_add, abs-sum_below, size_below-flat}
use Rattle.l3_transform.specs.Spectrum.{windowed, line_cosine, line_from, line_before, lower_end, upper_end}

pub term_small : (a b : ℤ) (m n : ℕ) → unsigned_abs a ≤ m → unsigned_abs b ≤ n → unsigned_abs (a *ℤ b) ≤ m * n
term_small a b m n left right = rw (unsigned_abs-mul a b) (mul-le-mul left right)

pub abs_sub : (a b : ℤ) → unsigned_abs (a -ℤ b) ≤ unsigned_abs a + unsigned_abs b
abs_sub a b = grind (arith, ints)

entry_small : (bound : ℕ) (xs : List ℤ) (k : ℕ) → All (IsWithin bound) xs → unsigned_abs (get_or xs k (pos 0)) ≤ bound
entry_small bound [] k all = omega arith
entry_small bound (x ∷ xs) zero all = All-head (IsWithin bound) x xs all
entry_small bound (x ∷ xs) (suc k) all = entry_small bound xs k (All-tail (IsWithin bound) x xs all)

pub slot_in_small : (bound : ℕ) (bands : List (List ℤ)) (i k : ℕ) → All (All (IsWithin bound)) bands → unsigned_abs (slot_in bands i k) ≤ bound
slot_in_small bound [] i k all = omega arith
slot_in_small bound (b ∷ bs) zero k all = entry_small bound b k (All-head (All (IsWithin bound)) b bs all)
slot_in_small bound (b ∷ bs) (suc i) k all = slot_in_small bound bs i k (All-tail (All (IsWithin bound)) b bs all)

pub windowed_sum_small : (slot : ℕ → ℤ) (k : ℕ) → unsigned_abs (slot k) ≤ 44598016 → unsigned_abs (slot k *ℤ cosine72 (pos 35 -ℤ pos (2 * k))) ≤ 268435456 * 32768
windowed_sum_small slot k small =
    omega (arith, term_small (slot k) (cosine72 (pos 35 -ℤ pos (2 * k))) 44598016 32768 small (cosine72_small (pos 35 -ℤ pos (2 * k))))

pub windowed_small : (slot : ℕ → ℤ) (k : ℕ) → unsigned_abs (slot k) ≤ 44598016 → unsigned_abs (windowed slot k) ≤ 44598016
unfolding windowed
windowed_small slot k small =
    floor_div_small _ (slot k *ℤ cosine72 (pos 35 -ℤ pos (2 * k))) 16384 32768 44598016 refl (omega arith)
    (term_small (slot k) (cosine72 (pos 35 -ℤ pos (2 * k))) 44598016 32768 small (cosine72_small (pos 35 -ℤ pos (2 * k))))

pub line_from_small : (z : ℕ → ℤ) (m : ℕ) → ((k : ℕ) → k < 36 → unsigned_abs (z k) ≤ 44598016) → unsigned_abs (line_from z m) ≤ 178392064
unfolding line_from
line_from_small z m small =
    let terms = size_below-flat 36 (44598016 * 32768) (λ k. z k *ℤ line_cosine m k) (λ k lt. term_small (z k) (line_cosine m k) 44598016 32768 (small k lt) (cosine72_small (pos ((2 * k + 19) * (2 * m + 1))))) in
    let sum : unsigned_abs (sum_below 36 (λ k. z k *ℤ line_cosine m k)) ≤ 36 * (44598016 * 32768) = omega (arith, abs-sum_below 36 (λ k. z k *ℤ line_cosine m k), terms) in
    let twice : unsigned_abs (pos 2 *ℤ sum_below 36 (λ k. z k *ℤ line_cosine m k)) ≤ 178392064 * 589824 = rw (unsigned_abs-mul (pos 2) (sum_below 36 (λ k. z k *ℤ line_cosine m k))) (omega arith) in
    floor_div_small _ (pos 2 *ℤ sum_below 36 (λ k. z k *ℤ line_cosine m k)) 294912 589824 178392064 refl (omega arith) twice

pub line_before_small : (slots : List (List ℤ)) (n : ℕ) → ((k : ℕ) → k < 36 → unsigned_abs (slot_in slots (n / 18) k) ≤ 44598016) → unsigned_abs (line_before slots n) ≤ 178392064
unfolding line_before
line_before_small slots n small =
    line_from_small (windowed (slot_in slots (n / 18))) (n % 18) (λ k lt. windowed_small (slot_in slots (n / 18)) k (small k lt))

-- no butterfly makes a line greater by more than three eighths
pub butterfly_small : (k : ℕ) → k < 8 → unsigned_abs (cs_at k) + unsigned_abs (ca_at k) ≤ 44957
unfolding cs_at ca_at
butterfly_small k lt = not_above_at (λ n. unsigned_abs (cs_at n) + unsigned_abs (ca_at n)) (λ _. 44957) 8 k refl lt

pub lower_sum_small : (k : ℕ) (a b : ℤ) → k < 8 → unsigned_abs a ≤ 178392064 → unsigned_abs b ≤ 178392064 → unsigned_abs (a *ℤ cs_at k +ℤ b *ℤ ca_at k) ≤ 268435456 * 32768
lower_sum_small k a b lt small_a small_b =
    let left : unsigned_abs (a *ℤ cs_at k) ≤ 178392064 * unsigned_abs (cs_at k) = term_small a (cs_at k) 178392064 (unsigned_abs (cs_at k)) small_a (omega arith) in
    let right : unsigned_abs (b *ℤ ca_at k) ≤ 178392064 * unsigned_abs (ca_at k) = term_small b (ca_at k) 178392064 (unsigned_abs (ca_at k)) small_b (omega arith) in
    omega (arith, butterfly_small k lt, abs_add (a *ℤ cs_at k) (b *ℤ ca_at k))

pub upper_sum_small : (k : ℕ) (a b : ℤ) → k < 8 → unsigned_abs a ≤ 178392064 → unsigned_abs b ≤ 178392064 → unsigned_abs (b *ℤ cs_at k -ℤ a *ℤ ca_at k) ≤ 268435456 * 32768
upper_sum_small k a b lt small_a small_b =
    let left : unsigned_abs (b *ℤ cs_at k) ≤ 178392064 * unsigned_abs (cs_at k) = term_small b (cs_at k) 178392064 (unsigned_abs (cs_at k)) small_b (omega arith) in
    let right : unsigned_abs (a *ℤ ca_at k) ≤ 178392064 * unsigned_abs (ca_at k) = term_small a (ca_at k) 178392064 (unsigned_abs (ca_at k)) small_a (omega arith) in
    omega (arith, butterfly_small k lt, abs_sub (b *ℤ cs_at k) (a *ℤ ca_at k))

pub lower_end_small : (k : ℕ) (a b : ℤ) → k < 8 → unsigned_abs a ≤ 178392064 → unsigned_abs b ≤ 178392064 → unsigned_abs (lower_end k a b) ≤ 268435456
unfolding lower_end
lower_end_small k a b lt small_a small_b =
    floor_div_small _ (a *ℤ cs_at k +ℤ b *ℤ ca_at k) 16384 32768 268435456 refl (omega arith) (lower_sum_small k a b lt small_a small_b)

pub upper_end_small : (k : ℕ) (a b : ℤ) → k < 8 → unsigned_abs a ≤ 178392064 → unsigned_abs b ≤ 178392064 → unsigned_abs (upper_end k a b) ≤ 268435456
unfolding upper_end
upper_end_small k a b lt small_a small_b =
    floor_div_small _ (b *ℤ cs_at k -ℤ a *ℤ ca_at k) 16384 32768 268435456 refl (omega arith) (upper_sum_small k a b lt small_a small_b)
