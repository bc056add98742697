-- Windows of what is kept.
use Rattle.std.proofs.Common.{◌≡◌, ◌∙◌, sym, ap, subst, inl, inr, ◌⊎◌, ℕ, ◌+◌, ◌-◌, ◌*◌, ◌<◌, ◌≤◌, List, [], ◌++◌, length, take, drop, replicate, arith}
use Rattle.std.proofs.lemmas.Int.{ints}
use Rattle.std.proofs.lemmas.List.{length-replicate, length-drop, drop-drop, take_rest, get_or-drop, get_or-take, get_or-replicate, get_or_append_left, get_or-append_right}
use Rattle.std.proofs.lemmas.Bool.{cases_lt}
use Rattle.std.proofs.Math.Seq.{paste}
use Rattle.std.proofs.lemmas.List.Edits.{take-paste}
use Rattle.std.specs.List.{copy_within}
use Rattle.std.proofs.Math.ListN.{drop_of_length-le}
use Rattle.std.specs.Prelude.{ℤ, pos, negsuc, ◌-ℤ◌}
use Rattle.l3_base.specs.Lists.{entry}
use Rattle.l3_base.specs.Filterbank.{sample_at, window_of}
use Rattle.l3_base.proofs.ListLemmas.{tabulate-same, tabulate-entries}
use Rattle.l3_wav.specs.Windows.{kept_of, window_in}

pub window-filled : (window kept : List ℤ) (after : ℕ) → length window ≡ 1632 → ((n : ℕ) → n < 1632 → entry window n ≡ entry kept (576 * after + n)) → window ≡ window_in kept after
unfolding window_in
window-filled window kept after long each = tabulate-entries 1632 (λ n. entry kept (576 * after + n)) (pos 0) window long each

-- a place in the samples with 1056 zeros before them
at-place : (p : List ℤ) (m : ℕ) → entry (replicate 1056 (pos 0) ++ p) m ≡ sample_at p (pos m -ℤ pos 1056)
at-place p m = by (cases_lt m 1056)
  where
    by : (m < 1056) ⊎ (1056 ≤ m) → entry (replicate 1056 (pos 0) ++ p) m ≡ sample_at p (pos m -ℤ pos 1056)
    by (inl before) =
        let place : pos m -ℤ pos 1056 ≡ negsuc (1055 - m) = omega (arith, ints) in
        let long : m < length (replicate 1056 (pos 0)) = subst (λ k. m < k) (sym (length-replicate 1056 (pos 0))) before in
        get_or_append_left (replicate 1056 (pos 0)) p (pos 0) m long ∙ (get_or-replicate 1056 m (pos 0) (pos 0) before ∙ sym (ap (sample_at p) place))
    by (inr behind) =
        let place : pos m -ℤ pos 1056 ≡ pos (m - 1056) = omega (arith, ints) in
        get_or-append_right (replicate 1056 (pos 0)) p 1056 m (pos 0) (length-replicate 1056 (pos 0)) behind ∙ sym (ap (sample_at p) place)

each-kept : (p : List ℤ) (base g n : ℕ) → base ≤ g → entry (kept_of p base) (576 * (g - base) + n) ≡ sample_at p (pos (576 * g + n) -ℤ pos 1056)
unfolding kept_of
each-kept p base g n le =
    let place : 576 * base + (576 * (g - base) + n) ≡ 576 * g + n = omega (arith, le) in
    get_or-drop (576 * base) (replicate 1056 (pos 0) ++ p) (576 * (g - base) + n) (pos 0)
    ∙ (ap (entry (replicate 1056 (pos 0) ++ p)) place ∙ at-place p (576 * g + n))

pub windows-of-samples : (p : List ℤ) (base g : ℕ) → base ≤ g → window_in (kept_of p base) (g - base) ≡ window_of p g
unfolding window_in window_of
windows-of-samples p base g le = tabulate-same 1632 (λ n. entry (kept_of p base) (576 * (g - base) + n)) (λ n. sample_at p (pos (576 * g + n) -ℤ pos 1056)) (λ n below. each-kept p base g n le)

each-front : (p : List ℤ) (read g n : ℕ) → 576 * (g + 1) ≤ read → n < 1632 → sample_at (take read p) (pos (576 * g + n) -ℤ pos 1056) ≡ sample_at p (pos (576 * g + n) -ℤ pos 1056)
each-front p read g n le below = by (cases_lt (576 * g + n) 1056)
  where
    by : (576 * g + n < 1056) ⊎ (1056 ≤ 576 * g + n) → sample_at (take read p) (pos (576 * g + n) -ℤ pos 1056) ≡ sample_at p (pos (576 * g + n) -ℤ pos 1056)
    by (inl before) =
        let place : pos (576 * g + n) -ℤ pos 1056 ≡ negsuc (1055 - (576 * g + n)) = omega (arith, ints) in
        ap (sample_at (take read p)) place ∙ sym (ap (sample_at p) place)
    by (inr behind) =
        let place : pos (576 * g + n) -ℤ pos 1056 ≡ pos (576 * g + n - 1056) = omega (arith, ints) in
        let within : 576 * g + n - 1056 < read = omega arith in
        ap (sample_at (take read p)) place ∙ (get_or-take read p (576 * g + n - 1056) (pos 0) within ∙ sym (ap (sample_at p) place))

pub windows-of-fronts : (p : List ℤ) (read g : ℕ) → 576 * (g + 1) ≤ read → window_of (take read p) g ≡ window_of p g
unfolding window_of
windows-of-fronts p read g le =
    tabulate-same 1632 (λ n. sample_at (take read p) (pos (576 * g + n) -ℤ pos 1056)) (λ n. sample_at p (pos (576 * g + n) -ℤ pos 1056)) (λ n below. each-front p read g n le below)

-- what is behind the first 4608 samples, moved to the front
pub forgotten : (xs ys : List ℤ) (count end : ℕ) → count ≡ length xs → end ≡ length xs → ys ≡ copy_within xs 4608 end 0 → take (count - 4608) ys ≡ drop 4608 xs
forgotten xs ys count end long same is =
    let n = length xs - 4608 in
    let none : 0 + n ≡ n = omega arith in
    let few : n ≤ length (drop 4608 xs) = subst (λ k. n ≤ k) (sym (length-drop 4608 xs)) (omega arith) in
    let moved : take (0 + n) (paste xs 0 (drop 4608 xs) n) ≡ take n (drop 4608 xs) = take-paste xs 0 (drop 4608 xs) n (omega arith) few in
    let here : ys ≡ paste xs 0 (drop 4608 xs) n = is ∙ ap (λ k. paste xs 0 (drop 4608 xs) (k - 4608)) same in
    let size : take (count - 4608) ys ≡ take n ys = ap (λ k. take (k - 4608) ys) long in
    size ∙ (ap (take n) here ∙ (ap (λ k. take k (paste xs 0 (drop 4608 xs) n)) (sym none) ∙ (moved ∙ take_rest xs 4608)))

pub all-forgotten : (xs ys : List ℤ) (count : ℕ) → count ≡ length xs → count ≤ 4608 → ys ≡ [] → ys ≡ drop 4608 xs
all-forgotten xs ys count long few is = is ∙ sym (drop_of_length-le xs (subst (λ k. k ≤ 4608) long few))

-- the samples of one granule more are forgotten, and still stand in front
pub one-more : (xs : List ℤ) (stale : ℕ) → drop (576 * (stale + 1)) xs ≡ drop 576 (drop (576 * stale) xs)
one-more xs stale =
    let more : 576 * stale + 576 ≡ 576 * (stale + 1) = omega arith in
    sym (drop-drop 576 (576 * stale) xs ∙ ap (λ k. drop k xs) more)

-- or those of eight granules were taken out
pub all-eight : (xs ys : List ℤ) (stale : ℕ) → stale ≡ 7 → ys ≡ drop 4608 xs → ys ≡ drop 576 (drop (576 * stale) xs)
all-eight xs ys stale seven is =
    let more : 576 * stale + 576 ≡ 4608 = omega (arith, seven) in
    is ∙ sym (drop-drop 576 (576 * stale) xs ∙ ap (λ k. drop k xs) more)

-- windows of what stands behind the samples that are forgotten
pub window-behind : (window kept : List ℤ) (stale after : ℕ) → length window ≡ 1632 → ((n : ℕ) → n < 1632 → entry window n ≡ entry kept (576 * (stale + after) + n)) →
    window ≡ window_in (drop (576 * stale) kept) after
window-behind window kept stale after long each = window-filled window (drop (576 * stale) kept) after long by
  where
    by : (n : ℕ) → n < 1632 → entry window n ≡ entry (drop (576 * stale) kept) (576 * after + n)
    by n below =
        let place : 576 * (stale + after) + n ≡ 576 * stale + (576 * after + n) = omega arith in
        each n below ∙ (ap (entry kept) place ∙ sym (get_or-drop (576 * stale) kept (576 * after + n) (pos 0)))
