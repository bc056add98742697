-- The slots of a window that begins with the last 1056 samples of another one.
use Rattle.std.proofs.Common.{◌≡◌, ℕ, ◌+◌, ◌-◌, ◌*◌, ◌<◌, ◌%◌, List, length, get_or, ℤ, pos, [], arith, refl, ap, ◌∙◌, sym}
use Rattle.std.proofs.Math.Nat.{add-mul-mod_self_left}
use Rattle.std.proofs.lemmas.List.Elements.{All-get_or}
use Rattle.std.specs.Prelude.{All}
use Rattle.l3_base.specs.Slots.{subband_in, slot_in}
use Rattle.l3_base.specs.Lists.{entry, tabulate}
use Rattle.l3_base.specs.Sums.{IsWithin}
use Rattle.l3_base.specs.Filterbank.{turned, turned_slot, window_slot, slots_of}
use Rattle.l3_base.proofs.ListLemmas.{length-tabulate, get_or-tabulate}
use Rattle.l3_base.proofs.SlotLemmas.{slot_sum-same}
use Rattle.l3_transform.specs.Samples.{HasShape}

-- what stands at each place of a window's slots
pub slot_in-of : (window : List ℤ) (i k : ℕ) → i < 32 → k < 36 → slot_in (slots_of window) i k ≡ turned_slot window i k
unfolding slots_of
slot_in-of window i k low_i low_k =
    ap (λ b. get_or b k (pos 0)) (get_or-tabulate 32 i (λ m. tabulate 36 (λ n. turned_slot window m n)) [] low_i)
    ∙ get_or-tabulate 36 k (λ n. turned_slot window i n) (pos 0) low_k

pub shape_of : (window : List ℤ) → HasShape (slots_of window)
unfolding slots_of
shape_of window = record {
  long = length-tabulate 32 (λ m. tabulate 36 (λ n. turned_slot window m n));
  each = λ i low. ap length (get_or-tabulate 32 i (λ m. tabulate 36 (λ n. turned_slot window m n)) [] low) ∙ length-tabulate 36 (λ n. turned_slot window i n);
}

-- 18 slots on, the sign is the same
same_turn : (i k : ℕ) (x : ℤ) → turned i (k + 18) x ≡ turned i k x
same_turn i k x =
    let even : (k + 18) % 2 ≡ k % 2 = add-mul-mod_self_left k 2 9 in
    rw even refl

pub taken_over : (before window : List ℤ) (i k : ℕ) → k < 18 → ((n : ℕ) → n < 1056 → entry window n ≡ entry before (n + 576)) → turned_slot before i (k + 18) ≡ turned_slot window i k
unfolding turned_slot window_slot
taken_over before window i k low same =
    same_turn i k _ ∙ ap (turned i k) (slot_sum-same (λ n. entry before (32 * (k + 18) + 511 - n)) (λ n. entry window (32 * k + 511 - n)) i (λ n lt.
    let place : 32 * (k + 18) + 511 - n ≡ 32 * k + 511 - n + 576 = omega arith in
    ap (entry before) place ∙ sym (same (32 * k + 511 - n) (omega arith))))

pub small_in : (bands : List (List ℤ)) → HasShape bands → All (All (IsWithin 44598016)) bands → (i k : ℕ) → i < 32 → k < 36 → IsWithin 44598016 (slot_in bands i k)
small_in bands shape bound i k low_i low_k =
    All-get_or (IsWithin 44598016) (subband_in bands i) k (pos 0) (omega (arith, shape.each i low_i)) (All-get_or (All (IsWithin 44598016)) bands i [] (omega (arith, shape.long)) bound)
