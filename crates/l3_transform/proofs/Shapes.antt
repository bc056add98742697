-- Slots written into 32 subbands of 36.
use Rattle.std.proofs.Common.{◌≡◌, ◌≢◌, ◌⊎◌, inl, inr, ℕ, zero, suc, ◌+◌, ◌<◌, List, [], length, get_or, get_or-set_other, get_or-set_same, below_more, replicate, ℤ, pos, arith, refl, sym, ap, ◌∙◌}
use Rattle.std.proofs.Math.ListN.{set, length-set}
use Rattle.std.proofs.lemmas.List.Elements.{All-from_get_or}
use Rattle.std.proofs.lemmas.List.{get_or-replicate, length-replicate}
use Rattle.std.specs.Prelude.{All}
use Rattle.l3_base.specs.Slots.{subband_in, slot_in, slots_with}
use Rattle.l3_base.specs.Lists.{tabulate}
use Rattle.l3_base.specs.Sums.{IsWithin}
use Rattle.l3_base.specs.Filterbank.{turned_slot, slots_of}
use Rattle.l3_base.proofs.ListLemmas.{tabulate-entries}
use Rattle.l3_transform.specs.Samples.{HasShape}

-- the subband that is written, and the others
pub subband_in-same : (bands : List (List ℤ)) (i k : ℕ) (x : ℤ) → i < length bands → subband_in (slots_with bands i k x) i ≡ set (subband_in bands i) k x
subband_in-same bands i k x lt = rw get_or-set_same refl

pub subband_in-other : (bands : List (List ℤ)) (i k m : ℕ) (x : ℤ) → m ≢ i → subband_in (slots_with bands i k x) m ≡ subband_in bands m
subband_in-other bands i k m x ne = rw get_or-set_other refl

pub slot_in-same : (bands : List (List ℤ)) (i k : ℕ) (x : ℤ) → HasShape bands → i < 32 → k < 36 → slot_in (slots_with bands i k x) i k ≡ x
slot_in-same bands i k x shape low_i low_k =
    let inside : k < length (subband_in bands i) = omega (arith, shape.each i low_i) in
    ap (λ b. get_or b k (pos 0)) (subband_in-same bands i k x (omega (arith, shape.long))) ∙ rw get_or-set_same refl

pub slot_in-other_slot : (bands : List (List ℤ)) (i k n : ℕ) (x : ℤ) → HasShape bands → i < 32 → n ≢ k → slot_in (slots_with bands i k x) i n ≡ slot_in bands i n
slot_in-other_slot bands i k n x shape low_i ne =
    ap (λ b. get_or b n (pos 0)) (subband_in-same bands i k x (omega (arith, shape.long))) ∙ rw get_or-set_other refl

pub slot_in-other_band : (bands : List (List ℤ)) (i k m n : ℕ) (x : ℤ) → m ≢ i → slot_in (slots_with bands i k x) m n ≡ slot_in bands m n
slot_in-other_band bands i k m n x ne = ap (λ b. get_or b n (pos 0)) (subband_in-other bands i k m x ne)

same_or_not : (m i : ℕ) → (m ≡ i) ⊎ (m ≢ i)
same_or_not zero zero = inl refl
same_or_not zero (suc i) = inr (λ e. omega arith)
same_or_not (suc m) zero = inr (λ e. omega arith)
same_or_not (suc m) (suc i) = elim (same_or_not m i) [ inl e ↦ inl (ap suc e) | inr ne ↦ inr (λ e. ne (omega arith)) ]

-- a slot of another number, of whatever subband
pub slot_in-other : (bands : List (List ℤ)) (i k m n : ℕ) (x : ℤ) → HasShape bands → i < 32 → n ≢ k → slot_in (slots_with bands i k x) m n ≡ slot_in bands m n
slot_in-other bands i k m n x shape low_i ne =
    elim (same_or_not m i) [
      | inl e ↦ ap (λ p. slot_in (slots_with bands i k x) p n) e ∙ (slot_in-other_slot bands i k n x shape low_i ne ∙ sym (ap (λ p. slot_in bands p n) e))
      | inr other ↦ slot_in-other_band bands i k m n x other
    ]

-- slot k of the subbands up to i
pub slot_in-filled : (bands : List (List ℤ)) (i k : ℕ) (x : ℤ) (f : ℕ → ℤ) → HasShape bands → i < 32 → k < 36 → ((m : ℕ) → m < i → slot_in bands m k ≡ f m) → x ≡ f i → (m : ℕ) → m < i + 1 → slot_in (slots_with bands i k x) m k ≡ f m
slot_in-filled bands i k x f shape low_i low_k before here =
    below_more _ _
    (λ m lt. let ne : m ≢ i = omega arith in slot_in-other_band bands i k m k x ne ∙ before m lt)
    (slot_in-same bands i k x shape low_i low_k ∙ here)

each_kept : (bands : List (List ℤ)) (i k : ℕ) (x : ℤ) → HasShape bands → i < 32 → (m : ℕ) → m < 32 → length (subband_in (slots_with bands i k x) m) ≡ 36
each_kept bands i k x shape low_i m low =
    elim (same_or_not m i) [
      | inl e ↦ ap (λ p. length (subband_in (slots_with bands i k x) p)) e
          ∙ (ap length (subband_in-same bands i k x (omega (arith, shape.long))) ∙ (length-set (subband_in bands i) k x ∙ shape.each i low_i))
      | inr other ↦ ap length (subband_in-other bands i k m x other) ∙ shape.each m low
    ]

pub shape_kept : (bands : List (List ℤ)) (i k : ℕ) (x : ℤ) → HasShape bands → i < 32 → HasShape (slots_with bands i k x)
shape_kept bands i k x shape low_i = record {
  long = length-set bands i (set (subband_in bands i) k x) ∙ shape.long;
  each = each_kept bands i k x shape low_i;
}

-- what every place holds makes the list
pub slots_are : (bands : List (List ℤ)) (window : List ℤ) → HasShape bands → ((i k : ℕ) → i < 32 → k < 36 → slot_in bands i k ≡ turned_slot window i k) → bands ≡ slots_of window
unfolding slots_of
slots_are bands window shape h =
    tabulate-entries 32 (λ i. tabulate 36 (λ k. turned_slot window i k)) [] bands shape.long (λ i low_i.
    tabulate-entries 36 (λ k. turned_slot window i k) (pos 0) (subband_in bands i) (shape.each i low_i) (λ k low_k. h i k low_i low_k))

pub slots_small : (bands : List (List ℤ)) → HasShape bands → ((i k : ℕ) → i < 32 → k < 36 → IsWithin 44598016 (slot_in bands i k)) → All (All (IsWithin 44598016)) bands
slots_small bands shape h =
    All-from_get_or (All (IsWithin 44598016)) bands [] (λ i low_i.
    All-from_get_or (IsWithin 44598016) (subband_in bands i) (pos 0) (λ k low_k. h i k (omega (arith, shape.long)) (omega (arith, shape.each i (omega (arith, shape.long))))))

pub shape_zero : HasShape (replicate 32 (replicate 36 (pos 0)))
shape_zero = record {
  long = length-replicate 32 (replicate 36 (pos 0));
  each = λ i low. ap length (get_or-replicate 32 i (replicate 36 (pos 0)) [] low) ∙ length-replicate 36 (pos 0);
}
