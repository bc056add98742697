-- The slots of a window, as the kernels find them.
use Rattle.std.proofs.Common.{ℕ, ◌<◌, Bool, true, false, ℤ, pos, neg_ℤ, arith}
use Rattle.std.proofs.lemmas.Int.{ints}
use Rattle.std.proofs.lemmas.List.Elements.{All-from_get_or}
use Rattle.std.specs.Prelude.{All, if◌then◌else◌}
use Rattle.l3_base.specs.Lists.{tabulate}
use Rattle.l3_base.specs.Sums.{IsWithin}
use Rattle.l3_base.specs.Filterbank.{slot_sum, turned}
use Rattle.l3_base.proofs.ListLemmas.{length-tabulate, get_or-tabulate}
use Rattle.l3_base.proofs.SlotLemmas.{AreSamples, slot_sum_small}

pub tabulated_small : (newest : ℕ → ℤ) → AreSamples newest → All (IsWithin 44598016) (tabulate 32 (slot_sum newest))
tabulated_small newest samples =
    All-from_get_or (IsWithin 44598016) (tabulate 32 (slot_sum newest)) (pos 0) (λ i lt.
    let low : i < 32 = omega (arith, length-tabulate 32 (slot_sum newest)) in
    rw (get_or-tabulate 32 i (slot_sum newest) (pos 0) low) (slot_sum_small newest i samples))

turned_by : (b : Bool) (x : ℤ) (bound : ℕ) → IsWithin bound x → IsWithin bound (if b then neg_ℤ x else x)
turned_by true x bound small = grind (arith, ints)
turned_by false x bound small = small

pub turned_small : (i k : ℕ) (x : ℤ) (bound : ℕ) → IsWithin bound x → IsWithin bound (turned i k x)
turned_small i k x bound small = turned_by _ x bound small
