-- A window kept with its slots.
use Rattle.std.specs.Prelude.{◌≡◌, List, ℤ, All}
use Rattle.l3_base.specs.Sums.{IsWithin}
use Rattle.l3_base.specs.Filterbank.{slots_of}

-- the slots are those of the window, each within its bound
pub record AreSlotsOf (window : List ℤ) (slots : List (List ℤ)) : Type 0 where
  pub value : slots ≡ slots_of window
  pub bound : All (All (IsWithin 44598016)) slots
