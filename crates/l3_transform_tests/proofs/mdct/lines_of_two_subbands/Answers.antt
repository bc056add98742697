use Rattle.std.proofs.Common.{ℕ, zero, suc, List, [], ◌∷◌, get_or, ℤ, pos, negsuc, replicate, lit≤}
use Rattle.std.proofs.lemmas.List.Elements.{All-nil, All-replicate, All-set, All-head, All-tail}
use Rattle.std.specs.Prelude.{All}
use Rattle.l3_base.specs.Slots.{slots_with}
use Rattle.l3_base.specs.Sums.{IsWithin}
use Rattle.l3_transform_tests.proofs.mdct.lines_of_two_subbands.Goals as goal

subband_small : (bound : ℕ) (bands : List (List ℤ)) (i : ℕ) → All (All (IsWithin bound)) bands → All (IsWithin bound) (get_or bands i [])
subband_small bound [] i all = All-nil (IsWithin bound)
subband_small bound (b ∷ bs) zero all = All-head (All (IsWithin bound)) b bs all
subband_small bound (b ∷ bs) (suc i) all = subband_small bound bs i (All-tail (All (IsWithin bound)) b bs all)

slot_more : (bound : ℕ) (bands : List (List ℤ)) (i k : ℕ) (x : ℤ) → IsWithin bound x → All (All (IsWithin bound)) bands → All (All (IsWithin bound)) (slots_with bands i k x)
slot_more bound bands i k x small all = All-set (All (IsWithin bound)) bands i _ (All-set (IsWithin bound) (get_or bands i []) k x small (subband_small bound bands i all)) all

pub spectrum-requires : goal.spectrum-requires
spectrum-requires g c =
    let none : List (List ℤ) = replicate 32 (replicate 36 (pos 0)) in
    let one : List (List ℤ) = slots_with none 3 5 (pos 1000000) in
    let two : List (List ℤ) = slots_with one 3 30 (negsuc 1999999) in
    let all : All (All (IsWithin 44598016)) none = All-replicate (All (IsWithin 44598016)) 32 (replicate 36 (pos 0)) (All-replicate (IsWithin 44598016) 36 (pos 0) (lit≤ tt)) in
    rw (c.set-3.ensures, c.set-2.ensures, c.set.ensures, c.zero-slots.ensures)
    (slot_more 44598016 two 4 20 (pos 3000000) (lit≤ tt) (slot_more 44598016 one 3 30 (negsuc 1999999) (lit≤ tt) (slot_more 44598016 none 3 5 (pos 1000000) (lit≤ tt) all)))
