-- The guesser at a place.
use Rattle.std.proofs.Common.{◌≡◌, ℕ, zero, suc, ◌<◌, List, [], ◌∷◌, length, ap, sym, arith}
use Rattle.std.specs.Prelude.{Some, slice_get, slice_index_or}

pub get_is : {X : Type 0} (xs : List X) (i : ℕ) (x : X) → i < length xs → x ≡ slice_index_or xs i x → slice_get xs i ≡ Some x
get_is [] i x there is = absurd (omega (arith, there))
get_is (y ∷ ys) zero x there is = ap Some (sym is)
get_is (y ∷ ys) (suc i) x there is = get_is ys i x (omega (arith, there)) is
