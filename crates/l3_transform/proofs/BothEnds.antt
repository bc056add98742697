-- Lists that are filled from both ends.
use Rattle.std.proofs.Common.{◌≡◌, ◌≢◌, inl, inr, ℕ, suc, ◌+◌, ◌-◌, ◌<◌, List, length, get_or, get_or-set_other, get_or-set_same, below_more, arith, subst}
use Rattle.std.proofs.Math.ListN.{set, length-set}
use Rattle.std.proofs.lemmas.Bool.{cases_lt}

-- place i and its opposite are set: they and all outside them have what they were to have
pub filled_both : {A : Type 0} (P : ℕ → A → Type 0) (last : ℕ) (xs : List A) (i : ℕ) (v w d : A) → length xs ≡ suc last → i + i < last →
    ((m : ℕ) → m < i → P m (get_or xs m d) × P (last - m) (get_or xs (last - m) d)) → P i v → P (last - i) w →
    (m : ℕ) → m < i + 1 → P m (get_or (set (set xs i v) (last - i) w) m d) × P (last - m) (get_or (set (set xs i v) (last - i) w) (last - m) d)
filled_both P last xs i v w d long lt before low high =
    let room : i < length xs = omega arith in
    let room' : last - i < length (set xs i v) = omega (arith, length-set xs i v) in
    let apart : i ≢ last - i = omega arith in
    below_more (λ m. P m (get_or (set (set xs i v) (last - i) w) m d) × P (last - m) (get_or (set (set xs i v) (last - i) w) (last - m) d)) i
    (λ m under.
    let a : m ≢ last - i = omega arith in
    let b : m ≢ i = omega arith in
    let c : last - m ≢ last - i = omega arith in
    let e : last - m ≢ i = omega arith in
    ((rw get_or-set_other (rw get_or-set_other ((before m under).0))), (rw get_or-set_other (rw get_or-set_other ((before m under).1)))))
    ((rw get_or-set_other (rw get_or-set_same low)), (rw get_or-set_same high))

-- both halves are all
pub from_both : (P : ℕ → Type 0) (half last : ℕ) → suc last ≡ half + half → ((m : ℕ) → m < half → P m × P (last - m)) → (m : ℕ) → m < half + half → P m
from_both P half last e each m lt =
    elim (cases_lt m half) [
      | inl low ↦ (each m low).0
      | inr high ↦
          let back : last - (last - m) ≡ m = omega arith in
          subst P back ((each (last - m) (omega arith)).1)
    ]
