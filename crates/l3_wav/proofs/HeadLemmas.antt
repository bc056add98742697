-- What the first bytes of a file tell of all of it.
use Rattle.std.proofs.Common.{◌≡◌, ℕ, ◌<◌, ◌≤◌, List, [], ◌++◌, length, take, arith, inl, inr}
use Rattle.std.proofs.lemmas.List.{append-nil, take-append-le, take_all}
use Rattle.std.proofs.lemmas.Bool.{cases_lt}
use Rattle.std.proofs.Math.Seq.{take-length}

-- the first n bytes, where so many were read, or all that there were
pub take-front : (n : ℕ) (front rest : List ℕ) → length front ≤ n → (length front < n → rest ≡ []) → take n (front ++ rest) ≡ front
take-front n front rest most ends = elim (cases_lt (length front) n) [
  | inl short ↦ rw (ends short, append-nil front) (take_all n front most)
  | inr full ↦
      let same : n ≡ length front = omega arith in
      rw same (rw (take-append-le (length front) front rest (omega arith)) (take-length front))
]
