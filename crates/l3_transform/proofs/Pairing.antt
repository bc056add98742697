-- Rows of pairs: lists that are filled two places at a time.
use Rattle.std.proofs.Common.{◌≢◌, ℕ, ◌+◌, ◌*◌, ◌<◌, List, length, get_or-set_other, get_or-set_same, below_more, ℤ, arith}
use Rattle.std.proofs.Math.ListN.{set, length-set}
use Rattle.l3_base.specs.Lists.{entry}

-- pair j is set: it and those before have what they were to have
pub pairs_filled : (P Q : ℕ → ℤ → Type 0) (xs : List ℤ) (j : ℕ) (a b : ℤ) → 2 * j + 1 < length xs →
    ((m : ℕ) → m < j → P m (entry xs (2 * m)) × Q m (entry xs (2 * m + 1))) → P j a → Q j b →
    (m : ℕ) → m < j + 1 → P m (entry (set (set xs (2 * j) a) (2 * j + 1) b) (2 * m)) × Q m (entry (set (set xs (2 * j) a) (2 * j + 1) b) (2 * m + 1))
pairs_filled P Q xs j a b room before first second =
    let room_first : 2 * j < length xs = omega arith in
    let room_second : 2 * j + 1 < length (set xs (2 * j) a) = omega (arith, length-set xs (2 * j) a) in
    let apart : 2 * j ≢ 2 * j + 1 = omega arith in
    below_more (λ m. P m (entry (set (set xs (2 * j) a) (2 * j + 1) b) (2 * m)) × Q m (entry (set (set xs (2 * j) a) (2 * j + 1) b) (2 * m + 1))) j
    (λ m under.
    let p : 2 * m ≢ 2 * j + 1 = omega arith in
    let q : 2 * m ≢ 2 * j = omega arith in
    let r : 2 * m + 1 ≢ 2 * j + 1 = omega arith in
    let s : 2 * m + 1 ≢ 2 * j = omega arith in
    ((rw get_or-set_other (rw get_or-set_other ((before m under).0))), (rw get_or-set_other (rw get_or-set_other ((before m under).1)))))
    ((rw get_or-set_other (rw get_or-set_same first)), (rw get_or-set_same second))
