-- How many gains were tried so far.
use Rattle.std.proofs.Common.{◌≡◌, ◌⊎◌, inl, inr, ℕ, zero, suc, ◌+◌, ◌-◌, ◌*◌, ◌<◌, ◌≤◌, Bool, true, List, length, arith, refl}
use Rattle.std.specs.Prelude.{ℤ}
use Rattle.l3_base.specs.declared.settings.Settings.{Settings}
use Rattle.l3_base.specs.Lengths.{frames_for}
use Rattle.l3_commit.specs.Choice.{Spectra}
use Rattle.l3_commit.specs.Tried.{tried_at, tried_before}
use Rattle.l3_commit.specs.Encoding.{spectra_of, gains_tried}

-- before frame n, and for its first granule once that is committed
abbrev pub tried_so_far : Settings → Spectra → (n granules : ℕ) → ℕ
tried_so_far st spectra n zero = tried_before st spectra n
tried_so_far st spectra n (suc _) = tried_before st spectra n + tried_at st spectra n 0

pub tried-none : (st : Settings) (spectra : Spectra) (n few : ℕ) → n ≡ 0 → few ≡ 0 → 0 ≡ tried_so_far st spectra n few
unfolding tried_before
tried-none st spectra n few first none = rw (first, none) refl

-- one granule more
pub tried-more : (st : Settings) (spectra : Spectra) (n few m more : ℕ) → few < 2 → more < 2 → 2 * m + more ≡ 2 * n + few + 1
    → tried_so_far st spectra n few + tried_at st spectra n few ≡ tried_so_far st spectra m more
unfolding tried_before
tried-more st spectra n zero m more less low next =
    let frame : m ≡ n = omega (arith, low, next) in
    let one : more ≡ 1 = omega (arith, low, next) in
    rw (frame, one) refl
tried-more st spectra n (suc zero) m more less low next =
    let frame : m ≡ suc n = omega (arith, low, next) in
    let none : more ≡ 0 = omega (arith, low, next) in
    rw (frame, none) refl
tried-more st spectra n (suc (suc few)) m more less low next = absurd (omega arith)

before-next : (st : Settings) (spectra : Spectra) (n : ℕ) → tried_before st spectra n ≤ tried_before st spectra (suc n)
unfolding tried_before
before-next st spectra n = omega arith

before-more : (st : Settings) (spectra : Spectra) (n k m : ℕ) → n + k ≡ m → tried_before st spectra n ≤ tried_before st spectra m
before-more st spectra n zero m e =
    let same : m ≡ n = omega (arith, e) in
    rw same (omega arith)
before-more st spectra n (suc k) m e =
    let here = before-next st spectra n in
    let rest = before-more st spectra (suc n) k m (omega (arith, e)) in
    omega (arith, here, rest)

first-within : (st : Settings) (spectra : Spectra) (n : ℕ) → tried_before st spectra n + tried_at st spectra n 0 ≤ tried_before st spectra (suc n)
unfolding tried_before
first-within st spectra n = omega arith

so_far-within : (st : Settings) (spectra : Spectra) (n few total : ℕ) → few < 2 → 2 * n + few ≤ 2 * total → tried_so_far st spectra n few ≤ tried_before st spectra total
so_far-within st spectra n zero total turn within = before-more st spectra n (total - n) total (omega (arith, within))
so_far-within st spectra n (suc zero) total turn within =
    let here = first-within st spectra n in
    let rest = before-more st spectra (suc n) (total - suc n) total (omega (arith, within)) in
    omega (arith, here, rest)
so_far-within st spectra n (suc (suc few)) total turn within = absurd (omega arith)

-- what was tried so far is within what all frames try
pub tried-within : (st : Settings) (left right : List ℤ) (n few : ℕ) → few < 2 → 2 * n + few ≤ 2 * frames_for (length left) → tried_so_far st (spectra_of left right) n few ≤ gains_tried st left right
unfolding gains_tried
tried-within st left right n few turn within = so_far-within st (spectra_of left right) n few (frames_for (length left)) turn within

-- and so it is with one granule more
pub tried-next-within : (st : Settings) (left right : List ℤ) (n few : ℕ) → few < 2 → 2 * n + few < 2 * frames_for (length left)
    → tried_so_far st (spectra_of left right) n few + tried_at st (spectra_of left right) n few ≤ gains_tried st left right
tried-next-within st left right n zero turn within =
    let same = tried-more st (spectra_of left right) n 0 n 1 turn (omega arith) (omega arith) in
    let all = tried-within st left right n 1 (omega arith) (omega (arith, within)) in
    omega (arith, same, all)
tried-next-within st left right n (suc zero) turn within =
    let same = tried-more st (spectra_of left right) n 1 (suc n) 0 turn (omega arith) (omega arith) in
    let all = tried-within st left right (suc n) 0 (omega arith) (omega (arith, within)) in
    omega (arith, same, all)
tried-next-within st left right n (suc (suc few)) turn within = absurd (omega arith)

-- all of them
pub tried-all : (st : Settings) (left right : List ℤ) (n few : ℕ) → n ≡ frames_for (length left) → few ≡ 0 → tried_so_far st (spectra_of left right) n few ≡ gains_tried st left right
unfolding gains_tried
tried-all st left right n few all none = rw (none, all) refl

-- ---- counts that stand, or rise

pub later-same : (a b : ℕ) → b ≡ a → a ≤ b
later-same a b is = omega (arith, is)

pub later-same-then : (a b d : ℕ) → b ≡ a → b ≤ d → a ≤ d
later-same-then a b d is then = omega (arith, is, then)

pub later-more : (a b n : ℕ) → b ≡ a + n → a ≤ b
later-more a b n is = omega (arith, is)

pub later-more-then : (a b n d : ℕ) → b ≡ a + n → b ≤ d → a ≤ d
later-more-then a b n d is then = omega (arith, is, then)

-- where all granules ahead were read, the next one was
pub read-next : (ended : Bool) (n ahead read : ℕ) → 0 < ahead → (ended ≡ true) ⊎ (576 * (n + ahead) ≤ read) → (ended ≡ true) ⊎ (576 * (n + 1) ≤ read)
read-next ended n ahead read some (inl all) = inl all
read-next ended n ahead read some (inr more) = inr (omega (arith, some, more))
