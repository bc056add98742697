-- How the quantised value falls with the gain, and when values can be coded.
use Rattle.std.proofs.Common.{◌≡◌, ℕ, zero, suc, ◌+◌, ◌-◌, ◌*◌, ◌^◌, ◌<◌, ◌≤◌, ◌&&◌, true, false, List, [], ◌∷◌, length, get_or, min, leb, arith, refl, ap, ◌∙◌, inl, inr, subst, ℤ, pos, negsuc}
use Rattle.std.specs.Prelude.{All, Any, ◌↔◌, unsigned_abs}
use Rattle.std.specs.List.{list_all}
use Rattle.std.proofs.lemmas.Bool.{cases_lt, leb-true, le-leb, true≢false}
use Rattle.std.proofs.lemmas.Bool.Decides.{Decides-by_and}
use Rattle.std.proofs.lemmas.Int.{ints}
use Rattle.l3_quant.specs.Quantiser.{steps_of, scaled, greatest_reached, magnitude_at, magnitude, with_sign_of, quantised, quantised_lines}
use Rattle.l3_quant.specs.Amplified.{band_gain}
use Rattle.l3_quant.specs.Gains.{CodableIsTested, ZeroAtTheTop}
use Rattle.l3_quant.proofs.ReachedLemmas.{greatest_reached-rises, greatest_reached-small, greatest_reached-cut}
use Rattle.l3_quant.proofs.Scales.{scaled-rises, scaled-steps, scaled-zero, scaled-top}

-- ---- steps and values

pub steps_of-pos : (g : ℕ) → g ≤ 255 → steps_of (pos g) ≡ 258 - g
steps_of-pos g le = omega (arith, ints)

-- a band's gain is so many steps lower
pub steps_of-band : (amp : List ℕ) (g band : ℕ) → g ≤ 255 →
    steps_of (band_gain amp (pos g) band) ≡ 258 - g + 2 * get_or amp band 0
steps_of-band amp g band le = omega (arith, ints)

-- a greater line has no less a value
pub magnitude_at-rises : (x z h : ℕ) → x ≤ z → magnitude_at x h ≤ magnitude_at z h
magnitude_at-rises x z h le =
    greatest_reached-rises (scaled x h) (scaled z h) (scaled-rises x z h le)

-- more quarter steps give no less a value
pub magnitude_at-steps : (x h k : ℕ) → h ≤ k → magnitude_at x h ≤ magnitude_at x k
magnitude_at-steps x h k le =
    let P : ℕ → Type 0 = λ m. scaled x h ≤ scaled x m in
    let whole : h + (k - h) ≡ k = omega arith in
    greatest_reached-rises (scaled x h) (scaled x k) (subst P whole (scaled-steps x h (k - h)))

pub magnitude_at-zero : (h : ℕ) → magnitude_at 0 h ≡ 0
magnitude_at-zero h = greatest_reached-small (scaled 0 h) (scaled-zero h)

-- at the highest gains a line becomes 0
pub magnitude_at-top : (x h : ℕ) → x < 2 ^ 29 → h ≤ 9 → magnitude_at x h ≡ 0
magnitude_at-top x h lt le = greatest_reached-small (scaled x h) (scaled-top x h lt le)

pub with_sign_of-none : (x : ℤ) → with_sign_of x 0 ≡ pos 0
with_sign_of-none (pos x) = refl
with_sign_of-none (negsuc x) = refl

pub unsigned_abs-with_sign_of : (x : ℤ) (n : ℕ) → unsigned_abs (with_sign_of x n) ≡ n
unsigned_abs-with_sign_of (pos x) n = refl
unsigned_abs-with_sign_of (negsuc x) n = omega (arith, ints)

-- the absolute value of a quantised value
pub size_of_quantised : (gain x : ℤ) → unsigned_abs (quantised gain x) ≡ magnitude gain x
size_of_quantised gain x = unsigned_abs-with_sign_of x (magnitude gain x)

pub quantised-none : (gain x : ℤ) → magnitude gain x ≡ 0 → quantised gain x ≡ pos 0
quantised-none gain x none = ap (with_sign_of x) none ∙ with_sign_of-none x

pub zero_at_the_top : ZeroAtTheTop
zero_at_the_top gain x low high line =
    let few : steps_of (pos gain) ≤ 9 = omega (arith, steps_of-pos gain high) in
    quantised-none (pos gain) x (magnitude_at-top (unsigned_abs x) (steps_of (pos gain)) line few)

-- ---- a test of all

pub all_at_most : (f : ℤ → ℕ) (n : ℕ) (xs : List ℤ) →
    (list_all (λ x. leb (f x) n) xs ≡ true) ↔ All (λ x. f x ≤ n) xs
all_at_most f n xs =
    Decides-by_and (λ x. leb (f x) n) (λ x. f x ≤ n) (list_all (λ x. leb (f x) n))
    (λ x. (leb-true (f x) n, le-leb (f x) n)) refl (λ _ _. refl) xs

-- where not all are at most n, one is above
pub one_above : (f : ℤ → ℕ) (n : ℕ) (xs : List ℤ) → list_all (λ x. leb (f x) n) xs ≡ false →
    Any (λ x. n < f x) xs
one_above f n [] bad = absurd (true≢false bad)
one_above f n (x ∷ xs) bad =
    elim (cases_lt n (f x)) [
      | inl lt ↦ (0, x, omega arith, refl, lt)
      | inr le ↦
          (let others : list_all (λ y. leb (f y) n) xs ≡ false = rw le-leb at bad in
          let found = one_above f n xs others in
          (suc found.0, found.1, omega (arith, found.2), found.3, found.4))
    ]

-- the test of values is that of their lines
pub list_all-quantised : (gain : ℤ) (n : ℕ) (lines : List ℤ) →
    list_all (λ q. leb (unsigned_abs q) n) (quantised_lines gain lines)
    ≡ list_all (λ x. leb (magnitude gain x) n) lines
list_all-quantised gain n [] = refl
list_all-quantised gain n (x ∷ xs) =
    ap (λ m. leb m n && list_all (λ q. leb (unsigned_abs q) n) (quantised_lines gain xs))
    (size_of_quantised gain x)
    ∙ ap (λ b. leb (magnitude gain x) n && b) (list_all-quantised gain n xs)

pub codable_is_tested : CodableIsTested
codable_is_tested values = all_at_most unsigned_abs 8191 values

-- ---- values that the code has

-- a list that has each line's quantised value
pub quantised_lines-is : (gain : ℤ) (lines out : List ℤ) → length out ≡ length lines →
    ((k : ℕ) → k < length lines → get_or out k (pos 0) ≡ quantised gain (get_or lines k (pos 0))) →
    out ≡ quantised_lines gain lines
quantised_lines-is gain [] [] long h = refl
quantised_lines-is gain [] (y ∷ ys) long h = absurd (omega arith)
quantised_lines-is gain (x ∷ xs) [] long h = absurd (omega arith)
quantised_lines-is gain (x ∷ xs) (y ∷ ys) long h =
    let rest : ys ≡ quantised_lines gain xs =
    quantised_lines-is gain xs ys (omega arith) (λ k lt. h (suc k) (omega arith)) in
    let here : y ≡ quantised gain x = h 0 (omega arith) in
    ap (λ l. y ∷ l) rest ∙ ap (λ v. v ∷ quantised_lines gain xs) here

-- a value that is reached by a scaled line, both of them cut
pub magnitude-cut : (x n y h : ℕ) → n ≡ min (greatest_reached y) 8192 →
    y ≡ min (scaled x h) (2 ^ 30) → n ≡ min (magnitude_at x h) 8192
magnitude-cut x n y h value scaling =
    value ∙ (ap (λ z. min (greatest_reached z) 8192) scaling ∙ greatest_reached-cut (scaled x h))

pub get_or-default : (xs : List ℤ) (i : ℕ) (d e : ℤ) → i < length xs → get_or xs i d ≡ get_or xs i e
get_or-default [] i d e lt = absurd (omega arith)
get_or-default (x ∷ xs) zero d e lt = refl
get_or-default (x ∷ xs) (suc i) d e lt = get_or-default xs i d e (omega arith)

-- an entry that is above
pub entry_above : (f : ℤ → ℕ) (n : ℕ) (xs : List ℤ) (i : ℕ) → i < length xs →
    n < f (get_or xs i (pos 0)) → Any (λ x. n < f x) xs
entry_above f n xs i room above =
    let x = get_or xs i (pos 0) in
    (i, x, room, get_or-default xs i x (pos 0) room, above)
