-- The samples are numbers of 16 bits, and their bytes stand for them.
use Rattle.std.proofs.Common.{◌≡◌, ◌∙◌, ap, ap₂, refl, ℕ, zero, suc, ◌+◌, ◌-◌, ◌*◌, ◌/◌, ◌%◌, ◌^◌, ◌<◌, ◌≤◌, Bool, true, false, ◌∷◌, ◌++◌, ℤ, pos, negsuc, nat_lt, length, take, arith, to_z, of_z, w16, w32, FitsSigned}
use Rattle.std.specs.Prelude.{◌+ℤ◌, ◌-ℤ◌, ◌≤ℤ◌, if◌then◌else◌}
use Rattle.std.proofs.lemmas.Bool.{ltb-true, ltb-false}
use Rattle.std.proofs.lemmas.Int.{ints, to_z-of_z}
use Rattle.std.proofs.Math.Nat.{div-lt_iff_lt-mul, pow-le-pow_right}
use Rattle.l3_wav.specs.Samples.{coming, unread, values_of, whole_bytes, whole_samples}
use Rattle.l3_wav.specs.Pcm.{firsts, seconds}
use Rattle.l3_base.specs.declared.rate.Channels.TheVariants.{Stereo}
use Rattle.std.proofs.lemmas.List.{take_all}
use Rattle.l3_wav.specs.Demo.{after, block_at, floor_of, left_at, noise_at, noise_of, right_at, samples_from, swell_at, triangle_at}
use Rattle.l3_wav.specs.DemoLaws.{in_turn}

-- from -(m + 1) to m
abbrev Within : ℕ → ℤ → Type 0
Within m v = (negsuc m ≤ℤ v) × (v ≤ℤ pos m)

noise-within : (state : ℕ) → state < 2 ^ 32 → Within 32767 (noise_of state)
noise-within state low = (omega (arith, ints, low), omega (arith, ints, low))

after-low : (state : ℕ) → after state < 2 ^ 32
after-low state = omega arith

divided : (a d : ℕ) → 4 ≤ d → a ≤ 32767 → a / d ≤ 8191
divided a d four low =
    let less : a / d < 8192 = (div-lt_iff_lt-mul {k = d} {x = a} {y = 8192} (omega (arith, four))).1 (omega (arith, four, low)) in
    omega (arith, less)

part-within : (v : ℤ) (d : ℕ) → 4 ≤ d → Within 32767 v → Within 8191 (floor_of v d)
part-within (pos a) d four w =
    let low : a ≤ 32767 = omega (arith, ints, w.1) in
    let part = divided a d four low in
    (omega (arith, ints), omega (arith, ints, part))
part-within (negsuc a) d four w =
    let low : a ≤ 32767 = omega (arith, ints, w.0) in
    let part = divided a d four low in
    (omega (arith, ints, part), omega (arith, ints))

half-within : (v : ℤ) → Within 18192 v → Within 9096 (floor_of v 2)
half-within (pos a) w = (omega (arith, ints), omega (arith, ints, w.1))
half-within (negsuc a) w = (omega (arith, ints, w.0), omega (arith, ints))

four : (e : ℕ) → 2 ≤ e → 4 ≤ 2 ^ e
four e two = pow-le-pow_right (omega arith) two

fits : (v : ℤ) → Within 32767 v → FitsSigned w16 v
fits (pos a) w = let low : a ≤ 32767 = omega (arith, ints, w.1) in record { sfits = omega (arith, low) }
fits (negsuc a) w = let low : a ≤ 32767 = omega (arith, ints, w.0) in record { sfits = omega (arith, low) }

sum-within : (a b : ℤ) → Within 10000 a → Within 8191 b → Within 18192 (a +ℤ b)
sum-within a b one other = (omega (arith, ints, one.0, other.0), omega (arith, ints, one.1, other.1))

wider : (v : ℤ) → Within 18192 v → Within 32767 v
wider v w = (omega (arith, ints, w.0), omega (arith, ints, w.1))

rising : (u : ℕ) → u < 50 → Within 10000 (pos (400 * u) -ℤ pos 10000)
rising u low = (omega (arith, ints, low), omega (arith, ints, low))

falling : (u : ℕ) → 50 ≤ u → u < 100 → Within 10000 (pos 30000 -ℤ pos (400 * u))
falling u high low = (omega (arith, ints, high, low), omega (arith, ints, high, low))

triangle-by : (u : ℕ) (b : Bool) → u < 100 → nat_lt u 50 ≡ b → Within 10000 (if b then pos (400 * u) -ℤ pos 10000 else pos 30000 -ℤ pos (400 * u))
triangle-by u true low is = rising u (ltb-true u 50 is)
triangle-by u false low is = falling u (ltb-false u 50 is) low

triangle-within : (at : ℕ) → Within 10000 (triangle_at at)
triangle-within at = triangle-by (at % 100) (nat_lt (at % 100) 50) (omega arith) refl

noise_at-within : (seed n : ℕ) → Within 32767 (noise_at seed n)
noise_at-within seed n = noise-within _ (after-low _)

left-within : (seed at : ℕ) → Within 18192 (left_at seed at)
left-within seed at = sum-within (triangle_at at) _ (triangle-within at)
    (part-within (noise_at seed (2 * at)) (2 ^ (swell_at at + 2)) (four (swell_at at + 2) (omega arith)) (noise_at-within seed (2 * at)))

half-wider : (v : ℤ) → Within 9096 v → Within 10000 v
half-wider v w = (omega (arith, ints, w.0), omega (arith, ints, w.1))

right-within : (seed at : ℕ) → Within 18192 (right_at seed at)
right-within seed at = sum-within (floor_of (left_at seed at) 2) _ (half-wider _ (half-within (left_at seed at) (left-within seed at)))
    (part-within (noise_at seed (2 * at + 1)) (2 ^ (9 - swell_at at)) (four (9 - swell_at at) (omega arith)) (noise_at-within seed (2 * at + 1)))

-- a value of 16 bits in 32 bits, cut to 16
cut : (v : ℤ) → Within 32767 v → of_z w32 v % 65536 ≡ of_z w16 v
cut (pos a) w = let low : a ≤ 32767 = omega (arith, ints, w.1) in omega (arith, low)
cut (negsuc a) w = let low : a ≤ 32767 = omega (arith, ints, w.0) in omega (arith, low)

small : (v : ℤ) → Within 32767 v → of_z w16 v < 65536
small (pos a) w = let low : a ≤ 32767 = omega (arith, ints, w.1) in omega (arith, low)
small (negsuc a) w = omega arith

two_bytes : (n : ℕ) → n < 65536 → n % 256 + 256 * (n / 256 % 256) ≡ n
two_bytes n low = omega (arith, low)

-- the value of a sample's two bytes is the sample
bytes-value : (v : ℤ) → Within 32767 v → to_z w16 ((of_z w32 v % 65536) % 256 + 256 * ((of_z w32 v % 65536) / 256 % 256)) ≡ v
bytes-value v w =
    ap (λ n. to_z w16 (n % 256 + 256 * (n / 256 % 256))) (cut v w)
    ∙ (ap (to_z w16) (two_bytes (of_z w16 v) (small v w)) ∙ to_z-of_z w16 v (fits v w))

module _ (seed : ℕ) where
  left-value : (at : ℕ) → to_z w16 ((of_z w32 (left_at seed at) % 65536) % 256 + 256 * ((of_z w32 (left_at seed at) % 65536) / 256 % 256)) ≡ left_at seed at
  left-value at = bytes-value (left_at seed at) (wider _ (left-within seed at))

  right-value : (at : ℕ) → to_z w16 ((of_z w32 (right_at seed at) % 65536) % 256 + 256 * ((of_z w32 (right_at seed at) % 65536) / 256 % 256)) ≡ right_at seed at
  right-value at = bytes-value (right_at seed at) (wider _ (right-within seed at))

  samples_next : (at count : ℕ) → samples_from seed at (suc count) ≡ block_at seed at ++ samples_from seed (at + 1) count
  unfolding samples_from
  samples_next at count = refl

  pub lefts : (at count : ℕ) → firsts (values_of (samples_from seed at count)) ≡ in_turn (left_at seed) at count
  unfolding samples_from in_turn
  lefts at zero = refl
  lefts at (suc count) = ap₂ (λ x xs. x ∷ xs) (left-value at) (lefts (at + 1) count)

  pub rights : (at count : ℕ) → seconds (values_of (samples_from seed at count)) ≡ in_turn (right_at seed) at count
  unfolding samples_from in_turn
  rights at zero = refl
  rights at (suc count) = ap₂ (λ x xs. x ∷ xs) (right-value at) (rights (at + 1) count)

  samples-long : (at count : ℕ) → length (samples_from seed at count) ≡ 4 * count
  unfolding samples_from
  samples-long at zero = refl
  samples-long at (suc count) =
      let rest = samples-long (at + 1) count in
      omega (arith, rest)

  -- all that follows the head is whole samples
  pub all-coming : (count : ℕ) → coming (unread Stereo (4 * count)) (samples_from seed 0 count) ≡ values_of (samples_from seed 0 count)
  all-coming count =
      let bytes = samples_from seed 0 count in
      let all : take (4 * count) bytes ≡ bytes = take_all (4 * count) bytes (omega (arith, samples-long 0 count)) in
      let whole : whole_bytes Stereo (length bytes) ≡ 4 * count = omega (arith, samples-long 0 count) in
      ap (λ l. values_of (whole_samples Stereo l)) all ∙ ap values_of (ap (λ n. take n bytes) whole ∙ all)
