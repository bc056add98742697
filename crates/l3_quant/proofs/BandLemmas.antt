-- The quantised values of a spectrum's lines, each at the gain of its band.
use Rattle.std.proofs.Common.{◌≡◌, ℕ, zero, suc, ◌+◌, ◌-◌, ◌*◌, ◌<◌, ◌≤◌, true, false, List, [], ◌∷◌, length, get_or, map, take, drop, ltb, arith, refl, sym, ap, ◌∙◌, inl, inr, subst, ℤ, pos}
use Rattle.std.specs.Prelude.{All, ◌-ℤ◌, slice_range, unsigned_abs}
use Rattle.std.specs.List.{enumerate_from}
use Rattle.std.proofs.lemmas.Bool.{cases_lt, lt-ltb, ltb-true, ltb-false, le-ltb, true≢false}
use Rattle.std.proofs.lemmas.List.{get_or-replicate, get_or_past, length-take}
use Rattle.std.proofs.lemmas.List.Elements.{All-from_get_or}
use Rattle.std.proofs.lemmas.Int.{ints}
use Rattle.l3_base.specs.Amp.{IsAmp, no_amp}
use Rattle.l3_base.specs.Choosing.{IsLeastPassing}
use Rattle.l3_base.specs.Spectrum.{IsLine}
use Rattle.l3_base.proofs.ChoosingLemmas.{least_passing-is, least_passing-least}
use Rattle.l3_base.specs.Bands.{edge_at, edges_at}
use Rattle.l3_base.proofs.Edges.{edge_first, edge_last, edge_order}
use Rattle.l3_quant.specs.Quantiser.{magnitude, quantised, quantised_lines, steps_of, is_codable}
use Rattle.l3_quant.specs.Amplified.{band_gain, band_of, quantised_bands}
use Rattle.l3_quant.specs.Gains.{CodableAbove, FirstGainExists, OneGainWithoutAmp, ZerosAtTheTop, first_gain_of}
use Rattle.l3_quant.proofs.Codable.{codable_is_tested, magnitude_at-steps, magnitude_at-top, quantised-none, size_of_quantised, steps_of-band}

-- ---- the band of a line

-- a line between two edges is in their band
pub band_of-is : (rate band at : ℕ) → rate < 3 → band < 22 → edge_at rate band ≤ at →
    at < edge_at rate (band + 1) → band_of (edges_at rate) at ≡ band
unfolding band_of edge_at
band_of-is rate band at small lt from to =
    least_passing-is 22 (λ b. ltb at (edge_at rate (b + 1))) band (record {
      within = omega arith;
      passing = λ _. lt-ltb at (edge_at rate (band + 1)) to;
      least = λ k below. le-ltb at (edge_at rate (k + 1))
          (omega (arith, edge_order rate (k + 1) band small (omega arith) (omega arith), from));
    })

-- a line is between the edges of its band
pub record IsInBand (rate at band : ℕ) : Type 0 where
  pub band_lt : band < 22
  pub from : edge_at rate band ≤ at
  pub to : at < edge_at rate (band + 1)

least_in_band : (rate at band : ℕ) → rate < 3 → at < 576 →
    IsLeastPassing 22 (λ b. ltb at (edge_at rate (b + 1))) band → IsInBand rate at band
least_in_band rate at band small room is =
    let last : at < edge_at rate (21 + 1) = omega (arith, edge_last rate small) in
    let less : band < 22 = elim (cases_lt band 22) [
      | inl lt ↦ lt
      | inr le ↦ absurd (true≢false (sym (lt-ltb at (edge_at rate (21 + 1)) last) ∙ is.least 21 (omega arith)))
    ] in
    record {
      band_lt = less;
      from = elim (cases_lt 0 band) [
        | inl some ↦
            (let before : edge_at rate (band - 1 + 1) ≤ at = ltb-false at (edge_at rate (band - 1 + 1)) (is.least (band - 1) (omega arith)) in
            let same : band - 1 + 1 ≡ band = omega arith in
            subst (λ (b : ℕ). edge_at rate b ≤ at) same before)
        | inr none ↦
            (let zero : 0 ≡ band = omega arith in
            subst (λ (b : ℕ). edge_at rate b ≤ at) zero (omega (arith, edge_first rate small)))
      ];
      to = ltb-true at (edge_at rate (band + 1)) (is.passing less);
    }

pub band_of-holds : (rate at : ℕ) → rate < 3 → at < 576 →
    IsInBand rate at (band_of (edges_at rate) at)
unfolding band_of edge_at
band_of-holds rate at small room =
    least_in_band rate at (band_of (edges_at rate) at) small room
    (least_passing-least 22 (λ b. ltb at (edge_at rate (b + 1))))

-- a list in which one band more is filled
pub filled_band : (P : ℕ → ℕ → ℕ → Type 0) (rate band : ℕ) (old new : List ℕ) → rate < 3 →
    band < 22 →
    ((b k : ℕ) → b < band → edge_at rate b ≤ k → k < edge_at rate (b + 1) →
    P b k (get_or old k 0)) →
    ((k : ℕ) → k < edge_at rate band → get_or new k 0 ≡ get_or old k 0) →
    ((k : ℕ) → edge_at rate band ≤ k → k < edge_at rate (band + 1) → P band k (get_or new k 0)) →
    (b k : ℕ) → b < band + 1 → edge_at rate b ≤ k → k < edge_at rate (b + 1) →
    P b k (get_or new k 0)
filled_band P rate band old new small lt before same here b k below from to =
    elim (cases_lt b band) [
      | inl early ↦
          subst (P b k) (sym (same k (omega (arith, edge_order rate (b + 1) band small (omega arith) (omega arith), to))))
          (before b k early from to)
      | inr late ↦
          (let last : band ≡ b = omega arith in
          subst (λ (m : ℕ). edge_at rate m ≤ k → k < edge_at rate (m + 1) → P m k (get_or new k 0)) last (here k) from to)
    ]

-- ---- a list that is made of another one, entry by entry

-- each number and its place, from place n on
abbrev each : (ℕ → ℤ → ℤ) → ℕ → List ℤ → List ℤ
each f n xs = map (λ (line : ℕ × ℤ). f line.0 line.1) (enumerate_from n xs)

each-long : (f : ℕ → ℤ → ℤ) (n : ℕ) (xs : List ℤ) → length (each f n xs) ≡ length xs
each-long f n [] = refl
each-long f n (x ∷ xs) = omega (arith, each-long f (n + 1) xs)

each-at : (f : ℕ → ℤ → ℤ) (n : ℕ) (xs : List ℤ) (k : ℕ) → k < length xs →
    get_or (each f n xs) k (pos 0) ≡ f (n + k) (get_or xs k (pos 0))
each-at f n [] k lt = absurd (omega arith)
each-at f n (x ∷ xs) zero lt = let same : n ≡ n + 0 = omega arith in ap (λ m. f m x) same
each-at f n (x ∷ xs) (suc k) lt =
    let same : n + 1 + k ≡ n + suc k = omega arith in
    each-at f (n + 1) xs k (omega arith) ∙ ap (λ m. f m (get_or xs k (pos 0))) same

each-is : (f : ℕ → ℤ → ℤ) (n : ℕ) (xs out : List ℤ) → length out ≡ length xs →
    ((k : ℕ) → k < length xs → get_or out k (pos 0) ≡ f (n + k) (get_or xs k (pos 0))) →
    out ≡ each f n xs
each-is f n [] [] long h = refl
each-is f n [] (y ∷ ys) long h = absurd (omega arith)
each-is f n (x ∷ xs) [] long h = absurd (omega arith)
each-is f n (x ∷ xs) (y ∷ ys) long h =
    let rest : ys ≡ each f (n + 1) xs =
    each-is f (n + 1) xs ys (omega arith)
    (λ k lt. let same : n + suc k ≡ n + 1 + k = omega arith in
    h (suc k) (omega arith) ∙ ap (λ m. f m (get_or xs k (pos 0))) same) in
    let here : y ≡ f n x = h 0 (omega arith) ∙ ap (λ m. f m x) (let none : n + 0 ≡ n = omega arith in none) in
    ap (λ l. y ∷ l) rest ∙ ap (λ v. v ∷ each f (n + 1) xs) here

-- with one function at all places it is a map
each-map : (f : ℕ → ℤ → ℤ) (g : ℤ → ℤ) (n : ℕ) (xs : List ℤ) →
    ((k : ℕ) (x : ℤ) → k < length xs → f (n + k) x ≡ g x) → each f n xs ≡ map g xs
each-map f g n [] h = refl
each-map f g n (x ∷ xs) h =
    let rest : each f (n + 1) xs ≡ map g xs =
    each-map f g (n + 1) xs
    (λ k y lt. let same : n + 1 + k ≡ n + suc k = omega arith in
    ap (λ m. f m y) same ∙ h (suc k) y (omega arith)) in
    let here : f n x ≡ g x = ap (λ m. f m x) (let none : n ≡ n + 0 = omega arith in none) ∙ h 0 x (omega arith) in
    ap (λ l. f n x ∷ l) rest ∙ ap (λ v. v ∷ map g xs) here

each-drop : (f : ℕ → ℤ → ℤ) (n a : ℕ) (xs : List ℤ) →
    drop a (each f n xs) ≡ each f (n + a) (drop a xs)
each-drop f n zero xs = ap (λ m. each f m xs) (let none : n ≡ n + 0 = omega arith in none)
each-drop f n (suc a) [] = refl
each-drop f n (suc a) (x ∷ xs) =
    let same : n + 1 + a ≡ n + suc a = omega arith in
    each-drop f (n + 1) a xs ∙ ap (λ m. each f m (drop a xs)) same

each-take : (f : ℕ → ℤ → ℤ) (n a : ℕ) (xs : List ℤ) → take a (each f n xs) ≡ each f n (take a xs)
each-take f n zero xs = refl
each-take f n (suc a) [] = refl
each-take f n (suc a) (x ∷ xs) = ap (λ l. f n x ∷ l) (each-take f (n + 1) a xs)

-- ---- the values of a spectrum

-- the value at a place
abbrev value_at : List ℕ → List ℕ → ℤ → ℕ → ℤ → ℤ
value_at edges amp gain at x = quantised (band_gain amp gain (band_of edges at)) x

pub quantised_bands-long : (edges amp : List ℕ) (gain : ℤ) (lines : List ℤ) →
    length (quantised_bands edges amp gain lines) ≡ length lines
unfolding quantised_bands
quantised_bands-long edges amp gain lines = each-long (value_at edges amp gain) 0 lines

pub quantised_bands-at : (edges amp : List ℕ) (gain : ℤ) (lines : List ℤ) (k : ℕ) →
    k < length lines →
    get_or (quantised_bands edges amp gain lines) k (pos 0)
    ≡ quantised (band_gain amp gain (band_of edges k)) (get_or lines k (pos 0))
unfolding quantised_bands
quantised_bands-at edges amp gain lines k lt =
    let same : 0 + k ≡ k = omega arith in
    each-at (value_at edges amp gain) 0 lines k lt
    ∙ ap (λ m. value_at edges amp gain m (get_or lines k (pos 0))) same

-- a list that has each line's value
pub quantised_bands-is : (edges amp : List ℕ) (gain : ℤ) (lines out : List ℤ) →
    length out ≡ length lines →
    ((k : ℕ) → k < length lines →
    get_or out k (pos 0) ≡ quantised (band_gain amp gain (band_of edges k)) (get_or lines k (pos 0))) →
    out ≡ quantised_bands edges amp gain lines
unfolding quantised_bands
quantised_bands-is edges amp gain lines out long h =
    each-is (value_at edges amp gain) 0 lines out long
    (λ k lt. let same : k ≡ 0 + k = omega arith in
    h k lt ∙ ap (λ m. value_at edges amp gain m (get_or lines k (pos 0))) same)

-- the values of a band are those of its lines at its gain
pub quantised_bands-band : (rate band : ℕ) (amp : List ℕ) (gain : ℤ) (lines : List ℤ) →
    rate < 3 → band < 22 →
    slice_range (quantised_bands (edges_at rate) amp gain lines) (edge_at rate band) (edge_at rate (band + 1))
    ≡ quantised_lines (band_gain amp gain band) (slice_range lines (edge_at rate band) (edge_at rate (band + 1)))
unfolding quantised_bands
quantised_bands-band rate band amp gain lines small lt =
    let f = value_at (edges_at rate) amp gain in
    let from = edge_at rate band in
    let width = edge_at rate (band + 1) - edge_at rate band in
    ap (take width) (each-drop f 0 from lines)
    ∙ (each-take f (0 + from) width (drop from lines)
    ∙ each-map f (quantised (band_gain amp gain band)) (0 + from) (take width (drop from lines))
    (λ k x room. ap (λ b. quantised (band_gain amp gain b) x)
    (band_of-is rate band (0 + from + k) small lt (omega arith)
    (omega (arith, room, length-take width (drop from lines))))))

-- ---- no amplification

no_amp-zero : (band : ℕ) → get_or no_amp band 0 ≡ 0
no_amp-zero band =
    elim (cases_lt band 21) [
      | inl lt ↦ get_or-replicate 21 band 0 0 lt
      | inr le ↦ get_or_past no_amp band 0 le
    ]

minus-none : (gain : ℤ) → gain -ℤ pos 0 ≡ gain
minus-none gain = omega (arith, ints)

pub band_gain-no_amp : (gain : ℤ) (band : ℕ) → band_gain no_amp gain band ≡ gain
band_gain-no_amp gain band =
    ap (λ a. gain -ℤ pos (2 * a)) (no_amp-zero band) ∙ minus-none gain

pub one_gain_without_amp : OneGainWithoutAmp
unfolding quantised_bands
one_gain_without_amp edges gain lines =
    each-map (value_at edges no_amp gain) (quantised gain) 0 lines
    (λ k x lt. ap (λ g. quantised g x) (band_gain-no_amp gain (band_of edges (0 + k))))

-- ---- codable

-- the sizes of the values
pub quantised_bands-size : (edges amp : List ℕ) (gain : ℤ) (lines : List ℤ) (k : ℕ) →
    k < length lines →
    unsigned_abs (get_or (quantised_bands edges amp gain lines) k (pos 0))
    ≡ magnitude (band_gain amp gain (band_of edges k)) (get_or lines k (pos 0))
quantised_bands-size edges amp gain lines k lt =
    ap unsigned_abs (quantised_bands-at edges amp gain lines k lt)
    ∙ size_of_quantised (band_gain amp gain (band_of edges k)) (get_or lines k (pos 0))

-- a higher gain gives no greater a value
pub magnitude-falls : (amp : List ℕ) (x : ℤ) (band low high : ℕ) → low ≤ high → high ≤ 255 →
    magnitude (band_gain amp (pos high) band) x ≤ magnitude (band_gain amp (pos low) band) x
magnitude-falls amp x band low high le most =
    magnitude_at-steps (unsigned_abs x) (steps_of (band_gain amp (pos high) band))
    (steps_of (band_gain amp (pos low) band))
    (omega (arith, steps_of-band amp high band most, steps_of-band amp low band (omega arith)))

pub codable_above : CodableAbove
codable_above edges amp lines low high le most h =
    All-from_get_or (λ q. unsigned_abs q ≤ 8191) (quantised_bands edges amp (pos high) lines) (pos 0)
    (λ k lt.
    let room : k < length lines = omega (arith, quantised_bands-long edges amp (pos high) lines) in
    let there : k < length (quantised_bands edges amp (pos low) lines) =
    omega (arith, quantised_bands-long edges amp (pos low) lines) in
    omega (
      arith,
      h k (pos 0) there,
      quantised_bands-size edges amp (pos low) lines k room,
      quantised_bands-size edges amp (pos high) lines k room,
      magnitude-falls amp (get_or lines k (pos 0)) (band_of edges k) low high le most,
    ))

-- an amplification is at most 3 in all bands, also behind its last
pub amp-small : (amp : List ℕ) (band : ℕ) → IsAmp amp → get_or amp band 0 ≤ 3
amp-small amp band is =
    elim (cases_lt band 21) [
      | inl lt ↦ is.small band 0 (omega (arith, is.long))
      | inr le ↦ omega (arith, get_or_past amp band 0 (omega (arith, is.long)))
    ]

-- and 0 in the last one
pub amp-last : (amp : List ℕ) → IsAmp amp → get_or amp 21 0 ≡ 0
amp-last amp is = get_or_past amp 21 0 (omega (arith, is.long))

pub zeros_at_the_top : ZerosAtTheTop
zeros_at_the_top edges amp lines is small =
    All-from_get_or (λ q. q ≡ pos 0) (quantised_bands edges amp (pos 255) lines) (pos 0)
    (λ k lt.
    let room : k < length lines = omega (arith, quantised_bands-long edges amp (pos 255) lines) in
    let band = band_of edges k in
    let x = get_or lines k (pos 0) in
    let few : steps_of (band_gain amp (pos 255) band) ≤ 9 =
    omega (arith, steps_of-band amp 255 band (omega arith), amp-small amp band is) in
    quantised_bands-at edges amp (pos 255) lines k room
    ∙ quantised-none (band_gain amp (pos 255) band) x
    (magnitude_at-top (unsigned_abs x) (steps_of (band_gain amp (pos 255) band)) (small k (pos 0) room) few))

-- ---- the first gain

-- a gain at which the spectrum is codable, and at none below it
pub first_gain_of-is : (edges amp : List ℕ) (lines : List ℤ) (n : ℕ) → n ≤ 255 →
    is_codable (quantised_bands edges amp (pos n) lines) ≡ true →
    ((k : ℕ) → k < n → is_codable (quantised_bands edges amp (pos k) lines) ≡ false) →
    first_gain_of edges amp lines ≡ n
unfolding first_gain_of
first_gain_of-is edges amp lines n le codable below =
    least_passing-is 256 (λ g. is_codable (quantised_bands edges amp (pos g) lines)) n (record {
      within = omega arith;
      passing = λ _. codable;
      least = below;
    })

-- what a first gain is
pub first_gain_of-least : (edges amp : List ℕ) (lines : List ℤ) →
    IsLeastPassing 256 (λ g. is_codable (quantised_bands edges amp (pos g) lines)) (first_gain_of edges amp lines)
unfolding first_gain_of
first_gain_of-least edges amp lines =
    least_passing-least 256 (λ g. is_codable (quantised_bands edges amp (pos g) lines))

pub top_codable : (edges amp : List ℕ) (lines : List ℤ) → IsAmp amp → All IsLine lines →
    is_codable (quantised_bands edges amp (pos 255) lines) ≡ true
top_codable edges amp lines is small =
    let q = quantised_bands edges amp (pos 255) lines in
    (codable_is_tested q).1
    (λ k d lt. let none : unsigned_abs (get_or q k d) ≡ 0 = ap unsigned_abs (zeros_at_the_top edges amp lines is small k d lt) in
    omega (arith, none))

pub first_gain_exists : FirstGainExists
first_gain_exists edges amp lines is small =
    let first = first_gain_of edges amp lines in
    let least = first_gain_of-least edges amp lines in
    elim (cases_lt 255 first) [
      | inl lt ↦ absurd (true≢false (sym (top_codable edges amp lines is small) ∙ least.least 255 lt))
      | inr le ↦ le
    ]
