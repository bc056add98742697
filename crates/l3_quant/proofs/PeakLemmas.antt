-- The greatest values of bands.
use Rattle.std.proofs.Common.{◌≡◌, ℕ, zero, suc, ◌+◌, ◌-◌, ◌*◌, ◌<◌, ◌≤◌, ◌^◌, Bool, true, false, List, length, get_or, set, take, drop, leb, ℤ, pos, arith, refl, sym, subst, ap, ◌∙◌, inl, inr}
use Rattle.std.specs.Prelude.{All, slice_range, unsigned_abs}
use Rattle.std.specs.List.{list_all}
use Rattle.std.proofs.Math.ListN.{length-set}
use Rattle.std.proofs.Math.Seq.{take-add, take-length}
use Rattle.std.proofs.lemmas.Bool.{and_from, and_left, and_right, cases_lt, false_from_ne_true, le-leb, leb-true, lt-leb}
use Rattle.std.proofs.lemmas.List.Elements.{All-from_get_or}
use Rattle.std.proofs.lemmas.List.Folds.{drop_split, list_all-append}
use Rattle.std.proofs.Common.{take-append-drop}
use Rattle.l3_base.specs.declared.rate.SampleRate.{SampleRate}
use Rattle.l3_base.specs.Amp.{no_amp}
use Rattle.l3_base.specs.Rates.{hertz_index_of}
use Rattle.l3_base.specs.Bands.{edge_at, band_edges}
use Rattle.l3_base.specs.Peaks.{IsPeak}
use Rattle.l3_base.proofs.Edges.{edge_first, edge_last, edge_rises, index_small}
use Rattle.l3_base.proofs.ListLemmas.{filled_more}
use Rattle.l3_quant.specs.Quantiser.{is_codable, magnitude, magnitude_at, quantised_lines, steps_of}
use Rattle.l3_quant.specs.Amplified.{band_gain, quantised_bands}
use Rattle.l3_quant.specs.Gains.{first_gain_of}
use Rattle.l3_quant.specs.Magnitudes.{AreLinePeaks}
use Rattle.l3_quant.proofs.Codable.{all_at_most, list_all-quantised, magnitude_at-rises, magnitude_at-steps, magnitude_at-zero, steps_of-band, steps_of-pos}
use Rattle.l3_quant.proofs.BandLemmas.{first_gain_of-is, one_gain_without_amp, quantised_bands-band, quantised_bands-long}

-- ---- a test of all

-- a part that fails fails the whole
pub slice-fails : (p : ℤ → Bool) (xs : List ℤ) (a b : ℕ) → a ≤ b →
    list_all p (slice_range xs a b) ≡ false → list_all p xs ≡ false
slice-fails p xs a b le bad =
    let back : list_all p (drop a xs) ≡ false =
    ap (list_all p) (drop_split xs a b le) ∙ (list_all-append p (slice_range xs a b) (drop b xs) ∙ and_left (list_all p (slice_range xs a b)) (list_all p (drop b xs)) bad) in
    ap (list_all p) (sym (take-append-drop a xs)) ∙ (list_all-append p (take a xs) (drop a xs) ∙ and_right (list_all p (take a xs)) (list_all p (drop a xs)) back)

-- the front and the part behind it
pub front_more : (p : ℤ → Bool) (xs : List ℤ) (a b : ℕ) → a ≤ b → list_all p (take a xs) ≡ true →
    list_all p (slice_range xs a b) ≡ true → list_all p (take b xs) ≡ true
front_more p xs a b le front part =
    let whole : a + (b - a) ≡ b = omega arith in
    ap (λ n. list_all p (take n xs)) (sym whole) ∙ (ap (list_all p) (take-add a (b - a) xs)
    ∙ (list_all-append p (take a xs) (slice_range xs a b) ∙ and_from (list_all p (take a xs)) (list_all p (slice_range xs a b)) front part))

-- ---- peaks

-- the sizes of values so many quarter steps below 258 are at most n exactly where that of the peak
-- is
pub peak_size : (h : ℕ) (xs : List ℤ) (p : ℕ) → IsPeak xs p → (n : ℕ) →
    list_all (λ x. leb (magnitude_at (unsigned_abs x) h) n) xs ≡ leb (magnitude_at p h) n
peak_size h xs p is n =
    elim (cases_lt n (magnitude_at p h)) [
      | inl above ↦ false_from_ne_true _ (λ all. not_all above ((all_at_most (λ x. magnitude_at (unsigned_abs x) h) n xs).0 all)) ∙ sym (lt-leb (magnitude_at p h) n above)
      | inr within ↦ (all_at_most (λ x. magnitude_at (unsigned_abs x) h) n xs).1 (λ k d lt. each within k d lt) ∙ sym (le-leb (magnitude_at p h) n within)
    ]
  where
    each : magnitude_at p h ≤ n → (k : ℕ) (d : ℤ) → k < length xs → magnitude_at (unsigned_abs (get_or xs k d)) h ≤ n
    each within k d lt =
        let here : unsigned_abs (get_or xs k d) ≤ p = (all_at_most unsigned_abs p xs).0 (is p ∙ le-leb p p (omega arith)) k d lt in
        omega (arith, within, magnitude_at-rises (unsigned_abs (get_or xs k d)) p h here)

    smaller : n < magnitude_at p h → All (λ x. magnitude_at (unsigned_abs x) h ≤ n) xs → (k : ℕ) (d : ℤ) → k < length xs → unsigned_abs (get_or xs k d) ≤ p - 1
    smaller above all k d lt =
        elim (cases_lt (unsigned_abs (get_or xs k d)) p) [
          | inl less ↦ omega arith
          | inr le ↦ absurd (omega (arith, above, all k d lt, magnitude_at-rises p (unsigned_abs (get_or xs k d)) h le))
        ]

    not_all : n < magnitude_at p h → All (λ x. magnitude_at (unsigned_abs x) h ≤ n) xs → ⊥
    not_all above all =
        let less : p ≤ p - 1 = leb-true p (p - 1) (sym (is (p - 1)) ∙ (all_at_most unsigned_abs (p - 1) xs).1 (smaller above all)) in
        let none : p ≡ 0 = omega (arith, less) in
        let zero : magnitude_at p h ≡ 0 = ap (λ x. magnitude_at x h) none ∙ magnitude_at-zero h in
        omega (arith, above, zero)

-- the peak of the quantised values is the quantised peak
pub quantised_peak : (gain : ℤ) (xs : List ℤ) (p : ℕ) → IsPeak xs p →
    IsPeak (quantised_lines gain xs) (magnitude_at p (steps_of gain))
quantised_peak gain xs p is n = list_all-quantised gain n xs ∙ peak_size (steps_of gain) xs p is n

-- and so it is in each band, at the band's gain
pub band_peak : (rate : SampleRate) (amp : List ℕ) (gain : ℤ) (spec : List ℤ) (peaks : List ℕ) (b : ℕ) → b < 22 →
    AreLinePeaks (band_edges rate) spec peaks →
    IsPeak (slice_range (quantised_bands (band_edges rate) amp gain spec) (edge_at (hertz_index_of rate) b)
    (edge_at (hertz_index_of rate) (b + 1))) (magnitude_at (get_or peaks b 0) (steps_of (band_gain amp gain b)))
unfolding edge_at
band_peak rate amp gain spec peaks b lt are =
    let index = hertz_index_of rate in
    let P : List ℤ → Type 0 = λ q. IsPeak q (magnitude_at (get_or peaks b 0) (steps_of (band_gain amp gain b))) in
    subst P (sym (quantised_bands-band index b amp gain spec (index_small rate) lt))
    (quantised_peak (band_gain amp gain b) (slice_range spec (edge_at index b) (edge_at index (b + 1)))
    (get_or peaks b 0) (are.peaks_are b lt))

-- a spectrum with this peak is codable at one gain where the peak is, finer by no steps
pub one_peak_codable : (lines : List ℤ) (p g : ℕ) → g ≤ 255 → IsPeak lines p →
    magnitude_at p (258 - g + 0) ≤ 8191 →
    is_codable (quantised_lines (pos g) lines) ≡ true
one_peak_codable lines p g le is coded =
    let P : ℕ → Type 0 = λ h. magnitude_at p h ≤ 8191 in
    let steps : 258 - g + 0 ≡ steps_of (pos g) = omega (arith, steps_of-pos g le) in
    quantised_peak (pos g) lines p is 8191 ∙ le-leb _ 8191 (subst P steps coded)

-- and is not where the peak is above
pub one_peak_above : (lines : List ℤ) (p g : ℕ) → g ≤ 255 → IsPeak lines p →
    8191 < magnitude_at p (258 - g + 0) →
    list_all (λ x. leb (magnitude (pos g) x) 8191) lines ≡ false
one_peak_above lines p g le is above =
    let P : ℕ → Type 0 = λ h. 8191 < magnitude_at p h in
    let steps : 258 - g + 0 ≡ steps_of (pos g) = omega (arith, steps_of-pos g le) in
    peak_size (steps_of (pos g)) lines p is 8191 ∙ lt-leb _ 8191 (subst P steps above)

-- the least gain at which the peak can be coded is the first gain without amplification
pub one_peak_first : (edges : List ℕ) (lines : List ℤ) (p n : ℕ) → n ≤ 255 → IsPeak lines p →
    magnitude_at p (258 - n + 0) ≤ 8191 → ((k : ℕ) → 0 ≤ k → k < n →
    8191 < magnitude_at p (258 - k + 0)) →
    n ≡ first_gain_of edges no_amp lines
one_peak_first edges lines p n le is coded least =
    let at = λ (g : ℕ). one_gain_without_amp edges (pos g) lines in
    sym (first_gain_of-is edges no_amp lines n le
    (ap is_codable (at n) ∙ one_peak_codable lines p n le is coded)
    (λ k lt. ap is_codable (at k) ∙ (list_all-quantised (pos k) 8191 lines
    ∙ one_peak_above lines p k (omega arith) is (least k (omega arith) lt))))

-- ---- a list of peaks

-- so many bands of lines have their peaks
pub record LinePeaksSoFar (frequency : ℕ) (lines : List ℤ) (bands : ℕ) (peaks : List ℕ) : Type 0 where
  pub long : length peaks ≡ 22
  pub value : (b : ℕ) → b < bands →
      IsPeak (slice_range lines (edge_at frequency b) (edge_at frequency (b + 1))) (get_or peaks b 0)
  pub small : (b : ℕ) → b < bands → get_or peaks b 0 < 2 ^ 29

pub no_line_peaks : (frequency : ℕ) (lines : List ℤ) (peaks : List ℕ) → length peaks ≡ 22 →
    LinePeaksSoFar frequency lines 0 peaks
no_line_peaks frequency lines peaks long =
    record { long = long; value = λ b lt. absurd (omega arith); small = λ b lt. absurd (omega arith) }

pub line_peaks_more : (frequency : ℕ) (lines : List ℤ) (band : ℕ) (peaks : List ℕ) (p : ℕ) →
    band < 22 →
    LinePeaksSoFar frequency lines band peaks → p < 2 ^ 29 →
    IsPeak (slice_range lines (edge_at frequency band) (edge_at frequency (band + 1))) p →
    LinePeaksSoFar frequency lines (band + 1) (set peaks band p)
line_peaks_more frequency lines band peaks p lt before small is = record {
  long = length-set peaks band p ∙ before.long;
  value = filled_more (λ b n. IsPeak (slice_range lines (edge_at frequency b) (edge_at frequency (b + 1))) n)
      peaks band p 0 (omega (arith, before.long)) before.value is;
  small = filled_more (λ _ n. n < 2 ^ 29) peaks band p 0 (omega (arith, before.long)) before.small small;
}

pub line_peaks_are : (frequency : ℕ) (rate : SampleRate) (lines spec : List ℤ) (peaks : List ℕ) →
    length spec ≡ 576 →
    lines ≡ spec → frequency ≡ hertz_index_of rate → LinePeaksSoFar frequency lines 22 peaks →
    AreLinePeaks (band_edges rate) spec peaks
unfolding edge_at
line_peaks_are frequency rate lines spec peaks long same index so_far =
    let P : List ℤ → Type 0 = λ xs. LinePeaksSoFar frequency xs 22 peaks in
    let R : ℕ → Type 0 = λ f. LinePeaksSoFar f spec 22 peaks in
    let all = subst R index (subst P same so_far) in
    record {
      long = long;
      small = All-from_get_or (λ p. p < 2 ^ 29) peaks 0 (λ k lt. all.small k (omega (arith, all.long, lt)));
      peaks_are = all.value;
    }

-- what passes in each of the bands passes in all lines
pub bands_cover : (p : ℤ → Bool) (rate : ℕ) (xs : List ℤ) → rate < 3 → length xs ≡ 576 →
    ((b : ℕ) → b < 22 →
    list_all p (slice_range xs (edge_at rate b) (edge_at rate (b + 1))) ≡ true) →
    list_all p xs ≡ true
bands_cover p rate xs small long each =
    let front : take (edge_at rate 22) xs ≡ xs = ap (λ n. take n xs) (edge_last rate small ∙ sym long) ∙ take-length xs in
    ap (list_all p) (sym front) ∙ fronts 22 (omega arith)
  where
    fronts : (k : ℕ) → k ≤ 22 → list_all p (take (edge_at rate k) xs) ≡ true
    fronts zero le = rw (edge_first rate small) refl
    fronts (suc k) le = let next : suc k ≡ k + 1 = omega arith in rw next (front_more p xs (edge_at rate k) (edge_at rate (k + 1)) (omega (arith, edge_rises rate k small (omega arith))) (fronts k (omega arith)) (each k (omega arith)))

-- where each band's peak can be coded the spectrum can
pub bands_codable : (amp : List ℕ) (gain : ℕ) (peaks : List ℕ) →
    ((b : ℕ) → b < 22 →
    magnitude_at (get_or peaks b 0) (steps_of (band_gain amp (pos gain) b)) ≤ 8191) →
    (rate : SampleRate) (spec : List ℤ) → AreLinePeaks (band_edges rate) spec peaks →
    is_codable (quantised_bands (band_edges rate) amp (pos gain) spec) ≡ true
bands_codable amp gain peaks each rate spec are =
    let q = quantised_bands (band_edges rate) amp (pos gain) spec in
    bands_cover (λ x. leb (unsigned_abs x) 8191) (hertz_index_of rate) q (index_small rate)
    (quantised_bands-long (band_edges rate) amp (pos gain) spec ∙ are.long)
    (λ b lt. band_peak rate amp (pos gain) spec peaks b lt are 8191 ∙ le-leb _ 8191 (each b lt))

-- where one band's cannot it cannot
pub band_above : (amp : List ℕ) (gain band : ℕ) (peaks : List ℕ) → band < 22 →
    8191 < magnitude_at (get_or peaks band 0) (steps_of (band_gain amp (pos gain) band)) →
    (rate : SampleRate) (spec : List ℤ) → AreLinePeaks (band_edges rate) spec peaks →
    is_codable (quantised_bands (band_edges rate) amp (pos gain) spec) ≡ false
band_above amp gain band peaks lt above rate spec are =
    let index = hertz_index_of rate in
    let q = quantised_bands (band_edges rate) amp (pos gain) spec in
    slice-fails (λ x. leb (unsigned_abs x) 8191) q (edge_at index band) (edge_at index (band + 1))
    (omega (arith, edge_rises index band (index_small rate) lt))
    (band_peak rate amp (pos gain) spec peaks band lt are 8191 ∙ lt-leb _ 8191 above)

-- ---- the first gain

-- the least gain at which so many bands can be coded
pub record FirstSoFar (amp peaks : List ℕ) (bands gain : ℕ) : Type 0 where
  pub within : gain ≤ 255
  pub coded : (b : ℕ) → b < bands → magnitude_at (get_or peaks b 0) (258 - gain + 2 * get_or amp b 0) ≤ 8191
  pub least : (k : ℕ) → k < gain →
      (b : ℕ) × (b < bands) × (8191 < magnitude_at (get_or peaks b 0) (258 - k + 2 * get_or amp b 0))

pub first_more : (amp peaks : List ℕ) (band gain next finer : ℕ) → finer ≡ 2 * get_or amp band 0 →
    FirstSoFar amp peaks band gain → next ≤ 255 → gain ≤ next →
    magnitude_at (get_or peaks band 0) (258 - next + finer) ≤ 8191 →
    ((k : ℕ) → gain ≤ k → k < next → 8191 < magnitude_at (get_or peaks band 0) (258 - k + finer)) →
    FirstSoFar amp peaks (band + 1) next
first_more amp peaks band gain next finer steps before most from coded least = record {
  within = most;
  coded = λ b lt. elim (cases_lt b band) [
    | inl early ↦
        omega (arith, before.coded b early, magnitude_at-steps (get_or peaks b 0) (258 - next + 2 * get_or amp b 0) (258 - gain + 2 * get_or amp b 0) (omega arith))
    | inr late ↦
        (let same : band ≡ b = omega arith in
        let here : magnitude_at (get_or peaks band 0) (258 - next + 2 * get_or amp band 0) ≤ 8191 = rw steps at coded in
        subst (λ (m : ℕ). magnitude_at (get_or peaks m 0) (258 - next + 2 * get_or amp m 0) ≤ 8191) same here)
  ];
  least = λ k lt. elim (cases_lt k gain) [
    | inl early ↦ (let old = before.least k early in (old.0, omega (arith, old.1), old.2))
    | inr late ↦
        (let P : ℕ → Type 0 = λ f. 8191 < magnitude_at (get_or peaks band 0) (258 - k + f) in
        (band, omega arith, subst P steps (least k late lt)))
  ];
}

pub first_codable : (amp peaks : List ℕ) (gain : ℕ) → FirstSoFar amp peaks 22 gain →
    (rate : SampleRate) (spec : List ℤ) → AreLinePeaks (band_edges rate) spec peaks →
    is_codable (quantised_bands (band_edges rate) amp (pos gain) spec) ≡ true
first_codable amp peaks gain first =
    bands_codable amp gain peaks
    (λ b lt. let P : ℕ → Type 0 = λ h. magnitude_at (get_or peaks b 0) h ≤ 8191 in
    subst P (sym (steps_of-band amp gain b first.within)) (first.coded b lt))

pub none_below : (amp peaks : List ℕ) (gain : ℕ) → FirstSoFar amp peaks 22 gain →
    (rate : SampleRate) (spec : List ℤ) → AreLinePeaks (band_edges rate) spec peaks → (k : ℕ) →
    k < gain →
    is_codable (quantised_bands (band_edges rate) amp (pos k) spec) ≡ false
none_below amp peaks gain first rate spec are k lt =
    let found = first.least k lt in
    let P : ℕ → Type 0 = λ h. 8191 < magnitude_at (get_or peaks found.0 0) h in
    band_above amp k found.0 peaks found.1
    (subst P (sym (steps_of-band amp k found.0 (omega (arith, first.within)))) found.2) rate spec are

pub first_is : (amp peaks : List ℕ) (gain : ℕ) → FirstSoFar amp peaks 22 gain →
    (rate : SampleRate) (spec : List ℤ) → AreLinePeaks (band_edges rate) spec peaks →
    gain ≡ first_gain_of (band_edges rate) amp spec
first_is amp peaks gain first rate spec are =
    sym (first_gain_of-is (band_edges rate) amp spec gain first.within
    (first_codable amp peaks gain first rate spec are) (none_below amp peaks gain first rate spec are))
