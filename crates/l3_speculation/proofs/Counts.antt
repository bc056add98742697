-- Counts made and counts reused are the gains tried.
use Rattle.std.proofs.Common.{◌≡◌, ◌∙◌, ap, refl, ℕ, zero, suc, ◌+◌, ◌-◌, ◌<◌, List, [], ◌∷◌, length, Option, Some, None, is_none, cond, arith}
use Rattle.std.specs.Prelude.{ℤ, is_some}
use Rattle.std.specs.List.{count_by}
use Rattle.std.proofs.lemmas.List.FromFn.{length-range_with_len}
use Rattle.std.proofs.lemmas.List.Sums.{sum_by-cons}
use Rattle.l3_base.specs.Amp.{no_amp}
use Rattle.l3_base.specs.declared.settings.Settings.{Settings}
use Rattle.l3_base.specs.declared.rate.SampleRate.{SampleRate}
use Rattle.l3_base.specs.declared.rate.Channels.{Channels}
use Rattle.l3_base.specs.declared.rate.Channels.TheVariants.{Mono, Stereo}
use Rattle.l3_base.specs.Bands.{band_edges}
use Rattle.l3_quant.specs.Gains.{first_gain_of}
use Rattle.l3_count.specs.Count.{Counted}
use Rattle.l3_count.specs.Memo.{kept_at}
use Rattle.l3_search.specs.Gain.{gains_from, lacking, picked_gain}
use Rattle.l3_analysis.specs.Piece.{PieceView, counts_in, edges_in, spectrum_in}
use Rattle.l3_commit.specs.Choice.{Spectra, after_unit, budget_at}
use Rattle.l3_commit.specs.Lacking.{granule_lacking, reserve_before, unit_gain, unit_lacking}
use Rattle.l3_commit.specs.Tried.{granule_tried, granule_tried_by, tried_at, tried_before, unit_tried}
use Rattle.l3_speculation.specs.Reused.{granule_reused, having, tried_so_far, unit_reused}

one-or_none : (o : Option Counted) → cond {A = ℕ} (is_none o) 1 0 + cond {A = ℕ} (is_some o) 1 0 ≡ 1
one-or_none None = refl
one-or_none (Some c) = refl

both-counted : (f : ℕ → Option Counted) (xs : List ℕ) → count_by (λ x. is_none (f x)) xs + count_by (λ x. is_some (f x)) xs ≡ length xs
both-counted f [] = refl
both-counted f (x ∷ xs) =
    let none : count_by (λ y. is_none (f y)) (x ∷ xs) ≡ cond (is_none (f x)) 1 0 + count_by (λ y. is_none (f y)) xs = sum_by-cons (λ y. cond (is_none (f y)) 1 0) x xs in
    let some : count_by (λ y. is_some (f y)) (x ∷ xs) ≡ cond (is_some (f x)) 1 0 + count_by (λ y. is_some (f y)) xs = sum_by-cons (λ y. cond (is_some (f y)) 1 0) x xs in
    let one = one-or_none (f x) in
    let rest = both-counted f xs in
    omega (arith, none, some, one, rest)

-- each gain from the first to the last has a count or has none
pub lacking-having : (counts : List (Option Counted)) (first last : ℕ) → lacking counts first last + having counts first last ≡ last + 1 - first
unfolding lacking having
lacking-having counts first last = both-counted (λ gain. kept_at counts gain) (gains_from first last) ∙ length-range_with_len first (last + 1 - first)

-- of a unit
pub unit-both : (st : Settings) (n reserve : ℕ) (p : PieceView) (channel : ℕ) → p.settings.sample_rate ≡ st.sample_rate →
    unit_lacking st n reserve p channel + unit_reused st n reserve p channel ≡ unit_tried st n reserve (spectrum_in p channel)
unfolding unit_lacking unit_reused unit_tried unit_gain
unit-both st n reserve p channel same =
    let lines = spectrum_in p channel in
    let gain = picked_gain (band_edges st.sample_rate) no_amp lines (budget_at st n reserve lines) in
    lacking-having (counts_in p channel) (first_gain_of (edges_in p) no_amp lines) gain
    ∙ ap (λ (r : SampleRate). gain + 1 - first_gain_of (band_edges r) no_amp lines) same

-- ---- of a granule

lacking-mono : (st : Settings) (n reserve : ℕ) (p : PieceView) → st.channels ≡ Mono → granule_lacking st n reserve p ≡ unit_lacking st n reserve p 0
unfolding granule_lacking reserve_before
lacking-mono st n reserve p e = rw e (omega arith)

lacking-stereo : (st : Settings) (n reserve : ℕ) (p : PieceView) → st.channels ≡ Stereo →
    granule_lacking st n reserve p ≡ unit_lacking st n reserve p 0 + unit_lacking st n (after_unit st n reserve (spectrum_in p 0)) p 1
unfolding granule_lacking reserve_before
lacking-stereo st n reserve p e = rw e (omega arith)

reused-mono : (st : Settings) (n reserve : ℕ) (p : PieceView) → st.channels ≡ Mono → granule_reused st n reserve p ≡ unit_reused st n reserve p 0
unfolding granule_reused reserve_before
reused-mono st n reserve p e = rw e (omega arith)

reused-stereo : (st : Settings) (n reserve : ℕ) (p : PieceView) → st.channels ≡ Stereo →
    granule_reused st n reserve p ≡ unit_reused st n reserve p 0 + unit_reused st n (after_unit st n reserve (spectrum_in p 0)) p 1
unfolding granule_reused reserve_before
reused-stereo st n reserve p e = rw e (omega arith)

tried-mono : (st : Settings) (n reserve : ℕ) (lines : ℕ → List ℤ) → st.channels ≡ Mono → granule_tried st n reserve lines ≡ unit_tried st n reserve (lines 0)
unfolding granule_tried
tried-mono st n reserve lines e = ap (λ (c : Channels). granule_tried_by c st n reserve lines) e

tried-stereo : (st : Settings) (n reserve : ℕ) (lines : ℕ → List ℤ) → st.channels ≡ Stereo →
    granule_tried st n reserve lines ≡ unit_tried st n reserve (lines 0) + unit_tried st n (after_unit st n reserve (lines 0)) (lines 1)
unfolding granule_tried
tried-stereo st n reserve lines e = ap (λ (c : Channels). granule_tried_by c st n reserve lines) e

pub granule-both : (st : Settings) (n reserve : ℕ) (p : PieceView) → p.settings.sample_rate ≡ st.sample_rate →
    granule_lacking st n reserve p + granule_reused st n reserve p ≡ granule_tried st n reserve (spectrum_in p)
granule-both st n reserve p same = by st.channels refl
  where
    by : (ch : Channels) → st.channels ≡ ch → granule_lacking st n reserve p + granule_reused st n reserve p ≡ granule_tried st n reserve (spectrum_in p)
    by Mono e =
        let lacks = lacking-mono st n reserve p e in
        let has = reused-mono st n reserve p e in
        let tries = tried-mono st n reserve (spectrum_in p) e in
        let both = unit-both st n reserve p 0 same in
        omega (arith, lacks, has, tries, both)
    by Stereo e =
        let mid = after_unit st n reserve (spectrum_in p 0) in
        let lacks = lacking-stereo st n reserve p e in
        let has = reused-stereo st n reserve p e in
        let tries = tried-stereo st n reserve (spectrum_in p) e in
        let one = unit-both st n reserve p 0 same in
        let two = unit-both st n mid p 1 same in
        omega (arith, lacks, has, tries, one, two)

-- what is lacking by channels, where each lacks none
pub granule-lacks_none : (st : Settings) (n reserve : ℕ) (p : PieceView) → unit_lacking st n reserve p 0 ≡ 0 →
    (st.channels ≡ Stereo → unit_lacking st n (after_unit st n reserve (spectrum_in p 0)) p 1 ≡ 0) → granule_lacking st n reserve p ≡ 0
granule-lacks_none st n reserve p first second = by st.channels refl
  where
    by : (ch : Channels) → st.channels ≡ ch → granule_lacking st n reserve p ≡ 0
    by Mono e = lacking-mono st n reserve p e ∙ first
    by Stereo e =
        let whole = lacking-stereo st n reserve p e in
        let two = second e in
        omega (arith, whole, first, two)

-- ---- of granules so far

pub tried-next : (st : Settings) (spectra : Spectra) (n k : ℕ) → k < 2 → tried_so_far st spectra n (k + 1) ≡ tried_so_far st spectra n k + tried_at st spectra n k
tried-next st spectra n zero few = refl
tried-next st spectra n (suc zero) few = refl
tried-next st spectra n (suc (suc k)) few = absurd (omega arith)

pub tried-whole : (st : Settings) (spectra : Spectra) (n k : ℕ) → k ≡ 2 → tried_so_far st spectra n k ≡ tried_before st spectra (suc n)
unfolding tried_before
tried-whole st spectra n k e = ap (tried_so_far st spectra n) e

pub tried-none : (st : Settings) (spectra : Spectra) (n k : ℕ) → k ≡ 0 → tried_so_far st spectra n k ≡ tried_before st spectra n
tried-none st spectra n k e = ap (tried_so_far st spectra n) e
