-- The edges of the bands at each sampling frequency.
use Rattle.std.proofs.Common.{◌≡◌, ℕ, zero, suc, ◌+◌, ◌-◌, ◌%◌, ◌<◌, ◌≤◌, eqb, true, refl, arith}
use Rattle.std.proofs.lemmas.Bool.{agree_below_at, eqb-true}
use Rattle.l3_base.specs.declared.rate.SampleRate.{SampleRate}
use Rattle.l3_base.specs.declared.rate.SampleRate.TheVariants.{Hz44100, Hz48000, Hz32000}
use Rattle.l3_base.specs.Rates.{hertz_index_of}
use Rattle.l3_base.specs.Bands.{edges_at, edge_at}
use Rattle.l3_base.proofs.Entries.{not_above_at, ordered_at}

pub edge_rises : (rate band : ℕ) → rate < 3 → band < 22 → edge_at rate band < edge_at rate (band + 1)
unfolding edge_at edges_at
edge_rises zero band _ lt = ordered_at (edge_at 0) (λ k. edge_at 0 (k + 1)) 22 band refl lt
edge_rises (suc zero) band _ lt = ordered_at (edge_at 1) (λ k. edge_at 1 (k + 1)) 22 band refl lt
edge_rises (suc (suc zero)) band _ lt = ordered_at (edge_at 2) (λ k. edge_at 2 (k + 1)) 22 band refl lt
edge_rises (suc (suc (suc n))) band none _ = absurd (omega arith)

rises-by : (rate i n : ℕ) → rate < 3 → i + n < 23 → edge_at rate i ≤ edge_at rate (i + n)
rises-by rate i zero lt small = let same : i + 0 ≡ i = omega arith in rw same (omega arith)
rises-by rate i (suc n) lt small =
    let same : i + suc n ≡ i + n + 1 = omega arith in
    rw same (omega (arith, rises-by rate i n lt (omega arith), edge_rises rate (i + n) lt (omega arith)))

pub edge_order : (rate i j : ℕ) → rate < 3 → i ≤ j → j < 23 → edge_at rate i ≤ edge_at rate j
edge_order rate i j lt le small =
    let same : i + (j - i) ≡ j = omega arith in
    let grows = rises-by rate i (j - i) lt (omega arith) in
    rw same at grows

pub edge_first : (rate : ℕ) → rate < 3 → edge_at rate 0 ≡ 0
unfolding edge_at edges_at
edge_first zero _ = refl
edge_first (suc zero) _ = refl
edge_first (suc (suc zero)) _ = refl
edge_first (suc (suc (suc n))) none = absurd (omega arith)

pub edge_last : (rate : ℕ) → rate < 3 → edge_at rate 22 ≡ 576
unfolding edge_at edges_at
edge_last zero _ = refl
edge_last (suc zero) _ = refl
edge_last (suc (suc zero)) _ = refl
edge_last (suc (suc (suc n))) none = absurd (omega arith)

pub edge_even : (rate band : ℕ) → rate < 3 → band < 23 → edge_at rate band % 2 ≡ 0
unfolding edge_at edges_at
edge_even zero band _ lt = eqb-true _ _ (agree_below_at (λ b. eqb (edge_at 0 b % 2) 0) (λ _. true) 23 band refl lt)
edge_even (suc zero) band _ lt = eqb-true _ _ (agree_below_at (λ b. eqb (edge_at 1 b % 2) 0) (λ _. true) 23 band refl lt)
edge_even (suc (suc zero)) band _ lt = eqb-true _ _ (agree_below_at (λ b. eqb (edge_at 2 b % 2) 0) (λ _. true) 23 band refl lt)
edge_even (suc (suc (suc n))) band none _ = absurd (omega arith)

pub edge_within : (rate band : ℕ) → rate < 3 → band < 23 → edge_at rate band ≤ 576
unfolding edge_at edges_at
edge_within zero band _ lt = not_above_at (edge_at 0) (λ _. 576) 23 band refl lt
edge_within (suc zero) band _ lt = not_above_at (edge_at 1) (λ _. 576) 23 band refl lt
edge_within (suc (suc zero)) band _ lt = not_above_at (edge_at 2) (λ _. 576) 23 band refl lt
edge_within (suc (suc (suc n))) band none _ = absurd (omega arith)

pub index_small : (rate : SampleRate) → hertz_index_of rate < 3
index_small Hz44100 = omega arith
index_small Hz48000 = omega arith
index_small Hz32000 = omega arith
