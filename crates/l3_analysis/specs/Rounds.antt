-- Rounds of amplification, after the outer loop of ISO/IEC 11172-3, Annex C: bands whose noise is
-- over what is allowed are amplified by one more, and the gain is picked anew. That there are at
-- most four rounds, and which one is chosen, is this project's own.
use Rattle.std.specs.Prelude.{◌≡◌, ℕ, zero, suc, ◌+◌, ◌-◌, ◌<◌, ◌≤◌, Bool, ◌&&◌, nat_le, nat_lt, List, [], ◌∷◌, All, length, slice_index_or, Some, ℤ, if◌then◌else◌}
use Rattle.l3_base.specs.Amp.{IsAmp, no_amp}
use Rattle.l3_base.specs.Choosing.{first_least, IsFirstLeast}
use Rattle.l3_base.specs.Spectrum.{IsLine}
use Rattle.l3_transform.specs.Demand.{energies_of}
use Rattle.l3_count.specs.Bands.{edges_at}
use Rattle.l3_count.specs.Count.{Counted}
use Rattle.l3_search.specs.Noise.{allowances_of, bands_over, noises_of, part2_of, raised}
use Rattle.l3_search.specs.Gain.{picked, picked_gain}

-- a round: its amplification, the gain that is picked under it, and how many bands are over
pub record Round : Type 0 where
  pub amp : List ℕ
  pub gain : ℕ
  pub over : ℕ

-- the bits of the scale factors of an amplification
abbrev pub part2_bits : List ℕ → ℕ
part2_bits amp = (part2_of amp).bits

-- how much noise is allowed in each band of a spectrum, at a sampling frequency by its number
abbrev pub allowed_in : ℕ → List ℤ → List ℕ
allowed_in rate lines = allowances_of rate (energies_of rate lines)

-- the round of an amplification: its gain is picked for what the scale factors leave of the budget
unfoldable pub round_of : (rate : ℕ) → List ℤ → (budget : ℕ) → (amp : List ℕ) → Round
round_of rate lines budget amp =
    let gain = picked_gain (edges_at rate) amp lines (budget - part2_bits amp) in
    record { amp = amp; gain = gain; over = bands_over (noises_of rate amp gain lines) (allowed_in rate lines) }

-- the amplification that follows a round: one more in each band that is over
abbrev pub next_amp : (rate : ℕ) → List ℤ → Round → List ℕ
next_amp rate lines r = raised r.amp (noises_of rate r.amp r.gain lines) (allowed_in rate lines)

-- whether a round may follow: some band is over, and the scale factors that follow are within the
-- budget
abbrev pub goes_on : (rate : ℕ) → List ℤ → (budget : ℕ) → Round → Bool
goes_on rate lines budget r = nat_lt 0 r.over && nat_le (part2_bits (next_amp rate lines r)) budget

-- the rounds after a round, at most so many
unfoldable pub rounds_after : (most : ℕ) → (rate : ℕ) → List ℤ → (budget : ℕ) → Round → List Round
rounds_after zero rate lines budget r = []
rounds_after (suc most) rate lines budget r =
    let next = round_of rate lines budget (next_amp rate lines r) in
    if goes_on rate lines budget r then next ∷ rounds_after most rate lines budget next else []

-- the first round, without amplification
abbrev pub first_round : (rate : ℕ) → List ℤ → (budget : ℕ) → Round
first_round rate lines budget = round_of rate lines budget no_amp

-- all rounds of a spectrum for a budget
abbrev pub rounds_of : (rate : ℕ) → List ℤ → (budget : ℕ) → List Round
rounds_of rate lines budget = let first = first_round rate lines budget in first ∷ rounds_after 3 rate lines budget first

-- the round of the fewest bands over, and of such the first
abbrev pub chosen_round : (rate : ℕ) → List ℤ → (budget : ℕ) → Round
chosen_round rate lines budget = let first = first_round rate lines budget in first_least (λ r. r.over) first (rounds_after 3 rate lines budget first)

-- ---- what holds of rounds

-- there are 1 to 4 rounds
abbrev pub RoundsAreFew : Type 0
RoundsAreFew = (rate : ℕ) (lines : List ℤ) (budget : ℕ) → let rounds = rounds_of rate lines budget in (1 ≤ length rounds) × (length rounds ≤ 4)

-- each round before the chosen one has more bands over, and none after it has fewer
abbrev pub ChosenHasFewestOver : Type 0
ChosenHasFewestOver = (rate : ℕ) (lines : List ℤ) (budget : ℕ) → IsFirstLeast (λ r. r.over) (rounds_of rate lines budget) (chosen_round rate lines budget)

-- a round has the count that is picked under its amplification, and this and its scale factors are
-- together within the budget
pub record IsRoundWithin (rate : ℕ) (lines : List ℤ) (budget : ℕ) (r : Round) : Type 0 where
  pub amp : IsAmp r.amp
  pub count : Counted
  pub picked_is : picked (edges_at rate) r.amp lines (budget - part2_bits r.amp) ≡ Some count
  pub gain_is : count.gain ≡ r.gain
  pub within : count.bits + part2_bits r.amp ≤ budget

abbrev pub RoundsAreWithin : Type 0
RoundsAreWithin = (rate : ℕ) (lines : List ℤ) (budget : ℕ) → All IsLine lines → All (IsRoundWithin rate lines budget) (rounds_of rate lines budget)

abbrev pub ChosenIsWithin : Type 0
ChosenIsWithin = (rate : ℕ) (lines : List ℤ) (budget : ℕ) → All IsLine lines → IsRoundWithin rate lines budget (chosen_round rate lines budget)

-- no band is amplified by more than the number of its round, counted from 0
abbrev pub AmpsRiseByOne : Type 0
AmpsRiseByOne = (rate : ℕ) (lines : List ℤ) (budget j : ℕ) (other : Round) → j < length (rounds_of rate lines budget) → All (λ a. a ≤ j) (slice_index_or (rounds_of rate lines budget) j other).amp
