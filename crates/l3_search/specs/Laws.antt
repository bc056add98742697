-- What is picked, and how many counts that takes.
use Rattle.std.specs.Prelude.{◌≡◌, ◌≤◌, ◌&&◌, nat_le, pos, ℕ, List, All, Option, Some, ℤ}
use Rattle.l3_base.specs.Amp.{IsAmp, no_amp}
use Rattle.l3_base.specs.Choosing.{least_passing}
use Rattle.l3_base.specs.Spectrum.{IsLine}
use Rattle.l3_quant.specs.Quantiser.{is_codable, quantised_lines}
use Rattle.l3_quant.specs.Gains.{first_gain_of}
use Rattle.l3_count.specs.Regions.{regions_of}
use Rattle.l3_count.specs.Count.{Counted}
use Rattle.l3_count.specs.Memo.{no_counts}
use Rattle.l3_search.specs.Gain.{HasCountsTo, IsLeastWithin, lacking, picked, picked_gain, tried_of}

-- where no band is amplified, the picked gain is the least at which all lines, quantised at it, are
-- codable and have bits within the budget
abbrev pub PicksAtOneGain : Type 0
PicksAtOneGain = (edges : List ℕ) (lines : List ℤ) (budget : ℕ) →
    picked_gain edges no_amp lines budget
    ≡ least_passing 256 (λ gain. let q = quantised_lines (pos gain) lines in is_codable q && nat_le (regions_of edges q).bits budget)

-- the picked gain is one of 0 to 255 from the first gain on, and its count is the least within the
-- budget
pub record IsPicked (edges amp : List ℕ) (lines : List ℤ) (budget : ℕ) (c : Counted) : Type 0 where
  pub limit : picked_gain edges amp lines budget ≤ 255
  pub first : first_gain_of edges amp lines ≤ picked_gain edges amp lines budget
  pub count : picked edges amp lines budget ≡ Some c
  pub gain : c.gain ≡ picked_gain edges amp lines budget
  pub least : IsLeastWithin edges amp lines budget c

-- each spectrum has a picked gain for each budget
abbrev pub PickExists : Type 0
PickExists = (edges amp : List ℕ) (lines : List ℤ) (budget : ℕ) → IsAmp amp → All IsLine lines → (c : Counted) × IsPicked edges amp lines budget c

-- a lane with no count lacks all gains that are tried
abbrev pub EmptyLacksTried : Type 0
EmptyLacksTried = (edges amp : List ℕ) (lines : List ℤ) (budget : ℕ) → lacking no_counts (first_gain_of edges amp lines) (picked_gain edges amp lines budget) ≡ tried_of edges amp lines budget

-- no lane lacks more
abbrev pub LacksAtMostTried : Type 0
LacksAtMostTried = (edges amp : List ℕ) (lines : List ℤ) (budget : ℕ) (counts : List (Option Counted)) →
    lacking counts (first_gain_of edges amp lines) (picked_gain edges amp lines budget) ≤ tried_of edges amp lines budget

-- a lane that has the counts of a spectrum up to some gain lacks none up to a lesser one
abbrev pub CountedLacksNone : Type 0
CountedLacksNone = (edges amp : List ℕ) (lines : List ℤ) (last most : ℕ) (before after : List (Option Counted)) → last ≤ most → most ≤ 255 →
    HasCountsTo edges amp lines (first_gain_of edges amp lines) most before after →
    lacking after (first_gain_of edges amp lines) last ≡ 0
