-- What the words for scale factors mean.
use Rattle.std.specs.Prelude.{◌≡◌, ◌<◌, ◌≤◌, ℕ, true, List}
use Rattle.l3_base.specs.Amp.{IsAmp, no_amp}
use Rattle.l3_search.specs.Noise.{compress_of, holds_amp, scalefactor_bits}

-- a scalefac_compress holds the amplification, each other one that does takes no fewer bits, and
-- each lesser one that does takes more
pub record IsLeastCompress (amp : List ℕ) (compress : ℕ) : Type 0 where
  pub limit : compress < 16
  pub holds : holds_amp amp compress ≡ true
  pub least : (other : ℕ) → other < 16 → holds_amp amp other ≡ true → scalefactor_bits compress ≤ scalefactor_bits other
  pub first : (other : ℕ) → other < compress → holds_amp amp other ≡ true → scalefactor_bits compress < scalefactor_bits other

-- each amplification has such a one
abbrev pub CompressIsLeast : Type 0
CompressIsLeast = (amp : List ℕ) → IsAmp amp → IsLeastCompress amp (compress_of amp)

-- no two of the sixteen take as many bits, so there is never a tie
abbrev pub BitsDiffer : Type 0
BitsDiffer = (one other : ℕ) → one < 16 → other < 16 → scalefactor_bits one ≡ scalefactor_bits other → one ≡ other

-- without amplification scale factors take no bits
abbrev pub NoBitsWithoutAmp : Type 0
NoBitsWithoutAmp = scalefactor_bits (compress_of no_amp) ≡ 0
