-- What reading adds to the samples that are kept.
use Rattle.std.specs.Prelude.{◌≡◌, ℕ, ◌+◌, ◌≤◌, Bool, true, List, [], ◌++◌, length, take, drop, replicate, ℤ, pos, Option}
use Rattle.std.specs.Io.KnownBytes.{Consumes}
use Rattle.l3_base.specs.declared.rate.Channels.{Channels}
use Rattle.l3_base.specs.declared.rate.Channels.TheVariants.{Mono, Stereo}
use Rattle.l3_wav.specs.Pcm.{left_of, right_of}
use Rattle.l3_wav.specs.Samples.{SamplesState, coming}

-- a fact that is said where there are two channels
abbrev pub InStereo : Channels → Type 0 → Type 0
InStereo Mono fact = Unit {0}
InStereo Stereo fact = fact

-- a fact that is said where there is one channel
abbrev pub InMono : Channels → Type 0 → Type 0
InMono Mono fact = fact
InMono Stereo fact = Unit {0}

-- the zeros that stand before the first sample to the right
abbrev pub right_zeros : Channels → List ℤ
right_zeros Mono = []
right_zeros Stereo = replicate 1056 (pos 0)

-- of the samples of one channel that were to come, so many stand behind the old ones now; where it
-- is said to be short, these were all
pub record Adds (count : ℕ) (is_short : Bool) (coming coming_now old new : List ℤ) : Type 0 where
  pub added : new ≡ old ++ take count coming
  pub there : count ≤ length coming
  pub short : is_short ≡ true → count ≡ length coming
  pub rest : coming_now ≡ drop count coming

-- the same of each channel that is there; what follows the data in the source is the same as
-- before
pub record ReadsOn (channels : Channels) (count : ℕ) (is_short : Bool) (before now : SamplesState) (bytes bytes_now : List ℕ)
    (left left_now right right_now : List ℤ) : Type 0 where
  pub left_added : Adds count is_short (left_of channels (coming before bytes)) (left_of channels (coming now bytes_now)) left left_now
  pub right_added : InStereo channels (Adds count is_short (right_of channels (coming before bytes)) (right_of channels (coming now bytes_now)) right right_now)
  pub right_stays : InMono channels (right_now ≡ right)
  pub after : drop now.remaining bytes_now ≡ drop before.remaining bytes

-- the source's next bytes are gone, as far as it tells them: no more than those of the data that
-- were declared to come before and no longer are
abbrev pub AreGone : (before now : ℕ) → (left_old left_new : Option (List ℕ)) → Type 0
AreGone before now left_old left_new = (bytes : List ℕ) × (length bytes + now ≤ before) × Consumes left_old left_new bytes
