-- What silence is encoded to.
use Rattle.std.specs.Prelude.{◌≡◌, List, ℤ, pos, length, All}
use Rattle.l3_base.specs.declared.settings.Settings.{Settings}
use Rattle.l3_base.specs.declared.rate.Channels.{Channels}
use Rattle.l3_base.specs.declared.rate.Channels.TheVariants.{Mono, Stereo}
use Rattle.l3_base.specs.Lengths.{frames_for}
use Rattle.l3_silence.specs.Silence.{silence_of}
use Rattle.l3_commit.specs.Encoding.{encoding_of}

-- all of these samples are 0
abbrev pub AreZero : List ℤ → Type 0
AreZero samples = All (λ x. x ≡ pos 0) samples

-- the samples of the channels that are there are all 0
abbrev pub AreSilent : Channels → (left right : List ℤ) → Type 0
AreSilent Mono left right = AreZero left
AreSilent Stereo left right = AreZero left × AreZero right

-- their encoding is the stream of silence, of as many frames as the samples need
abbrev pub ZerosEncodeToSilence : Type 0
ZerosEncodeToSilence = (st : Settings) (left right : List ℤ) → AreSilent st.channels left right → encoding_of st left right ≡ silence_of st (frames_for (length left))
