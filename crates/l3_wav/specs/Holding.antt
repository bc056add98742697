-- What windows hold of the samples of a file.
use Rattle.std.specs.Prelude.{◌≡◌, ℕ, ◌+◌, ◌-◌, ◌*◌, ◌^◌, ◌<◌, ◌≤◌, Bool, true, false, List, [], length, take, drop, ℤ, Option, IfSome, IsSomeAnd}
use Rattle.l3_base.specs.declared.rate.Channels.{Channels}
use Rattle.l3_wav.specs.Pcm.{left_of, right_of, right_count}
use Rattle.l3_wav.specs.Samples.{SamplesState, coming}
use Rattle.l3_wav.specs.ReadingOn.{InStereo, InMono}
use Rattle.l3_wav.specs.Windows.{kept_of}

-- windows as contracts see them: the samples of each channel that are kept, from 1056 before those
-- of granule `base` on
pub record WindowsView : Type 0 where
  pub channels : Channels
  -- how many granules from `base` on are read ahead
  pub ahead : ℕ
  pub base : ℕ
  -- how many samples of each channel were read
  pub read : ℕ
  -- there are no more
  pub ended : Bool
  pub samples : SamplesState
  pub left : List ℤ
  pub right : List ℤ

-- what is kept of one channel is that of these samples, of which the rest is still to come
pub record HoldsChannel (kept : List ℤ) (base read : ℕ) (ended : Bool) (rest samples : List ℤ) : Type 0 where
  pub kept_is : kept ≡ kept_of (take read samples) base
  pub within : read ≤ length samples
  pub all_read : ended ≡ true → read ≡ length samples
  pub rest_is : rest ≡ drop read samples

-- the windows are those of these samples, of which the bytes still hold the rest; in mono there are
-- none to the right
pub record Holds (v : WindowsView) (bytes : List ℕ) (left right : List ℤ) : Type 0 where
  pub left_holds : HoldsChannel v.left v.base v.read v.ended (left_of v.channels (coming v.samples bytes)) left
  pub right_holds : InStereo v.channels (HoldsChannel v.right v.base v.read v.ended (right_of v.channels (coming v.samples bytes)) right)
  pub no_right : InMono v.channels ((v.right ≡ []) × (right ≡ []))

-- what held before reading holds after it, of the same samples; and what follows the data in the
-- source is the same
pub record StillHolds (old new : WindowsView) (bytes now : List ℕ) : Type 0 where
  pub holds : (left right : List ℤ) → Holds old bytes left right → Holds new now left right
  pub after : drop new.samples.remaining now ≡ drop old.samples.remaining bytes

-- the same where the source tells what it has left
abbrev pub GoesOn : WindowsView → WindowsView → Option (List ℕ) → Option (List ℕ) → Type 0
GoesOn old new left_old left_new = IfSome left_old (λ bytes. IsSomeAnd left_new (λ now. StillHolds old new bytes now))

-- kept by the type, where each channel has room for so many samples, and those of so many granules
-- are forgotten and still stand in front
pub record AreSound (v : WindowsView) (stale left_capacity right_capacity : ℕ) : Type 0 where
  pub ahead : (0 < v.ahead) × (v.ahead ≤ 64)
  pub base : v.base ≤ 8589934592
  pub few : v.read ≤ 576 * (v.base + v.ahead + 1)
  pub near : v.ended ≡ false → 576 * v.base ≤ v.read
  pub left_long : length v.left ≡ 1056 + v.read - 576 * v.base
  pub right_long : length v.right ≡ right_count v.channels (length v.left)
  pub few_stale : stale ≤ 7
  pub left_room : 1056 + 576 * (v.ahead + 8) ≤ left_capacity
  pub right_room : InStereo v.channels (1056 + 576 * (v.ahead + 8) ≤ right_capacity)
  pub channels : v.samples.failed ≡ false → v.samples.channels ≡ v.channels
  pub declared : v.samples.failed ≡ false → 2 * v.read + v.samples.remaining < 2 ^ 32
  pub small : 2 * v.read < 2 ^ 32
  pub done : v.ended ≡ true → v.samples.remaining ≡ 0
