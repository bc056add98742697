-- Laws of the reading of streams, each carried by a function of src/laws.rt.
use Rattle.std.specs.Prelude.{◌≡◌, ◌≢◌, ◌<◌, ◌≤◌, ◌^◌, ◌++◌, ℕ, List, [], length, drop, All, None, Ok}
use Rattle.l3_base.specs.declared.settings.Settings.{Settings}
use Rattle.l3_base.specs.Lengths.{frame_bytes_of}
use Rattle.l3_stream.specs.declared.unit.ChosenFrame.{ChosenFrame}
use Rattle.l3_stream.specs.Tape.{Spells}
use Rattle.l3_stream.specs.Deviation.{Place, head_at, slot_at, Content, content_of, reading_of, deviation_of}

-- the same frames under the same settings, where there is a frame
pub record AreSame (st st' : Settings) (fs fs' : List ChosenFrame) : Type 0 where
  pub frames : fs ≡ fs'
  pub settings : fs ≢ [] → st ≡ st'

-- bytes are spelled in at most one way
abbrev pub OneReading : Type 0
OneReading = (bytes : List ℕ) (st st' : Settings) (fs fs' : List ChosenFrame) → Spells bytes st fs → Spells bytes st' fs' → AreSame st st' fs fs'

-- some settings and at most so many frames spell the bytes
pub record IsSpelled (limit : ℕ) (bytes : List ℕ) : Type 0 where
  pub settings : Settings
  pub frames : List ChosenFrame
  pub few : length frames ≤ limit
  pub spells : Spells bytes settings frames

-- the content read is that of at most so many frames under some settings, which spell the bytes
pub record IsContent (limit : ℕ) (bytes : List ℕ) (content : Content) : Type 0 where
  pub settings : Settings
  pub few : length content.frames ≤ limit
  pub spells : Spells bytes settings content.frames
  pub same : content ≡ content_of settings content.frames

-- bytes have no deviation exactly where they are spelled; what is read is what spells them, and
-- what spells them is read
pub record DeviatesExactly (limit : ℕ) (bytes : List ℕ) : Type 0 where
  pub only : deviation_of limit bytes ≡ None → IsSpelled limit bytes
  pub there : IsSpelled limit bytes → deviation_of limit bytes ≡ None
  pub read : (content : Content) → reading_of limit bytes ≡ Ok content → IsContent limit bytes content
  pub found : (st : Settings) (fs : List ChosenFrame) → length fs ≤ limit → Spells bytes st fs → reading_of limit bytes ≡ Ok (content_of st fs)

abbrev pub DeviationIsExact : Type 0
DeviationIsExact = (limit : ℕ) (bytes : List ℕ) → All (λ byte. byte < 2 ^ 8) bytes → DeviatesExactly limit bytes

-- what reading finds of a frame is found in its own bytes, whatever follows
pub record IsLocal (st : Settings) (p : Place) (frame more : List ℕ) : Type 0 where
  pub head : head_at st p (frame ++ more) ≡ head_at st p frame
  pub slot : slot_at st p.number (frame ++ more) ≡ slot_at st p.number frame
  pub left : drop (frame_bytes_of st p.number) (frame ++ more) ≡ more

abbrev pub ReadingIsLocal : Type 0
ReadingIsLocal = (st : Settings) (p : Place) (frame more : List ℕ) → length frame ≡ frame_bytes_of st p.number → IsLocal st p frame more
