-- The joined main data of all frames, the tape, and the stream that frames spell (ISO/IEC 11172-3,
-- 2.4, main_data_begin).
use Rattle.std.specs.Prelude.{◌≡◌, ℕ, suc, ◌+◌, ◌-◌, ◌*◌, ◌≤◌, Bool, false, List, [], ◌∷◌, ◌++◌, length, replicate, take, drop, ⊤}
use Rattle.l3_bits.specs.Bits.{packed}
use Rattle.l3_base.specs.declared.settings.Settings.{Settings}
use Rattle.l3_base.specs.Lengths.{slots_before, slot_bytes_of}
use Rattle.l3_stream.specs.declared.unit.ChosenFrame.{ChosenFrame}
use Rattle.l3_stream.specs.Frames.{IsCoded, code_bits}
use Rattle.l3_stream.specs.Header.{header_at}
use Rattle.l3_stream.specs.Side.{side_of}

-- the tape bit where frame n's main data begins: main_data_begin bytes before its own slot, headers
-- and side information not counted
unfoldable pub start_of : Settings → ℕ → ℕ → ℕ
start_of st n begin = 8 * (slots_before st n - begin)

-- the tape bit behind frame n's codes
abbrev pub end_of : Settings → ℕ → ChosenFrame → ℕ
end_of st n f = start_of st n f.begin + length (code_bits st f)

-- frame n fits behind codes that end at a tape bit: it is coded, its main data begins within the
-- tape so far and not before that bit, and its codes end within its own slot
pub record FitsAt (st : Settings) (n end : ℕ) (f : ChosenFrame) : Type 0 where
  pub coded : IsCoded st f
  pub small : f.begin ≤ 511
  pub reached : f.begin ≤ slots_before st n
  pub after : end ≤ start_of st n f.begin
  pub within : end_of st n f ≤ 8 * slots_before st (suc n)

-- each frame fits behind the one before, the first of them being frame n
abbrev pub FramesFit : Settings → ℕ → ℕ → List ChosenFrame → Type 0
FramesFit st n end [] = ⊤
FramesFit st n end (f ∷ fs) = FitsAt st n end f × FramesFit st (suc n) (end_of st n f) fs

-- the tape bit behind the codes of these frames, the first of which is frame n, or else the bit
-- `end`
unfoldable pub end_after : Settings → (n end : ℕ) → List ChosenFrame → ℕ
end_after st n end [] = end
end_after st n end (f ∷ fs) = end_after st (suc n) (end_of st n f) fs

-- n frames that fit, behind whose codes frame n's main data can begin so many bytes before its slot
pub record CanFollow (st : Settings) (n begin : ℕ) (fs : List ChosenFrame) : Type 0 where
  pub number : length fs ≡ n
  pub fit : FramesFit st 0 0 fs
  pub there : begin ≤ slots_before st n
  pub behind : end_after st 0 0 fs ≤ start_of st n begin

-- the tape from bit `end` on, frame n being the next: zeros up to a frame's main data, its codes,
-- and zeros up to the end of the last slot
abbrev pub tape_from : Settings → ℕ → ℕ → List ChosenFrame → List Bool
tape_from st n end [] = replicate (8 * slots_before st n - end) false
tape_from st n end (f ∷ fs) = replicate (start_of st n f.begin - end) false ++ (code_bits st f ++ tape_from st (suc n) (end_of st n f) fs)

-- the tape of frames
abbrev pub tape_of : Settings → List ChosenFrame → List Bool
tape_of st fs = tape_from st 0 0 fs

-- header and side information of frame n
unfoldable pub head_of : Settings → ℕ → ChosenFrame → List ℕ
head_of st n f = packed (header_at st n) ++ packed (side_of st.channels f)

abbrev pub heads_of : Settings → ℕ → List ChosenFrame → List (List ℕ)
heads_of st n [] = []
heads_of st n (f ∷ fs) = head_of st n f ∷ heads_of st (suc n) fs

-- each head, from frame n's on, with its slot behind it, which is cut from the tape's bytes
abbrev pub joined : Settings → ℕ → List (List ℕ) → List ℕ → List ℕ
joined st n [] tape = []
joined st n (head ∷ heads) tape = head ++ (take (slot_bytes_of st n) tape ++ joined st (suc n) heads (drop (slot_bytes_of st n) tape))

-- the bytes of frames: header, side information and slot of each
abbrev pub stream_of : Settings → List ChosenFrame → List ℕ
stream_of st fs = joined st 0 (heads_of st 0 fs) (packed (tape_of st fs))

-- frames spell bytes where they fit and the bytes are theirs
pub record Spells (bytes : List ℕ) (st : Settings) (fs : List ChosenFrame) : Type 0 where
  pub fit : FramesFit st 0 0 fs
  pub text : bytes ≡ stream_of st fs
