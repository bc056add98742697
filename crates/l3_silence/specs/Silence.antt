-- The stream of silence: frames with no codes, in which
-- each slot is handed on to the frames that follow.
use Rattle.std.specs.Prelude.{ℕ, zero, suc, ◌+◌, ◌-◌, ◌*◌, Bool, false, List, ◌++◌, min, replicate}
use Rattle.std.specs.List.{flat_map, range_with_len}
use Rattle.l3_base.specs.declared.settings.Settings.{Settings}
use Rattle.l3_base.specs.Header.{header_bits}
use Rattle.l3_base.specs.Lengths.{is_padded, frame_bytes_of, slot_bytes_of, mmax_of}
use Rattle.l3_bits.specs.Bits.{digits, packed}

-- main_data_begin of a frame in bytes: 0 in frame 0, and then
-- the begin and the slot of the frame before, at most mmax
unfoldable pub begin_of : Settings → ℕ → ℕ
begin_of st zero = 0
begin_of st (suc n) = min (begin_of st n + slot_bytes_of st n) (mmax_of st)

-- the bits of a frame: its header, main_data_begin in 9 bits, and zeros up to the frame's length
abbrev pub silent_bits : Settings → ℕ → List Bool
silent_bits st n = header_bits st (is_padded st n) false false ++ digits 9 (begin_of st n) ++ replicate (8 * frame_bytes_of st n - (32 + 9)) false

-- the bytes of a frame
unfoldable pub silent_frame : Settings → ℕ → List ℕ
silent_frame st n = packed (silent_bits st n)

-- so many frames one after another, from frame 0 on
unfoldable pub silence_of : Settings → ℕ → List ℕ
silence_of st frames = flat_map (silent_frame st) (range_with_len 0 frames)
