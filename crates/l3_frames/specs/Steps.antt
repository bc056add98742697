-- What the steps of the reader give.
use Rattle.std.specs.Prelude.{◌≡◌, ℕ, ◌+◌, ◌-◌, ◌*◌, ◌^◌, ◌<◌, ◌≤◌, Bool, List, [], ◌++◌, length, take, drop, ◌⊎◌, ⊤, Option, None, Some, Result, Ok, Err}
use Rattle.l3_bits.specs.Bits.{bits_of}
use Rattle.l3_base.specs.declared.settings.Settings.{Settings}
use Rattle.l3_base.specs.Lengths.{slots_before, slot_bytes_of}
use Rattle.l3_stream.specs.declared.fault.StreamFault.{StreamFault}
use Rattle.l3_stream.specs.declared.fault.StreamFault.TheVariants as faults
use Rattle.l3_stream.specs.Tape.{start_of}
use Rattle.l3_stream.specs.Deviation.{Place, first_place}
use Rattle.l3_frames.specs.declared.tape.Tape.{Tape}
use Rattle.l3_frames.specs.declared.standing.Standing.{Standing}
use Rattle.l3_frames.specs.InTurn.{Progress}

-- an answer, made of the value where there is one (only the inside of this crate)
abbrev pub gives : {A B : Type 0} → (A → B) → Result A StreamFault → Result B StreamFault
gives made (Ok x) = Ok (made x)
gives made (Err fault) = Err fault

-- a fault of a frame whose header is the right one and whose bytes are there, or of the bits around
-- its codes (only the inside of this crate)
abbrev pub IsWithin : StreamFault → Type 0
IsWithin (faults.BadSide at) = ⊤
IsWithin (faults.BadBegin at) = ⊤
IsWithin (faults.BadCode bit) = ⊤
IsWithin (faults.WrongLength bit) = ⊤
IsWithin (faults.NotZero bit) = ⊤
IsWithin other = ⊥

-- where reading stands, by what is kept of the tape
abbrev pub tape_place : Tape → Place
tape_place t = record {
  number = t.number;
  at = t.at;
  end = t.end;
  rest = drop (t.end - 8 * t.base) (bits_of (take t.filled t.bytes));
}

-- the bytes kept go from the byte in which the codes end to the end of the slots so far
pub record KeepsTape (st : Settings) (t : Tape) : Type 0 where
  pub room : length t.bytes ≡ 4096
  pub number : t.number ≤ 2 ^ 24
  pub at : t.at ≤ 1441 * t.number
  pub slots : t.base + t.filled ≡ slots_before st t.number
  pub small : t.base + t.filled ≤ 1441 * t.number
  pub few : t.filled ≤ 1931
  pub begun : 8 * t.base ≤ t.end
  pub near : t.end < 8 * t.base + 8
  pub within : t.end ≤ 8 * (t.base + t.filled)

-- the codes so far end within the bytes kept
pub record HasRest (t : Tape) : Type 0 where
  pub room : length t.bytes ≡ 4096
  pub few : t.filled ≤ 1931
  pub small : t.base + t.filled < 2 ^ 60
  pub begun : 8 * t.base ≤ t.end
  pub within : t.end ≤ 8 * (t.base + t.filled)

-- the tape of a reader with these settings, or of one that has read no frame
abbrev pub IsTapeUnder : Option Settings → Tape → Type 0
IsTapeUnder None t = (tape_place t ≡ first_place) × ((st : Settings) → KeepsTape st t)
IsTapeUnder (Some st) t = KeepsTape st t

-- what always holds of where a reader stands
pub record IsSound (s : Standing) : Type 0 where
  pub limit : s.limit ≤ 16777216
  pub few : s.tape.number ≤ s.limit
  pub rest : HasRest s.tape
  pub tape : IsTapeUnder s.settings s.tape

-- how far a reader has come, by where it stands and the fault at which it has stopped
abbrev pub progress_of : Standing → Option StreamFault → Progress
progress_of s fault =
    record { limit = s.limit; settings = s.settings; place = tape_place s.tape; fault = fault }

-- the bits of a slot of so many bytes that stands behind the bytes kept
-- (only the inside of this crate)
abbrev pub slot_behind : Tape → ℕ → List Bool
slot_behind t bytes = bits_of (take bytes (drop t.filled t.bytes))

-- main data of so many bits, with this main_data_begin, is within the tape with the next slot, and
-- ends at a bit (only the inside of this crate)
pub record GoesTo (st : Settings) (t : Tape) (begin bits end : ℕ) : Type 0 where
  pub reached : begin ≤ slots_before st t.number
  pub after : t.end ≤ start_of st t.number begin
  pub is : end ≡ start_of st t.number begin + bits
  pub within : bits ≤ 8 * (begin + slot_bytes_of st t.number)

-- so many bytes of those that were left were read into the front of a buffer: all that it has room
-- for, or all that were left (only the inside of this crate)
pub record ReadsFront (left : List ℕ) (n : ℕ) (buffer : List ℕ) (now : Option (List ℕ)) :
    Type 0 where
  pub rest : List ℕ
  pub is : now ≡ Some rest
  pub bytes : left ≡ take n buffer ++ rest
  pub short : n < length buffer → rest ≡ []

-- the bytes that were left begin with these, and the others are left
-- (only the inside of this crate)
pub record HeaderBegins (left bytes : List ℕ) (now : Option (List ℕ)) : Type 0 where
  pub rest : List ℕ
  pub is : now ≡ Some rest
  pub bytes_are : left ≡ bytes ++ rest

-- no header begins a frame of this number at this byte: a read failed, or one frame is too many, or
-- fewer than 4 bytes are left (only the inside of this crate)
abbrev pub NoHeader : StreamFault → ℕ → ℕ → ℕ → List ℕ → Type 0
NoHeader fault limit number at left =
    (fault ≡ faults.Read) ⊎ (((fault ≡ faults.TooLong at) × (limit ≤ number) × (0 < length left))
    ⊎ ((fault ≡ faults.ShortFrame at) × (number < limit) × (0 < length left) × (length left < 4)))
