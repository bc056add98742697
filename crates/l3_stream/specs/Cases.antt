-- Readings of small streams, each computed from the definition: that of one zero sample, and others
-- with one thing changed.
use Rattle.std.specs.Prelude.{◌≡◌, ℕ, List, [], ◌∷◌, ◌++◌, length, replicate, Result, Ok, Err}
use Rattle.l3_stream.specs.declared.fault.StreamFault.{StreamFault}
use Rattle.l3_stream.specs.declared.fault.StreamFault.TheVariants as faults
use Rattle.l3_stream.specs.Deviation.{Content, reading_of}

-- how many frames were read
abbrev pub frames_in : Result Content StreamFault → Result ℕ StreamFault
frames_in (Ok content) = Ok (length content.frames)
frames_in (Err fault) = Err fault

-- the limit is above the frames of each stream below
abbrev pub frames_read : List ℕ → Result ℕ StreamFault
frames_read bytes = frames_in (reading_of 16777216 bytes)

-- mono, 44100 Hz, 128 kbit/s: the first frame, of 417 bytes, with these bytes of its side
-- information for part2_3_length, big_values and table_select of its first unit, and this first
-- byte of its slot
abbrev pub first_frame : ℕ → ℕ → ℕ → ℕ → ℕ → List ℕ
first_frame high low pairs table slot = 0xFF ∷ 0xFB ∷ 0x90 ∷ 0xC0 ∷ 0 ∷ 0 ∷ high ∷ low ∷ pairs ∷ 0 ∷ 0 ∷ table ∷ (replicate 9 0 ++ slot ∷ replicate 395 0)

-- its first frame for one zero sample
abbrev pub blank_frame : List ℕ
blank_frame = first_frame 0 0 0 0 0

-- the second frame, of 418 bytes, with these first bytes of its side information, and this last
-- byte
abbrev pub second_frame : ℕ → ℕ → ℕ → List ℕ
second_frame a b last = 0xFF ∷ 0xFB ∷ 0x92 ∷ 0xC0 ∷ a ∷ b ∷ (replicate 411 0 ++ last ∷ [])

-- the stream of one zero sample: main_data_begin of the second frame is 396, 9 bits
abbrev pub zero_sample : List ℕ
zero_sample = blank_frame ++ second_frame 0xC6 0 0

-- the stream of one zero sample, whole and with one thing changed
pub record ReadingsOfZeroSample : Type 0 where
  pub whole : frames_read zero_sample ≡ Ok 2
  pub nothing : frames_read [] ≡ Ok 0
  pub last_bit_set : frames_read (blank_frame ++ second_frame 0xC6 0 1) ≡ Err (faults.NotZero 6343)
  pub last_byte_cut : frames_read (blank_frame ++ 0xFF ∷ 0xFB ∷ 0x92 ∷ 0xC0 ∷ 0xC6 ∷ replicate 412 0) ≡ Err (faults.ShortFrame 417)
  pub first_byte_zero : frames_read (0 ∷ 0xFB ∷ 0x90 ∷ 0xC0 ∷ (replicate 413 0 ++ second_frame 0xC6 0 0)) ≡ Err (faults.BadHeader 0)
  pub begin_of_397 : frames_read (blank_frame ++ second_frame 0xC6 0x80 0) ≡ Err (faults.BadBegin 417)
  pub private_bit : frames_read (blank_frame ++ second_frame 0xC6 0x40 0) ≡ Err (faults.BadSide 417)
  pub limit_of_one : frames_in (reading_of 1 zero_sample) ≡ Err (faults.TooLong 417)
  -- the first unit's part2_3_length is 1: the bit 0 is no whole code of a quadruple
  pub length_of_one : frames_read (first_frame 0 4 0 0 0 ++ second_frame 0xC6 0 0) ≡ Err (faults.BadCode 0)

-- the first unit has one pair in table 1, and the slot begins with its code, 010
pub record ReadingsOfOnePair : Type 0 where
  pub whole : frames_read (first_frame 0 12 2 0x80 0x40 ++ second_frame 0xC5 0x80 0) ≡ Ok 2
  pub begins_in_the_code : frames_read (first_frame 0 12 2 0x80 0x40 ++ second_frame 0xC6 0 0) ≡ Err (faults.BadBegin 417)
  pub one_bit_more : frames_read (first_frame 0 16 2 0x80 0x40 ++ second_frame 0xC5 0x80 0) ≡ Err (faults.BadCode 3)
  -- part2_3_length is 3169, and the slot has 3168 bits
  pub longer_than_the_slot : frames_read (first_frame 49 132 2 0x80 0x40 ++ second_frame 0xC5 0x80 0) ≡ Err (faults.WrongLength 0)
  -- big_values is 288, all of table 0: one bit is left, and no line
  pub no_line_left : frames_read (first_frame 0 6 0x40 0 0 ++ second_frame 0xC6 0 0) ≡ Err (faults.WrongLength 0)

-- where two things are wrong, the first rule that refuses decides
pub record ReadingsInOrder : Type 0 where
  pub limit_before_length : frames_in (reading_of 0 (0 ∷ [])) ≡ Err (faults.TooLong 0)
  pub length_before_header : frames_read (0 ∷ 0 ∷ 0 ∷ []) ≡ Err (faults.ShortFrame 0)
  pub header_before_frame : frames_read (0 ∷ 0 ∷ 0 ∷ 0 ∷ []) ≡ Err (faults.BadHeader 0)
  pub frame_before_side : frames_read (blank_frame ++ 0xFF ∷ 0xFB ∷ 0x92 ∷ 0xC0 ∷ 0xC6 ∷ 0x40 ∷ []) ≡ Err (faults.ShortFrame 417)
  pub side_before_begin : frames_read (blank_frame ++ second_frame 0xC6 0xC0 0) ≡ Err (faults.BadSide 417)
  -- the first slot begins with a bit 1 that no code reaches; the second frame's main data begins
  -- outside the tape, or is longer than its slot
  pub begin_before_zeros : frames_read (first_frame 0 0 0 0 0x80 ++ second_frame 0xC6 0x80 0) ≡ Err (faults.BadBegin 417)
  pub zeros_before_lengths : frames_read (first_frame 0 0 0 0 0x80 ++ 0xFF ∷ 0xFB ∷ 0x92 ∷ 0xC0 ∷ 0 ∷ 0 ∷ 49 ∷ 164 ∷ replicate 410 0) ≡ Err (faults.NotZero 0)
