-- Reading the main data of a frame: what each step gives, and what the bytes kept say of the tape.
use Rattle.std.proofs.Common.{◌≡◌, ℕ, ◌+◌, ◌-◌, ◌*◌, ◌<◌, ◌≤◌, leb, true, false, Bool, ◌&&◌, List, ◌++◌, length, take, drop, Result, Ok, Err, refl, sym, ap, subst, ◌∙◌, arith}
use Rattle.std.specs.Prelude.{⊤}
use Rattle.std.proofs.Math.Seq.{take-add}
use Rattle.std.proofs.lemmas.Bool.{le-leb, leb-true, lt-leb}
use Rattle.std.proofs.lemmas.List.{drop-drop, drop-append-le, length-take-le}
use Rattle.l3_bits.proofs.Bytes.{bits_of-append}
use Rattle.l3_bits.specs.Bits.{bits_of}
use Rattle.l3_bits.proofs.Places.{length-bits_of}
use Rattle.l3_base.specs.declared.settings.Settings.{Settings}
use Rattle.l3_base.specs.Lengths.{slots_before, slot_bytes_of}
use Rattle.l3_huff.specs.Words.{between}
use Rattle.l3_stream.specs.declared.fault.StreamFault.{StreamFault}
use Rattle.l3_stream.specs.declared.fault.StreamFault.TheVariants as faults
use Rattle.l3_stream.specs.declared.unit.Unit.{Unit}
use Rattle.l3_stream.specs.Units.{lengths}
use Rattle.l3_stream.specs.Tape.{start_of}
use Rattle.l3_stream.specs.Faults.{checked, clear}
use Rattle.l3_stream.specs.UnitReading.{main_units_at}
use Rattle.l3_stream.specs.Deviation.{Place, main_at}
use Rattle.l3_stream.proofs.Steps.{bind_again, checked_again}
use Rattle.l3_frames.specs.declared.tape.Tape.{Tape}
use Rattle.l3_frames.specs.Steps.{KeepsTape, GoesTo, tape_place, slot_behind}
use Rattle.l3_frames.proofs.UnitSteps.{bind_bad}

-- ---- tests

pub checked_bad : (b : Bool) (fault : StreamFault) → b ≡ false → checked b fault ≡ Err fault
unfolding checked
checked_bad b fault e = rw e refl

both_hold : (a b : Bool) → a ≡ true → b ≡ true → (a && b) ≡ true
both_hold a b e h = rw (e, h) refl

both_fail : (a b : Bool) → (a ≡ true → b ≡ true → ⊥) → (a && b) ≡ false
both_fail true true not = absurd (not refl refl)
both_fail true false not = refl
both_fail false b not = refl

-- ---- the steps of the definition

module _ (st : Settings) (p : Place) (side : ℕ × List Unit) (slot : List Bool) where
  pub main_bad_begin : (side.0 ≤ slots_before st p.number → p.end ≤ start_of st p.number side.0 → ⊥)
      → main_at st p side slot ≡ Err (faults.BadBegin p.at)
  unfolding main_at
  main_bad_begin not =
      let start = start_of st p.number side.0 in
      bind_bad (checked (leb side.0 (slots_before st p.number) && leb p.end start)
      (faults.BadBegin p.at)) _ (faults.BadBegin p.at)
      (checked_bad _ (faults.BadBegin p.at) (both_fail (leb side.0 (slots_before st p.number))
      (leb p.end start) (λ a b. not (leb-true _ _ a) (leb-true _ _ b))))

  module _ (reached : side.0 ≤ slots_before st p.number)
      (after : p.end ≤ start_of st p.number side.0) where
    begun : checked (leb side.0 (slots_before st p.number) && leb p.end
        (start_of st p.number side.0)) (faults.BadBegin p.at) ≡ Ok tt
    begun = checked_again _ _ (both_hold _ _ (le-leb _ _ reached) (le-leb _ _ after))

    pub main_not_zero : (fault : StreamFault)
        → clear p.end (take (start_of st p.number side.0 - p.end) p.rest) ≡ Err fault
        → main_at st p side slot ≡ Err fault
    unfolding main_at
    main_not_zero fault e =
        let start = start_of st p.number side.0 in
        bind_again (checked (leb side.0 (slots_before st p.number) && leb p.end start)
        (faults.BadBegin p.at)) _ tt (Err fault) begun
        (bind_bad (clear p.end (take (start - p.end) p.rest)) _ fault e)

    module _ (zeros : clear p.end (take (start_of st p.number side.0 - p.end) p.rest) ≡ Ok tt) where
      pub main_too_long : 8 * (side.0 + slot_bytes_of st p.number) < lengths side.1
          → main_at st p side slot ≡ Err (faults.WrongLength (start_of st p.number side.0))
      unfolding main_at
      main_too_long lt =
          let start = start_of st p.number side.0 in
          bind_again (checked (leb side.0 (slots_before st p.number) && leb p.end start)
          (faults.BadBegin p.at)) _ tt (Err (faults.WrongLength start)) begun
          (bind_again (clear p.end (take (start - p.end) p.rest)) _ tt
          (Err (faults.WrongLength start)) zeros
          (bind_bad (checked (leb (lengths side.1) (8 * (side.0 + slot_bytes_of st p.number)))
          (faults.WrongLength start)) _ (faults.WrongLength start)
          (checked_bad _ (faults.WrongLength start) (lt-leb (lengths side.1)
          (8 * (side.0 + slot_bytes_of st p.number)) lt))))

      pub main_units : (said : Result (List Unit) StreamFault) → lengths side.1 ≤ 8 *
          (side.0 + slot_bytes_of st p.number)
          → main_units_at st (start_of st p.number side.0) side.1
          (drop (start_of st p.number side.0 - p.end) (p.rest ++ slot)) ≡ said
          → main_at st p side slot ≡ said
      unfolding main_at
      main_units said le e =
          let start = start_of st p.number side.0 in
          bind_again (checked (leb side.0 (slots_before st p.number) && leb p.end start)
          (faults.BadBegin p.at)) _ tt said begun
          (bind_again (clear p.end (take (start - p.end) p.rest)) _ tt said zeros
          (bind_again (checked (leb (lengths side.1) (8 * (side.0 + slot_bytes_of st p.number)))
          (faults.WrongLength start)) _ tt said
          (checked_again _ _ (le-leb _ _ le)) e))

-- ---- the bytes kept

pub start_is : (st : Settings) (n begin slots : ℕ) → slots ≡ slots_before st n → start_of st n begin
    ≡ 8 * (slots - begin)
unfolding start_of
start_is st n begin slots e = ap (λ k. 8 * (k - begin)) (sym e)

module _ (t : Tape) (start : ℕ) (begun : 8 * t.base ≤ t.end) (after : t.end ≤ start) where
  -- the bits in front of a frame's main data
  pub rest_front : take (start - t.end) (tape_place t).rest ≡ between (take t.filled t.bytes)
      (t.end - 8 * t.base) (start - 8 * t.base)
  rest_front =
      let width : start - t.end ≡ start - 8 * t.base - (t.end - 8 * t.base) = omega arith in
      ap (λ n. take n (tape_place t).rest) width

  -- the tape from the codes' end to the end of the next slot
  pub rest_and_slot : (slot : ℕ) → t.filled + slot ≤ length t.bytes
      → t.end ≤ 8 * (t.base + t.filled) → (tape_place t).rest ++ slot_behind t slot ≡ drop
      (t.end - 8 * t.base) (bits_of (take (t.filled + slot) t.bytes))
  rest_and_slot slot room within =
      let front = take t.filled t.bytes in
      let next = take slot (drop t.filled t.bytes) in
      let size : length front ≡ t.filled = length-take-le t.filled t.bytes (omega arith) in
      sym (ap (λ l. drop (t.end - 8 * t.base) (bits_of l)) (take-add t.filled slot t.bytes)
      ∙ (ap (drop (t.end - 8 * t.base)) (bits_of-append front next)
      ∙ drop-append-le (t.end - 8 * t.base) (bits_of front) (bits_of next)
      (omega (arith, length-bits_of front))))

  pub rest_units : (slot : ℕ) → t.filled + slot ≤ length t.bytes → t.end ≤ 8 * (t.base + t.filled)
      → drop (start - t.end) ((tape_place t).rest ++ slot_behind t slot) ≡ drop (start - 8 * t.base)
      (bits_of (take (t.filled + slot) t.bytes))
  rest_units slot room within =
      let bits = bits_of (take (t.filled + slot) t.bytes) in
      let sum : t.end - 8 * t.base + (start - t.end) ≡ start - 8 * t.base = omega arith in
      ap (drop (start - t.end)) (rest_and_slot slot room within)
      ∙ (drop-drop (start - t.end) (t.end - 8 * t.base) bits ∙ ap (λ n. drop n bits) sum)

-- ---- the main data, from the bytes kept

module _ (st : Settings) (t : Tape) (kept : KeepsTape st t) (begin : ℕ) (us : List Unit)
    (slot start : ℕ) (low : begin ≤ t.base + t.filled)
    (is : start ≡ 8 * (t.base + t.filled - begin)) (after : t.end ≤ start) (room : slot ≤ 1420)
    (slot_is : slot ≡ slot_bytes_of st t.number) where
  starts : start_of st t.number begin ≡ start
  starts = start_is st t.number begin (t.base + t.filled) kept.slots ∙ sym is

  reached : begin ≤ slots_before st t.number
  reached = subst (λ (s : ℕ). begin ≤ s) kept.slots low

  later : t.end ≤ start_of st t.number begin
  later = subst (λ (s : ℕ). t.end ≤ s) (sym starts) after

  enough : t.filled + slot ≤ length t.bytes
  enough = omega (arith, kept.room, kept.few)

  abbrev zeros : Result ⊤ StreamFault
  zeros = clear (8 * t.base + (t.end - 8 * t.base)) (between (take t.filled t.bytes)
      (t.end - 8 * t.base) (start - 8 * t.base))

  zeros_are : clear t.end (take (start_of st t.number begin - t.end) (tape_place t).rest) ≡ zeros
  zeros_are =
      let place : t.end ≡ 8 * t.base + (t.end - 8 * t.base) = omega (arith, kept.begun) in
      ap (λ s. clear t.end (take (s - t.end) (tape_place t).rest)) starts
      ∙ (ap (clear t.end) (rest_front t start kept.begun after)
      ∙ ap (λ n. clear n (between (take t.filled t.bytes) (t.end - 8 * t.base)
      (start - 8 * t.base))) place)

  pub kept_not_zero : (fault : StreamFault) → zeros ≡ Err fault → main_at st (tape_place t) (
    begin,
    us,
  ) (slot_behind t slot) ≡ Err fault
  kept_not_zero fault e = main_not_zero st (tape_place t) (begin, us) (slot_behind t slot) reached
      later fault (zeros_are ∙ e)

  module _ (clean : zeros ≡ Ok tt) where
    pub kept_too_long : 8 * (begin + slot) < lengths us → main_at st (tape_place t) (begin, us)
        (slot_behind t slot) ≡ Err (faults.WrongLength start)
    kept_too_long lt =
        main_too_long st (tape_place t) (begin, us) (slot_behind t slot) reached later (zeros_are
        ∙ clean) (subst (λ (s : ℕ). 8 * (begin + s) < lengths us) slot_is lt)
        ∙ ap (λ n. Err (faults.WrongLength n)) starts

    pub kept_units : (said : Result (List Unit) StreamFault) → lengths us ≤ 8 * (begin + slot)
        → main_units_at st (8 * t.base + (start - 8 * t.base)) us (drop (start - 8 * t.base)
        (bits_of (take (t.filled + slot) t.bytes))) ≡ said
        → main_at st (tape_place t) (begin, us) (slot_behind t slot) ≡ said
    kept_units said le e =
        let place : start ≡ 8 * t.base + (start - 8 * t.base) = omega (arith, kept.begun, after) in
        main_units st (tape_place t) (begin, us) (slot_behind t slot) reached later (zeros_are
        ∙ clean) said (subst (λ (s : ℕ). lengths us ≤ 8 * (begin + s)) slot_is le)
        (ap (λ s. main_units_at st s us
        (drop (s - t.end) ((tape_place t).rest ++ slot_behind t slot))) starts
        ∙ (ap (main_units_at st start us) (rest_units t start kept.begun after slot enough
        kept.within)
        ∙ (ap (λ n. main_units_at st n us (drop (start - 8 * t.base)
        (bits_of (take (t.filled + slot) t.bytes)))) place ∙ e)))

  pub kept_goes : (end : ℕ) → lengths us ≤ 8 * (begin + slot) → end ≡ 8 * t.base +
      (start - 8 * t.base + lengths us) → GoesTo st t begin (lengths us) end
  kept_goes end le e = record {
    reached = reached;
    after = later;
    is = e ∙ (let sum : 8 * t.base + (start - 8 * t.base + lengths us) ≡ start + lengths us = omega
        (arith, kept.begun, after) in sum ∙ ap (λ s. s + lengths us) (sym starts));
    within = subst (λ (s : ℕ). lengths us ≤ 8 * (begin + s)) slot_is le;
  }

pub kept_bad_begin : (st : Settings) (t : Tape) (kept : KeepsTape st t) (begin : ℕ) (us : List Unit)
    (slot : ℕ) → (begin ≤ t.base + t.filled → t.end ≤ 8 * (t.base + t.filled - begin) → ⊥)
    → main_at st (tape_place t) (begin, us) (slot_behind t slot) ≡ Err (faults.BadBegin t.at)
kept_bad_begin st t kept begin us slot not =
    main_bad_begin st (tape_place t) (begin, us) (slot_behind t slot)
    (λ a b. not (subst (λ (s : ℕ). begin ≤ s) (sym kept.slots) a) (subst (λ (s : ℕ). t.end ≤ s)
    (start_is st t.number begin (t.base + t.filled) kept.slots) b))
