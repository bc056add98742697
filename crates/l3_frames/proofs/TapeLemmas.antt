-- The tape where it is laid, and where later frames lay it.
use Rattle.std.proofs.Common.{◌≡◌, ℕ, zero, suc, ◌+◌, ◌-◌, ◌*◌, ◌^◌, ◌<◌, ◌≤◌, Bool, false, List, [], ◌∷◌, ◌++◌, length, take, drop, replicate, refl, sym, ap, ◌∙◌, arith, append_assoc, length-append}
use Rattle.std.specs.Prelude.{All}
use Rattle.std.proofs.lemmas.List.{drop-drop, drop-replicate, drop-append-le, take-append-drop, take-replicate, take_at, drop_at, length-take-le, length-drop, replicate-append-replicate}
use Rattle.std.proofs.lemmas.List.Elements.{All-take}
use Rattle.std.proofs.Math.Seq.{take-add}
use Rattle.l3_bits.specs.Bits.{bits_of, packed}
use Rattle.l3_bits.proofs.Places.{length-bits_of}
use Rattle.l3_base.specs.declared.settings.Settings.{Settings}
use Rattle.l3_base.specs.Lengths.{slots_before}
use Rattle.l3_stream.specs.declared.unit.ChosenFrame.{ChosenFrame}
use Rattle.l3_stream.specs.Frames.{code_bits}
use Rattle.l3_stream.specs.Tape.{start_of, end_of, FitsAt, FramesFit, tape_from}
use Rattle.l3_frames.specs.Writing.{open_from}
use Rattle.l3_frames.specs.Laying.{laid_over}
use Rattle.l3_bits.proofs.Bytes.{bits_of-append}
use Rattle.l3_frames.proofs.PackingLemmas.{packed-bits_of-append}

pub start-is : (st : Settings) (n begin : ℕ) → start_of st n begin ≡ 8 * (slots_before st n - begin)
unfolding start_of
start-is st n begin = refl

-- from where later frames lay it, the tape is 0 up to their first main data
pub tape-later : (st : Settings) (n end from : ℕ) (fs : List ChosenFrame) → from ≡ open_from st n end → end ≤ 8 * slots_before st n → FramesFit st n end fs →
    tape_from st n end fs ≡ replicate (from - end) false ++ tape_from st n from fs
tape-later st n end from [] is within fit =
    let e : 8 * slots_before st n - end ≡ from - end + (8 * slots_before st n - from) = omega arith in
    ap (λ k. replicate k false) e ∙ sym (replicate-append-replicate (from - end) (8 * slots_before st n - from) false)
tape-later st n end from (f ∷ fs) is within fit =
    let here : FitsAt st n end f = fit.0 in
    let after = here.after in
    let small = here.small in
    let start = start-is st n f.begin in
    let e : start_of st n f.begin - end ≡ from - end + (start_of st n f.begin - from) = omega arith in
    let rest = code_bits st f ++ tape_from st (suc n) (end_of st n f) fs in
    ap (λ k. replicate k false ++ rest) e
    ∙ (ap (λ l. l ++ rest) (sym (replicate-append-replicate (from - end) (start_of st n f.begin - from) false))
    ∙ append_assoc (replicate (from - end) false) (replicate (start_of st n f.begin - from) false) rest)

-- ---- bits that are 0 from a place on

pub zeros_further : (bits : List Bool) (r c n : ℕ) → r ≤ c → drop r bits ≡ replicate (n - r) false → drop c bits ≡ replicate (n - c) false
zeros_further bits r c n le is =
    let e : r + (c - r) ≡ c = omega arith in
    let k : n - r - (c - r) ≡ n - c = omega arith in
    ap (λ i. drop i bits) (sym e) ∙ (sym (drop-drop (c - r) r bits) ∙ (ap (drop (c - r)) is ∙ (drop-replicate (c - r) (n - r) false ∙ ap (λ i. replicate i false) k)))

pub zeros_longer : (bits : List Bool) (r n more : ℕ) → length bits ≡ n → r ≤ n → drop r bits ≡ replicate (n - r) false → drop r (bits ++ replicate more false) ≡ replicate (n + more - r) false
zeros_longer bits r n more size le is =
    let within : r ≤ length bits = omega arith in
    let e : n - r + more ≡ n + more - r = omega arith in
    drop-append-le r bits (replicate more false) within
    ∙ (ap (λ l. l ++ replicate more false) is ∙ (replicate-append-replicate (n - r) more false ∙ ap (λ k. replicate k false) e))

-- up to a place among the zeros
pub take_zeros : (bits : List Bool) (c at n : ℕ) → c ≤ at → at ≤ n → drop c bits ≡ replicate (n - c) false → take at bits ≡ take c bits ++ replicate (at - c) false
take_zeros bits c at n le within is =
    let e : c + (at - c) ≡ at = omega arith in
    let few : at - c ≤ n - c = omega arith in
    ap (λ k. take k bits) (sym e) ∙ (take-add c (at - c) bits ∙ ap (λ l. take c bits ++ l) (ap (take (at - c)) is ∙ take-replicate (at - c) (n - c) false few))

-- ---- codes laid over bits

pub laid_over-length : (at : ℕ) (code bits : List Bool) → at + length code ≤ length bits → length (laid_over at code bits) ≡ length bits
laid_over-length at code bits within =
    omega (arith, length-append (take at bits) (code ++ drop (at + length code) bits), length-append code (drop (at + length code) bits), length-take-le at bits (omega arith), length-drop (at + length code) bits)

laid_over-parts : (at : ℕ) (code bits : List Bool) → laid_over at code bits ≡ (take at bits ++ code) ++ drop (at + length code) bits
laid_over-parts at code bits = sym (append_assoc (take at bits) code (drop (at + length code) bits))

parts-length : (at : ℕ) (code bits : List Bool) → at ≤ length bits → length (take at bits ++ code) ≡ at + length code
parts-length at code bits within = omega (arith, length-append (take at bits) code, length-take-le at bits within)

-- behind the codes nothing changed
pub laid_over-drop : (at : ℕ) (code bits : List Bool) → at ≤ length bits → drop (at + length code) (laid_over at code bits) ≡ drop (at + length code) bits
laid_over-drop at code bits within =
    ap (drop (at + length code)) (laid_over-parts at code bits) ∙ drop_at (take at bits ++ code) (drop (at + length code) bits) (at + length code) (parts-length at code bits within)

-- up to a place behind the codes, where all is 0 from the codes' end on
pub laid_over-take : (at c n : ℕ) (code bits : List Bool) → at ≤ length bits → at + length code ≤ c → c ≤ n → drop (at + length code) bits ≡ replicate (n - (at + length code)) false →
    take c (laid_over at code bits) ≡ take at bits ++ (code ++ replicate (c - (at + length code)) false)
laid_over-take at c n code bits within le low is =
    let behind = laid_over-drop at code bits within in
    let zeros = take_zeros (laid_over at code bits) (at + length code) c n le low (behind ∙ is) in
    let front : take (at + length code) (laid_over at code bits) ≡ take at bits ++ code =
    ap (take (at + length code)) (laid_over-parts at code bits) ∙ take_at (take at bits ++ code) (drop (at + length code) bits) (at + length code) (parts-length at code bits within) in
    zeros ∙ (ap (λ l. l ++ replicate (c - (at + length code)) false) front ∙ append_assoc (take at bits) code (replicate (c - (at + length code)) false))

-- one code, and one behind it
pub laid_over-then : (at : ℕ) (a b bits mid : List Bool) → at + (length a + length b) ≤ length bits → mid ≡ laid_over at a bits →
    laid_over (at + length a) b mid ≡ laid_over at (a ++ b) bits
laid_over-then at a b bits mid within is =
    let low : at ≤ length bits = omega arith in
    let size = parts-length at a bits low in
    let parts : mid ≡ (take at bits ++ a) ++ drop (at + length a) bits = is ∙ laid_over-parts at a bits in
    let front : take (at + length a) mid ≡ take at bits ++ a = ap (take (at + length a)) parts ∙ take_at (take at bits ++ a) (drop (at + length a) bits) (at + length a) size in
    let behind : drop (at + length a) mid ≡ drop (at + length a) bits = ap (drop (at + length a)) parts ∙ drop_at (take at bits ++ a) (drop (at + length a) bits) (at + length a) size in
    let place : at + length a + length b ≡ at + length (a ++ b) = omega (arith, length-append a b) in
    let further : drop (at + length a + length b) mid ≡ drop (at + length (a ++ b)) bits =
    sym (drop-drop (length b) (at + length a) mid) ∙ (ap (drop (length b)) behind ∙ (drop-drop (length b) (at + length a) bits ∙ ap (λ k. drop k bits) place)) in
    ap (λ l. l ++ (b ++ drop (at + length a + length b) mid)) front
    ∙ (ap (λ l. (take at bits ++ a) ++ (b ++ l)) further
    ∙ (append_assoc (take at bits) a (b ++ drop (at + length (a ++ b)) bits)
    ∙ ap (λ l. take at bits ++ l) (sym (append_assoc a b (drop (at + length (a ++ b)) bits)))))

-- ---- bytes

pub bits_of-zeros : (n : ℕ) → bits_of (replicate n 0) ≡ replicate (8 * n) false
bits_of-zeros zero = refl
bits_of-zeros (suc n) =
    let more : 8 + 8 * n ≡ 8 * suc n = omega arith in
    ap (λ l. replicate 8 false ++ l) (bits_of-zeros n) ∙ (replicate-append-replicate 8 (8 * n) false ∙ ap (λ k. replicate k false) more)

pub record IsSplit (bytes : List ℕ) (n : ℕ) : Type 0 where
  pub front : take (8 * n) (bits_of bytes) ≡ bits_of (take n bytes)
  pub back : drop (8 * n) (bits_of bytes) ≡ bits_of (drop n bytes)

pub bits_of-split : (bytes : List ℕ) (n : ℕ) → n ≤ length bytes → IsSplit bytes n
bits_of-split bytes n le =
    let both : bits_of bytes ≡ bits_of (take n bytes) ++ bits_of (drop n bytes) = ap bits_of (sym (take-append-drop n bytes)) ∙ bits_of-append (take n bytes) (drop n bytes) in
    let size : length (bits_of (take n bytes)) ≡ 8 * n = omega (arith, length-bits_of (take n bytes), length-take-le n bytes le) in
    record {
      front = ap (take (8 * n)) both ∙ take_at (bits_of (take n bytes)) (bits_of (drop n bytes)) (8 * n) size;
      back = ap (drop (8 * n)) both ∙ drop_at (bits_of (take n bytes)) (bits_of (drop n bytes)) (8 * n) size;
    }

-- the first bytes of a tape are whole where it is laid
pub packed_split : (bytes : List ℕ) (c n : ℕ) (rest : List Bool) → All (λ byte. byte < 2 ^ 8) bytes → n ≤ length bytes → 8 * n ≤ c →
    packed (take c (bits_of bytes) ++ rest) ≡ take n bytes ++ packed (take (c - 8 * n) (bits_of (drop n bytes)) ++ rest)
packed_split bytes c n rest all le low =
    let e : 8 * n + (c - 8 * n) ≡ c = omega arith in
    let split = bits_of-split bytes n le in
    let later = take (c - 8 * n) (bits_of (drop n bytes)) in
    let parts : take c (bits_of bytes) ≡ bits_of (take n bytes) ++ later =
    ap (λ k. take k (bits_of bytes)) (sym e) ∙ (take-add (8 * n) (c - 8 * n) (bits_of bytes)
    ∙ (ap (λ l. l ++ take (c - 8 * n) (drop (8 * n) (bits_of bytes))) split.front ∙ ap (λ l. bits_of (take n bytes) ++ take (c - 8 * n) l) split.back)) in
    ap (λ l. packed (l ++ rest)) parts
    ∙ (ap packed (append_assoc (bits_of (take n bytes)) later rest)
    ∙ packed-bits_of-append (take n bytes) (later ++ rest) (All-take (λ byte. byte < 2 ^ 8) n bytes all))
