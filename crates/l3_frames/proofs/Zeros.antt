-- Testing bits for 0, a byte or a bit at a time.
use Rattle.std.proofs.Common.{◌≡◌, ℕ, zero, suc, ◌+◌, ◌-◌, ◌*◌, ◌<◌, ◌≤◌, Bool, true, false, List, [], ◌∷◌, ◌++◌, length, take, drop, get_or, replicate, Ok, Err, refl, sym, ap, ◌∙◌, arith}
use Rattle.std.specs.Prelude.{slice_range}
use Rattle.std.proofs.lemmas.List.{length-replicate, drop-drop}
use Rattle.l3_bits.specs.Bits.{bits_of, digits, number_of}
use Rattle.l3_huff.specs.Words.{between}
use Rattle.l3_stream.specs.declared.fault.StreamFault.TheVariants as faults
use Rattle.l3_stream.specs.Faults.{clear}
use Rattle.l3_frames.proofs.Found.{in_front}

zeros_on : (at n : ℕ) (rest : List Bool) → clear at (replicate n false ++ rest) ≡ clear
    (at + n) rest
unfolding clear
zeros_on at zero rest = ap (λ k. clear k rest) (omega arith)
zeros_on at (suc n) rest =
    let place : at + 1 + n ≡ at + suc n = omega arith in
    zeros_on (at + 1) n rest ∙ ap (λ k. clear k rest) place

-- bits that are 0 are passed
pub zeros_passed : (first : ℕ) (bytes : List ℕ) (place end n : ℕ) → place + n ≤ end
    → slice_range (bits_of bytes) place (place + n) ≡ replicate n false →
    clear (first + place) (between bytes place end) ≡ clear (first + (place + n))
    (between bytes (place + n) end)
zeros_passed first bytes place end n within are =
    let next : first + place + n ≡ first + (place + n) = omega arith in
    let text = in_front bytes place end (place + n) (replicate n false)
    (omega (arith, length-replicate n false)) within are in
    ap (clear (first + place)) text ∙ (zeros_on (first + place) n (between bytes (place + n) end)
    ∙ ap (λ k. clear k (between bytes (place + n) end)) next)

-- the first bit that is 1
pub one_found : (first : ℕ) (bytes : List ℕ) (place end : ℕ) → place + 1 ≤ end
    → slice_range (bits_of bytes) place (place + 1) ≡ true ∷ [] →
    clear (first + place) (between bytes place end) ≡ Err (faults.NotZero (first + place))
unfolding clear
one_found first bytes place end within is = ap (clear (first + place)) (in_front bytes place end
    (place + 1) (true ∷ []) (omega arith) within is)

pub none_left : (at : ℕ) (bytes : List ℕ) (place end : ℕ) → end ≤ place
    → clear at (between bytes place end) ≡ Ok tt
unfolding clear
none_left at bytes place end le =
    let none : end - place ≡ 0 = omega arith in
    ap (λ n. clear at (take n (drop place (bits_of bytes)))) none

-- ---- a byte

byte_bits : (bytes : List ℕ) (i : ℕ) → i < length bytes → take 8 (drop (8 * i) (bits_of bytes))
    ≡ digits 8 (get_or bytes i 0)
byte_bits [] i lt = absurd (omega arith)
byte_bits (x ∷ bytes) zero lt = refl
byte_bits (x ∷ bytes) (suc i) lt =
    let place : 8 * suc i ≡ 8 * i + 8 = omega arith in
    let behind : drop (8 * i + 8) (bits_of (x ∷ bytes)) ≡ drop (8 * i) (bits_of bytes) = sym
    (drop-drop (8 * i) 8 (bits_of (x ∷ bytes)) ∙ ap (λ n. drop n (bits_of (x ∷ bytes)))
    (omega arith)) in
    ap (λ n. take 8 (drop n (bits_of (x ∷ bytes)))) place ∙ (ap (take 8) behind ∙ byte_bits bytes i
    (omega arith))

pub byte_zero : (bytes : List ℕ) (place i : ℕ) → place ≡ 8 * i → i < length bytes → get_or bytes i 0
    ≡ 0 → slice_range (bits_of bytes) place (place + 8) ≡ replicate 8 false
byte_zero bytes place i at lt none =
    let width : place + 8 - place ≡ 8 = omega arith in
    ap (λ n. take n (drop place (bits_of bytes))) width
    ∙ (ap (λ n. take 8 (drop n (bits_of bytes))) at
    ∙ (byte_bits bytes i lt ∙ ap (digits 8) none))

-- ---- a bit

bit_zero_of : (l : List Bool) → 0 < length l → number_of (take 1 l) ≡ 0 → take 1 l ≡ false ∷ []
bit_zero_of [] lt e = absurd (omega arith)
bit_zero_of (false ∷ l) lt e = refl
bit_zero_of (true ∷ l) lt e = absurd (omega arith)

bit_one_of : (l : List Bool) → 0 < length l → (number_of (take 1 l) ≡ 0 → ⊥) → take 1 l ≡ true ∷ []
bit_one_of [] lt e = absurd (omega arith)
bit_one_of (false ∷ l) lt e = absurd (e refl)
bit_one_of (true ∷ l) lt e = refl

pub bit_zero : (bits : List Bool) (place : ℕ) → 0 < length (drop place bits)
    → number_of (take 1 (drop place bits)) ≡ 0 → slice_range bits place (place + 1)
    ≡ replicate 1 false
bit_zero bits place lt e =
    let width : place + 1 - place ≡ 1 = omega arith in
    ap (λ n. take n (drop place bits)) width ∙ bit_zero_of (drop place bits) lt e

pub bit_one : (bits : List Bool) (place : ℕ) → 0 < length (drop place bits)
    → (number_of (take 1 (drop place bits)) ≡ 0 → ⊥) → slice_range bits place (place + 1)
    ≡ true ∷ []
bit_one bits place lt e =
    let width : place + 1 - place ≡ 1 = omega arith in
    ap (λ n. take n (drop place bits)) width ∙ bit_one_of (drop place bits) lt e
