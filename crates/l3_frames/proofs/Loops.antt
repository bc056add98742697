-- Reading pairs and quadruples one after the other, as loops do.
use Rattle.std.proofs.Common.{◌≡◌, ℕ, zero, suc, ◌+◌, ◌-◌, ◌*◌, ◌≤◌, ◌<◌, Bool, List, [], ◌∷◌, ◌++◌, length, take, drop, set, Some, None, Result, Ok, Err, refl, sym, ap, ◌∙◌, append_assoc, arith, replicate, length-append}
use Rattle.std.specs.Prelude.{ℤ, pos}
use Rattle.std.proofs.lemmas.List.{append-nil, length-set, take_more_set, drop-drop, length-take-le, length-drop, drop-replicate}
use borrow.Rule.Slice.PartMut.{put_mid}
use Rattle.l3_stream.specs.Units.{zero_lines}
use Rattle.l3_huff.specs.declared.quads.QuadTable.{QuadTable}
use Rattle.l3_huff.specs.Reading.{pair_at, quad_at}
use Rattle.l3_stream.specs.declared.fault.StreamFault.{StreamFault}
use Rattle.l3_stream.specs.declared.fault.StreamFault.TheVariants as faults
use Rattle.l3_stream.specs.Faults.{◌>>=◌, or_fault}
use Rattle.l3_stream.specs.UnitReading.{pairs_at, quads_at}

-- ---- pairs

-- what was read before, and what is still read
unfoldable pub with_front : List ℤ → Result (List ℤ × List Bool) StreamFault
    → Result (List ℤ × List Bool) StreamFault
with_front front (Ok x) = Ok (front ++ x.0, x.1)
with_front front (Err e) = Err e

regroup : (front : List ℤ) (x y : ℤ) (read : Result (List ℤ × List Bool) StreamFault)
    → with_front front (read >>= λ o. Ok (x ∷ y ∷ o.0, o.1)) ≡ with_front (front ++ x ∷ y ∷ []) read
unfolding with_front ◌>>=◌
regroup front x y (Ok o) = ap (λ (l : List ℤ). Ok (l, o.1)) (simp append_assoc)
regroup front x y (Err e) = refl

pub begins_so : (read : Result (List ℤ × List Bool) StreamFault) → with_front [] read ≡ read
unfolding with_front
begins_so (Ok x) = refl
begins_so (Err e) = refl

pub goes_on : (table : ℕ → ℕ) (front : List ℤ) (end line count k : ℕ) (bits after : List Bool)
    (x y : ℤ) (total : Result (List ℤ × List Bool) StreamFault) → k < count
    → pair_at (table line) bits ≡ Some ((x, y), after)
    → with_front front (pairs_at table end line (count - k) bits) ≡ total
    → with_front (front ++ x ∷ y ∷ []) (pairs_at table end (line + 2) (count - (k + 1)) after)
    ≡ total
unfolding pairs_at or_fault ◌>>=◌
goes_on table front end line count k bits after x y total lt h so_far =
    let left : count - k ≡ suc (count - (k + 1)) = omega arith in
    let one : with_front front (pairs_at table end line (count - k) bits) ≡ with_front
    (front ++ x ∷ y ∷ []) (pairs_at table end (line + 2) (count - (k + 1)) after) = rw (left, h)
    (regroup front x y (pairs_at table end (line + 2) (count - (k + 1)) after)) in
    sym one ∙ so_far

pub ends : (table : ℕ → ℕ) (front : List ℤ) (end line count k at : ℕ) (bits : List Bool)
    (total : Result (List ℤ × List Bool) StreamFault) → k < count → end - length bits ≡ at
    → pair_at (table line) bits ≡ None
    → with_front front (pairs_at table end line (count - k) bits) ≡ total
    → total ≡ Err (faults.BadCode at)
unfolding pairs_at or_fault ◌>>=◌ with_front
ends table front end line count k at bits total lt place h so_far =
    let left : count - k ≡ suc (count - (k + 1)) = omega arith in
    let one : with_front front (pairs_at table end line (count - k) bits) ≡ Err
    (faults.BadCode (end - length bits)) = rw (left, h) refl in
    sym so_far ∙ (one ∙ ap (λ n. Err (faults.BadCode n)) place)

pub is_done : (table : ℕ → ℕ) (front : List ℤ) (end line count k : ℕ) (bits : List Bool)
    (total : Result (List ℤ × List Bool) StreamFault) → count ≤ k
    → with_front front (pairs_at table end line (count - k) bits) ≡ total → total ≡ Ok (front, bits)
unfolding pairs_at with_front
is_done table front end line count k bits total le so_far =
    let left : count - k ≡ 0 = omega arith in
    let one : with_front front (pairs_at table end line (count - k) bits) ≡ Ok (front, bits) = rw
    left (ap (λ (l : List ℤ). Ok (l, bits)) (append-nil front)) in
    sym so_far ∙ one

-- two lines more
pub two_more : (lines : List ℤ) (k : ℕ) (x y x' y' : ℤ) → x' ≡ x → y' ≡ y → 2 * k + 1 < length lines
    → take (2 * (k + 1)) (set (set lines (2 * k) x') (2 * k + 1) y') ≡ take
    (2 * k) lines ++ x ∷ y ∷ []
two_more lines k x y x' y' ex ey lt =
    let place : 2 * (k + 1) ≡ 2 * k + 1 + 1 = omega arith in
    let one = take_more_set (set lines (2 * k) x') (2 * k + 1) y'
    (omega (arith, length-set lines (2 * k) x')) in
    let two = take_more_set lines (2 * k) x' (omega arith) in
    ap (λ n. take n (set (set lines (2 * k) x') (2 * k + 1) y')) place
    ∙ (one ∙ (ap (λ l. l ++ y' ∷ []) two ∙ (append_assoc (take (2 * k) lines) (x' ∷ [])
    (y' ∷ []) ∙ (ap (λ v. take (2 * k) lines ++ v ∷ y' ∷ []) ex
    ∙ ap (λ v. take (2 * k) lines ++ x ∷ v ∷ []) ey))))

-- ---- quadruples

unfoldable pub with_quads : List ℤ → Result (List ℤ) StreamFault → Result (List ℤ) StreamFault
with_quads front (Ok x) = Ok (front ++ x)
with_quads front (Err e) = Err e

regroup_quads : (front quad : List ℤ) (read : Result (List ℤ) StreamFault) → with_quads front
    (read >>= λ o. Ok (quad ++ o)) ≡ with_quads (front ++ quad) read
unfolding with_quads ◌>>=◌
regroup_quads front quad (Ok o) = ap (λ (l : List ℤ). Ok l) (simp append_assoc)
regroup_quads front quad (Err e) = refl

pub quads_begin : (read : Result (List ℤ) StreamFault) → with_quads [] read ≡ read
unfolding with_quads
quads_begin (Ok x) = refl
quads_begin (Err e) = refl

quads_of_none : (table : QuadTable) (end room : ℕ) → quads_at table end room [] ≡ Ok []
unfolding quads_at
quads_of_none table end zero = refl
quads_of_none table end (suc room) = refl

quads_end : (table : QuadTable) (front : List ℤ) (end room : ℕ) → with_quads front
    (quads_at table end room []) ≡ Ok front
unfolding with_quads
quads_end table front end room = rw (quads_of_none table end room) (ap (λ (l : List ℤ). Ok l)
    (append-nil front))

module _ (table : QuadTable) (front : List ℤ) (end room : ℕ) (total : Result (List ℤ) StreamFault)
  where
    pub quads_on : (bits : List Bool) (quad : List ℤ) (after : List Bool) → 0 < length bits → 0 < room
        → quad_at table bits ≡ Some (quad, after)
        → with_quads front (quads_at table end room bits) ≡ total → with_quads (front ++ quad)
        (quads_at table end (room - 1) after) ≡ total
    unfolding quads_at or_fault ◌>>=◌
    quads_on [] quad after some lt h so_far = absurd (omega arith)
    quads_on (b ∷ bits) quad after some lt h so_far =
        let left : room ≡ suc (room - 1) = omega arith in
        let one : with_quads front (quads_at table end room (b ∷ bits)) ≡ with_quads (front ++ quad)
        (quads_at table end (room - 1) after) =
        ap (λ n. with_quads front (quads_at table end n (b ∷ bits))) left
        ∙ rw h (regroup_quads front quad (quads_at table end (room - 1) after)) in
        sym one ∙ so_far

    pub quads_bad : (bits : List Bool) (at : ℕ) → 0 < length bits → 0 < room → end - length bits ≡ at
        → quad_at table bits ≡ None
        → with_quads front (quads_at table end room bits) ≡ total → total ≡ Err (faults.BadCode at)
    unfolding quads_at or_fault ◌>>=◌ with_quads
    quads_bad [] at some lt place h so_far = absurd (omega arith)
    quads_bad (b ∷ bits) at some lt place h so_far =
        let left : room ≡ suc (room - 1) = omega arith in
        let one : with_quads front (quads_at table end room (b ∷ bits)) ≡ Err
        (faults.BadCode (end - length (b ∷ bits))) = ap
        (λ n. with_quads front (quads_at table end n (b ∷ bits))) left ∙ rw h refl in
        sym so_far ∙ (one ∙ ap (λ n. Err (faults.BadCode n)) place)

    pub quads_full : (bits : List Bool) (at : ℕ) → 0 < length bits → room ≡ 0 → end - length bits ≡ at
        → with_quads front (quads_at table end room bits) ≡ total
        → total ≡ Err (faults.WrongLength at)
    unfolding quads_at with_quads
    quads_full [] at some none place so_far = absurd (omega arith)
    quads_full (b ∷ bits) at some none place so_far =
        let one : with_quads front (quads_at table end room (b ∷ bits)) ≡ Err
        (faults.WrongLength (end - length (b ∷ bits))) = ap
        (λ n. with_quads front (quads_at table end n (b ∷ bits))) none in
        sym so_far ∙ (one ∙ ap (λ n. Err (faults.WrongLength n)) place)

    pub quads_done : (bits : List Bool) → length bits ≡ 0 → with_quads front
        (quads_at table end room bits) ≡ total → total ≡ Ok front
    quads_done [] none so_far = sym so_far ∙ quads_end table front end room
    quads_done (b ∷ bits) none so_far = absurd (omega arith)

-- what is left of zeros
pub zeros_left : (lines : List ℤ) (a b n : ℕ) → a ≤ b → b ≤ n → drop a lines ≡ zero_lines (n - a)
    → drop b lines ≡ zero_lines (n - b)
unfolding zero_lines
zeros_left lines a b n order within are =
    let place : b - a + a ≡ b = omega arith in
    let size : n - a - (b - a) ≡ n - b = omega arith in
    sym (drop-drop (b - a) a lines ∙ ap (λ k. drop k lines) (omega arith)) ∙ (ap (drop (b - a)) are
    ∙ (drop-replicate (b - a) (n - a) (pos 0) ∙ ap (λ k. replicate k (pos 0)) size))

-- a part of a list of the same length
pub length-put_mid : {A : Type 0} (a k : ℕ) (xs ys : List A) → a + k ≤ length xs → length ys ≡ k
    → length (put_mid a k xs ys) ≡ length xs
length-put_mid a k xs ys within size =
    omega (
      arith,
      length-append (take a xs) (ys ++ drop k (drop a xs)),
      length-append ys
          (drop k (drop a xs)),
      length-take-le a xs (omega arith),
      length-drop k (drop a xs),
      length-drop a xs,
    )
