-- What is left behind a frame that is refused.
use Rattle.std.proofs.Common.{◌≡◌, ℕ, ◌-◌, ◌<◌, ◌≤◌, List, [], ◌++◌, length, take, drop, Option, Some, None, sym, ap, subst, ◌∙◌, arith, append_assoc, length-append, inl, inr}
use Rattle.std.specs.Prelude.{IfSome}
use Rattle.std.specs.Io.KnownBytes.{Consumes}
use Rattle.std.proofs.lemmas.Bool.{cases_lt}
use Rattle.std.proofs.lemmas.List.{drop_at, drop_all, length-take-le, append-nil}
use Rattle.l3_stream.specs.declared.fault.StreamFault.{StreamFault}
use Rattle.l3_stream.specs.declared.fault.StreamFault.TheVariants as faults
use Rattle.l3_frames.specs.InTurn.{LeavesBehind}
use Rattle.l3_frames.specs.Steps.{HeaderBegins, IsWithin, ReadsFront}

-- a fault behind the header leaves what follows the frame
pub leaves_whole : (fault : StreamFault) (size : ℕ) (left : List ℕ) (now : Option (List ℕ))
    → IsWithin fault → now ≡ Some (drop size left) → LeavesBehind fault size left now
leaves_whole (faults.BadHeader at) size left now within e = absurd within
leaves_whole (faults.ShortFrame at) size left now within e = absurd within
leaves_whole (faults.BadSide at) size left now within e = e
leaves_whole (faults.BadBegin at) size left now within e = e
leaves_whole (faults.BadCode bit) size left now within e = e
leaves_whole (faults.WrongLength bit) size left now within e = e
leaves_whole (faults.NotZero bit) size left now within e = e
leaves_whole faults.Read size left now within e = absurd within
leaves_whole faults.Memory size left now within e = absurd within
leaves_whole (faults.TooLong at) size left now within e = absurd within

-- by what a source has left
pub told_leaves_whole : (fault : StreamFault) (size : ℕ) (header : List ℕ)
    (old now : Option (List ℕ)) → IsWithin fault
    → IfSome old (λ left. now ≡ Some (drop size (header ++ left)))
    → IfSome old (λ left. LeavesBehind fault size (header ++ left) now)
told_leaves_whole fault size header None now within h = tt
told_leaves_whole fault size header (Some left) now within h = leaves_whole fault size
    (header ++ left) now within h

module _ (header : List ℕ) (four : length header ≡ 4) where
  -- only the header
  pub told_leaves_header : (at size : ℕ) (old : Option (List ℕ))
      → IfSome old (λ left. LeavesBehind (faults.BadHeader at) size (header ++ left) old)
  told_leaves_header at size None = tt
  told_leaves_header at size (Some left) = ap (λ l. Some l) (sym (drop_at header left 4 four))

  -- a front of the frame, where a read failed
  pub told_leaves_some : (size : ℕ) (old now : Option (List ℕ)) (bytes : List ℕ)
      → length bytes < size - 4 → Consumes old now bytes
      → IfSome old (λ left. LeavesBehind faults.Read size (header ++ left) now)
  told_leaves_some size None now bytes few gone = tt
  told_leaves_some size (Some left) None bytes few gone = absurd gone
  told_leaves_some size (Some left) (Some rest) bytes few gone = (
    header ++ bytes,
    omega (arith, length-append header bytes),
    ap (λ l. header ++ l) gone
        ∙ sym (append_assoc header bytes rest),
  )

  -- nothing, where the bytes end in the frame
  pub told_leaves_nothing : (at size count : ℕ) (old now : Option (List ℕ)) (buffer : List ℕ)
      → count < size - 4 → length buffer ≡ size - 4
      → IfSome old (λ left. ReadsFront left count buffer now)
      → IfSome old (λ left. LeavesBehind (faults.ShortFrame at) size (header ++ left) now)
  told_leaves_nothing at size count None now buffer few room reads = tt
  told_leaves_nothing at size count (Some left) now buffer few room reads =
      let none : reads.rest ≡ [] = reads.short (omega arith) in
      let all : length left ≡ count = ap length reads.bytes
      ∙ (ap (λ r. length (take count buffer ++ r)) none
      ∙ (ap length (append-nil (take count buffer)) ∙ length-take-le count buffer
      (omega arith))) in
      let gone : drop size (header ++ left) ≡ [] = drop_all size (header ++ left)
      (omega (arith, length-append header left)) in
      reads.is ∙ ap (λ l. Some l) (none ∙ sym gone)

-- ---- where there is no header

-- what is left where only a header was to be read, and all bytes that were read are in its buffer
module _ (count : ℕ) (buffer : List ℕ) (four : length buffer ≡ 4) (bound : count ≤ length buffer)
  where
    behind_header : (left : List ℕ) (now : Option (List ℕ)) → ReadsFront left count buffer now
        → now ≡ Some (drop 4 left)
    behind_header left now reads =
        let front : length (take count buffer) ≡ count = length-take-le count buffer bound in
        elim (cases_lt count 4) [
          | inl short ↦
              let none : reads.rest ≡ [] = reads.short (omega arith) in
              let all : length left ≡ count = ap length reads.bytes
              ∙ (ap (λ r. length (take count buffer ++ r)) none
              ∙ (ap length (append-nil (take count buffer)) ∙ front)) in
              reads.is ∙ ap (λ l. Some l) (none ∙ sym (drop_all 4 left (omega arith)))
          | inr full ↦ reads.is ∙ ap (λ l. Some l)
              (sym (ap (drop 4) reads.bytes ∙ drop_at (take count buffer) reads.rest 4 (omega arith)))
        ]

    pub told_too_long : (at : ℕ) (old now : Option (List ℕ))
        → IfSome old (λ left. ReadsFront left count buffer now)
        → IfSome old (λ left. LeavesBehind (faults.TooLong at) 4 left now)
    told_too_long at None now reads = tt
    told_too_long at (Some left) now reads = behind_header left now reads

    pub told_short_header : (at : ℕ) (old now : Option (List ℕ))
        → IfSome old (λ left. ReadsFront left count buffer now)
        → IfSome old (λ left. LeavesBehind (faults.ShortFrame at) 4 left now)
    told_short_header at None now reads = tt
    told_short_header at (Some left) now reads = behind_header left now reads

pub told_header_fault : (old now : Option (List ℕ)) (bytes : List ℕ) → length bytes < 4
    → Consumes old now bytes → IfSome old (λ left. LeavesBehind faults.Read 4 left now)
told_header_fault None now bytes few gone = tt
told_header_fault (Some left) now bytes few gone = (bytes, few, gone)

-- ---- what is left of the whole

-- a fact of the header and what follows it is one of the bytes that begin with it
pub through_header : (P : List ℕ → Type 0) (header : List ℕ) (old mid : Option (List ℕ))
    → IfSome old (λ left. HeaderBegins left header mid) → IfSome mid (λ rest. P (header ++ rest))
    → IfSome old P
through_header P header None mid begins h = tt
through_header P header (Some left) mid begins h =
    let b : HeaderBegins left header mid = begins in
    let here : P (header ++ b.rest) = subst (λ m. IfSome m (λ rest. P (header ++ rest))) b.is h in
    subst P (sym b.bytes_are) here

-- a longer frame leaves no more where only its header is read, and has no fewer bytes
pub leaves_longer : (fault : StreamFault) (size : ℕ) (left : List ℕ) (now : Option (List ℕ))
    → 4 ≤ size → (fault ≡ faults.Read) → LeavesBehind faults.Read 4 left now
    → LeavesBehind fault size left now
leaves_longer fault size left now le is h = subst (λ d. LeavesBehind d size left now) (sym is)
    (h.0, omega (arith, h.1), h.2)
