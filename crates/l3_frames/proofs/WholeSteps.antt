-- A frame from a source, and the frames from a place on.
use Rattle.std.proofs.Common.{◌≡◌, ℕ, ◌+◌, ◌-◌, ◌<◌, ◌≤◌, leb, true, false, List, [], ◌++◌, length, take, drop, Option, Some, None, Result, Ok, Err, refl, sym, ap, subst, ◌∙◌, arith, append_assoc, length-append}
use Rattle.std.specs.Prelude.{IfSome, IfNone, IfErr, OnErr}
use Rattle.std.proofs.lemmas.Bool.{le-leb, lt-leb}
use Rattle.std.proofs.lemmas.List.{take_at, take_all, append-nil, length-drop, length-take-le}
use borrow.Rule.Slice.PartMut.{put_mid}
use Rattle.std.proofs.lemmas.Slice.{take-put_mid}
use Rattle.l3_bits.specs.Bits.{bits_of}
use Rattle.l3_base.specs.declared.settings.Settings.{Settings}
use Rattle.l3_base.specs.Lengths.{frame_bytes_of}
use Rattle.l3_stream.specs.declared.fault.StreamFault.{StreamFault}
use Rattle.l3_stream.specs.declared.fault.StreamFault.TheVariants as faults
use Rattle.l3_stream.specs.declared.unit.ChosenFrame.{ChosenFrame}
use Rattle.l3_stream.specs.Fields.{same}
use Rattle.l3_stream.specs.Header.{header_at}
use Rattle.l3_stream.specs.Faults.{checked}
use Rattle.l3_stream.specs.Deviation.{Place, head_at}
use Rattle.l3_stream.proofs.Steps.{bind_again, checked_again}
use Rattle.l3_stream.proofs.Locality.{frame_is_local}
use Rattle.l3_frames.specs.Answer.{IsFaultOf}
use Rattle.l3_frames.specs.InTurn.{frame_at}
use Rattle.l3_frames.specs.Steps.{ReadsFront}
use Rattle.l3_frames.proofs.UnitSteps.{bind_bad}
use Rattle.l3_frames.proofs.MainSteps.{checked_bad}
use Rattle.l3_frames.proofs.Loops.{length-put_mid}

-- ---- faults

pub fault_of : {A : Type 0} (fault : StreamFault) (said : Result A StreamFault) → said ≡ Err fault
    → IsFaultOf fault said
fault_of (faults.BadHeader at) said e = e
fault_of (faults.ShortFrame at) said e = e
fault_of (faults.BadSide at) said e = e
fault_of (faults.BadBegin at) said e = e
fault_of (faults.BadCode bit) said e = e
fault_of (faults.WrongLength bit) said e = e
fault_of (faults.NotZero bit) said e = e
fault_of faults.Read said e = tt
fault_of faults.Memory said e = tt
fault_of (faults.TooLong at) said e = e

-- what it is of, where it is no failed read and no want of memory
pub fault_said : {A : Type 0} (fault : StreamFault) (said : Result A StreamFault)
    → IsFaultOf fault said → (fault ≡ faults.Read → ⊥) → (fault ≡ faults.Memory → ⊥)
    → said ≡ Err fault
fault_said (faults.BadHeader at) said e read memory = e
fault_said (faults.ShortFrame at) said e read memory = e
fault_said (faults.BadSide at) said e read memory = e
fault_said (faults.BadBegin at) said e read memory = e
fault_said (faults.BadCode bit) said e read memory = e
fault_said (faults.WrongLength bit) said e read memory = e
fault_said (faults.NotZero bit) said e read memory = e
fault_said faults.Read said e read memory = absurd (read refl)
fault_said faults.Memory said e read memory = absurd (memory refl)
fault_said (faults.TooLong at) said e read memory = e

-- ---- a frame

pub frame_few : (st : Settings) (p : Place) (bytes : List ℕ) → length bytes < 4
    → frame_at st p bytes ≡ Err (faults.ShortFrame p.at)
unfolding frame_at head_at
frame_few st p bytes lt =
    bind_bad _ _ (faults.ShortFrame p.at)
    (bind_bad (checked (leb 4 (length bytes)) (faults.ShortFrame p.at)) _
    (faults.ShortFrame p.at) (checked_bad _ _ (lt-leb _ _ lt)))

module _ (st : Settings) (p : Place) (header left : List ℕ) (four : length header ≡ 4) where
  begins : take 4 (header ++ left) ≡ header
  begins = take_at header left 4 four

  long : leb 4 (length (header ++ left)) ≡ true
  long = le-leb _ _ (omega (arith, length-append header left))

  pub frame_bad_header : same (bits_of header) (header_at st p.number) ≡ false
      → frame_at st p (header ++ left) ≡ Err (faults.BadHeader p.at)
  unfolding frame_at head_at
  frame_bad_header e =
      bind_bad _ _ (faults.BadHeader p.at)
      (bind_again (checked (leb 4 (length (header ++ left))) (faults.ShortFrame p.at)) _ tt
      (Err (faults.BadHeader p.at)) (checked_again _ _ long)
      (bind_bad (checked (same (bits_of (take 4 (header ++ left))) (header_at st p.number))
      (faults.BadHeader p.at)) _ (faults.BadHeader p.at)
      (checked_bad _ _ (ap (λ l. same (bits_of l) (header_at st p.number)) begins ∙ e))))

  pub frame_short : same (bits_of header) (header_at st p.number) ≡ true
      → 4 + length left < frame_bytes_of st p.number → frame_at st p (header ++ left) ≡ Err
      (faults.ShortFrame p.at)
  unfolding frame_at head_at
  frame_short e lt =
      bind_bad _ _ (faults.ShortFrame p.at)
      (bind_again (checked (leb 4 (length (header ++ left))) (faults.ShortFrame p.at)) _ tt
      (Err (faults.ShortFrame p.at)) (checked_again _ _ long)
      (bind_again (checked (same (bits_of (take 4 (header ++ left))) (header_at st p.number))
      (faults.BadHeader p.at)) _ tt (Err (faults.ShortFrame p.at))
      (checked_again _ _ (ap (λ l. same (bits_of l) (header_at st p.number)) begins ∙ e))
      (bind_bad (checked (leb (frame_bytes_of st p.number) (length (header ++ left)))
      (faults.ShortFrame p.at)) _ (faults.ShortFrame p.at)
      (checked_bad _ _ (lt-leb _ _ (omega (arith, length-append header left)))))))

pub frame_local : (st : Settings) (p : Place) (frame more : List ℕ) → length frame
    ≡ frame_bytes_of st p.number → frame_at st p (frame ++ more) ≡ frame_at st p frame
unfolding frame_at
frame_local st p frame more size =
    let is = frame_is_local st p frame more size in
    rw (is.head, is.slot) refl

-- ---- a frame from a source

module _ (st : Settings) (p : Place) (header : List ℕ) (four : length header ≡ 4)
    (old : Option (List ℕ)) where
  pub told_bad_header : same (bits_of header) (header_at st p.number) ≡ false
      → IfSome old (λ left. frame_at st p (header ++ left) ≡ Err (faults.BadHeader p.at))
  told_bad_header e = elim old as (λ o. IfSome o (λ left. frame_at st p (header ++ left) ≡ Err
      (faults.BadHeader p.at))) [
        | None ↦ tt
        | Some left ↦ frame_bad_header st p header left four e
      ]

  module _ (now : Option (List ℕ)) (count : ℕ) (buffer : List ℕ) (size : ℕ)
      (size_is : size ≡ frame_bytes_of st p.number) (room : length buffer ≡ size - 4)
      (bound : count ≤ length buffer) where
    pub told_short : same (bits_of header) (header_at st p.number) ≡ true → count < size - 4
        → IfSome old (λ left. ReadsFront left count buffer now)
        → IfSome old (λ left. frame_at st p (header ++ left) ≡ Err (faults.ShortFrame p.at))
    told_short e lt = elim old as (λ o. IfSome o (λ left. ReadsFront left count buffer now)
        → IfSome o (λ left. frame_at st p (header ++ left) ≡ Err (faults.ShortFrame p.at))) [
          | None ↦ λ reads. tt
          | Some left ↦ λ reads.
              let none : reads.rest ≡ [] = reads.short (omega arith) in
              let few : length left ≡ count = ap length reads.bytes
              ∙ (ap (λ r. length (take count buffer ++ r)) none
              ∙ (ap length (append-nil (take count buffer)) ∙ length-take-le count buffer bound)) in
              frame_short st p header left four e (omega arith)
        ]

    whole_is : (left : List ℕ) → size - 4 ≤ count → 4 ≤ size
        → (reads : ReadsFront left count buffer now) → header ++ left
        ≡ (header ++ buffer) ++ reads.rest
    whole_is left enough big reads =
        let all : take count buffer ≡ buffer = take_all count buffer (omega arith) in
        ap (λ l. header ++ l) (reads.bytes ∙ ap (λ l. l ++ reads.rest) all)
        ∙ sym (append_assoc header buffer reads.rest)

    frame_length : 4 ≤ size → length (header ++ buffer) ≡ frame_bytes_of st p.number
    frame_length big = omega (arith, length-append header buffer)

    pub told_whole : (said : Result (ChosenFrame × Place) StreamFault) → size - 4 ≤ count → 4 ≤ size
        → frame_at st p (header ++ buffer) ≡ said
        → IfSome old (λ left. ReadsFront left count buffer now)
        → IfSome old (λ left. frame_at st p (header ++ left) ≡ said)
    told_whole said enough big e = elim old as
        (λ o. IfSome o (λ left. ReadsFront left count buffer now)
        → IfSome o (λ left. frame_at st p (header ++ left) ≡ said)) [
          | None ↦ λ reads. tt
          | Some left ↦ λ reads. ap (frame_at st p) (whole_is left enough big reads)
              ∙ (frame_local st p (header ++ buffer) reads.rest (frame_length big) ∙ e)
        ]

    pub told_rest : size - 4 ≤ count → 4 ≤ size
        → IfSome old (λ left. ReadsFront left count buffer now)
        → IfSome old (λ left. now ≡ Some (drop (frame_bytes_of st p.number) (header ++ left)))
    told_rest enough big = elim old as (λ o. IfSome o (λ left. ReadsFront left count buffer now)
        → IfSome o (λ left. now ≡ Some (drop (frame_bytes_of st p.number) (header ++ left)))) [
          | None ↦ λ reads. tt
          | Some left ↦ λ reads.
              let is = frame_is_local st p (header ++ buffer) reads.rest (frame_length big) in
              reads.is ∙ ap (λ l. Some l)
              (sym (ap (drop (frame_bytes_of st p.number)) (whole_is left enough big reads)
              ∙ is.left))
        ]

-- the bytes of a frame in a buffer
pub buffer_is : (zeros header body : List ℕ) (size : ℕ) → 4 ≤ size → length header ≡ 4 → length body
    ≡ size - 4 → take size (put_mid 4 (size - 4) (header ++ drop 4 zeros) body) ≡ header ++ body
buffer_is zeros header body size big four room =
    take-put_mid 4 (size - 4) (header ++ drop 4 zeros) body size (omega arith)
    (omega (arith, length-append header (drop 4 zeros))) ∙ ap (λ l. l ++ body)
    (take_at header (drop 4 zeros) 4 four)

-- the fault of a result that is an error
pub refused_by : {A B : Type 0} (r : Result A StreamFault) (fault : StreamFault)
    (old : Option (List ℕ)) (said : List ℕ → Result B StreamFault) → r ≡ Err fault
    → IfSome old (λ left. IsFaultOf fault (said left))
    → IfErr r (λ d. IfSome old (λ left. IsFaultOf d (said left)))
refused_by r fault old said is h = subst
    (λ q. IfErr q (λ d. IfSome old (λ left. IsFaultOf d (said left)))) (sym is) h

-- what holds of the fault of an answer that is one
pub refused : {A : Type 0} (r : Result A StreamFault) (fault : StreamFault) (P : StreamFault
    → Type 0) → r ≡ Err fault → P fault → IfErr r P
refused r fault P is h = subst (λ q. IfErr q P) (sym is) h

pub at_refused : {A : Type 0} (r : Result A StreamFault) (P : Type 0) → P → OnErr r P
at_refused (Ok x) P h = tt
at_refused (Err fault) P h = h

-- an answer that is another fault
pub other_fault : {A : Type 0} (r : Result A StreamFault) (fault other : StreamFault)
    → r ≡ Err fault → (fault ≡ other → ⊥) → r ≡ Err other → ⊥
other_fault r fault other is not e = let both : fault ≡ other = cc in not both

pub told_fault_of : {B : Type 0} (fault : StreamFault) (old : Option (List ℕ)) (said : List ℕ
    → Result B StreamFault) → IfSome old (λ left. said left ≡ Err fault)
    → IfSome old (λ left. IsFaultOf fault (said left))
told_fault_of fault None said h = tt
told_fault_of fault (Some left) said h = fault_of fault (said left) h

pub buffer_whole : (zeros written header body : List ℕ) (size : ℕ) → 4 ≤ size → written ≡ header
    → length header ≡ 4 → length body ≡ size - 4
    → take size (put_mid 4 (size - 4) (written ++ drop 4 zeros) body) ≡ header ++ body
buffer_whole zeros written header body size big is four room = buffer_is zeros written body size big
    (ap length is ∙ four) room ∙ ap (λ l. l ++ body) is

pub buffer_room : (zeros written header body : List ℕ) (size : ℕ) → length zeros ≡ 1441
    → size ≤ 1441 → 4 ≤ size → written ≡ header → length header ≡ 4 → length body ≡ size - 4
    → size ≤ length (put_mid 4 (size - 4) (written ++ drop 4 zeros) body)
buffer_room zeros written header body size all small big is four room =
    let same : length written ≡ 4 = ap length is ∙ four in
    let start : length (written ++ drop 4 zeros) ≡ 1441 = omega (
      arith,
      length-append written
          (drop 4 zeros),
      length-drop 4 zeros,
    ) in
    omega (arith, length-put_mid 4 (size - 4) (written ++ drop 4 zeros) body (omega arith) room)

-- what stands in an option
pub if_none : {X : Type 0} (o : Option X) (P : Type 0) → o ≡ None → IfNone o P → P
if_none o P is h = subst (λ x. IfNone x P) is h

pub if_some : {X : Type 0} (o : Option X) (x : X) (P : X → Type 0) → o ≡ Some x → IfSome o P → P x
if_some o x P is h = subst (λ y. IfSome y P) is h
