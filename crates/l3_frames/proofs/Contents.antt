-- The content of a stream, by its first frame.
use Rattle.std.proofs.Common.{◌≡◌, ℕ, zero, suc, ◌+◌, ◌-◌, ◌<◌, ◌≤◌, leb, List, [], ◌∷◌, length, take, drop, Option, Some, None, Result, Ok, Err, refl, sym, ap, ◌∙◌, arith, inl, inr}
use Rattle.std.specs.Prelude.{⊤}
use Rattle.std.proofs.lemmas.Bool.{le-leb, lt-leb}
use Rattle.l3_bits.specs.Bits.{bits_of}
use Rattle.l3_base.specs.declared.settings.Settings.{Settings}
use Rattle.l3_base.specs.Lengths.{frame_bytes_of}
use Rattle.l3_stream.specs.declared.fault.StreamFault.{StreamFault}
use Rattle.l3_stream.specs.declared.fault.StreamFault.TheVariants as faults
use Rattle.l3_stream.specs.declared.unit.ChosenFrame.{ChosenFrame}
use Rattle.l3_stream.specs.Header.{settings_at}
use Rattle.l3_stream.specs.Faults.{◌>>=◌, checked, or_fault, clear}
use Rattle.l3_stream.specs.Deviation.{Place, frames_from, first_place, Content, reading_of}
use Rattle.l3_stream.proofs.Steps.{bind_again, checked_again, or_fault_again}
use Rattle.l3_frames.specs.InTurn.{content_from, frame_at, settings_by, with_frames}
use Rattle.l3_frames.specs.Steps.{NoHeader}
use Rattle.l3_frames.proofs.UnitSteps.{bind_bad}
use Rattle.l3_frames.proofs.MainSteps.{checked_bad}
use Rattle.l3_frames.proofs.FrameSteps.{or_fault_none}
use Rattle.l3_frames.proofs.FramesFrom.{frames_after, frames_refused, frames_no_header, clean_end, bad_end}

abbrev pub contents : Option Settings → List ChosenFrame → Content
contents st fs = record { settings = st; frames = fs }

reading_long : (left : List ℕ) → 0 < length left → reading_of 0 left ≡ Err (faults.TooLong 0)
unfolding reading_of
reading_long [] some = absurd (omega arith)
reading_long (b ∷ left) some = refl

reading_short : (limit : ℕ) (left : List ℕ) → 0 < limit → 0 < length left → length left < 4
    → reading_of limit left ≡ Err (faults.ShortFrame 0)
unfolding reading_of
reading_short zero left room some few = absurd (omega arith)
reading_short (suc limit) [] room some few = absurd (omega arith)
reading_short (suc limit) (b ∷ left) room some few =
    bind_bad (checked (leb 4 (length (b ∷ left))) (faults.ShortFrame 0)) _ (faults.ShortFrame 0)
    (checked_bad _ _ (lt-leb _ _ few))

reading_refused : (limit : ℕ) (left : List ℕ) → 0 < limit → 4 ≤ length left
    → settings_at (bits_of (take 4 left)) ≡ None → reading_of limit left ≡ Err (faults.BadHeader 0)
unfolding reading_of
reading_refused zero left room long none = absurd (omega arith)
reading_refused (suc limit) [] room long none = absurd (omega arith)
reading_refused (suc limit) (b ∷ left) room long none =
    bind_again (checked (leb 4 (length (b ∷ left))) (faults.ShortFrame 0)) _ tt
    (Err (faults.BadHeader 0)) (checked_again _ _ (le-leb _ _ long))
    (bind_bad (or_fault (faults.BadHeader 0) (settings_at (bits_of (take 4 (b ∷ left))))) _
    (faults.BadHeader 0) (or_fault_none (faults.BadHeader 0) _ none))

reading_by : (limit : ℕ) (left : List ℕ) (st : Settings)
    (said : Result (List ChosenFrame) StreamFault) → 0 < limit → 4 ≤ length left
    → settings_at (bits_of (take 4 left)) ≡ Some st → frames_from st limit first_place left ≡ said
    → reading_of limit left ≡ (said >>= λ frames. Ok (contents (Some st) frames))
unfolding reading_of
reading_by zero left st said room long is e = absurd (omega arith)
reading_by (suc limit) [] st said room long is e = absurd (omega arith)
reading_by (suc limit) (b ∷ left) st said room long is e =
    bind_again (checked (leb 4 (length (b ∷ left))) (faults.ShortFrame 0)) _ tt
    (said >>= λ frames. Ok (contents (Some st) frames)) (checked_again _ _ (le-leb _ _ long))
    (bind_again (or_fault (faults.BadHeader 0) (settings_at (bits_of (take 4 (b ∷ left))))) _ st
    (said >>= λ frames. Ok (contents (Some st) frames)) (or_fault_again _ _ st is)
    (ap (λ (r : Result (List ChosenFrame) StreamFault). r >>= λ frames. Ok
    (contents (Some st) frames)) e))

reading_nothing : (limit : ℕ) (left : List ℕ) → left ≡ [] → reading_of limit left
    ≡ Ok (contents None [])
unfolding reading_of
reading_nothing zero left e = ap (reading_of 0) e
reading_nothing (suc limit) left e = ap (reading_of (suc limit)) e

-- ---- the content from a place on

-- where no frame was read, reading stands at the start
abbrev pub IsAtStart : Option Settings → Place → Type 0
IsAtStart None p = p ≡ first_place
IsAtStart (Some st) p = ⊤

module _ (limit : ℕ) (p : Place) (bytes : List ℕ) where
  content_under : (o : Option Settings) (st : Settings) → settings_by o bytes ≡ Some st
      → IsAtStart o p → p.number < limit → 4 ≤ length bytes
      → content_from o limit p bytes ≡ (frames_from st (limit - p.number) p bytes >>= λ frames. Ok
      (contents (Some st) frames))
  unfolding content_from
  content_under (Some s) st is start room long =
      let same : s ≡ st = cc in ap (λ (v : Settings). frames_from v (limit - p.number) p bytes
      >>= λ frames. Ok (contents (Some v) frames)) same
  content_under None st is start room long =
      let none : p.number ≡ 0 = ap (λ q. q.number) start in
      let all : limit ≡ limit - p.number = omega arith in
      let here : frames_from st limit first_place bytes ≡ frames_from st (limit - p.number) p
      bytes = ap (λ n. frames_from st n first_place bytes) all
      ∙ ap (λ q. frames_from st (limit - p.number) q bytes) (sym start) in
      reading_by limit bytes st (frames_from st (limit - p.number) p bytes) (omega arith) long is
      here

  taken_in : (st : Settings) (f : ChosenFrame) (r : Result (List ChosenFrame) StreamFault)
      → ((r >>= λ others. Ok (f ∷ others)) >>= λ frames. Ok (contents (Some st) frames))
      ≡ with_frames (f ∷ []) (r >>= λ frames. Ok (contents (Some st) frames))
  unfolding ◌>>=◌
  taken_in st f (Ok others) = refl
  taken_in st f (Err fault) = refl

  pub content_more : (o : Option Settings) (st : Settings) (f : ChosenFrame) (q : Place)
      → settings_by o bytes ≡ Some st → IsAtStart o p → p.number < limit → 4 ≤ length bytes
      → q.number ≡ p.number + 1
      → frame_at st p bytes ≡ Ok (f, q) → content_from o limit p bytes ≡ with_frames (f ∷ [])
      (content_from (Some st) limit q (drop (frame_bytes_of st p.number) bytes))
  unfolding content_from
  content_more o st f q is start room long number e =
      let rest = drop (frame_bytes_of st p.number) bytes in
      let left : limit - p.number - 1 ≡ limit - q.number = omega arith in
      content_under o st is start room long
      ∙ (ap (λ (r : Result (List ChosenFrame) StreamFault). r >>= λ frames. Ok
      (contents (Some st) frames)) (frames_after st (limit - p.number) p bytes f q (omega arith)
      (omega arith) e)
      ∙ (taken_in st f (frames_from st (limit - p.number - 1) q rest)
      ∙ ap (λ k. with_frames (f ∷ []) (frames_from st k q rest >>= λ frames. Ok
      (contents (Some st) frames))) left))

  pub content_refused : (o : Option Settings) (st : Settings) (fault : StreamFault)
      → settings_by o bytes ≡ Some st → IsAtStart o p → p.number < limit → 4 ≤ length bytes
      → frame_at st p bytes ≡ Err fault → content_from o limit p bytes ≡ Err fault
  content_refused o st fault is start room long e =
      content_under o st is start room long ∙ bind_bad (frames_from st (limit - p.number) p bytes) _
      fault (frames_refused st (limit - p.number) p bytes fault (omega arith) (omega arith) e)

  pub content_unknown : (o : Option Settings) → settings_by o bytes ≡ None → p.number < limit
      → 4 ≤ length bytes → content_from o limit p bytes ≡ Err (faults.BadHeader 0)
  unfolding content_from
  content_unknown (Some s) is room long = cc
  content_unknown None is room long = reading_refused limit bytes (omega arith) long is

  pub content_no_header : (o : Option Settings) (fault : StreamFault) → IsAtStart o p
      → NoHeader fault limit p.number p.at bytes → (fault ≡ faults.Read → ⊥)
      → content_from o limit p bytes ≡ Err fault
  unfolding content_from
  content_no_header (Some st) fault start h not = bind_bad
      (frames_from st (limit - p.number) p bytes) _ fault (frames_no_header st limit p bytes fault h
      not)
  content_no_header None fault start (inl read) not = absurd (not read)
  content_no_header None fault start (inr (inl long)) not =
      let none : limit ≡ 0 = omega (arith, long.1, ap (λ q. q.number) start) in
      ap (λ n. reading_of n bytes) none ∙ (reading_long bytes long.2
      ∙ (ap (λ q. Err (faults.TooLong q.at)) (sym start) ∙ ap (λ d. Err d) (sym long.0)))
  content_no_header None fault start (inr (inr short)) not =
      reading_short limit bytes (omega (arith, short.1)) short.2 short.3
      ∙ (ap (λ q. Err (faults.ShortFrame q.at)) (sym start) ∙ ap (λ d. Err d) (sym short.0))

module _ (limit : ℕ) (p : Place) where
  pub content_ended : (o : Option Settings) → clear p.end p.rest ≡ Ok tt → content_from o limit p []
      ≡ Ok (contents o [])
  unfolding content_from ◌>>=◌
  content_ended None e = reading_nothing limit [] refl
  content_ended (Some st) e = ap (λ (r : Result (List ChosenFrame) StreamFault). r >>= λ frames. Ok
      (contents (Some st) frames)) (clean_end st (limit - p.number) p e)

  none_bad : (fault : StreamFault) → clear 0 [] ≡ Err fault → ⊥
  unfolding clear
  none_bad fault e = cc

  pub content_bad_end : (o : Option Settings) (fault : StreamFault) → IsAtStart o p
      → clear p.end p.rest ≡ Err fault → content_from o limit p [] ≡ Err fault
  unfolding content_from
  content_bad_end None fault start e = absurd
      (none_bad fault (ap (λ q. clear q.end q.rest) (sym start) ∙ e))
  content_bad_end (Some st) fault start e = bind_bad (frames_from st (limit - p.number) p []) _
      fault (bad_end st (limit - p.number) p fault e)
