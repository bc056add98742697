-- The frames from a place on, by the first of them.
use Rattle.std.proofs.Common.{◌≡◌, ℕ, zero, suc, ◌-◌, ◌<◌, List, [], ◌∷◌, length, drop, Result, Ok, Err, refl, sym, ap, ◌∙◌, arith, inl, inr}
use Rattle.std.specs.Prelude.{⊤}
use Rattle.l3_base.specs.declared.settings.Settings.{Settings}
use Rattle.l3_base.specs.Lengths.{frame_bytes_of}
use Rattle.l3_stream.specs.declared.fault.StreamFault.{StreamFault}
use Rattle.l3_stream.specs.declared.fault.StreamFault.TheVariants as faults
use Rattle.l3_stream.specs.declared.unit.ChosenFrame.{ChosenFrame}
use Rattle.l3_stream.specs.declared.unit.Unit.{Unit as FrameUnit}
use Rattle.l3_stream.specs.Frames.{placed}
use Rattle.l3_stream.specs.Faults.{◌>>=◌, clear}
use Rattle.l3_stream.specs.Deviation.{Place, head_at, slot_at, main_at, next_place, frames_from}
use Rattle.l3_frames.specs.InTurn.{frame_at}
use Rattle.l3_frames.specs.Steps.{NoHeader}
use Rattle.l3_frames.proofs.UnitSteps.{bind_bad}
use Rattle.l3_frames.proofs.WholeSteps.{frame_few}

-- ---- a frame more

assoc1 : {B C D : Type 0} (r : Result B StreamFault) (h : B → C) (k : C → Result D StreamFault)
    → ((r >>= λ y. Ok (h y)) >>= k) ≡ (r >>= λ y. k (h y))
unfolding ◌>>=◌
assoc1 (Ok y) h k = refl
assoc1 (Err fault) h k = refl

assoc2 : {A B C D : Type 0} (r : Result A StreamFault) (f : A → Result B StreamFault) (h : A → B
    → C) (k : C → Result D StreamFault) → ((r >>= λ x. f x >>= λ y. Ok (h x y)) >>= k)
    ≡ (r >>= λ x. f x >>= λ y. k (h x y))
unfolding ◌>>=◌
assoc2 (Ok x) f h k = assoc1 (f x) (h x) k
assoc2 (Err fault) f h k = refl

abbrev frame_and_place : Settings → Place → List ℕ → ℕ × List FrameUnit → List FrameUnit
    → ChosenFrame × Place
frame_and_place st p bytes side units = (
  record { begin = side.0; units = placed st.channels units },
  next_place st p side
      (slot_at st p.number bytes),
)

abbrev and_others : Settings → ℕ → Place → List ℕ → ChosenFrame × Place
    → Result (List ChosenFrame) StreamFault
and_others st k p bytes r = frames_from st k r.1 (drop (frame_bytes_of st p.number) bytes)
    >>= λ others. Ok (r.0 ∷ others)

frames_step : (st : Settings) (k : ℕ) (p : Place) (bytes : List ℕ) → 0 < length bytes
    → frames_from st (suc k) p bytes ≡ (frame_at st p bytes >>= and_others st k p bytes)
unfolding frames_from frame_at
frames_step st k p [] some = absurd (omega arith)
frames_step st k p (b ∷ bytes) some =
    sym (assoc2 (head_at st p (b ∷ bytes)) (λ side. main_at st p side
    (slot_at st p.number (b ∷ bytes))) (frame_and_place st p (b ∷ bytes))
    (and_others st k p (b ∷ bytes)))

pub frames_after : (st : Settings) (k : ℕ) (p : Place) (bytes : List ℕ) (f : ChosenFrame)
    (q : Place) → 0 < length bytes → 0 < k → frame_at st p bytes ≡ Ok (f, q)
    → frames_from st k p bytes ≡ (frames_from st (k - 1) q (drop (frame_bytes_of st p.number) bytes)
    >>= λ others. Ok (f ∷ others))
unfolding ◌>>=◌
frames_after st k p bytes f q some room e =
    let left : k ≡ suc (k - 1) = omega arith in
    ap (λ n. frames_from st n p bytes) left ∙ (frames_step st (k - 1) p bytes some
    ∙ ap (λ r. r >>= and_others st (k - 1) p bytes) e)

pub frames_refused : (st : Settings) (k : ℕ) (p : Place) (bytes : List ℕ) (fault : StreamFault)
    → 0 < length bytes → 0 < k → frame_at st p bytes ≡ Err fault → frames_from st k p bytes
    ≡ Err fault
frames_refused st k p bytes fault some room e =
    let left : k ≡ suc (k - 1) = omega arith in
    ap (λ n. frames_from st n p bytes) left ∙ (frames_step st (k - 1) p bytes some
    ∙ bind_bad (frame_at st p bytes) _ fault e)

-- ---- no frame more

too_long : (st : Settings) (k : ℕ) (p : Place) (left : List ℕ) → k ≡ 0 → 0 < length left
    → frames_from st k p left ≡ Err (faults.TooLong p.at)
unfolding frames_from
too_long st k p [] none some = absurd (omega arith)
too_long st k p (b ∷ left) none some = ap (λ n. frames_from st n p (b ∷ left)) none

pub frames_no_header : (st : Settings) (limit : ℕ) (p : Place) (left : List ℕ) (fault : StreamFault)
    → NoHeader fault limit p.number p.at left → (fault ≡ faults.Read → ⊥)
    → frames_from st (limit - p.number) p left ≡ Err fault
frames_no_header st limit p left fault (inl read) not = absurd (not read)
frames_no_header st limit p left fault (inr (inl long)) not = too_long st (limit - p.number) p left
    (omega (arith, long.1)) long.2 ∙ ap (λ d. Err d) (sym long.0)
frames_no_header st limit p left fault (inr (inr short)) not =
    frames_refused st (limit - p.number) p left (faults.ShortFrame p.at) short.2
    (omega (arith, short.1)) (frame_few st p left short.3) ∙ ap (λ d. Err d) (sym short.0)

-- ---- the end

at_end : (st : Settings) (k : ℕ) (p : Place) → frames_from st k p []
    ≡ (clear p.end p.rest >>= λ zeros. Ok [])
unfolding frames_from
at_end st zero p = refl
at_end st (suc k) p = refl

ended : (st : Settings) (k : ℕ) (p : Place) (r : Result ⊤ StreamFault) → clear p.end p.rest ≡ r
    → frames_from st k p [] ≡ (r >>= λ zeros. Ok [])
ended st k p r e = at_end st k p ∙ ap (λ (x : Result ⊤ StreamFault). x >>= λ zeros. Ok []) e

pub clean_end : (st : Settings) (k : ℕ) (p : Place) → clear p.end p.rest ≡ Ok tt
    → frames_from st k p [] ≡ Ok []
unfolding ◌>>=◌
clean_end st k p e = ended st k p (Ok tt) e

pub bad_end : (st : Settings) (k : ℕ) (p : Place) (fault : StreamFault) → clear p.end p.rest
    ≡ Err fault → frames_from st k p [] ≡ Err fault
unfolding ◌>>=◌
bad_end st k p fault e = ended st k p (Err fault) e
