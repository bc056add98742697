-- Where the tape's bits stand.
use Rattle.std.proofs.Common.{◌≡◌, ℕ, zero, suc, ◌+◌, ◌-◌, ◌*◌, ◌≤◌, ◌<◌, Bool, false, List, [], ◌∷◌, ◌++◌, length, replicate, get_or, Some, refl, sym, ap, subst, ◌∙◌, arith, inl, inr, ◌⊎◌}
use Rattle.std.specs.List.{slice_get}
use Rattle.std.proofs.lemmas.Bool.{cases_lt}
use Rattle.std.proofs.lemmas.Option.{same_Some}
use Rattle.std.proofs.lemmas.List.{length-append, length-replicate, get_or-replicate, get_or_past, get_or_append_left, get_or-append_right}
use Rattle.l3_base.specs.declared.settings.Settings.{Settings}
use Rattle.l3_base.specs.Lengths.{slots_before, slot_bytes_of}
use Rattle.l3_stream.specs.declared.unit.ChosenFrame.{ChosenFrame}
use Rattle.l3_stream.specs.Frames.{code_bits}
use Rattle.l3_stream.specs.Tape.{start_of, end_of, tape_from, tape_of, FitsAt, FramesFit}
use Rattle.l3_stream.specs.Laws.{TapeIs}

pub slots-suc : (st : Settings) (n : ℕ) → slots_before st (suc n) ≡ slots_before st n + slot_bytes_of st n
unfolding slots_before
slots-suc st n = refl

pub start_within : (st : Settings) (n begin : ℕ) → start_of st n begin ≤ 8 * slots_before st n
unfolding start_of
start_within st n begin = omega arith

get_or-zeros : (n i : ℕ) → get_or (replicate n false) i false ≡ false
get_or-zeros n i =
    elim (cases_lt i n) [
      | inl lt ↦ get_or-replicate n i false false lt
      | inr le ↦ get_or_past (replicate n false) i false (omega (arith, length-replicate n false))
    ]

-- behind zeros and codes
past_both : (gap : ℕ) (code rest : List Bool) (i : ℕ) → gap + length code ≤ i → get_or (replicate gap false ++ (code ++ rest)) i false ≡ get_or rest (i - gap - length code) false
past_both gap code rest i le =
    get_or-append_right (replicate gap false) (code ++ rest) gap i false (length-replicate gap false) (omega arith)
    ∙ get_or-append_right code rest (length code) (i - gap) false refl (omega arith)

-- within the codes
within_code : (gap : ℕ) (code rest : List Bool) (t : ℕ) → t < length code → get_or (replicate gap false ++ (code ++ rest)) (gap + t) false ≡ get_or code t false
within_code gap code rest t lt =
    let e : gap + t - gap ≡ t = omega arith in
    get_or-append_right (replicate gap false) (code ++ rest) gap (gap + t) false (length-replicate gap false) (omega arith)
    ∙ (ap (λ i. get_or (code ++ rest) i false) e ∙ get_or_append_left code rest false t lt)

within_gap : (gap : ℕ) (rest : List Bool) (i : ℕ) → i < gap → get_or (replicate gap false ++ rest) i false ≡ false
within_gap gap rest i lt =
    get_or_append_left (replicate gap false) rest false i (omega (arith, length-replicate gap false)) ∙ get_or-zeros gap i

record IsLaid (st : Settings) (n end : ℕ) (fs : List ChosenFrame) (m t : ℕ) (f : ChosenFrame) : Type 0 where
  reached : end ≤ start_of st m f.begin
  bit : get_or (tape_from st n end fs) (start_of st m f.begin + t - end) false ≡ get_or (code_bits st f) t false

codes_at : (st : Settings) (n end : ℕ) (fs : List ChosenFrame) → FramesFit st n end fs → (k m t : ℕ) (f : ChosenFrame) → m ≡ n + k → slice_get fs k ≡ Some f → t < length (code_bits st f) → IsLaid st n end fs m t f
codes_at st n end [] fit k m t f place is lt = absurd cc
codes_at st n end (g ∷ fs) fit zero m t f place is lt =
    let same : g ≡ f = same_Some g f is in
    let number : n ≡ m = omega arith in
    let here : FitsAt st n end g = fit.0 in
    let after = here.after in
    let place : start_of st n g.begin + t - end ≡ start_of st n g.begin - end + t = omega arith in
    let lt' : t < length (code_bits st g) = subst (λ (h : ChosenFrame). t < length (code_bits st h)) (sym same) lt in
    let made : IsLaid st n end (g ∷ fs) n t g = record {
      reached = after;
      bit = ap (λ i. get_or (tape_from st n end (g ∷ fs)) i false) place ∙ within_code (start_of st n g.begin - end) (code_bits st g) (tape_from st (suc n) (end_of st n g) fs) t lt';
    } in
    subst (λ (h : ChosenFrame). IsLaid st n end (g ∷ fs) m t h) same (subst (λ (i : ℕ). IsLaid st n end (g ∷ fs) i t g) number made)
codes_at st n end (g ∷ fs) fit (suc k) m t f place is lt =
    let here : FitsAt st n end g = fit.0 in
    let after = here.after in
    let later : IsLaid st (suc n) (end_of st n g) fs m t f = codes_at st (suc n) (end_of st n g) fs fit.1 k m t f (omega arith) is lt in
    let reached = later.reached in
    let far : start_of st n g.begin - end + length (code_bits st g) ≤ start_of st m f.begin + t - end = omega arith in
    let place : start_of st m f.begin + t - end - (start_of st n g.begin - end) - length (code_bits st g) ≡ start_of st m f.begin + t - end_of st n g = omega arith in
    record {
      reached = omega arith;
      bit = past_both (start_of st n g.begin - end) (code_bits st g) (tape_from st (suc n) (end_of st n g) fs) (start_of st m f.begin + t - end) far
          ∙ (ap (λ i. get_or (tape_from st (suc n) (end_of st n g) fs) i false) place ∙ later.bit);
    }

-- no frame from n on has codes at bit t
abbrev IsFree : Settings → ℕ → List ChosenFrame → ℕ → Type 0
IsFree st n fs t = (k m : ℕ) (f : ChosenFrame) → m ≡ n + k → slice_get fs k ≡ Some f → (t < start_of st m f.begin) ⊎ (end_of st m f ≤ t)

zeros_at : (st : Settings) (n end : ℕ) (fs : List ChosenFrame) → FramesFit st n end fs → (t : ℕ) → end ≤ t → IsFree st n fs t → get_or (tape_from st n end fs) (t - end) false ≡ false
zeros_at st n end [] fit t le free = get_or-zeros (8 * slots_before st n - end) (t - end)
zeros_at st n end (g ∷ fs) fit t le free =
    let here : FitsAt st n end g = fit.0 in
    let after = here.after in
    let rest = tape_from st (suc n) (end_of st n g) fs in
    elim (free 0 n g (omega arith) refl) as (λ _. get_or (tape_from st n end (g ∷ fs)) (t - end) false ≡ false) [
      | inl lt ↦ within_gap (start_of st n g.begin - end) (code_bits st g ++ rest) (t - end) (omega arith)
      | inr past ↦
          let place : t - end - (start_of st n g.begin - end) - length (code_bits st g) ≡ t - end_of st n g = omega arith in
          past_both (start_of st n g.begin - end) (code_bits st g) rest (t - end) (omega arith)
          ∙ (ap (λ i. get_or rest i false) place ∙ zeros_at st (suc n) (end_of st n g) fs fit.1 t past (λ k m f is. free (suc k) m f (omega arith)))
    ]

pub tape-length : (st : Settings) (n end : ℕ) (fs : List ChosenFrame) → FramesFit st n end fs → end ≤ 8 * slots_before st n → length (tape_from st n end fs) + end ≡ 8 * slots_before st (n + length fs)
tape-length st n end [] fit le =
    let e : n + 0 ≡ n = omega arith in
    rw e (omega (arith, length-replicate (8 * slots_before st n - end) false))
tape-length st n end (g ∷ fs) fit le =
    let here : FitsAt st n end g = fit.0 in
    let after = here.after in
    let rest = tape_from st (suc n) (end_of st n g) fs in
    let later : length rest + end_of st n g ≡ 8 * slots_before st (suc n + length fs) = tape-length st (suc n) (end_of st n g) fs fit.1 here.within in
    let e : n + suc (length fs) ≡ suc n + length fs = omega arith in
    rw e (omega (arith, later, length-append (replicate (start_of st n g.begin - end) false) (code_bits st g ++ rest), length-append (code_bits st g) rest, length-replicate (start_of st n g.begin - end) false))

less-zero : (t : ℕ) → t - 0 ≡ t
less-zero t = omega arith

start-is : (st : Settings) (n begin : ℕ) → start_of st n begin ≡ 8 * (slots_before st n - begin)
unfolding start_of
start-is st n begin = refl

pub tape_is : (st : Settings) (fs : List ChosenFrame) → FramesFit st 0 0 fs → TapeIs st fs
tape_is st fs fit = record {
  whole = let e : 0 + length fs ≡ length fs = omega arith in let whole = tape-length st 0 0 fs fit (omega arith) in omega (arith, whole, ap (slots_before st) e);
  codes = λ n t f is lt.
      let place : 8 * (slots_before st n - f.begin) + t ≡ start_of st n f.begin + t - 0 = omega (arith, start-is st n f.begin) in
      ap (λ i. get_or (tape_of st fs) i false) place ∙ (codes_at st 0 0 fs fit n n t f (omega arith) is lt).bit;
  zeros = λ t free. ap (λ i. get_or (tape_of st fs) i false) (sym (less-zero t)) ∙ zeros_at st 0 0 fs fit t (omega arith) (λ k m f e is. let same : k ≡ m = omega arith in subst (λ (i : ℕ). (t < start_of st i f.begin) ⊎ (end_of st i f ≤ t)) same (free k f is));
}
