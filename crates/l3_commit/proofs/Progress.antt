-- A track goes through the choice of frames.
use Rattle.std.proofs.Common.{◌≡◌, ◌∙◌, sym, ap, subst, refl, ℕ, suc, ◌+◌, ◌*◌, ◌<◌, List, [], ◌∷◌, ◌++◌, length, arith}
use Rattle.std.specs.Prelude.{ℤ}
use Rattle.l3_base.specs.declared.settings.Settings.{Settings}
use Rattle.l3_base.specs.declared.rate.Channels.{Channels}
use Rattle.l3_base.specs.declared.rate.Channels.TheVariants.{Mono, Stereo}
use Rattle.l3_base.specs.Lengths.{mmax_of}
use Rattle.l3_search.specs.Budget.{begin_after}
use Rattle.l3_stream.specs.declared.unit.Unit.{Unit}
use Rattle.l3_stream.specs.declared.unit.ChosenFrame.{ChosenFrame}
use Rattle.l3_commit.specs.Choice.{Spectra, granule_by, reserve_by, granule_chosen, after_granule, reserve_between, reserve_at_end, first_granule, second_granule, begin_before, frame_chosen}
use Rattle.l3_commit.specs.Tried.{granule_tried_by, granule_tried, tried_at}
use Rattle.l3_commit.specs.Tracks.{TrackView, first_track, next_of, with_granule, with_frame_ended}
use Rattle.l3_commit.specs.Standing.{HasCommitted, IsProgress, AreSameSpectra}

-- ---- the spectra of channels that are not there do not count

granule_by-same : (ch : Channels) (st : Settings) (n reserve : ℕ) (lines others : ℕ → List ℤ) → AreSameSpectra ch lines others → granule_by ch st n reserve lines ≡ granule_by ch st n reserve others
granule_by-same Mono st n reserve lines others same = rw same refl
granule_by-same Stereo st n reserve lines others same = rw (same.0, same.1) refl

pub granule-same : (st : Settings) (n reserve : ℕ) (lines others : ℕ → List ℤ) → AreSameSpectra st.channels lines others → granule_chosen st n reserve lines ≡ granule_chosen st n reserve others
unfolding granule_chosen
granule-same st n reserve lines others same = granule_by-same st.channels st n reserve lines others same

reserve_by-same : (ch : Channels) (st : Settings) (n reserve : ℕ) (lines others : ℕ → List ℤ) → AreSameSpectra ch lines others → reserve_by ch st n reserve lines ≡ reserve_by ch st n reserve others
reserve_by-same Mono st n reserve lines others same = rw same refl
reserve_by-same Stereo st n reserve lines others same = rw (same.0, same.1) refl

pub after-same : (st : Settings) (n reserve : ℕ) (lines others : ℕ → List ℤ) → AreSameSpectra st.channels lines others → after_granule st n reserve lines ≡ after_granule st n reserve others
unfolding after_granule
after-same st n reserve lines others same = reserve_by-same st.channels st n reserve lines others same

granule_tried_by-same : (ch : Channels) (st : Settings) (n reserve : ℕ) (lines others : ℕ → List ℤ) → AreSameSpectra ch lines others → granule_tried_by ch st n reserve lines ≡ granule_tried_by ch st n reserve others
granule_tried_by-same Mono st n reserve lines others same = rw same refl
granule_tried_by-same Stereo st n reserve lines others same = rw (same.0, same.1) refl

pub tried-same : (st : Settings) (n reserve : ℕ) (lines others : ℕ → List ℤ) → AreSameSpectra st.channels lines others → granule_tried st n reserve lines ≡ granule_tried st n reserve others
unfolding granule_tried
tried-same st n reserve lines others same = granule_tried_by-same st.channels st n reserve lines others same

-- ---- one more granule of a frame

first-is : (st : Settings) (spectra : Spectra) (n begin : ℕ) → granule_chosen st n (8 * begin) (spectra (2 * n)) ≡ first_granule st spectra n begin
unfolding first_granule
first-is st spectra n begin = refl

between-is : (st : Settings) (spectra : Spectra) (n begin : ℕ) → after_granule st n (8 * begin) (spectra (2 * n)) ≡ reserve_between st spectra n begin
unfolding reserve_between
between-is st spectra n begin = refl

second-is : (st : Settings) (spectra : Spectra) (n begin : ℕ) → granule_chosen st n (reserve_between st spectra n begin) (spectra (2 * n + 1)) ≡ second_granule st spectra n begin
unfolding second_granule
second-is st spectra n begin = refl

end-is : (st : Settings) (spectra : Spectra) (n begin : ℕ) → after_granule st n (reserve_between st spectra n begin) (spectra (2 * n + 1)) ≡ reserve_at_end st spectra n begin
unfolding reserve_at_end
end-is st spectra n begin = refl

committed-more : (st : Settings) (spectra : Spectra) (n begin reserve : ℕ) (gs : List (List Unit)) → length gs < 2 → HasCommitted st spectra n begin gs reserve
    → HasCommitted st spectra n begin (gs ++ (granule_chosen st n reserve (spectra (2 * n + length gs)) ∷ [])) (after_granule st n reserve (spectra (2 * n + length gs)))
committed-more st spectra n begin reserve [] few before =
    let place : 2 * n + 0 ≡ 2 * n = omega arith in (
      ap (λ r. granule_chosen st n r (spectra (2 * n + 0))) before ∙ (ap (λ k. granule_chosen st n (8 * begin) (spectra k)) place ∙ first-is st spectra n begin),
      ap (λ r. after_granule st n r (spectra (2 * n + 0))) before ∙ (ap (λ k. after_granule st n (8 * begin) (spectra k)) place ∙ between-is st spectra n begin),
    )
committed-more st spectra n begin reserve (g ∷ []) few before = (
  before.0,
  ap (λ r. granule_chosen st n r (spectra (2 * n + 1))) before.1 ∙ second-is st spectra n begin,
  ap (λ r. after_granule st n r (spectra (2 * n + 1))) before.1 ∙ end-is st spectra n begin,
)
committed-more st spectra n begin reserve (g ∷ (h ∷ gs)) few before = absurd (omega arith)

more-same : (st : Settings) (n reserve : ℕ) (gs : List (List Unit)) (lines others : ℕ → List ℤ) (P : List (List Unit) → ℕ → Type 0) → AreSameSpectra st.channels lines others
    → P (gs ++ (granule_chosen st n reserve others ∷ [])) (after_granule st n reserve others) → P (gs ++ (granule_chosen st n reserve lines ∷ [])) (after_granule st n reserve lines)
more-same st n reserve gs lines others P same p =
    subst (λ (r : ℕ). P (gs ++ (granule_chosen st n reserve lines ∷ [])) r) (sym (after-same st n reserve lines others same))
    (subst (λ (g : List Unit). P (gs ++ (g ∷ [])) (after_granule st n reserve others)) (sym (granule-same st n reserve lines others same)) p)

pub progress-more : (st : Settings) (spectra : Spectra) (t : TrackView) (lines : ℕ → List ℤ) → length t.granules < 2 → AreSameSpectra st.channels lines (spectra (next_of t)) → IsProgress st spectra t
    → IsProgress st spectra (with_granule t lines)
progress-more st spectra t lines few same p =
    let begin = begin_before st spectra t.frame in
    let more = committed-more st spectra t.frame begin t.reserve t.granules few p.units in
    let own = more-same st t.frame t.reserve t.granules lines (spectra (next_of t)) (HasCommitted st spectra t.frame begin) same more in
    let P : Settings → Type 0 =
    λ s. HasCommitted st spectra t.frame begin (t.granules ++ (granule_chosen s t.frame t.reserve lines ∷ [])) (after_granule s t.frame t.reserve lines) in
    record {
      settings = p.settings;
      begin = p.begin;
      units = subst P (sym p.settings) own;
    }

-- ---- the end of a frame

two-committed : (st : Settings) (spectra : Spectra) (n begin reserve : ℕ) (gs : List (List Unit)) → length gs ≡ 2 → HasCommitted st spectra n begin gs reserve
    → (gs ≡ first_granule st spectra n begin ∷ second_granule st spectra n begin ∷ []) × (reserve ≡ reserve_at_end st spectra n begin)
two-committed st spectra n begin reserve [] two h = absurd (omega arith)
two-committed st spectra n begin reserve (g ∷ []) two h = absurd (omega arith)
two-committed st spectra n begin reserve (g ∷ (k ∷ [])) two h =
    (ap (λ (x : List Unit). x ∷ k ∷ []) h.0 ∙ ap (λ (x : List Unit). first_granule st spectra n begin ∷ x ∷ []) h.1, h.2)
two-committed st spectra n begin reserve (g ∷ (k ∷ (l ∷ gs))) two h = absurd (omega arith)

begin-next : (st : Settings) (spectra : Spectra) (n : ℕ) → begin_after (reserve_at_end st spectra n (begin_before st spectra n)) (mmax_of st) ≡ begin_before st spectra (n + 1)
unfolding begin_before
begin-next st spectra n =
    let next : suc n ≡ n + 1 = omega arith in
    ap (begin_before st spectra) next

pub progress-ended : (st : Settings) (spectra : Spectra) (t : TrackView) → length t.granules ≡ 2 → IsProgress st spectra t → IsProgress st spectra (with_frame_ended t)
progress-ended st spectra t two p =
    let begin = begin_before st spectra t.frame in
    let whole = two-committed st spectra t.frame begin t.reserve t.granules two p.units in
    let began : begin_after t.reserve (mmax_of t.settings) ≡ begin_before st spectra (t.frame + 1) =
    ap (λ (r : ℕ). begin_after r (mmax_of t.settings)) whole.1
    ∙ (ap (λ (s : Settings). begin_after (reserve_at_end st spectra t.frame begin) (mmax_of s)) p.settings ∙ begin-next st spectra t.frame) in
    record {
      settings = p.settings;
      begin = began;
      units = ap (λ b. 8 * b) began;
    }

frame-same : (a b : ℕ) (us vs : List (List Unit)) → a ≡ b → us ≡ vs → (let f : ChosenFrame = record { begin = a; units = us } in let g : ChosenFrame = record { begin = b; units = vs } in f ≡ g)
frame-same a b us vs e f = rw (e, f) refl

pub frame-is-chosen : (st : Settings) (spectra : Spectra) (t : TrackView) → length t.granules ≡ 2 → IsProgress st spectra t
    → (let f : ChosenFrame = record { begin = t.begin; units = t.granules } in f ≡ frame_chosen st spectra t.frame)
frame-is-chosen st spectra t two p =
    let begin = begin_before st spectra t.frame in
    let whole = two-committed st spectra t.frame begin t.reserve t.granules two p.units in
    frame-same t.begin begin t.granules (first_granule st spectra t.frame begin ∷ second_granule st spectra t.frame begin ∷ []) p.begin whole.0

pub progress-opened : (st : Settings) (spectra : Spectra) → IsProgress st spectra (first_track st)
unfolding begin_before
progress-opened st spectra = record { settings = refl; begin = refl; units = refl }

-- ---- how many gains are tried

tried_at-first : (st : Settings) (spectra : Spectra) (n : ℕ) → granule_tried st n (8 * begin_before st spectra n) (spectra (2 * n)) ≡ tried_at st spectra n 0
unfolding tried_at
tried_at-first st spectra n = refl

tried_at-second : (st : Settings) (spectra : Spectra) (n : ℕ) → granule_tried st n (reserve_between st spectra n (begin_before st spectra n)) (spectra (2 * n + 1)) ≡ tried_at st spectra n 1
unfolding tried_at
tried_at-second st spectra n = refl

tried-committed : (st : Settings) (spectra : Spectra) (n reserve : ℕ) (gs : List (List Unit)) → length gs < 2
    → HasCommitted st spectra n (begin_before st spectra n) gs reserve → granule_tried st n reserve (spectra (2 * n + length gs)) ≡ tried_at st spectra n (length gs)
tried-committed st spectra n reserve [] few before =
    let place : 2 * n + 0 ≡ 2 * n = omega arith in
    ap (λ r. granule_tried st n r (spectra (2 * n + 0))) before ∙ (ap (λ k. granule_tried st n (8 * begin_before st spectra n) (spectra k)) place ∙ tried_at-first st spectra n)
tried-committed st spectra n reserve (g ∷ []) few before = ap (λ r. granule_tried st n r (spectra (2 * n + 1))) before.1 ∙ tried_at-second st spectra n
tried-committed st spectra n reserve (g ∷ (h ∷ gs)) few before = absurd (omega arith)

pub tried-progress : (st : Settings) (spectra : Spectra) (t : TrackView) (lines : ℕ → List ℤ) → length t.granules < 2 → AreSameSpectra st.channels lines (spectra (next_of t)) → IsProgress st spectra t
    → granule_tried t.settings t.frame t.reserve lines ≡ tried_at st spectra t.frame (length t.granules)
tried-progress st spectra t lines few same p =
    ap (λ (s : Settings). granule_tried s t.frame t.reserve lines) p.settings
    ∙ (tried-same st t.frame t.reserve lines (spectra (next_of t)) same ∙ tried-committed st spectra t.frame t.reserve t.granules few p.units)
