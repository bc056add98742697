-- A run can go on: there is a right piece for the next granule, and each one can be committed.
use Rattle.std.proofs.Common.{◌≡◌, ◌∙◌, sym, ap, subst, refl, ℕ, zero, suc, ◌+◌, ◌*◌, ◌<◌, ◌≤◌, List, [], ◌∷◌, ◌++◌, length, arith, length-append, None, lit<}
use Rattle.std.specs.Prelude.{ℤ, slice_index_or}
use Rattle.l3_base.specs.declared.settings.Settings.{Settings}
use Rattle.l3_base.specs.declared.rate.Channels.{Channels}
use Rattle.l3_base.specs.declared.rate.Channels.TheVariants.{Mono, Stereo}
use Rattle.l3_base.specs.Lengths.{granules_for}
use Rattle.l3_base.specs.Filterbank.{window_of}
use Rattle.l3_count.specs.Memo.{IsMemoOf, LaneView, empty_memo, kept_at, lane_of}
use Rattle.l3_count.proofs.Memos.{amp-new, memo_at-empty}
use Rattle.l3_analysis.specs.declared.stage.Stage.TheVariants.{Transformed}
use Rattle.l3_analysis.specs.Piece.{IsSound, PieceView, edges_in, memo_in, no_memos, spectrum_in}
use Rattle.l3_commit.specs.Encoding.{spectra_of}
use Rattle.l3_commit.specs.Standing.{AreSameSpectra}
use Rattle.l3_commit.specs.Choice.{granule_chosen}
use Rattle.l3_commit.specs.Tracks.{TrackView, next_of, with_frame_ended, with_granule}
use Rattle.l3_speculation.specs.Run.{FrameEnd, IsRight, RunState, with_committed, with_frame}
use Rattle.l3_speculation.specs.Laws.{CanCommit, RunsGoOn}
use Rattle.l3_speculation.proofs.Running.{stands}

-- ---- a piece that is right for a granule: transformed, with no counts

abbrev piece_of : Settings → (left right : List ℤ) → (number : ℕ) → PieceView
piece_of st left right number = record {
  settings = st;
  number = number;
  stage = Transformed;
  guess = 0;
  window = record { left = window_of left number; right = window_of right number };
  memos = no_memos;
}

no_memos-at : (channel : ℕ) → slice_index_or no_memos channel empty_memo ≡ empty_memo
no_memos-at zero = refl
no_memos-at (suc zero) = refl
no_memos-at (suc (suc k)) = refl

pub memo-none : (v : PieceView) (channel : ℕ) → v.memos ≡ no_memos → memo_in v channel ≡ empty_memo
memo-none v channel e = ap (λ (ms : List (List LaneView)). slice_index_or ms channel empty_memo) e ∙ no_memos-at channel

empty-of : (edges : List ℕ) (lines : List ℤ) (memo : List LaneView) → memo ≡ empty_memo → IsMemoOf edges lines memo
empty-of edges lines memo e lane gain c there =
    let none : kept_at (lane_of memo lane).counts gain ≡ None = ap (λ (m : List LaneView). kept_at (lane_of m lane).counts gain) e ∙ memo_at-empty lane gain in
    absurd cc

pub sound-empty : (v : PieceView) → v.memos ≡ no_memos → IsSound v
sound-empty v e = record {
  two = ap length e;
  plain = λ channel. amp-new (memo_in v channel) 0 (memo-none v channel e);
  counts = λ has channel lt. empty-of (edges_in v) (spectrum_in v channel) (memo_in v channel) (memo-none v channel e);
  before = λ none. e;
  absent = λ channel le. memo-none v channel e;
}

same-spectra : (ch : Channels) (st : Settings) (left right : List ℤ) (number : ℕ) → AreSameSpectra ch (spectrum_in (piece_of st left right number)) (spectra_of left right number)
same-spectra Mono st left right number = refl
same-spectra Stereo st left right number = (refl, refl)

pub right-piece : (st : Settings) (left right : List ℤ) (number : ℕ) → IsRight st left right number (piece_of st left right number)
right-piece st left right number = record {
  number_is = refl;
  settings_are = record { sample_rate_is = refl; channels_is = refl };
  made = tt;
  spectra_are = same-spectra st.channels st left right number;
  sound = sound-empty (piece_of st left right number) refl;
}

-- ---- each one can be committed

next-more : (t : TrackView) (lines : ℕ → List ℤ) → next_of (with_granule t lines) ≡ next_of t + 1
next-more t lines =
    let g = granule_chosen t.settings t.frame t.reserve lines in
    let long : length (t.granules ++ (g ∷ [])) ≡ length t.granules + 1 = length-append t.granules (g ∷ []) in
    more t.frame (length t.granules) _ long
  where
    more : (frame few many : ℕ) → many ≡ few + 1 → 2 * frame + many ≡ 2 * frame + few + 1
    more frame few many e = omega (arith, e)

next-ended : (t : TrackView) → length t.granules ≡ 2 → next_of (with_frame_ended t) ≡ next_of t
next-ended t two = same t.frame (length t.granules) two
  where
    same : (frame few : ℕ) → few ≡ 2 → 2 * (frame + 1) + 0 ≡ 2 * frame + few
    same frame few e = omega (arith, e)

commit-now : (st : Settings) (left right : List ℤ) (s : RunState) (x : PieceView) → length s.track.granules < 2 → next_of s.track < granules_for (length left) → IsRight st left right (next_of s.track) x
    → CanCommit st left right s x
commit-now st left right s x few below is = record {
  ends = [];
  later = with_committed s x;
  runs = (with_committed s x, (is, below, few, refl), refl);
  next = next-more s.track (spectrum_in x);
}

commit-ended : (st : Settings) (left right : List ℤ) (s : RunState) (x : PieceView) → length s.track.granules ≡ 2 → next_of s.track < granules_for (length left) → IsRight st left right (next_of s.track) x
    → CanCommit st left right s x
commit-ended st left right s x two below is =
    let mid = with_frame s in
    let same : next_of mid.track ≡ next_of s.track = next-ended s.track two in
    let here : IsRight st left right (next_of mid.track) x = subst (λ (n : ℕ). IsRight st left right n x) (sym same) is in
    let there : next_of mid.track < granules_for (length left) = subst (λ (n : ℕ). n < granules_for (length left)) (sym same) below in
    record {
      ends = FrameEnd ∷ [];
      later = with_committed mid x;
      runs = (mid, (two, refl), (with_committed mid x, (here, there, lit< tt, refl), refl));
      next = next-more mid.track (spectrum_in x) ∙ ap (λ n. n + 1) same;
    }

can-commit : (st : Settings) (left right : List ℤ) (s : RunState) (x : PieceView) (few : ℕ) → length s.track.granules ≡ few → few ≤ 2 → next_of s.track < granules_for (length left) → IsRight st left right (next_of s.track) x
    → CanCommit st left right s x
can-commit st left right s x zero e le below is = commit-now st left right s x (omega (arith, e)) below is
can-commit st left right s x (suc zero) e le below is = commit-now st left right s x (omega (arith, e)) below is
can-commit st left right s x (suc (suc zero)) e le below is = commit-ended st left right s x e below is
can-commit st left right s x (suc (suc (suc few))) e le below is = absurd (omega (arith, le))

pub runs_go_on : RunsGoOn
runs_go_on st left right t r below =
    let is = stands st left right t r in
    record {
      piece = piece_of st left right (next_of t.track);
      right_piece = right-piece st left right (next_of t.track);
      each = λ x right_x. can-commit st left right t x (length t.track.granules) refl is.few below right_x;
    }
