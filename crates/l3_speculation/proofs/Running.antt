-- A run goes through the choice, whatever the board does and whatever pieces bring along.
use Rattle.std.proofs.Common.{◌≡◌, ◌∙◌, sym, ap, subst, refl, ℕ, zero, suc, ◌+◌, ◌-◌, ◌*◌, ◌<◌, ◌≤◌, List, [], ◌∷◌, ◌++◌, length, arith, add-one, length-append, lit≤}
use Rattle.std.specs.Prelude.{ℤ}
use Rattle.l3_base.specs.declared.settings.Settings.{Settings}
use Rattle.l3_base.specs.Lengths.{frames_for, granules_for}
use Rattle.l3_board.specs.Machine.{BoardState}
use Rattle.l3_analysis.specs.Piece.{PieceView, spectrum_in}
use Rattle.l3_stream.specs.declared.unit.Unit.{Unit}
use Rattle.l3_stream.specs.declared.unit.ChosenFrame.{ChosenFrame}
use Rattle.l3_commit.specs.Choice.{Spectra, begin_before, frame_chosen, frames_before, frames_chosen_from, granule_chosen}
use Rattle.l3_commit.specs.Encoding.{frames_chosen, gains_tried, spectra_of}
use Rattle.l3_commit.specs.Lacking.{granule_lacking}
use Rattle.l3_commit.specs.Standing.{HasCommitted, IsProgress}
use Rattle.l3_commit.specs.Tracks.{TrackView, next_of, with_frame_ended, with_granule}
use Rattle.l3_commit.specs.Tried.{tried_at, tried_before}
use Rattle.l3_commit.proofs.Progress.{frame-is-chosen, progress-ended, progress-more, progress-opened, tried-progress}
use Rattle.l3_commit.proofs.Rests.{frames-split}
use Rattle.l3_speculation.specs.Reused.{granule_reused, tried_so_far}
use Rattle.l3_speculation.specs.Run.{Action, Acts, BoardCall, FrameEnd, GranuleCommit, IsReached, IsRight, RunState, Runs, frame_of, opening}
use Rattle.l3_speculation.specs.Laws.{FramesAreAFront, RunsAreAlike, RunsAreCounted, RunsAreWhole, TrackIsProgress}
use Rattle.l3_speculation.proofs.Counts.{granule-both, tried-next, tried-whole}

-- what holds of each state of a run
pub record SoFar (st : Settings) (left right : List ℤ) (t : TrackView) (frames : List ChosenFrame) (counts : ℕ) : Type 0 where
  pub progress : IsProgress st (spectra_of left right) t
  pub few : length t.granules ≤ 2
  pub within : next_of t ≤ granules_for (length left)
  pub frames_are : frames ≡ frames_before st (spectra_of left right) t.frame
  pub tried : counts ≡ tried_so_far st (spectra_of left right) t.frame (length t.granules)

abbrev pub Stands : Settings → (left right : List ℤ) → RunState → Type 0
Stands st left right s = SoFar st left right s.track s.frames (s.made + s.reused)

-- ---- the next granule

-- what it tries, from whatever piece that is right for it
pub tried-right : (st : Settings) (left right : List ℤ) (t : TrackView) (x : PieceView) → length t.granules < 2 → IsProgress st (spectra_of left right) t → IsRight st left right (next_of t) x
    → granule_lacking t.settings t.frame t.reserve x + granule_reused t.settings t.frame t.reserve x ≡ tried_at st (spectra_of left right) t.frame (length t.granules)
tried-right st left right t x few p is =
    let rate : x.settings.sample_rate ≡ t.settings.sample_rate = is.settings_are.sample_rate_is ∙ ap (λ (s : Settings). s.sample_rate) (sym p.settings) in
    granule-both t.settings t.frame t.reserve x rate ∙ tried-progress st (spectra_of left right) t (spectrum_in x) few is.spectra_are p

more-within : (frame few total : ℕ) (more : ℕ) → 2 * frame + few < total → more ≡ few + 1 → 2 * frame + more ≤ total
more-within frame few total more below e = omega (arith, e)

so_far-granule : (st : Settings) (left right : List ℤ) (t : TrackView) (frames : List ChosenFrame) (x : PieceView) (made reused : ℕ) → SoFar st left right t frames (made + reused) → IsRight st left right (next_of t) x
    → next_of t < granules_for (length left) → length t.granules < 2
    → SoFar st left right (with_granule t (spectrum_in x)) frames ((made + granule_lacking t.settings t.frame t.reserve x) + (reused + granule_reused t.settings t.frame t.reserve x))
so_far-granule st left right t frames x made reused s is below few =
    let sp = spectra_of left right in
    let g = granule_chosen t.settings t.frame t.reserve (spectrum_in x) in
    let long : length (t.granules ++ (g ∷ [])) ≡ length t.granules + 1 = length-append t.granules (g ∷ []) in
    let own = tried-right st left right t x few s.progress is in
    let before = s.tried in
    let next = tried-next st sp t.frame (length t.granules) few in
    let at : tried_so_far st sp t.frame (length (t.granules ++ (g ∷ []))) ≡ tried_so_far st sp t.frame (length t.granules + 1) = ap (tried_so_far st sp t.frame) long in
    let lacks = granule_lacking t.settings t.frame t.reserve x in
    let has = granule_reused t.settings t.frame t.reserve x in
    record {
      progress = progress-more st sp t (spectrum_in x) few is.spectra_are s.progress;
      few = omega (arith, long, few);
      within = more-within t.frame (length t.granules) (granules_for (length left)) (length (t.granules ++ (g ∷ []))) below long;
      frames_are = s.frames_are;
      tried = sums made reused lacks has _ _ _ _ before own next at;
    }
  where
    sums : (made reused lacks has so_far tries more whole : ℕ) → made + reused ≡ so_far → lacks + has ≡ tries → more ≡ so_far + tries → whole ≡ more → (made + lacks) + (reused + has) ≡ whole
    sums made reused lacks has so_far tries more whole a b c d = omega (arith, a, b, c, d)

-- ---- the end of a frame

frames-next : (st : Settings) (spectra : Spectra) (n : ℕ) → frames_before st spectra n ++ (frame_chosen st spectra n ∷ []) ≡ frames_before st spectra (n + 1)
unfolding frames_before
frames-next st spectra n = ap (frames_before st spectra) (sym (add-one n))

end-within : (frame few total : ℕ) → 2 * frame + few ≤ total → few ≡ 2 → 2 * (frame + 1) + 0 ≤ total
end-within frame few total le e = omega (arith, e)

so_far-frame : (st : Settings) (left right : List ℤ) (t : TrackView) (frames : List ChosenFrame) (counts : ℕ) → SoFar st left right t frames counts → length t.granules ≡ 2
    → SoFar st left right (with_frame_ended t) (frames ++ (frame_of t ∷ [])) counts
so_far-frame st left right t frames counts s two =
    let sp = spectra_of left right in
    let chosen = frame-is-chosen st sp t two s.progress in
    record {
      progress = progress-ended st sp t two s.progress;
      few = lit≤ tt;
      within = end-within t.frame (length t.granules) (granules_for (length left)) s.within two;
      frames_are =
          ap (λ (fs : List ChosenFrame). fs ++ (frame_of t ∷ [])) s.frames_are
          ∙ (ap (λ (f : ChosenFrame). frames_before st sp t.frame ++ (f ∷ [])) chosen ∙ frames-next st sp t.frame);
      tried = s.tried ∙ (tried-whole st sp t.frame (length t.granules) two ∙ ap (tried_before st sp) (sym (add-one t.frame)));
    }

-- ---- all actions

stands-act : (st : Settings) (left right : List ℤ) (s t : RunState) (a : Action) → Stands st left right s → Acts st left right s a t → Stands st left right t
stands-act st left right s t (BoardCall e a) is act = subst (Stands st left right) (sym act.2) is
stands-act st left right s t (GranuleCommit x) is act =
    subst (Stands st left right) (sym act.3) (so_far-granule st left right s.track s.frames x s.made s.reused is act.0 act.1 act.2)
stands-act st left right s t FrameEnd is act = subst (Stands st left right) (sym act.1) (so_far-frame st left right s.track s.frames (s.made + s.reused) is act.0)

stands-run : (st : Settings) (left right : List ℤ) (actions : List Action) (s t : RunState) → Stands st left right s → Runs st left right s actions t → Stands st left right t
stands-run st left right [] s t is runs = subst (Stands st left right) (sym runs) is
stands-run st left right (a ∷ actions) s t is runs = stands-run st left right actions runs.0 t (stands-act st left right s runs.0 a is runs.1) runs.2

stands-opening : (st : Settings) (left right : List ℤ) (board : BoardState PieceView) → Stands st left right (opening st board)
unfolding frames_before tried_before
stands-opening st left right board = record {
  progress = progress-opened st (spectra_of left right);
  few = lit≤ tt;
  within = none-yet (granules_for (length left));
  frames_are = refl;
  tried = refl;
}
  where
    none-yet : (total : ℕ) → 2 * 0 + 0 ≤ total
    none-yet total = omega arith

pub stands : (st : Settings) (left right : List ℤ) (t : RunState) → IsReached st left right t → Stands st left right t
stands st left right t r = stands-run st left right r.actions (opening st r.board) t (stands-opening st left right r.board) r.runs

-- ---- the laws

pub track_is_progress : TrackIsProgress
track_is_progress st left right t r = (stands st left right t r).progress

frames-left : (frame few total : ℕ) → 2 * frame + few ≤ 2 * total → frame + (total - frame) ≡ total
frames-left frame few total le = omega arith

pub frames_are_a_front : FramesAreAFront
unfolding frames_chosen
frames_are_a_front st left right t r =
    let is = stands st left right t r in
    let sp = spectra_of left right in
    let total = frames_for (length left) in
    let n = t.track.frame in
    let left_are = frames-left n (length t.track.granules) total is.within in
    record {
      frames_are = is.frames_are;
      rest = frames_chosen_from st sp n (total - n);
      whole = ap (λ (fs : List ChosenFrame). fs ++ frames_chosen_from st sp n (total - n)) is.frames_are ∙ frames-split st sp n (total - n) total left_are;
    }

pub runs_are_counted : RunsAreCounted
runs_are_counted st left right t r =
    let is = stands st left right t r in
    record {
      so_far = is.tried;
      fewer = part t.made t.reused _ is.tried;
      next = λ x right_x few. tried-right st left right t.track x few is.progress right_x;
    }
  where
    part : (made reused all : ℕ) → made + reused ≡ all → made ≤ all
    part made reused all e = omega (arith, e)

whole-tried : (st : Settings) (spectra : Spectra) (frame few total : ℕ) → few ≤ 2 → 2 * frame + few ≡ 2 * total → tried_so_far st spectra frame few ≡ tried_before st spectra total
whole-tried st spectra frame zero total le e =
    let same : frame ≡ total = omega (arith, e) in
    ap (tried_before st spectra) same
whole-tried st spectra frame (suc zero) total le e = absurd (omega (arith, e))
whole-tried st spectra frame (suc (suc zero)) total le e =
    let same : suc frame ≡ total = omega (arith, e) in
    tried-whole st spectra frame 2 refl ∙ ap (tried_before st spectra) same
whole-tried st spectra frame (suc (suc (suc few))) total le e = absurd (omega (arith, le))

whole-frame : (frame few total : ℕ) → few ≡ 0 → 2 * frame + few ≡ 2 * total → frame ≡ total
whole-frame frame few total none e = omega (arith, none, e)

pub runs_are_whole : RunsAreWhole
unfolding frames_chosen gains_tried
runs_are_whole st left right t r all =
    let is = stands st left right t r in
    let sp = spectra_of left right in
    let total = frames_for (length left) in
    record {
      tried = is.tried ∙ whole-tried st sp t.track.frame (length t.track.granules) total is.few all;
      frames = λ none. is.frames_are ∙ ap (frames_before st sp) (whole-frame t.track.frame (length t.track.granules) total (ap length none) all);
    }

-- ---- runs that are equally far

committed-same : (st : Settings) (spectra : Spectra) (n begin r s : ℕ) (gs hs : List (List Unit)) → length gs ≡ length hs → HasCommitted st spectra n begin gs r → HasCommitted st spectra n begin hs s
    → (gs ≡ hs) × (r ≡ s)
committed-same st spectra n begin r s [] [] e f g = (refl, f ∙ sym g)
committed-same st spectra n begin r s (a ∷ []) (b ∷ []) e f g = (ap (λ (x : List Unit). x ∷ []) (f.0 ∙ sym g.0), f.1 ∙ sym g.1)
committed-same st spectra n begin r s (a ∷ (b ∷ [])) (c ∷ (d ∷ [])) e f g =
    (ap (λ (x : List Unit). x ∷ b ∷ []) (f.0 ∙ sym g.0) ∙ ap (λ (x : List Unit). c ∷ x ∷ []) (f.1 ∙ sym g.1), f.2 ∙ sym g.2)
committed-same st spectra n begin r s (a ∷ (b ∷ (c ∷ gs))) hs e f g = absurd f
committed-same st spectra n begin r s gs (a ∷ (b ∷ (c ∷ hs))) e f g = absurd g
committed-same st spectra n begin r s [] (a ∷ []) e f g = absurd (omega (arith, e))
committed-same st spectra n begin r s [] (a ∷ (b ∷ [])) e f g = absurd (omega (arith, e))
committed-same st spectra n begin r s (a ∷ []) [] e f g = absurd (omega (arith, e))
committed-same st spectra n begin r s (a ∷ []) (b ∷ (c ∷ [])) e f g = absurd (omega (arith, e))
committed-same st spectra n begin r s (a ∷ (b ∷ [])) [] e f g = absurd (omega (arith, e))
committed-same st spectra n begin r s (a ∷ (b ∷ [])) (c ∷ []) e f g = absurd (omega (arith, e))

views-same : (st su : Settings) (m n a b r q : ℕ) (gs hs : List (List Unit)) → st ≡ su → m ≡ n → a ≡ b → r ≡ q → gs ≡ hs
    → (let t : TrackView = record { settings = st; frame = m; begin = a; reserve = r; granules = gs } in let u : TrackView = record { settings = su; frame = n; begin = b; reserve = q; granules = hs } in t ≡ u)
views-same st su m n a b r q gs hs c d e f g = rw (c, d, e, f, g) refl

tracks-same : (s t : TrackView) → s.settings ≡ t.settings → s.frame ≡ t.frame → s.begin ≡ t.begin → s.reserve ≡ t.reserve → s.granules ≡ t.granules → s ≡ t
tracks-same s t = views-same s.settings t.settings s.frame t.frame s.begin t.begin s.reserve t.reserve s.granules t.granules

pub runs_are_alike : RunsAreAlike
runs_are_alike st left right s t r q frame granules =
    let sp = spectra_of left right in
    let one = stands st left right s r in
    let two = stands st left right t q in
    let n = s.track.frame in
    let P : ℕ → Type 0 = λ k. HasCommitted st sp k (begin_before st sp k) t.track.granules t.track.reserve in
    let units = subst P (sym frame) two.progress.units in
    let both = committed-same st sp n (begin_before st sp n) s.track.reserve t.track.reserve s.track.granules t.track.granules granules one.progress.units units in
    record {
      track = tracks-same s.track t.track (one.progress.settings ∙ sym two.progress.settings) frame (one.progress.begin ∙ (ap (begin_before st sp) frame ∙ sym two.progress.begin)) both.1 both.0;
      frames = one.frames_are ∙ (ap (frames_before st sp) frame ∙ sym two.frames_are);
      counts = one.tried ∙ (ap (λ k. tried_so_far st sp k (length s.track.granules)) frame ∙ (ap (tried_so_far st sp t.track.frame) granules ∙ sym two.tried));
    }
