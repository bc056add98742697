-- What calls of the track and of the board did are steps of runs.
use Rattle.std.proofs.Common.{◌≡◌, sym, subst, refl, ℕ, ◌+◌, ◌-◌, ◌<◌, length, arith, [], ◌∷◌}
use Rattle.std.specs.Prelude.{All}
use Rattle.std.proofs.lemmas.List.Elements.{All-cons, All-nil}
use Rattle.l3_base.specs.Lengths.{granules_for}
use Rattle.l3_board.specs.declared.event.Event.{Event}
use Rattle.l3_board.specs.declared.event.Answer.{Answer}
use Rattle.l3_board.specs.Machine.{BoardState, Step}
use Rattle.l3_board.specs.Items.{given}
use Rattle.l3_analysis.specs.Piece.{HasSpectra, IsSound, PieceView, spectrum_in}
use Rattle.l3_stream.specs.declared.unit.ChosenFrame.{ChosenFrame}
use Rattle.l3_commit.specs.declared.track.GranuleDone.{GranuleDone}
use Rattle.l3_commit.specs.Lacking.{IsLike, granule_lacking}
use Rattle.l3_commit.specs.Tracks.{TrackView, next_of, with_frame_ended, with_granule}
use Rattle.l3_commit.specs.Tried.{granule_tried}
use Rattle.l3_speculation.specs.Reused.{granule_reused}
use Rattle.l3_speculation.specs.Run.{IsRight, RunState, frame_of, number_in, with_committed}
use Rattle.l3_speculation.specs.Calls.{IsEvent, IsFrameEnd, IsGranule}
use Rattle.l3_speculation.proofs.Counts.{granule-both}

reused-is : (made tried lacks has tries : ℕ) → made ≡ lacks → tried ≡ tries → lacks + has ≡ tries → tried - made ≡ has
reused-is made tried lacks has tries a b c = omega (arith, a, b, c)

committed-is : (s : RunState) (old new : TrackView) (x : PieceView) (made reused : ℕ) → s.track ≡ old → new ≡ with_granule old (spectrum_in x)
    → made ≡ granule_lacking old.settings old.frame old.reserve x → reused ≡ granule_reused old.settings old.frame old.reserve x
    → (let t : RunState = record { board = s.board; track = new; frames = s.frames; made = s.made + made; reused = s.reused + reused } in t ≡ with_committed s x)
committed-is s old new x made reused e is lacks has = rw (is, lacks, has, e) refl

pub granule-step : (old new : TrackView) (x : PieceView) (done : GranuleDone) → x.number ≡ next_of old → length old.granules < 2 → HasSpectra x.stage → IsLike old.settings x.settings → IsSound x
    → new ≡ with_granule old (spectrum_in x) → done.made ≡ granule_lacking old.settings old.frame old.reserve x → done.tried ≡ granule_tried old.settings old.frame old.reserve (spectrum_in x)
    → IsGranule old new x done
granule-step old new x done number few made like sound is lacks tries left right s e below same =
    let both = granule-both old.settings old.frame old.reserve x like.sample_rate_is in
    let has : done.tried - done.made ≡ granule_reused old.settings old.frame old.reserve x = reused-is done.made done.tried _ _ _ lacks tries both in
    let own : IsRight old.settings left right (next_of old) x = record { number_is = number; settings_are = like; made = made; spectra_are = same; sound = sound } in (
      subst (λ (t : TrackView). IsRight old.settings left right (next_of t) x) (sym e) own,
      subst (λ (t : TrackView). next_of t < granules_for (length left)) (sym e) below,
      subst (λ (t : TrackView). length t.granules < 2) (sym e) few,
      committed-is s old new x done.made (done.tried - done.made) e is lacks has,
    )

pub frame-step : (old new : TrackView) (frame : ChosenFrame) → length old.granules ≡ 2 → frame ≡ frame_of old → new ≡ with_frame_ended old → IsFrameEnd old new frame
frame-step old new frame two lent is st left right s e =
    (subst (λ (t : TrackView). length t.granules ≡ 2) (sym e) two, rw (is, lent, e) refl)

-- one item that is sound
pub one-sound : (x : PieceView) → IsSound x → All IsSound (x ∷ [])
one-sound x is = All-cons IsSound x [] is (All-nil IsSound)

pub none-sound : All IsSound []
none-sound = All-nil IsSound

pub event-step : (old new : BoardState PieceView) (e called : Event PieceView) (a : Answer PieceView) → e ≡ called → All IsSound (given called) → Step number_in old called a new → IsEvent old new e a
event-step old new e called a named own step st left right s is =
    let whole : All IsSound (given called) × Step number_in s.board called a new = (own, subst (λ (b : BoardState PieceView). Step number_in b called a new) (sym is) step) in
    let both = subst (λ (f : Event PieceView). All IsSound (given f) × Step number_in s.board f a new) (sym named) whole in
    (both.0, both.1, refl)
