-- The loop over granules: what was pushed and told so far, and what is left to say at its ends.
use Rattle.std.proofs.Common.{◌≡◌, ◌∙◌, sym, ap, subst, refl, ℕ, zero, suc, ◌+◌, ◌-◌, ◌*◌, ◌%◌, ◌<◌, ◌≤◌, ◌⊎◌, inl, inr, true, false, List, [], ◌++◌, ℤ, length, arith}
use Rattle.std.specs.Prelude.{Result, Option, Some, None, IfSome, IsSomeAnd, drop, nat_eq}
use Rattle.std.proofs.lemmas.List.{append-nil}
use Rattle.std.proofs.lemmas.Bool.Decides.{nat_tests}
use Rattle.l3_base.specs.declared.settings.Settings.{Settings}
use Rattle.l3_base.specs.Lengths.{frames_for, granules_for}
use Rattle.l3_io.specs.Taken.{TakesPrefix, Writes}
use Rattle.l3_io.proofs.TakenLemmas.{Writes-then}
use Rattle.l3_wav.proofs.PcmLemmas.{gone_further}
use Rattle.l3_wav.specs.Holding.{WindowsView, Holds, GoesOn}
use Rattle.l3_wav.specs.ReadingOn.{AreGone}
use Rattle.l3_stream.specs.declared.unit.ChosenFrame.{ChosenFrame}
use Rattle.l3_stream.specs.Tape.{FramesFit, stream_of}
use Rattle.l3_frames.specs.Writing.{Writing, owed}
use Rattle.l3_commit.specs.Choice.{Spectra, frames_before, frames_chosen_from}
use Rattle.l3_commit.specs.Encoding.{spectra_of, frames_chosen, encoding_of, gains_tried}
use Rattle.l3_commit.specs.Laws.{AreSamples}
use Rattle.l3_commit.specs.Tried.{tried_at}
use Rattle.l3_commit.specs.Tracks.{TrackView, first_track, next_of}
use Rattle.l3_commit.specs.Standing.{CommitterView, StandsFor, StillStands, StandsOn}
use Rattle.l3_commit.proofs.Rests.{frames-split}
use Rattle.l3_commit.proofs.Encodings.{chosen-fit}
use Rattle.l3_encoder.specs.Turning.{IsBehind, FitAfter, Pushes, Halts, AreChosen, Turns, Breaks}
use Rattle.l3_commit.specs.declared.report.Report.{Report}
use Rattle.l3_encoder.specs.Answers.{IsReport}
use Rattle.l3_encoder.proofs.Pushed.{pushes-none, pushes-then, halts-here, halts-then, fresh, behind-first}
use Rattle.l3_encoder.proofs.Counts.{tried_so_far, tried-none, tried-more, tried-within, tried-next-within, tried-all}

-- of a committer that stood for samples with these bytes before them: it stands for them still, the
-- frames are those chosen before the track's, and so many gains were tried
pub record IsTold (c d : CommitterView) (bytes now : List ℕ) (fs : List ChosenFrame) (tried : ℕ) : Type 0 where
  pub after : drop d.windows.samples.remaining now ≡ drop c.windows.samples.remaining bytes
  pub stands : StillStands c d bytes now
  pub chosen : (st : Settings) (left right : List ℤ) → StandsFor c bytes st left right → fs ≡ frames_before st (spectra_of left right) d.track.frame
  pub gains : (st : Settings) (left right : List ℤ) → StandsFor c bytes st left right → tried ≡ tried_so_far st (spectra_of left right) d.track.frame (length d.track.granules)

abbrev pub Told : (c d : CommitterView) → (left_old left_new : Option (List ℕ)) → List ChosenFrame → (tried : ℕ) → Type 0
Told c d left_old left_new fs tried = IfSome left_old (λ bytes. IsSomeAnd left_new (λ now. IsTold c d bytes now fs tried))

-- what the turns have done since the first
pub record Ran (c d : CommitterView) (w v : Writing) (old new : List ℕ → Type 0) (left_old left_new : Option (List ℕ)) (fs : List ChosenFrame) (tried : ℕ) : Type 0 where
  pub pushes : Pushes c.track d.track w v old new fs
  pub told : Told c d left_old left_new fs tried

-- ---- before the first

first-frames : (st : Settings) (spectra : Spectra) (n : ℕ) → n ≡ 0 → [] ≡ frames_before st spectra n
unfolding frames_before
first-frames st spectra n first = ap (frames_before st spectra) (sym first)

told-first : (c : CommitterView) (left : Option (List ℕ)) → c.track.frame ≡ 0 → length c.track.granules ≡ 0 → Told c c left left [] 0
told-first c None first none = tt
told-first c (Some bytes) first none = record {
  after = refl;
  stands = λ st left right s. s;
  chosen = λ st left right s. first-frames st (spectra_of left right) c.track.frame first;
  gains = λ st left right s. tried-none st (spectra_of left right) c.track.frame (length c.track.granules) first none;
}

pub ran-first : (c : CommitterView) (st : Settings) (w : Writing) (now : List ℕ → Type 0) (left : Option (List ℕ)) → c.track ≡ first_track st → w ≡ fresh st → Ran c c (fresh st) w now now left left [] 0
ran-first c st w now left start is = record {
  pushes = subst (λ (x : Writing). Pushes c.track c.track (fresh st) x now now []) (sym is) (pushes-none c.track c.track (fresh st) now refl refl refl);
  told = told-first c left (ap (λ (t : TrackView). t.frame) start) (ap (λ (t : TrackView). length t.granules) start);
}

-- ---- one turn

told-read : (c d m : CommitterView) (left_old left_mid left_new : Option (List ℕ)) (fs : List ChosenFrame) (tried : ℕ) → m.track ≡ d.track
    → Told c d left_old left_mid fs tried → StandsOn d m left_mid left_new → GoesOn d.windows m.windows left_mid left_new → Told c m left_old left_new fs tried
told-read c d m None left_mid left_new fs tried same told on goes = tt
told-read c d m (Some bytes) None left_new fs tried same told on goes = absurd told
told-read c d m (Some bytes) (Some mid) None fs tried same told on goes = on
told-read c d m (Some bytes) (Some mid) (Some now) fs tried same told on goes = record {
  after = goes.after ∙ told.after;
  stands = λ st left right s. on st left right (told.stands st left right s);
  chosen = λ st left right s. told.chosen st left right s ∙ ap (λ (u : TrackView). frames_before st (spectra_of left right) u.frame) (sym same);
  gains = λ st left right s. told.gains st left right s ∙ ap (λ (u : TrackView). tried_so_far st (spectra_of left right) u.frame (length u.granules)) (sym same);
}

-- samples were read
pub ran-read : (c d m : CommitterView) (w v : Writing) (old new : List ℕ → Type 0) (left_old left_mid left_new : Option (List ℕ)) (fs : List ChosenFrame) (tried : ℕ) → m.track ≡ d.track
    → Ran c d w v old new left_old left_mid fs tried → StandsOn d m left_mid left_new → GoesOn d.windows m.windows left_mid left_new → Ran c m w v old new left_old left_new fs tried
ran-read c d m w v old new left_old left_mid left_new fs tried same ran on goes = record {
  pushes = subst (λ (u : TrackView). Pushes c.track u w v old new fs) (sym same) ran.pushes;
  told = told-read c d m left_old left_mid left_new fs tried same ran.told on goes;
}

told-gathered : (c d m : CommitterView) (left_old left_new : Option (List ℕ)) (fs : List ChosenFrame) (tried : ℕ) → m.track ≡ d.track → m.windows ≡ d.windows
    → Told c d left_old left_new fs tried → ((bytes : List ℕ) → StillStands d m bytes bytes) → Told c m left_old left_new fs tried
told-gathered c d m None left_new fs tried same windows told on = tt
told-gathered c d m (Some bytes) None fs tried same windows told on = told
told-gathered c d m (Some bytes) (Some now) fs tried same windows told on = record {
  after = ap (λ (w : WindowsView). drop w.samples.remaining now) windows ∙ told.after;
  stands = λ st left right s. on now st left right (told.stands st left right s);
  chosen = λ st left right s. told.chosen st left right s ∙ ap (λ (u : TrackView). frames_before st (spectra_of left right) u.frame) (sym same);
  gains = λ st left right s. told.gains st left right s ∙ ap (λ (u : TrackView). tried_so_far st (spectra_of left right) u.frame (length u.granules)) (sym same);
}

-- the granule was made ready
pub ran-gathered : (c d m : CommitterView) (w v : Writing) (old new : List ℕ → Type 0) (left_old left_new : Option (List ℕ)) (fs : List ChosenFrame) (tried : ℕ) → m.track ≡ d.track → m.windows ≡ d.windows
    → Ran c d w v old new left_old left_new fs tried → ((bytes : List ℕ) → StillStands d m bytes bytes) → Ran c m w v old new left_old left_new fs tried
ran-gathered c d m w v old new left_old left_new fs tried same windows ran on = record {
  pushes = subst (λ (u : TrackView). Pushes c.track u w v old new fs) (sym same) ran.pushes;
  told = told-gathered c d m left_old left_new fs tried same windows ran.told on;
}

-- what a turn says of the gains that it tried
abbrev pub TriedBy : CommitterView → ℕ → Type 0
TriedBy d count = (bytes : List ℕ) (st : Settings) (left right : List ℤ) → StandsFor d bytes st left right → count ≡ tried_at st (spectra_of left right) d.track.frame (length d.track.granules)

-- what it says of frames
abbrev pub TurnsOn : (d e : CommitterView) → List ChosenFrame → Type 0
TurnsOn d e more = (bytes : List ℕ) (st : Settings) (left right : List ℤ) → StandsFor d bytes st left right →
    StandsFor e bytes st left right × AreChosen st left right d.track.frame e.track.frame more

told-turned : (c d e : CommitterView) (left_old left_new : Option (List ℕ)) (fs more : List ChosenFrame) (tried count : ℕ) → e.windows ≡ d.windows
    → length d.track.granules < 2 → length e.track.granules < 2 → next_of e.track ≡ next_of d.track + 1 → TriedBy d count → TurnsOn d e more
    → Told c d left_old left_new fs tried → Told c e left_old left_new (fs ++ more) (tried + count)
told-turned c d e None left_new fs more tried count windows few low next by turn told = tt
told-turned c d e (Some bytes) None fs more tried count windows few low next by turn told = told
told-turned c d e (Some bytes) (Some now) fs more tried count windows few low next by turn told = record {
  after = ap (λ (w : WindowsView). drop w.samples.remaining now) windows ∙ told.after;
  stands = λ st left right s. (turn now st left right (told.stands st left right s)).0;
  chosen = λ st left right s. ap (λ (l : List ChosenFrame). l ++ more) (told.chosen st left right s) ∙ (turn now st left right (told.stands st left right s)).1;
  gains = λ st left right s.
      let sp = spectra_of left right in
      let here = tried-more st sp d.track.frame (length d.track.granules) e.track.frame (length e.track.granules) few low next in
      let was = told.gains st left right s in
      let more_is = by now st left right (told.stands st left right s) in
      ap (λ (k : ℕ). k + count) was ∙ (ap (λ (k : ℕ). tried_so_far st sp d.track.frame (length d.track.granules) + k) more_is ∙ here);
}

-- the turn was done
pub ran-turned : (c d e : CommitterView) (w v z : Writing) (old mid new : List ℕ → Type 0) (left_old left_new : Option (List ℕ)) (fs : List ChosenFrame) (tried count : ℕ) → e.windows ≡ d.windows
    → length d.track.granules < 2 → length e.track.granules < 2 → next_of e.track ≡ next_of d.track + 1 → TriedBy d count
    → Ran c d w v old mid left_old left_new fs tried → (turn : Turns d e v z mid new) → Ran c e w z old new left_old left_new (fs ++ turn.0) (tried + count)
ran-turned c d e w v z old mid new left_old left_new fs tried count windows few low next by ran turn = record {
  pushes = pushes-then c.track d.track e.track w v z old mid new fs turn.0 ran.pushes turn.1;
  told = told-turned c d e left_old left_new fs turn.0 tried count windows few low next by turn.2 ran.told;
}

-- ---- what the writer was at first

pub owes-fresh : (st : Settings) (w : Writing) → w ≡ fresh st → ((fs : List ChosenFrame) → owed w fs ≡ stream_of st fs) → (fs : List ChosenFrame) → owed (fresh st) fs ≡ stream_of st fs
owes-fresh st w is owes = subst (λ (x : Writing). (fs : List ChosenFrame) → owed x fs ≡ stream_of st fs) is owes

abbrev pub Owes : Settings → Type 0
Owes st = (fs : List ChosenFrame) → owed (fresh st) fs ≡ stream_of st fs

-- ---- a fault

settings-first : (t : TrackView) (st : Settings) → t ≡ first_track st → t.settings ≡ st
settings-first t st start = ap (λ (u : TrackView). u.settings) start

-- frames that fit from the first on, in the words of a turn
fit-first : (t : TrackView) (st : Settings) (fs : List ChosenFrame) → t ≡ first_track st → FramesFit st 0 0 fs → FitAfter t [] fs
fit-first t st fs start fit = subst (λ (s : Settings). FramesFit s 0 0 fs) (sym (settings-first t st start)) fit

-- the sink took a front of the frames pushed and of whatever fits behind them
front-of : (t : TrackView) (st : Settings) (old new : List ℕ → Type 0) (fs gs : List ChosenFrame) → t ≡ first_track st → Owes st → Halts t (fresh st) old new fs → FramesFit st 0 0 (fs ++ gs)
    → TakesPrefix old new (stream_of st (fs ++ gs))
front-of t st old new fs gs start owes h fit =
    let front = h.gives.2 [] gs (behind-first t st (fresh st) start refl) (fit-first t st (fs ++ gs) start fit) in
    (h.gives.0, front.0, front.1 ∙ owes (fs ++ gs), h.gives.1)

fit-halted : (t : TrackView) (st : Settings) (old new : List ℕ → Type 0) (fs : List ChosenFrame) → t ≡ first_track st → Halts t (fresh st) old new fs → FramesFit st 0 0 fs
fit-halted t st old new fs start h = subst (λ (s : Settings). FramesFit s 0 0 fs) (settings-first t st start) (h.fit [] (behind-first t st (fresh st) start refl))

pub halted-frames : (t : TrackView) (st : Settings) (old new : List ℕ → Type 0) (fs : List ChosenFrame) → t ≡ first_track st → Owes st → Halts t (fresh st) old new fs
    → FramesFit st 0 0 fs × TakesPrefix old new (stream_of st fs)
halted-frames t st old new fs start owes h =
    let fit = fit-halted t st old new fs start h in
    let whole = front-of t st old new fs [] start owes h (subst (λ (l : List ChosenFrame). FramesFit st 0 0 l) (sym (append-nil fs)) fit) in
    (fit, subst (λ (l : List ChosenFrame). TakesPrefix old new (stream_of st l)) (append-nil fs) whole)

-- the frames pushed are chosen ones, of which there are enough
abbrev pub AreFirst : Settings → (left right : List ℤ) → List ChosenFrame → Type 0
AreFirst st left right fs = (m : ℕ) × (m ≤ frames_for (length left)) × (fs ≡ frames_before st (spectra_of left right) m)

halted-chosen : (t : TrackView) (st : Settings) (old new : List ℕ → Type 0) (fs : List ChosenFrame) (left right : List ℤ) → t ≡ first_track st → Owes st → Halts t (fresh st) old new fs
    → AreFirst st left right fs → AreSamples left → AreSamples right → TakesPrefix old new (encoding_of st left right)
unfolding frames_chosen
halted-chosen t st old new fs left right start owes h first l r =
    let sp = spectra_of left right in
    let total = frames_for (length left) in
    let gs = frames_chosen_from st sp first.0 (total - first.0) in
    let sum : first.0 + (total - first.0) ≡ total = omega (arith, first.1) in
    let all : fs ++ gs ≡ frames_before st sp total = ap (λ (l : List ChosenFrame). l ++ gs) first.2 ∙ frames-split st sp first.0 (total - first.0) total sum in
    let fit = (chosen-fit st left right l r).fit in
    let front = front-of t st old new fs gs start owes h (subst (λ (l : List ChosenFrame). FramesFit st 0 0 l) (sym all) fit) in
    subst (λ (l : List ChosenFrame). TakesPrefix old new (stream_of st l)) all front

-- a front of the encoding was taken, whichever samples the committer stood for
abbrev pub GivesFronts : CommitterView → Settings → (old new : List ℕ → Type 0) → Option (List ℕ) → Type 0
GivesFronts c st old new left_old = IfSome left_old (λ bytes. (left right : List ℤ) → StandsFor c bytes st left right → AreSamples left → AreSamples right → TakesPrefix old new (encoding_of st left right))

frames-within : (frame few total : ℕ) → 2 * frame + few ≤ 2 * total → frame ≤ total
frames-within frame few total le = omega arith

-- a read failed
pub read-failed : (c d : CommitterView) (st : Settings) (v : Writing) (old new : List ℕ → Type 0) (left_old left_new : Option (List ℕ)) (fs : List ChosenFrame) (tried : ℕ) → c.track ≡ first_track st → Owes st
    → Ran c d (fresh st) v old new left_old left_new fs tried → GivesFronts c st old new left_old
read-failed c d st v old new None left_new fs tried start owes ran = tt
read-failed c d st v old new (Some bytes) None fs tried start owes ran = absurd ran.told
read-failed c d st v old new (Some bytes) (Some now) fs tried start owes ran = λ left right s l r.
    let within = (ran.told.stands st left right s).within in
    halted-chosen c.track st old new fs left right start owes (halts-here c.track d.track (fresh st) v old new fs ran.pushes)
    (d.track.frame, frames-within d.track.frame (length d.track.granules) (frames_for (length left)) within, ran.told.chosen st left right s) l r

pub read-failed-frames : (c d : CommitterView) (st : Settings) (v : Writing) (old new : List ℕ → Type 0) (left_old left_new : Option (List ℕ)) (fs : List ChosenFrame) (tried : ℕ) → c.track ≡ first_track st → Owes st
    → Ran c d (fresh st) v old new left_old left_new fs tried → FramesFit st 0 0 fs × TakesPrefix old new (stream_of st fs)
read-failed-frames c d st v old new left_old left_new fs tried start owes ran =
    halted-frames c.track st old new fs start owes (halts-here c.track d.track (fresh st) v old new fs ran.pushes)

-- a write failed
pub write-failed : (c d : CommitterView) (st : Settings) (v : Writing) (old mid new : List ℕ → Type 0) (left_old left_new : Option (List ℕ)) (fs : List ChosenFrame) (tried : ℕ) → c.track ≡ first_track st → Owes st
    → Ran c d (fresh st) v old mid left_old left_new fs tried → Breaks d v mid new → GivesFronts c st old new left_old
write-failed c d st v old mid new None left_new fs tried start owes ran broke = tt
write-failed c d st v old mid new (Some bytes) None fs tried start owes ran broke = absurd ran.told
write-failed c d st v old mid new (Some bytes) (Some now) fs tried start owes ran broke = λ left right s l r.
    let last = broke.2 now st left right (ran.told.stands st left right s) in
    let more = broke.0 in
    halted-chosen c.track st old new (fs ++ more) left right start owes (halts-then c.track d.track (fresh st) v old mid new fs more ran.pushes broke.1)
    (last.0, last.1, ap (λ (k : List ChosenFrame). k ++ more) (ran.told.chosen st left right s) ∙ last.2) l r

pub write-failed-frames : (c d : CommitterView) (st : Settings) (v : Writing) (old mid new : List ℕ → Type 0) (left_old left_new : Option (List ℕ)) (fs : List ChosenFrame) (tried : ℕ) → c.track ≡ first_track st → Owes st
    → Ran c d (fresh st) v old mid left_old left_new fs tried → (broke : Breaks d v mid new) → FramesFit st 0 0 (fs ++ broke.0) × TakesPrefix old new (stream_of st (fs ++ broke.0))
write-failed-frames c d st v old mid new left_old left_new fs tried start owes ran broke =
    halted-frames c.track st old new (fs ++ broke.0) start owes (halts-then c.track d.track (fresh st) v old mid new fs broke.0 ran.pushes broke.1)

-- ---- behind the last granule

-- all granules are committed
abbrev pub AllDone : CommitterView → Type 0
AllDone d = (bytes : List ℕ) (left right : List ℤ) → Holds d.windows bytes left right → granules_for (length left) ≤ next_of d.track

all-frames : (frame few total : ℕ) → 2 * frame + few ≤ 2 * total → 2 * total ≤ 2 * frame + few → few < 2 → (frame ≡ total) × (few ≡ 0)
all-frames frame few total low high less = (omega arith, omega arith)

at-end : (d : CommitterView) (now : List ℕ) (st : Settings) (left right : List ℤ) → length d.track.granules < 2 → AllDone d → StandsFor d now st left right → (d.track.frame ≡ frames_for (length left)) × (length d.track.granules ≡ 0)
at-end d now st left right few all s = all-frames d.track.frame (length d.track.granules) (frames_for (length left)) s.within (all now left right s.holds) few

all-chosen : (st : Settings) (left right : List ℤ) (n : ℕ) → n ≡ frames_for (length left) → frames_before st (spectra_of left right) n ≡ frames_chosen st left right
unfolding frames_chosen
all-chosen st left right n is = ap (frames_before st (spectra_of left right)) is

fit-pushed : (c d : CommitterView) (st : Settings) (v : Writing) (old new : List ℕ → Type 0) (fs : List ChosenFrame) → c.track ≡ first_track st → Pushes c.track d.track (fresh st) v old new fs → FramesFit st 0 0 fs
fit-pushed c d st v old new fs start p =
    subst (λ (s : Settings). FramesFit s 0 0 fs) (p.same ∙ settings-first c.track st start) (p.behind [] (behind-first c.track st (fresh st) start refl)).follow.fit

-- the frames pushed are as many as the track's number says
pub count-pushed : (c d : CommitterView) (st : Settings) (v : Writing) (old new : List ℕ → Type 0) (fs : List ChosenFrame) → c.track ≡ first_track st → Pushes c.track d.track (fresh st) v old new fs → length fs ≡ d.track.frame
count-pushed c d st v old new fs start p = (p.behind [] (behind-first c.track st (fresh st) start refl)).follow.number

-- the writer has no more to refuse
pub still-good : (c d : CommitterView) (st : Settings) (v : Writing) (old new : List ℕ → Type 0) (fs : List ChosenFrame) → c.track ≡ first_track st → Pushes c.track d.track (fresh st) v old new fs → v.failed ≡ false
still-good c d st v old new fs start p = (p.behind [] (behind-first c.track st (fresh st) start refl)).unfailed

-- and stands behind some frames
pub stands-behind : (c d : CommitterView) (st : Settings) (v : Writing) (old new : List ℕ → Type 0) (fs : List ChosenFrame) → c.track ≡ first_track st → Pushes c.track d.track (fresh st) v old new fs → IsBehind d.track fs v
stands-behind c d st v old new fs start p = p.behind [] (behind-first c.track st (fresh st) start refl)

-- the writer was finished
pub finished-frames : {T E : Type 0} (c d : CommitterView) (st : Settings) (v : Writing) (old mid new : List ℕ → Type 0) (left_old left_new : Option (List ℕ)) (fs : List ChosenFrame) (tried : ℕ) (result : Result T E)
    → c.track ≡ first_track st → Owes st → Ran c d (fresh st) v old mid left_old left_new fs tried → Writes mid new result (owed v []) → FramesFit st 0 0 fs × Writes old new result (stream_of st fs)
finished-frames c d st v old mid new left_old left_new fs tried result start owes ran writes =
    let p = ran.pushes in
    let fit = fit-pushed c d st v old mid fs start p in
    let whole = fit-first c.track st (fs ++ []) start (subst (λ (l : List ChosenFrame). FramesFit st 0 0 l) (sym (append-nil fs)) fit) in
    let all : p.gives.0 ++ owed v [] ≡ stream_of st fs =
    sym (p.gives.2 [] [] (behind-first c.track st (fresh st) start refl) whole) ∙ (owes (fs ++ []) ∙ ap (stream_of st) (append-nil fs)) in
    (fit, subst (λ (l : List ℕ). Writes old new result l) all (Writes-then old mid new result p.gives.0 (owed v []) p.gives.1 writes))

pub finished : {T E : Type 0} (c d : CommitterView) (st : Settings) (v : Writing) (old mid new : List ℕ → Type 0) (left_old left_new : Option (List ℕ)) (fs : List ChosenFrame) (tried : ℕ) (result : Result T E)
    → c.track ≡ first_track st → Owes st → length d.track.granules < 2 → AllDone d → Ran c d (fresh st) v old mid left_old left_new fs tried → Writes mid new result (owed v [])
    → IfSome left_old (λ bytes. (left right : List ℤ) → StandsFor c bytes st left right → Writes old new result (encoding_of st left right))
finished c d st v old mid new None left_new fs tried result start owes few all ran writes = tt
finished c d st v old mid new (Some bytes) None fs tried result start owes few all ran writes = absurd ran.told
finished c d st v old mid new (Some bytes) (Some now) fs tried result start owes few all ran writes = λ left right s.
    let done = at-end d now st left right few all (ran.told.stands st left right s) in
    let chosen : fs ≡ frames_chosen st left right = ran.told.chosen st left right s ∙ all-chosen st left right d.track.frame done.0 in
    let took = (finished-frames c d st v old mid new (Some bytes) (Some now) fs tried result start owes ran writes).1 in
    subst (λ (l : List ChosenFrame). Writes old new result (stream_of st l)) chosen took

-- what it counted
pub counted : (c d : CommitterView) (st : Settings) (v : Writing) (old new : List ℕ → Type 0) (left_old left_new : Option (List ℕ)) (fs : List ChosenFrame) (tried frames : ℕ)
    → length d.track.granules < 2 → AllDone d → frames ≡ d.track.frame → Ran c d (fresh st) v old new left_old left_new fs tried
    → IfSome left_old (λ bytes. (left right : List ℤ) → StandsFor c bytes st left right → (frames ≡ frames_for (length left)) × (tried ≡ gains_tried st left right))
counted c d st v old new None left_new fs tried frames few all is ran = tt
counted c d st v old new (Some bytes) None fs tried frames few all is ran = absurd ran.told
counted c d st v old new (Some bytes) (Some now) fs tried frames few all is ran = λ left right s.
    let done = at-end d now st left right few all (ran.told.stands st left right s) in
    (is ∙ done.0, ran.told.gains st left right s ∙ tried-all st left right d.track.frame (length d.track.granules) done.0 done.1)

-- ---- what is left of the source

pub frames-many : (n : ℕ) → 0 < n → n ≤ 576 * granules_for n
frames-many n some =
    let e : nat_eq n 0 ≡ false = grind (arith, nat_tests) in
    rw e (omega arith)

some-there : (next ahead read long : ℕ) → 0 < ahead → 576 * (next + ahead) ≤ read → read ≤ long → 0 < long
some-there next ahead read long some there within = omega arith

no-more : (next ahead read long total : ℕ) → 0 < ahead → 576 * (next + ahead) ≤ read → read ≤ long → long ≤ 576 * total → total ≤ next → ⊥
no-more next ahead read long total some there within many done = omega arith

data-gone : (d : CommitterView) (now : List ℕ) (st : Settings) (left right : List ℤ) (ahead : ℕ) → 0 < ahead → AllDone d → (d.windows.ended ≡ true) ⊎ (576 * (next_of d.track + ahead) ≤ d.windows.read)
    → (d.windows.ended ≡ true → d.windows.samples.remaining ≡ 0) → StandsFor d now st left right → d.windows.samples.remaining ≡ 0
data-gone d now st left right ahead some all (inl ended) done s = done ended
data-gone d now st left right ahead some all (inr there) done s =
    absurd (no-more (next_of d.track) ahead d.windows.read (length left) (granules_for (length left)) some there s.holds.left_holds.within (frames-many (length left) (some-there (next_of d.track) ahead d.windows.read (length left) some there s.holds.left_holds.within)) (all now left right s.holds))

drop-none : (n : ℕ) (xs : List ℕ) → n ≡ 0 → xs ≡ drop n xs
drop-none n xs none = rw none refl

pub rest-left : (c d : CommitterView) (st : Settings) (w v : Writing) (old new : List ℕ → Type 0) (left_old left_new : Option (List ℕ)) (fs : List ChosenFrame) (tried ahead : ℕ) → 0 < ahead → AllDone d
    → (d.windows.ended ≡ true) ⊎ (576 * (next_of d.track + ahead) ≤ d.windows.read) → (d.windows.ended ≡ true → d.windows.samples.remaining ≡ 0) → Ran c d w v old new left_old left_new fs tried
    → IfSome left_old (λ bytes. (left right : List ℤ) → StandsFor c bytes st left right → left_new ≡ Some (drop c.windows.samples.remaining bytes))
rest-left c d st w v old new None left_new fs tried ahead some all there done ran = tt
rest-left c d st w v old new (Some bytes) None fs tried ahead some all there done ran = absurd ran.told
rest-left c d st w v old new (Some bytes) (Some now) fs tried ahead some all there done ran = λ left right s.
    let gone = data-gone d now st left right ahead some all there done (ran.told.stands st left right s) in
    ap Some (drop-none d.windows.samples.remaining now gone ∙ ran.told.after)

-- ---- no more is counted than all frames try

pub steps-within : (c d : CommitterView) (st : Settings) (w v : Writing) (old new : List ℕ → Type 0) (left_old left_new : Option (List ℕ)) (fs : List ChosenFrame) (tried made before now : ℕ)
    → length d.track.granules < 2 → made ≤ tried → now ≡ before + made → Ran c d w v old new left_old left_new fs tried
    → IfSome left_old (λ bytes. (left right : List ℤ) → StandsFor c bytes st left right → now ≤ before + gains_tried st left right)
steps-within c d st w v old new None left_new fs tried made before now few same ticks ran = tt
steps-within c d st w v old new (Some bytes) None fs tried made before now few same ticks ran = absurd ran.told
steps-within c d st w v old new (Some bytes) (Some last) fs tried made before now few same ticks ran = λ left right s.
    let here = ran.told.stands st left right s in
    let gains = ran.told.gains st left right s in
    let within = tried-within st left right d.track.frame (length d.track.granules) few here.within in
    omega (arith, gains, within, same, ticks)

-- nor after a turn that broke off
pub broke-within : (c d : CommitterView) (st : Settings) (w v : Writing) (old new : List ℕ → Type 0) (left_old left_new : Option (List ℕ)) (fs : List ChosenFrame) (tried made before now last : ℕ)
    → length d.track.granules < 2 → made ≤ tried → now ≡ before + made → Ran c d w v old new left_old left_new fs tried
    → ((bytes : List ℕ) (left right : List ℤ) → Holds d.windows bytes left right → next_of d.track < granules_for (length left))
    → ((bytes : List ℕ) (s : Settings) (left right : List ℤ) → StandsFor d bytes s left right → last ≤ now + tried_at s (spectra_of left right) d.track.frame (length d.track.granules))
    → IfSome left_old (λ bytes. (left right : List ℤ) → StandsFor c bytes st left right → last ≤ before + gains_tried st left right)
broke-within c d st w v old new None left_new fs tried made before now last few same ticks ran below by = tt
broke-within c d st w v old new (Some bytes) None fs tried made before now last few same ticks ran below by = absurd ran.told
broke-within c d st w v old new (Some bytes) (Some rest) fs tried made before now last few same ticks ran below by = λ left right s.
    let here = ran.told.stands st left right s in
    let gains = ran.told.gains st left right s in
    let step = by rest st left right here in
    let within = tried-next-within st left right d.track.frame (length d.track.granules) few (below rest left right here.holds) in
    omega (arith, gains, step, within, same, ticks)

-- ---- how many frames there are

-- after the first granule of a frame
pub frames-on : (frames frame few last low number : ℕ) → frames ≡ frame → few < 2 → low < 2 → number ≡ 2 * frame + few → 2 * last + low ≡ number + 1 → (number % 2 ≡ 1 → ⊥) → frames ≡ last
frames-on frames frame zero last low number is turn less at next even =
    let same : last ≡ frame = omega (arith, less, at, next) in
    is ∙ sym same
frames-on frames frame (suc zero) last low number is turn less at next even =
    let odd : number % 2 ≡ 1 = omega (arith, at) in
    absurd (even odd)
frames-on frames frame (suc (suc few)) last low number is turn less at next even = absurd (omega arith)

-- after the second
pub frames-more : (frames frame few last low number : ℕ) → frames ≡ frame → few < 2 → low < 2 → number ≡ 2 * frame + few → 2 * last + low ≡ number + 1 → number % 2 ≡ 1 → frames + 1 ≡ last
frames-more frames frame few last low number is turn less at next odd = omega (arith, is, turn, less, at, next, odd)

-- ---- which of the source's bytes are gone

pub none-gone : (before : ℕ) (left : Option (List ℕ)) → AreGone before before left left
none-gone before None = ([], omega arith, tt)
none-gone before (Some bytes) = ([], omega arith, refl)

pub twice-gone : (before between now : ℕ) (left_old left_mid left_new : Option (List ℕ)) → AreGone before between left_old left_mid → AreGone between now left_mid left_new → AreGone before now left_old left_new
twice-gone before between now left_old left_mid left_new first second = gone_further left_old left_mid left_new before between now first second

pub gone-all : (before now : ℕ) (left_old left_new : Option (List ℕ)) → AreGone before now left_old left_new → AreGone before 0 left_old left_new
gone-all before now left_old left_new gone = (gone.0, omega (arith, gone.1), gone.2)

-- ---- the same in the words of the answers

pub IfSome-samples : (c : CommitterView) (st : Settings) (old new : List ℕ → Type 0) (left_old : Option (List ℕ)) → IfSome left_old (λ bytes. (left right : List ℤ) → StandsFor c bytes st left right → TakesPrefix old new (encoding_of st left right))
    → GivesFronts c st old new left_old
IfSome-samples c st old new None h = tt
IfSome-samples c st old new (Some bytes) h = λ left right s l r. h left right s

pub reported : (c : CommitterView) (st : Settings) (left_old : Option (List ℕ)) (report : Report)
    → IfSome left_old (λ bytes. (left right : List ℤ) → StandsFor c bytes st left right → (report.frames ≡ frames_for (length left)) × (report.tried ≡ gains_tried st left right))
    → IfSome left_old (λ bytes. (left right : List ℤ) → StandsFor c bytes st left right → IsReport st left right report)
reported c st None report h = tt
reported c st (Some bytes) report h = λ left right s. record { frames = (h left right s).0; tried = (h left right s).1 }
