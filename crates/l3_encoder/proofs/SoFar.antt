-- What an encoding has done so far, in whichever loop of turns, and what that says at its ends.
use Rattle.std.proofs.Common.{◌≡◌, ◌∙◌, sym, ap, subst, ℕ, zero, suc, ◌+◌, ◌*◌, ◌%◌, ◌<◌, ◌≤◌, ◌⊎◌, inl, inr, true, false, List, [], ◌++◌, ℤ, length, min, arith}
use Rattle.std.specs.Prelude.{Result, Err, Option, Some, IfSome, drop, nat_eq}
use Rattle.std.proofs.lemmas.Bool.Decides.{nat_tests}
use Rattle.l3_base.specs.declared.settings.Settings.{Settings}
use Rattle.l3_base.specs.Lengths.{frames_for, granules_for}
use Rattle.l3_io.specs.Taken.{Writes}
use Rattle.l3_wav.specs.Holding.{WindowsView, Holds, GoesOn}
use Rattle.l3_wav.specs.ReadingOn.{AreGone}
use Rattle.l3_stream.specs.declared.unit.ChosenFrame.{ChosenFrame}
use Rattle.l3_stream.specs.Tape.{FramesFit, stream_of}
use Rattle.l3_frames.specs.Writing.{Writing, owed}
use Rattle.l3_commit.specs.Encoding.{spectra_of, encoding_of, gains_tried}
use Rattle.l3_commit.specs.Tried.{tried_at}
use Rattle.l3_commit.specs.Tracks.{TrackView, first_track, next_of}
use Rattle.l3_commit.specs.Standing.{CommitterView, StandsFor, StillStands, StandsOn, offers_end}
use Rattle.l3_commit.specs.declared.report.Report.{Report}
use Rattle.l3_encoder.specs.declared.encoding.TurnFault.{TurnFault}
use Rattle.l3_encoder.specs.Turning.{IsBehind, Turns, Breaks}
use Rattle.l3_encoder.specs.Answers.{GivesFrames, IsReport}
use Rattle.l3_encoder.proofs.Pushed.{fresh}
use Rattle.l3_encoder.proofs.Loop.{Ran, TriedBy, Owes, GivesFronts, AllDone, ran-first, ran-read, ran-gathered, ran-turned, read-failed, read-failed-frames, write-failed, write-failed-frames, still-good, stands-behind, count-pushed, finished, finished-frames, counted, reported, rest-left, steps-within, broke-within, frames-on, frames-more, gone-all, none-gone, twice-gone, frames-many}

-- the frames of the turns done were pushed, and counted right
pub record SoFar (first d : CommitterView) (st : Settings) (w : Writing) (begun took : List ℕ → Type 0) (left_old left_now : Option (List ℕ)) (count tried made before now : ℕ) : Type 0 where
  pub ran : (fs : List ChosenFrame) × Ran first d (fresh st) w begun took left_old left_now fs tried
  pub few : length d.track.granules < 2
  pub frames : count ≡ d.track.frame
  pub gone : AreGone first.windows.samples.remaining d.windows.samples.remaining left_old left_now
  pub within : made ≤ tried
  pub ticks : now ≡ before + made
  pub small : tried ≤ 512 * next_of d.track

-- before the first turn
pub so_far-first : (first : CommitterView) (st : Settings) (w : Writing) (now : List ℕ → Type 0) (left : Option (List ℕ)) (before : ℕ) → first.track ≡ first_track st → w ≡ fresh st
    → SoFar first first st w now now left left 0 0 0 before before
so_far-first first st w now left before start is = record {
  ran = ([], ran-first first st w now left start is);
  few = omega (arith, ap (λ (t : TrackView). length t.granules) start);
  frames = sym (ap (λ (t : TrackView). t.frame) start);
  gone = none-gone first.windows.samples.remaining left;
  within = omega arith;
  ticks = omega arith;
  small = omega arith;
}

module _ {first d : CommitterView} {st : Settings} {w : Writing} {begun took : List ℕ → Type 0} {left_old left_now : Option (List ℕ)} {count tried made before now : ℕ}
    (done : SoFar first d st w begun took left_old left_now count tried made before now) where
  -- samples were read
  pub so_far-read : (m : CommitterView) (left_new : Option (List ℕ)) → m.track ≡ d.track → StandsOn d m left_now left_new → GoesOn d.windows m.windows left_now left_new
      → AreGone d.windows.samples.remaining m.windows.samples.remaining left_now left_new → SoFar first m st w begun took left_old left_new count tried made before now
  so_far-read m left_new same on goes gone = record {
    ran = (done.ran.0, ran-read first d m (fresh st) w begun took left_old left_now left_new done.ran.0 tried same done.ran.1 on goes);
    few = subst (λ (t : TrackView). length t.granules < 2) (sym same) done.few;
    frames = done.frames ∙ ap (λ (t : TrackView). t.frame) (sym same);
    gone = twice-gone first.windows.samples.remaining d.windows.samples.remaining m.windows.samples.remaining left_old left_now left_new done.gone gone;
    within = done.within;
    ticks = done.ticks;
    small = subst (λ (t : TrackView). tried ≤ 512 * next_of t) (sym same) done.small;
  }

  -- the granule was made ready
  pub so_far-gathered : (m : CommitterView) → m.track ≡ d.track → m.windows ≡ d.windows → ((bytes : List ℕ) → StillStands d m bytes bytes)
      → SoFar first m st w begun took left_old left_now count tried made before now
  so_far-gathered m same windows on = record {
    ran = (done.ran.0, ran-gathered first d m (fresh st) w begun took left_old left_now done.ran.0 tried same windows done.ran.1 on);
    few = subst (λ (t : TrackView). length t.granules < 2) (sym same) done.few;
    frames = done.frames ∙ ap (λ (t : TrackView). t.frame) (sym same);
    gone = subst (λ (x : WindowsView). AreGone first.windows.samples.remaining x.samples.remaining left_old left_now) (sym windows) done.gone;
    within = done.within;
    ticks = done.ticks;
    small = subst (λ (t : TrackView). tried ≤ 512 * next_of t) (sym same) done.small;
  }

  -- the turn was done
  pub so_far-turned : (e : CommitterView) (z : Writing) (new : List ℕ → Type 0) (frames more counts later : ℕ) → e.windows ≡ d.windows → next_of e.track ≡ next_of d.track + 1
      → length e.track.granules < 2 → TriedBy d more → Turns d e w z took new → more ≤ 512 → counts ≤ more → later ≡ now + counts → frames ≡ e.track.frame
      → SoFar first e st z begun new left_old left_now frames (tried + more) (made + counts) before later
  so_far-turned e z new frames more counts later windows next few by turn limit fewer ticks is = record {
    ran = (done.ran.0 ++ turn.0, ran-turned first d e (fresh st) w z begun took new left_old left_now done.ran.0 tried more windows done.few few next by done.ran.1 turn);
    few = few;
    frames = is;
    gone = subst (λ (x : WindowsView). AreGone first.windows.samples.remaining x.samples.remaining left_old left_now) (sym windows) done.gone;
    within = omega (arith, done.within, fewer);
    ticks = omega (arith, done.ticks, ticks);
    small = omega (arith, done.small, limit, next);
  }

  -- with the first granule of a frame no frame more, with the second one more
  pub so_far-half : (e : CommitterView) (number : ℕ) → number ≡ next_of d.track → next_of e.track ≡ number + 1 → length e.track.granules < 2 → (number % 2 ≡ 1 → ⊥) → count ≡ e.track.frame
  so_far-half e number at next few even = frames-on count d.track.frame (length d.track.granules) e.track.frame (length e.track.granules) number done.frames done.few few at next even

  pub so_far-whole : (e : CommitterView) (number : ℕ) → number ≡ next_of d.track → next_of e.track ≡ number + 1 → length e.track.granules < 2 → number % 2 ≡ 1 → count + 1 ≡ e.track.frame
  so_far-whole e number at next few odd = frames-more count d.track.frame (length d.track.granules) e.track.frame (length e.track.granules) number done.frames done.few few at next odd

  -- no byte behind the data is gone, nor with these more
  pub gone-here : AreGone first.windows.samples.remaining 0 left_old left_now
  gone-here = gone-all first.windows.samples.remaining d.windows.samples.remaining left_old left_now done.gone

  pub gone-with : (left_new : Option (List ℕ)) → AreGone d.windows.samples.remaining 0 left_now left_new → AreGone first.windows.samples.remaining 0 left_old left_new
  gone-with left_new gone = twice-gone first.windows.samples.remaining d.windows.samples.remaining 0 left_old left_now left_new done.gone gone

  -- no more was counted than all frames try
  pub rose-here : IfSome left_old (λ bytes. (left right : List ℤ) → StandsFor first bytes st left right → now ≤ before + gains_tried st left right)
  rose-here = steps-within first d st (fresh st) w begun took left_old left_now done.ran.0 tried made before now done.few done.within done.ticks done.ran.1

  -- nor after a turn that broke off
  pub rose-broken : (later : ℕ) → ((bytes : List ℕ) (left right : List ℤ) → Holds d.windows bytes left right → next_of d.track < granules_for (length left))
      → ((bytes : List ℕ) (s : Settings) (left right : List ℤ) → StandsFor d bytes s left right → later ≤ now + tried_at s (spectra_of left right) d.track.frame (length d.track.granules))
      → IfSome left_old (λ bytes. (left right : List ℤ) → StandsFor first bytes st left right → later ≤ before + gains_tried st left right)
  rose-broken later below by =
      broke-within first d st (fresh st) w begun took left_old left_now done.ran.0 tried made before now later done.few done.within done.ticks done.ran.1 below by

  -- what the source has left behind the last granule
  pub rest-here : (ahead : ℕ) → 0 < ahead → AllDone d → (d.windows.ended ≡ true) ⊎ (576 * (next_of d.track + ahead) ≤ d.windows.read) → (d.windows.ended ≡ true → d.windows.samples.remaining ≡ 0)
      → IfSome left_old (λ bytes. (left right : List ℤ) → StandsFor first bytes st left right → left_now ≡ Some (drop first.windows.samples.remaining bytes))
  rest-here ahead some all there whole = rest-left first d st (fresh st) w begun took left_old left_now done.ran.0 tried ahead some all there whole done.ran.1

  -- what is told then
  pub report-here : (report : Report) → AllDone d → report.frames ≡ count → report.tried ≡ tried
      → IfSome left_old (λ bytes. (left right : List ℤ) → StandsFor first bytes st left right → IsReport st left right report)
  report-here report all frames gains =
      reported first st left_old report (rw (frames, gains) (counted first d st w begun took left_old left_now done.ran.0 tried count done.few all done.frames done.ran.1))

  module _ (start : first.track ≡ first_track st) where
    pub good-here : w.failed ≡ false
    good-here = still-good first d st w begun took done.ran.0 start done.ran.1.pushes

    pub behind-here : (fs : List ChosenFrame) × IsBehind d.track fs w
    behind-here = (done.ran.0, stands-behind first d st w begun took done.ran.0 start done.ran.1.pushes)

    module _ (owes : Owes st) where
      -- a read failed
      pub front-here : GivesFronts first st begun took left_old
      front-here = read-failed first d st w begun took left_old left_now done.ran.0 tried start owes done.ran.1

      pub frames-here : (fault : TurnFault) → GivesFrames st (Err fault) begun took
      frames-here fault =
          let p = read-failed-frames first d st w begun took left_old left_now done.ran.0 tried start owes done.ran.1 in
          (done.ran.0, p.0, p.1, tt)

      -- a write failed
      pub front-broken : (new : List ℕ → Type 0) → Breaks d w took new → GivesFronts first st begun new left_old
      front-broken new broke = write-failed first d st w begun took new left_old left_now done.ran.0 tried start owes done.ran.1 broke

      pub frames-broken : (new : List ℕ → Type 0) (fault : TurnFault) → Breaks d w took new → GivesFrames st (Err fault) begun new
      frames-broken new fault broke =
          let p = write-failed-frames first d st w begun took new left_old left_now done.ran.0 tried start owes done.ran.1 broke in
          (done.ran.0 ++ broke.0, p.0, p.1, tt)

      -- the writer was finished
      pub stream-ended : (new : List ℕ → Type 0) (result : Result ℕ ℕ) → AllDone d → Writes took new result (owed w [])
          → IfSome left_old (λ bytes. (left right : List ℤ) → StandsFor first bytes st left right → Writes begun new result (encoding_of st left right))
      stream-ended new result all writes = finished first d st w begun took new left_old left_now done.ran.0 tried result start owes done.few all done.ran.1 writes

      pub frames-ended : (new : List ℕ → Type 0) (result : Result ℕ ℕ) → Writes took new result (owed w [])
          → (fs : List ChosenFrame) × FramesFit st 0 0 fs × Writes begun new result (stream_of st fs) × (count ≡ length fs)
      frames-ended new result writes =
          let p = finished-frames first d st w begun took new left_old left_now done.ran.0 tried result start owes done.ran.1 writes in
          (done.ran.0, p.0, p.1, done.frames ∙ sym (count-pushed first d st w begun took done.ran.0 start done.ran.1.pushes))

-- ---- how many granules were taken

granules-more : (n m : ℕ) → n ≤ m → granules_for n ≤ granules_for m
granules-more zero m le = omega arith
granules-more (suc n) m le = positive (suc n) m (omega arith) le
  where
    positive : (n m : ℕ) → 0 < n → n ≤ m → granules_for n ≤ granules_for m
    positive n m some le =
        let more : 0 < m = omega (arith, some, le) in
        let e : nat_eq n 0 ≡ false = grind (arith, nat_tests) in
        let f : nat_eq m 0 ≡ false = grind (arith, nat_tests) in
        rw (e, f) (omega (arith, le))

covers-next : (next ahead read : ℕ) → 0 < ahead → 576 * (next + ahead) ≤ read → next + 1 ≤ granules_for read
covers-next next ahead read some there =
    let many = frames-many read (omega (arith, some, there)) in
    omega (arith, some, there, many)

-- no more than the samples read so far need
pub taken-within : (d : CommitterView) (ahead : ℕ) → 0 < ahead → (d.windows.ended ≡ true) ⊎ (576 * (next_of d.track + ahead) ≤ d.windows.read) → next_of d.track < offers_end d
    → next_of d.track + 1 ≤ granules_for d.windows.read
taken-within d ahead some (inr there) more = covers-next (next_of d.track) ahead d.windows.read some there
taken-within d ahead some (inl ended) more = least (next_of d.track) (granules_for d.windows.read) (next_of d.track + length d.offers.placed) (rw ended at more)
  where
    least : (next total far : ℕ) → next < min total far → next + 1 ≤ total
    least next total far less = omega (arith, less)

-- and behind the last just as many
pub taken-all : (next frame few count read now : ℕ) → next ≡ 2 * frame + few → few < 2 → count ≡ frame → next ≤ granules_for read → read ≤ now → granules_for now ≤ next → next ≡ 2 * count
taken-all next frame few count read now is turn same within grows all =
    let more = granules-more read now grows in
    even next frame few count (frames_for now) is turn same (omega (arith, within, more)) all
  where
    even : (next frame few count total : ℕ) → next ≡ 2 * frame + few → few < 2 → count ≡ frame → next ≤ 2 * total → 2 * total ≤ next → next ≡ 2 * count
    even next frame few count total is turn same low high = omega (arith, is, turn, same, low, high)
