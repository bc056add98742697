-- Frames that were pushed behind others, turn after turn.
use Rattle.std.proofs.Common.{◌≡◌, ◌∙◌, sym, ap, subst, refl, ℕ, suc, ◌+◌, ◌*◌, ◌≤◌, Bool, true, false, List, [], ◌∷◌, ◌++◌, ℤ, length, arith, add-one, append_assoc}
use Rattle.std.proofs.lemmas.List.{append-nil}
use Rattle.l3_base.specs.declared.settings.Settings.{Settings}
use Rattle.l3_base.specs.Lengths.{mmax_of, frames_for}
use Rattle.l3_io.proofs.TakenLemmas.{Takes-then}
use Rattle.l3_search.specs.Budget.{begin_after}
use Rattle.l3_stream.specs.declared.unit.ChosenFrame.{ChosenFrame}
use Rattle.l3_stream.specs.Tape.{FitsAt, FramesFit, CanFollow, end_of, end_after}
use Rattle.l3_stream.proofs.Following.{end_after-more, FramesFit-back, nothing-follows}
use Rattle.l3_frames.specs.Writing.{Writing, FitBehind, GivesFirst, GivesFront, owed}
use Rattle.l3_commit.specs.Choice.{Spectra, frame_chosen, frames_before}
use Rattle.l3_commit.specs.Encoding.{spectra_of}
use Rattle.l3_commit.specs.Tracks.{TrackView, first_track, with_granule, with_frame_ended}
use Rattle.l3_commit.specs.Standing.{CommitterView, StandsFor, StillStands}
use Rattle.l3_encoder.specs.Turning.{IsBehind, FitAfter, Pushes, Halts, Turns, Breaks}

-- nothing was pushed, and the frame stays the same
pub pushes-none : (t u : TrackView) (w : Writing) (now : List ℕ → Type 0) → u.settings ≡ t.settings → u.frame ≡ t.frame → u.begin ≡ t.begin → Pushes t u w w now now []
pushes-none t u w now settings frame begin = record {
  same = settings;
  behind = λ fs b. record {
    follow = subst (λ (l : List ChosenFrame). CanFollow u.settings u.frame u.begin l) (sym (append-nil fs)) (rw (settings, frame, begin) b.follow);
    settings = b.settings ∙ sym settings;
    frames = b.frames ∙ sym frame;
    end = b.end ∙ (ap (λ (s : Settings). end_after s 0 0 fs) (sym settings) ∙ ap (end_after u.settings 0 0) (sym (append-nil fs)));
    unfailed = b.unfailed;
  };
  gives = ([], λ list h. rw append-nil h, λ fs gs b fit. refl);
}

-- frames that fit from the first one on fit behind those pushed
fits-here : (t : TrackView) (fs gs : List ChosenFrame) (w : Writing) → IsBehind t fs w → FitAfter t fs gs → FramesFit t.settings t.frame w.end gs
fits-here t fs gs w b fit =
    let counted : 0 + length fs ≡ t.frame = omega (arith, b.follow.number) in
    subst (λ (k : ℕ). FramesFit t.settings t.frame k gs) (sym b.end) (FramesFit-back t.settings 0 0 t.frame fs gs counted fit)

-- the first of them fits the writer
pub fits-next : (t : TrackView) (fs : List ChosenFrame) (w : Writing) (f : ChosenFrame) → IsBehind t fs w → FitAfter t fs (f ∷ []) → FitsAt w.settings w.frames w.end f
fits-next t fs w f b fit =
    let own = (fits-here t fs (f ∷ []) w b fit).0 in
    subst (λ (s : Settings). FitsAt s w.frames w.end f) (sym b.settings) (subst (λ (k : ℕ). FitsAt t.settings k w.end f) (sym b.frames) own)

-- and the others behind it
rest-fits : (t : TrackView) (fs gs : List ChosenFrame) (w : Writing) (f : ChosenFrame) → IsBehind t fs w → FitAfter t fs (f ∷ gs) → FitBehind w f gs
rest-fits t fs gs w f b fit =
    let rest = (fits-here t fs (f ∷ gs) w b fit).1 in
    subst (λ (s : Settings). FramesFit s (suc w.frames) (end_of s w.frames f) gs) (sym b.settings)
    (subst (λ (k : ℕ). FramesFit t.settings (suc k) (end_of t.settings k f) gs) (sym b.frames) rest)

-- a frame can follow whatever the track's frame could
abbrev pub CanFollowOn : (t : TrackView) → ChosenFrame → Type 0
CanFollowOn t f = (fs : List ChosenFrame) → CanFollow t.settings t.frame t.begin fs →
    CanFollow t.settings (t.frame + 1) (begin_after t.reserve (mmax_of t.settings)) (fs ++ (f ∷ []))

-- the writer took it
module _ (t u : TrackView) (w v : Writing) (f : ChosenFrame) (old new : List ℕ → Type 0) (settings : u.settings ≡ t.settings) (frame : u.frame ≡ t.frame + 1)
    (follows : (fs : List ChosenFrame) → CanFollow t.settings t.frame t.begin fs → CanFollow u.settings u.frame u.begin (fs ++ (f ∷ [])))
    (v_settings : v.settings ≡ w.settings) (v_frames : v.frames ≡ w.frames + 1) (v_end : v.end ≡ end_of w.settings w.frames f) (good : v.failed ≡ false) (gives : GivesFirst old new w v f) where
  ended : (fs : List ChosenFrame) → IsBehind t fs w → v.end ≡ end_of t.settings t.frame f
  ended fs b = v_end ∙ (ap (λ (s : Settings). end_of s w.frames f) b.settings ∙ ap (λ (k : ℕ). end_of t.settings k f) b.frames)

  pub pushes-one : Pushes t u w v old new (f ∷ [])
  pushes-one = record {
    same = settings;
    behind = λ fs b.
        let counted : 0 + length fs ≡ t.frame = omega (arith, b.follow.number) in
        record {
          follow = follows fs b.follow;
          settings = v_settings ∙ (b.settings ∙ sym settings);
          frames = v_frames ∙ (ap (λ (k : ℕ). k + 1) b.frames ∙ sym frame);
          end = ended fs b ∙ (sym (end_after-more t.settings 0 0 t.frame fs f counted) ∙ ap (λ (s : Settings). end_after s 0 0 (fs ++ (f ∷ []))) (sym settings));
          unfailed = good;
        };
    gives = (gives.0, gives.1, λ fs gs b fit. gives.2 gs (rest-fits t fs gs w f b fit));
  }

-- the writer failed at it
pub halts-one : (t : TrackView) (w : Writing) (f : ChosenFrame) (next : ℕ) (old new : List ℕ → Type 0) → ((fs : List ChosenFrame) → CanFollow t.settings t.frame t.begin fs → CanFollow t.settings (t.frame + 1) next (fs ++ (f ∷ []))) → GivesFront old new w f → Halts t w old new (f ∷ [])
halts-one t w f next old new follows gives = record {
  fit = λ fs b. (follows fs b.follow).fit;
  gives = (gives.0, gives.1, λ fs gs b fit. gives.2 gs (rest-fits t fs gs w f b fit));
}

-- ---- turns one after the other

pub pushes-then : (t u x : TrackView) (w v z : Writing) (old mid new : List ℕ → Type 0) (more others : List ChosenFrame) → Pushes t u w v old mid more → Pushes u x v z mid new others → Pushes t x w z old new (more ++ others)
pushes-then t u x w v z old mid new more others one two = record {
  same = two.same ∙ one.same;
  behind = λ fs b. subst (λ (l : List ChosenFrame). IsBehind x l z) (append_assoc fs more others) (two.behind (fs ++ more) (one.behind fs b));
  gives = (
    one.gives.0 ++ two.gives.0,
    Takes-then old mid new one.gives.0 two.gives.0 one.gives.1 two.gives.1,
    λ fs gs b fit.
        let whole = subst (λ (l : List ChosenFrame). FitAfter t fs l) (append_assoc more others gs) fit in
        let behind = subst (λ (s : Settings). FramesFit s 0 0 ((fs ++ more) ++ (others ++ gs))) (sym one.same)
        (subst (λ (l : List ChosenFrame). FramesFit t.settings 0 0 l) (sym (append_assoc fs more (others ++ gs))) whole) in
        ap (owed w) (append_assoc more others gs)
        ∙ (one.gives.2 fs (others ++ gs) b whole
        ∙ (ap (λ (l : List ℕ). one.gives.0 ++ l) (two.gives.2 (fs ++ more) gs (one.behind fs b) behind)
        ∙ sym (append_assoc one.gives.0 two.gives.0 (owed z gs)))),
  );
}

-- nothing more is pushed: a front was taken
pub halts-here : (t u : TrackView) (w v : Writing) (old new : List ℕ → Type 0) (more : List ChosenFrame) → Pushes t u w v old new more → Halts t w old new more
halts-here t u w v old new more p = record {
  fit = λ fs b. subst (λ (s : Settings). FramesFit s 0 0 (fs ++ more)) p.same (p.behind fs b).follow.fit;
  gives = (p.gives.0, p.gives.1, λ fs gs b fit. (owed v gs, sym (p.gives.2 fs gs b fit)));
}

pub halts-then : (t u : TrackView) (w v : Writing) (old mid new : List ℕ → Type 0) (more others : List ChosenFrame) → Pushes t u w v old mid more → Halts u v mid new others → Halts t w old new (more ++ others)
halts-then t u w v old mid new more others one two = record {
  fit = λ fs b. subst (λ (l : List ChosenFrame). FramesFit t.settings 0 0 l) (append_assoc fs more others)
      (subst (λ (s : Settings). FramesFit s 0 0 ((fs ++ more) ++ others)) one.same (two.fit (fs ++ more) (one.behind fs b)));
  gives = (
    one.gives.0 ++ two.gives.0,
    Takes-then old mid new one.gives.0 two.gives.0 one.gives.1 two.gives.1,
    λ fs gs b fit.
        let whole = subst (λ (l : List ChosenFrame). FitAfter t fs l) (append_assoc more others gs) fit in
        let behind = subst (λ (s : Settings). FramesFit s 0 0 ((fs ++ more) ++ (others ++ gs))) (sym one.same)
        (subst (λ (l : List ChosenFrame). FramesFit t.settings 0 0 l) (sym (append_assoc fs more (others ++ gs))) whole) in
        let front = two.gives.2 (fs ++ more) gs (one.behind fs b) behind in (
          front.0,
          append_assoc one.gives.0 two.gives.0 front.0
              ∙ (ap (λ (l : List ℕ). one.gives.0 ++ l) front.1
              ∙ (sym (one.gives.2 fs (others ++ gs) b whole) ∙ ap (owed w) (sym (append_assoc more others gs)))),
        ),
  );
}

-- ---- one turn

pub behind-granule : (t u : TrackView) (lines : ℕ → List ℤ) (fs : List ChosenFrame) (w : Writing) → u ≡ with_granule t lines → IsBehind t fs w → IsBehind u fs w
behind-granule t u lines fs w is b = subst (λ (k : TrackView). IsBehind k fs w) (sym is) (record { follow = b.follow; settings = b.settings; frames = b.frames; end = b.end; unfailed = b.unfailed })

same-frames : (st : Settings) (spectra : Spectra) (n m : ℕ) → m ≡ n → frames_before st spectra n ++ [] ≡ frames_before st spectra m
same-frames st spectra n m is = append-nil (frames_before st spectra n) ∙ ap (frames_before st spectra) (sym is)

one-more : (st : Settings) (spectra : Spectra) (n m : ℕ) (f : ChosenFrame) → f ≡ frame_chosen st spectra n → m ≡ n + 1 → frames_before st spectra n ++ (f ∷ []) ≡ frames_before st spectra m
unfolding frames_before
one-more st spectra n m f chosen is =
    ap (λ (g : ChosenFrame). frames_before st spectra n ++ (g ∷ [])) chosen ∙ ap (frames_before st spectra) (sym (is ∙ add-one n))

-- the first granule of a frame
pub turns-first : (c d : CommitterView) (lines : ℕ → List ℤ) (w : Writing) (now : List ℕ → Type 0) → d.track ≡ with_granule c.track lines
    → ((bytes : List ℕ) → StillStands c d bytes bytes) → Turns c d w w now now
turns-first c d lines w now is stands = (
  [],
  subst (λ (u : TrackView). Pushes c.track u w w now now []) (sym is) (pushes-none c.track (with_granule c.track lines) w now refl refl refl),
  λ bytes st left right s. (stands bytes st left right s, same-frames st (spectra_of left right) c.track.frame d.track.frame (ap (λ (u : TrackView). u.frame) is)),
)

-- what a track says of its frame after one granule more
follow-granule : (t m : TrackView) (lines : ℕ → List ℤ) (f : ChosenFrame) → m ≡ with_granule t lines → CanFollowOn m f → CanFollowOn (with_granule t lines) f
follow-granule t m lines f is follows = subst (λ (k : TrackView). CanFollowOn k f) is follows

-- the frame under the committer before its granule
chosen-before : (st : Settings) (spectra : Spectra) (t m : TrackView) (lines : ℕ → List ℤ) (f : ChosenFrame) → m ≡ with_granule t lines → f ≡ frame_chosen st spectra m.frame → f ≡ frame_chosen st spectra t.frame
chosen-before st spectra t m lines f is chosen = chosen ∙ ap (λ (u : TrackView). frame_chosen st spectra u.frame) is

-- the second granule: `m` is the committer between
module _ (c m : CommitterView) (lines : ℕ → List ℤ) (w v : Writing) (f : ChosenFrame) (old new : List ℕ → Type 0) (first : m.track ≡ with_granule c.track lines)
    (stands : (bytes : List ℕ) → StillStands c m bytes bytes) (follows : CanFollowOn m.track f)
    (chosen : (bytes : List ℕ) (st : Settings) (left right : List ℤ) → StandsFor m bytes st left right → f ≡ frame_chosen st (spectra_of left right) m.track.frame) where
  same : m.track.frame ≡ c.track.frame
  same = ap (λ (u : TrackView). u.frame) first

  pub turns-second : (d : CommitterView) → d.track ≡ with_frame_ended m.track → ((bytes : List ℕ) → StillStands m d bytes bytes)
      → v.settings ≡ w.settings → v.frames ≡ w.frames + 1 → v.end ≡ end_of w.settings w.frames f → v.failed ≡ false → GivesFirst old new w v f → Turns c d w v old new
  turns-second d is after settings frames end good gives =
      let last : d.track ≡ with_frame_ended (with_granule c.track lines) = is ∙ ap with_frame_ended first in (
        f ∷ [],
        subst (λ (u : TrackView). Pushes c.track u w v old new (f ∷ [])) (sym last)
            (pushes-one c.track (with_frame_ended (with_granule c.track lines)) w v f old new refl refl (follow-granule c.track m.track lines f first follows) settings frames end good gives),
        λ bytes st left right s.
            let mid = stands bytes st left right s in (
              after bytes st left right mid,
              one-more st (spectra_of left right) c.track.frame d.track.frame f
                  (chosen-before st (spectra_of left right) c.track m.track lines f first (chosen bytes st left right mid)) (ap (λ (u : TrackView). u.frame) last),
            ),
      )

  pub breaks-second : length m.track.granules ≡ 2 → GivesFront old new w f → Breaks c w old new
  breaks-second two gives = (
    f ∷ [],
    halts-one c.track w f (begin_after (with_granule c.track lines).reserve (mmax_of c.track.settings)) old new (follow-granule c.track m.track lines f first follows) gives,
    λ bytes st left right s.
        let mid = stands bytes st left right s in (
          c.track.frame + 1,
          enough m.track.frame c.track.frame (length m.track.granules) (frames_for (length left)) same two mid.within,
          one-more st (spectra_of left right) c.track.frame (c.track.frame + 1) f
              (chosen-before st (spectra_of left right) c.track m.track lines f first (chosen bytes st left right mid)) refl,
        ),
  )
    where
      enough : (frame before few total : ℕ) → frame ≡ before → few ≡ 2 → 2 * frame + few ≤ 2 * total → before + 1 ≤ total
      enough frame before few total is_before two_of within = omega arith

pub not-true : (b : Bool) → (b ≡ true → false ≡ true) → b ≡ false
not-true true other = let bad : false ≡ true = other refl in cc
not-true false other = refl

abbrev pub fresh : Settings → Writing
fresh st = record { settings = st; frames = 0; end = 0; heads = []; slots = []; failed = false }

end-first : (st : Settings) → 0 ≡ end_after st 0 0 []
unfolding end_after
end-first st = refl

pub behind-first : (t : TrackView) (st : Settings) (w : Writing) → t ≡ first_track st → w ≡ fresh st → IsBehind t [] w
behind-first t st w start is =
    subst (λ (k : TrackView). IsBehind k [] w) (sym start) (subst (λ (k : Writing). IsBehind (first_track st) [] k) (sym is)
    (record { follow = nothing-follows st; settings = refl; frames = refl; end = end-first st; unfailed = refl }))
