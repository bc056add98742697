-- A committer goes on standing.
use Rattle.std.proofs.Common.{◌≡◌, ◌∙◌, sym, ap, subst, ℕ, ◌+◌, ◌*◌, ◌<◌, ◌≤◌, true, false, List, [], ◌∷◌, ◌++◌, ℤ, length, arith, length-append}
use Rattle.std.specs.Prelude.{Result, Ok, Err, OnOk, Option, Some, None}
use Rattle.l3_base.specs.declared.settings.Settings.{Settings}
use Rattle.l3_base.specs.declared.rate.Channels.{Channels}
use Rattle.l3_base.specs.declared.rate.Channels.TheVariants.{Mono, Stereo}
use Rattle.l3_base.specs.Lengths.{granules_for}
use Rattle.l3_base.specs.Filterbank.{window_of}
use Rattle.l3_transform.specs.Spectrum.{spectrum_of}
use Rattle.l3_analysis.specs.Piece.{PieceView, spectrum_in}
use Rattle.l3_wav.specs.Holding.{WindowsView, Holds, GoesOn}
use Rattle.l3_stream.specs.declared.unit.ChosenFrame.{ChosenFrame}
use Rattle.l3_commit.specs.Choice.{frame_chosen, granule_chosen}
use Rattle.l3_commit.specs.Encoding.{spectra_of}
use Rattle.l3_commit.specs.Tracks.{TrackView, first_track, next_of, with_granule, with_frame_ended}
use Rattle.l3_commit.specs.Standing.{CommitterView, AreSameSpectra, IsProgress, StandsFor, StillStands, StandsOn, with_ended}
use Rattle.l3_commit.proofs.Progress.{progress-more, progress-ended, progress-opened, frame-is-chosen}

pub stands-first : (c : CommitterView) (bytes : List ℕ) (st : Settings) (left right : List ℤ) → Holds c.windows bytes left right → c.track ≡ first_track st → c.is_ready ≡ false → StandsFor c bytes st left right
stands-first c bytes st left right holds start not_ready = record {
  holds = holds;
  within = subst (λ (t : TrackView). next_of t ≤ granules_for (length left)) (sym start) (none-yet (granules_for (length left)));
  progress = subst (λ (t : TrackView). IsProgress st (spectra_of left right) t) (sym start) (progress-opened st (spectra_of left right));
  ready = λ (r : c.is_ready ≡ true). absurd cc;
}
  where
    none-yet : (total : ℕ) → 2 * 0 + 0 ≤ total
    none-yet total = omega arith

-- samples were read
pub stands-read : (c d : CommitterView) (left_old left_new : Option (List ℕ)) → d.track ≡ c.track → d.own ≡ c.own → d.is_ready ≡ c.is_ready → GoesOn c.windows d.windows left_old left_new → StandsOn c d left_old left_new
stands-read c d None left_new track own ready on = tt
stands-read c d (Some bytes) None track own ready on = on
stands-read c d (Some bytes) (Some now) track own ready on = λ st left right s. record {
  holds = on.holds left right s.holds;
  within = subst (λ (t : TrackView). next_of t ≤ granules_for (length left)) (sym track) s.within;
  progress = subst (λ (t : TrackView). IsProgress st (spectra_of left right) t) (sym track) s.progress;
  ready = λ (r : d.is_ready ≡ true).
      let was : c.is_ready ≡ true = sym ready ∙ r in
      subst (λ (p : PieceView). AreSameSpectra st.channels (spectrum_in p) (spectra_of left right (next_of d.track))) (sym own)
      (subst (λ (t : TrackView). AreSameSpectra st.channels (spectrum_in c.own) (spectra_of left right (next_of t))) (sym track) (s.ready was));
}

same-spectra : (channels : Channels) (p : PieceView) (left right : List ℤ) (g : ℕ) → p.window.left ≡ window_of left g → p.window.right ≡ window_of right g → AreSameSpectra channels (spectrum_in p) (spectra_of left right g)
same-spectra Mono p left right g l r = ap spectrum_of l
same-spectra Stereo p left right g l r = (ap spectrum_of l, ap spectrum_of r)

-- its own piece was made fit
pub stands-ready : (c d : CommitterView) (bytes : List ℕ) → d.track ≡ c.track → d.windows ≡ c.windows
    → ((left right : List ℤ) → Holds c.windows bytes left right → (d.own.window.left ≡ window_of left (next_of c.track)) × (d.own.window.right ≡ window_of right (next_of c.track))) → StillStands c d bytes bytes
stands-ready c d bytes track windows fit st left right s = record {
  holds = subst (λ (w : WindowsView). Holds w bytes left right) (sym windows) s.holds;
  within = subst (λ (t : TrackView). next_of t ≤ granules_for (length left)) (sym track) s.within;
  progress = subst (λ (t : TrackView). IsProgress st (spectra_of left right) t) (sym track) s.progress;
  ready = λ r.
      let both = fit left right s.holds in
      subst (λ (t : TrackView). AreSameSpectra st.channels (spectrum_in d.own) (spectra_of left right (next_of t))) (sym track) (same-spectra st.channels d.own left right (next_of c.track) both.0 both.1);
}

-- it is any piece
pub stands-waits : (c d : CommitterView) (bytes : List ℕ) → d.track ≡ c.track → d.windows ≡ c.windows → d.is_ready ≡ false → StillStands c d bytes bytes
stands-waits c d bytes track windows not_ready st left right s = record {
  holds = subst (λ (w : WindowsView). Holds w bytes left right) (sym windows) s.holds;
  within = subst (λ (t : TrackView). next_of t ≤ granules_for (length left)) (sym track) s.within;
  progress = subst (λ (t : TrackView). IsProgress st (spectra_of left right) t) (sym track) s.progress;
  ready = λ (r : d.is_ready ≡ true). absurd cc;
}

granule-within : (frame few total more : ℕ) → 2 * frame + few < total → more ≡ few + 1 → 2 * frame + more ≤ total
granule-within frame few total more below e = omega arith

-- its granule was committed
pub stands-granule : (c d : CommitterView) (bytes : List ℕ) → c.is_ready ≡ true → length c.track.granules < 2 → d.track ≡ with_granule c.track (spectrum_in c.own) → d.windows ≡ c.windows → d.is_ready ≡ false
    → ((left right : List ℤ) → Holds c.windows bytes left right → next_of c.track < granules_for (length left)) → StillStands c d bytes bytes
stands-granule c d bytes ready few track windows not_ready below st left right s =
    let t = c.track in
    let g = granule_chosen t.settings t.frame t.reserve (spectrum_in c.own) in
    record {
      holds = subst (λ (w : WindowsView). Holds w bytes left right) (sym windows) s.holds;
      within = subst (λ (u : TrackView). next_of u ≤ granules_for (length left)) (sym track)
          (granule-within t.frame (length t.granules) (granules_for (length left)) (length (t.granules ++ (g ∷ []))) (below left right s.holds) (length-append t.granules (g ∷ [])));
      progress = subst (λ (u : TrackView). IsProgress st (spectra_of left right) u) (sym track) (progress-more st (spectra_of left right) t (spectrum_in c.own) few (s.ready ready) s.progress);
      ready = λ (r : d.is_ready ≡ true). absurd cc;
    }

frame-within : (frame few total : ℕ) → 2 * frame + few ≤ total → few ≡ 2 → 2 * (frame + 1) + 0 ≤ total
frame-within frame few total le e = omega arith

-- its frame was ended
pub stands-frame : (c d : CommitterView) (bytes : List ℕ) → length c.track.granules ≡ 2 → d.track ≡ with_frame_ended c.track → d.windows ≡ c.windows → d.is_ready ≡ false → StillStands c d bytes bytes
stands-frame c d bytes two track windows not_ready st left right s = record {
  holds = subst (λ (w : WindowsView). Holds w bytes left right) (sym windows) s.holds;
  within = subst (λ (u : TrackView). next_of u ≤ granules_for (length left)) (sym track) (frame-within c.track.frame (length c.track.granules) (granules_for (length left)) s.within two);
  progress = subst (λ (u : TrackView). IsProgress st (spectra_of left right) u) (sym track) (progress-ended st (spectra_of left right) c.track two s.progress);
  ready = λ (r : d.is_ready ≡ true). absurd cc;
}

pub frame-view : (c now : CommitterView) (t : TrackView) → c ≡ now → t ≡ with_frame_ended c.track
    → (let made : CommitterView = record c { track = t } in made ≡ with_ended now)
frame-view c now t is e = rw e (ap with_ended is)

-- what it lends is the chosen frame
pub chosen-frame : (c : CommitterView) (bytes : List ℕ) (st : Settings) (left right : List ℤ) → length c.track.granules ≡ 2 → StandsFor c bytes st left right
    → (let f : ChosenFrame = record { begin = c.track.begin; units = c.track.granules } in f ≡ frame_chosen st (spectra_of left right) c.track.frame)
chosen-frame c bytes st left right two s = frame-is-chosen st (spectra_of left right) c.track two s.progress

pub OnOk-map : {T E : Type 0} (r : Result T E) (P Q : Type 0) → (P → Q) → OnOk r P → OnOk r Q
OnOk-map (Ok v) P Q f p = f p
OnOk-map (Err e) P Q f p = tt
