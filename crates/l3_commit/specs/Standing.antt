-- A committer over samples as they come, and over any board, stands for settings and samples.
use Rattle.std.specs.Prelude.{◌≡◌, ℕ, ◌+◌, ◌≤◌, max, min, Bool, true, List, [], ◌∷◌, length, ℤ, Option, Some, None, IfSome, IsSomeAnd, if◌then◌else◌, is_some}
use Rattle.l3_base.specs.declared.settings.Settings.{Settings}
use Rattle.l3_base.specs.declared.rate.Channels.{Channels}
use Rattle.l3_base.specs.declared.rate.Channels.TheVariants.{Mono, Stereo}
use Rattle.l3_base.specs.Lengths.{granules_for}
use Rattle.l3_analysis.specs.Piece.{PieceView, HasSpectra, blank_of, spectrum_in}
use Rattle.l3_board.specs.Offers.{OffersView}
use Rattle.l3_wav.specs.Holding.{WindowsView, Holds}
use Rattle.l3_stream.specs.declared.unit.Unit.{Unit}
use Rattle.l3_commit.specs.Choice.{Spectra, reserve_at_start, reserve_between, reserve_at_end, first_granule, second_granule, begin_before}
use Rattle.l3_commit.specs.Encoding.{spectra_of}
use Rattle.l3_commit.specs.Tracks.{TrackView, next_of, with_frame_ended}

-- a committer as contracts see it
pub record CommitterView : Type 0 where
  pub track : TrackView
  pub windows : WindowsView
  -- the granules that it has on a board; without a board there are no cells
  pub offers : OffersView
  -- its own piece
  pub own : PieceView
  -- which is that of the granule that comes next, and has its spectra
  pub is_ready : Bool

-- the units of frame n, so far as its granules are committed, and the reserve that they left. After
-- the second granule the frame is not ended yet: its reserve is that before its end
abbrev pub HasCommitted : Settings → Spectra → (n begin : ℕ) → List (List Unit) → (reserve : ℕ) → Type 0
HasCommitted st spectra n begin [] reserve = reserve ≡ reserve_at_start begin
HasCommitted st spectra n begin (g ∷ []) reserve = (g ≡ first_granule st spectra n begin) × (reserve ≡ reserve_between st spectra n begin)
HasCommitted st spectra n begin (g ∷ (h ∷ [])) reserve =
    (g ≡ first_granule st spectra n begin) × (h ≡ second_granule st spectra n begin) × (reserve ≡ reserve_at_end st spectra n begin)
HasCommitted st spectra n begin (g ∷ (h ∷ (_ ∷ _))) reserve = ⊥

-- a track stands where the choice does before some granule
pub record IsProgress (st : Settings) (spectra : Spectra) (t : TrackView) : Type 0 where
  pub settings : t.settings ≡ st
  pub begin : t.begin ≡ begin_before st spectra t.frame
  pub units : HasCommitted st spectra t.frame (begin_before st spectra t.frame) t.granules t.reserve

-- the same spectra of the channels that are there
abbrev pub AreSameSpectra : Channels → (lines others : ℕ → List ℤ) → Type 0
AreSameSpectra Mono lines others = lines 0 ≡ others 0
AreSameSpectra Stereo lines others = (lines 0 ≡ others 0) × (lines 1 ≡ others 1)

-- the granules from the next one on that are to be on offer end here: as many as the board has
-- cells, and none behind the last
abbrev pub offers_end : CommitterView → ℕ
offers_end c =
    let far = next_of c.track + length c.offers.placed in if c.windows.ended then min (granules_for c.windows.read) far else far

-- its settings and the samples, of which the bytes still hold the rest; where its choice of frames
-- stands, and what it has at hand
pub record StandsFor (c : CommitterView) (bytes : List ℕ) (st : Settings) (left right : List ℤ) : Type 0 where
  pub holds : Holds c.windows bytes left right
  pub within : next_of c.track ≤ granules_for (length left)
  pub progress : IsProgress st (spectra_of left right) c.track
  pub ready : c.is_ready ≡ true → AreSameSpectra st.channels (spectrum_in c.own) (spectra_of left right (next_of c.track))

-- whatever the one stood for, the other stands for
abbrev pub StillStands : (old new : CommitterView) → (bytes now : List ℕ) → Type 0
StillStands old new bytes now = (st : Settings) (left right : List ℤ) → StandsFor old bytes st left right → StandsFor new now st left right

-- the same where the source tells what it has left
abbrev pub StandsOn : (old new : CommitterView) → (left_old left_new : Option (List ℕ)) → Type 0
StandsOn old new left_old left_new = IfSome left_old (λ bytes. IsSomeAnd left_new (λ now. StillStands old new bytes now))

-- after its frame was ended
abbrev pub with_ended : CommitterView → CommitterView
with_ended c = record c { track = with_frame_ended c.track }

-- its own piece, where it is not out
-- (only the inside of this crate)
abbrev pub own_in : Settings → Option PieceView → PieceView
own_in st None = blank_of st
own_in st (Some p) = p

-- what it keeps between calls
-- (only the inside of this crate)
pub record IsCommitter (st : Settings) (t : TrackView) (w : WindowsView) (o : OffersView) (own : Option PieceView) (is_ready : Bool) : Type 0 where
  pub settings_are : t.settings ≡ st
  pub there : is_some own ≡ true
  pub few : length o.placed ≤ 64
  pub ahead : w.ahead ≡ max 1 (length o.placed)
  pub number_is : is_ready ≡ true → (own_in st own).number ≡ next_of t
  pub own_settings : is_ready ≡ true → (own_in st own).settings ≡ st
  pub made : is_ready ≡ true → HasSpectra (own_in st own).stage
