-- What a committer does ahead of the granule that comes next, and which pieces are fit for it.
use Rattle.std.specs.Prelude.{◌≡◌, ◌≢◌, ℕ, ◌-◌, ◌%◌, ◌<◌, ◌≤◌, List}
use Rattle.l3_base.specs.declared.settings.Settings.{Settings}
use Rattle.l3_base.specs.declared.slots.Window.{Window}
use Rattle.l3_board.specs.declared.entry.Entry.{Entry}
use Rattle.l3_board.specs.Desk.{entry_of}
use Rattle.l3_analysis.specs.Piece.{PieceView, HasSpectra}
use Rattle.l3_board.specs.Offers.{IsOfferedAnew}
use Rattle.l3_wav.specs.Holding.{WindowsView}
use Rattle.l3_wav.specs.Windows.{window_in}

-- each granule from one to below another is on offer, or its cell was busy when it was offered now
abbrev pub AreOffered : (cells : ℕ) → (old new : List Entry) → (from to : ℕ) → Type 0
AreOffered cells old new from to = (i : ℕ) → from ≤ i → i < to → IsOfferedAnew cells old new i

-- the entries of all other cells stay
abbrev pub RestStays : (cells : ℕ) → (old new : List Entry) → (from to : ℕ) → Type 0
RestStays cells old new from to =
    (k : ℕ) → ((i : ℕ) → from ≤ i → i < to → k % cells ≢ i % cells) → entry_of cells new k ≡ entry_of cells old k

-- a piece is one of this granule and window under these settings, and its spectra are made
pub record IsFitTo (st : Settings) (number : ℕ) (w : Window) (p : PieceView) : Type 0 where
  pub settings_are : p.settings ≡ st
  pub number_is : p.number ≡ number
  pub left_is : p.window.left ≡ w.left
  pub right_is : p.window.right ≡ w.right
  pub made : HasSpectra p.stage

-- a piece is one of this granule, with its window of what is kept and under these settings, and its
-- spectra are made
pub record IsFit (st : Settings) (w : WindowsView) (number : ℕ) (p : PieceView) : Type 0 where
  pub settings_are : p.settings ≡ st
  pub number_is : p.number ≡ number
  pub left_is : p.window.left ≡ window_in w.left (number - w.base)
  pub right_is : p.window.right ≡ window_in w.right (number - w.base)
  pub made : HasSpectra p.stage
