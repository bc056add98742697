-- What a piece spares: for how many of the gains that the choice tries it brings a count along.
use Rattle.std.specs.Prelude.{ℕ, zero, suc, ◌+◌, List, map, count_by, Option, is_some}
use Rattle.std.specs.List.{sum}
use Rattle.l3_base.specs.Amp.{no_amp}
use Rattle.l3_base.specs.declared.settings.Settings.{Settings}
use Rattle.l3_quant.specs.Gains.{first_gain_of}
use Rattle.l3_count.specs.Count.{Counted}
use Rattle.l3_count.specs.Memo.{kept_at}
use Rattle.l3_search.specs.Gain.{gains_from}
use Rattle.l3_analysis.specs.Piece.{PieceView, channels_in, counts_in, edges_in, spectrum_in}
use Rattle.l3_commit.specs.Choice.{Spectra}
use Rattle.l3_commit.specs.Lacking.{reserve_before, unit_gain}
use Rattle.l3_commit.specs.Tried.{tried_at, tried_before}

-- for how many gains from the first to the last a lane has a count
unfoldable pub having : List (Option Counted) → (first last : ℕ) → ℕ
having counts first last = count_by (λ gain. is_some (kept_at counts gain)) (gains_from first last)

-- for how many of the gains that a unit tries, from the first to its own, the piece has a count, by
-- the reserve before the unit
unfoldable pub unit_reused : Settings → (n reserve : ℕ) → PieceView → ℕ → ℕ
unit_reused st n reserve p channel =
    let lines = spectrum_in p channel in having (counts_in p channel) (first_gain_of (edges_in p) no_amp lines) (unit_gain st n reserve lines)

-- for how many of those that all units of its granule try, by the reserve before the granule
unfoldable pub granule_reused : Settings → (n reserve : ℕ) → PieceView → ℕ
granule_reused st n reserve p =
    sum (map (λ channel. unit_reused st n (reserve_before st n reserve (spectrum_in p) channel) p channel) (channels_in st.channels))

-- how many gains the choice tries at all frames before frame n and at so many of its granules
abbrev pub tried_so_far : Settings → Spectra → (n granules : ℕ) → ℕ
tried_so_far st spectra n zero = tried_before st spectra n
tried_so_far st spectra n (suc zero) = tried_before st spectra n + tried_at st spectra n 0
tried_so_far st spectra n (suc (suc _)) = tried_before st spectra n + tried_at st spectra n 0 + tried_at st spectra n 1
