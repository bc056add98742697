-- How many gains the choice of frames tries: for each
-- unit those from its first gain to the picked one.
use Rattle.std.specs.Prelude.{ℕ, zero, suc, ◌+◌, ◌*◌, List, ℤ}
use Rattle.l3_base.specs.Amp.{no_amp}
use Rattle.l3_base.specs.declared.settings.Settings.{Settings}
use Rattle.l3_base.specs.declared.rate.Channels.{Channels}
use Rattle.l3_base.specs.declared.rate.Channels.TheVariants.{Mono, Stereo}
use Rattle.l3_search.specs.Gain.{tried_of}
use Rattle.l3_base.specs.Bands.{band_edges}
use Rattle.l3_commit.specs.Choice.{Spectra, budget_at, after_unit, reserve_at_start, reserve_between, begin_before}

-- at a unit of frame n
unfoldable pub unit_tried : Settings → (n reserve : ℕ) → List ℤ → ℕ
unit_tried st n reserve lines = tried_of (band_edges st.sample_rate) no_amp lines (budget_at st n reserve lines)

-- at a granule of frame n
abbrev pub granule_tried_by : Channels → Settings → (n reserve : ℕ) → (ℕ → List ℤ) → ℕ
granule_tried_by Mono st n reserve lines = unit_tried st n reserve (lines 0)
granule_tried_by Stereo st n reserve lines =
    unit_tried st n reserve (lines 0) + unit_tried st n (after_unit st n reserve (lines 0)) (lines 1)

unfoldable pub granule_tried : Settings → (n reserve : ℕ) → (ℕ → List ℤ) → ℕ
granule_tried st n reserve lines = granule_tried_by st.channels st n reserve lines

-- at frame n's first granule, which is its granule 0, or at its second
unfoldable pub tried_at : Settings → Spectra → (n granule : ℕ) → ℕ
tried_at st spectra n zero = granule_tried st n (reserve_at_start (begin_before st spectra n)) (spectra (2 * n))
tried_at st spectra n (suc _) = granule_tried st n (reserve_between st spectra n (begin_before st spectra n)) (spectra (2 * n + 1))

-- at all frames before frame n
unfoldable pub tried_before : Settings → Spectra → ℕ → ℕ
tried_before st spectra zero = 0
tried_before st spectra (suc n) = tried_before st spectra n + tried_at st spectra n 0 + tried_at st spectra n 1
