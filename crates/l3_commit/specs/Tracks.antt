-- A track as contracts see it: where the choice of frames stands.
use Rattle.std.specs.Prelude.{◌≡◌, ℕ, ◌+◌, ◌*◌, ◌≤◌, min, List, [], ◌∷◌, ◌++◌, ℤ, length, All}
use Rattle.std.specs.List.{sum_by}
use Rattle.l3_base.specs.declared.settings.Settings.{Settings}
use Rattle.l3_base.specs.Lengths.{mean_bits_of, mmax_of, slots_before}
use Rattle.l3_base.specs.Rates.{channels_of}
use Rattle.l3_search.specs.Budget.{begin_after}
use Rattle.l3_stream.specs.declared.unit.Unit.{Unit}
use Rattle.l3_stream.specs.Units.{lengths}
use Rattle.l3_stream.specs.Coded.{IsCodedGranule}
use Rattle.l3_commit.specs.Choice.{granule_chosen, after_granule}

pub record TrackView : Type 0 where
  pub settings : Settings
  -- the frame that is begun, its main_data_begin, and the
  -- reserve in bits before the granule that comes next
  pub frame : ℕ
  pub begin : ℕ
  pub reserve : ℕ
  -- the units of its granules that are committed, 0 to 2 of them
  pub granules : List (List Unit)

-- before the first granule
abbrev pub first_track : Settings → TrackView
first_track st = record { settings = st; frame = 0; begin = 0; reserve = 0; granules = [] }

-- the sum of part2_3_length of granules
abbrev pub granules_length : List (List Unit) → ℕ
granules_length = sum_by lengths

-- what a track keeps: its frame's main data begins within the slots before it, its granules are
-- coded, and their code bits are what the reserve lost
pub record IsTrack (t : TrackView) : Type 0 where
  pub few : length t.granules ≤ 2
  pub number : t.frame + min 1 (length t.granules) ≤ 4294967297
  pub begin : t.begin ≤ mmax_of t.settings
  pub reached : t.begin ≤ slots_before t.settings t.frame
  pub each : All (IsCodedGranule t.settings t.settings.channels) t.granules
  pub kept : granules_length t.granules + t.reserve ≡
      8 * t.begin + mean_bits_of t.settings t.frame * (channels_of t.settings.channels * length t.granules)

-- the number of the granule that comes next
abbrev pub next_of : TrackView → ℕ
next_of t = 2 * t.frame + length t.granules

-- after one more granule, of these spectra by channel
abbrev pub with_granule : TrackView → (ℕ → List ℤ) → TrackView
with_granule t lines = record {
  settings = t.settings;
  frame = t.frame;
  begin = t.begin;
  reserve = after_granule t.settings t.frame t.reserve lines;
  granules = t.granules ++ (granule_chosen t.settings t.frame t.reserve lines ∷ []);
}

-- after the end of the frame: the reserve is what its next main_data_begin reaches
abbrev pub with_frame_ended : TrackView → TrackView
with_frame_ended t = record {
  settings = t.settings;
  frame = t.frame + 1;
  begin = begin_after t.reserve (mmax_of t.settings);
  reserve = 8 * begin_after t.reserve (mmax_of t.settings);
  granules = [];
}
