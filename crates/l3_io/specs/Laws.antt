-- Laws of counts of faults over two calls in turn, carried by `counts_of_faults`.
use Rattle.std.specs.Prelude.{ℕ, ◌≡◌, ◌<◌, ◌≤◌, ◌⊎◌, ◌↔◌}
use Rattle.l3_io.specs.Causes.{Rose, IsSteady, last_count, count_after}

-- a count that rose in the second of two calls rose in both together
abbrev pub RoseInTheSecond : Type 0
RoseInTheSecond = (before between now : ℕ) → before ≤ between → Rose between now → Rose before now

-- so did one that rose in the first
abbrev pub RoseInTheFirst : Type 0
RoseInTheFirst = (before between now : ℕ) → between ≤ now → Rose before between → Rose before now

-- a count that was steady over two calls was steady in each
abbrev pub SteadyInBoth : Type 0
SteadyInBoth = (before between now : ℕ) → before ≤ between → between ≤ now → IsSteady before now
    → IsSteady before between × IsSteady between now

-- a count rose or was steady, and never both
abbrev pub RoseOrSteady : Type 0
RoseOrSteady = (before now : ℕ) → IsSteady before now ⊎ Rose before now

abbrev pub NeverBoth : Type 0
NeverBoth = (before now : ℕ) → IsSteady before now → Rose before now → ⊥

-- a count that can be, one up to the last, rose where it is greater now, or where it stands at the
-- last, and nowhere else
abbrev pub RoseIsGreater : Type 0
RoseIsGreater = (before now : ℕ) → before ≤ now → now ≤ last_count
    → Rose before now ↔ ((before < now) ⊎ ((before ≡ last_count) × (now ≡ last_count)))

-- the count after one more fault rose, and both counts can be
abbrev pub OneMoreRose : Type 0
OneMoreRose = (before now : ℕ) → before ≤ now → now ≡ count_after before
    → Rose before now × (before ≤ last_count) × (now ≤ last_count)

-- a count that stood still below the last was steady
abbrev pub StoodIsSteady : Type 0
StoodIsSteady = (before now : ℕ) → before < last_count → now ≡ before → IsSteady before now
