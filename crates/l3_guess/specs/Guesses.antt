-- What the guesser of a mean keeps, and what it guesses.
use Rattle.std.specs.Prelude.{ℕ, ◌/◌, ◌-◌, ◌==◌, if◌then◌else◌, List, length, sum, drop}

-- the last eight of some numbers, or all where they are fewer
abbrev pub last_eight : List ℕ → List ℕ
last_eight told = drop (length told - 8) told

-- the mean of some numbers, rounded down, and 0 of none
abbrev pub mean_of : List ℕ → ℕ
mean_of told = if length told == 0 then 0 else sum told / length told
