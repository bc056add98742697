-- Laws of this crate's words, each carried by a function of src/laws.rt.
use Rattle.std.specs.Prelude.{◌≡◌, ℕ, ◌<◌, ◌≤◌, List, [], ◌∷◌, ◌++◌, length, slice_index}
use Rattle.l3_guess.specs.Guesses.{last_eight}
use Rattle.l3_guess.specs.Scores.{best_place, worst_place}

-- no score is less than the one at this place, and each before it is greater
pub record IsFirstOfLeast (scores : List ℕ) (place : ℕ) : Type 0 where
  pub among : place < length scores
  pub least : (k : ℕ) → k < length scores → slice_index scores place ≤ slice_index scores k
  pub first : (k : ℕ) → k < place → slice_index scores place < slice_index scores k

-- no score is greater than the one at this place, and each behind it is less
pub record IsLastOfGreatest (scores : List ℕ) (place : ℕ) : Type 0 where
  pub among : place < length scores
  pub greatest : (k : ℕ) → k < length scores → slice_index scores k ≤ slice_index scores place
  pub last : (k : ℕ) → place < k → k < length scores → slice_index scores k < slice_index scores place

-- the best place is that of the first of the least scores
abbrev pub BestIsFirstOfLeast : Type 0
BestIsFirstOfLeast = (scores : List ℕ) → 0 < length scores → IsFirstOfLeast scores (best_place scores)

-- the worst place is that of the last of the greatest scores
abbrev pub WorstIsLastOfGreatest : Type 0
WorstIsLastOfGreatest = (scores : List ℕ) → 0 < length scores → IsLastOfGreatest scores (worst_place scores)

-- the last eight of what was kept and of one more are the last eight of all
abbrev pub KeepsLastEight : Type 0
KeepsLastEight = (told : List ℕ) (next : ℕ) → last_eight (last_eight told ++ next ∷ []) ≡ last_eight (told ++ next ∷ [])
