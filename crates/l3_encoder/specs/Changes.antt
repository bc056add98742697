-- What a call did to its source and its sink.
use Rattle.std.specs.Prelude.{◌≡◌, ℕ, List, Option}

-- what a source told as left and how many faults it had counted, before a call and after it;
-- and that it is as it was
pub record SourceChange : Type 1 where
  pub left : Option (List ℕ)
  pub left_now : Option (List ℕ)
  pub faults : ℕ
  pub faults_now : ℕ
  pub unread : Type 0

-- the lists that a sink stood for, and the same of it
pub record SinkChange : Type 1 where
  pub taken : List ℕ → Type 0
  pub taken_now : List ℕ → Type 0
  pub faults : ℕ
  pub faults_now : ℕ
  pub untouched : Type 0

-- the change of a source, by what it tells and what it counts
abbrev pub source_change : {S : Type 0} → (S → Option (List ℕ)) → (S → ℕ) → (old new : S) → SourceChange
source_change left faults old new = record {
  left = left old;
  left_now = left new;
  faults = faults old;
  faults_now = faults new;
  unread = new ≡ old;
}

abbrev pub sink_change : {K : Type 0} → (K → List ℕ → Type 0) → (K → ℕ) → (old new : K) → SinkChange
sink_change taken faults old new = record {
  taken = taken old;
  taken_now = taken new;
  faults = faults old;
  faults_now = faults new;
  untouched = new ≡ old;
}
