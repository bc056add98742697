-- What the answer of a file's encoding says of its source and its sink, clause by clause.
use Rattle.std.proofs.Common.{◌≡◌, ℕ, ◌+◌, ◌≤◌, List, arith}
use Rattle.std.specs.Prelude.{Option, Some, None, IfSome, Result}
use Rattle.l3_base.specs.declared.rate.Rate.{Rate}
use Rattle.l3_commit.specs.declared.report.Report.{Report}
use Rattle.l3_commit.specs.declared.report.EncodeFault.{EncodeFault}
use Rattle.l3_encoder.specs.Changes.{source_change, sink_change}
use Rattle.l3_encoder.specs.Encoded.{CountsReads, CountsWrites, ExplainsReport, GivesSomeFrames, IsBeforeFirst, LeavesInput, gains_in}

-- between these two states of source, sink and steps
pub record Says {S K : Type 0} (left : S → Option (List ℕ)) (reads : S → ℕ) (taken : K → List ℕ → Type 0) (writes : K → ℕ)
    (rate : Rate) (first last : S) (sink sink_now : K) (steps now : ℕ) (result : Result Report EncodeFault) : Type 0 where
  pub explains : ExplainsReport rate result (source_change left reads first last) (sink_change taken writes sink sink_now)
  pub some_frames : GivesSomeFrames rate result (sink_change taken writes sink sink_now)
  pub leaves : IfSome (left first) (λ bytes. LeavesInput result bytes (left last))
  pub counts_reads : CountsReads result (source_change left reads first last)
  pub counts_writes : CountsWrites result (sink_change taken writes sink sink_now)
  pub rise : IfSome (left first) (λ bytes. now ≤ steps + gains_in rate bytes)
  pub unstepped : IsBeforeFirst result → now ≡ steps

pub IfSome-then : {A : Type 0} (told : Option A) (P Q : A → Type 0) → ((x : A) → P x → Q x) → IfSome told P → IfSome told Q
IfSome-then None P Q step p = tt
IfSome-then (Some x) P Q step p = step x p

-- a count that stood once never falls below
pub still-later : (a b c : ℕ) → a ≤ b → b ≤ c → a ≤ c
still-later a b c first then = omega arith
