-- Which of the source's bytes are gone.
use Rattle.std.proofs.Common.{◌≡◌, refl, sym, subst, ℕ, ◌*◌, ◌≤◌, List, [], ℤ, length, arith}
use Rattle.std.specs.Prelude.{Option, Some, None, IfSome, Result, Ok, Err, OnErr}
use Rattle.std.specs.Io.KnownBytes.{Consumes}
use Rattle.l3_wav.specs.Samples.{SamplesState, samples_after, ReadsValues}
use Rattle.l3_wav.proofs.PcmLemmas.{gone_values, gone_further}
use Rattle.l3_wav.specs.ReadingOn.{AreGone}

-- with a block that was read
pub block-gone : (before now : SamplesState) (n : ℕ) (block : List ℤ) (left_old left_new : Option (List ℕ)) →
    IfSome left_old (λ bytes. ReadsValues before bytes n block left_new) → now ≡ samples_after before n (length block) → 2 * n ≤ before.remaining →
    AreGone before.remaining now.remaining left_old left_new
block-gone before now n block left_old left_new read is declared =
    subst (λ (s : SamplesState). AreGone before.remaining s.remaining left_old left_new) (sym is) (by left_old read)
  where
    by : (told : Option (List ℕ)) → IfSome told (λ bytes. ReadsValues before bytes n block left_new) → AreGone before.remaining (samples_after before n (length block)).remaining told left_new
    by None read = gone_values before n (length block) None left_new declared tt
    by (Some bytes) read = gone_values before n (length block) (Some bytes) left_new declared read.rest

-- with a fault
pub fault-gone : (before : ℕ) (left_old left_new : Option (List ℕ)) → ((bytes : List ℕ) × (length bytes ≤ before) × Consumes left_old left_new bytes) → AreGone before 0 left_old left_new
fault-gone before left_old left_new gone = (gone.0, omega (arith, gone.1), gone.2)

-- with nothing that was read
pub none-gone : (before : ℕ) (left : Option (List ℕ)) → AreGone before before left left
none-gone before None = ([], omega arith, tt)
none-gone before (Some bytes) = ([], omega arith, refl)

-- in two turns
pub twice-gone : (before between now : ℕ) (left_old left_mid left_new : Option (List ℕ)) → AreGone before between left_old left_mid → AreGone between now left_mid left_new → AreGone before now left_old left_new
twice-gone before between now left_old left_mid left_new first second = gone_further left_old left_mid left_new before between now first second

-- a fact that holds at every answer holds at Err
pub at-err : {T E : Type 0} (r : Result T E) (P : Type 0) → P → OnErr r P
at-err (Ok x) P p = tt
at-err (Err e) P p = p
