-- What a contract sees of a reader or a writer of std with its count of faults.
use Rattle.std.specs.Prelude.{ℕ}

pub record Counted (A : Type 0) : Type 0 where
  -- the reader or writer itself
  pub inner : A
  -- how many of its calls failed, or, of a writer, took nothing of some bytes
  pub faults : ℕ
