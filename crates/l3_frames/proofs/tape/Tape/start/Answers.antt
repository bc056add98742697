use Rattle.std.proofs.Common.{ℕ, length, ap, ◌∙◌, refl, arith}
use Rattle.std.proofs.lemmas.List.{length-replicate}
use Rattle.l3_base.specs.Lengths.{slots_before}
use Rattle.l3_frames.proofs.tape.Tape.start.Goals as goal

pub returns-clause-kept : goal.returns-clause-kept
unfolding slots_before
returns-clause-kept c = λ st. record {
  room = ap length c.no_bytes-bytes.ensures ∙ length-replicate {A = ℕ} 4096 0;
  number = omega arith;
  at = omega arith;
  slots = refl;
  small = omega arith;
  few = omega arith;
  begun = omega arith;
  near = omega arith;
  within = omega arith;
}

pub returns-clause-rest : goal.returns-clause-rest
returns-clause-rest c = record {
  room = ap length c.no_bytes-bytes.ensures ∙ length-replicate {A = ℕ} 4096 0;
  few = omega arith;
  small = omega arith;
  begun = omega arith;
  within = omega arith;
}
