use Rattle.std.proofs.Common.{◌≡◌, map, replicate, length}
use Rattle.l3_guess.proofs.member.unscored.Given as goal

abbrev pub invariant-loop-guesser : goal.invariant-loop-guesser
invariant-loop-guesser g l = record {
  guessers : map (λ m. m.guesser) l.members.items ≡ l.yielded;
  scores : map (λ m. m.score) l.members.items ≡ replicate (length l.yielded) 0;
}
