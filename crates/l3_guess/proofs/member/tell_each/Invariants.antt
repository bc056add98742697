use Rattle.std.proofs.Common.{◌≡◌, ℕ, ◌<◌, ◌≤◌, slice_get, Some}
use Rattle.l3_guess.specs.Scores.{risen}
use Rattle.l3_guess.proofs.member.tell_each.Given as goal

abbrev pub invariant-loop-place : goal.invariant-loop-place
invariant-loop-place g l = (k : ℕ) (m : _) → slice_get l.fn.members k ≡ Some m → (n : _) × (slice_get l.members k ≡ Some n) × (k < l.place → (n.score ≡ risen m.score ((goal.Guesser-dyn g (m.guesser.vtable, m.guesser.value)).guesses m.guesser.value l.number) l.reserve)
    × ((i : ℕ) → (goal.Guesser-dyn g (n.guesser.vtable, n.guesser.value)).guesses n.guesser.value i
    ≡ (goal.Guesser-dyn g (m.guesser.vtable, m.guesser.value)).guesses_after m.guesser.value l.number l.reserve i)) × (l.place ≤ k → n ≡ m)
