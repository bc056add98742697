use Rattle.std.proofs.Common.{◌≡◌, ℕ, refl, arith}
use Rattle.std.proofs.lemmas.Option.{slice_get_within}
use Rattle.l3_guess.specs.Scores.{risen}
use Rattle.l3_guess.proofs.Rows.{changed_more, map-changed, map-told}
use Rattle.l3_guess.proofs.member.tell_each.Goals as goal

pub loop-place-init : goal.loop-place-init
loop-place-init g c = λ k m e. (m, e, (λ lt. absurd (omega arith)), (λ _. refl))

pub loop-place-preserved : goal.loop-place-preserved
loop-place-preserved g c =
    changed_more (λ m n. (n.score ≡ risen m.score ((goal.Guesser-dyn g (m.guesser.vtable, m.guesser.value)).guesses m.guesser.value c.args.number) c.args.reserve)
    × ((i : ℕ) → (goal.Guesser-dyn g (n.guesser.vtable, n.guesser.value)).guesses n.guesser.value i
    ≡ (goal.Guesser-dyn g (m.guesser.vtable, m.guesser.value)).guesses_after m.guesser.value c.args.number c.args.reserve i))
    c.args.members.now c.loop-place.members c.loop-place.place c.index-members-place.result c.tell.new.self c.loop-place.invariant
    (c.tell.ensures.score, c.tell.ensures.after)

pub returns-clause-scores : goal.returns-clause-scores
returns-clause-scores g c =
    map-changed (λ m. m.score) (λ m. (goal.Guesser-dyn g (m.guesser.vtable, m.guesser.value)).guesses m.guesser.value c.args.number) c.args.reserve
    c.args.members.now c.loop-place.members (omega arith)
    (λ k m e.
    let o = c.loop-place.invariant k m e in
    let within = slice_get_within c.args.members.now k m e in
    (o.0, o.1, (o.2 (omega arith)).0))

pub returns-clause-after : goal.returns-clause-after
returns-clause-after g c = λ i.
    map-told (λ n. (goal.Guesser-dyn g (n.guesser.vtable, n.guesser.value)).guesses n.guesser.value i)
    (λ m. (goal.Guesser-dyn g (m.guesser.vtable, m.guesser.value)).guesses_after m.guesser.value c.args.number c.args.reserve i)
    c.args.members.now c.loop-place.members (omega arith)
    (λ k m e.
    let o = c.loop-place.invariant k m e in
    let within = slice_get_within c.args.members.now k m e in
    (o.0, o.1, (o.2 (omega arith)).1 i))
