use Rattle.std.proofs.Common.{◌∙◌, ◌+◌, ◌%◌, ◌++◌, map, take, drop, length, ap, refl, arith}
use Rattle.std.proofs.lemmas.Option.{IfSome_then}
use Rattle.l3_guess.specs.Scores.{all_risen}
use Rattle.l3_guess.proofs.Rows.{written_back, after_tell-between, answers-between, answers-turn, IfNone-then, guess_after-same}
use Rattle.l3_guess.proofs.panel.PanelGuesser.tell.Goals as goal

pub returns-else-self-eq0-clause-scores : goal.returns-else-self-eq0-clause-scores
returns-else-self-eq0-clause-scores g c =
    let told = rw c.deref_mut.ensures.value at c.tell_each.ensures.scores in
    let same = written_back c.args.self.now.members.items c.tell_each.new.members c.args.self.now.members.len (omega arith) (omega arith) in
    rw (after_tell-between _ _ c.if-self-eq0.false, same) told

pub returns-else-self-eq0-clause-answers : goal.returns-else-self-eq0-clause-answers
returns-else-self-eq0-clause-answers g c = λ n.
    answers-between (λ m. (goal.Guesser-dyn g (m.guesser.vtable, m.guesser.value)).guesses m.guesser.value n)
    c.args.self.now.members.items c.tell_each.new.members c.args.self.now.members.len _ _ _ (omega arith) (omega arith) c.if-self-eq0.false
    (rw c.deref_mut.ensures.value at (c.tell_each.ensures.after n))

pub returns-else-self-eq0-clause-after : goal.returns-else-self-eq0-clause-after
returns-else-self-eq0-clause-after g c = λ n.
    guess_after-same ((c.args.self.now.tells + 1) % 256) ((c.args.self.now.tells + 1) % 256)
    (all_risen (map (λ m. m.score) c.args.self.now.members.items)
    (map (λ m. (goal.Guesser-dyn g (m.guesser.vtable, m.guesser.value)).guesses m.guesser.value c.args.number) c.args.self.now.members.items) c.args.reserve)
    (map (λ m. (goal.Guesser-dyn g (m.guesser.vtable, m.guesser.value)).guesses_after m.guesser.value c.args.number c.args.reserve n) c.args.self.now.members.items)
    (map (λ m. m.score) (take c.args.self.now.members.len (c.tell_each.new.members ++ drop (length c.tell_each.new.members) c.args.self.now.members.items)))
    (map (λ m. (goal.Guesser-dyn g (m.guesser.vtable, m.guesser.value)).guesses m.guesser.value n) (take c.args.self.now.members.len (c.tell_each.new.members ++ drop (length c.tell_each.new.members) c.args.self.now.members.items)))
    refl (returns-else-self-eq0-clause-scores g c) (returns-else-self-eq0-clause-answers g c n)

pub returns-then-self-eq0-clause-scores : goal.returns-then-self-eq0-clause-scores
returns-then-self-eq0-clause-scores g c =
    let dropped = c.drop_worst.ensures in
    let told = rw c.deref_mut.ensures.value at c.tell_each.ensures.scores in
    answers-turn (λ m. m.score) (λ m. m.score)
    c.args.self.now.members.items c.tell_each.new.members c.drop_worst.new.self.members.items c.args.self.now.members.len _ _ _ c.drop_worst.result (omega arith) (omega arith) (dropped.tells ∙ c.if-self-eq0.true)
    told told
    dropped.one (IfNone-then c.drop_worst.result _ _ (λ same. ap (λ p. p.members.items) same) dropped.unchanged) dropped.several dropped.place dropped.scores

pub returns-then-self-eq0-clause-answers : goal.returns-then-self-eq0-clause-answers
returns-then-self-eq0-clause-answers g c = λ n.
    let dropped = c.drop_worst.ensures in
    answers-turn (λ m. m.score) (λ m. (goal.Guesser-dyn g (m.guesser.vtable, m.guesser.value)).guesses m.guesser.value n)
    c.args.self.now.members.items c.tell_each.new.members c.drop_worst.new.self.members.items c.args.self.now.members.len _ _ _ c.drop_worst.result (omega arith) (omega arith) (dropped.tells ∙ c.if-self-eq0.true)
    (rw c.deref_mut.ensures.value at c.tell_each.ensures.scores) (rw c.deref_mut.ensures.value at (c.tell_each.ensures.after n))
    dropped.one (IfNone-then c.drop_worst.result _ _ (λ same. ap (λ p. p.members.items) same) dropped.unchanged) dropped.several dropped.place
    (IfSome_then c.drop_worst.result dropped.answers (λ place answers. answers n))

pub returns-then-self-eq0-clause-after : goal.returns-then-self-eq0-clause-after
returns-then-self-eq0-clause-after g c = λ n.
    guess_after-same ((c.args.self.now.tells + 1) % 256) c.drop_worst.new.self.tells
    (all_risen (map (λ m. m.score) c.args.self.now.members.items)
    (map (λ m. (goal.Guesser-dyn g (m.guesser.vtable, m.guesser.value)).guesses m.guesser.value c.args.number) c.args.self.now.members.items) c.args.reserve)
    (map (λ m. (goal.Guesser-dyn g (m.guesser.vtable, m.guesser.value)).guesses_after m.guesser.value c.args.number c.args.reserve n) c.args.self.now.members.items)
    (map (λ m. m.score) c.drop_worst.new.self.members.items)
    (map (λ m. (goal.Guesser-dyn g (m.guesser.vtable, m.guesser.value)).guesses m.guesser.value n) c.drop_worst.new.self.members.items)
    c.drop_worst.ensures.tells (returns-then-self-eq0-clause-scores g c) (returns-then-self-eq0-clause-answers g c n)
