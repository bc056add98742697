use Rattle.std.proofs.Common.{◌≡◌, ◌≤◌, ◌<◌, ◌+◌, ℕ, List, [], ◌∷◌, ◌++◌, length, vec_len, length-append, append_assoc, append-nil, refl, ap, sym, ◌∙◌, arith}
use Rattle.l3_board.proofs.RunLemmas.{replies-next, state_after-next, Run-append}
use Rattle.l3_board.proofs.machine.Core.run.Goals as goal

-- one more was answered and one more event is done
counted : {A : Type 0} {new old : ℕ} (done : List A) (x : A) → new ≡ old + 1 → old ≡ length done → new ≡ length (done ++ x ∷ [])
counted done x e f = simp length-append (omega arith)

-- an event goes from what is left to what is done
rest_after : {A : Type 0} (done rest left : List A) (x : A) (all : List A) → done ++ rest ≡ all → rest ≡ x ∷ left → (done ++ x ∷ []) ++ left ≡ all
rest_after done rest left x all e f = append_assoc done (x ∷ []) left ∙ ap (λ r. done ++ r) (sym f) ∙ e

-- while an event is left, fewer are done than there are
fewer_done : {A : Type 0} (done rest left : List A) (x : A) (all : List A) → done ++ rest ≡ all → rest ≡ x ∷ left → length done < length all
fewer_done done rest left x all e f =
    let n : length done + length rest ≡ length all = sym (length-append done rest) ∙ ap length e in
    let m : length rest ≡ length left + 1 = rw f (omega arith) in
    omega arith

-- an answer has room while fewer events are done than there are
room_left : {len done capacity before all count : ℕ} → len ≡ done → capacity ≡ before → done < all → count ≡ all → count ≤ before → len < capacity
room_left e f fewer g h = omega arith

-- where none is left, all are done
all_done : {A : Type 0} (done rest all : List A) (n : ℕ) → done ++ rest ≡ all → n ≡ 0 → n ≡ length rest → done ≡ all
all_done done [] all n e z l = sym (append-nil done) ∙ e
all_done done (x ∷ rest) all n e z l = absurd (omega arith)

pub loop-event-init : goal.loop-event-init
loop-event-init g c =
    let empty = c.requires.empty in
    record {
      replies = empty;
      after = refl;
      run = rw empty refl;
      count = c.args.answers.now.ok.0 ∙ ap length empty;
      room = refl;
      rest = c.into_iter-event-iterator.ensures.into_iter_gives.0;
    }

pub push_reserved-requires : goal.push_reserved-requires
push_reserved-requires g c =
    let invariant = c.loop-event.invariant in
    let fewer = fewer_done c.loop-event.yielded _ _ c.in-Some.event _ invariant.rest c.in-Some.ensures.steps.0 in
    room_left invariant.count invariant.room fewer c.args.events.ok.0 c.requires.room

pub loop-event-preserved : goal.loop-event-preserved
loop-event-preserved g c =
    let number = g.T.Numbered.number_of in
    record {
      replies = rw (c.push_reserved.ensures.items, c.serve.ensures.answer) (replies-next number c.args.self.now c.loop-event.self c.loop-event.yielded c.loop-event.answers.items c.in-Some.event c.loop-event.invariant.replies c.loop-event.invariant.after);
      after = rw c.serve.ensures.after (state_after-next number c.args.self.now c.loop-event.self c.loop-event.yielded c.in-Some.event c.loop-event.invariant.after);
      run = rw c.push_reserved.ensures.items (Run-append number _ _ _ _ _ _ _ c.loop-event.invariant.run c.serve.ensures.step);
      count = counted {new = vec_len c.push_reserved.new.self} {old = vec_len c.loop-event.answers} c.loop-event.yielded c.in-Some.event c.push_reserved.ensures.len c.loop-event.invariant.count;
      room = rw c.push_reserved.ensures.capacity c.loop-event.invariant.room;
      rest = rest_after c.loop-event.yielded _ _ c.in-Some.event _ c.loop-event.invariant.rest c.in-Some.ensures.steps.0;
    }

pub returns-clause-replies : goal.returns-clause-replies
returns-clause-replies g c =
    let invariant = c.loop-event.invariant in
    let done = all_done c.loop-event.yielded _ _ _ invariant.rest c.in-None.ensures.steps.0 c.loop-event.event-iterator.rest.ok.0 in
    rw (← done) invariant.replies

pub returns-clause-after : goal.returns-clause-after
returns-clause-after g c =
    let invariant = c.loop-event.invariant in
    let done = all_done c.loop-event.yielded _ _ _ invariant.rest c.in-None.ensures.steps.0 c.loop-event.event-iterator.rest.ok.0 in
    rw (← done) invariant.after

pub returns-clause-run : goal.returns-clause-run
returns-clause-run g c =
    let invariant = c.loop-event.invariant in
    let done = all_done c.loop-event.yielded _ _ _ invariant.rest c.in-None.ensures.steps.0 c.loop-event.event-iterator.rest.ok.0 in
    rw (← done) invariant.run
