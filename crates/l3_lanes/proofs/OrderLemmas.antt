-- A history, with the claims after the shut put before it, is a run of the board machine.
use Rattle.std.proofs.Common.{◌≡◌, ◌≢◌, ne_eqb, ℕ, zero, suc, ◌%◌, ◌==◌, Bool, true, false, true≢false, if◌then◌else◌, Some, List, [], ◌∷◌, ◌++◌, map, length, set, slice_get, replicate, refl, sym, ap, ◌∙◌, subst, length-set}
use Rattle.std.proofs.lemmas.List.{set_comm}
use native.Mathlib.Decide.{ℕ_discrete}
use Rattle.l3_board.specs.declared.cell.Content.{Content}
use Rattle.l3_board.specs.declared.cell.Content.TheVariants.{Empty, Offered, Claimed, Ready, Withdrawn}
use Rattle.l3_board.specs.declared.event.Event.{Event}
use Rattle.l3_board.specs.declared.event.Event.TheVariants as event
use Rattle.l3_board.specs.declared.event.Answer.{Answer}
use Rattle.l3_board.specs.declared.event.Answer.TheVariants as answer
use Rattle.l3_board.specs.declared.event.Claim.TheVariants.{Job}
use Rattle.l3_board.specs.Machine.{BoardState, Step, Run, cell_of, with_cell, fresh}
use Rattle.l3_lanes.specs.declared.view.Move.{Move}
use Rattle.l3_lanes.specs.History.{itself, opened, IsMove, offer_placed, claim_job, deposit_kept, deposit_late, take_got, take_revoked, take_in_work, board_shut, AreMoves, moves_of, is_shut, is_claim, before_shut, from_shut, claims_in, others_in, ClaimsFirst, in_order}
use Rattle.l3_lanes.specs.HistoryLaws.{HistoryIsRun, RuleHasRun}
use Rattle.l3_lanes.proofs.ShutLemmas.{moves_of-append}

-- lists in which two elements change
there_other : {A : Type 0} (l : List A) (c d : ℕ) (a : A) → c ≢ d → slice_get (set l c a) d ≡ slice_get l d
there_other [] c d a apart = refl
there_other (x ∷ l) zero zero a apart = absurd (apart refl)
there_other (x ∷ l) zero (suc d) a apart = refl
there_other (x ∷ l) (suc c) zero a apart = refl
there_other (x ∷ l) (suc c) (suc d) a apart = there_other l c d a (λ e. apart (ap suc e))

there_same : {A : Type 0} (l : List A) (c : ℕ) (a b x : A) → slice_get l c ≡ Some x → slice_get (set l c a) c ≡ Some b → a ≡ b
there_same [] c a b x at e = absurd cc
there_same (y ∷ l) zero a b x at e = cc
there_same (y ∷ l) (suc c) a b x at e = there_same l c a b x at e

-- boards are equal where their cells and their shut are
same_board : (a b : BoardState ℕ) → a.cells ≡ b.cells → a.shut ≡ b.shut → a ≡ b
same_board a b cells shut = λ k. record { cells = cells k; shut = shut k }

-- a cell changes, which is not on offer then, and after it one that is on offer is claimed: they
-- may change the other way
swapped : (before after last : BoardState ℕ) (i j : ℕ) (old new : Content ℕ) → cell_of before i ≡ Some old → after ≡ with_cell before i new → ((k : ℕ) → new ≡ Offered k → ⊥) → cell_of after j ≡ Some (Offered j) → last ≡ with_cell after j (Claimed j)
    → (cell_of before j ≡ Some (Offered j)) × (cell_of (with_cell before j (Claimed j)) i ≡ Some old) × (last ≡ with_cell (with_cell before j (Claimed j)) i new)
swapped before after last i j old new at changes no_offer on_offer claims =
    let l : List (Content ℕ) = before.cells in
    let n : ℕ = length l in
    let c : ℕ = i % n in
    let d : ℕ = j % n in
    let many : length (set l c new) ≡ n = length-set l c new in
    let many' : length (set l d (Claimed j)) ≡ n = length-set l d (Claimed j) in
    let cells : after.cells ≡ set l c new = ap (λ (b : BoardState ℕ). b.cells) changes in
    let on_offer' : slice_get (set l c new) d ≡ Some (Offered j) = ap (λ (z : ℕ). slice_get (set l c new) (j % z)) (sym many) ∙ (ap (λ (z : List (Content ℕ)). slice_get z (j % length z)) (sym cells) ∙ on_offer) in
    let apart : c ≢ d = λ same. no_offer j (there_same l c new (Offered j) old at (ap (λ (z : ℕ). slice_get (set l c new) z) same ∙ on_offer')) in
    let last_cells : last.cells ≡ set (set l c new) d (Claimed j) = ap (λ (b : BoardState ℕ). b.cells) claims ∙ (ap (λ (z : List (Content ℕ)). set z (j % length z) (Claimed j)) cells ∙ ap (λ (z : ℕ). set (set l c new) (j % z) (Claimed j)) many) in (
      sym (there_other l c d new apart) ∙ on_offer',
      ap (λ (z : ℕ). slice_get (set l d (Claimed j)) (i % z)) many' ∙ (there_other l d c (Claimed j) (λ e. apart (sym e)) ∙ at),
      same_board last (with_cell (with_cell before j (Claimed j)) i new)
          (last_cells ∙ (set_comm l c d new (Claimed j) apart ∙ ap (λ (z : ℕ). set (set l d (Claimed j)) (i % z) new) (sym many')))
          (ap (λ (b : BoardState ℕ). b.shut) claims ∙ ap (λ (b : BoardState ℕ). b.shut) changes),
    )

-- what is between a claim and the board before it
claimed_board : (before after : BoardState ℕ) (j : ℕ) → opened after ≡ with_cell (opened before) j (Claimed j) → after.shut ≡ before.shut → after ≡ with_cell before j (Claimed j)
claimed_board before after j cells shut = same_board after (with_cell before j (Claimed j)) (ap (λ (b : BoardState ℕ). b.cells) cells) shut

-- on a board that is shut, a claim may come before another move
abbrev Earlier : BoardState ℕ → ℕ → Event ℕ → Answer ℕ → BoardState ℕ → Type 0
Earlier before j e a last = (mid : BoardState ℕ) × IsMove before event.Claim (answer.Claim (Job j)) mid × IsMove mid e a last

earlier : (before after last : BoardState ℕ) (j : ℕ) (e : Event ℕ) (a : Answer ℕ) → IsMove before e a after → is_claim e ≡ false → before.shut ≡ true → cell_of after j ≡ Some (Offered j) → last ≡ with_cell after j (Claimed j) → Earlier before j e a last
earlier before after last j e a (offer_placed is) other shut on_offer claims = absurd (true≢false (sym shut ∙ is.0))
earlier before after last j e a (claim_job is same) other shut on_offer claims = absurd (true≢false other)
earlier before after last j e a (deposit_kept {i = i} is) other shut on_offer claims =
    let s = swapped before after last i j (Claimed i) (Ready i) is.0 is.1 (λ k e. absurd cc) on_offer claims in
    (with_cell before j (Claimed j), claim_job (refl, s.0, refl) refl, deposit_kept (s.1, s.2))
earlier before after last j e a (deposit_late {i = i} is) other shut on_offer claims =
    let s = swapped before after last i j (Withdrawn i) (Empty i) is.0 is.1 (λ k e. absurd cc) on_offer claims in
    (with_cell before j (Claimed j), claim_job (refl, s.0, refl) refl, deposit_late (s.1, s.2))
earlier before after last j e a (take_got {i = i} {spare = spare} {j = x} is) other shut on_offer claims =
    let s = swapped before after last i j (Ready x) (Empty spare) is.0 is.2 (λ k e. absurd cc) on_offer claims in
    (with_cell before j (Claimed j), claim_job (refl, s.0, refl) refl, take_got (s.1, is.1, s.2))
earlier before after last j e a (take_revoked {i = i} {spare = spare} {j = x} is) other shut on_offer claims =
    let s = swapped before after last i j (Offered x) (Empty spare) is.0 is.2 (λ k e. absurd cc) on_offer claims in
    (with_cell before j (Claimed j), claim_job (refl, s.0, refl) refl, take_revoked (s.1, is.1, s.2))
earlier before after last j e a (take_in_work {i = i} is) other shut on_offer claims =
    let s = swapped before after last i j (Claimed i) (Withdrawn i) is.0 is.2 (λ k e. absurd cc) on_offer claims in
    (with_cell before j (Claimed j), claim_job (refl, s.0, refl) refl, take_in_work (s.1, is.1, s.2))
earlier before after last j e a (board_shut is) other shut on_offer claims =
    let cells : after.cells ≡ before.cells = ap (λ (b : BoardState ℕ). b.cells) is in (
      with_cell before j (Claimed j),
      claim_job (refl, ap (λ (z : List (Content ℕ)). slice_get z (j % length z)) (sym cells) ∙ on_offer, refl) refl,
      board_shut (same_board last (record { cells = (with_cell before j (Claimed j)).cells; shut = true })
          (ap (λ (b : BoardState ℕ). b.cells) claims ∙ ap (λ (z : List (Content ℕ)). set z (j % length z) (Claimed j)) cells)
          (ap (λ (b : BoardState ℕ). b.shut) claims ∙ ap (λ (b : BoardState ℕ). b.shut) is)),
    )

-- the same, of a move that is a claim
claim_earlier : (before after last : BoardState ℕ) (d : Event ℕ) (b : Answer ℕ) (e : Event ℕ) (a : Answer ℕ) → IsMove after d b last → is_claim d ≡ true → IsMove before e a after → is_claim e ≡ false → before.shut ≡ true
    → (mid : BoardState ℕ) × IsMove before d b mid × IsMove mid e a last
claim_earlier before after last d b e a (claim_job {i = j} is same) claim first other shut =
    earlier before after last j e a first other shut is.1 (claimed_board after last j is.2 same)
claim_earlier before after last d b e a (offer_placed is) claim first other shut = absurd (true≢false (sym claim))
claim_earlier before after last d b e a (deposit_kept is) claim first other shut = absurd (true≢false (sym claim))
claim_earlier before after last d b e a (deposit_late is) claim first other shut = absurd (true≢false (sym claim))
claim_earlier before after last d b e a (take_got is) claim first other shut = absurd (true≢false (sym claim))
claim_earlier before after last d b e a (take_revoked is) claim first other shut = absurd (true≢false (sym claim))
claim_earlier before after last d b e a (take_in_work is) claim first other shut = absurd (true≢false (sym claim))
claim_earlier before after last d b e a (board_shut is) claim first other shut = absurd (true≢false (sym claim))

-- a board that is shut stays so
stays_shut : (before after : BoardState ℕ) (e : Event ℕ) (a : Answer ℕ) → IsMove before e a after → before.shut ≡ true → after.shut ≡ true
stays_shut before after e a (offer_placed is) shut = ap (λ (b : BoardState ℕ). b.shut) is.2 ∙ shut
stays_shut before after e a (claim_job is same) shut = same ∙ shut
stays_shut before after e a (deposit_kept is) shut = ap (λ (b : BoardState ℕ). b.shut) is.1 ∙ shut
stays_shut before after e a (deposit_late is) shut = ap (λ (b : BoardState ℕ). b.shut) is.1 ∙ shut
stays_shut before after e a (take_got is) shut = ap (λ (b : BoardState ℕ). b.shut) is.2 ∙ shut
stays_shut before after e a (take_revoked is) shut = ap (λ (b : BoardState ℕ). b.shut) is.2 ∙ shut
stays_shut before after e a (take_in_work is) shut = ap (λ (b : BoardState ℕ). b.shut) is.2 ∙ shut
stays_shut before after e a (board_shut is) shut = ap (λ (b : BoardState ℕ). b.shut) is

-- one that is not stays so without a shut
stays_open : (before after : BoardState ℕ) (e : Event ℕ) (a : Answer ℕ) → IsMove before e a after → before.shut ≡ false → is_shut e ≡ false → after.shut ≡ false
stays_open before after e a (offer_placed is) now no_shut = ap (λ (b : BoardState ℕ). b.shut) is.2 ∙ now
stays_open before after e a (claim_job is same) now no_shut = same ∙ now
stays_open before after e a (deposit_kept is) now no_shut = ap (λ (b : BoardState ℕ). b.shut) is.1 ∙ now
stays_open before after e a (deposit_late is) now no_shut = ap (λ (b : BoardState ℕ). b.shut) is.1 ∙ now
stays_open before after e a (take_got is) now no_shut = ap (λ (b : BoardState ℕ). b.shut) is.2 ∙ now
stays_open before after e a (take_revoked is) now no_shut = ap (λ (b : BoardState ℕ). b.shut) is.2 ∙ now
stays_open before after e a (take_in_work is) now no_shut = ap (λ (b : BoardState ℕ). b.shut) is.2 ∙ now
stays_open before after e a (board_shut is) now no_shut = absurd (true≢false no_shut)

-- a move that is no claim is a step of the board machine
other_step : (before after : BoardState ℕ) (e : Event ℕ) (a : Answer ℕ) → IsMove before e a after → is_claim e ≡ false → Step itself before e a after
other_step before after e a (offer_placed is) other = is
other_step before after e a (claim_job is same) other = absurd (true≢false other)
other_step before after e a (deposit_kept is) other = is
other_step before after e a (deposit_late is) other = is
other_step before after e a (take_got is) other = is
other_step before after e a (take_revoked is) other = is
other_step before after e a (take_in_work is) other = is
other_step before after e a (board_shut is) other = is

-- a claim is one on the boards as if they were not shut
claim_step : (before after : BoardState ℕ) (e : Event ℕ) (a : Answer ℕ) → IsMove before e a after → is_claim e ≡ true → Step itself (opened before) e a (opened after)
claim_step before after e a (claim_job is same) claim = is
claim_step before after e a (offer_placed is) claim = absurd (true≢false (sym claim))
claim_step before after e a (deposit_kept is) claim = absurd (true≢false (sym claim))
claim_step before after e a (deposit_late is) claim = absurd (true≢false (sym claim))
claim_step before after e a (take_got is) claim = absurd (true≢false (sym claim))
claim_step before after e a (take_revoked is) claim = absurd (true≢false (sym claim))
claim_step before after e a (take_in_work is) claim = absurd (true≢false (sym claim))
claim_step before after e a (board_shut is) claim = absurd (true≢false (sym claim))

open_same : (b : BoardState ℕ) → b.shut ≡ false → opened b ≡ b
open_same b e = same_board (opened b) b refl (sym e)

-- on a board that is not shut each move is a step of the board machine
open_step : (before after : BoardState ℕ) (e : Event ℕ) (a : Answer ℕ) → IsMove before e a after → before.shut ≡ false → is_shut e ≡ false → Step itself before e a after
open_step before after e a is now no_shut = both (is_claim e) refl
  where
    both : (b : Bool) → is_claim e ≡ b → Step itself before e a after
    both true claim = subst (λ (z : BoardState ℕ × BoardState ℕ). Step itself z.0 e a z.1) (λ k. (open_same before now k, open_same after (stays_open before after e a is now no_shut) k)) (claim_step before after e a is claim)
    both false other = other_step before after e a is other

-- what a shut does
shut_step : (before after : BoardState ℕ) (e : Event ℕ) (a : Answer ℕ) → IsMove before e a after → is_shut e ≡ true → (after.cells ≡ before.cells) × (after.shut ≡ true) × (is_claim e ≡ false) × ((b : BoardState ℕ) → Step itself b e a (record { cells = b.cells; shut = true }))
shut_step before after e a (board_shut is) shut = (ap (λ (b : BoardState ℕ). b.cells) is, ap (λ (b : BoardState ℕ). b.shut) is, refl, (λ b. refl))
shut_step before after e a (offer_placed is) shut = absurd (true≢false (sym shut))
shut_step before after e a (claim_job is same) shut = absurd (true≢false (sym shut))
shut_step before after e a (deposit_kept is) shut = absurd (true≢false (sym shut))
shut_step before after e a (deposit_late is) shut = absurd (true≢false (sym shut))
shut_step before after e a (take_got is) shut = absurd (true≢false (sym shut))
shut_step before after e a (take_revoked is) shut = absurd (true≢false (sym shut))
shut_step before after e a (take_in_work is) shut = absurd (true≢false (sym shut))

-- a run of moves that are steps of the board machine
abbrev Steps : BoardState ℕ → List Move → BoardState ℕ → Type 0
Steps before moves after = Run itself before (map (λ (m : Move). m.event) moves) (map (λ (m : Move). m.answer) moves) after

Steps-append : (xs ys : List Move) (before mid after : BoardState ℕ) → Steps before xs mid → Steps mid ys after → Steps before (xs ++ ys) after
Steps-append [] ys before mid after first more = subst (λ (b : BoardState ℕ). Steps b ys after) first more
Steps-append (x ∷ xs) ys before mid after first more = (first.0, first.1, Steps-append xs ys first.0 mid after first.2 more)

-- a move goes behind the claims that follow it
behind_claims : (moves : List Move) (before after last : BoardState ℕ) (e : Event ℕ) (a : Answer ℕ) → IsMove before e a after → is_claim e ≡ false → before.shut ≡ true → AreMoves after (claims_in moves) last
    → (mid : BoardState ℕ) × AreMoves before (claims_in moves) mid × IsMove mid e a last
behind_claims [] before after last e a first other shut are = (before, refl, subst (λ (b : BoardState ℕ). IsMove before e a b) (sym are) first)
behind_claims (m ∷ moves) before after last e a first other shut are = both (is_claim m.event) refl are (λ b c so now. behind_claims moves b c last e a so other now)
  where
    both : (b : Bool) → is_claim m.event ≡ b → AreMoves after (if b then m ∷ claims_in moves else claims_in moves) last
        → ((b c : BoardState ℕ) → IsMove b e a c → b.shut ≡ true → AreMoves c (claims_in moves) last → (mid : BoardState ℕ) × AreMoves b (claims_in moves) mid × IsMove mid e a last)
        → (mid : BoardState ℕ) × AreMoves before (if b then m ∷ claims_in moves else claims_in moves) mid × IsMove mid e a last
    both true claim are' later =
        let x = claim_earlier before after are'.0 m.event m.answer e a are'.1 claim first other shut in
        let y = later x.0 are'.0 x.2 (stays_shut before x.0 m.event m.answer x.1 shut) are'.2 in
        (y.0, (x.0, x.1, y.1), y.2)
    both false claim are' later = later before after first shut are'

stay_shut : (moves : List Move) (before after : BoardState ℕ) → AreMoves before moves after → before.shut ≡ true → after.shut ≡ true
stay_shut [] before after are shut = ap (λ (b : BoardState ℕ). b.shut) are ∙ shut
stay_shut (m ∷ moves) before after are shut = stay_shut moves are.0 after are.2 (stays_shut before are.0 m.event m.answer are.1 shut)

-- once the board is shut, all claims may come first
claims_come_first : (moves : List Move) (before after : BoardState ℕ) → AreMoves before moves after → before.shut ≡ true → (mid : BoardState ℕ) × AreMoves before (claims_in moves) mid × AreMoves mid (others_in moves) after
claims_come_first [] before after are shut = (before, refl, are)
claims_come_first (m ∷ moves) before after are shut = both (is_claim m.event) refl (claims_come_first moves are.0 after are.2 (stays_shut before are.0 m.event m.answer are.1 shut))
  where
    both : (b : Bool) → is_claim m.event ≡ b → (mid : BoardState ℕ) × AreMoves are.0 (claims_in moves) mid × AreMoves mid (others_in moves) after
        → (mid : BoardState ℕ) × AreMoves before (if b then m ∷ claims_in moves else claims_in moves) mid × AreMoves mid (if b then others_in moves else m ∷ others_in moves) after
    both true claim so = (so.0, (are.0, are.1, so.1), so.2)
    both false other so =
        let x = behind_claims moves before are.0 so.0 m.event m.answer are.1 other shut so.1 in
        (x.0, x.1, (so.0, x.2, so.2))

-- claims are steps on the boards as if they were not shut
claims_step : (moves : List Move) (before after : BoardState ℕ) → AreMoves before (claims_in moves) after → Steps (opened before) (claims_in moves) (opened after)
claims_step [] before after are = ap (λ (b : BoardState ℕ). opened b) are
claims_step (m ∷ moves) before after are = both (is_claim m.event) refl are (λ b so. claims_step moves b after so)
  where
    both : (b : Bool) → is_claim m.event ≡ b → AreMoves before (if b then m ∷ claims_in moves else claims_in moves) after → ((b : BoardState ℕ) → AreMoves b (claims_in moves) after → Steps (opened b) (claims_in moves) (opened after))
        → Steps (opened before) (if b then m ∷ claims_in moves else claims_in moves) (opened after)
    both true claim are' later = (opened are'.0, claim_step before are'.0 m.event m.answer are'.1 claim, later are'.0 are'.2)
    both false claim are' later = later before are'

others_step : (moves : List Move) (before after : BoardState ℕ) → AreMoves before (others_in moves) after → Steps before (others_in moves) after
others_step [] before after are = are
others_step (m ∷ moves) before after are = both (is_claim m.event) refl are (λ b so. others_step moves b after so)
  where
    both : (b : Bool) → is_claim m.event ≡ b → AreMoves before (if b then others_in moves else m ∷ others_in moves) after → ((b : BoardState ℕ) → AreMoves b (others_in moves) after → Steps b (others_in moves) after)
        → Steps before (if b then others_in moves else m ∷ others_in moves) after
    both true claim are' later = later before are'
    both false other are' later = (are'.0, other_step before are'.0 m.event m.answer are'.1 other, later are'.0 are'.2)

-- what comes after a board that is not shut, the first move being a shut
shut_steps : (m : Move) (moves : List Move) (before after : BoardState ℕ) → AreMoves before (m ∷ moves) after → before.shut ≡ false → is_shut m.event ≡ true → Steps before (claims_in (m ∷ moves) ++ others_in (m ∷ moves)) after
shut_steps m moves before after are now shut =
    let s = shut_step before are.0 m.event m.answer are.1 shut in
    let c = claims_come_first moves are.0 after are.2 s.1 in
    let claims : Steps before (claims_in moves) (opened c.0) = subst (λ (b : BoardState ℕ). Steps b (claims_in moves) (opened c.0)) (same_board (opened are.0) before s.0 (sym now)) (claims_step moves are.0 c.0 c.1) in
    let closes : record { cells = c.0.cells; shut = true } ≡ c.0 = same_board (record { cells = c.0.cells; shut = true }) c.0 refl (sym (stay_shut (claims_in moves) are.0 c.0 c.1 s.1)) in
    let last : Steps (opened c.0) (m ∷ others_in moves) after = (c.0, subst (λ (b : BoardState ℕ). Step itself (opened c.0) m.event m.answer b) closes (s.3 (opened c.0)), others_step moves c.0 after c.2) in
    rw s.2 (Steps-append (claims_in moves) (m ∷ others_in moves) before (opened c.0) after claims last)

-- a board that is not shut, and moves from it
order_steps : (moves : List Move) (before after : BoardState ℕ) → AreMoves before moves after → before.shut ≡ false → Steps before (in_order moves) after
order_steps [] before after are now = are
order_steps (m ∷ moves) before after are now = both (is_shut m.event) refl (λ so. order_steps moves are.0 after are.2 so)
  where
    both : (b : Bool) → is_shut m.event ≡ b → (are.0.shut ≡ false → Steps are.0 (in_order moves) after)
        → Steps before ((if b then [] else m ∷ before_shut moves) ++ (claims_in (if b then m ∷ moves else from_shut moves) ++ others_in (if b then m ∷ moves else from_shut moves))) after
    both true shut later = shut_steps m moves before after are now shut
    both false no_shut later = (are.0, open_step before are.0 m.event m.answer are.1 now no_shut, later (stays_open before are.0 m.event m.answer are.1 now no_shut))

-- each seat's moves keep their order
moves_of-claims : (p : ℕ) (moves : List Move) → ClaimsFirst moves → moves_of p (claims_in moves ++ others_in moves) ≡ moves_of p moves
moves_of-claims p [] first = refl
moves_of-claims p (m ∷ moves) first = both (is_claim m.event) (moves_of-claims p moves first.1)
  where
    split : moves_of p (claims_in moves ++ others_in moves) ≡ moves_of p moves → moves_of p (claims_in moves) ++ moves_of p (others_in moves) ≡ moves_of p moves
    split so = sym (moves_of-append p (claims_in moves) (others_in moves)) ∙ so

    other : Dec (m.seat ≡ p) → moves_of p (claims_in moves ++ others_in moves) ≡ moves_of p moves → moves_of p (claims_in moves ++ m ∷ others_in moves) ≡ moves_of p (m ∷ moves)
    other (yes same) so =
        let none : moves_of p (claims_in moves) ≡ [] = subst (λ (z : ℕ). moves_of z (claims_in moves) ≡ []) same first.0 in
        let rest : moves_of p (others_in moves) ≡ moves_of p moves = ap (λ (z : List Move). z ++ moves_of p (others_in moves)) (sym none) ∙ split so in
        moves_of-append p (claims_in moves) (m ∷ others_in moves) ∙ (ap (λ (z : List Move). z ++ moves_of p (m ∷ others_in moves)) none ∙ ap (λ (z : List Move). if m.seat == p then m ∷ z else z) rest)
    other (no apart) so =
        let here : (l : List Move) → moves_of p (m ∷ l) ≡ moves_of p l = λ l. rw (ne_eqb m.seat p apart) refl in
        moves_of-append p (claims_in moves) (m ∷ others_in moves) ∙ (ap (λ (z : List Move). moves_of p (claims_in moves) ++ z) (here (others_in moves)) ∙ (split so ∙ sym (here moves)))

    both : (b : Bool) → moves_of p (claims_in moves ++ others_in moves) ≡ moves_of p moves → moves_of p ((if b then m ∷ claims_in moves else claims_in moves) ++ (if b then others_in moves else m ∷ others_in moves)) ≡ moves_of p (m ∷ moves)
    both true so = ap (λ (z : List Move). if m.seat == p then m ∷ z else z) so
    both false so = other (ℕ_discrete m.seat p) so

shut_splits : (moves : List Move) → before_shut moves ++ from_shut moves ≡ moves
shut_splits [] = refl
shut_splits (m ∷ moves) = both (is_shut m.event) (shut_splits moves)
  where
    both : (b : Bool) → before_shut moves ++ from_shut moves ≡ moves → (if b then [] else m ∷ before_shut moves) ++ (if b then m ∷ moves else from_shut moves) ≡ m ∷ moves
    both true so = refl
    both false so = ap (λ (z : List Move). m ∷ z) so

moves_of-in_order : (p : ℕ) (moves : List Move) → ClaimsFirst (from_shut moves) → moves_of p (in_order moves) ≡ moves_of p moves
moves_of-in_order p moves first =
    moves_of-append p (before_shut moves) (claims_in (from_shut moves) ++ others_in (from_shut moves))
    ∙ (ap (λ (z : List Move). moves_of p (before_shut moves) ++ z) (moves_of-claims p (from_shut moves) first)
    ∙ (sym (moves_of-append p (before_shut moves) (from_shut moves)) ∙ ap (λ (z : List Move). moves_of p z) (shut_splits moves)))

pub history_is_run : HistoryIsRun
history_is_run cells moves board h = (order_steps moves (fresh (replicate cells 0)) board h.0 refl, (λ p. moves_of-in_order p moves h.1))

pub rule_has_run : {T : Type 0} (number : T → ℕ) → RuleHasRun number
rule_has_run number s h =
    let r = h.1.3 in
    let run = history_is_run (length h.1.1.cells) h.1.0 h.1.1 r.history in
    (h.1.0, h.1.1, h.1.2, r.shows, run.0, (λ p k at. run.1 p ∙ (r.seen p k at).1), (λ p later. run.1 p ∙ r.others p later))
