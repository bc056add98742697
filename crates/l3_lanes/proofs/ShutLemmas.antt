-- Moves before and after the shut.
use Rattle.std.proofs.Common.{◌≡◌, ℕ, ◌+◌, ◌⊎◌, inl, inr, ⊎_elim, ◌==◌, Bool, true, false, true≢false, if◌then◌else◌, List, [], ◌∷◌, ◌++◌, length, refl, sym, ap, ◌∙◌, subst, arith, eq-eqb, ne_eqb}
use Rattle.std.proofs.lemmas.List.{length-append}
use Rattle.l3_board.specs.declared.event.Event.{Event}
use Rattle.l3_board.specs.declared.event.Answer.{Answer}
use Rattle.l3_board.specs.Machine.{BoardState}
use Rattle.l3_lanes.specs.declared.view.Move.{Move}
use Rattle.l3_lanes.specs.History.{IsMove, offer_placed, claim_job, deposit_kept, deposit_late, take_got, take_revoked, take_in_work, board_shut, AreMoves, IsHistory, moves_of, is_shut, is_claim, from_shut, claims_in, ClaimsFirst, BeginsWith}

pub AreMoves-append : (moves : List Move) (before mid after : BoardState ℕ) (m : Move) → AreMoves before moves mid → IsMove mid m.event m.answer after → AreMoves before (moves ++ m ∷ []) after
AreMoves-append [] before mid after m are is = (after, subst (λ (b : BoardState ℕ). IsMove b m.event m.answer after) are is, refl)
AreMoves-append (n ∷ moves) before mid after m are is = (are.0, are.1, AreMoves-append moves are.0 mid after m are.2 is)

-- the moves of a seat
pub moves_of-append : (p : ℕ) (xs ys : List Move) → moves_of p (xs ++ ys) ≡ moves_of p xs ++ moves_of p ys
moves_of-append p [] ys = refl
moves_of-append p (x ∷ xs) ys = both (x.seat == p) (moves_of-append p xs ys)
  where
    both : (b : Bool) → moves_of p (xs ++ ys) ≡ moves_of p xs ++ moves_of p ys → (if b then x ∷ moves_of p (xs ++ ys) else moves_of p (xs ++ ys)) ≡ (if b then x ∷ moves_of p xs else moves_of p xs) ++ moves_of p ys
    both true so = ap (λ (z : List Move). x ∷ z) so
    both false so = so

pub moves_of-mine : (p : ℕ) (moves : List Move) (m : Move) → m.seat ≡ p → moves_of p (moves ++ m ∷ []) ≡ moves_of p moves ++ m ∷ []
moves_of-mine p moves m e =
    let one : moves_of p (m ∷ []) ≡ m ∷ [] = rw (eq-eqb m.seat p e) refl in
    moves_of-append p moves (m ∷ []) ∙ ap (λ (z : List Move). moves_of p moves ++ z) one

pub moves_of-other : (p : ℕ) (moves : List Move) (m : Move) → (m.seat ≡ p → ⊥) → moves_of p (moves ++ m ∷ []) ≡ moves_of p moves
moves_of-other p [] m e = rw (ne_eqb m.seat p e) refl
moves_of-other p (n ∷ moves) m e = ap (λ (z : List Move). if n.seat == p then n ∷ z else z) (moves_of-other p moves m e)

-- a seat that made none of the moves made none of the later ones
none_more : (b : Bool) (m : Move) (moves : List Move) → (if b then m ∷ moves else moves) ≡ [] → moves ≡ []
none_more true m moves e = absurd cc
none_more false m moves e = e

none_of : (p : ℕ) (m : Move) (moves : List Move) → moves_of p (m ∷ moves) ≡ [] → (m.seat ≡ p → ⊥) × (moves_of p moves ≡ [])
none_of p m moves e = ((λ same. let q : m ∷ moves_of p moves ≡ [] = rw (eq-eqb m.seat p same) at e in absurd cc), none_more (m.seat == p) m (moves_of p moves) e)

pub moves_of-from_shut : (p : ℕ) (moves : List Move) → moves_of p moves ≡ [] → moves_of p (from_shut moves) ≡ []
moves_of-from_shut p [] e = refl
moves_of-from_shut p (m ∷ moves) e = both (is_shut m.event) (moves_of-from_shut p moves ((none_of p m moves e).1))
  where
    both : (b : Bool) → moves_of p (from_shut moves) ≡ [] → moves_of p (if b then m ∷ moves else from_shut moves) ≡ []
    both true so = e
    both false so = so

append_same : (xs ys : List Move) → xs ++ ys ≡ xs → ys ≡ []
append_same xs [] e = refl
append_same xs (y ∷ ys) e = let q : length (xs ++ y ∷ ys) ≡ length xs = ap (λ (z : List Move). length z) e in let r : length (xs ++ y ∷ ys) ≡ length xs + length (y ∷ ys) = length-append xs (y ∷ ys) in absurd (omega arith)

-- what comes from the first shut on, with one move more
from_shut-append : (moves : List Move) (m : Move) → (from_shut (moves ++ m ∷ []) ≡ from_shut moves ++ m ∷ []) ⊎ (from_shut (moves ++ m ∷ []) ≡ [])
from_shut-append [] m = both (is_shut m.event)
  where
    both : (b : Bool) → ((if b then m ∷ [] else []) ≡ m ∷ []) ⊎ ((if b then m ∷ [] else []) ≡ [])
    both true = inl refl
    both false = inr refl
from_shut-append (n ∷ moves) m = both (is_shut n.event) (from_shut-append moves m)
  where
    both : (b : Bool) → (from_shut (moves ++ m ∷ []) ≡ from_shut moves ++ m ∷ []) ⊎ (from_shut (moves ++ m ∷ []) ≡ []) → ((if b then n ∷ (moves ++ m ∷ []) else from_shut (moves ++ m ∷ [])) ≡ (if b then n ∷ moves else from_shut moves) ++ m ∷ []) ⊎ ((if b then n ∷ (moves ++ m ∷ []) else from_shut (moves ++ m ∷ [])) ≡ [])
    both true so = inl refl
    both false so = so

from_shut-more : (seen more : List Move) → from_shut seen ≡ [] → from_shut (seen ++ more) ≡ from_shut more
from_shut-more [] more e = refl
from_shut-more (m ∷ seen) more e = both (is_shut m.event) (λ so. from_shut-more seen more so) e
  where
    both : (b : Bool) → (from_shut seen ≡ [] → from_shut (seen ++ more) ≡ from_shut more) → (if b then m ∷ seen else from_shut seen) ≡ [] → (if b then m ∷ (seen ++ more) else from_shut (seen ++ more)) ≡ from_shut more
    both true later no_shut = absurd cc
    both false later no_shut = later no_shut

claims_in-claim : (moves : List Move) (m : Move) → is_claim m.event ≡ true → claims_in (moves ++ m ∷ []) ≡ claims_in moves ++ m ∷ []
claims_in-claim [] m e = rw e refl
claims_in-claim (n ∷ moves) m e = both (is_claim n.event) (claims_in-claim moves m e)
  where
    both : (b : Bool) → claims_in (moves ++ m ∷ []) ≡ claims_in moves ++ m ∷ [] → (if b then n ∷ claims_in (moves ++ m ∷ []) else claims_in (moves ++ m ∷ [])) ≡ (if b then n ∷ claims_in moves else claims_in moves) ++ m ∷ []
    both true so = ap (λ (z : List Move). n ∷ z) so
    both false so = so

claims_in-other : (moves : List Move) (m : Move) → is_claim m.event ≡ false → claims_in (moves ++ m ∷ []) ≡ claims_in moves
claims_in-other [] m e = rw e refl
claims_in-other (n ∷ moves) m e = ap (λ (z : List Move). if is_claim n.event then n ∷ z else z) (claims_in-other moves m e)

-- one move more, which is no claim of a seat that has moved
ClaimsFirst-append : (moves : List Move) (m : Move) → ClaimsFirst moves → (is_claim m.event ≡ true → moves_of m.seat moves ≡ []) → ClaimsFirst (moves ++ m ∷ [])
ClaimsFirst-append [] m so first = (refl, tt)
ClaimsFirst-append (n ∷ moves) m so first = (now (is_claim m.event) refl, ClaimsFirst-append moves m so.1 (λ e. (none_of m.seat n moves (first e)).1))
  where
    now : (b : Bool) → is_claim m.event ≡ b → moves_of n.seat (claims_in (moves ++ m ∷ [])) ≡ []
    now true e = let apart = (none_of m.seat n moves (first e)).0 in
        ap (λ (z : List Move). moves_of n.seat z) (claims_in-claim moves m e) ∙ (moves_of-other n.seat (claims_in moves) m (λ same. apart (sym same)) ∙ so.0)
    now false e = ap (λ (z : List Move). moves_of n.seat z) (claims_in-other moves m e) ∙ so.0

pub IsHistory-append : (cells : ℕ) (moves : List Move) (mid after : BoardState ℕ) (m : Move) → IsHistory cells moves mid → IsMove mid m.event m.answer after → (is_claim m.event ≡ true → moves_of m.seat (from_shut moves) ≡ []) → IsHistory cells (moves ++ m ∷ []) after
IsHistory-append cells moves mid after m h is first = (
  AreMoves-append moves _ mid after m h.0 is,
  ⊎_elim
      (λ e. subst (λ (z : List Move). ClaimsFirst z) (sym e) (ClaimsFirst-append (from_shut moves) m h.1 first))
      (λ e. subst (λ (z : List Move). ClaimsFirst z) (sym e) tt)
      (from_shut-append moves m),
)

-- a board that is not shut was not shut before
was_open : (before after : BoardState ℕ) (e : Event ℕ) (a : Answer ℕ) → IsMove before e a after → after.shut ≡ false → (before.shut ≡ false) × (is_shut e ≡ false)
was_open before after e a (offer_placed is) now = (sym (ap (λ (b : BoardState ℕ). b.shut) is.2) ∙ now, refl)
was_open before after e a (claim_job is same) now = (sym same ∙ now, refl)
was_open before after e a (deposit_kept is) now = (sym (ap (λ (b : BoardState ℕ). b.shut) is.1) ∙ now, refl)
was_open before after e a (deposit_late is) now = (sym (ap (λ (b : BoardState ℕ). b.shut) is.1) ∙ now, refl)
was_open before after e a (take_got is) now = (sym (ap (λ (b : BoardState ℕ). b.shut) is.2) ∙ now, refl)
was_open before after e a (take_revoked is) now = (sym (ap (λ (b : BoardState ℕ). b.shut) is.2) ∙ now, refl)
was_open before after e a (take_in_work is) now = (sym (ap (λ (b : BoardState ℕ). b.shut) is.2) ∙ now, refl)
was_open before after e a (board_shut is) now = absurd (true≢false (sym (ap (λ (b : BoardState ℕ). b.shut) is) ∙ now))

pub never_shut : (moves : List Move) (before after : BoardState ℕ) → AreMoves before moves after → after.shut ≡ false → (from_shut moves ≡ []) × (before.shut ≡ false)
never_shut [] before after are now = (refl, sym (ap (λ (b : BoardState ℕ). b.shut) are) ∙ now)
never_shut (m ∷ moves) before after are now =
    let later = never_shut moves are.0 after are.2 now in
    let w = was_open before are.0 m.event m.answer are.1 later.1 in
    (rw w.1 later.0, w.0)

-- a seat that had seen no shut since its last move has made none after it
pub claims_first : (cells p : ℕ) (moves seen mine : List Move) (board : BoardState ℕ) → BeginsWith moves seen → moves_of p moves ≡ mine → moves_of p seen ≡ mine → IsHistory cells seen board → board.shut ≡ false → moves_of p (from_shut moves) ≡ []
claims_first cells p moves seen mine board begins all own h now =
    let none = (never_shut seen _ board h.0 now).0 in
    let later : moves_of p begins.0 ≡ [] = append_same mine (moves_of p begins.0) (ap (λ (z : List Move). z ++ moves_of p begins.0) (sym own) ∙ (sym (moves_of-append p seen begins.0) ∙ (ap (λ (z : List Move). moves_of p z) (sym begins.1) ∙ all))) in
    ap (λ (z : List Move). moves_of p (from_shut z)) begins.1 ∙ (ap (λ (z : List Move). moves_of p z) (from_shut-more seen begins.0 none) ∙ moves_of-from_shut p begins.0 later)
