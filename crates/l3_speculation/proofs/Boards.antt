-- What a board holds and hands out in a run is sound, since what is given to it is.
use Rattle.std.proofs.Common.{◌≡◌, sym, subst, inl, inr, ◌⊎◌, ℕ, zero, suc, ◌%◌, Some, List, [], ◌∷◌, length, set, slice_get}
use Rattle.std.specs.Prelude.{All, ℤ}
use Rattle.std.proofs.lemmas.List.Elements.{All-nil}
use Rattle.l3_base.specs.declared.settings.Settings.{Settings}
use Rattle.l3_board.specs.declared.cell.Content.{Content}
use Rattle.l3_board.specs.declared.cell.Content.TheVariants.{Empty, Offered, Claimed, Ready, Withdrawn}
use Rattle.l3_board.specs.declared.event.Event.{Event}
use Rattle.l3_board.specs.declared.event.Event.TheVariants as event
use Rattle.l3_board.specs.declared.event.Answer.{Answer}
use Rattle.l3_board.specs.declared.event.Answer.TheVariants as answer
use Rattle.l3_board.specs.declared.event.Offer.TheVariants.{Placed, Busy}
use Rattle.l3_board.specs.declared.event.Claim.TheVariants.{Job, Nothing, Shut}
use Rattle.l3_board.specs.declared.event.Deposit.TheVariants.{Kept, Late, Stray}
use Rattle.l3_board.specs.declared.event.Take.TheVariants.{Got, Revoked, InWork, NotOffered}
use Rattle.l3_board.specs.Machine.{BoardState, Step, with_cell}
use Rattle.l3_board.specs.Items.{given, handed_out, items_of}
use Rattle.l3_analysis.specs.Piece.{IsSound, PieceView}
use Rattle.l3_speculation.specs.Run.{Action, Acts, BoardCall, FrameEnd, GranuleCommit, HoldsSound, RunState, Runs, number_in, opening}
use Rattle.l3_speculation.specs.Laws.{BoardHandsOutSound}

-- an element of a list in which one was set is that one, or was there before
at_set : {A : Type 0} (l : List A) (i j : ℕ) (a b : A) → slice_get (set l i a) j ≡ Some b → (a ≡ b) ⊎ (slice_get l j ≡ Some b)
at_set [] i j a b e = inr e
at_set (x ∷ xs) zero zero a b e = inl cc
at_set (x ∷ xs) zero (suc j) a b e = inr e
at_set (x ∷ xs) (suc i) zero a b e = inr e
at_set (x ∷ xs) (suc i) (suc j) a b e = at_set xs i j a b e

-- no item is sound
none-sound : All IsSound []
none-sound = All-nil IsSound

-- another content of one cell
holds-with : (board : BoardState PieceView) (i : ℕ) (content : Content PieceView) → HoldsSound board → All IsSound (items_of content) → HoldsSound (with_cell board i content)
holds-with board i content holds own c other there =
    elim (at_set board.cells (i % length board.cells) c content other there) [
      | inl e ↦ subst (λ (k : Content PieceView). All IsSound (items_of k)) e own
      | inr e ↦ holds c other e
    ]

-- what a step leaves and what it hands out
abbrev pub IsSoundStep : Answer PieceView → BoardState PieceView → Type 0
IsSoundStep a after = HoldsSound after × All IsSound (handed_out a)

-- nothing changes, and this goes out
stays : (before after : BoardState PieceView) → HoldsSound before → after ≡ before → HoldsSound after
stays before after holds e = subst HoldsSound (sym e) holds

-- one cell changes
changes : (before after : BoardState PieceView) (i : ℕ) (content : Content PieceView) → HoldsSound before → All IsSound (items_of content) → after ≡ with_cell before i content → HoldsSound after
changes before after i content holds own e = subst HoldsSound (sym e) (holds-with before i content holds own)

-- the same item comes back
back : (x y : PieceView) → All IsSound (x ∷ []) → y ≡ x → All IsSound (y ∷ [])
back x y own e = subst (λ (z : PieceView). All IsSound (z ∷ [])) (sym e) own

pub step-sound : (before after : BoardState PieceView) (e : Event PieceView) (a : Answer PieceView) → HoldsSound before → All IsSound (given e) → Step number_in before e a after → IsSoundStep a after
step-sound before after (event.Offer x) (answer.Offer (Placed spent)) holds own s =
    (changes before after x.number (Offered x) holds own s.2, holds (x.number % length before.cells) (Empty spent) s.1)
step-sound before after (event.Offer x) (answer.Offer (Busy y)) holds own s = (stays before after holds s.2, back x y own s.1)
step-sound before after event.Claim (answer.Claim Shut) holds own s = (stays before after holds s.1, none-sound)
step-sound before after event.Claim (answer.Claim Nothing) holds own s = (stays before after holds s.2, none-sound)
step-sound before after event.Claim (answer.Claim (Job x)) holds own s =
    (changes before after x.number (Claimed x.number) holds none-sound s.2, holds (x.number % length before.cells) (Offered x) s.1)
step-sound before after (event.Deposit x) (answer.Deposit Kept) holds own s = (changes before after x.number (Ready x) holds own s.1, none-sound)
step-sound before after (event.Deposit x) (answer.Deposit Late) holds own s = (changes before after x.number (Empty x) holds own s.1, none-sound)
step-sound before after (event.Deposit x) (answer.Deposit (Stray y)) holds own s = (stays before after holds s.3, back x y own s.2)
step-sound before after (event.Take i spare) (answer.Take (Got x)) holds own s =
    (changes before after i (Empty spare) holds own s.2, holds (i % length before.cells) (Ready x) s.0)
step-sound before after (event.Take i spare) (answer.Take (Revoked x)) holds own s =
    (changes before after i (Empty spare) holds own s.2, holds (i % length before.cells) (Offered x) s.0)
step-sound before after (event.Take i spare) (answer.Take (InWork y)) holds own s = (changes before after i (Withdrawn i) holds none-sound s.2, back spare y own s.1)
step-sound before after (event.Take i spare) (answer.Take (NotOffered y)) holds own s = (stays before after holds s.4, back spare y own s.3)
step-sound before after event.Shut answer.Shut holds own s =
    (subst HoldsSound (sym s) holds, none-sound)
step-sound before after _ _ holds own s = absurd s

holds-act : (st : Settings) (left right : List ℤ) (s t : RunState) (a : Action) → HoldsSound s.board → Acts st left right s a t → HoldsSound t.board
holds-act st left right s t (BoardCall e a) holds act = (step-sound s.board t.board e a holds act.0 act.1).0
holds-act st left right s t (GranuleCommit x) holds act = subst (λ (u : RunState). HoldsSound u.board) (sym act.3) holds
holds-act st left right s t FrameEnd holds act = subst (λ (u : RunState). HoldsSound u.board) (sym act.1) holds

holds-run : (st : Settings) (left right : List ℤ) (actions : List Action) (s t : RunState) → HoldsSound s.board → Runs st left right s actions t → HoldsSound t.board
holds-run st left right [] s t holds runs = subst (λ (u : RunState). HoldsSound u.board) (sym runs) holds
holds-run st left right (a ∷ actions) s t holds runs = holds-run st left right actions runs.0 t (holds-act st left right s runs.0 a holds runs.1) runs.2

pub board_hands_out_sound : BoardHandsOutSound
board_hands_out_sound st left right t r =
    let holds = holds-run st left right r.actions (opening st r.board) t r.holds r.runs in
    record {
      holds = holds;
      handed = λ e a u act. (step-sound t.board u.board e a holds act.0 act.1).1;
    }
