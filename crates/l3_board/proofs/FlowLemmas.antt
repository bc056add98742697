-- What a step changes, and the sums over cells that runs keep.
use Rattle.std.proofs.Common.{◌≡◌, ◌<◌, ◌+◌, ◌%◌, ℕ, Option, Some, None, List, [], ◌∷◌, length, set, get_or, refl, ap, sym, ◌∙◌, subst, arith, length-set}
use Rattle.std.specs.List.{sum_by}
use Rattle.std.proofs.lemmas.Option.{slice_get_within, get_or_from_slice_get}
use Rattle.std.proofs.lemmas.List.Sums.{sum_by-set}
use Rattle.l3_board.specs.declared.cell.Content.{Content}
use Rattle.l3_board.specs.declared.cell.Content.TheVariants.{Empty, Offered, Claimed, Ready, Withdrawn}
use Rattle.l3_board.specs.declared.event.Event.{Event}
use Rattle.l3_board.specs.declared.event.Event.TheVariants as event
use Rattle.l3_board.specs.declared.event.Answer.{Answer}
use Rattle.l3_board.specs.declared.event.Answer.TheVariants as answer
use Rattle.l3_board.specs.declared.event.Offer.TheVariants.{Placed, Busy}
use Rattle.l3_board.specs.declared.event.Claim.TheVariants.{Job, Nothing, Shut}
use Rattle.l3_board.specs.declared.event.Deposit.TheVariants.{Kept, Late, Stray}
use Rattle.l3_board.specs.declared.event.Take.TheVariants.{Got, Revoked, InWork, NotOffered}
use Rattle.l3_board.specs.Machine.{BoardState, IsSound, StandsIn, Step, Run, cell_of}
use Rattle.l3_board.proofs.CellLemmas.{IsSound-set}

module _ {T : Type 0} (number : T → ℕ) where
  -- the granule whose cell a step changes, with what it held before and holds afterwards
  abbrev pub change : Event T → Answer T → Option (ℕ × Content T × Content T)
  change (event.Offer x) (answer.Offer (Placed spent)) = Some (number x, Empty spent, Offered x)
  change event.Claim (answer.Claim (Job x)) = Some (number x, Offered x, Claimed (number x))
  change (event.Deposit x) (answer.Deposit Kept) = Some (number x, Claimed (number x), Ready x)
  change (event.Deposit x) (answer.Deposit Late) = Some (number x, Withdrawn (number x), Empty x)
  change (event.Take i spare) (answer.Take (Got x)) = Some (i, Ready x, Empty spare)
  change (event.Take i spare) (answer.Take (Revoked x)) = Some (i, Offered x, Empty spare)
  change (event.Take i spare) (answer.Take (InWork y)) = Some (i, Claimed i, Withdrawn i)
  change _ _ = None

  -- the cells after a change
  abbrev Changes : BoardState T → BoardState T → Option (ℕ × Content T × Content T) → Type 0
  Changes before after None = after.cells ≡ before.cells
  Changes before after (Some c) =
      (cell_of before c.0 ≡ Some c.1) × (after.cells ≡ set before.cells (c.0 % length before.cells) c.2) × StandsIn number (length before.cells) (c.0 % length before.cells) c.2

  Step-changes : (before after : BoardState T) (e : Event T) (a : Answer T) → Step number before e a after → Changes before after (change e a)
  Step-changes before after (event.Offer x) (answer.Offer (Placed spent)) s = (s.1, ap (λ (b : BoardState T). b.cells) s.2, refl)
  Step-changes before after (event.Offer x) (answer.Offer (Busy y)) s = ap (λ (b : BoardState T). b.cells) s.2
  Step-changes before after event.Claim (answer.Claim Shut) s = ap (λ (b : BoardState T). b.cells) s.1
  Step-changes before after event.Claim (answer.Claim Nothing) s = ap (λ (b : BoardState T). b.cells) s.2
  Step-changes before after event.Claim (answer.Claim (Job x)) s = (s.1, ap (λ (b : BoardState T). b.cells) s.2, refl)
  Step-changes before after (event.Deposit x) (answer.Deposit Kept) s = (s.0, ap (λ (b : BoardState T). b.cells) s.1, refl)
  Step-changes before after (event.Deposit x) (answer.Deposit Late) s = (s.0, ap (λ (b : BoardState T). b.cells) s.1, tt)
  Step-changes before after (event.Deposit x) (answer.Deposit (Stray y)) s = ap (λ (b : BoardState T). b.cells) s.3
  Step-changes before after (event.Take i spare) (answer.Take (Got x)) s = (s.0, ap (λ (b : BoardState T). b.cells) s.2, tt)
  Step-changes before after (event.Take i spare) (answer.Take (Revoked x)) s = (s.0, ap (λ (b : BoardState T). b.cells) s.2, tt)
  Step-changes before after (event.Take i spare) (answer.Take (InWork y)) s = (s.0, ap (λ (b : BoardState T). b.cells) s.2, refl)
  Step-changes before after (event.Take i spare) (answer.Take (NotOffered y)) s = ap (λ (b : BoardState T). b.cells) s.4
  Step-changes before after event.Shut answer.Shut s = ap (λ (b : BoardState T). b.cells) s
  Step-changes before after _ _ s = absurd s

  length_change : (before after : BoardState T) (c : Option (ℕ × Content T × Content T)) → Changes before after c → length after.cells ≡ length before.cells
  length_change before after None s = ap length s
  length_change before after (Some c) s = ap length s.1 ∙ simp length-set

  -- a step keeps the number of cells
  pub length-step : (before after : BoardState T) (e : Event T) (a : Answer T) → Step number before e a after → length after.cells ≡ length before.cells
  length-step before after e a s = length_change before after (change e a) (Step-changes before after e a s)

  sound_change : (before after : BoardState T) (c : Option (ℕ × Content T × Content T)) → IsSound number before → Changes before after c → IsSound number after
  sound_change before after None sound s = subst (λ (cells : List (Content T)). IsSound number record { cells = cells; shut = after.shut }) (sym s) (record { some = sound.some; limit = sound.limit; placed = sound.placed })
  sound_change before after (Some c) sound s =
      subst (λ (cells : List (Content T)). IsSound number record { cells = cells; shut = after.shut }) (sym s.1) (IsSound-set number before.cells before.shut after.shut (c.0 % length before.cells) c.2 sound s.2)

  -- a step keeps a board sound
  pub IsSound-step : (before after : BoardState T) (e : Event T) (a : Answer T) → IsSound number before → Step number before e a after → IsSound number after
  IsSound-step before after e a sound s = sound_change before after (change e a) sound (Step-changes before after e a s)

  -- what a change takes from a sum over cells, and what it brings
  abbrev pub lost : (Content T → ℕ) → Option (ℕ × Content T × Content T) → ℕ
  lost f None = 0
  lost f (Some c) = f c.1

  abbrev pub gained : (Content T → ℕ) → Option (ℕ × Content T × Content T) → ℕ
  gained f None = 0
  gained f (Some c) = f c.2

  sum_change : (f : Content T → ℕ) (before after : BoardState T) (c : Option (ℕ × Content T × Content T)) → Changes before after c → sum_by f after.cells + lost f c ≡ sum_by f before.cells + gained f c
  sum_change f before after None s = ap (λ (cells : List (Content T)). sum_by f cells + 0) s
  sum_change f before after (Some c) s =
      let i = c.0 % length before.cells in
      let within : i < length before.cells = slice_get_within before.cells i c.1 s.0 in
      let old : get_or before.cells i c.1 ≡ c.1 = get_or_from_slice_get before.cells i c.1 c.1 s.0 in
      let sums = sum_by-set f before.cells i c.2 c.1 within in
      rw s.1 (rw old at sums)

  -- the sum over the turns of a run
  abbrev pub total : (Event T → Answer T → ℕ) → List (Event T) → List (Answer T) → ℕ
  total f [] answers = 0
  total f (e ∷ events) [] = 0
  total f (e ∷ events) (a ∷ answers) = f e a + total f events answers

  -- what comes in and was there, goes out or is there in the end, where that is so of each step
  pub sums-run : (f : Content T → ℕ) (comes goes : Event T → Answer T → ℕ) →
      ((before after : BoardState T) (e : Event T) (a : Answer T) → Step number before e a after → comes e a + lost f (change e a) ≡ goes e a + gained f (change e a)) →
      (before after : BoardState T) (events : List (Event T)) (answers : List (Answer T)) → Run number before events answers after →
      sum_by f before.cells + total comes events answers ≡ total goes events answers + sum_by f after.cells
  sums-run f comes goes each before after [] [] run = rw run (omega arith)
  sums-run f comes goes each before after (e ∷ events) (a ∷ answers) run =
      let mid = run.0 in
      let step = each before mid e a run.1 in
      let change_is = sum_change f before mid (change e a) (Step-changes before mid e a run.1) in
      let rest = sums-run f comes goes each mid after events answers run.2 in
      omega arith
  sums-run f comes goes each before after [] (a ∷ answers) run = absurd run
  sums-run f comes goes each before after (e ∷ events) [] run = absurd run
