-- Runs of the machine, one event after another: the replies are one, and each keeps the cells.
use Rattle.std.proofs.Common.{◌≡◌, ℕ, List, [], ◌∷◌, ◌++◌, length, refl, ap, sym, ◌∙◌, subst, arith}
use Rattle.std.proofs.lemmas.List.Sums.{count_by-le-length}
use Rattle.l3_board.specs.declared.event.Event.{Event}
use Rattle.l3_board.specs.declared.event.Answer.{Answer}
use Rattle.l3_board.specs.Machine.{BoardState, IsSound, Step, Run, is_held}
use Rattle.l3_board.specs.Replies.{reply, after_event, replies, state_after}
use Rattle.l3_board.specs.Laws.{RepliesRun, CellsStay}
use Rattle.l3_board.proofs.FlowLemmas.{length-step, IsSound-step}
use Rattle.l3_board.proofs.StepLemmas.{reply-step}

module _ {T : Type 0} (number : T → ℕ) where
  replies-append : (board : BoardState T) (events : List (Event T)) (e : Event T) → replies number board (events ++ e ∷ []) ≡ replies number board events ++ reply number (state_after number board events) e ∷ []
  replies-append board [] e = refl
  replies-append board (f ∷ events) e = ap (λ answers. reply number board f ∷ answers) (replies-append (after_event number board f) events e)

  state_after-append : (board : BoardState T) (events : List (Event T)) (e : Event T) → state_after number board (events ++ e ∷ []) ≡ after_event number (state_after number board events) e
  state_after-append board [] e = refl
  state_after-append board (f ∷ events) e = state_after-append (after_event number board f) events e

  -- the replies to one event more
  pub replies-next : (board mid : BoardState T) (events : List (Event T)) (answers : List (Answer T)) (e : Event T) → answers ≡ replies number board events → mid ≡ state_after number board events → answers ++ reply number mid e ∷ [] ≡ replies number board (events ++ e ∷ [])
  replies-next board mid events answers e so_far at = rw (so_far, at) (sym (replies-append board events e))

  -- the board after one event more
  pub state_after-next : (board mid : BoardState T) (events : List (Event T)) (e : Event T) → mid ≡ state_after number board events → after_event number mid e ≡ state_after number board (events ++ e ∷ [])
  state_after-next board mid events e at = rw at (sym (state_after-append board events e))

  -- a run with one step more
  pub Run-append : (events : List (Event T)) (answers : List (Answer T)) (before mid after : BoardState T) (e : Event T) (a : Answer T) → Run number before events answers mid → Step number mid e a after → Run number before (events ++ e ∷ []) (answers ++ a ∷ []) after
  Run-append [] [] before mid after e a run step = (after, subst (λ (b : BoardState T). Step number b e a after) run step, refl)
  Run-append (f ∷ events) (b ∷ answers) before mid after e a run step = (run.0, run.1, Run-append events answers run.0 mid after e a run.2 step)
  Run-append [] (b ∷ answers) before mid after e a run step = absurd run
  Run-append (f ∷ events) [] before mid after e a run step = absurd run

  -- the replies are a run
  pub replies_run : RepliesRun number
  replies_run board [] sound = refl
  replies_run board (e ∷ events) sound =
      let step = reply-step number board e sound in
      (after_event number board e, step, replies_run (after_event number board e) events (IsSound-step number board (after_event number board e) e (reply number board e) sound step))

  length-run : (before after : BoardState T) (events : List (Event T)) (answers : List (Answer T)) → Run number before events answers after → length after.cells ≡ length before.cells
  length-run before after [] [] run = ap (λ (b : BoardState T). length b.cells) run
  length-run before after (e ∷ events) (a ∷ answers) run = length-run run.0 after events answers run.2 ∙ length-step number before run.0 e a run.1
  length-run before after [] (a ∷ answers) run = absurd run
  length-run before after (e ∷ events) [] run = absurd run

  sound_run : (before after : BoardState T) (events : List (Event T)) (answers : List (Answer T)) → Run number before events answers after → IsSound number before → IsSound number after
  sound_run before after [] [] run sound = subst (λ (b : BoardState T). IsSound number b) (sym run) sound
  sound_run before after (e ∷ events) (a ∷ answers) run sound = sound_run run.0 after events answers run.2 (IsSound-step number before run.0 e a sound run.1)
  sound_run before after [] (a ∷ answers) run sound = absurd run
  sound_run before after (e ∷ events) [] run sound = absurd run

  -- a run keeps the cells, and holds no more
  pub cells_stay : CellsStay number
  cells_stay before after events answers run =
      let same = length-run before after events answers run in
      let held = count_by-le-length is_held after.cells in
      (sound_run before after events answers run, same, omega arith)
