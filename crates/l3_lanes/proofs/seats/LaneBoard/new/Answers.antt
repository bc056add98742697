use Rattle.std.proofs.Common.{◌≡◌, ℕ, ◌+◌, [], None, length, replicate, refl, ap, sym, ◌∙◌, subst, arith}
use Rattle.std.specs.Prelude.{Option}
use Rattle.std.proofs.lemmas.Result.{IfOk-from_err}
use Rattle.l3_board.specs.Desk.{DeskState, fresh_desk}
use Rattle.l3_board.specs.declared.entry.Entry.TheVariants.{Free}
use Rattle.atomic_table.specs.Table.{Me}
use Rattle.l3_lanes.specs.declared.view.View.{View}
use Rattle.l3_lanes.specs.History.{bare}
use Rattle.l3_lanes.specs.Moves.{opening_knowledge}
use Rattle.l3_lanes.specs.Calls.{IsSeat, granule_claimed}
use Rattle.l3_lanes.proofs.EdgeLemmas.{desk_start, length_rep}
use Rattle.l3_lanes.proofs.seats.LaneBoard.new.Goals as goal

-- a seat is one of as many cells
seat-at : {S : Type 0} {slots cells : ℕ} {me : Me S View} {claim : Option (ℕ × ℕ)} → slots ≡ cells → IsSeat slots me claim → IsSeat cells me claim
seat-at {S} {slots} {cells} {me} {claim} is seat = subst (λ (z : ℕ). IsSeat z me claim) is seat

pub invariant_of-result : goal.invariant_of-result
invariant_of-result g c =
    let many = c.len-cells.ensures in
    let lanes = c.in_ok-lanes.ensures in
    record {
      some = (let some = c.requires.some in omega arith);
      limit = (let limit = c.requires.limit in omega arith);
      slots = lanes.0 ∙ sym many;
      words = lanes.1 ∙ ap (λ (k : ℕ). k + 2) (sym many);
    }

pub returns-clause-cells : goal.returns-clause-cells
returns-clause-cells g c = c.len-cells.ensures

pub returns-clause-desk : goal.returns-clause-desk
returns-clause-desk g c =
    let kept = c.in_ok-kept.ensures in
    let lanes = c.in_ok-lanes.ensures in
    let same = c.hired.ensures.same in
    let begins = same.2 ∙ (lanes.3 ∙ ap (λ (k : ℕ). (opening_knowledge k, [])) (sym c.len-cells.ensures)) in (
      same.0 ∙ lanes.2,
      desk_start c.len-cells.result (bare c.hired.new.token.me) c.in_ok-kept.granules.items (ap (λ me. bare me) begins) kept.1,
      ap (λ (d : DeskState). length d.last) kept.0 ∙ length_rep c.len-cells.result Free,
    )

pub returns-clause-opening : goal.returns-clause-opening
returns-clause-opening g c = (c.in_ok-kept.ensures.1 ∙ ap (λ (k : ℕ). replicate k None) c.len-cells.ensures, refl)

pub returns-clause-kept : goal.returns-clause-kept
returns-clause-kept g c = c.in_ok-kept.ensures.0 ∙ ap fresh_desk c.len-cells.ensures

pub returns-clause-seats : goal.returns-clause-seats
returns-clause-seats g c = c.in_ok-seats.ensures.seats

pub returns-clause-desk_past : goal.returns-clause-desk_past
returns-clause-desk_past g c = ap (λ me. me.0.past) (c.hired.ensures.same.2 ∙ c.in_ok-lanes.ensures.3)

pub returns-clause-seat_pasts : goal.returns-clause-seat_pasts
returns-clause-seat_pasts g c = c.in_ok-seats.ensures.pasts

pub returns-clause-made : goal.returns-clause-made
returns-clause-made g c = λ k d lt.
    let cells = c.in_ok-lanes.ensures.0 ∙ sym c.len-cells.ensures in
    let seat = c.in_ok-seats.ensures.made k d lt in
    ((seat.0, seat-at cells seat.1), ap granule_claimed seat.2)

-- where memory runs out, nothing is promised
pub returns-in_err-kept-clause-cells : goal.returns-in_err-kept-clause-cells
returns-in_err-kept-clause-cells g c = IfOk-from_err _ _ c.from_residual.ensures.0

pub returns-in_err-kept-clause-desk : goal.returns-in_err-kept-clause-desk
returns-in_err-kept-clause-desk g c = IfOk-from_err _ _ c.from_residual.ensures.0

pub returns-in_err-kept-clause-opening : goal.returns-in_err-kept-clause-opening
returns-in_err-kept-clause-opening g c = IfOk-from_err _ _ c.from_residual.ensures.0

pub returns-in_err-kept-clause-kept : goal.returns-in_err-kept-clause-kept
returns-in_err-kept-clause-kept g c = IfOk-from_err _ _ c.from_residual.ensures.0

pub returns-in_err-kept-clause-seats : goal.returns-in_err-kept-clause-seats
returns-in_err-kept-clause-seats g c = IfOk-from_err _ _ c.from_residual.ensures.0

pub returns-in_err-kept-clause-desk_past : goal.returns-in_err-kept-clause-desk_past
returns-in_err-kept-clause-desk_past g c = IfOk-from_err _ _ c.from_residual.ensures.0

pub returns-in_err-kept-clause-seat_pasts : goal.returns-in_err-kept-clause-seat_pasts
returns-in_err-kept-clause-seat_pasts g c = IfOk-from_err _ _ c.from_residual.ensures.0

pub returns-in_err-kept-clause-made : goal.returns-in_err-kept-clause-made
returns-in_err-kept-clause-made g c = IfOk-from_err _ _ c.from_residual.ensures.0

pub returns-in_err-lanes-clause-cells : goal.returns-in_err-lanes-clause-cells
returns-in_err-lanes-clause-cells g c = IfOk-from_err _ _ c.from_residual-in_err-lanes.ensures.0

pub returns-in_err-lanes-clause-desk : goal.returns-in_err-lanes-clause-desk
returns-in_err-lanes-clause-desk g c = IfOk-from_err _ _ c.from_residual-in_err-lanes.ensures.0

pub returns-in_err-lanes-clause-opening : goal.returns-in_err-lanes-clause-opening
returns-in_err-lanes-clause-opening g c = IfOk-from_err _ _ c.from_residual-in_err-lanes.ensures.0

pub returns-in_err-lanes-clause-kept : goal.returns-in_err-lanes-clause-kept
returns-in_err-lanes-clause-kept g c = IfOk-from_err _ _ c.from_residual-in_err-lanes.ensures.0

pub returns-in_err-lanes-clause-seats : goal.returns-in_err-lanes-clause-seats
returns-in_err-lanes-clause-seats g c = IfOk-from_err _ _ c.from_residual-in_err-lanes.ensures.0

pub returns-in_err-lanes-clause-desk_past : goal.returns-in_err-lanes-clause-desk_past
returns-in_err-lanes-clause-desk_past g c = IfOk-from_err _ _ c.from_residual-in_err-lanes.ensures.0

pub returns-in_err-lanes-clause-seat_pasts : goal.returns-in_err-lanes-clause-seat_pasts
returns-in_err-lanes-clause-seat_pasts g c = IfOk-from_err _ _ c.from_residual-in_err-lanes.ensures.0

pub returns-in_err-lanes-clause-made : goal.returns-in_err-lanes-clause-made
returns-in_err-lanes-clause-made g c = IfOk-from_err _ _ c.from_residual-in_err-lanes.ensures.0

pub returns-in_err-seats-clause-cells : goal.returns-in_err-seats-clause-cells
returns-in_err-seats-clause-cells g c = IfOk-from_err _ _ c.from_residual-in_err-seats.ensures.0

pub returns-in_err-seats-clause-desk : goal.returns-in_err-seats-clause-desk
returns-in_err-seats-clause-desk g c = IfOk-from_err _ _ c.from_residual-in_err-seats.ensures.0

pub returns-in_err-seats-clause-opening : goal.returns-in_err-seats-clause-opening
returns-in_err-seats-clause-opening g c = IfOk-from_err _ _ c.from_residual-in_err-seats.ensures.0

pub returns-in_err-seats-clause-kept : goal.returns-in_err-seats-clause-kept
returns-in_err-seats-clause-kept g c = IfOk-from_err _ _ c.from_residual-in_err-seats.ensures.0

pub returns-in_err-seats-clause-seats : goal.returns-in_err-seats-clause-seats
returns-in_err-seats-clause-seats g c = IfOk-from_err _ _ c.from_residual-in_err-seats.ensures.0

pub returns-in_err-seats-clause-desk_past : goal.returns-in_err-seats-clause-desk_past
returns-in_err-seats-clause-desk_past g c = IfOk-from_err _ _ c.from_residual-in_err-seats.ensures.0

pub returns-in_err-seats-clause-seat_pasts : goal.returns-in_err-seats-clause-seat_pasts
returns-in_err-seats-clause-seat_pasts g c = IfOk-from_err _ _ c.from_residual-in_err-seats.ensures.0

pub returns-in_err-seats-clause-made : goal.returns-in_err-seats-clause-made
returns-in_err-seats-clause-made g c = IfOk-from_err _ _ c.from_residual-in_err-seats.ensures.0
