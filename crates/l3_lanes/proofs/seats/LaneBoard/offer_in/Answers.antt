use Rattle.std.proofs.Common.{Some, ◌∙◌}
use Rattle.l3_lanes.specs.History.{bare}
use Rattle.l3_lanes.proofs.DeskViewLemmas.{desk_after, desk_same}
use Rattle.l3_lanes.proofs.seats.LaneBoard.offer_in.Goals as goal

pub place-requires-clause-desk : goal.place-requires-clause-desk
place-requires-clause-desk g c = let d = c.requires.made.1 in (d.desk, d.no_slot, (_, d.knows c.cell-cell.result c.cell-cell.ensures.bound))

pub returns-in-Placed-clause-made : goal.returns-in-Placed-clause-made
returns-in-Placed-clause-made g c =
    let e = c.in-Placed.ensures.after in (
      c.place.ensures.same.0 ∙ c.requires.made.0,
      desk_after c.args.self.now.cells (bare c.args.desk.now.token.me) (bare c.place.new.token.me) c.args.desk.now.granules.items c.args.desk.now.shut c.requires.made.1 c.cell-cell.result e.0 c.cell-cell.ensures.bound c.in-Placed.ensures.notes.2.places e.1 c.place.ensures.no_slot e.3 (Some c.args.number) e.2,
      c.requires.made.2,
    )

pub returns-in-Busy-clause-made : goal.returns-in-Busy-clause-made
returns-in-Busy-clause-made g c =
    let e = c.in-Busy.ensures.after in (
      c.place.ensures.same.0 ∙ c.requires.made.0,
      desk_same c.args.self.now.cells (bare c.args.desk.now.token.me) (bare c.place.new.token.me) c.args.desk.now.granules.items c.args.desk.now.shut c.requires.made.1 c.cell-cell.result e.0 c.cell-cell.ensures.bound c.in-Busy.ensures.notes.2.places e.1 c.place.ensures.no_slot e.3 e.2,
      c.requires.made.2,
    )
