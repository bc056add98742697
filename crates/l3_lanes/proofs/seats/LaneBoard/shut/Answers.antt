use Rattle.std.proofs.Common.{◌∙◌}
use Rattle.l3_lanes.specs.History.{bare}
use Rattle.l3_lanes.proofs.DeskViewLemmas.{desk_shut}
use Rattle.l3_lanes.proofs.seats.LaneBoard.shut.Goals as goal

pub returns-clause-made : goal.returns-clause-made
returns-clause-made g c = (
  c.ring.ensures.same.0 ∙ (c.shut.ensures.same.0 ∙ c.requires.made.0),
  desk_shut c.args.self.now.cells (bare c.args.desk.now.token.me) (bare c.ring.new.seat.me) c.args.desk.now.granules.items c.args.desk.now.shut _ _ c.requires.made.1 (c.ring.ensures.told.0 ∙ c.shut.ensures.told.0) (c.ring.ensures.told.1 ∙ c.shut.ensures.told.1),
  c.requires.made.2,
)
