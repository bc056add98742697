use Rattle.std.proofs.Common.{arith}
use Rattle.l3_lanes.proofs.WholeLemmas.{returns_whole}
use Rattle.l3_lanes.proofs.desk_steps.give_back.Goals as goal

pub load-requires : goal.load-requires
load-requires g c = (c.requires.fits.0, omega arith, returns_whole g.T.Numbered.number_of c.args.row.now.table_id.slots c.args.seat.now.id c.args.seat.now.me c.args.cell c.requires.item.0 c.requires.item.1 c.requires.desk.0 c.requires.cell c.requires.desk.1 c.requires.item.2 c.requires.item.3)
