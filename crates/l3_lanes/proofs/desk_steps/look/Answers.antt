use Rattle.std.proofs.Common.{arith}
use Rattle.l3_lanes.proofs.WholeLemmas.{looks_whole}
use Rattle.l3_lanes.proofs.desk_steps.look.Goals as goal

pub load-requires : goal.load-requires
load-requires g c = (c.requires.fits.0, omega arith, looks_whole g.T.Numbered.number_of c.args.row.now.table_id.slots c.args.seat.now.id c.args.seat.now.me c.args.cell c.requires.desk.1.1.0 c.requires.desk.0 c.requires.cell c.requires.desk.1.1.1 c.requires.desk.1.1.3)
