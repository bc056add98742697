use Rattle.std.proofs.Common.{arith}
use Rattle.l3_lanes.proofs.WholeLemmas.{loads_whole}
use Rattle.l3_lanes.proofs.worker_steps.load.Goals as goal

pub load-requires : goal.load-requires
load-requires g c = (c.requires.fits.0, omega arith, loads_whole g.T.Numbered.number_of c.args.row.now.table_id.slots c.args.seat.now.id c.args.seat.now.me c.args.word c.requires.worker)
