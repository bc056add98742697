use Rattle.std.proofs.Common.{arith}
use Rattle.l3_lanes.proofs.WholeLemmas.{shuts_whole}
use Rattle.l3_lanes.proofs.desk_steps.shut.Goals as goal

pub store-requires : goal.store-requires
store-requires g c = (c.requires.fits.0, omega arith, rw c.requires.word (shuts_whole g.T.Numbered.number_of c.args.row.now.table_id.slots c.args.seat.now.id c.args.seat.now.me c.requires.desk))
