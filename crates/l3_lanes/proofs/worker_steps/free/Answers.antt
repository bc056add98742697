use Rattle.std.proofs.Common.{arith}
use Rattle.l3_lanes.proofs.WholeLemmas.{frees_whole}
use Rattle.l3_lanes.proofs.worker_steps.free.Goals as goal

pub store-requires : goal.store-requires
store-requires g c = (c.requires.fits.0, omega arith, frees_whole g.T.Numbered.number_of c.args.row.now.table_id.slots c.args.seat.now.id c.args.seat.now.me c.args.cell c.args.number c.requires.cell c.requires.item.0 c.requires.item.1 c.requires.worker.0 c.requires.worker.1 c.requires.item.2 c.requires.worker.2 c.requires.item.3)

pub returns-clause-moved : goal.returns-clause-moved
returns-clause-moved g c = c.store.ensures.2.1 c.args.number c.requires.worker.1
