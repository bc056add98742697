use Rattle.std.proofs.Common.{arith}
use Rattle.l3_lanes.proofs.WholeLemmas.{offers_whole, of_offer}
use Rattle.l3_lanes.proofs.desk_steps.put_offer.Goals as goal

pub store-requires : goal.store-requires
store-requires g c = (c.requires.fits.0, omega arith, offers_whole g.T.Numbered.number_of c.args.row.now.table_id.slots c.args.seat.now.id c.args.seat.now.me c.args.cell c.args.number c.requires.cell c.requires.place c.requires.item.0 c.requires.item.1 c.requires.desk.0 c.requires.not_shut c.requires.desk.1 c.requires.item.2 c.requires.item.3)

pub returns-clause-moved : goal.returns-clause-moved
returns-clause-moved g c = of_offer c.args.number c.args.row.now.table_id.slots c.args.seat.now.me.0.past c.store.new.seat.me.0.past c.store.ensures.2.1
