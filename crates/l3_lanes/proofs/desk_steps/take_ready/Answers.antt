use Rattle.std.proofs.Common.{arith, ap}
use Rattle.l3_lanes.specs.Views.{known}
use Rattle.l3_lanes.specs.declared.view.Tell.TheVariants.{ToldReady, Free}
use Rattle.l3_lanes.proofs.DeskLemmas.{tell_of}
use Rattle.l3_lanes.proofs.WholeLemmas.{takes_whole}
use Rattle.l3_lanes.proofs.desk_steps.take_ready.Goals as goal

pub store-requires : goal.store-requires
store-requires g c = (c.requires.fits.0, omega arith, takes_whole g.T.Numbered.number_of c.args.row.now.table_id.slots c.args.seat.now.id c.args.seat.now.me c.args.cell c.args.number c.requires.cell c.requires.desk.0 c.requires.desk.1)

pub returns-clause-told : goal.returns-clause-told
returns-clause-told g c = c.store.ensures.2.0 c.args.number (ap known (tell_of c.args.seat.now.me.0.view.tells c.args.cell (ToldReady c.args.number) Free c.requires.desk.1))

pub returns-clause-moved : goal.returns-clause-moved
returns-clause-moved g c = c.store.ensures.2.1 c.args.number (ap known (tell_of c.args.seat.now.me.0.view.tells c.args.cell (ToldReady c.args.number) Free c.requires.desk.1))
