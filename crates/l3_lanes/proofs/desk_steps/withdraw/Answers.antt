use Rattle.std.proofs.Common.{◌≡◌, ◌+◌, ◌*◌, arith, eqb}
use Rattle.l3_board.specs.declared.event.Event.TheVariants as event
use Rattle.l3_board.specs.declared.event.Answer.TheVariants as answer
use Rattle.l3_board.specs.declared.event.Take.TheVariants.{InWork}
use Rattle.l3_lanes.specs.History.{Extends}
use Rattle.l3_lanes.proofs.WholeLemmas.{withdraws_whole, of_second}
use Rattle.l3_lanes.proofs.desk_steps.withdraw.Goals as goal

pub compare_exchange-requires : goal.compare_exchange-requires
compare_exchange-requires g c = (c.requires.fits.0, omega arith, withdraws_whole g.T.Numbered.number_of c.args.row.now.table_id.slots c.args.seat.now.id c.args.seat.now.me c.args.cell c.args.number c.requires.cell c.requires.desk.0 c.requires.desk.1)

pub returns-clause-moved : goal.returns-clause-moved
returns-clause-moved g c = of_second c.args.number (eqb c.compare_exchange.result (8 * c.args.number + 2)) (λ i. Extends c.args.row.now.table_id.slots c.args.seat.now.me.0.past (event.Take i 0) (answer.Take (InWork 0)) c.compare_exchange.new.seat.me.0.past) (c.compare_exchange.new.seat.me.0.past ≡ c.args.seat.now.me.0.past) c.compare_exchange.ensures.2.1
