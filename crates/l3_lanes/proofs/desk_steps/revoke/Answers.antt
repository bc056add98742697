use Rattle.std.proofs.Common.{◌≡◌, ◌+◌, ◌*◌, arith, eqb}
use Rattle.l3_board.specs.declared.event.Event.TheVariants as event
use Rattle.l3_board.specs.declared.event.Answer.TheVariants as answer
use Rattle.l3_board.specs.declared.event.Take.TheVariants.{Revoked}
use Rattle.l3_lanes.specs.History.{Extends}
use Rattle.l3_lanes.proofs.WholeLemmas.{revokes_whole, of_first}
use Rattle.l3_lanes.proofs.desk_steps.revoke.Goals as goal

pub compare_exchange-requires : goal.compare_exchange-requires
compare_exchange-requires g c = (c.requires.fits.0, omega arith, revokes_whole g.T.Numbered.number_of c.args.row.now.table_id.slots c.args.seat.now.id c.args.seat.now.me c.args.cell c.args.number c.requires.cell c.requires.desk.1.0 c.requires.desk.0 c.requires.desk.1.1 c.requires.desk.1.2)

pub returns-clause-moved : goal.returns-clause-moved
returns-clause-moved g c = of_first c.args.number (eqb c.compare_exchange.result (8 * c.args.number + 1)) (λ i. Extends c.args.row.now.table_id.slots c.args.seat.now.me.0.past (event.Take i 0) (answer.Take (Revoked i)) c.compare_exchange.new.seat.me.0.past) (c.compare_exchange.new.seat.me.0.past ≡ c.args.seat.now.me.0.past) c.compare_exchange.ensures.2.1
