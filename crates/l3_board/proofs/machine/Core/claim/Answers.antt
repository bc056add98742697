use Rattle.std.proofs.Common.{◌≡◌, ◌%◌, [], ◌∷◌, length, refl, arith}
use Rattle.std.proofs.lemmas.Option.{slice_get_within}
use Rattle.l3_board.specs.declared.cell.Content.TheVariants.{Offered}
use Rattle.l3_board.specs.declared.event.Claim.TheVariants.{Job}
use Rattle.l3_board.specs.Replies.{IsLeastAt}
use Rattle.l3_board.proofs.CellLemmas.{IsSound-set}
use Rattle.l3_board.proofs.StepLemmas.{nothing_step, offered_there, job_outcome, outcome_step, job_least}
use Rattle.l3_board.proofs.machine.Core.claim.Goals as goal

pub returns-in_default-clause-step : goal.returns-in_default-clause-step
returns-in_default-clause-step g c =
    nothing_step g.T.Numbered.number_of c.args.self.now c.self.inside.cells.items c.self.inside.shut c.self.view_is c.if-self.false (rw (← c.deref.ensures.value) c.in_default.ensures.none)

pub index_mut-requires : goal.index_mut-requires
index_mut-requires g c =
    let w = c.in-Some.ensures.some in
    let least : IsLeastAt g.T.Numbered.number_of c.self.inside.cells.items c.in-Some.at c.in-Some.number w.0 = rw (← c.deref.ensures.value) w.1 in
    let within = slice_get_within c.self.inside.cells.items c.in-Some.at (Offered w.0) least.offered in
    let m = c.self.inside.cells.ok in
    grind arith

pub exchange-requires : goal.exchange-requires
exchange-requires g c =
    let w = c.in-Some.ensures.some in
    let least : IsLeastAt g.T.Numbered.number_of c.self.inside.cells.items c.in-Some.at c.in-Some.number w.0 = rw (← c.deref.ensures.value) w.1 in
    let there = offered_there g.T.Numbered.number_of c.self.inside.cells.items c.in-Some.at c.in-Some.number w.0 c.index_mut.result.now least c.index_mut.ensures.value in
    rw there refl

pub invariant_of-self : goal.invariant_of-self
invariant_of-self g c =
    let w = c.in-Some.ensures.some in
    let least : IsLeastAt g.T.Numbered.number_of c.self.inside.cells.items c.in-Some.at c.in-Some.number w.0 = rw (← c.deref.ensures.value) w.1 in
    let place : g.T.Numbered.number_of w.0 % length c.self.inside.cells.items ≡ c.in-Some.at = c.self.invariant.placed c.in-Some.at (Offered w.0) least.offered in
    IsSound-set g.T.Numbered.number_of c.self.inside.cells.items c.self.inside.shut c.self.inside.shut c.in-Some.at c.exchange.new.self c.self.invariant (rw (c.exchange.ensures.left, least.number_is) place)

pub returns-clause-exact : goal.returns-clause-exact
returns-clause-exact g c =
    let w = c.in-Some.ensures.some in
    let least : IsLeastAt g.T.Numbered.number_of c.self.inside.cells.items c.in-Some.at c.in-Some.number w.0 = rw (← c.deref.ensures.value) w.1 in
    let there = offered_there g.T.Numbered.number_of c.self.inside.cells.items c.in-Some.at c.in-Some.number w.0 c.index_mut.result.now least c.index_mut.ensures.value in
    let item : w.0 ∷ [] ≡ c.exchange.result ∷ [] = rw there at c.exchange.ensures.item in
    let same : w.0 ≡ c.exchange.result = cc in
    job_outcome g.T.Numbered.number_of c.args.self.now c.self.inside.cells.items c.self.inside.shut c.in-Some.at c.in-Some.number w.0 c.exchange.result c.exchange.new.self c.self.view_is c.self.invariant c.if-self.false least same c.exchange.ensures.left

pub returns-clause-step : goal.returns-clause-step
returns-clause-step g c =
    outcome_step g.T.Numbered.number_of c.args.self.now _ c.self.inside.cells.items c.self.inside.shut (Job c.exchange.result) c.self.view_is c.self.invariant (returns-clause-exact g c)

pub returns-clause-least : goal.returns-clause-least
returns-clause-least g c =
    let w = c.in-Some.ensures.some in
    let least : IsLeastAt g.T.Numbered.number_of c.self.inside.cells.items c.in-Some.at c.in-Some.number w.0 = rw (← c.deref.ensures.value) w.1 in
    let there = offered_there g.T.Numbered.number_of c.self.inside.cells.items c.in-Some.at c.in-Some.number w.0 c.index_mut.result.now least c.index_mut.ensures.value in
    let item : w.0 ∷ [] ≡ c.exchange.result ∷ [] = rw there at c.exchange.ensures.item in
    let same : w.0 ≡ c.exchange.result = cc in
    λ x e. let job : c.exchange.result ≡ x = cc in
    rw (← job) (job_least g.T.Numbered.number_of c.args.self.now c.self.inside.cells.items c.self.inside.shut c.in-Some.at c.in-Some.number w.0 c.exchange.result c.self.view_is least same)
