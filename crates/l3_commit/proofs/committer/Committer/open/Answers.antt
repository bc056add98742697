use Rattle.std.proofs.Common.{◌∙◌, refl}
use Rattle.std.proofs.lemmas.Result.{err_from_is_err_and}
use Rattle.l3_commit.proofs.Kept.{IfOk-gone, keeps-opened, max-swapped}
use Rattle.l3_commit.proofs.Standings.{stands-first}
use Rattle.l3_commit.proofs.committer.Committer.open.Goals as goal

pub returns-clause-stands : goal.returns-clause-stands
returns-clause-stands c = λ bytes. stands-first _ bytes c.args.settings _ _ (c.in_ok-windows.ensures.holds bytes) c.new-3.ensures.value refl

pub open-requires-clause-channels : goal.open-requires-clause-channels
open-requires-clause-channels c = c.requires.channels

pub open-requires-clause-sound : goal.open-requires-clause-sound
open-requires-clause-sound c = c.requires.sound

pub open-requires-clause-declared : goal.open-requires-clause-declared
open-requires-clause-declared c = c.requires.declared

pub invariant_of-result : goal.invariant_of-result
invariant_of-result c =
    keeps-opened c.args.settings c.new-3.result c.in_ok-windows.windows c.in_ok-offers.offers c.in_ok-own.own c.args.ahead c.max.result
    c.new-3.ensures.value c.in_ok-offers.ensures c.in_ok-windows.ensures.given.1 c.max.ensures c.requires.ahead

pub returns-clause-first : goal.returns-clause-first
returns-clause-first c = (c.new-3.ensures.value, refl, c.in_ok-offers.ensures)

pub returns-clause-windows : goal.returns-clause-windows
returns-clause-windows c = (c.in_ok-windows.ensures.fresh.0, c.in_ok-windows.ensures.given.1 ∙ (c.max.ensures ∙ max-swapped c.args.ahead 1), c.in_ok-windows.ensures.given.2)

-- without memory nothing is said
pub returns-in_err-windows-clause-stands : goal.returns-in_err-windows-clause-stands
returns-in_err-windows-clause-stands c = let gone = err_from_is_err_and c.from_residual.result c.from_residual.ensures.1 in IfOk-gone c.from_residual.result _ gone.0 gone.1

pub returns-in_err-windows-clause-first : goal.returns-in_err-windows-clause-first
returns-in_err-windows-clause-first c = let gone = err_from_is_err_and c.from_residual.result c.from_residual.ensures.1 in IfOk-gone c.from_residual.result _ gone.0 gone.1

pub returns-in_err-windows-clause-windows : goal.returns-in_err-windows-clause-windows
returns-in_err-windows-clause-windows c = let gone = err_from_is_err_and c.from_residual.result c.from_residual.ensures.1 in IfOk-gone c.from_residual.result _ gone.0 gone.1

pub returns-in_err-offers-clause-stands : goal.returns-in_err-offers-clause-stands
returns-in_err-offers-clause-stands c = let gone = err_from_is_err_and c.from_residual-in_err-offers.result c.from_residual-in_err-offers.ensures.1 in IfOk-gone c.from_residual-in_err-offers.result _ gone.0 gone.1

pub returns-in_err-offers-clause-first : goal.returns-in_err-offers-clause-first
returns-in_err-offers-clause-first c = let gone = err_from_is_err_and c.from_residual-in_err-offers.result c.from_residual-in_err-offers.ensures.1 in IfOk-gone c.from_residual-in_err-offers.result _ gone.0 gone.1

pub returns-in_err-offers-clause-windows : goal.returns-in_err-offers-clause-windows
returns-in_err-offers-clause-windows c = let gone = err_from_is_err_and c.from_residual-in_err-offers.result c.from_residual-in_err-offers.ensures.1 in IfOk-gone c.from_residual-in_err-offers.result _ gone.0 gone.1

pub returns-in_err-own-clause-stands : goal.returns-in_err-own-clause-stands
returns-in_err-own-clause-stands c = let gone = err_from_is_err_and c.from_residual-in_err-own.result c.from_residual-in_err-own.ensures.1 in IfOk-gone c.from_residual-in_err-own.result _ gone.0 gone.1

pub returns-in_err-own-clause-first : goal.returns-in_err-own-clause-first
returns-in_err-own-clause-first c = let gone = err_from_is_err_and c.from_residual-in_err-own.result c.from_residual-in_err-own.ensures.1 in IfOk-gone c.from_residual-in_err-own.result _ gone.0 gone.1

pub returns-in_err-own-clause-windows : goal.returns-in_err-own-clause-windows
returns-in_err-own-clause-windows c = let gone = err_from_is_err_and c.from_residual-in_err-own.result c.from_residual-in_err-own.ensures.1 in IfOk-gone c.from_residual-in_err-own.result _ gone.0 gone.1
