use Rattle.l3_base.proofs.ChoosingLemmas.{first_least-first, least_passing-least, greatest_passing-greatest}
use Rattle.l3_base.proofs.laws.choosing.Goals as goal

pub returns-clause-first : goal.returns-clause-first
returns-clause-first g c = first_least-first

pub returns-clause-least : goal.returns-clause-least
returns-clause-least g c = least_passing-least

pub returns-clause-greatest : goal.returns-clause-greatest
returns-clause-greatest g c = greatest_passing-greatest
