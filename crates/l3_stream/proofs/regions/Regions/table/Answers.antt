use Rattle.std.proofs.Common.{rules}
use Rattle.l3_stream.specs.Units.{table_by}
use Rattle.l3_stream.proofs.regions.Regions.table.Goals as goal

pub returns-then-line-self-clause-value : goal.returns-then-line-self-clause-value
unfolding table_by
returns-then-line-self-clause-value c = rw (← c.self.view_is) (search rules)

pub returns-then-line-self-2-clause-value : goal.returns-then-line-self-2-clause-value
unfolding table_by
returns-then-line-self-2-clause-value c = rw (← c.self.view_is) (search rules)

pub returns-else-line-self-2-clause-value : goal.returns-else-line-self-2-clause-value
unfolding table_by
returns-else-line-self-2-clause-value c = rw (← c.self.view_is) (search rules)
