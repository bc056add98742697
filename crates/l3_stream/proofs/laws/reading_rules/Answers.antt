use Rattle.l3_stream.proofs.Header.{headers_are_there, headers_are_found}
use Rattle.l3_stream.proofs.Side.{side_is_there, side_is_found}
use Rattle.l3_stream.proofs.Rules.{side_is_exact}
use Rattle.l3_stream.proofs.laws.reading_rules.Goals as goal

pub returns-clause-header_there : goal.returns-clause-header_there
returns-clause-header_there c = headers_are_there

pub returns-clause-header_found : goal.returns-clause-header_found
returns-clause-header_found c = headers_are_found

pub returns-clause-side_there : goal.returns-clause-side_there
returns-clause-side_there c = side_is_there

pub returns-clause-side_found : goal.returns-clause-side_found
returns-clause-side_found c = side_is_found

pub returns-clause-side_rule : goal.returns-clause-side_rule
returns-clause-side_rule c = side_is_exact
