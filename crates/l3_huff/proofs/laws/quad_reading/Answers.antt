use Rattle.l3_huff.proofs.QuadLaws.{quad_takes, quad_again}
use Rattle.l3_huff.proofs.laws.quad_reading.Goals as goal

pub returns-clause-there : goal.returns-clause-there
returns-clause-there c = λ table bits rest quad found. quad_takes table bits (quad, rest) found

pub returns-clause-found : goal.returns-clause-found
returns-clause-found c = λ table rest quad is. quad_again table quad rest is
