use Rattle.l3_huff.proofs.PairLaws.{pair_takes, pair_again}
use Rattle.l3_huff.proofs.laws.pair_reading.Goals as goal

pub returns-clause-there : goal.returns-clause-there
returns-clause-there c = λ table bits rest x y is found. pair_takes table bits ((x, y), rest) is found

pub returns-clause-found : goal.returns-clause-found
returns-clause-found c = λ table rest x y holds. pair_again table x y rest holds
