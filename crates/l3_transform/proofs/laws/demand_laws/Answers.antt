use Rattle.l3_transform.proofs.Digits.{binary_digits-has}
use Rattle.l3_transform.proofs.laws.demand_laws.Goals as goal

pub returns : goal.returns
returns c = binary_digits-has
