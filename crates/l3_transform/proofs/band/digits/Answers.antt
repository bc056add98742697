use Rattle.std.proofs.Common.{◌^◌, ◌<◌, arith}
use Rattle.l3_transform.proofs.Digits.{digits_by_zeros, digits_by_zeros-le}
use Rattle.l3_transform.proofs.band.digits.Goals as goal

pub returns-clause-value : goal.returns-clause-value
returns-clause-value c = let fits : c.args.n < 2 ^ 64 = omega arith in digits_by_zeros c.args.n fits

pub returns-clause-bound : goal.returns-clause-bound
returns-clause-bound c = let fits : c.args.n < 2 ^ 64 = omega arith in λ lt. digits_by_zeros-le 42 c.args.n fits lt
