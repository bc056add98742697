use Rattle.std.proofs.Common.{◌∙◌, FitsSigned, w8, rules}
use Rattle.std.proofs.lemmas.Int.{to_z-of_z}
use Rattle.l3_count.proofs.rows.stored.Goals as goal

pub returns : goal.returns
returns c x is =
    let fits : FitsSigned w8 c.signed.result = search rules in
    record {
      plane = c.plane.result;
      is = c.plane.ensures.is x is;
      stored = to_z-of_z w8 c.signed.result fits ∙ c.signed.ensures;
    }
