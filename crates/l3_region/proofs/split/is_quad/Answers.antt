use Rattle.std.proofs.Common.{leb, arith, ap, sym, ◌∙◌}
use Rattle.std.specs.List.{list_all}
use Rattle.l3_region.proofs.Unpacked.{four_values}
use Rattle.l3_region.proofs.split.is_quad.Goals as goal

pub returns : goal.returns
returns c = c.are_ones.ensures ∙ ap (list_all (λ x. leb x 1)) (sym (four_values c.args.pairs.now c.args.pair (omega (arith, c.told-pairs, c.requires))))
