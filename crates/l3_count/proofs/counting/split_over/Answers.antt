use Rattle.std.proofs.Common.{ℕ, List, pos, ap, sym, ◌∙◌, rules}
use Rattle.l3_base.specs.Amp.{no_amp}
use Rattle.l3_region.specs.Bands.{band_edges}
use Rattle.l3_region.specs.Split.{split_of}
use Rattle.l3_quant.specs.Amplified.{quantised_bands}
use Rattle.l3_count.proofs.counting.split_over.Goals as goal

pub returns-then-eq-clause-value : goal.returns-then-eq-clause-value
returns-then-eq-clause-value c rate lines classes are pairs =
    c.split_at.ensures.value rate lines are ∙ ap (λ (a : List ℕ). split_of (quantised_bands (band_edges rate) a (pos c.args.gain) lines)) (sym (search rules))

pub returns-else-eq-clause-value : goal.returns-else-eq-clause-value
returns-else-eq-clause-value c rate lines classes are pairs =
    c.split_of_pairs.ensures.value (quantised_bands (band_edges rate) c.args.amp.now (pos c.args.gain) lines) (band_edges rate) classes pairs
