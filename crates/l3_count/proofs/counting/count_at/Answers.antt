use Rattle.std.proofs.Common.{◌≡◌, ◌∙◌, pos, sym, false, true}
use Rattle.std.specs.Prelude.{unsigned_abs}
use Rattle.std.proofs.lemmas.Bool.{true≢false}
use Rattle.l3_quant.specs.Quantiser.{is_codable}
use Rattle.l3_quant.specs.Amplified.{quantised_bands}
use Rattle.l3_quant.proofs.Codable.{one_above}
use Rattle.l3_region.specs.Bands.{band_edges}
use Rattle.l3_count.proofs.Counts.{count_of-none}
use Rattle.l3_count.proofs.Cuts.{not_codable}
use Rattle.l3_count.proofs.counting.count_at.Goals as goal

pub returns-else-is_codable_at-clause-value : goal.returns-else-is_codable_at-clause-value
returns-else-is_codable_at-clause-value g c =
    let edges = band_edges c.args.rate in
    let q = quantised_bands edges c.args.amp.now (pos c.args.gain) c.args.spec.now in
    let bad : is_codable q ≡ false = not_codable q (λ codable. true≢false (sym ((c.is_codable_at.ensures c.args.rate c.args.spec.now (c.set.ensures c.args.rate c.line_peaks.ensures)).1 codable) ∙ c.if-is_codable_at.false)) in
    sym (count_of-none edges c.args.amp.now c.args.spec.now c.args.gain bad)

pub returns-else-is_codable_at-clause-none : goal.returns-else-is_codable_at-clause-none
returns-else-is_codable_at-clause-none g c =
    let q = quantised_bands (band_edges c.args.rate) c.args.amp.now (pos c.args.gain) c.args.spec.now in
    let bad : is_codable q ≡ false = not_codable q (λ codable. true≢false (sym ((c.is_codable_at.ensures c.args.rate c.args.spec.now (c.set.ensures c.args.rate c.line_peaks.ensures)).1 codable) ∙ c.if-is_codable_at.false)) in
    one_above unsigned_abs 8191 q bad
