use Rattle.std.proofs.Common.{◌≡◌, ◌+◌, ℕ, ◌∙◌, ap, arith, slice_index}
use Rattle.l3_stream.specs.Units.{edge, region_by, table_at, table_by}
use Rattle.l3_stream.proofs.regions.Regions.of.Goals as goal

pub returns : goal.returns
unfolding table_at table_by
returns c =
    let u = c.args.unit.now in
    let st = c.args.settings.now in
    let band : c.from-band.result + 1 ≡ u.region0 + 1 = omega (arith, c.from-band.ensures) in
    let last : c.from-band.result + 1 + c.from.result + 1 ≡ u.region0 + u.region1 + 2 = omega (arith, c.from-band.ensures, c.from.ensures) in
    let second : c.first_line.result ≡ edge st (u.region0 + 1) = c.first_line.ensures ∙ ap (edge st) band in
    let third : c.first_line-2.result ≡ edge st (u.region0 + u.region1 + 2) = c.first_line-2.ensures ∙ ap (edge st) last in
    ap (λ (n : ℕ). λ (line : ℕ). slice_index u.tables (region_by n c.first_line-2.result line)) second
    ∙ ap (λ (n : ℕ). λ (line : ℕ). slice_index u.tables (region_by (edge st (u.region0 + 1)) n line)) third
