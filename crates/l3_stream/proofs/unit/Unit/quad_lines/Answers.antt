use Rattle.std.proofs.Common.{◌≡◌, ◌+◌, ◌-◌, ◌*◌, take, drop, ap, arith, ◌∙◌}
use Rattle.l3_stream.specs.Units.{quads_of}
use Rattle.l3_stream.proofs.unit.Unit.quad_lines.Goals as goal

pub returns-clause-value : goal.returns-clause-value
unfolding quads_of
returns-clause-value c =
    let lines = c.args.self.now.lines in
    let count : 2 * c.from-start.result + 4 * c.from.result - 2 * c.from-start.result ≡ 4 * c.args.self.now.quads = omega (arith, c.from.ensures) in
    ap (λ n. take n (drop (2 * c.from-start.result) lines)) count ∙ ap (λ n. take (4 * c.args.self.now.quads) (drop (2 * n) lines)) c.from-start.ensures
