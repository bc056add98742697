use Rattle.std.proofs.Common.{◌≡◌, ◌+◌, ◌*◌, ap, sym, ◌∙◌, arith}
use Rattle.l3_stream.specs.Side.{quad_number}
use Rattle.l3_stream.proofs.SideLemmas.{unit_digits}
use Rattle.l3_stream.proofs.unit_fields.unit_number.Goals as goal
use Rattle.l3_stream.proofs.unit_fields.unit_number.Goals.{in-A, in-B}

pub returns : goal.returns
returns c =
    let quad : c.match-unit.quad ≡ quad_number c.args.unit.now.quad =
    elim c.match-unit.branch [ in-A w ↦ w.quad-is ∙ ap quad_number (sym w.in-A.is) | in-B w ↦ w.quad-is ∙ ap quad_number (sym w.in-B.is) ] in
    unit_digits c.args.unit.now
    (((((c.from.result * 512 + c.from-2.result) * 256 + c.from-3.result) * 1048576 + ((c.from-4.result * 32 + c.from-5.result) * 32 + c.from-6.result)) * 128 + (c.from-7.result * 8 + c.from-8.result)) * 8 + c.match-unit.quad)
    c.requires (omega (arith, c.from.ensures, c.from-2.ensures, c.from-3.ensures, c.from-4.ensures, c.from-5.ensures, c.from-6.ensures, c.from-7.ensures, c.from-8.ensures, quad))
