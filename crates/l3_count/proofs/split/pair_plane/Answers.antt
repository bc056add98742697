use Rattle.std.proofs.Common.{◌≡◌, ◌<◌, arith, ◌+◌, ◌*◌, ◌/◌, ◌%◌, ℤ, FitsSigned, w8, rules, sym, subst, pos, get_or}
use Rattle.std.proofs.lemmas.Int.{to_z-of_z}
use Rattle.l3_count.specs.Rows.{size_at, IsStored}
use Rattle.l3_count.proofs.Ends.{pair_below, pair_first, pair_second}
use Rattle.l3_count.proofs.split.pair_plane.Goals as goal

pub returns : goal.returns
returns c lines are h =
    let pair = 16 * c.args.block + c.args.place in
    let k = c.args.k in
    let rows = c.args.rows.now in
    let cell = 480 * c.args.block + 32 * k + c.args.place in
    let there : cell ≡ 480 * (pair / 16) + 32 * k + pair % 16 = omega (arith, c.requires.place) in
    let room : pair < 288 = omega (arith, c.requires.block, c.requires.place) in
    let one = get_or rows cell (pos 0) in
    let two = get_or rows (cell + 16) (pos 0) in
    let fits : FitsSigned w8 one = search rules in
    let fits' : FitsSigned w8 two = search rules in
    let first = subst (λ (z : ℤ). IsStored (k + 1) (size_at lines (2 * pair)) z) (sym (to_z-of_z w8 one fits)) (pair_first lines rows k pair cell room c.requires.value there are) in
    let second = subst (λ (z : ℤ). IsStored (k + 1) (size_at lines (2 * pair + 1)) z) (sym (to_z-of_z w8 two fits')) (pair_second lines rows k pair cell room c.requires.value there are) in
    pair_below k (size_at lines (2 * pair)) (size_at lines (2 * pair + 1)) c.plain.result c.plain-2.result c.max.result h
    (c.plain.ensures (k + 1) (size_at lines (2 * pair)) first) (c.plain-2.ensures (k + 1) (size_at lines (2 * pair + 1)) second) c.max.ensures
