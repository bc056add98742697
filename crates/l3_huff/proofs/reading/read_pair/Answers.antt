use Rattle.std.proofs.Common.{◌≡◌, ◌≤◌, arith, to_z, of_z, w16, rules, FitsSigned}
use Rattle.std.proofs.lemmas.Int.{to_z-of_z}
use Rattle.l3_huff.specs.Words.{between}
use Rattle.l3_huff.proofs.Shapes.{greatest-limit}
use Rattle.l3_huff.proofs.Stands.{pair_at-no_entry, pair_at-no_x, pair_at-no_y, pair_at-some, pair_none, pair_stands}
use Rattle.l3_huff.proofs.reading.read_pair.Goals as goal

pub returns-in_err-row-clause-none : goal.returns-in_err-row-clause-none
returns-in_err-row-clause-none c =
    rw c.from_residual.ensures (pair_none c.args.table c.args.bytes.now c.args.at c.args.end (pair_at-no_entry c.args.table (between c.args.bytes.now c.args.at c.args.end) c.in_err-row.ensures.none))

pub returns-in_err-x-clause-none : goal.returns-in_err-x-clause-none
returns-in_err-x-clause-none c =
    let bytes = c.args.bytes.now in
    let entry = c.in_ok-row.ensures in
    rw c.from_residual-in_err-x.ensures (pair_none c.args.table bytes c.args.at c.args.end
    (pair_at-no_x c.args.table c.in_ok-row.row c.in_ok-row.column (between bytes c.args.at c.args.end) (between bytes c.in_ok-row.at c.args.end) entry.column entry.found.given c.in_err-x.ensures.none))

pub returns-in_err-y-clause-none : goal.returns-in_err-y-clause-none
returns-in_err-y-clause-none c =
    let bytes = c.args.bytes.now in
    let entry = c.in_ok-row.ensures in
    rw c.from_residual-in_err-y.ensures (pair_none c.args.table bytes c.args.at c.args.end
    (pair_at-no_y c.args.table c.in_ok-row.row c.in_ok-row.column (between bytes c.args.at c.args.end) (between bytes c.in_ok-row.at c.args.end) entry.column entry.found.given
    c.in_ok-x.x (between bytes c.in_ok-x.at c.args.end) c.in_ok-x.ensures.found.given c.in_err-y.ensures.none))

pub returns-clause-found : goal.returns-clause-found
returns-clause-found c =
    let bytes = c.args.bytes.now in
    let entry = c.in_ok-row.ensures in
    let x = c.in_ok-x.ensures.found in
    let y = c.in_ok-y.ensures.found in
    let x-is : to_z w16 (of_z w16 c.in_ok-x.x) ≡ c.in_ok-x.x = to_z-of_z w16 c.in_ok-x.x (let fits : FitsSigned w16 c.in_ok-x.x = search rules in fits) in
    let y-is : to_z w16 (of_z w16 c.in_ok-y.y) ≡ c.in_ok-y.y = to_z-of_z w16 c.in_ok-y.y (let fits : FitsSigned w16 c.in_ok-y.y = search rules in fits) in
    let forward : c.args.at ≤ c.in_ok-y.at = omega (arith, entry.found.forward, x.forward, y.forward) in
    rw (x-is, y-is) (pair_stands c.args.table bytes c.args.at c.args.end c.in_ok-x.x c.in_ok-y.y c.in_ok-y.at c.requires.table forward y.within c.requires.within
    (pair_at-some c.args.table c.in_ok-row.row c.in_ok-row.column (between bytes c.args.at c.args.end) (between bytes c.in_ok-row.at c.args.end) entry.column entry.found.given
    c.in_ok-x.x c.in_ok-y.y (between bytes c.in_ok-x.at c.args.end) (between bytes c.in_ok-y.at c.args.end) x.given y.given))

pub returns-clause-limit : goal.returns-clause-limit
returns-clause-limit c =
    let stands = returns-clause-found c in
    let limit = greatest-limit c.args.table c.requires.table in
    (omega (arith, stands.holds_x.1, limit), omega (arith, stands.holds_y.1, limit))
