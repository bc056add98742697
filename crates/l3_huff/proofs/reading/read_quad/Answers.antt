use Rattle.std.proofs.Common.{◌≡◌, ℕ, [], ◌∷◌, ◌≤◌, arith, to_z, of_z, w16, rules, FitsSigned}
use Rattle.std.proofs.lemmas.Int.{to_z-of_z}
use Rattle.l3_huff.specs.Words.{between}
use Rattle.l3_huff.proofs.Stands.{quad_at-no_index, quad_at-no_v, quad_at-no_w, quad_at-no_x, quad_at-no_y, quad_at-some, quad_none, quad_stands}
use Rattle.l3_huff.proofs.reading.read_quad.Goals as goal

pub returns-in_err-index-clause-none : goal.returns-in_err-index-clause-none
returns-in_err-index-clause-none c =
    rw c.from_residual.ensures (quad_none c.args.table c.args.bytes.now c.args.at c.args.end (quad_at-no_index c.args.table (between c.args.bytes.now c.args.at c.args.end) c.in_err-index.ensures.none))

pub returns-in_err-v-clause-none : goal.returns-in_err-v-clause-none
returns-in_err-v-clause-none c =
    let rest = λ (at : ℕ). between c.args.bytes.now at c.args.end in
    rw c.from_residual-in_err-v.ensures (quad_none c.args.table c.args.bytes.now c.args.at c.args.end
    (quad_at-no_v c.args.table c.in_ok-index.index (rest c.args.at) (rest c.in_ok-index.at) c.in_ok-index.ensures.found.given c.in_err-v.ensures.none))

pub returns-in_err-w-clause-none : goal.returns-in_err-w-clause-none
returns-in_err-w-clause-none c =
    let rest = λ (at : ℕ). between c.args.bytes.now at c.args.end in
    rw c.from_residual-in_err-w.ensures (quad_none c.args.table c.args.bytes.now c.args.at c.args.end
    (quad_at-no_w c.args.table c.in_ok-index.index (rest c.args.at) (rest c.in_ok-index.at) c.in_ok-index.ensures.found.given c.in_ok-v.v (rest c.in_ok-v.at) c.in_ok-v.ensures.found.given c.in_err-w.ensures.none))

pub returns-in_err-x-clause-none : goal.returns-in_err-x-clause-none
returns-in_err-x-clause-none c =
    let rest = λ (at : ℕ). between c.args.bytes.now at c.args.end in
    rw c.from_residual-in_err-x.ensures (quad_none c.args.table c.args.bytes.now c.args.at c.args.end
    (quad_at-no_x c.args.table c.in_ok-index.index (rest c.args.at) (rest c.in_ok-index.at) c.in_ok-index.ensures.found.given c.in_ok-v.v c.in_ok-w.w (rest c.in_ok-v.at) (rest c.in_ok-w.at) c.in_ok-v.ensures.found.given c.in_ok-w.ensures.found.given c.in_err-x.ensures.none))

pub returns-in_err-y-clause-none : goal.returns-in_err-y-clause-none
returns-in_err-y-clause-none c =
    let rest = λ (at : ℕ). between c.args.bytes.now at c.args.end in
    rw c.from_residual-in_err-y.ensures (quad_none c.args.table c.args.bytes.now c.args.at c.args.end
    (quad_at-no_y c.args.table c.in_ok-index.index (rest c.args.at) (rest c.in_ok-index.at) c.in_ok-index.ensures.found.given c.in_ok-v.v c.in_ok-w.w c.in_ok-x.x (rest c.in_ok-v.at) (rest c.in_ok-w.at) (rest c.in_ok-x.at) c.in_ok-v.ensures.found.given c.in_ok-w.ensures.found.given c.in_ok-x.ensures.found.given c.in_err-y.ensures.none))

pub returns-clause-found : goal.returns-clause-found
returns-clause-found c =
    let rest = λ (at : ℕ). between c.args.bytes.now at c.args.end in
    let index = c.in_ok-index.ensures.found in
    let v = c.in_ok-v.ensures.found in
    let w = c.in_ok-w.ensures.found in
    let x = c.in_ok-x.ensures.found in
    let y = c.in_ok-y.ensures.found in
    let v-is : to_z w16 (of_z w16 c.in_ok-v.v) ≡ c.in_ok-v.v = to_z-of_z w16 c.in_ok-v.v (let fits : FitsSigned w16 c.in_ok-v.v = search rules in fits) in
    let w-is : to_z w16 (of_z w16 c.in_ok-w.w) ≡ c.in_ok-w.w = to_z-of_z w16 c.in_ok-w.w (let fits : FitsSigned w16 c.in_ok-w.w = search rules in fits) in
    let x-is : to_z w16 (of_z w16 c.in_ok-x.x) ≡ c.in_ok-x.x = to_z-of_z w16 c.in_ok-x.x (let fits : FitsSigned w16 c.in_ok-x.x = search rules in fits) in
    let y-is : to_z w16 (of_z w16 c.in_ok-y.y) ≡ c.in_ok-y.y = to_z-of_z w16 c.in_ok-y.y (let fits : FitsSigned w16 c.in_ok-y.y = search rules in fits) in
    let forward : c.args.at ≤ c.in_ok-y.at = omega (arith, index.forward, v.forward, w.forward, x.forward, y.forward) in
    let quad = c.in_ok-v.v ∷ c.in_ok-w.w ∷ c.in_ok-x.x ∷ c.in_ok-y.y ∷ [] in
    rw (v-is, w-is, x-is, y-is) (quad_stands c.args.table c.args.bytes.now c.args.at c.args.end quad c.in_ok-y.at forward y.within c.requires.within
    (quad_at-some c.args.table c.in_ok-index.index (rest c.args.at) (rest c.in_ok-index.at) index.given c.in_ok-v.v c.in_ok-w.w c.in_ok-x.x c.in_ok-y.y
    (rest c.in_ok-v.at) (rest c.in_ok-w.at) (rest c.in_ok-x.at) (rest c.in_ok-y.at) v.given w.given x.given y.given))
