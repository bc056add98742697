use Rattle.std.proofs.Common.{◌≡◌, ◌∙◌, ◌⊎◌, ◌+◌, ◌*◌, ◌≤◌, ℕ, length, true, false, refl, sym, ap, subst}
use Rattle.l3_commit.specs.Ahead.{AreOffered, RestStays}
use Rattle.l3_commit.specs.Standing.{CommitterView}
use Rattle.l3_commit.specs.Tracks.{next_of}
use Rattle.l3_commit.proofs.Kept.{few-ahead, keeps-waiting, not-out, same-placed}
use Rattle.l3_commit.proofs.Standings.{stands-waits}
use Rattle.l3_commit.proofs.committer.Committer.fill.Goals as goal

pub end-end-requires : goal.end-end-requires
end-end-requires g c = c.requires.there

pub unreachable-requires : goal.unreachable-requires
unreachable-requires g c = not-out c.self.inside.own c.take.result c.self.invariant.there c.take.ensures.value c.in_default.is

pub offer_all-back-requires-clause-made : goal.offer_all-back-requires-clause-made
offer_all-back-requires-clause-made g c κs within = c.requires.made

pub offer_all-back-requires-clause-cells : goal.offer_all-back-requires-clause-cells
offer_all-back-requires-clause-cells g c κs within = ap (λ (v : CommitterView). length v.offers.placed) c.self.view_is ∙ c.requires.cells

pub offer_all-back-requires-clause-few : goal.offer_all-back-requires-clause-few
offer_all-back-requires-clause-few g c κs within =
    few-ahead c.self.inside.windows.ahead (length c.self.inside.offers.placed) (g.B.Board.cells c.args.board.now) c.self.invariant.ahead (ap (λ (v : CommitterView). length v.offers.placed) c.self.view_is ∙ c.requires.cells)

pub offer_all-back-requires-clause-goes : goal.offer_all-back-requires-clause-goes
offer_all-back-requires-clause-goes g c κs within = c.requires.goes ∙ sym (ap (λ (v : CommitterView). v.offers.placed) c.self.view_is)

pub offer_all-back-requires-clause-base : goal.offer_all-back-requires-clause-base
offer_all-back-requires-clause-base g c κs within =
    ap (λ (v : CommitterView). v.windows.base) c.self.view_is ∙ (c.requires.base ∙ (sym c.requires.waits ∙ sym (ap (λ (v : CommitterView). v.offers.next) c.self.view_is)))

pub offer_all-back-requires-clause-hand : goal.offer_all-back-requires-clause-hand
offer_all-back-requires-clause-hand g c κs within =
    let now = c.args.self.now in
    let there = subst (λ (n : ℕ). (now.windows.ended ≡ true) ⊎ (576 * (n + now.windows.ahead) ≤ now.windows.read)) (sym c.requires.waits) c.requires.there in
    subst (λ (v : CommitterView). (v.windows.ended ≡ true) ⊎ (576 * (v.offers.next + v.windows.ahead) ≤ v.windows.read)) (sym c.self.view_is) there

pub offer_all-back-requires-clause-end : goal.offer_all-back-requires-clause-end
offer_all-back-requires-clause-end g c κs within =
    let now = c.args.self.now in
    let near = subst (λ (n : ℕ). c.end-end.result ≤ n + length now.offers.placed) (sym c.requires.waits) c.end-end.ensures.near in
    subst (λ (v : CommitterView). c.end-end.result ≤ v.offers.next + g.B.Board.cells c.args.board.now) (sym c.self.view_is) (subst (λ (n : ℕ). c.end-end.result ≤ now.offers.next + n) c.requires.cells near)

pub offer_all-back-requires-clause-limit : goal.offer_all-back-requires-clause-limit
offer_all-back-requires-clause-limit g c κs within = c.end-end.ensures.limit

pub invariant_of-self : goal.invariant_of-self
invariant_of-self g c =
    let w = c.self.inside in
    keeps-waiting w.settings w.track w.track w.windows w.offers c.offer_all-back.new.offers w.own w.is_ready c.offer_all-back.result c.self.invariant refl
    (same-placed (length c.offer_all-back.new.offers.placed) (length w.offers.placed) (length c.args.self.now.offers.placed) (g.B.Board.cells c.args.board.now) c.offer_all-back.ensures.cells (ap (λ (v : CommitterView). length v.offers.placed) c.self.view_is) c.requires.cells)

pub returns-clause-made : goal.returns-clause-made
returns-clause-made g c = c.offer_all-back.ensures.made

pub returns-clause-cells : goal.returns-clause-cells
returns-clause-cells g c = c.offer_all-back.ensures.cells

pub returns-clause-goes : goal.returns-clause-goes
returns-clause-goes g c = c.offer_all-back.ensures.goes

pub returns-clause-next : goal.returns-clause-next
returns-clause-next g c = c.offer_all-back.ensures.next ∙ ap (λ (v : CommitterView). v.offers.next) c.self.view_is

pub returns-clause-offered : goal.returns-clause-offered
returns-clause-offered g c =
    let cells = g.B.Board.cells c.args.board.now in
    let old = g.B.Board.last c.args.desk.now in
    let new = g.B.Board.last c.offer_all-back.new.desk in
    subst (λ (to : ℕ). AreOffered cells old new (next_of c.args.self.now.track) to) c.end-end.ensures.value
    (subst (λ (from : ℕ). AreOffered cells old new from c.end-end.result) (ap (λ (v : CommitterView). v.offers.next) c.self.view_is ∙ c.requires.waits) c.offer_all-back.ensures.offered)

pub returns-clause-rest : goal.returns-clause-rest
returns-clause-rest g c =
    let cells = g.B.Board.cells c.args.board.now in
    let old = g.B.Board.last c.args.desk.now in
    let new = g.B.Board.last c.offer_all-back.new.desk in
    subst (λ (to : ℕ). RestStays cells old new (next_of c.args.self.now.track) to) c.end-end.ensures.value
    (subst (λ (from : ℕ). RestStays cells old new from c.end-end.result) (ap (λ (v : CommitterView). v.offers.next) c.self.view_is ∙ c.requires.waits) c.offer_all-back.ensures.rest)

pub returns-clause-served : goal.returns-clause-served
returns-clause-served g c = c.offer_all-back.ensures.served

pub returns-clause-got : goal.returns-clause-got
returns-clause-got g c = c.offer_all-back.ensures.got

pub returns-clause-stands : goal.returns-clause-stands
returns-clause-stands g c = λ bytes.
    let w = c.self.inside in
    let new : CommitterView = record { track = w.track; windows = w.windows; offers = c.offer_all-back.new.offers; own = c.offer_all-back.result; is_ready = false } in
    stands-waits c.args.self.now new bytes (ap (λ (v : CommitterView). v.track) c.self.view_is) (ap (λ (v : CommitterView). v.windows) c.self.view_is) refl

pub returns-clause-same : goal.returns-clause-same
returns-clause-same g c = (ap (λ (v : CommitterView). v.track) c.self.view_is, ap (λ (v : CommitterView). v.windows) c.self.view_is)
