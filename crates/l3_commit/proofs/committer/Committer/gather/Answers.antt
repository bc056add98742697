use Rattle.std.proofs.Common.{◌≡◌, ◌∙◌, ◌+◌, ◌≤◌, ℕ, length, false, refl, sym, ap, subst}
use Rattle.l3_board.specs.declared.entry.Entry.TheVariants.{Told}
use Rattle.l3_board.specs.Desk.{entry_of}
use Rattle.l3_board.specs.Offers.{HasEnded}
use Rattle.l3_commit.specs.Standing.{CommitterView}
use Rattle.l3_commit.proofs.Kept.{keeps-waiting, not-out, same-placed}
use Rattle.l3_commit.proofs.Standings.{stands-waits}
use Rattle.l3_commit.proofs.committer.Committer.gather.Goals as goal

pub unreachable-requires : goal.unreachable-requires
unreachable-requires g c = not-out c.self.inside.own c.take.result c.self.invariant.there c.take.ensures.value c.in_default.is

pub take-back-requires-clause-cells : goal.take-back-requires-clause-cells
take-back-requires-clause-cells g c κs within = ap (λ (v : CommitterView). length v.offers.placed) c.self.view_is ∙ c.requires.cells

pub take-back-requires-clause-goes : goal.take-back-requires-clause-goes
take-back-requires-clause-goes g c κs within = c.requires.goes ∙ sym (ap (λ (v : CommitterView). v.offers.placed) c.self.view_is)

pub take-back-requires-clause-limit : goal.take-back-requires-clause-limit
take-back-requires-clause-limit g c κs within = subst (λ (n : ℕ). n ≤ 8589934592) (sym (ap (λ (v : CommitterView). v.offers.next) c.self.view_is ∙ c.requires.waits)) c.requires.limit

pub invariant_of-self : goal.invariant_of-self
invariant_of-self g c =
    let w = c.self.inside in
    keeps-waiting w.settings w.track w.track w.windows w.offers c.take-back.new.self w.own w.is_ready c.take-back.result c.self.invariant refl
    (same-placed (length c.take-back.new.self.placed) (length w.offers.placed) (length c.args.self.now.offers.placed) (g.B.Board.cells c.args.board.now) c.take-back.ensures.cells (ap (λ (v : CommitterView). length v.offers.placed) c.self.view_is) c.requires.cells)

pub returns-clause-next : goal.returns-clause-next
returns-clause-next g c = c.take-back.ensures.next ∙ ap (λ (n : ℕ). n + 1) (ap (λ (v : CommitterView). v.offers.next) c.self.view_is ∙ c.requires.waits)

pub returns-clause-ended : goal.returns-clause-ended
returns-clause-ended g c =
    let cells = g.B.Board.cells c.args.board.now in
    let old = g.B.Board.last c.args.desk.now in
    let new = g.B.Board.last c.take-back.new.desk in
    subst (λ (n : ℕ). entry_of cells old n ≡ Told n → HasEnded n (entry_of cells new n)) (ap (λ (v : CommitterView). v.offers.next) c.self.view_is ∙ c.requires.waits) c.take-back.ensures.ended

pub returns-clause-stands : goal.returns-clause-stands
returns-clause-stands g c = λ bytes.
    let w = c.self.inside in
    let new : CommitterView = record { track = w.track; windows = w.windows; offers = c.take-back.new.self; own = c.take-back.result; is_ready = false } in
    stands-waits c.args.self.now new bytes (ap (λ (v : CommitterView). v.track) c.self.view_is) (ap (λ (v : CommitterView). v.windows) c.self.view_is) refl

pub returns-clause-same : goal.returns-clause-same
returns-clause-same g c = (ap (λ (v : CommitterView). v.track) c.self.view_is, ap (λ (v : CommitterView). v.windows) c.self.view_is)
