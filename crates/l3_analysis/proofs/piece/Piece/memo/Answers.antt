use Rattle.std.proofs.Common.{subst}
use Rattle.l3_analysis.specs.Piece.{IsSound}
use Rattle.l3_analysis.proofs.Sound.{sound}
use Rattle.l3_analysis.proofs.piece.Piece.memo.Goals as goal

pub returns-then-channel-eq0-clause-sound : goal.returns-then-channel-eq0-clause-sound
returns-then-channel-eq0-clause-sound c =
    let p = c.self.inside in
    subst IsSound c.self.view_is (sound p.settings p.number p.stage p.guess p.window p.left p.right c.self.invariant)

pub returns-else-channel-eq0-clause-sound : goal.returns-else-channel-eq0-clause-sound
returns-else-channel-eq0-clause-sound c =
    let p = c.self.inside in
    subst IsSound c.self.view_is (sound p.settings p.number p.stage p.guess p.window p.left p.right c.self.invariant)
