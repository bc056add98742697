use Rattle.std.proofs.Common.{arith, ◌≡◌, ◌∙◌, ap}
use Rattle.l3_commit.specs.Tracks.{next_of}
use Rattle.l3_encoder.proofs.on_board.take_next.Goals as goal

pub returns-clause-served : goal.returns-clause-served
returns-clause-served g c =
    let number = next_of c.args.committer.now.track in
    let at : next_of c.fill.new.self.track ≡ number = ap next_of c.fill.ensures.same.0 in
    let anew = c.fill.ensures.offered number (omega arith) c.requires.more in
    let took = rw at at c.gather.ensures.served in
    (took (c.fill.ensures.served ∙ c.requires.served) anew.offered).0

pub fill-requires-clause-made : goal.fill-requires-clause-made
fill-requires-clause-made g c κs within = c.requires.made

pub fill-requires-clause-cells : goal.fill-requires-clause-cells
fill-requires-clause-cells g c κs within = c.requires.cells

pub fill-requires-clause-goes : goal.fill-requires-clause-goes
fill-requires-clause-goes g c κs within = c.requires.goes

pub fill-requires-clause-some : goal.fill-requires-clause-some
fill-requires-clause-some g c κs within = c.requires.some

pub fill-requires-clause-waits : goal.fill-requires-clause-waits
fill-requires-clause-waits g c κs within = c.requires.waits

pub fill-requires-clause-base : goal.fill-requires-clause-base
fill-requires-clause-base g c κs within = c.requires.base

pub fill-requires-clause-there : goal.fill-requires-clause-there
fill-requires-clause-there g c κs within = c.requires.there
