use Rattle.l3_stream.proofs.Following.{nothing-follows}
use Rattle.l3_commit.proofs.track.Track.new.Goals as goal

pub returns-clause-follows : goal.returns-clause-follows
returns-clause-follows c = nothing-follows c.args.settings
