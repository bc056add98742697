-- What a track, or a committer, is after a frame that it lent out.
use Rattle.std.specs.Io.BufRead.{Rests}
use Rattle.std.specs.Borrow.{MutBor, Fml}
use Rattle.l3_commit.specs.Tracks.{TrackView}
use Rattle.l3_commit.specs.Standing.{CommitterView}
use Rattle.l3_commit.specs.contracts.committer.Committer.{the_row as committer_row}
use Rattle.l3_commit.specs.contracts.track.Track.{the_row}

-- the track ends with P, whatever was read of the frame that it lent
-- (only the inside of this crate)
abbrev pub RestsTrack : MutBor TrackView → (TrackView → Type 0) → Fml
RestsTrack s P = Rests the_row s P

-- the same of a committer
abbrev pub RestsCommitter : MutBor CommitterView → (CommitterView → Type 0) → Fml
RestsCommitter s P = Rests committer_row s P
