use Rattle.std.proofs.Common.{◌≡◌, ◌+◌, ◌-◌, ◌*◌, ◌<◌, ◌≤◌, ◌⊎◌, false, length}
use Rattle.l3_base.specs.Lengths.{granules_for}
use Rattle.l3_board.specs.Offers.{GoesWith}
use Rattle.l3_commit.specs.Tracks.{next_of}
use Rattle.l3_encoder.proofs.SoFar.{SoFar}
use Rattle.l3_encoder.proofs.on_board.encode_on_board.Given as goal

abbrev pub invariant-granules : goal.invariant-granules
invariant-granules g l = record {
  so_far : SoFar l.fn.committer l.committer l.fn.settings l.writer (g.K.Sink.taken l.fn.sink) (g.K.Sink.taken l.sink) (g.S.Source.left l.fn.source) (g.S.Source.left l.source) l.frames l.tried l.made l.fn.steps l.steps;
  turn : (next_of l.committer.track ≡ l.committer.windows.base) ⊎ (next_of l.committer.track ≡ l.committer.windows.base + 1);
  limit : next_of l.committer.track ≤ 8589934592;
  within : next_of l.committer.track ≤ granules_for l.committer.windows.read;
  few : length l.committer.track.granules < 2;
  frames : l.frames ≡ l.committer.track.frame;
  fewer : l.made ≤ l.tried;
  small : l.tried ≤ 512 * next_of l.committer.track;
  ticks : l.steps ≡ l.fn.steps + l.made;
  ahead : 0 < l.committer.windows.ahead;
  sound : l.committer.windows.samples.failed ≡ false;
  reads : g.S.Source.faults l.source ≡ g.S.Source.faults l.fn.source;
  writes : g.K.Sink.faults l.sink ≡ g.K.Sink.faults l.fn.sink;
  desk : g.B.Board.has_desk l.board l.desk;
  cells : length l.committer.offers.placed ≡ g.B.Board.cells l.board;
  some : 0 < length l.committer.offers.placed;
  goes : GoesWith (g.B.Board.last l.desk) l.committer.offers;
  waits : l.committer.offers.next ≡ next_of l.committer.track;
  served : g.B.Board.served l.desk ≡ next_of l.committer.track;
}

abbrev pub decreases-granules : goal.decreases-granules
decreases-granules g l = 8589934592 - next_of l.committer.track
