-- What a piece in a box becomes where it is written through a loan.
use Rattle.std.specs.Borrow.{Lends, MutBor, Fml}
use Rattle.l3_analysis.specs.Piece.{PieceView}
use Rattle.l3_analysis.specs.contracts.boxed.PieceBox.{the_row}
use Rattle.l3_analysis.specs.contracts.piece.Piece.{the_row as piece_row}

-- the box ends with the piece that was last written through the loan
abbrev pub LendsPiece : MutBor PieceView → MutBor PieceView → Fml
LendsPiece whole loan = Lends the_row piece_row whole loan (λ last. last)
