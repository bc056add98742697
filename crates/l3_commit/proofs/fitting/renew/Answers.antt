use Rattle.std.proofs.Common.{◌≡◌, ◌∙◌, ap, sym}
use Rattle.l3_analysis.specs.Piece.{PieceView}
use Rattle.l3_commit.proofs.Fits.{fit-renewed, same-settings}
use Rattle.l3_commit.proofs.fitting.renew.Goals as goal
use Rattle.l3_commit.proofs.fitting.renew.Goals.{then-ne, else-ne}

pub transform_after-requires : goal.transform_after-requires
transform_after-requires c = ap (λ (p : PieceView). p.stage) c.load.ensures

pub returns-clause-fit : goal.returns-clause-fit
returns-clause-fit c =
    let same : c.if-ne.piece.settings ≡ c.args.settings = elim c.if-ne.branch [
      | then-ne w ↦ ap (λ (p : PieceView). p.settings) w.piece-is ∙ w.start_anew.ensures
      | else-ne w ↦ ap (λ (p : PieceView). p.settings) w.piece-is ∙ (sym c.settings.ensures.value ∙ sym (same-settings c.args.settings c.settings.result.now (sym c.ne.ensures ∙ w.if-ne.false)))
    ] in
    fit-renewed c.args.settings c.args.number _ c.args.window.now c.if-ne.piece c.load.new.self c.transform_after.new.self same c.load.ensures c.transform_after.ensures.piece

pub returns-clause-fresh : goal.returns-clause-fresh
returns-clause-fresh c =
    (ap (λ (p : PieceView). p.stage) c.transform_after.ensures.piece, ap (λ (p : PieceView). p.memos) c.transform_after.ensures.piece ∙ ap (λ (p : PieceView). p.memos) c.load.ensures)
