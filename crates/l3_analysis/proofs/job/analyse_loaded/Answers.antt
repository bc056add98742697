use Rattle.std.proofs.Common.{ℕ, ◌+◌, ◌∙◌, ap}
use Rattle.l3_analysis.specs.declared.stage.Stage.TheVariants.{Transformed}
use Rattle.l3_analysis.proofs.Unstaged.{presumed-staged, presumed_steps-staged}
use Rattle.l3_analysis.proofs.job.analyse_loaded.Goals as goal

pub returns-clause-presumed : goal.returns-clause-presumed
returns-clause-presumed g c =
    presumed-staged c.args.piece.now c.transform_after.new.self c.presume.new.self Transformed c.transform_after.ensures.piece c.presume.ensures.presumed

pub returns-clause-ticks : goal.returns-clause-ticks
returns-clause-ticks g c =
    c.presume.ensures.ticks ∙ ap (λ (n : ℕ). c.args.steps.now + n) (presumed_steps-staged c.args.piece.now c.transform_after.new.self Transformed c.transform_after.ensures.piece)
