use Rattle.std.proofs.Common.{◌≡◌, ap, ◌∙◌}
use Rattle.l3_analysis.specs.declared.stage.Stage.TheVariants.{Loaded, Transformed}
use Rattle.l3_analysis.specs.Piece.{PieceView}
use Rattle.l3_analysis.proofs.Stages.{analysis-of_empty, empty-loaded, second-is, second-mono, second-stereo}
use Rattle.l3_analysis.proofs.piece.Piece.transform_after.Goals as goal

pub invariant_of-self : goal.invariant_of-self
invariant_of-self c =
    let stage : c.self.inside.stage ≡ Loaded = ap (λ (v : PieceView). v.stage) c.self.view_is ∙ c.requires in
    let empty = empty-loaded c.self.inside.stage _ _ c.self.inside.left stage c.self.invariant.one in
    record {
      one = analysis-of_empty _ _ c.transform_after.new.self c.transform_after.ensures.spectrum c.transform_after.ensures.demand (c.transform_after.ensures.memo ∙ empty);
      two = second-mono c.self.inside.settings.channels c.self.inside.stage Transformed c.self.inside.settings.sample_rate c.self.inside.window.right c.self.inside.right c.in-Mono.is c.self.invariant.two;
    }

pub invariant_of-self-in-Stereo : goal.invariant_of-self-in-Stereo
invariant_of-self-in-Stereo c =
    let stage : c.self.inside.stage ≡ Loaded = ap (λ (v : PieceView). v.stage) c.self.view_is ∙ c.requires in
    let left = empty-loaded c.self.inside.stage _ _ c.self.inside.left stage c.self.invariant.one in
    let second = second-stereo c.self.inside.settings.channels c.self.inside.stage c.self.inside.settings.sample_rate c.self.inside.window.right c.self.inside.right c.in-Stereo.is c.self.invariant.two in
    let right = empty-loaded c.self.inside.stage _ _ c.self.inside.right stage second in
    let made = c.transform_after-in-Stereo.ensures in
    record {
      one = analysis-of_empty _ _ c.transform_after.new.self c.transform_after.ensures.spectrum c.transform_after.ensures.demand (c.transform_after.ensures.memo ∙ left);
      two = second-is c.self.inside.settings.channels Transformed c.self.inside.settings.sample_rate c.self.inside.window.right c.transform_after-in-Stereo.new.self c.in-Stereo.is
          (analysis-of_empty _ _ c.transform_after-in-Stereo.new.self made.spectrum made.demand (made.memo ∙ right));
    }
