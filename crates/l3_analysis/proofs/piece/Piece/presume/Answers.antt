use Rattle.std.proofs.Common.{◌≡◌, ℕ, ◌/◌, refl, sym, ap, ◌∙◌, arith}
use Rattle.l3_analysis.specs.declared.stage.Stage.TheVariants.{Transformed, Presumed}
use Rattle.l3_analysis.specs.contracts.piece.Piece.{the_view}
use Rattle.l3_analysis.specs.Piece.{PieceView}
use Rattle.l3_analysis.proofs.Stages.{analysis-transformed, analysis-with_memo, second-is, second-mono, second-stereo}
use Rattle.l3_analysis.proofs.Presuming.{counts-presumed, steps-presumed, presumed-mono, presumed-stereo, presumed_gain-is, presumed_steps-mono, presumed_steps-stereo, reserve_before-first, reserve_before-second}
use Rattle.l3_analysis.proofs.piece.Piece.presume.Goals as goal

pub invariant_of-self : goal.invariant_of-self
invariant_of-self g c =
    let p = c.self.inside in
    let stage : p.stage ≡ Transformed = ap (λ (v : PieceView). v.stage) c.self.view_is ∙ c.requires in
    let left = analysis-transformed p.stage p.settings.sample_rate p.window.left p.left stage c.self.invariant.one in
    let one = c.presume.ensures in
    record {
      one = analysis-with_memo p.settings.sample_rate p.window.left p.left c.presume.new.self left one.spectrum one.demand one.kept one.memo.amp_is;
      two = second-mono p.settings.channels p.stage Presumed p.settings.sample_rate p.window.right p.right c.in-Mono.is c.self.invariant.two;
    }

pub invariant_of-self-in-Stereo : goal.invariant_of-self-in-Stereo
invariant_of-self-in-Stereo g c =
    let p = c.self.inside in
    let stage : p.stage ≡ Transformed = ap (λ (v : PieceView). v.stage) c.self.view_is ∙ c.requires in
    let left = analysis-transformed p.stage p.settings.sample_rate p.window.left p.left stage c.self.invariant.one in
    let second = second-stereo p.settings.channels p.stage p.settings.sample_rate p.window.right p.right c.in-Stereo.is c.self.invariant.two in
    let right = analysis-transformed p.stage p.settings.sample_rate p.window.right p.right stage second in
    let one = c.presume.ensures in
    let two = c.presume-in-Stereo.ensures in
    record {
      one = analysis-with_memo p.settings.sample_rate p.window.left p.left c.presume.new.self left one.spectrum one.demand one.kept one.memo.amp_is;
      two = second-is p.settings.channels Presumed p.settings.sample_rate p.window.right c.presume-in-Stereo.new.self c.in-Stereo.is
          (analysis-with_memo p.settings.sample_rate p.window.right p.right c.presume-in-Stereo.new.self right two.spectrum two.demand two.kept two.memo.amp_is);
    }

pub returns-in-Mono-clause-presumed : goal.returns-in-Mono-clause-presumed
returns-in-Mono-clause-presumed g c =
    let p = c.self.inside in
    let v : PieceView = the_view p in
    let stage : p.stage ≡ Transformed = ap (λ (w : PieceView). w.stage) c.self.view_is ∙ c.requires in
    let left = analysis-transformed p.stage p.settings.sample_rate p.window.left p.left stage c.self.invariant.one in
    let frame = ap (λ (n : ℕ). n / 2) c.get-frame.ensures.value in
    let gain = presumed_gain-is v 0 (c.get-frame.result / 2) c.supposed-reserve.result p.left.demand p.left.spectrum left.spectrum left.demand frame (c.supposed-reserve.ensures ∙ sym (reserve_before-first v)) in
    let first = counts-presumed v 0 _ p.left.spectrum p.left.memo c.presume.new.self.memo left.spectrum gain c.presume.ensures.memo in
    rw (← c.self.view_is) (presumed-mono v _ c.in-Mono.is refl first (λ k. refl))

pub returns-in-Mono-clause-ticks : goal.returns-in-Mono-clause-ticks
returns-in-Mono-clause-ticks g c =
    let p = c.self.inside in
    let v : PieceView = the_view p in
    let stage : p.stage ≡ Transformed = ap (λ (w : PieceView). w.stage) c.self.view_is ∙ c.requires in
    let left = analysis-transformed p.stage p.settings.sample_rate p.window.left p.left stage c.self.invariant.one in
    let frame = ap (λ (n : ℕ). n / 2) c.get-frame.ensures.value in
    let gain = presumed_gain-is v 0 (c.get-frame.result / 2) c.supposed-reserve.result p.left.demand p.left.spectrum left.spectrum left.demand frame (c.supposed-reserve.ensures ∙ sym (reserve_before-first v)) in
    let steps = steps-presumed v 0 _ p.left.spectrum left.spectrum gain in
    let all = presumed_steps-mono v c.in-Mono.is in
    rw (← c.self.view_is) (omega (arith, c.presume.ensures.ticks))

pub returns-in-Stereo-clause-presumed : goal.returns-in-Stereo-clause-presumed
returns-in-Stereo-clause-presumed g c =
    let p = c.self.inside in
    let v : PieceView = the_view p in
    let stage : p.stage ≡ Transformed = ap (λ (w : PieceView). w.stage) c.self.view_is ∙ c.requires in
    let left = analysis-transformed p.stage p.settings.sample_rate p.window.left p.left stage c.self.invariant.one in
    let frame = ap (λ (n : ℕ). n / 2) c.get-frame.ensures.value in
    let gain = presumed_gain-is v 0 (c.get-frame.result / 2) c.supposed-reserve.result p.left.demand p.left.spectrum left.spectrum left.demand frame (c.supposed-reserve.ensures ∙ sym (reserve_before-first v)) in
    let second = second-stereo p.settings.channels p.stage p.settings.sample_rate p.window.right p.right c.in-Stereo.is c.self.invariant.two in
    let right = analysis-transformed p.stage p.settings.sample_rate p.window.right p.right stage second in
    let reserve = c.presume.ensures.reserve ∙ reserve_before-second v (c.get-frame.result / 2) c.supposed-reserve.result p.left.demand p.left.spectrum left.spectrum left.demand frame c.supposed-reserve.ensures in
    let gain_right = presumed_gain-is v 1 (c.get-frame.result / 2) c.presume.new.reserve p.right.demand p.right.spectrum right.spectrum right.demand frame reserve in
    let one = counts-presumed v 0 _ p.left.spectrum p.left.memo c.presume.new.self.memo left.spectrum gain c.presume.ensures.memo in
    let two = counts-presumed v 1 _ p.right.spectrum p.right.memo c.presume-in-Stereo.new.self.memo right.spectrum gain_right c.presume-in-Stereo.ensures.memo in
    rw (← c.self.view_is) (presumed-stereo v _ c.in-Stereo.is refl one two (λ k. refl))

pub returns-in-Stereo-clause-ticks : goal.returns-in-Stereo-clause-ticks
returns-in-Stereo-clause-ticks g c =
    let p = c.self.inside in
    let v : PieceView = the_view p in
    let stage : p.stage ≡ Transformed = ap (λ (w : PieceView). w.stage) c.self.view_is ∙ c.requires in
    let left = analysis-transformed p.stage p.settings.sample_rate p.window.left p.left stage c.self.invariant.one in
    let frame = ap (λ (n : ℕ). n / 2) c.get-frame.ensures.value in
    let gain = presumed_gain-is v 0 (c.get-frame.result / 2) c.supposed-reserve.result p.left.demand p.left.spectrum left.spectrum left.demand frame (c.supposed-reserve.ensures ∙ sym (reserve_before-first v)) in
    let second = second-stereo p.settings.channels p.stage p.settings.sample_rate p.window.right p.right c.in-Stereo.is c.self.invariant.two in
    let right = analysis-transformed p.stage p.settings.sample_rate p.window.right p.right stage second in
    let reserve = c.presume.ensures.reserve ∙ reserve_before-second v (c.get-frame.result / 2) c.supposed-reserve.result p.left.demand p.left.spectrum left.spectrum left.demand frame c.supposed-reserve.ensures in
    let gain_right = presumed_gain-is v 1 (c.get-frame.result / 2) c.presume.new.reserve p.right.demand p.right.spectrum right.spectrum right.demand frame reserve in
    let one = steps-presumed v 0 _ p.left.spectrum left.spectrum gain in
    let two = steps-presumed v 1 _ p.right.spectrum right.spectrum gain_right in
    let all = presumed_steps-stereo v c.in-Stereo.is in
    rw (← c.self.view_is) (omega (arith, c.presume.ensures.ticks, c.presume-in-Stereo.ensures.ticks))
