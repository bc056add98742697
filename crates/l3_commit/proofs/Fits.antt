-- Which pieces are fit, from what the tests of one tell.
use Rattle.std.proofs.Common.{rules, ◌≡◌, ◌∙◌, ap, sym, subst, refl, ℕ}
use Rattle.std.specs.Prelude.{Bool, true, false, not, ◌&&◌}
use denote.Enum.Bare.{same_true, sameb}
use Rattle.l3_base.specs.contracts.rate.Channels as channels_written
use Rattle.l3_base.specs.contracts.rate.Rate as rate_written
use Rattle.l3_base.specs.contracts.rate.SampleRate as sample_rate_written
use Rattle.l3_base.specs.declared.settings.Settings.{Settings}
use Rattle.l3_base.specs.declared.slots.Window.{Window}
use Rattle.l3_analysis.specs.declared.stage.Stage.{Stage}
use Rattle.l3_analysis.specs.declared.stage.Stage.TheVariants.{Transformed}
use Rattle.l3_analysis.specs.Piece.{HasSpectra, PieceView, loaded_with}
use Rattle.l3_commit.specs.Ahead.{IsFitTo}

-- an answer is not both
pub not-both : (answer : Bool) → answer ≡ true → answer ≡ false → ⊥
not-both answer yes_is no_is = let bad : true ≡ false = sym yes_is ∙ no_is in cc

-- of three tests none fails
none-fails : (a b c : Bool) → not (a && (b && c)) ≡ false → (a ≡ true) × (b ≡ true) × (c ≡ true)
none-fails true true true is = (refl, refl, refl)
none-fails true true false is = cc
none-fails true false c is = cc
none-fails false b c is = cc

-- settings that do not differ are the same
pub same-settings : (a b : Settings)
    → not (sameb rate_written.the_type a.rate b.rate && (sameb sample_rate_written.the_type a.sample_rate b.sample_rate && sameb channels_written.the_type a.channels b.channels)) ≡ false → a ≡ b
same-settings a b is =
    let told = none-fails _ _ _ is in
    let rates : a.rate ≡ b.rate = same_true rate_written.the_type (search rules) _ _ told.0 in
    let sample_rates : a.sample_rate ≡ b.sample_rate = same_true sample_rate_written.the_type (search rules) _ _ told.1 in
    let channels : a.channels ≡ b.channels = same_true channels_written.the_type (search rules) _ _ told.2 in
    ap (λ x. (let v : Settings = record a { rate = x } in v)) rates
    ∙ (ap (λ x. (let v : Settings = record a { rate = b.rate; sample_rate = x } in v)) sample_rates
    ∙ ap (λ x. (let v : Settings = record b { channels = x } in v)) channels)

-- a piece that was loaded with a window and transformed is fit for it
pub fit-renewed : (st : Settings) (number guess : ℕ) (w : Window) (before loaded after : PieceView) → before.settings ≡ st → loaded ≡ loaded_with before number w guess
    → after ≡ record loaded { stage = Transformed } → IsFitTo st number w after
fit-renewed st number guess w before loaded after same load transform = record {
  settings_are = ap (λ (p : PieceView). p.settings) transform ∙ (ap (λ (p : PieceView). p.settings) load ∙ same);
  number_is = ap (λ (p : PieceView). p.number) transform ∙ ap (λ (p : PieceView). p.number) load;
  left_is = ap (λ (p : PieceView). p.window.left) transform ∙ ap (λ (p : PieceView). p.window.left) load;
  right_is = ap (λ (p : PieceView). p.window.right) transform ∙ ap (λ (p : PieceView). p.window.right) load;
  made = subst (λ (s : Stage). HasSpectra s) (sym (ap (λ (p : PieceView). p.stage) transform)) tt;
}
