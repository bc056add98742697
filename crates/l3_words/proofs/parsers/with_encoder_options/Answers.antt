use Rattle.std.proofs.Common.{◌≡◌, ◌∙◌, refl, ap, ap₂}
use Rattle.std.proofs.lemmas.Result.{IfOk-weaker}
use Rattle.clap.specs.Words.{App, Text, with_rule}
use Rattle.clap.specs.declared.builder.value_parser.ValueParser.{ValueParser}
use Rattle.l3_words.specs.Words.{number_rule}
use Rattle.l3_words.proofs.parsers.with_encoder_options.Goals as goal

-- one more option, behind the same ones and of the same values
same_option : (before now after : App) (values wanted : ValueParser) (name default : Text) → before ≡ now → values ≡ wanted →
    after ≡ with_rule before (number_rule name values default) → after ≡ with_rule now (number_rule name wanted default)
same_option before now after values wanted name default was are is = is ∙ ap₂ with_rule was (ap (λ v. number_rule name v default) are)

pub returns : goal.returns
returns c =
    IfOk-weaker c.with_number-4.result _ _
    (λ m h. same_option _ _ _ _ _ _ _
    (same_option _ _ _ _ _ _ _
    (same_option _ _ _ _ _ _ _
    (same_option _ _ _ _ _ _ _ refl c.wide.ensures c.in_ok-parser.ensures)
    c.narrow.ensures c.in_ok-parser-2.ensures)
    c.narrow-2.ensures c.in_ok-parser-3.ensures)
    c.narrow-3.ensures h)
    c.with_number-4.ensures
