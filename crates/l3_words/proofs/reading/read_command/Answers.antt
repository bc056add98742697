use Rattle.std.proofs.Common.{rules, ◌≡◌, ◌∙◌, Some, None}
use Rattle.std.specs.Prelude.{IfOk}
use Rattle.l3_words.proofs.CommandLemmas.{check_word, demo_word, encode_word, no_word}
use Rattle.l3_words.specs.declared.command.CommandWord.TheVariants as word
use Rattle.l3_words.specs.Words.{command_of, texts_of, word_of}
use Rattle.l3_words.proofs.reading.read_command.Goals as goal

pub returns-in-None-clause-usage : goal.returns-in-None-clause-usage
returns-in-None-clause-usage c = λ is. no_word c.args.guessers (texts_of c.args.words.now) c.in-None.ensures

pub returns-in-Some-Encode-clause-command : goal.returns-in-Some-Encode-clause-command
returns-in-Some-Encode-clause-command c =
    let first : Some word.Encode ≡ word_of (texts_of c.args.words.now) = search rules in
    rw (encode_word c.args.guessers (texts_of c.args.words.now) first) c.read_encode.ensures.command

pub returns-in-Some-Encode-clause-usage : goal.returns-in-Some-Encode-clause-usage
returns-in-Some-Encode-clause-usage c = λ is.
    let first : Some word.Encode ≡ word_of (texts_of c.args.words.now) = search rules in
    encode_word c.args.guessers (texts_of c.args.words.now) first ∙ c.read_encode.ensures.usage is

pub returns-in-Some-Check-clause-command : goal.returns-in-Some-Check-clause-command
returns-in-Some-Check-clause-command c =
    let first : Some word.Check ≡ word_of (texts_of c.args.words.now) = search rules in
    rw (check_word c.args.guessers (texts_of c.args.words.now) first) c.read_check.ensures.command

pub returns-in-Some-Check-clause-usage : goal.returns-in-Some-Check-clause-usage
returns-in-Some-Check-clause-usage c = λ is.
    let first : Some word.Check ≡ word_of (texts_of c.args.words.now) = search rules in
    check_word c.args.guessers (texts_of c.args.words.now) first ∙ c.read_check.ensures.usage is

pub returns-in-Some-Demo-clause-command : goal.returns-in-Some-Demo-clause-command
returns-in-Some-Demo-clause-command c =
    let first : Some word.Demo ≡ word_of (texts_of c.args.words.now) = search rules in
    rw (demo_word c.args.guessers (texts_of c.args.words.now) first) c.read_demo.ensures.command

pub returns-in-Some-Demo-clause-usage : goal.returns-in-Some-Demo-clause-usage
returns-in-Some-Demo-clause-usage c = λ is.
    let first : Some word.Demo ≡ word_of (texts_of c.args.words.now) = search rules in
    demo_word c.args.guessers (texts_of c.args.words.now) first ∙ c.read_demo.ensures.usage is
