use Rattle.clap.specs.Words.{app_of, found_of, rows_of}
use Rattle.l3_words.proofs.CommandLemmas.{encode_none, encode_refused, encode_some, same_err}
use Rattle.l3_words.specs.Words.{texts_of}
use Rattle.l3_words.proofs.reading.read_encode.Goals as goal

pub returns-in-Err-clause-usage : goal.returns-in-Err-clause-usage
returns-in-Err-clause-usage c = λ is. encode_refused c.args.guessers (app_of c.in-Ok.parser) (texts_of c.args.words.now) c.in-Ok.ensures (c.in-Err.ensures.refused (same_err c.in-Err.fault _ is))

pub returns-in-Some-clause-command : goal.returns-in-Some-clause-command
returns-in-Some-clause-command c =
    encode_some c.args.guessers (app_of c.in-Ok.parser) (texts_of c.args.words.now) (rows_of (found_of c.in-Ok-matched.matches)) c.in-Some.options c.has_flag.result
    c.in-Ok.ensures c.in-Ok-matched.ensures.taken c.in-Ok-matched.ensures.rows c.in-Some.ensures c.has_flag.ensures

pub returns-clause-usage : goal.returns-clause-usage
returns-clause-usage c = λ is.
    encode_none c.args.guessers (app_of c.in-Ok.parser) (texts_of c.args.words.now) (rows_of (found_of c.in-Ok-matched.matches))
    c.in-Ok.ensures c.in-Ok-matched.ensures.taken c.in-Ok-matched.ensures.rows c.in-None.ensures
