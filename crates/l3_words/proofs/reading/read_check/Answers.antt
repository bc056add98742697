use Rattle.l3_words.proofs.CommandLemmas.{check_refused, check_taken, same_err}
use Rattle.l3_words.specs.Words.{texts_of}
use Rattle.clap.specs.Words.{app_of}
use Rattle.l3_words.proofs.reading.read_check.Goals as goal

pub returns-in-Err-clause-usage : goal.returns-in-Err-clause-usage
returns-in-Err-clause-usage c = λ is. check_refused (app_of c.check_parser.result) (texts_of c.args.words.now) c.check_parser.ensures (c.in-Err.ensures.refused (same_err c.in-Err.fault _ is))

pub returns-clause-command : goal.returns-clause-command
returns-clause-command c = check_taken (app_of c.check_parser.result) (texts_of c.args.words.now) c.check_parser.ensures c.in-Ok.ensures.taken
