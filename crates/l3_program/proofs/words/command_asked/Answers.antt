use Rattle.l3_words.specs.Words.{texts_of}
use Rattle.l3_program.proofs.WordLemmas.{small}
use Rattle.l3_program.proofs.words.command_asked.Goals as goal

pub returns-in-Ok-Demo-clause-frames : goal.returns-in-Ok-Demo-clause-frames
returns-in-Ok-Demo-clause-frames c =
    (rw c.in-Ok-Demo.field-0-is at (small c.args.guessers (texts_of c.args.words.now) c.in-Ok-Demo.field-0 c.in-Ok-Demo.ensures.command)).0

pub returns-in-Ok-Demo-clause-options : goal.returns-in-Ok-Demo-clause-options
returns-in-Ok-Demo-clause-options c =
    (rw c.in-Ok-Demo.field-0-is at (small c.args.guessers (texts_of c.args.words.now) c.in-Ok-Demo.field-0 c.in-Ok-Demo.ensures.command)).1

pub returns-in-Ok-Encode-clause-options : goal.returns-in-Ok-Encode-clause-options
returns-in-Ok-Encode-clause-options c =
    (rw c.in-Ok-Encode.field-0-is at (small c.args.guessers (texts_of c.args.words.now) c.in-Ok-Encode.field-0 c.in-Ok-Encode.ensures.command)).1
