use Rattle.l3_encoder.proofs.Fresh.{goes-fresh}
use Rattle.l3_program_tests.proofs.encoder_threads.over_lock.Goals as goal

pub encode_over-requires-clause-goes : goal.encode_over-requires-clause-goes
encode_over-requires-clause-goes g c κs within =
    goes-fresh c.args.cells c.in-Some.desk c.args.committer.now.offers c.in-Some.ensures.desk c.requires.offers
