use Rattle.std.proofs.Common.{◌≡◌, ◌++◌, length, vec_len, vec_capacity}
use Rattle.l3_board.specs.Machine.{Run}
use Rattle.l3_board.specs.Replies.{replies, state_after}
use Rattle.l3_board.proofs.machine.Core.run.Given as goal

abbrev pub invariant-loop-event : goal.invariant-loop-event
invariant-loop-event g l =
    let number = g.T.Numbered.number_of in
    record {
      replies : l.answers.items ≡ replies number l.fn.self l.yielded;
      after : l.self ≡ state_after number l.fn.self l.yielded;
      run : Run number l.fn.self l.yielded l.answers.items l.self;
      count : vec_len l.answers ≡ length l.yielded;
      room : vec_capacity l.answers ≡ vec_capacity l.fn.answers;
      rest : l.yielded ++ l.event-iterator.rest.items ≡ l.fn.events.items;
    }
