use Rattle.l3_speculation.proofs.Running.{frames_are_a_front, runs_are_alike, runs_are_counted, runs_are_whole, track_is_progress}
use Rattle.l3_speculation.proofs.Going.{runs_go_on}
use Rattle.l3_speculation.proofs.Boards.{board_hands_out_sound}
use Rattle.l3_speculation.proofs.laws.speculative_runs_commit_the_choice.Goals as goal

pub returns-clause-front : goal.returns-clause-front
returns-clause-front c = frames_are_a_front

pub returns-clause-progress : goal.returns-clause-progress
returns-clause-progress c = track_is_progress

pub returns-clause-counted : goal.returns-clause-counted
returns-clause-counted c = runs_are_counted

pub returns-clause-whole : goal.returns-clause-whole
returns-clause-whole c = runs_are_whole

pub returns-clause-alike : goal.returns-clause-alike
returns-clause-alike c = runs_are_alike

pub returns-clause-goes_on : goal.returns-clause-goes_on
returns-clause-goes_on c = runs_go_on

pub returns-clause-handed : goal.returns-clause-handed
returns-clause-handed c = board_hands_out_sound
