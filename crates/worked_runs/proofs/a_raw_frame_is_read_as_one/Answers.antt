use Rattle.worked_runs.proofs.Changed.{a_raw_frame_is_read_as_one-rows, a_raw_frame_is_read_as_one-classes}
use Rattle.worked_runs.proofs.a_raw_frame_is_read_as_one.Goals as goal

pub returns-clause-rows : goal.returns-clause-rows
returns-clause-rows c = a_raw_frame_is_read_as_one-rows

pub returns-clause-classes : goal.returns-clause-classes
returns-clause-classes c = a_raw_frame_is_read_as_one-classes
