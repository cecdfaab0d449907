use Rattle.worked_runs.proofs.Grouped.{copies_are_voted_in_their_group-done, copies_are_voted_in_their_group-votes, copies_are_voted_in_their_group-rows, copies_are_voted_in_their_group-counts, copies_are_voted_in_their_group-streaks}
use Rattle.worked_runs.proofs.copies_are_voted_in_their_group.Goals as goal

pub returns-clause-done : goal.returns-clause-done
returns-clause-done c = copies_are_voted_in_their_group-done

pub returns-clause-votes : goal.returns-clause-votes
returns-clause-votes c = copies_are_voted_in_their_group-votes

pub returns-clause-rows : goal.returns-clause-rows
returns-clause-rows c = copies_are_voted_in_their_group-rows

pub returns-clause-counts : goal.returns-clause-counts
returns-clause-counts c = copies_are_voted_in_their_group-counts

pub returns-clause-streaks : goal.returns-clause-streaks
returns-clause-streaks c = copies_are_voted_in_their_group-streaks
