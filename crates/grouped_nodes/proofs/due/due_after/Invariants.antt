use Rattle.std.proofs.Common.{◌≡◌, ◌≤◌, List, length}
use Rattle.std.specs.Prelude.{slice_index_or}
use Rattle.node_grid.specs.NodeSet.{ids_where}
use Rattle.omh_paths.specs.declared.wrapped.Wrapped.{Wrapped}
use Rattle.list_scheduler.specs.Schedule.{copies_completed}
use Rattle.protocol.specs.Configured.{setting_of}
use Rattle.protocol.specs.View.{is_due, no_channel}
use Rattle.grouped_nodes.proofs.due.due_after.Given as goal

abbrev pub invariant-loop-c : goal.invariant-loop-c
invariant-loop-c g l =
    (length l.due.items ≤ l.c)
    × ((done : List (Wrapped _)) → l.after ≡ copies_completed g.row.N l.config.graph l.state.standing.members l.state.copies done
    → l.due.items ≡ ids_where (λ c. is_due (setting_of l.config) l.state done (slice_index_or l.config.channels.items c no_channel)) l.c)
