use Rattle.top_call.proofs.Logs.{node_of_replay}
use Rattle.top_call.proofs.laws.alone_text.Goals as goal

pub returns : goal.returns
returns c capacity log is of_run low = node_of_replay log low (λ p l. (c.alone.ensures capacity log is of_run p l).outcome)
