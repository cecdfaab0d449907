-- Runs that have the same texts have the same text in each form.
use Rattle.std.proofs.Common.{ℕ, ◌≡◌}
use Rattle.scenario.specs.Scenario.{ScenarioView}
use Rattle.capacities.specs.Texts.{HaveSameTexts}
use Rattle.top_call.specs.declared.form.Form.{Form}
use Rattle.top_call.specs.declared.form.Form.TheVariants.{Replay, Trace, Check}
use Rattle.top_call.specs.Run.{printed, run_text}

pub each_form : {N M : ℕ} (form : Form) (a : ScenarioView N) (b : ScenarioView M) → HaveSameTexts a b → run_text form a ≡ run_text form b
unfolding printed
each_form Replay a b h = h.replay
each_form Trace a b h = h.trace
each_form Check a b h = h.check
