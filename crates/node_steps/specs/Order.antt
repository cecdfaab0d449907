-- A node's steps by the multiset of what it is delivered in each slot.
use Rattle.std.specs.Prelude.{◌≡◌, ◌<◌, ◌≤◌, ℕ, ◌+◌, ◌*◌, Bool, List, [], ◌∷◌, IsPermutation}
use Rattle.frames.specs.Content.{Expectation}
use Rattle.error_detect.specs.Watching.{Watch, opened}
use Rattle.error_detect.specs.Multiset.{Arriving}
use Rattle.agreed_state.specs.declared.config.Inputs.{Inputs}
use Rattle.node_steps.specs.Parts.{NodeView}
use Rattle.node_steps.specs.Steps.{given_frame, begun}
use Rattle.node_steps.specs.Period.{slots_run}
use Rattle.node_steps.specs.Living.{periods_run}

-- deliveries, one after another
abbrev pub all_given : {N : ℕ} → NodeView N → List Arriving → NodeView N
all_given v [] = v
all_given v (d ∷ ds) = all_given (given_frame v d.from d.tick d.bytes) ds

-- Law: in a slot that has just been opened, in the slots of a period, and in those of a list of periods, the order in which frames are
-- delivered within a slot changes nothing
pub record OrderIsFree : Type 0 where
  pub slot : (N : ℕ) (v : NodeView N) (w : Watch) (e : Expectation) (ds es : List Arriving) → v.arrived ≡ opened w e → IsPermutation ds es → all_given v ds ≡ all_given v es
  pub period : (N : ℕ) (v : NodeView N) (p : ℕ) (g : Inputs) (ds es : ℕ → List Arriving) (t : ℕ) → t ≤ 2 * v.config.m + 4 → ((s : ℕ) → s < t → IsPermutation (ds s) (es s))
      → slots_run ds t (begun v p g) ≡ slots_run es t (begun v p g)
  pub life : (N : ℕ) (v : NodeView N) (restarts : ℕ → Bool) (inputs : ℕ → Inputs) (ds es : ℕ → ℕ → List Arriving) (n : ℕ) → ((p s : ℕ) → p < n → s < 2 * v.config.m + 4 → IsPermutation (ds p s) (es p s))
      → periods_run (2 * v.config.m + 4) restarts inputs ds n v ≡ periods_run (2 * v.config.m + 4) restarts inputs es n v
