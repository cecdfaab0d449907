-- What a call makes of a line: of the node, of the sink, and what it answers.
use Rattle.std.specs.Prelude.{◌≡◌, ℕ, ◌==◌, List, Option, Result, Err, IfErr, if◌then◌else◌}
use Rattle.std.specs.Io.KnownBytes.{Keeps}
use Rattle.span_io.specs.Causes.{Writes}
use Rattle.live_node.specs.Live.{LiveView, Step, unknown_rule}
use Rattle.live_node.specs.Live.Step.{Goes, Refuses}
use Rattle.live_node.specs.declared.live.Refusal.{Refusal}
use Rattle.live_node.specs.declared.live.Refusal.TheVariants.{Unknown, NotNow, WriteFault}

-- the refusal by a rule
abbrev pub refusal_by : ℕ → Refusal
refusal_by rule = if rule == unknown_rule then Unknown else NotNow

-- the line was taken: the node is this, and the answer was written whole, or a prefix of it where the count of faults rose
pub record IsAnswered {N : ℕ} {T : Type 0} (new after : LiveView N) (before now : Option (List ℕ)) (faults0 faults1 : ℕ) (text : List ℕ) (result : Result T Refusal) : Type 0 where
  pub stands : new ≡ after
  pub wrote : Writes before now faults0 faults1 text result
  pub fault : IfErr result (λ e. e ≡ WriteFault)

-- the line was refused by a rule: the node is as before, and nothing was written
pub record IsRefused {N : ℕ} {T : Type 0} (old new : LiveView N) (before now : Option (List ℕ)) (faults0 faults1 : ℕ) (rule : ℕ) (result : Result T Refusal) : Type 0 where
  pub stays : new ≡ old
  pub silent : Keeps before now
  pub faultless : faults1 ≡ faults0
  pub says : result ≡ Err (refusal_by rule)

-- what becomes of a node and a sink by a step. What was written to a sink, and how often it failed, is as its kind of sinks tells it
abbrev pub Takes : {N : ℕ} {S T : Type 0} → (S → Option (List ℕ)) → (S → ℕ) → LiveView N → S → LiveView N → S → Step N → Result T Refusal → Type 0
Takes written faults old s new s' (Goes after text) result = IsAnswered new after (written s) (written s') (faults s) (faults s') text result
Takes written faults old s new s' (Refuses rule) result = IsRefused old new (written s) (written s') (faults s) (faults s') rule result
