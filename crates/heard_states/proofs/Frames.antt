-- What arrives of the frames of the sync slot.
use Rattle.std.proofs.Common.{ℕ, ◌≡◌, ◌≤◌, ◌+◌, Bool, true, false, [], length, Option, None, Some, refl, ap, subst, arith}
use Rattle.std.specs.Prelude.{if◌then◌else◌, ◌==◌}
use Rattle.std.proofs.lemmas.Option.{same_Some}
use Rattle.node_grid.specs.Capacity.{IsCapacity}
use Rattle.node_grid.specs.CapacityLaws.{capacity-le}
use Rattle.node_grid.specs.Kinds.{cold}
use Rattle.frames.specs.Content.{Content}
use Rattle.frames.specs.Content.Content.{State, Done0, DoneRelay, Data, Report0, ReportRelay, Cold}
use Rattle.frames.specs.Spelling.{IsInRange, body_spelling}
use Rattle.frames.specs.Laws.{IsLaidOut}
use Rattle.frames.specs.ReadingLaws.{is_short, cold_in_range}
use Rattle.fault_classes.specs.Change.{Change}
use Rattle.fault_classes.specs.Line.{effect_at}
use Rattle.fault_classes.specs.Plan.{Plan}
use Rattle.agreed_state.specs.declared.config.Config.{Config}
use Rattle.agreed_state.specs.Config.{IsConfig}
use Rattle.agreed_state.specs.ConfigLaws.{few_rounds}
use Rattle.agreed_state.specs.Agreed.{AgreedView, IsAgreed}
use Rattle.agreed_state.specs.Body.{body, state_len}
use Rattle.agreed_state.specs.ReadLaws.{state_len-short, length-body}
use Rattle.agreed_state.specs.Expecting.{expectation}
use Rattle.protocol.specs.Arrival.{body_said}
use Rattle.protocol.specs.Arrival.Arrival.{Bad, Good}
use Rattle.protocol.specs.Talk.{arrives}
use Rattle.safety.proofs.Arrivals.{arrives_clean, arrives_cold, arrives_fits}
use Rattle.safety.proofs.Runs.{grammar}
use Rattle.heard_states.specs.Slot.{expected_of, told_state}
use Rattle.heard_states.specs.Hearing.{IsSaid, IsShortState}

-- what is expected of the slot
none_due : (b : Bool) → ◌≡◌ {A = ℕ} (if b then 0 else 0) 0
none_due true = refl
none_due false = refl

pub expectation_is : {n : ℕ} (config : Config n) (p j : ℕ) → expectation config p 0 j [] 0 ≡ expected_of config p j
expectation_is config p j = ap (λ (d : ℕ). record (expected_of config p j) { due = d }) (none_due (0 == config.m + 2))

module _ {n : ℕ} (config : Config n) (capacity : IsCapacity n) (ok : IsConfig n config) (p j : ℕ) where
  nodes_few : config.nodes ≤ 16
  nodes_few = omega (arith, ok.few_nodes, capacity-le n capacity)

  laid_out : IsLaidOut (expected_of config p j)
  laid_out = record {
    nodes = nodes_few;
    rounds = few_rounds n config ok;
    members = omega arith;
    state_len = omega (arith, state_len-short n config (capacity-le n capacity) ok);
    due = omega arith;
  }

  -- a full node's state, and that a node is cold, are in range
  pub said_fits : (c : Content) → IsSaid (state_len config) c → IsInRange (expected_of config p j) c
  said_fits (State bytes) long = is_short (expected_of config p j) (State bytes) laid_out refl long
  said_fits Cold long = cold_in_range (expected_of config p j)
  said_fits (Done0 task) long = absurd long
  said_fits (DoneRelay entries) long = absurd long
  said_fits (Data numbers) long = absurd long
  said_fits (Report0 masks) long = absurd long
  said_fits (ReportRelay entries) long = absurd long

  pub body_long : (a : AgreedView) → IsAgreed n config a → length (body config a) ≡ state_len config
  body_long a agreed = length-body n config a (capacity-le n capacity) ok agreed

  -- an untouched frame arrives as sent
  pub told_clean : (plan : Plan) (i : ℕ) (a : AgreedView) → IsAgreed n config a → effect_at plan.lines p 0 j i ≡ None → told_state config plan p i j (Some a) ≡ Good (body config a)
  told_clean plan i a agreed clean =
      arrives_clean grammar body_said (effect_at plan.lines p 0 j i) (expected_of config p j) (expected_of config p j) (State (body config a)) (body config a) clean refl
      (said_fits (State (body config a)) (body_long a agreed)) refl

  pub told_cold : (plan : Plan) (i : ℕ) → effect_at plan.lines p 0 j i ≡ None → told_state config plan p i j None ≡ Bad cold
  told_cold plan i clean = arrives_cold grammar body_said (effect_at plan.lines p 0 j i) (expected_of config p j) (expected_of config p j) Cold clean refl refl

  -- what is read good is a state of the right length, or nothing of the slot
  short_in : (c : Content) → IsInRange (expected_of config p j) c → IsShortState c
  short_in (State bytes) fits = omega (arith, fits.sized, state_len-short n config (capacity-le n capacity) ok)
  short_in Cold fits = tt
  short_in (Done0 task) fits = tt
  short_in (DoneRelay entries) fits = tt
  short_in (Data numbers) fits = tt
  short_in (Report0 masks) fits = tt
  short_in (ReportRelay entries) fits = tt

  pub read_short : (change : Option Change) (c d : Content) → arrives Some change (expected_of config p j) (expected_of config p j) c ≡ Good d → IsShortState d
  read_short change c d good =
      let fits = arrives_fits grammar Some change (expected_of config p j) (expected_of config p j) c d good in
      subst IsShortState (same_Some fits.0 d fits.2) (short_in fits.0 fits.1)

  -- and is no longer than a state
  pub said_short : (nodes : ℕ) (c : Content) → IsSaid (state_len config) c → length (body_spelling nodes c) ≤ 1122
  said_short nodes (State bytes) long = omega (arith, long, state_len-short n config (capacity-le n capacity) ok)
  said_short nodes Cold long = omega arith
  said_short nodes (Done0 task) long = absurd long
  said_short nodes (DoneRelay entries) long = absurd long
  said_short nodes (Data numbers) long = absurd long
  said_short nodes (Report0 masks) long = absurd long
  said_short nodes (ReportRelay entries) long = absurd long
