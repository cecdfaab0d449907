-- The claims and the rows of a run.
use Rattle.std.proofs.Common.{ℕ, ◌+◌, Bool, List, length}
use Rattle.frames.specs.Content.{IsClaim, IsRow}
use Rattle.protocol.specs.Run.{System, claim_sent, change_at, full_at, so_far, after_sync, done_talk, after_values, row_talk, goes_in, run}
use Rattle.protocol.specs.ViewLaws.{IsValid, before_valid}
use Rattle.protocol.specs.Accepted.{IsAccepted}
use Rattle.safety.proofs.StateLaws.{StateLaws}
use Rattle.safety.proofs.Induction.{state_laws}
use Rattle.safety.proofs.SaidInRange.{claim_in_range, claims_form, rows_form, row_in_range}
use Rattle.safety.proofs.Runs.{grammar, valid}
use Rattle.odd_relays.specs.Chains.{IsPassedOn}
use Rattle.odd_talks.specs.Law.{IsRelayed, received_world, ClaimPassedOnLaw, RowPassedOnLaw}
use Rattle.odd_talks.proofs.Passing.{talk_passed}

module _ (sys : System) (given : IsAccepted sys) (states : StateLaws sys.setting) (p : ℕ) where
  -- any node's state, whether it is in use or not, is one of the configuration
  state_valid : (i : ℕ) → IsValid sys.setting (so_far sys p (goes_in sys p) i (after_sync sys p (goes_in sys p) i)).before
  state_valid i = before_valid sys.setting given.capacity given.config i p (sys.inputs i p) (goes_in sys p i) (after_sync sys p (goes_in sys p) i) (goes_in sys p i).state (valid sys given states p i)

  claim_passed : (members : List ℕ) (c : ℕ) (odd : List ℕ) (is_awake : ℕ → Bool) → IsRelayed sys p 1 (λ i. ((run sys).received i p).done) members c odd is_awake
      → IsPassedOn (received_world sys p members (λ i. ((run sys).received i p).done)) c odd is_awake
  claim_passed members c odd is_awake relayed =
      talk_passed grammar (IsClaim (length sys.setting.config.graph.tasks)) (done_talk sys p (goes_in sys p)) sys.setting.config.m members c odd is_awake
      (claims_form sys given states p (λ i. (so_far sys p (goes_in sys p) i (after_sync sys p (goes_in sys p) i)).before) state_valid (full_at sys p (goes_in sys p)) (λ r. change_at sys p (1 + r))
      (λ j. claim_sent j (sys.inputs j p) (so_far sys p (goes_in sys p) j (after_sync sys p (goes_in sys p) j)).before)
      (λ j. claim_in_range sys given states j (sys.inputs j p) (so_far sys p (goes_in sys p) j (after_sync sys p (goes_in sys p) j)).before (state_valid j)))
      relayed.distinct relayed.full relayed.goes relayed.regular

  row_passed : (members : List ℕ) (c : ℕ) (odd : List ℕ) (is_awake : ℕ → Bool) → IsRelayed sys p (sys.setting.config.m + 3) (λ i. ((run sys).received i p).report) members c odd is_awake
      → IsPassedOn (received_world sys p members (λ i. ((run sys).received i p).report)) c odd is_awake
  row_passed members c odd is_awake relayed =
      talk_passed grammar (IsRow sys.setting.config.version sys.setting.capacity sys.setting.config.nodes) (row_talk sys p (goes_in sys p)) sys.setting.config.m members c odd is_awake
      (rows_form sys given states p (λ i. (so_far sys p (goes_in sys p) i (after_sync sys p (goes_in sys p) i)).before) state_valid (full_at sys p (goes_in sys p)) (λ r. change_at sys p (sys.setting.config.m + 3 + r))
      (λ j. (so_far sys p (goes_in sys p) j (after_values sys p (goes_in sys p) j)).found)
      (λ j. row_in_range sys given states j p (sys.inputs j p) (goes_in sys p j) (after_values sys p (goes_in sys p) j) (goes_in sys p j).state))
      relayed.distinct relayed.full relayed.goes relayed.regular

pub claims_law : ClaimPassedOnLaw
claims_law sys given p members c odd is_awake relayed = claim_passed sys given (state_laws sys.setting given.capacity given.config) p members c odd is_awake relayed

pub rows_law : RowPassedOnLaw
rows_law sys given p members c odd is_awake relayed = row_passed sys given (state_laws sys.setting given.capacity given.config) p members c odd is_awake relayed
