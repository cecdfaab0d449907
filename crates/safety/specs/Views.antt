-- The six laws that lead from a period's premise to what is safe of it and to the next period's premise, and the induction.
use Rattle.std.specs.Prelude.{ℕ, suc, ◌≡◌, ◌≢◌, ℤ, pos, ◌≤ℤ◌, true, false, List, Some}
use Rattle.node_grid.specs.declared.class.Class.TheVariants.{N, J}
use Rattle.node_grid.specs.Class.{is_sound}
use Rattle.node_grid.specs.NodeSet.{has_id}
use Rattle.omh_paths.specs.declared.wrapped.Wrapped.TheVariants.{Plain}
use Rattle.mme_vote.specs.declared.channel.Channel.TheVariants.{State, Copy}
use Rattle.mme_vote.specs.Channel.{is_judged}
use Rattle.mme_vote.specs.Vote.{distance}
use Rattle.list_scheduler.specs.Schedule.{verdict, claim_of, no_verdict}
use Rattle.agreed_state.specs.Agreed.{AgreedView}
use Rattle.agreed_state.specs.Body.{body}
use Rattle.protocol.specs.View.{Mode, own_claim, own_value, channel, deviates, other_body}
use Rattle.protocol.specs.Cluster.{Cluster, begins, view}
use Rattle.protocol.specs.Safe.{Classing, Claim, VotesClose, CopiesClose, Safe}
use Rattle.safety.specs.Rows.{RowsFit}
use Rattle.safety.specs.Given.{IsGiven, IsSparing, Started, IsHere, AllSparing}

-- sync: each sound node goes through the period with the agreed state of the nonfaulty ones, and no nonfaulty node's body differs from it. It needs no budget
pub record SyncHolds (cl : Cluster) (class_of : Classing) (p : ℕ) (a : AgreedView) : Type 0 where
  pub full : (i : ℕ) → class_of p i ≡ N → (view cl i p).mode ≡ Mode.Full
  pub joining : (i : ℕ) → class_of p i ≡ J → (view cl i p).mode ≡ Mode.Joining
  pub goes : (i : ℕ) → is_sound (class_of p i) ≡ true → (view cl i p).before ≡ Some a
  pub no_state : (j i : ℕ) → class_of p j ≡ N → is_sound (class_of p i) ≡ true → j ≢ i → other_body (body cl.setting.config a) ((cl.received i p).sync j) ≡ false

abbrev pub SyncLaw : Type 0
SyncLaw = (cl : Cluster) (class_of : Classing) (p : ℕ) → IsGiven cl class_of → (start : Started cl class_of p) → SyncHolds cl class_of p start.state

-- claims: sound nodes settle claims alike and have the same channels due; claims of nonfaulty members settle as they are, and bring no verdict
pub record ClaimsHold (cl : Cluster) (class_of : Classing) (p : ℕ) (a : AgreedView) : Type 0 where
  pub done : (i j : ℕ) → is_sound (class_of p i) ≡ true → is_sound (class_of p j) ≡ true → (view cl i p).done ≡ (view cl j p).done
  pub due : (i j : ℕ) → is_sound (class_of p i) ≡ true → is_sound (class_of p j) ≡ true → (view cl i p).due ≡ (view cl j p).due
  pub stand : (i j : ℕ) → is_sound (class_of p i) ≡ true → has_id a.standing.members j ≡ true → class_of p j ≡ N → claim_of (view cl i p).done j ≡ Plain (own_claim j (cl.inputs j p) a)
  pub verdicts : (i j : ℕ) → is_sound (class_of p i) ≡ true → class_of p j ≡ N → verdict cl.setting.config.graph a.standing.members a.copies (view cl i p).done j ≡ no_verdict

abbrev pub ClaimsLaw : Type 0
ClaimsLaw = (cl : Cluster) (class_of : Classing) (p : ℕ) → (h : IsHere cl class_of p) → ClaimsHold cl class_of p h.start.state

-- data: votes of sound nodes are close, no nonfaulty node's value deviates at another, and own values of state channels stay close
pub record DataHolds (cl : Cluster) (class_of : Classing) (p : ℕ) (a : AgreedView) : Type 0 where
  pub votes : (i j c : ℕ) → is_sound (class_of p i) ≡ true → is_sound (class_of p j) ≡ true → has_id (view cl i p).due c ≡ true → is_judged (channel cl.setting c) ≡ true → VotesClose cl class_of p a.standing.members i j c
  pub copies : (i j c : ℕ) (delta : ℤ) (t lies : ℕ) → is_sound (class_of p i) ≡ true → is_sound (class_of p j) ≡ true → has_id (view cl i p).due c ≡ true
      → channel cl.setting c ≡ Copy delta t lies → CopiesClose cl class_of p a i j c t lies
  pub no_deviate : (i j : ℕ) → class_of p i ≡ N → class_of p j ≡ N → j ≢ i → deviates cl.setting (view cl i p).due (view cl i p).votes (cl.received i p) j ≡ false
  pub next : (i j c : ℕ) (delta : ℤ) (start : List ℤ) (step : ℤ) → class_of (suc p) i ≡ N → class_of (suc p) j ≡ N → channel cl.setting c ≡ State delta start step
      → pos (distance (own_value cl.setting i (suc p) (cl.inputs i (suc p)) (begins cl i (suc p)) c) (own_value cl.setting j (suc p) (cl.inputs j (suc p)) (begins cl j (suc p)) c)) ≤ℤ delta

abbrev pub DataLaw : Type 0
DataLaw = (cl : Cluster) (class_of : Classing) (p : ℕ) → (h : IsHere cl class_of p) → DataHolds cl class_of p h.start.state

-- reports: sound nodes settle rows alike; rows of nonfaulty members settle as they are, those of benign and joining ones as errors
pub record ReportsHold (cl : Cluster) (class_of : Classing) (p : ℕ) (a : AgreedView) : Type 0 where
  pub rows : (i j : ℕ) → is_sound (class_of p i) ≡ true → is_sound (class_of p j) ≡ true → (view cl i p).rows ≡ (view cl j p).rows
  pub fit : (i : ℕ) → is_sound (class_of p i) ≡ true → RowsFit (class_of p) a.standing.members (λ q. (view cl q p).found) (view cl i p).rows

abbrev pub ReportsLaw : Type 0
ReportsLaw = (cl : Cluster) (class_of : Classing) (p : ℕ) → (h : IsHere cl class_of p) → ReportsHold cl class_of p h.start.state

-- step: the period is safe, and the next one has its premise
abbrev pub StepLaw : Type 0
StepLaw = (cl : Cluster) (class_of : Classing) (p : ℕ) → IsHere cl class_of p → IsSparing cl class_of p → Safe cl class_of p × Started cl class_of (suc p)

-- and the start
abbrev pub StartLaw : Type 0
StartLaw = (cl : Cluster) (class_of : Classing) → IsGiven cl class_of → Started cl class_of 0

-- each claimed period is safe
abbrev pub SafetyLaw : Type 0
SafetyLaw = (cl : Cluster) (class_of : Classing) → IsGiven cl class_of → AllSparing cl class_of → (p : ℕ) → Claim cl class_of p → Safe cl class_of p
