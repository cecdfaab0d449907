-- By when a node that fell ill has left, and by when it is back.
use Rattle.std.proofs.Common.{◌≡◌, ℕ, suc, ◌+◌, ◌-◌, ◌<◌, ◌≤◌, Bool, true, false, not, ◌&&◌, Option, None, Some, refl, sym, ap, ap₂, ◌∙◌, inl, inr, arith}
use Rattle.std.specs.Prelude.{unwrap_or}
use Rattle.std.proofs.lemmas.Bool.{and_parts, cases_lt}
use Rattle.node_grid.specs.NodeSet.{has_id}
use Rattle.protocol.specs.Safe.{KeepsBound}
use Rattle.safety.specs.Lifetime.{standing_of}
use Rattle.scenario.specs.Scenario.{ScenarioView, system_of, IsScenario}
use Rattle.cluster_periods.specs.Laws.{run_of, classes_of, IsClaimed, ClaimLaw, SafeLaw, LifetimeLaw}
use Rattle.run_judged.specs.Illnesses.{relapse_at, joined_behind}
use Rattle.run_judged.specs.Rows.{seen_of}
use Rattle.run_judged.specs.Deadlines.{IsBy, IsOf, illness_at, LeftLaw, BackLaw}
use Rattle.run_judged.proofs.Moves.{first_by, first_passes, turns, member_seen, left_seen, joined_seen}
use Rattle.run_judged.proofs.Rowed.{claimed_down}

-- the end of what is told of an illness lies behind each period of it
behind : (relapse : Option ℕ) (n p : ℕ) → p < n → ((q : ℕ) → relapse ≡ Some q → p < q) → p < unwrap_or relapse n
behind None n p low h = low
behind (Some q) n p low h = h q refl

module _ (claims : ClaimLaw) (safe : SafeLaw) (lives : LifetimeLaw) {capacity : ℕ} (sc : ScenarioView capacity) (is : IsScenario sc) (p : ℕ) (claimed : IsClaimed sc p) where
  each_claimed : (q : ℕ) → q ≤ p → IsClaimed sc q
  each_claimed q upto = claimed_down (system_of sc) (suc p) q (omega arith) claimed

  within : (q : ℕ) → q ≤ p → KeepsBound (run_of sc) (classes_of sc) q
  within q upto = (claims (system_of sc) sc.clock p).claim.0 claimed q upto

  member_at : (j q : ℕ) → q ≤ p → (seen_of sc j q).member ≡ has_id (standing_of (system_of sc) q).members j
  member_at j q upto = let c = each_claimed q upto in member_seen sc q (safe capacity sc q is c) (lives capacity sc q is c).standing j (within q upto)

  left_in : (j q : ℕ) → q ≤ p → (seen_of sc j q).left ≡ (has_id (standing_of (system_of sc) q).members j && not (has_id (standing_of (system_of sc) (suc q)).members j))
  left_in j q upto = let c = each_claimed q upto in left_seen sc q (safe capacity sc q is c) (lives capacity sc q is c).standing j (within q upto)

  joined_in : (j q : ℕ) → q ≤ p → (seen_of sc j q).joined ≡ (has_id (standing_of (system_of sc) (suc q)).members j && not (has_id (standing_of (system_of sc) q).members j))
  joined_in j q upto = let c = each_claimed q upto in joined_seen sc q (safe capacity sc q is c) (lives capacity sc q is c).standing j (within q upto)

  -- a member of period q that is none after period p has left by then
  pub out_by : (j o q k : ℕ) → q + k ≡ p → o ≤ q → IsOf sc j o p → (seen_of sc j q).member ≡ true → has_id (standing_of (system_of sc) (suc p)).members j ≡ false → IsBy (illness_at sc j o).left p
  out_by j o q k e begun of member out =
      let in_standing = λ (r : ℕ). has_id (standing_of (system_of sc) r).members j in
      let turn = turns in_standing true q k (sym (member_at j q (omega arith)) ∙ member) (ap (λ (r : ℕ). in_standing (suc r)) e ∙ out) in
      let from = turn.from in
      let upto = turn.upto in
      let low : turn.at ≤ p = omega arith in
      let end = behind (relapse_at (seen_of sc j) sc.periods o) sc.periods p of.shown of.not_again in
      let by = first_by (λ (r : ℕ). (seen_of sc j r).left) o (unwrap_or (relapse_at (seen_of sc j) sc.periods o) sc.periods) turn.at (omega arith) (omega arith)
      (left_in j turn.at low ∙ ap₂ (λ b c. b && not c) turn.before turn.after) in
      let in_time = by.in_time in
      record { period = by.period; is = by.is; in_time = omega arith }

  -- and one that has left by period q and is a member after period p is back by then
  pub in_by : (j o q k : ℕ) → q + k ≡ p → IsOf sc j o p → IsBy (illness_at sc j o).left q → has_id (standing_of (system_of sc) (suc p)).members j ≡ true → IsBy (illness_at sc j o).back p
  in_by j o q k e of gone back =
      let in_standing = λ (r : ℕ). has_id (standing_of (system_of sc) r).members j in
      let stop = unwrap_or (relapse_at (seen_of sc j) sc.periods o) sc.periods in
      let l = gone.period in
      let early = gone.in_time in
      let left : (seen_of sc j l).left ≡ true = first_passes (λ (r : ℕ). (seen_of sc j r).left) o stop l gone.is in
      let parts = and_parts (in_standing l) (not (in_standing (suc l))) (sym (left_in j l (omega arith)) ∙ left) in
      let out : in_standing (suc l) ≡ false = un_not (in_standing (suc l)) parts.1 in
      let room : l < p = later l early out in
      let span : suc l + (p - suc l) ≡ p = omega arith in
      let turn = turns in_standing false (suc l) (p - suc l) out (ap (λ (r : ℕ). in_standing (suc r)) span ∙ back) in
      let from = turn.from in
      let upto = turn.upto in
      let low : turn.at ≤ p = omega arith in
      let end = behind (relapse_at (seen_of sc j) sc.periods o) sc.periods p of.shown of.not_again in
      let by = first_by (λ (r : ℕ). (seen_of sc j r).joined) (suc l) stop turn.at from (omega arith) (joined_in j turn.at low ∙ ap₂ (λ b c. b && not c) turn.after turn.before) in
      let in_time = by.in_time in
      record { period = by.period; is = ap (λ (x : Option ℕ). joined_behind (seen_of sc j) x stop) gone.is ∙ by.is; in_time = omega arith }
    where
      un_not : (b : Bool) → not b ≡ true → b ≡ false
      un_not true h = cc
      un_not false h = refl

      later : (l : ℕ) → l ≤ q → has_id (standing_of (system_of sc) (suc l)).members j ≡ false → l < p
      later l early out = elim (cases_lt l p) [
        | inl less ↦ less
        | inr more ↦
            let same : l ≡ p = omega arith in
            let both : true ≡ false = sym back ∙ ap (λ (r : ℕ). has_id (standing_of (system_of sc) (suc r)).members j) (sym same) ∙ out in
            absurd (cc)
      ]

pub left_law : ClaimLaw → SafeLaw → LifetimeLaw → LeftLaw
left_law claims safe lives capacity sc j o p k is claimed in_use begun of member =
    let lasting = (lives capacity sc (p + k) is claimed).lasting p k refl in
    let by : has_id (standing_of (system_of sc) (suc (p + k))).members j ≡ false → IsBy (illness_at sc j o).left (p + k) =
    out_by claims safe lives sc is (p + k) claimed j o p k refl begun of member in
    record {
      accused = λ weight due accused. by (lasting.exclusion j weight in_use accused due.other due.light due.heavy);
      manifest = λ weight due seen. by (lasting.manifest j weight in_use seen due.other due.light due.heavy);
      silent = λ due unheard. by (lasting.silence j in_use unheard due.other due.light due.heavy);
    }

pub back_law : ClaimLaw → SafeLaw → LifetimeLaw → BackLaw
back_law claims safe lives capacity sc j o p k most is claimed in_use of gone well some credit may count streak =
    let lasting = (lives capacity sc (p + k) is claimed).lasting p k refl in
    in_by claims safe lives sc is (p + k) claimed j o p k refl of gone (lasting.returning j well some credit may most count streak)
