-- What the steps of a node ask of it holds of a sound one.
use Rattle.std.proofs.Common.{ℕ, ◌≡◌, ◌<◌, ◌≤◌, ◌+◌, ◌-◌, ◌==◌, true, List, [], length, Option, None, Some, ap, subst, ◌∙◌, arith, ne_eqb}
use Rattle.std.specs.Prelude.{All, IfSome, nat_le}
use Rattle.std.proofs.lemmas.Bool.{cond-true, cond-false}
use Rattle.node_grid.specs.Count.{Distinct}
use Rattle.node_grid.specs.NodeSet.{has_id, IsIdSet}
use Rattle.node_grid.specs.NodeSetLaws.{length-ids}
use Rattle.node_grid.specs.NumberFacts.{le_no, le_yes}
use Rattle.node_grid.specs.SetFacts.{empty_set}
use Rattle.omh_paths.specs.Paths.{path_count}
use Rattle.omh_paths.specs.MemberLaws.{Distinct-ids}
use Rattle.frames.specs.Content.{round_in, IsEntry, IsClaim, IsRow}
use Rattle.error_detect.specs.Watching.{closed, told_at}
use Rattle.agreed_state.specs.ConfigLaws.{few_rounds}
use Rattle.agreed_state.specs.Config.{IsConfig}
use Rattle.agreed_state.specs.Agreed.{AgreedView, IsAgreed}
use Rattle.agreed_state.specs.ReadLaws.{state_len-short}
use Rattle.protocol.specs.Arrival.{arrived, body_said, claims_in, rows_in}
use Rattle.protocol.specs.View.{content}
use Rattle.protocol.specs.Run.{members_in}
use Rattle.relay_rules.specs.Hearing.{Brings}
use Rattle.node_steps.specs.Parts.{NodeView}
use Rattle.node_steps.specs.Steps.{expected_in}
use Rattle.node_steps.specs.Sound.{HasSizes, Hears, IsInSlot, IsTaken}
use Rattle.relay_rules.specs.Relaying.{relays}
use Rattle.node_steps.specs.TableRanges.{relays_in}
use Rattle.node_steps.specs.ToldInRange.{claims_brought, rows_brought, states_sized}

pub goes_agreed : {N : ℕ} (v : NodeView N) (a : AgreedView) → HasSizes v → v.phase.before ≡ Some a → IsAgreed N v.config a
goes_agreed {N} v a h goes = subst (λ (o : Option AgreedView). IfSome o (λ b. IsAgreed N v.config b)) goes h.before

pub goes_distinct : {N : ℕ} (v : NodeView N) (a : AgreedView) → HasSizes v → v.phase.before ≡ Some a → Distinct a.standing.members
goes_distinct v a h goes = Distinct-ids v.config.nodes a.standing.members (goes_agreed v a h goes).standing.set

pub done_hears : {N : ℕ} (v : NodeView N) (a : AgreedView) → IsInSlot v → 0 < v.phase.slot → v.phase.before ≡ Some a → Hears v.done v.phase.me a
done_hears v a s later goes = subst (λ (o : Option AgreedView). IfSome o (λ b. Hears v.done v.phase.me b)) goes (s.done later)

pub rows_hears : {N : ℕ} (v : NodeView N) (a : AgreedView) → IsInSlot v → v.config.m + 3 ≤ v.phase.slot → v.phase.before ≡ Some a → Hears v.rows v.phase.me a
rows_hears v a s late goes = subst (λ (o : Option AgreedView). IfSome o (λ b. Hears v.rows v.phase.me b)) goes (s.rows late)

-- the members of whom a slot after the first asks
asks_of : {N : ℕ} (v : NodeView N) (a : AgreedView) → 0 < v.phase.slot → v.phase.before ≡ Some a → (expected_in v v.phase.slot).members ≡ a.standing.members
asks_of v a later goes = cond-false (v.phase.slot == 0) [] (members_in v.phase.before) (ne_eqb v.phase.slot 0 (λ e. omega arith)) ∙ ap members_in goes

-- what a done slot brings of each member, and what a report slot does
pub claims_asked : {N : ℕ} (v : NodeView N) (a : AgreedView) → IsConfig N v.config → IsInSlot v → 0 < v.phase.slot → v.phase.slot ≤ v.config.m + 1 → v.phase.before ≡ Some a
    → (j : ℕ) → has_id a.standing.members j ≡ true → Brings (path_count (length a.standing.members - 1) (v.phase.slot - 1)) (arrived claims_in None (told_at (closed v.arrived) j))
claims_asked {N} v a ok s later done goes j on =
    let round : round_in v.config.m v.phase.slot ≡ v.phase.slot - 1 = cond-true (nat_le v.phase.slot (v.config.m + 1)) (v.phase.slot - 1) (v.phase.slot - (v.config.m + 3)) (le_yes v.phase.slot (v.config.m + 1) done) in
    let ms = asks_of v a later goes in
    subst (λ (r : ℕ). Brings (path_count (length a.standing.members - 1) r) (arrived claims_in None (told_at (closed v.arrived) j))) round
    (subst (λ (xs : List ℕ). Brings (path_count (length xs - 1) (round_in v.config.m v.phase.slot)) (arrived claims_in None (told_at (closed v.arrived) j))) ms
    (claims_brought (closed v.arrived) (expected_in v v.phase.slot) s.expects (let b = few_rounds N v.config ok in omega arith) j (ap (λ (xs : List ℕ). has_id xs j) ms ∙ on)))

pub rows_asked : {N : ℕ} (v : NodeView N) (a : AgreedView) → IsConfig N v.config → IsInSlot v → v.config.m + 3 ≤ v.phase.slot → v.phase.before ≡ Some a
    → (j : ℕ) → has_id a.standing.members j ≡ true → Brings (path_count (length a.standing.members - 1) (v.phase.slot - (v.config.m + 3))) (arrived rows_in None (told_at (closed v.arrived) j))
rows_asked {N} v a ok s late goes j on =
    let round : round_in v.config.m v.phase.slot ≡ v.phase.slot - (v.config.m + 3) = cond-false (nat_le v.phase.slot (v.config.m + 1)) (v.phase.slot - 1) (v.phase.slot - (v.config.m + 3)) (le_no v.phase.slot (v.config.m + 1) (omega arith)) in
    let ms = asks_of v a (omega arith) goes in
    subst (λ (r : ℕ). Brings (path_count (length a.standing.members - 1) r) (arrived rows_in None (told_at (closed v.arrived) j))) round
    (subst (λ (xs : List ℕ). Brings (path_count (length xs - 1) (round_in v.config.m v.phase.slot)) (arrived rows_in None (told_at (closed v.arrived) j))) ms
    (rows_brought (closed v.arrived) (expected_in v v.phase.slot) s.expects (let b = few_rounds N v.config ok in let l = s.within in omega arith) j (ap (λ (xs : List ℕ). has_id xs j) ms ∙ on)))

-- members are no more than nodes
pub few_members : {N : ℕ} (v : NodeView N) (a : AgreedView) → HasSizes v → v.phase.before ≡ Some a → length a.standing.members ≤ v.config.nodes
few_members v a h goes = length-ids v.config.nodes a.standing.members (goes_agreed v a h goes).standing.set

pub states_asked : {N : ℕ} (v : NodeView N) → N ≤ 16 → IsConfig N v.config → IsInSlot v → (j : ℕ) → IfSome (content (arrived body_said None (told_at (closed v.arrived) j))) (λ b. length b ≤ 1152)
states_asked {N} v small ok s = states_sized (closed v.arrived) (expected_in v v.phase.slot) 1152 s.expects (let l = state_len-short N v.config small ok in omega arith)

pub members_asked : {N : ℕ} (v : NodeView N) → HasSizes v → IsIdSet v.config.nodes (members_in v.phase.before)
members_asked {N} v h = go v.phase.before h.before where
  go : (o : Option AgreedView) → IfSome o (λ b. IsAgreed N v.config b) → IsIdSet v.config.nodes (members_in o)
  go None x = empty_set v.config.nodes
  go (Some a) x = x.standing.set

pub few_due : {N : ℕ} (v : NodeView N) → IsConfig N v.config → HasSizes v → length v.found.due ≤ 8
few_due v ok h = let l = length-ids (length v.config.channels.items) v.found.due h.found.due in let f = ok.few_channels in omega arith

pub rows_end : {N : ℕ} (v : NodeView N) (a : AgreedView) → IsTaken v → v.config.m + 2 ≤ v.phase.slot → v.phase.before ≡ Some a → Hears v.rows v.phase.me a
rows_end v a t late goes = subst (λ (o : Option AgreedView). IfSome o (λ b. Hears v.rows v.phase.me b)) goes (t.rows late)

-- what the writers of relay frames ask
pub claims_pass : {N : ℕ} (v : NodeView N) (r : ℕ) → HasSizes v → 0 < r → All (IsEntry (IsClaim (length v.config.graph.tasks)) r) (relays v.done r)
claims_pass v r h some = relays_in (IsClaim (length v.config.graph.tasks)) v.done r some h.done.range

pub rows_pass : {N : ℕ} (v : NodeView N) (r : ℕ) → HasSizes v → 0 < r → All (IsEntry (IsRow v.config.version N v.config.nodes) r) (relays v.rows r)
rows_pass {N} v r h some = relays_in (IsRow v.config.version N v.config.nodes) v.rows r some h.rows.range
