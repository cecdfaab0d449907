-- What a controller expects in a slot has room, and a relay slot is one of a round.
use Rattle.std.proofs.Common.{ℕ, ◌≡◌, ◌<◌, ◌≤◌, ◌+◌, ◌==◌, Bool, true, false, List, [], length, Some, refl, sym, ap, ◌∙◌, arith, ne_eqb}
use Rattle.std.specs.Prelude.{if◌then◌else◌}
use Rattle.std.proofs.lemmas.Bool.{cond-false}
use Rattle.std.proofs.lemmas.Bool.Decides.{nat_tests}
use Rattle.node_grid.specs.NodeSet.{IsIdSet}
use Rattle.node_grid.specs.SetFacts.{empty_set}
use Rattle.frames.specs.Bound.{IsGreatest}
use Rattle.frames.specs.Content.{kind_in, IsClaim, IsRow}
use Rattle.frames.specs.FrameKinds.{claim_relay_kind, row_relay_kind}
use Rattle.frames.specs.Facts.{rows_round_in, claims_round_in}
use Rattle.error_detect.specs.Watching.{HasRoom}
use Rattle.agreed_state.specs.declared.config.Config.{Config}
use Rattle.agreed_state.specs.Config.{IsConfig}
use Rattle.agreed_state.specs.Expecting.{expectation}
use Rattle.agreed_state.specs.Agreed.{AgreedView}
use Rattle.agreed_state.specs.Body.{state_len}
use Rattle.protocol.specs.Run.{members_in}
use Rattle.relaying.specs.Round.{IsRoundOf}
use Rattle.node_steps.specs.Parts.{NodeView}
use Rattle.node_steps.specs.PremiseLaws.{few_due, members_asked}
use Rattle.node_steps.specs.Sound.{HasSizes, Hears}
use Rattle.node_steps.specs.Steps.{expected_in}

either : {X : Type 0} (P : X → Type 0) (b : Bool) (x y : X) → P x → P y → P (if b then x else y)
either P true x y p q = p
either P false x y p q = q

-- there is room for each frame that is expected
pub fits_room : {N : ℕ} (config : Config N) (period t me : ℕ) (members : List ℕ) (due room : ℕ) → IsIdSet config.nodes members → due ≤ 8 → IsGreatest config.nodes config.m (state_len config) 8 room
    → HasRoom room (expectation config period t me members due)
fits_room config period t me members due room set few greatest j c r = greatest.within _ c (record {
  nodes_is = refl;
  m_is = refl;
  state_len_is = refl;
  few_due = either (λ (n : ℕ). n ≤ 8) (t == config.m + 2) due 0 few (omega arith);
  members = either (IsIdSet config.nodes) (t == 0) [] members (empty_set config.nodes) set;
}) r

pub expected_fits : {N : ℕ} (v : NodeView N) (t room : ℕ) → IsConfig N v.config → HasSizes v → IsGreatest v.config.nodes v.config.m (state_len v.config) 8 room → HasRoom room (expected_in v t)
expected_fits v t room ok h = fits_room v.config v.phase.period t v.phase.me (members_in v.phase.before) (length v.found.due) room (members_asked v h) (few_due v ok h)

-- the members whom a slot after the first asks
asked : {N : ℕ} (v : NodeView N) (a : AgreedView) (t : ℕ) (h : List ℕ) → 0 < t → v.phase.before ≡ Some a → h ≡ a.standing.members → (expected_in v t).members ≡ h
asked v a t h later goes same =
    cond-false (t == 0) [] (members_in v.phase.before) (ne_eqb t 0 (λ e. absurd (omega arith))) ∙ ap members_in goes ∙ sym same

claims_kind : (m r : ℕ) → 0 < r → r ≤ m → claim_relay_kind ≡ kind_in m (1 + r)
claims_kind m r some low = grind (arith, nat_tests)

rows_kind : (m r : ℕ) → 0 < r → r ≤ m → row_relay_kind ≡ kind_in m (m + 3 + r)
rows_kind m r some low = grind (arith, nat_tests)

-- a relay slot of claims, and one of rows
pub claims_round : {N : ℕ} (v : NodeView N) (a : AgreedView) (r : ℕ) → HasSizes v → v.phase.before ≡ Some a → Hears v.done v.phase.me a → 0 < r → r ≤ v.config.m
    → IsRoundOf N claim_relay_kind (λ e. IsClaim e.tasks) r v.done (expected_in v (1 + r))
claims_round {N} v a r h goes hears some low = record {
  capacity_is = refl;
  kind_is = claims_kind v.config.m r some low;
  round_is = claims_round_in v.config.m r low;
  nodes_are = sym h.done.nodes_are;
  members_are = asked v a (1 + r) v.done.members (omega arith) goes hears.members;
  own_ranged = h.done.own_range;
  ranged = h.done.range;
}

pub rows_round : {N : ℕ} (v : NodeView N) (a : AgreedView) (r : ℕ) → HasSizes v → v.phase.before ≡ Some a → Hears v.rows v.phase.me a → 0 < r → r ≤ v.config.m
    → IsRoundOf N row_relay_kind (λ e. IsRow e.version N e.nodes) r v.rows (expected_in v (v.config.m + 3 + r))
rows_round {N} v a r h goes hears some low = record {
  capacity_is = refl;
  kind_is = rows_kind v.config.m r some low;
  round_is = rows_round_in v.config.m r;
  nodes_are = sym h.rows.nodes_are;
  members_are = asked v a (v.config.m + 3 + r) v.rows.members (omega arith) goes hears.members;
  own_ranged = h.rows.own_range;
  ranged = h.rows.range;
}
