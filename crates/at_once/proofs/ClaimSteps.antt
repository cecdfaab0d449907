-- From the rounds of claims to what nodes settle, what is due and what they note.
use Rattle.std.proofs.Common.{ℕ, ◌≡◌, ◌<◌, ◌≤◌, ◌==◌, Bool, true, false, if◌then◌else◌, List, map, length, None, Some, refl, sym, ap, ap₂, subst, ◌∙◌, arith, ◌&&◌, lt-ltb}
use Rattle.std.specs.Prelude.{nat_eq}
use Rattle.std.proofs.lemmas.Bool.{cond-true}
use Rattle.node_grid.specs.NodeSet.{ids_below, has_id, ids_where}
use Rattle.node_grid.specs.Kinds.{equivocate}
use Rattle.node_grid.specs.ListFacts.{map_map}
use Rattle.omh_paths.specs.declared.wrapped.Wrapped.{Wrapped}
use Rattle.omh_paths.specs.declared.wrapped.Wrapped.TheVariants.{Plain}
use Rattle.omh.specs.Omh.{settled_from}
use Rattle.list_scheduler.specs.OneNode.{verdicts}
use Rattle.error_reports.specs.Notes.{Notes, of_each, also_noted}
use Rattle.error_reports.specs.NoteLaws.{noted_alike}
use Rattle.agreed_state.specs.declared.config.Config.{Config}
use Rattle.agreed_state.specs.Agreed.{AgreedView}
use Rattle.protocol.specs.Arrival.{claim_form}
use Rattle.protocol.specs.FurtherKinds.{convicts_member}
use Rattle.protocol.specs.Heard.{rounds_bad}
use Rattle.protocol.specs.Settled.{plain}
use Rattle.protocol.specs.View.{as_claim, own_claim, claims_settled}
use Rattle.scenario.specs.Scenario.{ScenarioView}
use Rattle.safety.proofs.Lists.{map_below, has_where}
use Rattle.touched_items.specs.ItemLaws.{claim_told}
use Rattle.heard_links.specs.declared.phase.Phase.{Phase}
use Rattle.item_phase.specs.declared.item_phase.ItemPhase.{ItemPhase}
use Rattle.item_phase.specs.Settled.{listener}
use Rattle.item_phase.specs.Noted.{rounds_of}
use Rattle.item_phase.specs.Laws.{OfRunLaw}
use Rattle.view_law.specs.Made.{by_verdicts}
use Rattle.view_law.specs.Laws.{IsWithin}
use Rattle.view_law.proofs.Rows.{noted_within}
use Rattle.at_once.specs.Parts.{has, given, through, claims_ear, done_in, blamed_in, notes_synced, notes_claimed, notes_judged, notes_convicted}
use Rattle.at_once.specs.Kept.{notes_at, AreShaped, AreNotedAs}
use Rattle.at_once.specs.Phases.{IsDone, node_item, node_claims, SettleAlike, blames}
use Rattle.at_once.proofs.Making.{claimed_is, judged_is, convicted_is}
use Rattle.at_once.proofs.Talks.{claim_is}
use Rattle.at_once.proofs.Phasing.{item_same, bad_same, convicts_same, alike_item}

-- the notes of all nodes keep whose they are, where some note more
pub shaped_more : {N : ℕ} (config : Config N) → config.nodes ≤ N → (nodes : List ℕ) (more : ℕ → ℕ → ℕ → Bool) (old new : List Notes) → AreShaped {N = N} config old → length new ≡ N
    → ((i : ℕ) → i < N → notes_at new i ≡ (if has_id nodes i then also_noted N (notes_at old i) (more i) else notes_at old i)) → AreShaped {N = N} config new
shaped_more {N} config few nodes more old new shaped many each = record {
  many = many;
  nodes = λ i low. ap (λ (y : Notes). y.nodes) (each i (omega arith)) ∙ same_nodes (has_id nodes i) i ∙ shaped.nodes i low;
  me = λ i low. ap (λ (y : Notes). y.me) (each i (omega arith)) ∙ same_me (has_id nodes i) i ∙ shaped.me i low;
  kinds = λ i low. ap (λ (y : Notes). y.kinds) (each i (omega arith)) ∙ same_kinds (has_id nodes i) i ∙ shaped.kinds i low;
}
  where
    same_nodes : (b : Bool) (i : ℕ) → (if b then also_noted N (notes_at old i) (more i) else notes_at old i).nodes ≡ (notes_at old i).nodes
    same_nodes true i = refl
    same_nodes false i = refl

    same_me : (b : Bool) (i : ℕ) → (if b then also_noted N (notes_at old i) (more i) else notes_at old i).me ≡ (notes_at old i).me
    same_me true i = refl
    same_me false i = refl

    same_kinds : (b : Bool) (i : ℕ) → (if b then also_noted N (notes_at old i) (more i) else notes_at old i).kinds ≡ (notes_at old i).kinds
    same_kinds true i = refl
    same_kinds false i = refl

-- notes to which something was noted say nothing that a row has no place for
pub within_of : (capacity : ℕ) (n m : Notes) (more : ℕ → ℕ → Bool) → n ≡ also_noted capacity m more → n.kinds ≤ 16 → IsWithin capacity n
within_of capacity n m more is few = subst (IsWithin capacity) (sym is) (noted_within capacity m more (subst (λ (y : Notes). y.kinds ≤ 16) is few))

module _ {N : ℕ} (sc : ScenarioView N) (p i : ℕ) (a : AgreedView) where
  done_was : done_in sc p i a ≡ map as_claim (map (λ c. if has_id a.standing.members c then plain (settled_from nat_eq (claims_ear sc p i a) (Plain (own_claim i (given sc p i) a)) c) else None) (ids_below N))
  unfolding done_in claims_settled
  done_was = refl

  pub synced_more : (more : ℕ → ℕ → Bool) × (n : Notes) × (notes_synced sc p i a ≡ also_noted N n more)
  unfolding notes_synced
  synced_more = (_, _, refl)

  blamed_was : (j : ℕ) → has_id (blamed_in sc p i a).convicted j ≡ has_id (ids_where (convicts_member nat_eq (claims_ear sc p i a)) sc.config.nodes) j
  unfolding blamed_in
  blamed_was j = refl

module _ {N : ℕ} (law : OfRunLaw N nat_eq claim_form (λ m. 1) claim_told) (sc : ScenarioView N) (p : ℕ) (x : Phase N) (s : ItemPhase ℕ N) (d : IsDone nat_eq claim_form (λ m. 1) claim_told sc p x s) where
  -- what a node settles of the claims
  pub done_same : (i : ℕ) (a : AgreedView) → i < sc.config.nodes → through sc p i ≡ Some a → node_claims x s i ≡ done_in sc p i a
  done_same i a low is =
      map_below (λ c. as_claim (node_item nat_eq claim_form x s i c))
      (λ c. as_claim (if has_id a.standing.members c then plain (settled_from nat_eq (claims_ear sc p i a) (Plain (own_claim i (given sc p i) a)) c) else None)) N
      (λ c within. ap as_claim (item_same nat_eq claim_form (λ m. 1) claim_told law sc p x s d i a (own_claim i (given sc p i) a) low is (λ on. claim_is sc p i a is) c))
      ∙ sym (map_map (λ c. if has_id a.standing.members c then plain (settled_from nat_eq (claims_ear sc p i a) (Plain (own_claim i (given sc p i) a)) c) else None) as_claim (ids_below N))
      ∙ sym (done_was sc p i a)

  -- nodes that settle alike settle the same claims
  pub alike_claims : (i j : ℕ) → SettleAlike nat_eq claim_form x s i j → node_claims x s i ≡ node_claims x s j
  alike_claims i j alike =
      map_below (λ c. as_claim (node_item nat_eq claim_form x s i c)) (λ c. as_claim (node_item nat_eq claim_form x s j c)) N (λ c within. ap as_claim (alike_item nat_eq claim_form x s i j c alike))

  -- what they note of the frames
  pub claimed_notes : (few : sc.config.nodes ≤ N) (old new : List Notes) → AreShaped {N = N} sc.config old
      → ((i : ℕ) → i < N → notes_at new i ≡ (if has_id x.awake i then also_noted N (notes_at old i) (rounds_bad x.config.now.m (rounds_of claim_form x s.links i)) else notes_at old i))
      → AreNotedAs sc p (notes_synced sc p) old → AreNotedAs sc p (notes_claimed sc p) new
  claimed_notes few old new shaped each noted i a low is =
      let within : i < N = omega arith in
      each i within
      ∙ cond-true (has_id x.awake i) (also_noted N (notes_at old i) (rounds_bad x.config.now.m (rounds_of claim_form x s.links i))) (notes_at old i) (d.awake i a low is)
      ∙ noted_alike N (notes_at old i) (rounds_bad x.config.now.m (rounds_of claim_form x s.links i)) (λ j e. rounds_bad sc.config.m (has sc p i).done j e)
      (λ j e wide used other kind. bad_same nat_eq claim_form (λ m. 1) claim_told law sc p x s d i a low is j e (let n = shaped.nodes i low in omega arith) (λ h. other (h ∙ sym (shaped.me i low))))
      ∙ ap (λ (y : Notes). also_noted N y (λ j e. rounds_bad sc.config.m (has sc p i).done j e)) (noted i a low is)
      ∙ sym (claimed_is sc p i a)

  -- and whom they convict
  pub convicted_notes : (few : sc.config.nodes ≤ N) (old new : List Notes) → AreShaped {N = N} sc.config old
      → ((i : ℕ) → i < N → notes_at new i ≡ (if has_id x.awake i then also_noted N (notes_at old i) (blames nat_eq (listener claim_form x s.links i)) else notes_at old i))
      → AreNotedAs sc p (notes_judged sc p) old → AreNotedAs sc p (notes_convicted sc p) new
  convicted_notes few old new shaped each noted i a low is =
      let within : i < N = omega arith in
      each i within
      ∙ cond-true (has_id x.awake i) (also_noted N (notes_at old i) (blames nat_eq (listener claim_form x s.links i))) (notes_at old i) (d.awake i a low is)
      ∙ noted_alike N (notes_at old i) (blames nat_eq (listener claim_form x s.links i)) (of_each (blamed_in sc p i a).convicted equivocate)
      (λ j e wide used other kind.
      ap (λ (b : Bool). b && e == equivocate)
      (convicts_same nat_eq claim_form (λ m. 1) claim_told law sc p x s d i a low is j (λ h. other (h ∙ sym (shaped.me i low)))
      ∙ sym (blamed_was sc p i a j ∙ has_where (convicts_member nat_eq (claims_ear sc p i a)) sc.config.nodes j
      ∙ ap (λ (b : Bool). b && convicts_member nat_eq (claims_ear sc p i a) j) (lt-ltb j sc.config.nodes (let n = shaped.nodes i low in omega arith)))))
      ∙ ap (λ (y : Notes). also_noted N y (of_each (blamed_in sc p i a).convicted equivocate)) (noted i a low is)
      ∙ sym (convicted_is sc p i a)

-- ---- verdicts

-- the notes behind the verdicts, by what the group settled
pub judged_notes : {N : ℕ} (sc : ScenarioView N) (p : ℕ) (old new : List Notes) (done : ℕ → List (Wrapped ℕ))
    → ((i : ℕ) (a : AgreedView) → i < sc.config.nodes → through sc p i ≡ Some a → done i ≡ done_in sc p i a)
    → ((i : ℕ) (a : AgreedView) → i < sc.config.nodes → through sc p i ≡ Some a → notes_at new i ≡ also_noted N (notes_at old i) (by_verdicts (verdicts N sc.config.graph a.standing.members a.copies (done i))))
    → AreNotedAs sc p (notes_claimed sc p) old → AreNotedAs sc p (notes_judged sc p) new
judged_notes {N} sc p old new done settled each noted i a low is =
    each i a low is
    ∙ ap₂ (λ (y : Notes) (xs : List (Wrapped ℕ)). also_noted N y (by_verdicts (verdicts N sc.config.graph a.standing.members a.copies xs))) (noted i a low is) (settled i a low is)
    ∙ sym (judged_is sc p i a)
