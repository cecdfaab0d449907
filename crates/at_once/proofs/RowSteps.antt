-- From the rounds of rows to what nodes settle and what they carry over.
use Rattle.std.proofs.Common.{ℕ, ◌≡◌, ◌<◌, ◌≤◌, ◌+◌, ◌==◌, ◌&&◌, Bool, true, false, if◌then◌else◌, List, map, length, None, Some, refl, sym, ap, subst, ◌∙◌, arith, lt-ltb}
use Rattle.std.specs.Cmp.Lexicographic.{pointwise}
use Rattle.std.proofs.lemmas.Bool.{cond-true}
use Rattle.node_grid.specs.NodeSet.{ids_below, has_id, ids_where}
use Rattle.node_grid.specs.Kinds.{equivocate}
use Rattle.omh_paths.specs.declared.wrapped.Wrapped.TheVariants.{Plain}
use Rattle.omh.specs.Omh.{settled_from}
use Rattle.error_reports.specs.Notes.{Notes, of_each, also_carried}
use Rattle.error_reports.specs.NoteLaws.{carried_alike}
use Rattle.agreed_state.specs.declared.config.Config.{Config}
use Rattle.agreed_state.specs.Agreed.{AgreedView}
use Rattle.protocol.specs.Arrival.{row_form}
use Rattle.protocol.specs.FurtherKinds.{convicts_member}
use Rattle.protocol.specs.Heard.{rounds_bad}
use Rattle.protocol.specs.Settled.{plain}
use Rattle.scenario.specs.Scenario.{ScenarioView, system_of}
use Rattle.safety.proofs.Lists.{map_below, has_where}
use Rattle.touched_items.specs.ItemLaws.{row_told}
use Rattle.heard_links.specs.declared.phase.Phase.{Phase}
use Rattle.item_phase.specs.declared.item_phase.ItemPhase.{ItemPhase}
use Rattle.item_phase.specs.Settled.{listener}
use Rattle.item_phase.specs.Noted.{rounds_of, IsCarrier}
use Rattle.item_phase.specs.Laws.{OfRunLaw}
use Rattle.view_law.specs.Made.{notes_begun}
use Rattle.view_law.specs.Laws.{IsCarriedWithin}
use Rattle.view_law.proofs.Rows.{carried_noted, empty_carried}
use Rattle.node_grid.specs.Version.{kind_count}
use Rattle.at_once.specs.Parts.{goes, has, is_full, through, rows_ear, found_in, rows_in, blamed_in, notes_synced, notes_claimed, notes_judged, notes_convicted, notes_voted, notes_late}
use Rattle.at_once.specs.Kept.{notes_at, AreShaped, AreNotedAs}
use Rattle.at_once.specs.Phases.{IsDone, node_item, node_rows, SettleAlike, blames}
use Rattle.at_once.proofs.Making.{reported_is, late_is}
use Rattle.at_once.proofs.Phasing.{item_same, bad_same, convicts_same, alike_item}

-- notes with more carried over, where it is so, are of whom they were
abbrev carried_where : ℕ → Bool → Notes → (ℕ → ℕ → Bool) → (ℕ → ℕ → Bool) → Notes
carried_where capacity b n bad late = if b then also_carried capacity (also_carried capacity n bad) late else n

carried_whose : (capacity : ℕ) (b : Bool) (n : Notes) (bad late : ℕ → ℕ → Bool)
    → ((carried_where capacity b n bad late).nodes ≡ n.nodes) × ((carried_where capacity b n bad late).me ≡ n.me) × ((carried_where capacity b n bad late).kinds ≡ n.kinds)
carried_whose capacity true n bad late = (refl, refl, refl)
carried_whose capacity false n bad late = (refl, refl, refl)

-- the notes of all nodes keep whose they are, where some carry more over
pub shaped_late : {N : ℕ} (config : Config N) → config.nodes ≤ N → (nodes : List ℕ) (bad late : ℕ → ℕ → ℕ → Bool) (old new : List Notes) → AreShaped {N = N} config old → length new ≡ N
    → ((i : ℕ) → i < N → notes_at new i ≡ (if has_id nodes i then also_carried N (also_carried N (notes_at old i) (bad i)) (late i) else notes_at old i)) → AreShaped {N = N} config new
shaped_late {N} config few nodes bad late old new shaped many each = record {
  many = many;
  nodes = λ i low. ap (λ (y : Notes). y.nodes) (each i (omega arith)) ∙ (carried_whose N (has_id nodes i) (notes_at old i) (bad i) (late i)).0 ∙ shaped.nodes i low;
  me = λ i low. ap (λ (y : Notes). y.me) (each i (omega arith)) ∙ (carried_whose N (has_id nodes i) (notes_at old i) (bad i) (late i)).1 ∙ shaped.me i low;
  kinds = λ i low. ap (λ (y : Notes). y.kinds) (each i (omega arith)) ∙ (carried_whose N (has_id nodes i) (notes_at old i) (bad i) (late i)).2 ∙ shaped.kinds i low;
}

-- the notes of a node are to carry more over
pub carries_for : {N : ℕ} (config : Config N) (old : List Notes) (i : ℕ) (n : Notes) → i < config.nodes → AreShaped {N = N} config old → IsCarriedWithin N (notes_at old i) → n ≡ notes_at old i → IsCarrier config i n
carries_for {N} config old i n low shaped within is = subst (IsCarrier config i) (sym is) record {
  nodes = shaped.nodes i low;
  me = shaped.me i low;
  kinds = shaped.kinds i low;
  within = within;
}

module _ {N : ℕ} (sc : ScenarioView N) (p i : ℕ) (a : AgreedView) where
  rows_was : rows_in sc p i a ≡ map (λ c. if has_id a.standing.members c then plain (settled_from (pointwise ◌==◌) (rows_ear sc p i a) (Plain (found_in sc p i a)) c) else None) (ids_below N)
  unfolding rows_in
  rows_was = refl

  blamed_was : (j : ℕ) → has_id (blamed_in sc p i a).late j ≡ has_id (ids_where (convicts_member (pointwise ◌==◌) (rows_ear sc p i a)) sc.config.nodes) j
  unfolding blamed_in
  blamed_was j = refl

  -- until the rows nothing is carried over but what was when the period began
  begun_within : IsCarriedWithin N (notes_begun sc.config i (goes sc p i))
  begun_within = empty_carried N sc.config.nodes i (kind_count sc.config.version) (goes sc p i).carried

  synced_within : IsCarriedWithin N (notes_synced sc p i a)
  unfolding notes_synced
  synced_within = carried_noted N (notes_begun sc.config i (goes sc p i)) _ begun_within

  claimed_within : IsCarriedWithin N (notes_claimed sc p i a)
  unfolding notes_claimed
  claimed_within = carried_noted N (notes_synced sc p i a) _ synced_within

  judged_within : IsCarriedWithin N (notes_judged sc p i a)
  unfolding notes_judged
  judged_within = carried_noted N (notes_claimed sc p i a) _ claimed_within

  convicted_within : IsCarriedWithin N (notes_convicted sc p i a)
  unfolding notes_convicted
  convicted_within = carried_noted N (notes_judged sc p i a) _ judged_within

  pub voted_within : IsCarriedWithin N (notes_voted sc p i a)
  unfolding notes_voted
  voted_within = carried_noted N (notes_convicted sc p i a) _ convicted_within

module _ {N : ℕ} (law : OfRunLaw N (pointwise ◌==◌) row_form (λ m. m + 3) row_told) (sc : ScenarioView N) (p : ℕ) (x : Phase N) (s : ItemPhase (List ℕ) N) (d : IsDone (pointwise ◌==◌) row_form (λ m. m + 3) row_told sc p x s) where
  -- what a node settles of the rows
  pub rows_same : (i : ℕ) (a : AgreedView) → i < sc.config.nodes → through sc p i ≡ Some a → (is_full sc p i ≡ true → row_told (system_of sc) p i ≡ found_in sc p i a) → node_rows x s i ≡ rows_in sc p i a
  rows_same i a low is tells_own =
      map_below (node_item (pointwise ◌==◌) row_form x s i)
      (λ c. if has_id a.standing.members c then plain (settled_from (pointwise ◌==◌) (rows_ear sc p i a) (Plain (found_in sc p i a)) c) else None) N
      (λ c within. item_same (pointwise ◌==◌) row_form (λ m. m + 3) row_told law sc p x s d i a (found_in sc p i a) low is tells_own c)
      ∙ sym (rows_was sc p i a)

  pub alike_rows : (i j : ℕ) → SettleAlike (pointwise ◌==◌) row_form x s i j → node_rows x s i ≡ node_rows x s j
  alike_rows i j alike =
      map_below (node_item (pointwise ◌==◌) row_form x s i) (node_item (pointwise ◌==◌) row_form x s j) N (λ c within. alike_item (pointwise ◌==◌) row_form x s i j c alike)

  -- what they carry over of the frames, and whom they convict
  pub late_notes : (few : sc.config.nodes ≤ N) (old new : List Notes) → AreShaped {N = N} sc.config old
      → ((i : ℕ) → i < N → notes_at new i ≡ (if has_id x.awake i then also_carried N (also_carried N (notes_at old i) (rounds_bad x.config.now.m (rounds_of row_form x s.links i))) (blames (pointwise ◌==◌) (listener row_form x s.links i)) else notes_at old i))
      → AreNotedAs sc p (notes_voted sc p) old → AreNotedAs sc p (notes_late sc p) new
  late_notes few old new shaped each noted i a low is =
      let within : i < N = omega arith in
      let bad = rounds_bad x.config.now.m (rounds_of row_form x s.links i) in
      let own : Notes = notes_at old i in
      each i within
      ∙ cond-true (has_id x.awake i) (also_carried N (also_carried N own bad) (blames (pointwise ◌==◌) (listener row_form x s.links i))) own (d.awake i a low is)
      ∙ carried_alike N (also_carried N own bad) (blames (pointwise ◌==◌) (listener row_form x s.links i)) (of_each (blamed_in sc p i a).late equivocate)
      (λ j e wide used other kind.
      ap (λ (b : Bool). b && e == equivocate)
      (convicts_same (pointwise ◌==◌) row_form (λ m. m + 3) row_told law sc p x s d i a low is j (λ h. other (h ∙ sym (shaped.me i low)))
      ∙ sym (blamed_was sc p i a j ∙ has_where (convicts_member (pointwise ◌==◌) (rows_ear sc p i a)) sc.config.nodes j
      ∙ ap (λ (b : Bool). b && convicts_member (pointwise ◌==◌) (rows_ear sc p i a) j) (lt-ltb j sc.config.nodes (let n = shaped.nodes i low in omega arith)))))
      ∙ ap (λ (y : Notes). also_carried N y (of_each (blamed_in sc p i a).late equivocate))
      (carried_alike N own bad (λ j e. rounds_bad sc.config.m (has sc p i).report j e)
      (λ j e wide used other kind. bad_same (pointwise ◌==◌) row_form (λ m. m + 3) row_told law sc p x s d i a low is j e (let n = shaped.nodes i low in omega arith) (λ h. other (h ∙ sym (shaped.me i low))))
      ∙ ap (λ (y : Notes). also_carried N y (λ j e. rounds_bad sc.config.m (has sc p i).report j e)) (noted i a low is)
      ∙ sym (reported_is sc p i a))
      ∙ sym (late_is sc p i a)
