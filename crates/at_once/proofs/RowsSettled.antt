-- What all settle of the rows, put together.
use Rattle.std.proofs.Common.{ℕ, ℤ, ◌≡◌, ◌<◌, ◌≤◌, ◌+◌, ◌==◌, true, false, if◌then◌else◌, List, length, get_or, Option, None, Some, sym, ap, ap₂, subst, ◌∙◌, arith}
use Rattle.std.specs.Prelude.{is_some}
use Rattle.std.specs.Cmp.Lexicographic.{pointwise}
use Rattle.node_grid.specs.NodeSet.{has_id}
use Rattle.node_grid.specs.NodeSetLaws.{passes_where}
use Rattle.error_reports.specs.Notes.{also_carried}
use Rattle.agreed_state.specs.Agreed.{AgreedView}
use Rattle.protocol.specs.Arrival.{row_form}
use Rattle.protocol.specs.Heard.{rounds_bad}
use Rattle.scenario.specs.Scenario.{ScenarioView, IsScenario, system_of}
use Rattle.touched_items.specs.ItemLaws.{row_told}
use Rattle.heard_links.specs.declared.phase.Phase.{Phase}
use Rattle.heard_links.specs.Hearing.{item_of, IsHeard}
use Rattle.item_phase.specs.declared.item_phase.ItemPhase.{ItemPhase}
use Rattle.item_phase.specs.Settled.{listener}
use Rattle.item_phase.specs.Noted.{rounds_of}
use Rattle.item_phase.specs.Laws.{OfRunLaw}
use Rattle.shared_states.specs.declared.belief.Belief.{Belief}
use Rattle.shared_states.specs.Sharing.{state_at}
use Rattle.grouped_nodes.specs.Grouping.{first_of, AreFirsts}
use Rattle.grouped_nodes.specs.Shared.{AreShared, belief_of}
use Rattle.shown_period.specs.declared.made.Made.{Made}
use Rattle.shown_period.specs.Outcomes.{found_at}
use Rattle.view_law.specs.Laws.{IsCarriedWithin}
use Rattle.view_law.proofs.Keeping.{through_is}
use Rattle.at_once.specs.declared.keeping.Keeping.{Keeping}
use Rattle.at_once.specs.Parts.{is_full, through, votes_in, found_in, rows_in}
use Rattle.at_once.specs.Kept.{notes_at, of_node}
use Rattle.at_once.specs.Course.{awake_in, IsNothing, IsGoing, AreClaimed, AreVoted, AreFound, AreReported}
use Rattle.at_once.specs.Phases.{IsPhaseAt, AreTold, IsDone, AreRowsSettled, node_rows, SettleAlike, blames}
use Rattle.at_once.proofs.Phasing.{awake_low, phase_set, phase_run, phase_done}
use Rattle.at_once.proofs.Telling.{of_some, row_is}
use Rattle.at_once.proofs.ClaimsSettled.{not_awake}
use Rattle.at_once.proofs.RowSteps.{rows_same, alike_rows, shaped_late, late_notes, voted_within}

-- the rounds of rows, as the nodes go through them
module _ {N : ℕ} (sc : ScenarioView N) (p : ℕ) (full : List ℕ) (made : Made N) (going : IsGoing sc p full made) (given : IsScenario sc) (in_run : p < sc.periods) (first : ℕ) (starts : first ≡ sc.config.m + 3) (x : Phase N) (at : IsPhaseAt sc p first full made x) where
  starts_in : (λ (m : ℕ). m + 3) sc.config.m ≡ first
  starts_in = sym starts

  -- at first nothing of them is heard
  pub rows_told : (s : ItemPhase (List ℕ) N) → AreTold row_told sc p full (item_of s.links) → IsHeard row_form (λ m. m + 3) row_told x s.links 0
  rows_told s told = record {
    set = phase_set sc p full made going given in_run first x at (omega arith) (omega arith);
    sys = system_of sc;
    run = phase_run sc p full made going given in_run first x at (pointwise ◌==◌) row_form (λ m. m + 3) row_told starts_in (item_of s.links) told;
    heard = λ r j i below low on other. absurd (omega arith);
  }

  -- in the end all is settled
  pub rows_done : (s : ItemPhase (List ℕ) N) → AreTold row_told sc p full (item_of s.links) → AreRowsSettled x s → IsDone (pointwise ◌==◌) row_form (λ m. m + 3) row_told sc p x s
  rows_done s told settled =
      phase_done sc p full made going given in_run first x at (pointwise ◌==◌) row_form (λ m. m + 3) row_told starts_in s (omega arith) (omega arith) told settled

  -- until then nothing is carried over that a row has no place for
  pub votes_within : (k : Keeping N) → AreVoted sc p k → (i : ℕ) → has_id x.awake i ≡ true → IsCarriedWithin N (notes_at k.notes i)
  votes_within k voted i on =
      let awake : has_id (awake_in N made.states) i ≡ true = ap (λ (xs : List ℕ). has_id xs i) (sym at.awake) ∙ on in
      let low : i < sc.config.nodes = awake_low sc p full made going i awake in
      let some = of_some (state_at made.states i) (passes_where (λ k. is_some (state_at made.states k)) N i awake) in
      let goes : through sc p i ≡ Some some.0 = sym (going.states i low) ∙ some.1 in
      subst (IsCarriedWithin N) (sym (voted.notes i some.0 low goes)) (voted_within sc p i some.0)

module _ {N : ℕ} (law : OfRunLaw N (pointwise ◌==◌) row_form (λ m. m + 3) row_told) (sc : ScenarioView N) (p : ℕ) (made : Made N) (few : sc.config.nodes ≤ N) (x : Phase N) (s : ItemPhase (List ℕ) N) (d : IsDone (pointwise ◌==◌) row_form (λ m. m + 3) row_told sc p x s) (before groups : List ℕ) (claimed : AreClaimed sc p made before) (firsts : AreFirsts N groups) (parted : (i : ℕ) → i < N → first_of before (first_of groups i) ≡ first_of before i) (cold : (i : ℕ) → i < N → has_id x.awake i ≡ false → first_of groups i ≡ i) (among : (i : ℕ) → i < N → has_id x.awake i ≡ true → has_id x.awake (first_of groups i) ≡ true) (alike : (i : ℕ) → i < N → has_id x.awake i ≡ true → SettleAlike (pointwise ◌==◌) row_form x s (first_of groups i) i) (votes : List (List (Option ℤ))) (voted : (i : ℕ) → i < N → of_node votes (first_of groups i) ≡ of_node votes i) (apart : List (Belief N)) (kept : (i : ℕ) (b : Belief N) → i < N → belief_of b apart groups i ≡ belief_of b made.beliefs.items before i) (made' : Made N) (filled : (f : ℕ) (b : Belief N) → f < N → has_id x.awake f ≡ true → first_of groups f ≡ f → get_or made'.beliefs.items f b ≡ record (get_or apart f b) { votes = of_node votes f; rows = node_rows x s f }) where
  -- what stands at the first of a node's group: what stood there of it before, its votes and what it settles of the rows
  pub at_first : (i : ℕ) (a : AgreedView) (b : Belief N) → i < sc.config.nodes → through sc p i ≡ Some a
      → belief_of b made'.beliefs.items groups i ≡ record (belief_of b made.beliefs.items before i) { votes = of_node votes i; rows = node_rows x s i }
  at_first i a b low is =
      let within : i < N = omega arith in
      let on : has_id x.awake i ≡ true = d.awake i a low is in
      let early = firsts.early i within in
      let first : first_of groups i < N = omega arith in
      filled (first_of groups i) b first (among i within on) (firsts.own i within)
      ∙ ap₂ (λ (v : List (Option ℤ)) (rs : List (Option (List ℕ))). record (get_or apart (first_of groups i) b) { votes = v; rows = rs }) (voted i within) (alike_rows law sc p x s d (first_of groups i) i (alike i within on))
      ∙ ap (λ (y : Belief N). record y { votes = of_node votes i; rows = node_rows x s i }) (kept i b within)

  first_shared : (states : List (Option AgreedView)) → AreShared N before states → AreShared N groups states
  first_shared states shared i low =
      let early = firsts.early i low in
      let first : first_of groups i < N = omega arith in
      sym (shared (first_of groups i) first) ∙ ap (state_at states) (parted i low) ∙ shared i low

  pub rows_claimed : made'.states ≡ made.states → ((i : ℕ) → i < sc.config.nodes → through sc p i ≡ None → has_id x.awake i ≡ false) → AreClaimed sc p made' groups
  rows_claimed same off = record {
    shared = subst (AreShared N groups) (sym same) (first_shared made.states claimed.shared);
    cold = λ i low none. cold i (omega arith) (off i low none);
    done = λ i a b low is. ap (λ (y : Belief N). y.done) (at_first i a b low is) ∙ claimed.done i a b low is;
    due = λ i a b low is. ap (λ (y : Belief N). y.due.items) (at_first i a b low is) ∙ claimed.due i a b low is;
  }

  pub rows_voted : ((i : ℕ) (a : AgreedView) → i < sc.config.nodes → through sc p i ≡ Some a → of_node votes i ≡ votes_in sc p i a)
      → (i : ℕ) (a : AgreedView) (b : Belief N) → i < sc.config.nodes → through sc p i ≡ Some a → (belief_of b made'.beliefs.items groups i).votes ≡ votes_in sc p i a
  rows_voted are i a b low is = ap (λ (y : Belief N). y.votes) (at_first i a b low is) ∙ are i a low is

  pub rows_believed : ((i : ℕ) (a : AgreedView) → i < sc.config.nodes → through sc p i ≡ Some a → is_full sc p i ≡ true → row_told (system_of sc) p i ≡ found_in sc p i a)
      → (i : ℕ) (a : AgreedView) (b : Belief N) → i < sc.config.nodes → through sc p i ≡ Some a → (belief_of b made'.beliefs.items groups i).rows ≡ rows_in sc p i a
  rows_believed own i a b low is = ap (λ (y : Belief N). y.rows) (at_first i a b low is) ∙ rows_same law sc p x s d i a low is (own i a low is)

  -- nodes without a state go through the period as before
  rows_going : (full : List ℕ) → IsGoing sc p full made → made' ≡ record made { beliefs = made'.beliefs } → length made'.beliefs.items ≡ N → ((i : ℕ) → i < sc.config.nodes → through sc p i ≡ None → has_id x.awake i ≡ false)
      → ((f : ℕ) (b : Belief N) → has_id x.awake f ≡ false → get_or made'.beliefs.items f b ≡ get_or apart f b) → IsGoing sc p full made'
  rows_going full going is many off others = subst (IsGoing sc p full) (sym is) record {
    used = going.used;
    states = going.states;
    full_are = going.full_are;
    modes = going.modes;
    members = going.members;
    sync = going.sync;
    many = many;
    nothing = λ i b low none.
        let within : i < N = omega arith in
        let alone : first_of groups i ≡ i = cold i within (off i low none) in
        subst IsNothing
        (sym (others i b (off i low none) ∙ ap (λ (k : ℕ). get_or apart k b) (sym alone) ∙ kept i b within ∙ ap (λ (k : ℕ). get_or made.beliefs.items k b) (claimed.cold i low none)))
        (going.nothing i b low none);
    no_row = going.no_row;
  }

  -- all of it, with what the nodes carry over and what they keep
  pub all_reported : (full : List ℕ) → IsGoing sc p full made → AreFound sc p made → made' ≡ record made { beliefs = made'.beliefs } → length made'.beliefs.items ≡ N → x.awake ≡ awake_in N made.states
      → ((f : ℕ) (b : Belief N) → has_id x.awake f ≡ false → get_or made'.beliefs.items f b ≡ get_or apart f b)
      → (k l : Keeping N) → AreVoted sc p k → k.votes ≡ votes → l.votes ≡ k.votes → l.owns ≡ k.owns → length l.notes ≡ N
      → ((i : ℕ) → i < N → notes_at l.notes i ≡ (if has_id x.awake i then also_carried N (also_carried N (notes_at k.notes i) (rounds_bad x.config.now.m (rounds_of row_form x s.links i))) (blames (pointwise ◌==◌) (listener row_form x s.links i)) else notes_at k.notes i))
      → AreReported sc p full made' l groups
  all_reported full going found is many awake others k l done votes_is same_votes same_owns long each =
      let off : (i : ℕ) → i < sc.config.nodes → through sc p i ≡ None → has_id x.awake i ≡ false =
      λ i low none. ap (λ (xs : List ℕ). has_id xs i) awake ∙ not_awake N made.states i (going.states i low ∙ none) in
      let kept_votes : (i : ℕ) (a : AgreedView) → i < sc.config.nodes → through sc p i ≡ Some a → of_node k.votes i ≡ votes_in sc p i a = done.votes in
      record {
        going = rows_going full going is many off others;
        found = λ i a low goes. ap (λ (y : Made N). found_at y i) is ∙ found i a low goes;
        claimed = rows_claimed (ap (λ (y : Made N). y.states) is) off;
        voted = rows_voted (λ i a low goes. ap (λ (vs : List (List (Option ℤ))). of_node vs i) (sym votes_is) ∙ kept_votes i a low goes);
        rows = rows_believed (λ i a low goes full_is. row_is through_is sc p i a goes);
        shaped = shaped_late sc.config few x.awake (λ i. rounds_bad x.config.now.m (rounds_of row_form x s.links i)) (λ i. blames (pointwise ◌==◌) (listener row_form x s.links i)) k.notes l.notes done.shaped long each;
        notes = late_notes law sc p x s d few k.notes l.notes done.shaped each done.notes;
        votes = λ i a low goes. ap (λ (vs : List (List (Option ℤ))). of_node vs i) same_votes ∙ kept_votes i a low goes;
        owns = λ i a low goes. ap (λ (vs : List (List (Option ℤ))). of_node vs i) same_owns ∙ done.owns i a low goes;
      }
