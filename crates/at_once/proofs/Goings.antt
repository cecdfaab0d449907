-- How far all nodes are in a period still holds of what was made of it where other parts change.
use Rattle.std.proofs.Common.{ℕ, ◌≡◌, ◌<◌, ◌≤◌, ◌&&◌, Bool, false, if◌then◌else◌, List, [], get_or, replicate, Option, None, Some, refl, sym, ap, ap₂, ◌∙◌, inl, inr, arith, lt-ltb}
use Rattle.std.specs.Prelude.{is_some}
use Rattle.std.proofs.lemmas.Bool.{cases_lt, cond-false}
use Rattle.std.proofs.lemmas.List.{get_or_past}
use Rattle.node_grid.specs.NodeSet.{has_id}
use Rattle.error_reports.specs.Notes.{Notes}
use Rattle.agreed_state.specs.declared.config.Config.{Config}
use Rattle.agreed_state.specs.Agreed.{AgreedView}
use Rattle.protocol.specs.View.{Setting, Kept, Received, goes_with}
use Rattle.protocol.specs.RunLaws.{begins_is}
use Rattle.scenario.specs.Scenario.{ScenarioView, system_of}
use Rattle.shown_period.specs.declared.made.Made.{Made}
use Rattle.shown_period.specs.Outcomes.{HasBeliefs}
use Rattle.shown_period.specs.Heads.{AreBegun as AreBegunInRun}
use Rattle.at_once.specs.declared.keeping.Keeping.{Keeping}
use Rattle.at_once.specs.Parts.{setting, goes, has, is_full, notes_voted}
use Rattle.at_once.specs.Kept.{notes_at, AreShaped, AreBegun, AreNotedAs}
use Rattle.at_once.specs.Course.{IsGoing, AreClaimed, AreFound, AreReported}
use Rattle.at_once.proofs.Making.{found_is}

-- notes of each node in use are notes of at most N nodes
pub few_nodes : {N : ℕ} (config : Config N) (notes : List Notes) → AreShaped {N = N} config notes → config.nodes ≤ N
few_nodes {N} config notes h = elim (cases_lt N config.nodes) [
  | inl more ↦
      let past = get_or_past notes N (record { nodes = 0; me = 0; kinds = 0; row = []; carried = [] }) (let m = h.many in omega arith) in
      let none : 0 ≡ config.nodes = sym (ap (λ (x : Notes). x.nodes) past) ∙ h.nodes N more in
      absurd (omega (arith, none, more))
  | inr few ↦ few
]

-- ---- the nodes' own rows are found

-- who goes through a period with no state didn't begin it with one
not_full : (s : Setting) (i : ℕ) (x : Received) (o : Option AgreedView) → goes_with s i x o ≡ None → is_some o ≡ false
not_full s i x None e = refl
not_full s i x (Some a) e = absurd (let clash : Some a ≡ None = e in cc)

module _ {N : ℕ} (sc : ScenarioView N) (p : ℕ) (full : List ℕ) (made : Made N) (found : List (List ℕ)) (notes : List Notes) (room : sc.config.nodes ≤ N)
    (found-are : (i : ℕ) → i < N → get_or found i [] ≡ (if has_id full i then (notes_at notes i).row else replicate N 0)) (going : IsGoing sc p full made) where
  full_now : (i : ℕ) → i < sc.config.nodes → has_id full i ≡ is_full sc p i
  full_now i low = going.full_are i ∙ ap (λ (b : Bool). b && is_full sc p i) (lt-ltb i sc.config.nodes low)

  pub going_found : IsGoing sc p full (record made { found = found })
  going_found = record {
    used = going.used;
    states = going.states;
    full_are = going.full_are;
    modes = going.modes;
    members = going.members;
    sync = going.sync;
    many = going.many;
    nothing = going.nothing;
    no_row = λ i low none.
        found-are i (omega arith)
        ∙ cond-false (has_id full i) (notes_at notes i).row (replicate N 0)
        (full_now i low ∙ not_full (setting sc p i) i (has sc p i) (goes sc p i).state none);
  }

  pub rows_found : AreNotedAs sc p (notes_voted sc p) notes → AreFound sc p (record made { found = found })
  rows_found noted i a low goes-by =
      found-are i (omega arith)
      ∙ ap₂ (λ (b : Bool) (x : Notes). if b then x.row else replicate N 0) (full_now i low) (noted i a low goes-by)
      ∙ sym (found_is sc p i a)

pub claimed_found : {N : ℕ} (sc : ScenarioView N) (p : ℕ) (made : Made N) (found : List (List ℕ)) (groups : List ℕ)
    → AreClaimed sc p made groups → AreClaimed sc p (record made { found = found }) groups
claimed_found sc p made found groups h = record { shared = h.shared; cold = h.cold; done = h.done; due = h.due }

-- ---- the groups are put down

pub reported_grouped : {N : ℕ} (sc : ScenarioView N) (p : ℕ) (full : List ℕ) (made : Made N) (group : List ℕ) (k : Keeping N) (groups : List ℕ)
    → AreReported sc p full made k groups → AreReported sc p full (record made { group = group }) k groups
reported_grouped sc p full made group k groups r = record {
  going = record {
    used = r.going.used;
    states = r.going.states;
    full_are = r.going.full_are;
    modes = r.going.modes;
    members = r.going.members;
    sync = r.going.sync;
    many = r.going.many;
    nothing = r.going.nothing;
    no_row = r.going.no_row;
  };
  found = r.found;
  claimed = record { shared = r.claimed.shared; cold = r.claimed.cold; done = r.claimed.done; due = r.claimed.due };
  voted = r.voted;
  rows = r.rows;
  shaped = r.shaped;
  notes = r.notes;
  votes = r.votes;
  owns = r.owns;
}

-- ---- the period begins

-- other states leave a place for what each believes
pub beliefs_stay : {N : ℕ} (made : Made N) (states : List (Option AgreedView)) → HasBeliefs made → HasBeliefs (record made { states = states })
beliefs_stay made states h = record { capacity = h.capacity; many = h.many; placed = h.placed }

-- the states with which nodes begin are those of the run
pub begun_in_run : {N : ℕ} (sc : ScenarioView N) (p : ℕ) (states : List (Option AgreedView)) (k : Keeping N) → AreBegun sc p states k → AreBegunInRun sc p states
begun_in_run sc p states k h i low = h.states_are i low ∙ ap (λ (x : Kept). x.state) (sym (begins_is (system_of sc) i p))
