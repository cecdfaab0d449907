-- How nodes begin a period, one after another.
use Rattle.std.proofs.Common.{ℕ, ℤ, ◌≡◌, ◌≢◌, ◌<◌, ◌≤◌, ◌+◌, ◌==◌, Bool, true, false, if◌then◌else◌, List, [], length, length-set, set, get_or-set_other, get_or-set_same, replicate, Option, None, Some, refl, sym, ap, subst, ◌∙◌, inl, inr, arith, eq-eqb, ne_eqb}
use Rattle.std.specs.Prelude.{is_some}
use Rattle.std.proofs.lemmas.Bool.{cases_eq, cases_lt, cond-true, cond-false}
use Rattle.std.proofs.lemmas.List.{get_or_past}
use Rattle.std.proofs.lemmas.List.FromFn.{get_or-map-range_with_len, length-map-range_with_len}
use Rattle.fault_classes.specs.Plan.{restarts_at}
use Rattle.node_grid.specs.Version.{kind_count}
use Rattle.error_reports.specs.Notes.{Notes}
use Rattle.agreed_state.specs.declared.config.Config.{Config}
use Rattle.agreed_state.specs.Agreed.{AgreedView}
use Rattle.protocol.specs.View.{Setting, Kept, opened}
use Rattle.scenario.specs.Scenario.{ScenarioView, system_of}
use Rattle.shared_states.specs.Sharing.{state_at, without_state}
use Rattle.view_law.specs.Made.{notes_begun}
use Rattle.at_once.specs.declared.keeping.Keeping.{Keeping}
use Rattle.at_once.specs.Parts.{goes}
use Rattle.at_once.specs.Kept.{notes_at, kept_before, of_node, no_longer, notes_opened, or_nothing, AreShaped, AreUsed, AreKept, AreBegun, IsBegunAt}

-- ---- one node

-- past the end of a list of states there is none
pub none_past : (states : List (Option AgreedView)) (j : ℕ) → length states ≤ j → state_at states j ≡ None
none_past states j past = get_or_past states j None past

pub without_own : (n : ℕ) (states : List (Option AgreedView)) (i : ℕ) → i < n → state_at (without_state n states i) i ≡ None
without_own n states i low =
    get_or-map-range_with_len (λ j. if j == i then None else state_at states j) 0 n i i None low (omega arith)
    ∙ cond-true (i == i) None (state_at states i) (eq-eqb i i refl)

pub without_other : (n : ℕ) (states : List (Option AgreedView)) (i j : ℕ) → length states ≡ n → j ≢ i → state_at (without_state n states i) j ≡ state_at states j
without_other n states i j many ne = elim (cases_lt j n) [
  | inl low ↦
      get_or-map-range_with_len (λ k. if k == i then None else state_at states k) 0 n j j None low (omega arith)
      ∙ cond-false (j == i) None (state_at states j) (ne_eqb j i ne)
  | inr high ↦
      none_past (without_state n states i) j (let l = length-map-range_with_len (λ k. if k == i then None else state_at states k) 0 n in omega (arith, l, high))
      ∙ sym (none_past states j (omega arith))
]

module _ {N : ℕ} (sc : ScenarioView N) (p i : ℕ) (states : List (Option AgreedView)) (k : Keeping N) (begun : List (Option AgreedView)) (l : Keeping N) where
  pub begun_anew : restarts_at sc.plan i p ≡ true → i < N → length states ≡ N → length k.notes ≡ N → length k.votes ≡ N → length k.owns ≡ N
      → begun ≡ without_state N states i → l.notes ≡ set k.notes i (no_longer N (notes_at k.notes i))
      → l.votes ≡ set k.votes i (replicate 8 None) → l.owns ≡ set k.owns i (replicate 8 None) → IsBegunAt sc p i states k begun l
  begun_anew restarts low many notes-many votes-many owns-many state-is notes-are votes-are owns-are = record {
    many = ap length notes-are ∙ length-set k.notes i _ ∙ notes-many;
    state = ap (λ (xs : List (Option AgreedView)). state_at xs i) state-is ∙ without_own N states i low ∙ sym (cond-true (restarts_at sc.plan i p) None (state_at states i) restarts);
    notes =
        ap (λ (xs : List Notes). notes_at xs i) notes-are ∙ get_or-set_same k.notes i _ _ (let w = notes-many in omega arith)
        ∙ sym (ap (λ (b : Bool). notes_opened N b (notes_at k.notes i)) restarts);
    votes =
        ap (λ (xs : List (List (Option ℤ))). of_node xs i) votes-are ∙ get_or-set_same k.votes i (replicate 8 None) [] (let w = votes-many in omega arith)
        ∙ sym (cond-true (restarts_at sc.plan i p) (replicate 8 None) (of_node k.votes i) restarts);
    owns =
        ap (λ (xs : List (List (Option ℤ))). of_node xs i) owns-are ∙ get_or-set_same k.owns i (replicate 8 None) [] (let w = owns-many in omega arith)
        ∙ sym (cond-true (restarts_at sc.plan i p) (replicate 8 None) (of_node k.owns i) restarts);
    other_state = λ j ne. ap (λ (xs : List (Option AgreedView)). state_at xs j) state-is ∙ without_other N states i j many ne;
    other_notes = λ j ne. ap (λ (xs : List Notes). notes_at xs j) notes-are ∙ get_or-set_other k.notes i j _ _ ne;
    other_votes = λ j ne. ap (λ (xs : List (List (Option ℤ))). of_node xs j) votes-are ∙ get_or-set_other k.votes i j _ _ ne;
    other_owns = λ j ne. ap (λ (xs : List (List (Option ℤ))). of_node xs j) owns-are ∙ get_or-set_other k.owns i j _ _ ne;
  }

  pub begun_on : restarts_at sc.plan i p ≡ false → i < N → length k.notes ≡ N
      → begun ≡ states → l.notes ≡ set k.notes i (record (notes_at k.notes i) { row = (notes_at k.notes i).carried; carried = replicate N 0 })
      → l.votes ≡ k.votes → l.owns ≡ k.owns → IsBegunAt sc p i states k begun l
  begun_on goes-on low notes-many state-is notes-are votes-are owns-are = record {
    many = ap length notes-are ∙ length-set k.notes i _ ∙ notes-many;
    state = ap (λ (xs : List (Option AgreedView)). state_at xs i) state-is ∙ sym (cond-false (restarts_at sc.plan i p) None (state_at states i) goes-on);
    notes =
        ap (λ (xs : List Notes). notes_at xs i) notes-are ∙ get_or-set_same k.notes i _ _ (let w = notes-many in omega arith)
        ∙ sym (ap (λ (b : Bool). notes_opened N b (notes_at k.notes i)) goes-on);
    votes =
        ap (λ (xs : List (List (Option ℤ))). of_node xs i) votes-are
        ∙ sym (cond-false (restarts_at sc.plan i p) (replicate 8 None) (of_node k.votes i) goes-on);
    owns =
        ap (λ (xs : List (List (Option ℤ))). of_node xs i) owns-are
        ∙ sym (cond-false (restarts_at sc.plan i p) (replicate 8 None) (of_node k.owns i) goes-on);
    other_state = λ j ne. ap (λ (xs : List (Option AgreedView)). state_at xs j) state-is;
    other_notes = λ j ne. ap (λ (xs : List Notes). notes_at xs j) notes-are ∙ get_or-set_other k.notes i j _ _ ne;
    other_votes = λ j ne. ap (λ (xs : List (List (Option ℤ))). of_node xs j) votes-are;
    other_owns = λ j ne. ap (λ (xs : List (List (Option ℤ))). of_node xs j) owns-are;
  }

-- ---- all nodes

-- node j has begun, and all that it keeps is what it had kept, opened
pub record IsOpened {N : ℕ} (sc : ScenarioView N) (p j : ℕ) (old : List (Option AgreedView)) (k : Keeping N) (states : List (Option AgreedView)) (l : Keeping N) : Type 0 where
  pub state : state_at states j ≡ or_nothing (restarts_at sc.plan j p) None (state_at old j)
  pub notes : notes_at l.notes j ≡ notes_opened N (restarts_at sc.plan j p) (notes_at k.notes j)
  pub votes : of_node l.votes j ≡ or_nothing (restarts_at sc.plan j p) (replicate 8 None) (of_node k.votes j)
  pub owns : of_node l.owns j ≡ or_nothing (restarts_at sc.plan j p) (replicate 8 None) (of_node k.owns j)

-- it hasn't begun
pub record IsAsKept {N : ℕ} (j : ℕ) (old : List (Option AgreedView)) (k : Keeping N) (states : List (Option AgreedView)) (l : Keeping N) : Type 0 where
  pub state : state_at states j ≡ state_at old j
  pub notes : notes_at l.notes j ≡ notes_at k.notes j
  pub votes : of_node l.votes j ≡ of_node k.votes j
  pub owns : of_node l.owns j ≡ of_node k.owns j

-- the nodes below i have begun
pub record AreBeginning {N : ℕ} (sc : ScenarioView N) (p : ℕ) (old : List (Option AgreedView)) (k : Keeping N) (i : ℕ) (states : List (Option AgreedView)) (l : Keeping N) : Type 0 where
  pub many : length l.notes ≡ N
  pub so_far : (j : ℕ) → j < i → IsOpened sc p j old k states l
  pub rest : (j : ℕ) → i ≤ j → IsAsKept j old k states l

module _ {N : ℕ} (sc : ScenarioView N) (p : ℕ) (old : List (Option AgreedView)) (k : Keeping N) where
  pub none_begun : length k.notes ≡ N → AreBeginning sc p old k 0 old k
  none_begun many = record {
    many = many;
    so_far = λ j low. absurd (omega arith);
    rest = λ j high. record { state = refl; notes = refl; votes = refl; owns = refl };
  }

  -- node i as it begins, where it was as it was kept
  opened_here : (i : ℕ) (states : List (Option AgreedView)) (l : Keeping N) (states' : List (Option AgreedView)) (l' : Keeping N)
      → IsBegunAt sc p i states l states' l' → IsAsKept i old k states l → IsOpened sc p i old k states' l'
  opened_here i states l states' l' here was = record {
    state = here.state ∙ ap (or_nothing (restarts_at sc.plan i p) None) was.state;
    notes = here.notes ∙ ap (notes_opened N (restarts_at sc.plan i p)) was.notes;
    votes = here.votes ∙ ap (or_nothing (restarts_at sc.plan i p) (replicate 8 None)) was.votes;
    owns = here.owns ∙ ap (or_nothing (restarts_at sc.plan i p) (replicate 8 None)) was.owns;
  }

  opened_before : (i j : ℕ) (states : List (Option AgreedView)) (l : Keeping N) (states' : List (Option AgreedView)) (l' : Keeping N) → j ≢ i
      → IsBegunAt sc p i states l states' l' → IsOpened sc p j old k states l → IsOpened sc p j old k states' l'
  opened_before i j states l states' l' ne here was = record {
    state = here.other_state j ne ∙ was.state;
    notes = here.other_notes j ne ∙ was.notes;
    votes = here.other_votes j ne ∙ was.votes;
    owns = here.other_owns j ne ∙ was.owns;
  }

  kept_still : (i j : ℕ) (states : List (Option AgreedView)) (l : Keeping N) (states' : List (Option AgreedView)) (l' : Keeping N) → j ≢ i
      → IsBegunAt sc p i states l states' l' → IsAsKept j old k states l → IsAsKept j old k states' l'
  kept_still i j states l states' l' ne here was = record {
    state = here.other_state j ne ∙ was.state;
    notes = here.other_notes j ne ∙ was.notes;
    votes = here.other_votes j ne ∙ was.votes;
    owns = here.other_owns j ne ∙ was.owns;
  }

  pub one_begun : (i : ℕ) (states : List (Option AgreedView)) (l : Keeping N) (states' : List (Option AgreedView)) (l' : Keeping N)
      → IsBegunAt sc p i states l states' l' → AreBeginning sc p old k i states l → AreBeginning sc p old k (i + 1) states' l'
  one_begun i states l states' l' here m = record {
    many = here.many;
    so_far = λ j less. elim (cases_eq j i) [
      | inl e ↦ subst (λ (x : ℕ). IsOpened sc p x old k states' l') (sym e) (opened_here i states l states' l' here (m.rest i (omega arith)))
      | inr ne ↦ opened_before i j states l states' l' ne here (m.so_far j (omega arith))
    ];
    rest = λ j high. let ne : j ≢ i = omega arith in kept_still i j states l states' l' ne here (m.rest j (omega arith));
  }

-- ---- what all go into the period with

opened_state : (s : Setting) (b : Bool) (x : Kept) → or_nothing b None x.state ≡ (opened s b x).state
opened_state s true x = refl
opened_state s false x = refl

opened_votes : (s : Setting) (b : Bool) (x : Kept) → or_nothing b (replicate 8 None) x.votes ≡ (opened s b x).votes
opened_votes s true x = refl
opened_votes s false x = refl

opened_owns : (s : Setting) (b : Bool) (x : Kept) → or_nothing b (replicate 8 None) x.owns ≡ (opened s b x).owns
opened_owns s true x = refl
opened_owns s false x = refl

notes_of : ℕ → ℕ → ℕ → List ℕ → List ℕ → Notes
notes_of nodes me kinds row carried = record { nodes = nodes; me = me; kinds = kinds; row = row; carried = carried }

opened_notes : {N : ℕ} (config : Config N) (s : Setting) (i : ℕ) (b : Bool) (x : Kept) (n : Notes) → s.capacity ≡ N
    → n.nodes ≡ config.nodes → n.me ≡ i → n.kinds ≡ kind_count config.version → n.carried ≡ x.carried
    → notes_opened N b n ≡ notes_begun config i (opened s b x)
opened_notes config s i true x n wide nodes-are me-is kinds-are carried-is = cc
opened_notes config s i false x n wide nodes-are me-is kinds-are carried-is = cc

or_none : (b : Bool) (o : Option AgreedView) (a : AgreedView) → or_nothing b None o ≡ Some a → o ≡ Some a
or_none true o a e = absurd (let clash : None ≡ Some a = e in cc)
or_none false o a e = e

opened_nodes : (n : ℕ) (b : Bool) (x : Notes) → (notes_opened n b x).nodes ≡ x.nodes
opened_nodes n true x = refl
opened_nodes n false x = refl

opened_me : (n : ℕ) (b : Bool) (x : Notes) → (notes_opened n b x).me ≡ x.me
opened_me n true x = refl
opened_me n false x = refl

opened_kinds : (n : ℕ) (b : Bool) (x : Notes) → (notes_opened n b x).kinds ≡ x.kinds
opened_kinds n true x = refl
opened_kinds n false x = refl

module _ {N : ℕ} (sc : ScenarioView N) (p : ℕ) (old : List (Option AgreedView)) (k : Keeping N) (states : List (Option AgreedView)) (l : Keeping N)
    (kept : AreKept sc p old k) (m : AreBeginning sc p old k sc.config.nodes states l)
    (goes-as : (i : ℕ) → goes sc p i ≡ opened (system_of sc).setting (restarts_at sc.plan i p) (kept_before sc p i)) where
  state_before : (j : ℕ) (a : AgreedView) → state_at states j ≡ Some a → state_at old j ≡ Some a
  state_before j a e = elim (cases_lt j sc.config.nodes) [
    | inl low ↦ or_none (restarts_at sc.plan j p) (state_at old j) a (sym (m.so_far j low).state ∙ e)
    | inr high ↦ sym (m.rest j high).state ∙ e
  ]

  some_used : (j : ℕ) (o : Option AgreedView) → state_at states j ≡ o → is_some o ≡ true → j < sc.config.nodes
  some_used j (Some a) e is = kept.used.used j (ap is_some (state_before j a e))
  some_used j None e is = absurd (let clash : false ≡ true = is in cc)

  used_still : AreUsed sc.config states
  used_still = record {
    agreed = λ j a e. kept.used.agreed j a (state_before j a e);
    used = λ j is. some_used j (state_at states j) refl is;
  }

  shaped_by : (f : Notes → ℕ) → ((b : Bool) (x : Notes) → f (notes_opened N b x) ≡ f x) → (j : ℕ) → j < sc.config.nodes → f (notes_at l.notes j) ≡ f (notes_at k.notes j)
  shaped_by f same j low = ap f (m.so_far j low).notes ∙ same (restarts_at sc.plan j p) (notes_at k.notes j)

  shaped_still : AreShaped {N = N} sc.config l.notes
  shaped_still = record {
    many = m.many;
    nodes = λ j low. shaped_by (λ (x : Notes). x.nodes) (opened_nodes N) j low ∙ kept.shaped.nodes j low;
    me = λ j low. shaped_by (λ (x : Notes). x.me) (opened_me N) j low ∙ kept.shaped.me j low;
    kinds = λ j low. shaped_by (λ (x : Notes). x.kinds) (opened_kinds N) j low ∙ kept.shaped.kinds j low;
  }

  pub all_begun : AreBegun sc p states l
  all_begun = record {
    used = used_still;
    shaped = shaped_still;
    states_are = λ i low.
        (m.so_far i low).state ∙ ap (or_nothing (restarts_at sc.plan i p) None) (kept.states_are i low)
        ∙ opened_state (system_of sc).setting (restarts_at sc.plan i p) (kept_before sc p i) ∙ ap (λ (x : Kept). x.state) (sym (goes-as i));
    notes = λ i low.
        (m.so_far i low).notes
        ∙ opened_notes sc.config (system_of sc).setting i (restarts_at sc.plan i p) (kept_before sc p i) (notes_at k.notes i) refl
        (kept.shaped.nodes i low) (kept.shaped.me i low) (kept.shaped.kinds i low) (kept.carried i low)
        ∙ ap (notes_begun sc.config i) (sym (goes-as i));
    votes = λ i low.
        (m.so_far i low).votes ∙ ap (or_nothing (restarts_at sc.plan i p) (replicate 8 None)) (kept.votes i low)
        ∙ opened_votes (system_of sc).setting (restarts_at sc.plan i p) (kept_before sc p i) ∙ ap (λ (x : Kept). x.votes) (sym (goes-as i));
    owns = λ i low.
        (m.so_far i low).owns ∙ ap (or_nothing (restarts_at sc.plan i p) (replicate 8 None)) (kept.owns i low)
        ∙ opened_owns (system_of sc).setting (restarts_at sc.plan i p) (kept_before sc p i) ∙ ap (λ (x : Kept). x.owns) (sym (goes-as i));
  }
