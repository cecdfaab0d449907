-- The data slot node by node: own values, votes and who is off, and what is noted.
use Rattle.std.proofs.Common.{ℕ, ℤ, ◌≡◌, ◌≢◌, ◌<◌, ◌≤◌, ◌+◌, true, false, List, [], length, length-set, set, replicate, get_or, get_or-set_other, get_or-set_same, Option, None, Some, refl, sym, ap, subst, ◌∙◌, ◌⊎◌, inl, inr, arith}
use Rattle.std.proofs.lemmas.Bool.{cases_eq}
use Rattle.std.proofs.lemmas.List.{set-get_or, length-replicate, get_or-replicate}
use Rattle.node_grid.specs.NodeSet.{has_id}
use Rattle.error_reports.specs.Notes.{Notes}
use Rattle.agreed_state.specs.Agreed.{AgreedView}
use Rattle.protocol.specs.Configured.{setting_of}
use Rattle.protocol.specs.View.{Received, own_values}
use Rattle.scenario.specs.Scenario.{ScenarioView, inputs_of}
use Rattle.shared_states.specs.declared.belief.Belief.{Belief}
use Rattle.shared_states.specs.Sharing.{state_at}
use Rattle.grouped_nodes.specs.Grouping.{first_of}
use Rattle.grouped_nodes.specs.Shared.{AreShared}
use Rattle.told_values.specs.Slot.{DataView, Hears, HearAlike}
use Rattle.at_once.specs.Kept.{notes_at, of_node}
use Rattle.at_once.specs.Values.{no_belief, done_at, HearsAs, IsVoteOf, HearEach, IsNotedOf}

-- ---- own values

-- node i's own values, by these votes and own values of before
abbrev pub AreOwn : {N : ℕ} → ScenarioView N → ℕ → List (List (Option ℤ)) → List (List (Option ℤ)) → ℕ → List (Option ℤ) → Type 0
AreOwn sc p votes old i own = (state : Option AgreedView) (carried : List ℕ)
    → own ≡ own_values (setting_of sc.config) i p (inputs_of sc i p) (record { state = state; carried = carried; votes = of_node votes i; owns = of_node old i })

-- those of the nodes below k are worked out
pub record AreOwned {N : ℕ} (sc : ScenarioView N) (p : ℕ) (votes old : List (List (Option ℤ))) (k : ℕ) (owns : List (List (Option ℤ))) : Type 0 where
  pub wide : length owns ≡ N
  pub so_far : (j : ℕ) → j < k → AreOwn sc p votes old j (of_node owns j)
  pub rest : (j : ℕ) → k ≤ j → of_node owns j ≡ of_node old j

module _ {N : ℕ} (sc : ScenarioView N) (p : ℕ) (votes old : List (List (Option ℤ))) where
  pub owned_none : length old ≡ N → AreOwned sc p votes old 0 old
  owned_none wide = record { wide = wide; so_far = λ j low. absurd (omega arith); rest = λ j high. refl }

  pub owned_put : (k : ℕ) (owns : List (List (Option ℤ))) (own : List (Option ℤ)) → k < N → AreOwned sc p votes old k owns → AreOwn sc p votes old k own → AreOwned sc p votes old (k + 1) (set owns k own)
  owned_put k owns own low was is = record {
    wide = length-set owns k own ∙ was.wide;
    so_far = λ j less. elim (cases_eq j k) [
      | inl e ↦
          let room : k < length owns = (let w = was.wide in omega arith) in
          let here : of_node (set owns k own) k ≡ own = get_or-set_same owns k own [] room in
          subst (λ (n : ℕ). AreOwn sc p votes old n (of_node (set owns k own) n)) (sym e) (subst (AreOwn sc p votes old k) (sym here) is)
      | inr ne ↦
          let there : of_node (set owns k own) j ≡ of_node owns j = get_or-set_other owns k j own [] ne in
          subst (AreOwn sc p votes old j) (sym there) (was.so_far j (omega arith))
    ];
    rest = λ j high. let ne : j ≢ k = omega arith in get_or-set_other owns k j own [] ne ∙ was.rest j (omega arith);
  }

-- ---- votes

-- the votes of the nodes below k stand
pub record AreVotes {n : ℕ} (d : DataView n) (groups : List ℕ) (states : List (Option AgreedView)) (beliefs : List (Belief n)) (k : ℕ) (votes : List (List (Option ℤ))) (off : List (List ℕ)) : Type 0 where
  pub wide : length votes ≡ n
  pub wide_off : length off ≡ n
  pub so_far : (x : ℕ → Received) → HearEach d x → (j : ℕ) (a : AgreedView) → j < k → j < d.config.nodes → state_at states j ≡ Some a
      → IsVoteOf d a (done_at groups beliefs j) j (x j) (of_node votes j) (get_or off j [])

-- what serves a node serves each node that hears as it does
pub served : {n : ℕ} (d : DataView n) (a : AgreedView) (done : List _) (r i : ℕ) (x y : Received) (votes : List (Option ℤ)) (off : List ℕ)
    → HearAlike d r i → Hears d r x → Hears d i y → IsVoteOf d a done r x votes off → IsVoteOf d a done i y votes off
served d a done r i x y votes off alike hears_x hears_y is = record {
  votes_are = λ j z h. is.votes_are j z (onward j z h);
  off_are = λ j z h. is.off_are j z (onward j z h);
} where
  onward : (j : ℕ) (z : Received) → HearsAs d i y j z → HearsAs d r x j z
  onward j z h = record { due = h.due ∙ alike.due; told = λ t is_told. h.told t (alike.told x y t hears_x hears_y is_told) }

-- a node hears as it does itself
pub as_itself : {n : ℕ} (d : DataView n) (i : ℕ) (x : Received) → HearsAs d i x i x
as_itself d i x = record { due = refl; told = λ t is. is }

module _ {n : ℕ} (d : DataView n) (groups : List ℕ) (states : List (Option AgreedView)) (beliefs : List (Belief n)) where
  pub votes_none : (votes : List (List (Option ℤ))) (off : List (List ℕ)) → length votes ≡ n → length off ≡ n → AreVotes d groups states beliefs 0 votes off
  votes_none votes off wide wide_off = record { wide = wide; wide_off = wide_off; so_far = λ x hears j a low. absurd (omega arith) }

  pub votes_skip : (k : ℕ) (votes : List (List (Option ℤ))) (off : List (List ℕ)) → state_at states k ≡ None → AreVotes d groups states beliefs k votes off → AreVotes d groups states beliefs (k + 1) votes off
  votes_skip k votes off none was = record {
    wide = was.wide;
    wide_off = was.wide_off;
    so_far = λ x hears j a less used is. elim (cases_eq j k) [
      | inl e ↦ let clash : None ≡ Some a = sym none ∙ ap (state_at states) (sym e) ∙ is in absurd (cc)
      | inr ne ↦ was.so_far x hears j a (omega arith) used is
    ];
  }

  pub votes_put : (k : ℕ) (votes : List (List (Option ℤ))) (off : List (List ℕ)) (a : AgreedView) (v : List (Option ℤ)) (o : List ℕ) → k < n → k < d.config.nodes → state_at states k ≡ Some a
      → AreVotes d groups states beliefs k votes off → ((x : ℕ → Received) → HearEach d x → IsVoteOf d a (done_at groups beliefs k) k (x k) v o)
      → AreVotes d groups states beliefs (k + 1) (set votes k v) (set off k o)
  votes_put k votes off a v o low used_k here was is = record {
    wide = length-set votes k v ∙ was.wide;
    wide_off = length-set off k o ∙ was.wide_off;
    so_far = λ x hears j b less used at. elim (cases_eq j k) [
      | inl e ↦
          let room : k < length votes = (let w = was.wide in omega arith) in
          let room_off : k < length off = (let w = was.wide_off in omega arith) in
          let v_is : of_node (set votes k v) k ≡ v = get_or-set_same votes k v [] room in
          let o_is : get_or (set off k o) k [] ≡ o = get_or-set_same off k o [] room_off in
          let same : Some a ≡ Some b = sym here ∙ ap (state_at states) (sym e) ∙ at in
          let a_is : a ≡ b = cc in
          subst (λ (i : ℕ). IsVoteOf d b (done_at groups beliefs i) i (x i) (of_node (set votes k v) i) (get_or (set off k o) i [])) (sym e)
          (subst (λ (w : List (Option ℤ)). IsVoteOf d b (done_at groups beliefs k) k (x k) w (get_or (set off k o) k [])) (sym v_is)
          (subst (λ (w : List ℕ). IsVoteOf d b (done_at groups beliefs k) k (x k) v w) (sym o_is)
          (subst (λ (c : AgreedView). IsVoteOf d c (done_at groups beliefs k) k (x k) v o) a_is (is x hears))))
      | inr ne ↦
          let v_is : of_node (set votes k v) j ≡ of_node votes j = get_or-set_other votes k j v [] ne in
          let o_is : get_or (set off k o) j [] ≡ get_or off j [] = get_or-set_other off k j o [] ne in
          subst (λ (w : List (Option ℤ)). IsVoteOf d b (done_at groups beliefs j) j (x j) w (get_or (set off k o) j [])) (sym v_is)
          (subst (λ (w : List ℕ). IsVoteOf d b (done_at groups beliefs j) j (x j) (of_node votes j) w) (sym o_is) (was.so_far x hears j b (omega arith) used at))
    ];
  }

  -- a node that hears as an earlier one of its group does takes over what stands there
  pub taken_over : (k r : ℕ) (votes : List (List (Option ℤ))) (off : List (List ℕ)) (a : AgreedView) → AreShared n groups states → k < n → k < d.config.nodes
      → first_of groups r ≡ first_of groups k → r < k → state_at states k ≡ Some a → HearAlike d r k → AreVotes d groups states beliefs k votes off
      → (x : ℕ → Received) → HearEach d x → IsVoteOf d a (done_at groups beliefs k) k (x k) (of_node votes r) (get_or off r [])
  taken_over k r votes off a shared low used same less here alike was x hears =
      let used_r : r < d.config.nodes = omega arith in
      let low_r : r < n = omega arith in
      let state_r : state_at states r ≡ Some a = sym (shared r low_r) ∙ ap (state_at states) same ∙ shared k low ∙ here in
      let done_r : done_at groups beliefs r ≡ done_at groups beliefs k = ap (λ (m : ℕ). (get_or beliefs m no_belief).done) same in
      served d a (done_at groups beliefs k) r k (x r) (x k) (of_node votes r) (get_or off r []) alike (hears r used_r) (hears k used)
      (subst (λ (w : List _). IsVoteOf d a w r (x r) (of_node votes r) (get_or off r [])) done_r (was.so_far x hears r a less used_r state_r))

-- ---- whose votes serve others

-- by the first of each group a node of it, where it is a node
pub record AreLeaders (n : ℕ) (groups : List ℕ) (leaders : List ℕ) : Type 0 where
  pub wide : length leaders ≡ n
  pub within : (f : ℕ) → f < n → get_or leaders f 0 < n → first_of groups (get_or leaders f 0) ≡ f

module _ (n : ℕ) (groups : List ℕ) where
  -- at first there are none
  pub leaders_none : AreLeaders n groups (replicate n n)
  leaders_none = record {
    wide = length-replicate n n;
    within = λ f low node. let is : get_or (replicate n n) f 0 ≡ n = get_or-replicate n f n 0 low in absurd (omega (arith, is, node));
  }

  -- node k takes its place, or the one that stands there keeps it
  pub leaders_put : (k f v : ℕ) (leaders : List ℕ) → f < n → f ≡ first_of groups k → (v ≡ k) ⊎ (v ≡ get_or leaders f 0) → AreLeaders n groups leaders → AreLeaders n groups (set leaders f v)
  leaders_put k f v leaders low is either was = elim either [
    | inr same ↦ let none : set leaders f v ≡ leaders = ap (set leaders f) same ∙ set-get_or leaders f 0 in subst (AreLeaders n groups) (sym none) was
    | inl e ↦
        let room : f < length leaders = (let w = was.wide in omega arith) in
        let here : get_or (set leaders f v) f 0 ≡ k = get_or-set_same leaders f v 0 room ∙ e in
        record {
          wide = length-set leaders f v ∙ was.wide;
          within = λ j l node. elim (cases_eq j f) [
            | inl j_is ↦ ap (λ (m : ℕ). first_of groups (get_or (set leaders f v) m 0)) j_is ∙ ap (first_of groups) here ∙ sym is ∙ sym j_is
            | inr ne ↦
                let at : get_or (set leaders f v) j 0 ≡ get_or leaders j 0 = get_or-set_other leaders f j v 0 ne in
                ap (first_of groups) at ∙ was.within j l (omega (arith, at, node))
          ];
        }
  ]

-- ---- notes

-- those of the nodes below k have what they find of the values noted besides
pub record AreNotedBelow {n : ℕ} (d : DataView n) (awake : List ℕ) (off : List (List ℕ)) (old : List Notes) (k : ℕ) (xs : List Notes) : Type 0 where
  pub wide : length xs ≡ n
  pub so_far : (j : ℕ) → j < k → has_id awake j ≡ true → IsNotedOf d j (get_or off j []) (notes_at old j) (notes_at xs j)
  pub rest : (j : ℕ) → k ≤ j → notes_at xs j ≡ notes_at old j
  pub kept : (j : ℕ) → notes_at xs j ≡ record (notes_at old j) { row = (notes_at xs j).row }

module _ {n : ℕ} (d : DataView n) (awake : List ℕ) (off : List (List ℕ)) (old : List Notes) where
  pub noted_none : length old ≡ n → AreNotedBelow d awake off old 0 old
  noted_none wide = record { wide = wide; so_far = λ j low. absurd (omega arith); rest = λ j high. refl; kept = λ j. refl }

  pub noted_skip : (k : ℕ) (xs : List Notes) → has_id awake k ≡ false → AreNotedBelow d awake off old k xs → AreNotedBelow d awake off old (k + 1) xs
  noted_skip k xs asleep was = record {
    wide = was.wide;
    so_far = λ j less on. elim (cases_eq j k) [
      | inl e ↦ let clash : false ≡ true = sym asleep ∙ ap (has_id awake) (sym e) ∙ on in absurd (cc)
      | inr ne ↦ was.so_far j (omega arith) on
    ];
    rest = λ j high. was.rest j (omega arith);
    kept = was.kept;
  }

  pub noted_put : (k : ℕ) (xs : List Notes) (y : Notes) → k < n → AreNotedBelow d awake off old k xs → IsNotedOf d k (get_or off k []) (notes_at old k) y → y ≡ record (notes_at old k) { row = y.row }
      → AreNotedBelow d awake off old (k + 1) (set xs k y)
  noted_put k xs y low was is keeps = record {
    wide = length-set xs k y ∙ was.wide;
    so_far = λ j less on. elim (cases_eq j k) [
      | inl e ↦ subst (λ (m : ℕ). IsNotedOf d m (get_or off m []) (notes_at old m) (notes_at (set xs k y) m)) (sym e) (subst (IsNotedOf d k (get_or off k []) (notes_at old k)) (sym here) is)
      | inr ne ↦ subst (IsNotedOf d j (get_or off j []) (notes_at old j)) (sym (there j ne)) (was.so_far j (omega arith) on)
    ];
    rest = λ j high. let ne : j ≢ k = omega arith in there j ne ∙ was.rest j (omega arith);
    kept = λ j. elim (cases_eq j k) [
      | inl e ↦ subst (λ (m : ℕ). notes_at (set xs k y) m ≡ record (notes_at old m) { row = (notes_at (set xs k y) m).row }) (sym e)
          (subst (λ (z : Notes). z ≡ record (notes_at old k) { row = z.row }) (sym here) keeps)
      | inr ne ↦ subst (λ (z : Notes). z ≡ record (notes_at old j) { row = z.row }) (sym (there j ne)) (was.kept j)
    ];
  } where
    here : notes_at (set xs k y) k ≡ y
    here = get_or-set_same xs k y _ (let w = was.wide in omega arith)

    there : (j : ℕ) → j ≢ k → notes_at (set xs k y) j ≡ notes_at xs j
    there j ne = get_or-set_other xs k j y _ ne
