-- What the nodes of a run say is in the ranges of the grammar.
use Rattle.std.proofs.Common.{ℕ, ◌≡◌, ◌<◌, ◌≤◌, ◌+◌, ◌-◌, ◌^◌, Bool, true, List, [], map, length, Option, None, Some, ℤ, refl, sym, ap, subst, ◌∙◌, inl, inr, arith}
use Rattle.std.specs.Prelude.{if◌then◌else◌, All, is_some}
use Rattle.std.proofs.lemmas.Option.{same_Some}
use Rattle.std.proofs.lemmas.Bool.Decides.{nat_tests}
use Rattle.node_grid.specs.NodeSet.{has_id}
use Rattle.node_grid.specs.NodeSetLaws.{IsIdSet-filter, length-ids}
use Rattle.node_grid.specs.Count.{Distinct}
use Rattle.omh_paths.specs.declared.wrapped.Wrapped.{Wrapped}
use Rattle.omh_paths.specs.Paths.{path_count}
use Rattle.frames.specs.Content.{Content, Expectation, kind_in, round_in, entries_due, IsClaim, IsRow, IsValue, IsEntry}
use Rattle.frames.specs.Content.Content.{State, Done0, DoneRelay, Data, Report0, ReportRelay, Cold}
use Rattle.frames.specs.Spelling.{IsInRange}
use Rattle.frames.specs.Laws.{IsLaidOut}
use Rattle.frames.specs.ReadingLaws.{is_short, cold_in_range}
use Rattle.fault_classes.specs.Change.{Change}
use Rattle.frames.specs.Facts.{value_kind, rows_round_in, claims_round_in}
use Rattle.agreed_state.specs.declared.config.Inputs.{Inputs}
use Rattle.agreed_state.specs.ConfigLaws as config_laws
use Rattle.agreed_state.specs.ReadLaws.{state_len-short}
use Rattle.agreed_state.specs.Agreed.{AgreedView, IsAgreed}
use Rattle.agreed_state.specs.Body.{body, state_len}
use Rattle.protocol.specs.Arrival.{claim_in, claims_in, row_in, rows_in, claim_form, row_form}
use Rattle.protocol.specs.Heard.{paths_of}
use Rattle.protocol.specs.Talk.{Talk}
use Rattle.protocol.specs.TalkLaws.{entries_number}
use Rattle.protocol.specs.ViewLaws.{IsValid}
use Rattle.protocol.specs.RowLaws.{All-map_ids, row_by_is_row, empty_is_row}
use Rattle.protocol.specs.ClaimLaws.{own_claim_fits}
use Rattle.protocol.specs.ValueLaws.{own_values_fit}
use Rattle.protocol.specs.View.{Setting, Kept, Received, adopted_by, channel, due_channels, is_due, own_values, own_in, through, joined, view_from}
use Rattle.protocol.specs.Run.{System, members_in, claim_sent, expectation}
use Rattle.protocol.specs.Accepted.{IsAccepted}
use Rattle.omh_paths.specs.MemberLaws.{Distinct-ids}
use Rattle.safety.proofs.Talks.{FormFits}
use Rattle.safety.proofs.StateLaws.{StateLaws}

-- ---- where slots lie

done_kind : (m r : ℕ) → 0 < r → r ≤ m → kind_in m (1 + r) ≡ 3
done_kind m r some low = grind (arith, nat_tests)

row_kind : (m : ℕ) → kind_in m (m + 3 + 0) ≡ 5
row_kind m = grind (arith, nat_tests)

rows_kind : (m r : ℕ) → 0 < r → r ≤ m → kind_in m (m + 3 + r) ≡ 6
rows_kind m r some low = grind (arith, nat_tests)

module _ (sys : System) (given : IsAccepted sys) (states : StateLaws sys.setting) where
  abbrev s : Setting
  s = sys.setting

  abbrev Valid : Option AgreedView → Type 0
  Valid o = IsValid sys.setting o

  -- ---- expectations

  nodes_few : sys.setting.config.nodes ≤ 16
  nodes_few = let f = given.config.few_nodes in elim given.capacity [ inl e ↦ omega arith | inr e ↦ omega arith ]

  pub members_distinct : (o : Option AgreedView) → Valid o → Distinct (members_in o)
  members_distinct None v = tt
  members_distinct (Some a) v = Distinct-ids sys.setting.config.nodes a.standing.members (v a refl).standing.set

  pub members_few : (o : Option AgreedView) → Valid o → length (members_in o) ≤ 16
  members_few None v = omega arith
  members_few (Some a) v = let l = length-ids sys.setting.config.nodes a.standing.members (v a refl).standing.set in let f = nodes_few in omega arith

  state_short : state_len sys.setting.config < 2 ^ 16
  state_short = let l = state_len-short sys.setting.capacity sys.setting.config small given.config in omega arith where
    small : sys.setting.capacity ≤ 16
    small = elim given.capacity [ inl e ↦ omega arith | inr e ↦ omega arith ]

  laid_out : (p slot j : ℕ) (o : Option AgreedView) (due : ℕ) → Valid o → due ≤ 8 → IsLaidOut (expectation sys p slot j (members_in o) due)
  laid_out p slot j o due v few = record { nodes = nodes_few; rounds = config_laws.few_rounds sys.setting.capacity sys.setting.config given.config; members = members_few o v; state_len = state_short; due = omega arith }

  -- ---- states in slot 0

  pub state_in_range : (p j : ℕ) (a : AgreedView) → IsAgreed sys.setting.capacity sys.setting.config a → IsInRange (expectation sys p 0 j [] 0) (State (body sys.setting.config a))
  state_in_range p j a valid = is_short (expectation sys p 0 j [] 0) (State (body sys.setting.config a)) (laid_out p 0 j None 0 (λ a e. let z : ⊥ = cc in absurd z) (omega arith)) refl (states.long a valid)

  -- ---- claims

  pub claim_in_range : (i : ℕ) (g : Inputs) (o : Option AgreedView) → Valid o → IsClaim (length sys.setting.config.graph.tasks) (claim_sent i g o)
  claim_in_range i g None v = inl refl
  claim_in_range i g (Some a) v = own_claim_fits sys.setting i g a (v a refl)

  claims_fit : (p r j : ℕ) (ms : List ℕ) (c : Content) (xs : List (Wrapped ℕ)) → r ≤ sys.setting.config.m → IsInRange (expectation sys p (1 + r) j ms 0) c → claims_in c ≡ Some xs
      → All (IsEntry (IsClaim (length sys.setting.config.graph.tasks)) r) xs
  claims_fit p r j ms (DoneRelay ys) xs low fit e =
      subst (All (IsEntry (IsClaim (length sys.setting.config.graph.tasks)) r)) (same_Some ys xs e)
      (subst (λ (k : ℕ). All (IsEntry (IsClaim (length sys.setting.config.graph.tasks)) k) ys) (claims_round_in sys.setting.config.m r low) fit.sized.1)
  claims_fit p r j ms (State b) xs low fit e = cc
  claims_fit p r j ms (Done0 b) xs low fit e = cc
  claims_fit p r j ms (Data b) xs low fit e = cc
  claims_fit p r j ms (Report0 b) xs low fit e = cc
  claims_fit p r j ms (ReportRelay b) xs low fit e = cc
  claims_fit p r j ms Cold xs low fit e = cc

  rows_fit_in : (p r j : ℕ) (ms : List ℕ) (c : Content) (xs : List (Wrapped (List ℕ))) → IsInRange (expectation sys p (sys.setting.config.m + 3 + r) j ms 0) c → rows_in c ≡ Some xs
      → All (IsEntry (IsRow sys.setting.config.version sys.setting.capacity sys.setting.config.nodes) r) xs
  rows_fit_in p r j ms (ReportRelay ys) xs fit e =
      subst (All (IsEntry (IsRow sys.setting.config.version sys.setting.capacity sys.setting.config.nodes) r)) (same_Some ys xs e)
      (subst (λ (k : ℕ). All (IsEntry (IsRow sys.setting.config.version sys.setting.capacity sys.setting.config.nodes) k) ys) (rows_round_in sys.setting.config.m r) fit.sized.1)
  rows_fit_in p r j ms (State b) xs fit e = cc
  rows_fit_in p r j ms (Done0 b) xs fit e = cc
  rows_fit_in p r j ms (DoneRelay b) xs fit e = cc
  rows_fit_in p r j ms (Data b) xs fit e = cc
  rows_fit_in p r j ms (Report0 b) xs fit e = cc
  rows_fit_in p r j ms Cold xs fit e = cc

  claim_fit : (e : Expectation) (c : Content) (v : ℕ) → IsInRange e c → claim_in c ≡ Some v → IsClaim e.tasks v
  claim_fit e (Done0 t) v fit h = subst (IsClaim e.tasks) (same_Some t v h) fit.sized
  claim_fit e (State b) v fit h = cc
  claim_fit e (DoneRelay b) v fit h = cc
  claim_fit e (Data b) v fit h = cc
  claim_fit e (Report0 b) v fit h = cc
  claim_fit e (ReportRelay b) v fit h = cc
  claim_fit e Cold v fit h = cc

  row_fit : (e : Expectation) (c : Content) (v : List ℕ) → IsInRange e c → row_in c ≡ Some v → IsRow e.version e.capacity e.nodes v
  row_fit e (Report0 t) v fit h = subst (IsRow e.version e.capacity e.nodes) (same_Some t v h) fit.sized
  row_fit e (State b) v fit h = cc
  row_fit e (Done0 b) v fit h = cc
  row_fit e (DoneRelay b) v fit h = cc
  row_fit e (Data b) v fit h = cc
  row_fit e (ReportRelay b) v fit h = cc
  row_fit e Cold v fit h = cc

  -- ---- a talk of claims, and one of rows, among nodes that go through the period with valid states

  module _ (p : ℕ) (state : ℕ → Option AgreedView) (valid : (i : ℕ) → Valid (state i)) (full : ℕ → Bool) where
    abbrev pub claims_talk : (ℕ → ℕ → ℕ → Option Change) → (ℕ → ℕ) → Talk ℕ
    claims_talk change item = record { form = claim_form; change = change; expect = λ r j ms. expectation sys p (1 + r) j ms 0; members = λ i. members_in (state i); full = full; item = item }

    abbrev pub rows_talk : (ℕ → ℕ → ℕ → Option Change) → (ℕ → List ℕ) → Talk (List ℕ)
    rows_talk change item = record { form = row_form; change = change; expect = λ r j ms. expectation sys p (sys.setting.config.m + 3 + r) j ms 0; members = λ i. members_in (state i); full = full; item = item }

    entries_long : {V : Type 0} (slot r j i : ℕ) (xs : List (Wrapped V)) → round_in sys.setting.config.m slot ≡ r → length xs ≡ length (paths_of (members_in (state i)) r j) → length xs ≡ entries_due (expectation sys p slot j (members_in (state i)) 0)
    entries_long slot r j i xs round long =
        long ∙ entries_number (members_in (state i)) r j (members_distinct (state i) (valid i))
        ∙ ap (λ (k : ℕ). if has_id (members_in (state i)) j then path_count (length (members_in (state i)) - 1) k else 0) (sym round)

    pub claims_form : (change : ℕ → ℕ → ℕ → Option Change) (item : ℕ → ℕ) → ((j : ℕ) → IsClaim (length sys.setting.config.graph.tasks) (item j))
        → FormFits (IsClaim (length sys.setting.config.graph.tasks)) (claims_talk change item) sys.setting.config.m
    claims_form change item fit = record {
      item_back = λ v. refl;
      relay_back = λ xs. refl;
      item_fits = λ j ms c v range e. claim_fit (expectation sys p (1 + 0) j ms 0) c v range e;
      relay_fits = λ r j ms c xs some low range e. claims_fit p r j ms c xs low range e;
      item_sent = λ j i. is_short (expectation sys p (1 + 0) j (members_in (state i)) 0) (Done0 (item j)) (laid_out p (1 + 0) j (state i) 0 (valid i) (omega arith)) refl (fit j);
      relay_sent = λ r j i xs some low long all. is_short (expectation sys p (1 + r) j (members_in (state i)) 0) (DoneRelay xs) (laid_out p (1 + r) j (state i) 0 (valid i) (omega arith))
          (sym (done_kind sys.setting.config.m r some low)) (
            entries_long (1 + r) r j i xs (claims_round_in sys.setting.config.m r low) long,
            subst (λ (k : ℕ). All (IsEntry (IsClaim (length sys.setting.config.graph.tasks)) k) xs) (sym (claims_round_in sys.setting.config.m r low)) all,
          );
      cold_sent = λ r j i. cold_in_range (expectation sys p (1 + r) j (members_in (state i)) 0);
      heads = λ r j ms ns. refl;
    }

    pub rows_form : (change : ℕ → ℕ → ℕ → Option Change) (item : ℕ → List ℕ) → ((j : ℕ) → IsRow sys.setting.config.version sys.setting.capacity sys.setting.config.nodes (item j))
        → FormFits (IsRow sys.setting.config.version sys.setting.capacity sys.setting.config.nodes) (rows_talk change item) sys.setting.config.m
    rows_form change item fit = record {
      item_back = λ v. refl;
      relay_back = λ xs. refl;
      item_fits = λ j ms c v range e. row_fit (expectation sys p (sys.setting.config.m + 3 + 0) j ms 0) c v range e;
      relay_fits = λ r j ms c xs some low range e. rows_fit_in p r j ms c xs range e;
      item_sent = λ j i. is_short (expectation sys p (sys.setting.config.m + 3 + 0) j (members_in (state i)) 0) (Report0 (item j)) (laid_out p (sys.setting.config.m + 3 + 0) j (state i) 0 (valid i) (omega arith))
          (sym (row_kind sys.setting.config.m)) (fit j);
      relay_sent = λ r j i xs some low long all. is_short (expectation sys p (sys.setting.config.m + 3 + r) j (members_in (state i)) 0) (ReportRelay xs) (laid_out p (sys.setting.config.m + 3 + r) j (state i) 0 (valid i) (omega arith))
          (sym (rows_kind sys.setting.config.m r some low)) (
            entries_long (sys.setting.config.m + 3 + r) r j i xs (rows_round_in sys.setting.config.m r) long,
            subst (λ (k : ℕ). All (IsEntry (IsRow sys.setting.config.version sys.setting.capacity sys.setting.config.nodes) k) xs) (sym (rows_round_in sys.setting.config.m r)) all,
          );
      cold_sent = λ r j i. cold_in_range (expectation sys p (sys.setting.config.m + 3 + r) j (members_in (state i)) 0);
      heads = λ r j ms ns. refl;
    }

  -- ---- values

  pub row_in_range : (i p : ℕ) (g : Inputs) (k : Kept) (x : Received) (o : Option AgreedView) → IsRow sys.setting.config.version sys.setting.capacity sys.setting.config.nodes (view_from sys.setting i p g k x o).found
  unfolding through
  row_in_range i p g k x (Some a) = row_by_is_row sys.setting i _ given.config.few_nodes
  row_in_range i p g k x None = go (adopted_by sys.setting i x.sync) where
    go : (o : Option AgreedView) → IsRow sys.setting.config.version sys.setting.capacity sys.setting.config.nodes (joined sys.setting i p g k x o).found
    go None = empty_is_row sys.setting given.config.few_nodes
    go (Some a) = empty_is_row sys.setting given.config.few_nodes

  due_short : (a : AgreedView) (done : List (Wrapped ℕ)) → length (due_channels sys.setting a done) ≤ 8
  due_short a done =
      let ids = IsIdSet-filter (λ c. is_due sys.setting a done (channel sys.setting c)) (length sys.setting.config.channels.items) in
      let l = length-ids (length sys.setting.config.channels.items) (due_channels sys.setting a done) ids in let f = given.config.few_channels in omega arith

  pub due_few : (i p : ℕ) (g : Inputs) (k : Kept) (x : Received) (o : Option AgreedView) → length (view_from sys.setting i p g k x o).due ≤ 8
  unfolding through
  due_few i p g k x (Some a) = due_short a _
  due_few i p g k x None = go (adopted_by sys.setting i x.sync) where
    go : (o : Option AgreedView) → length (joined sys.setting i p g k x o).due ≤ 8
    go None = omega arith
    go (Some a) = due_short a _

  -- what a full node sends of its due channels
  pub numbers_fit : (i p : ℕ) (k : Kept) (x : Received) (o : Option AgreedView) → is_some o ≡ true → i < sys.setting.config.nodes
      → All IsValue (map (own_in (view_from sys.setting i p (sys.inputs i p) k x o).own) (view_from sys.setting i p (sys.inputs i p) k x o).due)
  unfolding through
  numbers_fit i p k x None full low = cc
  numbers_fit i p k x (Some a) full low =
      All-map_ids IsValue (own_in (own_values sys.setting i p (sys.inputs i p) k)) _ (λ c on. own_values_fit sys.setting i p (sys.inputs i p) k given.config (given.inputs i p low).readings c)

  pub values_in_range : (p j : ℕ) (o : Option AgreedView) (due : ℕ) (xs : List ℤ) → Valid o → due ≤ 8 → length xs ≡ due → All IsValue xs → IsInRange (expectation sys p (sys.setting.config.m + 2) j (members_in o) due) (Data xs)
  values_in_range p j o due xs valid few long all =
      is_short (expectation sys p (sys.setting.config.m + 2) j (members_in o) due) (Data xs) (laid_out p (sys.setting.config.m + 2) j o due valid few) (sym (value_kind sys.setting.config.m)) (long, all)
