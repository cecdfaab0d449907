-- The run of a cluster, where types have places for further nodes.
use Rattle.std.proofs.Common.{ℕ, zero, suc, ◌≡◌, ◌≤◌, ◌+◌, ◌-◌, Bool, true, false, ◌==◌, List, [], map, length, Option, None, Some, refl, sym, ap, ◌∙◌}
use Rattle.std.proofs.Math.Path.{fun_ext}
use Rattle.std.specs.Prelude.{if◌then◌else◌, ℤ, nat_le, is_some}
use Rattle.std.specs.Option.{option_map}
use Rattle.frames.specs.Content.{Content, State, Data, Cold}
use Rattle.fault_classes.specs.Plan.{Plan, restarts_at}
use Rattle.agreed_state.specs.declared.config.Config.{Config}
use Rattle.agreed_state.specs.declared.config.Inputs.{Inputs}
use Rattle.agreed_state.specs.Agreed.{AgreedView}
use Rattle.protocol.specs.Arrival.{Arrival, body_said, values_in, claim_form, row_form}
use Rattle.protocol.specs.Heard.{Rounds}
use Rattle.protocol.specs.Talk.{Talk, arrives, frame_by, item_said, relay_said, rounds_upto}
use Rattle.protocol.specs.View.{Kept, Received, own_in, View, opened}
use Rattle.protocol.specs.Run.{System, members_in, claim_sent, state_content, expectation, change_at, full_at, so_far, state_said, after_sync, members_of, done_talk, after_done, due_of, values_said, after_values, row_talk, delivered, said_in, sent_in, all_kept, goes_in, run, sent}
use Rattle.protocol.specs.Cluster.{begins, view}
use Rattle.protocol.specs.RunLaws.{begins_is, view_is}
use Rattle.two_capacities.specs.Wider.{wide, wide_config, wide_agreed, setting_of, wide_kept, wide_view, system_over}
use Rattle.two_capacities.proofs.Settling.{each_round}
use Rattle.two_capacities.proofs.Frames.{wide_content, spelled_wide, arrives_wide}
use Rattle.two_capacities.proofs.Bodies.{IsBelowIf, body_wide}
use Rattle.two_capacities.proofs.Views.{wide_received, first_kept_wide, first_below, opened_wide, own_claim_wide, view_wide, view_keeps}
use Rattle.two_capacities.proofs.Talks.{same_item, arrival_still, round_still, state_part, values_part, claims_told, rows_told, talk_of, item_wide, relay_wide, rounds_wide}

same_received : {s s' : ℕ → Arrival (List ℕ)} {d d' : Rounds ℕ} {v v' : ℕ → Arrival (List ℤ)} {r r' : Rounds (List ℕ)} → s ≡ s' → d ≡ d' → v ≡ v' → r ≡ r'
    → (let x : Received = record { sync = s; done = d; values = v; report = r } in x) ≡ record { sync = s'; done = d'; values = v'; report = r' }
same_received {s} {s'} {d} {d'} {v} {v'} {r} {r'} es ed ev er =
    ap (λ y. let x : Received = record { sync = y; done = d; values = v; report = r } in x) es
    ∙ ap (λ y. let x : Received = record { sync = s'; done = y; values = v; report = r } in x) ed
    ∙ ap (λ y. let x : Received = record { sync = s'; done = d'; values = y; report = r } in x) ev
    ∙ ap (λ y. let x : Received = record { sync = s'; done = d'; values = v'; report = y } in x) er

same_talk : {V : Type 0} (t : Talk V) {m m' : ℕ → List ℕ} {f f' : ℕ → Bool} {i i' : ℕ → V} → m ≡ m' → f ≡ f' → i ≡ i'
    → (let x : Talk V = record t { members = m; full = f; item = i } in x) ≡ record t { members = m'; full = f'; item = i' }
same_talk {V} t {m} {m'} {f} {f'} {i} {i'} em ef ei =
    ap (λ y. let x : Talk V = record t { members = y; full = f; item = i } in x) em
    ∙ ap (λ y. let x : Talk V = record t { members = m'; full = y; item = i } in x) ef
    ∙ ap (λ y. let x : Talk V = record t { members = m'; full = f'; item = y } in x) ei

module _ (n k : ℕ) where
  some_wide : (o : Option AgreedView) → is_some (option_map (wide_agreed n k) o) ≡ is_some o
  some_wide None = refl
  some_wide (Some a) = refl

  pub members_wide : (o : Option AgreedView) → members_in (option_map (wide_agreed n k) o) ≡ members_in o
  members_wide None = refl
  members_wide (Some a) = refl

  content_if : (b : Bool) (x x' : Content) → x' ≡ wide_content n k x → (y y' : Content) → y' ≡ wide_content n k y → (if b then x' else y') ≡ wide_content n k (if b then x else y)
  content_if true x x' e y y' e' = e
  content_if false x x' e y y' e' = e'

module _ {c : ℕ} (k : ℕ) (g : Config c) (few : g.nodes ≤ c) (few_graph : g.graph.nodes ≤ c) (plan : Plan) (inputs : ℕ → ℕ → Inputs) where
  abbrev pub small : System
  small = system_over g plan inputs

  abbrev pub large : System
  large = system_over (wide_config k g) plan inputs

  claim_sent_wide : (i : ℕ) (inp : Inputs) (o : Option AgreedView) → claim_sent i inp (option_map (wide_agreed g.nodes k) o) ≡ claim_sent i inp o
  claim_sent_wide i inp None = refl
  claim_sent_wide i inp (Some a) = own_claim_wide c k g few few_graph i inp a

  content_wide : (o : Option AgreedView) → state_content (setting_of (wide_config k g)) (option_map (wide_agreed g.nodes k) o) ≡ wide_content g.nodes k (state_content (setting_of g) o)
  content_wide None = refl
  content_wide (Some a) = ap State (body_wide c k g a)

  -- ---- one period, from what each node goes into it with

  module _ (p : ℕ) (y : ℕ → Kept) (below : (i : ℕ) → IsBelowIf c (y i).state) where
    abbrev wider_kept : ℕ → Kept
    wider_kept i = wide_kept g.nodes k (y i)

    pub so_far_wide : (i : ℕ) (x : Received) → so_far large p wider_kept i (wide_received g.nodes k x) ≡ wide_view g.nodes k (so_far small p y i x)
    so_far_wide i x = view_wide c k g few few_graph i p (inputs i p) (y i) x (y i).state (below i)

    full_wide : full_at large p wider_kept ≡ full_at small p y
    full_wide = fun_ext (λ j. some_wide g.nodes k (y j).state)

    said_wide : (j : ℕ) → state_said large p wider_kept j ≡ wide_content g.nodes k (state_said small p y j)
    said_wide j = content_wide (y j).state

    -- slot 0

    sync_wide : (i j : ℕ) → (after_sync large p wider_kept i).sync j ≡ (after_sync small p y i).sync j
    sync_wide i j =
        ap (arrives body_said (change_at small p 0 j i) (expectation large p 0 j [] 0) (expectation large p 0 j [] 0)) (said_wide j)
        ∙ arrives_wide k (expectation small p 0 j [] 0) few same_item body_said body_said (state_part g.nodes k) (change_at small p 0 j i) (expectation small p 0 j [] 0) (state_said small p y j) refl
        ∙ arrival_still ((after_sync small p y i).sync j)

    after_sync_wide : (i : ℕ) → after_sync large p wider_kept i ≡ wide_received g.nodes k (after_sync small p y i)
    after_sync_wide i = same_received (fun_ext (sync_wide i)) refl refl refl

    synced_wide : (i : ℕ) → so_far large p wider_kept i (after_sync large p wider_kept i) ≡ wide_view g.nodes k (so_far small p y i (after_sync small p y i))
    synced_wide i = ap (so_far large p wider_kept i) (after_sync_wide i) ∙ so_far_wide i (after_sync small p y i)

    members_of_wide : members_of large p wider_kept ≡ members_of small p y
    members_of_wide = fun_ext (λ i. ap (λ (v : View). members_in v.before) (synced_wide i) ∙ members_wide g.nodes k (so_far small p y i (after_sync small p y i)).before)

    -- the slots of the claims

    item_of_wide : (done_talk large p wider_kept).item ≡ (done_talk small p y).item
    item_of_wide = fun_ext (λ j. ap (λ (v : View). claim_sent j (inputs j p) v.before) (synced_wide j) ∙ claim_sent_wide j (inputs j p) (so_far small p y j (after_sync small p y j)).before)

    abbrev claim_talk : Talk ℕ
    claim_talk = talk_of large p claim_form 1 (members_of small p y) (full_at small p y) (λ j. claim_sent j (inputs j p) (so_far small p y j (after_sync small p y j)).before)

    done_talk_wide : done_talk large p wider_kept ≡ claim_talk
    done_talk_wide = same_talk claim_talk members_of_wide full_wide item_of_wide

    done_rounds_wide : (r i : ℕ) → rounds_upto (done_talk large p wider_kept) r i ≡ rounds_upto (done_talk small p y) r i
    done_rounds_wide r i =
        ap (λ (t : Talk ℕ). rounds_upto t r i) done_talk_wide
        ∙ rounds_wide k g few plan inputs p same_item claim_form claim_form (claims_told g.nodes k) 1 (members_of small p y) (full_at small p y) (done_talk small p y).item r i
        ∙ round_still (rounds_upto (done_talk small p y) r i)

    after_done_wide : (i : ℕ) → after_done large p wider_kept i ≡ wide_received g.nodes k (after_done small p y i)
    after_done_wide i = same_received (fun_ext (sync_wide i)) (done_rounds_wide g.m i) refl refl

    done_wide : (i : ℕ) → so_far large p wider_kept i (after_done large p wider_kept i) ≡ wide_view g.nodes k (so_far small p y i (after_done small p y i))
    done_wide i = ap (so_far large p wider_kept i) (after_done_wide i) ∙ so_far_wide i (after_done small p y i)

    -- the slot of the values

    due_of_wide : due_of large p wider_kept ≡ due_of small p y
    due_of_wide = fun_ext (λ i. ap (λ (v : View). v.due) (done_wide i))

    values_wide : (j : ℕ) → values_said large p wider_kept j ≡ wide_content g.nodes k (values_said small p y j)
    values_wide j =
        ap (λ (f : ℕ → Bool). if f j then Data (map (own_in (so_far large p wider_kept j (after_done large p wider_kept j)).own) (due_of large p wider_kept j)) else Cold) full_wide
        ∙ content_if g.nodes k (full_at small p y j) (Data (map (own_in (so_far small p y j (after_done small p y j)).own) (due_of small p y j))) (Data (map (own_in (so_far large p wider_kept j (after_done large p wider_kept j)).own) (due_of large p wider_kept j)))
        (ap (λ (v : View). Data (map (own_in v.own) v.due)) (done_wide j)) Cold Cold refl

    value_wide : (i j : ℕ) → (after_values large p wider_kept i).values j ≡ (after_values small p y i).values j
    value_wide i j =
        let slot : ℕ = g.m + 2 in
        ap (λ (m : ℕ → List ℕ). arrives values_in (change_at small p slot j i) (expectation large p slot j (m j) (length (due_of large p wider_kept j))) (expectation large p slot j (m i) (length (due_of large p wider_kept i))) (values_said large p wider_kept j)) members_of_wide
        ∙ ap (λ (d : ℕ → List ℕ). arrives values_in (change_at small p slot j i) (expectation large p slot j (members_of small p y j) (length (d j))) (expectation large p slot j (members_of small p y i) (length (d i))) (values_said large p wider_kept j)) due_of_wide
        ∙ ap (arrives values_in (change_at small p slot j i) (expectation large p slot j (members_of small p y j) (length (due_of small p y j))) (expectation large p slot j (members_of small p y i) (length (due_of small p y i)))) (values_wide j)
        ∙ arrives_wide k (expectation small p slot j (members_of small p y i) (length (due_of small p y i))) few same_item values_in values_in (values_part g.nodes k) (change_at small p slot j i)
        (expectation small p slot j (members_of small p y j) (length (due_of small p y j))) (values_said small p y j) refl
        ∙ arrival_still ((after_values small p y i).values j)

    after_values_wide : (i : ℕ) → after_values large p wider_kept i ≡ wide_received g.nodes k (after_values small p y i)
    after_values_wide i = same_received (fun_ext (sync_wide i)) (done_rounds_wide g.m i) (fun_ext (value_wide i)) refl

    -- the slots of the rows

    found_wide : (row_talk large p wider_kept).item ≡ (λ j. wide g.nodes k (so_far small p y j (after_values small p y j)).found)
    found_wide = fun_ext (λ j. ap (λ (x : Received). (so_far large p wider_kept j x).found) (after_values_wide j) ∙ ap (λ (v : View). v.found) (so_far_wide j (after_values small p y j)))

    abbrev rows_talk : Talk (List ℕ)
    rows_talk = talk_of large p row_form (g.m + 3) (members_of small p y) (full_at small p y) (λ j. wide g.nodes k (so_far small p y j (after_values small p y j)).found)

    row_talk_wide : row_talk large p wider_kept ≡ rows_talk
    row_talk_wide = same_talk rows_talk members_of_wide full_wide found_wide

    row_rounds_wide : (r i : ℕ) → rounds_upto (row_talk large p wider_kept) r i ≡ each_round (wide g.nodes k) (rounds_upto (row_talk small p y) r i)
    row_rounds_wide r i =
        ap (λ (t : Talk (List ℕ)). rounds_upto t r i) row_talk_wide
        ∙ rounds_wide k g few plan inputs p (wide g.nodes k) row_form row_form (rows_told g.nodes k) (g.m + 3) (members_of small p y) (full_at small p y) (row_talk small p y).item r i

    pub delivered_wide : (i : ℕ) → delivered large p wider_kept i ≡ wide_received g.nodes k (delivered small p y i)
    delivered_wide i = same_received (fun_ext (sync_wide i)) (done_rounds_wide g.m i) (fun_ext (value_wide i)) (row_rounds_wide g.m i)

    -- ---- the frames

    claim_said_wide : (j : ℕ) → item_said (done_talk large p wider_kept) j ≡ wide_content g.nodes k (item_said (done_talk small p y) j)
    claim_said_wide j =
        ap (λ (t : Talk ℕ). item_said t j) done_talk_wide
        ∙ item_wide k g few plan inputs p same_item claim_form claim_form (claims_told g.nodes k) 1 (members_of small p y) (full_at small p y) (done_talk small p y).item j

    claims_said_wide : (r q j : ℕ) → relay_said (done_talk large p wider_kept) r (rounds_upto (done_talk large p wider_kept) q j) j ≡ wide_content g.nodes k (relay_said (done_talk small p y) r (rounds_upto (done_talk small p y) q j) j)
    claims_said_wide r q j =
        ap (λ (t : Talk ℕ). relay_said t r (rounds_upto (done_talk large p wider_kept) q j) j) done_talk_wide
        ∙ ap (λ x. relay_said claim_talk r x j) (done_rounds_wide q j ∙ sym (round_still (rounds_upto (done_talk small p y) q j)))
        ∙ relay_wide k g few plan inputs p same_item claim_form claim_form (claims_told g.nodes k) 1 (members_of small p y) (full_at small p y) (done_talk small p y).item r (rounds_upto (done_talk small p y) q j) j

    row_said_wide : (j : ℕ) → item_said (row_talk large p wider_kept) j ≡ wide_content g.nodes k (item_said (row_talk small p y) j)
    row_said_wide j =
        ap (λ (t : Talk (List ℕ)). item_said t j) row_talk_wide
        ∙ item_wide k g few plan inputs p (wide g.nodes k) row_form row_form (rows_told g.nodes k) (g.m + 3) (members_of small p y) (full_at small p y) (row_talk small p y).item j

    rows_said_wide : (r q j : ℕ) → relay_said (row_talk large p wider_kept) r (rounds_upto (row_talk large p wider_kept) q j) j ≡ wide_content g.nodes k (relay_said (row_talk small p y) r (rounds_upto (row_talk small p y) q j) j)
    rows_said_wide r q j =
        ap (λ (t : Talk (List ℕ)). relay_said t r (rounds_upto (row_talk large p wider_kept) q j) j) row_talk_wide
        ∙ ap (λ x. relay_said rows_talk r x j) (row_rounds_wide q j)
        ∙ relay_wide k g few plan inputs p (wide g.nodes k) row_form row_form (rows_told g.nodes k) (g.m + 3) (members_of small p y) (full_at small p y) (row_talk small p y).item r (rounds_upto (row_talk small p y) q j) j

    said_in_wide : (slot j : ℕ) → said_in large p wider_kept slot j ≡ wide_content g.nodes k (said_in small p y slot j)
    said_in_wide slot j =
        content_if g.nodes k (slot == 0) _ _ (said_wide j) _ _
        (content_if g.nodes k (slot == 1) _ _ (claim_said_wide j) _ _
        (content_if g.nodes k (nat_le slot (g.m + 1)) _ _ (claims_said_wide (slot - 1) (slot - 2) j) _ _
        (content_if g.nodes k (slot == g.m + 2) _ _ (values_wide j) _ _
        (content_if g.nodes k (slot == g.m + 3) _ _ (row_said_wide j) _ _
        (rows_said_wide (slot - (g.m + 3)) (slot - (g.m + 4)) j)))))

    pub sent_in_wide : (slot j : ℕ) → sent_in large p wider_kept slot j ≡ sent_in small p y slot j
    sent_in_wide slot j =
        ap (frame_by (expectation large p slot j [] 0)) (said_in_wide slot j)
        ∙ spelled_wide g.nodes k _ (said_in small p y slot j)

  -- ---- all periods

  opened_below : (b : Bool) (y : Kept) → IsBelowIf c y.state → IsBelowIf c (opened (setting_of g) b y).state
  opened_below true y h = tt
  opened_below false y h = h

  kept_below : (p i : ℕ) → IsBelowIf c (all_kept small p i).state
  unfolding all_kept
  kept_below zero i = first_below c k g few few_graph
  kept_below (suc p) i = view_keeps c k g few few_graph i p (inputs i p) (goes_in small p i) (delivered small p (goes_in small p) i) (goes_in small p i).state

  pub goes_below : (p i : ℕ) → IsBelowIf c (goes_in small p i).state
  goes_below p i = opened_below (restarts_at plan i p) (all_kept small p i) (kept_below p i)

  kept_wide : (p : ℕ) → all_kept large p ≡ (λ i. wide_kept g.nodes k (all_kept small p i))
  unfolding all_kept
  kept_wide zero = fun_ext (λ i. first_kept_wide c k g few few_graph)
  kept_wide (suc p) = fun_ext (λ i.
      ap (λ (y : ℕ → Kept). (so_far large p (λ j. opened (setting_of (wide_config k g)) (restarts_at plan j p) (y j)) i (delivered large p (λ j. opened (setting_of (wide_config k g)) (restarts_at plan j p) (y j)) i)).kept) (kept_wide p)
      ∙ ap (λ (y : ℕ → Kept). (so_far large p y i (delivered large p y i)).kept) (fun_ext (λ j. opened_wide c k g few few_graph (restarts_at plan j p) (all_kept small p j)))
      ∙ ap (λ (x : Received). (so_far large p (λ j. wide_kept g.nodes k (goes_in small p j)) i x).kept) (delivered_wide p (goes_in small p) (goes_below p) i)
      ∙ ap (λ (v : View). v.kept) (so_far_wide p (goes_in small p) (goes_below p) i (delivered small p (goes_in small p) i)))

  pub goes_wide : (p : ℕ) → goes_in large p ≡ (λ i. wide_kept g.nodes k (goes_in small p i))
  goes_wide p = fun_ext (λ j.
      ap (λ (y : ℕ → Kept). opened (setting_of (wide_config k g)) (restarts_at plan j p) (y j)) (kept_wide p) ∙ opened_wide c k g few few_graph (restarts_at plan j p) (all_kept small p j))

  -- what a node believes
  pub believed_wide : (i p : ℕ) → view (run large) i p ≡ wide_view g.nodes k (view (run small) i p)
  believed_wide i p =
      view_is large i p
      ∙ ap (λ (y : ℕ → Kept). so_far large p y i (delivered large p y i)) (goes_wide p)
      ∙ ap (so_far large p (λ j. wide_kept g.nodes k (goes_in small p j)) i) (delivered_wide p (goes_in small p) (goes_below p) i)
      ∙ so_far_wide p (goes_in small p) (goes_below p) i (delivered small p (goes_in small p) i)
      ∙ ap (wide_view g.nodes k) (sym (view_is small i p))

  pub begun_wide : (i p : ℕ) → begins (run large) i p ≡ wide_kept g.nodes k (begins (run small) i p)
  begun_wide i p = begins_is large i p ∙ ap (λ (y : ℕ → Kept). y i) (goes_wide p) ∙ ap (wide_kept g.nodes k) (sym (begins_is small i p))

  -- and what it sends
  pub sent_wide : (p slot j : ℕ) → sent large p slot j ≡ sent small p slot j
  sent_wide p slot j = ap (λ (y : ℕ → Kept). sent_in large p y slot j) (goes_wide p) ∙ sent_in_wide p (goes_in small p) (goes_below p) slot j
