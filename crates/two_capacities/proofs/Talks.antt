-- The slots of one item of each node, where types have places for further nodes.
use Rattle.std.proofs.Common.{ℕ, zero, suc, ◌≡◌, ◌≤◌, ◌+◌, Bool, true, false, ◌==◌, List, [], ◌∷◌, map, Option, None, Some, refl, sym, ap, ◌∙◌}
use Rattle.std.proofs.Math.Path.{fun_ext}
use Rattle.std.specs.Prelude.{if◌then◌else◌}
use Rattle.std.specs.Option.{option_map}
use Rattle.omh_paths.specs.declared.wrapped.Wrapped.{Wrapped}
use Rattle.omh_paths.specs.declared.wrapped.Wrapped.TheVariants.{Plain, Fault}
use Rattle.omh_paths.specs.Wrapped.{wrapped}
use Rattle.frames.specs.Content.{Content, State, Done0, DoneRelay, Data, Report0, ReportRelay, Cold}
use Rattle.fault_classes.specs.Plan.{Plan}
use Rattle.agreed_state.specs.declared.config.Config.{Config}
use Rattle.agreed_state.specs.declared.config.Inputs.{Inputs}
use Rattle.protocol.specs.Arrival.{Arrival, ItemForm, claim_form, row_form, body_said, claim_in, claims_in, values_in, row_in, rows_in}
use Rattle.protocol.specs.Arrival.Arrival.{Bad, Good}
use Rattle.protocol.specs.Heard.{Rounds, paths_of, with_entries, heard}
use Rattle.protocol.specs.Talk.{arrives, Talk, item_said, told_first, relay_said, told_relay, rounds_upto}
use Rattle.protocol.specs.Run.{System, expectation, change_at}
use Rattle.two_capacities.specs.Wider.{wide, wide_config, system_over}
use Rattle.two_capacities.proofs.Lists.{map_twice}
use Rattle.two_capacities.proofs.Settling.{each_wrapped, each_arrival, each_entry, each_round, wrapped_each, heard_each, entries_each}
use Rattle.two_capacities.proofs.Frames.{wide_content, wider, arrives_wide}

-- ---- items that don't change

abbrev pub same_item : {V : Type 0} → V → V
same_item v = v

module _ {V : Type 0} where
  wrapped_still : (w : Wrapped V) → each_wrapped same_item w ≡ w
  wrapped_still (Plain v) = refl
  wrapped_still (Fault k) = refl

  wrappeds_still : (ws : List (Wrapped V)) → map (each_wrapped same_item) ws ≡ ws
  wrappeds_still [] = refl
  wrappeds_still (w ∷ ws) = ap (λ x. x ∷ map (each_wrapped same_item) ws) (wrapped_still w) ∙ ap (λ xs. w ∷ xs) (wrappeds_still ws)

  pub arrival_still : (a : Arrival V) → each_arrival same_item a ≡ a
  arrival_still (Bad k) = refl
  arrival_still (Good v) = refl

  pub option_still : (o : Option V) → option_map same_item o ≡ o
  option_still None = refl
  option_still (Some v) = refl

  entry_still : (a : Arrival (List ℕ → Wrapped V)) → each_arrival (each_entry same_item) a ≡ a
  entry_still (Bad k) = refl
  entry_still (Good f) = ap Good (fun_ext (λ path. wrapped_still (f path)))

  pub same_rounds : {f f' : ℕ → Arrival V} {r r' : ℕ → ℕ → Arrival (List ℕ → Wrapped V)} → f ≡ f' → r ≡ r' → (let x : Rounds V = record { first = f; relay = r } in x) ≡ record { first = f'; relay = r' }
  same_rounds {f} {f'} {r} {r'} ef er = ap (λ y. let x : Rounds V = record { first = y; relay = r } in x) ef ∙ ap (λ y. let x : Rounds V = record { first = f'; relay = y } in x) er

  pub round_still : (x : Rounds V) → each_round same_item x ≡ x
  round_still x = same_rounds (fun_ext (λ j. arrival_still (x.first j))) (fun_ext (λ r. fun_ext (λ j. entry_still (x.relay r j))))

-- ---- the parts of contents

module _ (n k : ℕ) where
  pub state_part : (c : Content) → body_said (wide_content n k c) ≡ option_map same_item (body_said c)
  state_part (State bytes) = refl
  state_part (Done0 task) = refl
  state_part (DoneRelay entries) = refl
  state_part (Data numbers) = refl
  state_part (Report0 masks) = refl
  state_part (ReportRelay entries) = refl
  state_part Cold = refl

  pub values_part : (c : Content) → values_in (wide_content n k c) ≡ option_map same_item (values_in c)
  values_part (State bytes) = refl
  values_part (Done0 task) = refl
  values_part (DoneRelay entries) = refl
  values_part (Data numbers) = refl
  values_part (Report0 masks) = refl
  values_part (ReportRelay entries) = refl
  values_part Cold = refl

  claim_part : (c : Content) → claim_in (wide_content n k c) ≡ option_map same_item (claim_in c)
  claim_part (State bytes) = refl
  claim_part (Done0 task) = refl
  claim_part (DoneRelay entries) = refl
  claim_part (Data numbers) = refl
  claim_part (Report0 masks) = refl
  claim_part (ReportRelay entries) = refl
  claim_part Cold = refl

  claims_part : (c : Content) → claims_in (wide_content n k c) ≡ option_map (map (each_wrapped same_item)) (claims_in c)
  claims_part (State bytes) = refl
  claims_part (Done0 task) = refl
  claims_part (DoneRelay entries) = ap Some (sym (wrappeds_still entries))
  claims_part (Data numbers) = refl
  claims_part (Report0 masks) = refl
  claims_part (ReportRelay entries) = refl
  claims_part Cold = refl

  row_part : (c : Content) → row_in (wide_content n k c) ≡ option_map (wide n k) (row_in c)
  row_part (State bytes) = refl
  row_part (Done0 task) = refl
  row_part (DoneRelay entries) = refl
  row_part (Data numbers) = refl
  row_part (Report0 masks) = refl
  row_part (ReportRelay entries) = refl
  row_part Cold = refl

  rows_part : (c : Content) → rows_in (wide_content n k c) ≡ option_map (map (each_wrapped (wide n k))) (rows_in c)
  rows_part (State bytes) = refl
  rows_part (Done0 task) = refl
  rows_part (DoneRelay entries) = refl
  rows_part (Data numbers) = refl
  rows_part (Report0 masks) = refl
  rows_part (ReportRelay entries) = refl
  rows_part Cold = refl

-- how a changed item is told in frames with further places
pub record Tells {V W : Type 0} (n k : ℕ) (f : V → W) (form : ItemForm V) (form' : ItemForm W) : Type 0 where
  pub item : (v : V) → form'.item (f v) ≡ wide_content n k (form.item v)
  pub item_in : (c : Content) → form'.item_in (wide_content n k c) ≡ option_map f (form.item_in c)
  pub relay : (ws : List (Wrapped V)) → form'.relay (map (each_wrapped f) ws) ≡ wide_content n k (form.relay ws)
  pub relay_in : (c : Content) → form'.relay_in (wide_content n k c) ≡ option_map (map (each_wrapped f)) (form.relay_in c)

pub claims_told : (n k : ℕ) → Tells n k same_item claim_form claim_form
claims_told n k = record { item = λ v. refl; item_in = claim_part n k; relay = λ ws. ap DoneRelay (wrappeds_still ws); relay_in = claims_part n k }

pub rows_told : (n k : ℕ) → Tells n k (wide n k) row_form row_form
rows_told n k = record { item = λ v. refl; item_in = row_part n k; relay = λ ws. refl; relay_in = rows_part n k }

-- ---- the rounds

-- the talk of the slots from `base` on
abbrev pub talk_of : {V : Type 0} → System → ℕ → ItemForm V → ℕ → (ℕ → List ℕ) → (ℕ → Bool) → (ℕ → V) → Talk V
talk_of sys p form base members full item = record {
  form = form;
  change = λ r. change_at sys p (base + r);
  expect = λ r j ms. expectation sys p (base + r) j ms 0;
  members = members;
  full = full;
  item = item;
}

module _ {V W : Type 0} {c : ℕ} (k : ℕ) (g : Config c) (few : g.nodes ≤ c) (plan : Plan) (inputs : ℕ → ℕ → Inputs) (p : ℕ) (f : V → W) (form : ItemForm V) (form' : ItemForm W) (told : Tells g.nodes k f form form')
    (base : ℕ) (members : ℕ → List ℕ) (full : ℕ → Bool) (item : ℕ → V) where
  abbrev before : Talk V
  before = talk_of (system_over g plan inputs) p form base members full item

  abbrev after : Talk W
  after = talk_of (system_over (wide_config k g) plan inputs) p form' base members full (λ j. f (item j))

  said_if : (b : Bool) (x : Content) (y : Content) → y ≡ wide_content g.nodes k x → (if b then y else Cold) ≡ wide_content g.nodes k (if b then x else Cold)
  said_if true x y e = e
  said_if false x y e = refl

  pub item_wide : (j : ℕ) → item_said after j ≡ wide_content g.nodes k (item_said before j)
  item_wide j = said_if (full j) (form.item (item j)) (form'.item (f (item j))) (told.item (item j))

  first_wide : (i j : ℕ) → told_first after i j ≡ each_arrival f (told_first before i j)
  first_wide i j =
      ap (arrives form'.item_in (before.change 0 j i) (wider k (before.expect 0 j (members j))) (wider k (before.expect 0 j (members i)))) (item_wide j)
      ∙ arrives_wide k (before.expect 0 j (members i)) few f form.item_in form'.item_in told.item_in (before.change 0 j i) (before.expect 0 j (members j)) (item_said before j) refl

  pub relay_wide : (r : ℕ) (x : Rounds V) (j : ℕ) → relay_said after r (each_round f x) j ≡ wide_content g.nodes k (relay_said before r x j)
  relay_wide r x j =
      said_if (full j) (form.relay (map (λ path. wrapped (heard x path)) (paths_of (members j) r j))) (form'.relay (map (λ path. wrapped (heard (each_round f x) path)) (paths_of (members j) r j)))
      (ap form'.relay
      (ap (λ (h : List ℕ → Wrapped W). map h (paths_of (members j) r j)) (fun_ext (λ path. ap wrapped (heard_each f x path) ∙ wrapped_each f (heard x path)))
      ∙ sym (map_twice (each_wrapped f) (λ path. wrapped (heard x path)) (paths_of (members j) r j)))
      ∙ told.relay (map (λ path. wrapped (heard x path)) (paths_of (members j) r j)))

  told_wide : (r i j : ℕ) (x : Rounds V) → told_relay after r i j (each_round f x) ≡ each_arrival (each_entry f) (told_relay before r i j x)
  told_wide r i j x =
      ap (with_entries (paths_of (members i) r j))
      (ap (arrives form'.relay_in (before.change r j i) (wider k (before.expect r j (members j))) (wider k (before.expect r j (members i)))) (relay_wide r x j)
      ∙ arrives_wide k (before.expect r j (members i)) few (map (each_wrapped f)) form.relay_in form'.relay_in told.relay_in (before.change r j i) (before.expect r j (members j)) (relay_said before r x j) refl)
      ∙ entries_each f (paths_of (members i) r j) (arrives form.relay_in (before.change r j i) (before.expect r j (members j)) (before.expect r j (members i)) (relay_said before r x j))

  pub rounds_wide : (r i : ℕ) → rounds_upto after r i ≡ each_round f (rounds_upto before r i)
  unfolding rounds_upto
  rounds_wide zero i = same_rounds (fun_ext (first_wide i)) refl
  rounds_wide (suc r) i = same_rounds (fun_ext (first_wide i)) (fun_ext (λ q. fun_ext (λ j. either (q == suc r) q j (rounds_wide r j) (rounds_wide r i)))) where
    either : (b : Bool) (q j : ℕ) → rounds_upto after r j ≡ each_round f (rounds_upto before r j) → rounds_upto after r i ≡ each_round f (rounds_upto before r i)
        → (if b then told_relay after q i j (rounds_upto after r j) else (rounds_upto after r i).relay q j)
        ≡ each_arrival (each_entry f) (if b then told_relay before q i j (rounds_upto before r j) else (rounds_upto before r i).relay q j)
    either true q j e here = ap (told_relay after q i j) e ∙ told_wide q i j (rounds_upto before r j)
    either false q j e here = ap (λ (x : Rounds W). x.relay q j) here
