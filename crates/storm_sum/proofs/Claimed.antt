-- What is promised of a storm, and its summary.
use Rattle.std.proofs.Common.{◌≡◌, ◌≢◌, ℕ, ◌<◌, zero, suc, ◌+◌, Bool, true, List, map, Option, None, Some, Result, Ok, Err, refl, sym, ap, subst, ◌∙◌, arith, inl}
use Rattle.std.specs.Prelude.{IfOk, slice_get, slice_index, option_and_then}
use Rattle.std.proofs.lemmas.Option.{same_Some}
use Rattle.std.specs.List.{range_with_len}
use Rattle.node_grid.specs.NodeSet.{ids_below, has_id}
use Rattle.node_grid.specs.Count.{bit, count}
use Rattle.node_grid.specs.Class.{is_sound}
use Rattle.membership.specs.Members.{Standing, first_standing}
use Rattle.agreed_state.specs.Agreed.{AgreedView}
use Rattle.protocol.specs.Cluster.{view}
use Rattle.protocol.specs.Run.{System, members_in, run}
use Rattle.protocol.specs.Safe.{IsInnocent}
use Rattle.safety.specs.Lifetime.{standing_of, HaveStanding}
use Rattle.node_steps.specs.Outcome.{Outcome}
use Rattle.node_steps.specs.Stages.{outcome_of}
use Rattle.scenario.specs.Scenario.{IsScenario}
use Rattle.scenario.specs.Laws.{AcceptedLaw}
use Rattle.cluster_periods.specs.Laws.{ClaimLaw, Promises, PromiseLaw}
use Rattle.storm.specs.Laws.{storm_system, IsWeathered, Weathers, StormLaw, UnrefusedLaw}
use Rattle.storm.specs.Parts.{storm_parts}
use Rattle.storm_sum.specs.Summary.{how_many, shown_at, state_after, counts_in}
use Rattle.storm_sum.specs.Laws.{storm_scenario, WithstandingLaw, SummaryLaw}

all_counted : (f : ℕ → Bool) (a n : ℕ) → ((q : ℕ) → f q ≡ true) → count f (range_with_len a n) ≡ n
all_counted f a zero h = refl
all_counted f a (suc n) h = let here : bit (f a) ≡ 1 = ap bit (h a) in let rest = all_counted f (a + 1) n h in omega arith

every_period : (f : ℕ → Bool) (n : ℕ) → ((q : ℕ) → f q ≡ true) → how_many f n ≡ n
unfolding how_many
every_period f n h = all_counted f 0 n h

claimed_at : ClaimLaw → (sys : System) → Weathers sys → (p : ℕ) → (shown_at sys p).claim ≡ true
claimed_at claims sys w p = (claims sys None p).claim.1 (w.periods p).claimed

-- what node 0 of 8 records
abbrev records : System → ℕ → List Outcome
records sys p = map (λ i. outcome_of (view (run sys) i p)) (ids_below 8)

ends : (seed : ℕ) (w : Weathers (storm_system seed)) (p : ℕ) → state_after (shown_at (storm_system seed) p) ≡ Some (w.periods p).after
ends seed w p =
    ap (λ (i : Option ℕ). option_and_then (λ o. o.agreed) (option_and_then (slice_get (records (storm_system seed) p)) i)) (w.periods p).reference_node
    ∙ (w.periods p).ends_with

pub claimed_law : StormLaw → ClaimLaw → SummaryLaw
claimed_law storms claims seed =
    let w = storms seed in
    let last = w.periods 1023 in
    let after = ends seed w 1023 in
    record {
      periods = refl;
      claimed = every_period (λ p. (shown_at (storm_system seed) p).claim) 1024 (claimed_at claims (storm_system seed) w);
      lines = w.few_lines;
      restarts = w.restarts;
      nodes = refl;
      members = λ j low. subst (λ (a : Option AgreedView). has_id (members_in a) j ≡ true) (sym after) (last.spared_after j low).member;
      counts = λ j low. subst (λ (a : Option AgreedView). slice_index (counts_in a) j ≡ 0) (sym after) (last.spared_after j low).unpunished;
    }

-- before the first period all nodes are members with count 0
first_spared : (j : ℕ) → j < 5 → IsInnocent (first_standing 8 8) j
first_spared zero low = record { member = refl; unpunished = refl }
first_spared (suc zero) low = record { member = refl; unpunished = refl }
first_spared (suc (suc zero)) low = record { member = refl; unpunished = refl }
first_spared (suc (suc (suc zero))) low = record { member = refl; unpunished = refl }
first_spared (suc (suc (suc (suc zero)))) low = record { member = refl; unpunished = refl }
first_spared (suc (suc (suc (suc (suc j))))) low = absurd (omega arith)

-- node 0, which is sound, ends a period with the standing before the next one, and its state then spares nodes 0 to 4
spared_after : (sys : System) (p : ℕ) → IsWeathered sys p → HaveStanding sys p → (j : ℕ) → j < 5 → IsInnocent (standing_of sys (suc p)) j
spared_after sys p w standing j low =
    let other : 0 ≢ w.one_faulty.node = λ e. let l = w.one_faulty.low in absurd (omega arith) in
    let stands = standing 0 (ap is_sound (w.one_faulty.others 0 (omega arith) other)) in
    let same : w.after ≡ stands.after = same_Some w.after stands.after (sym w.ends_with ∙ stands.ends) in
    subst (λ (s : Standing). IsInnocent s j) (ap (λ (a : AgreedView). a.standing) same ∙ stands.stands_after) (w.spared_after j low)

-- no rule refuses a storm, so it is a scenario, and what is promised of claimed periods holds of all of its periods
pub withstanding_law : AcceptedLaw → UnrefusedLaw → StormLaw → ClaimLaw → PromiseLaw → WithstandingLaw
withstanding_law accepted unrefused storms claims promises seed =
    record { unrefused = unrefused seed; one_faulty = λ p. (w.periods p).one_faulty; claimed = λ p. (w.periods p).claimed; promised = promised; spared = spared } where
      is : IsScenario (storm_scenario seed)
      is = accepted 8 (storm_parts seed) (inl refl) (unrefused seed)

      w : Weathers (storm_system seed)
      w = storms seed

      promised : (p : ℕ) → Promises (storm_scenario seed) p
      promised p = promises 8 (storm_scenario seed) p is ((claims (storm_system seed) (storm_scenario seed).clock p).claim.1 (w.periods p).claimed)

      spared : (p j : ℕ) → j < 5 → IsInnocent (standing_of (storm_system seed) p) j
      spared zero = first_spared
      spared (suc p) = spared_after (storm_system seed) p (w.periods p) (promised p).lifetimes.standing

-- what is Ok is this, so what holds of this holds of it
pub holds_of : {A E : Type 0} (P : A → Type 0) (x : A) (r : Result A E) → IfOk r (λ s. s ≡ x) → P x → IfOk r P
holds_of P x (Ok s) is h = subst P (sym is) h
holds_of P x (Err e) is h = tt
