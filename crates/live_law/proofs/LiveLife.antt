-- A live node through any periods.
use Rattle.std.proofs.Common.{ℕ, ◌≡◌, ◌<◌, List, [], ◌∷◌, ◌++◌, refl, sym, ap, subst, ◌∙◌}
use Rattle.std.specs.List.{fold, flat_map}
use Rattle.std.proofs.lemmas.List.{append_assoc, append-nil}
use Rattle.std.proofs.lemmas.List.Sums.{fold-append}
use Rattle.std.proofs.lemmas.Option.{same_Some}
use Rattle.slot_plan.specs.Slots.{slot_count}
use Rattle.agreed_state.specs.Agreed.{IsAgreed}
use Rattle.agreed_state.specs.AgreedLaws.{first-agreed}
use Rattle.node_steps.specs.Sending.{PeriodLaw}
use Rattle.scenario.specs.Scenario.{ScenarioView, IsScenario}
use Rattle.live_node.specs.Live.{LiveView, Step}
use Rattle.live_node.specs.Live.Step.{Goes}
use Rattle.live_law.specs.Periods.{after_next}
use Rattle.live_law.specs.Events.{step_on, all_steps, PeriodEvents, events_of}
use Rattle.live_law.specs.Living.{Rest, Rests, IsAllowed, AreAllowed, AnswersLife, SaysSlots, NewLiveLaw, LiveSayLaw, LiveLifeLaw, next_told, period_text, after_period, life_text, after_life}
use Rattle.live_law.proofs.Spans.{after_all, whole, rests_after, says_so_far}

-- where this was answered before
record LivesFrom {N : ℕ} (text : List ℕ) (r : Rest) (v : LiveView N) (qs : List PeriodEvents) : Type 0 where
  pub to : LiveView N
  pub takes : fold step_on (Goes v text) (flat_map (events_of v.scenario.config.m) qs) ≡ Goes to (text ++ life_text v.scenario v.id r qs)
  pub rests : Rests v.scenario v.id (after_life v.scenario v.id r qs) to

module _ (law : PeriodLaw) where
  lives : {N : ℕ} (v : LiveView N) (r : Rest) (qs : List PeriodEvents) (text : List ℕ) → IsScenario v.scenario → Rests v.scenario v.id r v → AreAllowed v.scenario v.id r qs → LivesFrom text r v qs
  unfolding AreAllowed life_text after_life
  lives v r [] text is at may = record { to = v; takes = ap (Goes v) (sym (append-nil text)); rests = at }
  lives {N} v r (q ∷ qs) text is at may =
      let w : LiveView N = after_all v r q in
      let rest : LivesFrom (text ++ period_text v.scenario v.id r q) (after_period v.scenario v.id r q) w qs =
      lives w (after_period v.scenario v.id r q) qs (text ++ period_text v.scenario v.id r q) is (rests_after v r q is law at) may.1 in
      record {
        to = rest.to;
        takes = fold-append step_on (Goes v text) (events_of v.scenario.config.m q) (flat_map (events_of v.scenario.config.m) qs)
            ∙ ap (λ (s : Step N). fold step_on s (flat_map (events_of v.scenario.config.m) qs)) (whole v r q is law at text may.0)
            ∙ rest.takes
            ∙ ap (Goes rest.to) (append_assoc text (period_text v.scenario v.id r q) (life_text v.scenario v.id (after_period v.scenario v.id r q) qs));
        rests = rest.rests;
      }

  by_itself : {N : ℕ} (v : LiveView N) (r : Rest) (qs : List PeriodEvents) → IsScenario v.scenario → Rests v.scenario v.id r v → AreAllowed v.scenario v.id r qs → AnswersLife v.scenario v.id r v qs
  by_itself v r qs is at may = let l = lives v r qs [] is at may in record { to = l.to; takes = l.takes; rests = l.rests }

-- one period
pub record Takes {N : ℕ} (sc : ScenarioView N) (id : ℕ) (r : Rest) (v : LiveView N) (q : PeriodEvents) : Type 0 where
  pub to : LiveView N
  pub takes : all_steps v (events_of sc.config.m q) ≡ Goes to (period_text sc id r q)
  pub rests : Rests sc id (after_period sc id r q) to
  pub node : to.node ≡ after_next sc.config id v.node (next_told sc id r q)

pub takes_period : PeriodLaw → {N : ℕ} (sc : ScenarioView N) (id : ℕ) (r : Rest) (v : LiveView N) (q : PeriodEvents) → IsScenario sc → Rests sc id r v → IsAllowed sc id (slot_count sc.config.m) r q → Takes sc id r v q
takes_period law sc id r v q is at may =
    subst (λ (s : ScenarioView _). IsScenario s → Rests s id r v → IsAllowed s id (slot_count s.config.m) r q → Takes s id r v q) at.is_of
    (subst (λ (i : ℕ). IsScenario v.scenario → Rests v.scenario i r v → IsAllowed v.scenario i (slot_count v.scenario.config.m) r q → Takes v.scenario i r v q) at.is_node
    (λ is at may. record { to = after_all v r q; takes = whole v r q is law at [] may; rests = rests_after v r q is law at; node = refl })) is at may

pub say_law : PeriodLaw → LiveSayLaw
say_law law N sc id r v q slots is at may low =
    subst (λ (s : ScenarioView N). IsScenario s → Rests s id r v → IsAllowed s id slots r q → slots < slot_count s.config.m → SaysSlots s id r v q slots) at.is_of
    (subst (λ (i : ℕ). IsScenario v.scenario → Rests v.scenario i r v → IsAllowed v.scenario i slots r q → slots < slot_count v.scenario.config.m → SaysSlots v.scenario i r v q slots) at.is_node
    (λ is at may low. says_so_far v r q is law at slots low may)) is at may low

pub new_law : NewLiveLaw
new_law N sc id v is new = record {
  is_of = new.is_of;
  is_node = new.is_node;
  between = record {
    room = v.node.arrived.frame_max;
    greatest = new.node.greatest;
    same = new.node.is;
    keeps = new.node.kept;
    valid = λ a e. subst (IsAgreed N sc.config) (same_Some _ a e) (first-agreed N sc.config is.system.config);
    shut = new.node.shut;
  };
  next = new.next;
  run = new.run;
  forgot = new.forgot;
  given = new.given;
}

pub live_life : PeriodLaw → LiveLifeLaw
live_life law N sc id r v qs is at may =
    subst (λ (s : ScenarioView N). IsScenario s → Rests s id r v → AreAllowed s id r qs → AnswersLife s id r v qs) at.is_of
    (subst (λ (i : ℕ). IsScenario v.scenario → Rests v.scenario i r v → AreAllowed v.scenario i r qs → AnswersLife v.scenario i r v qs) at.is_node (by_itself law v r qs)) is at may
