-- A node through the slots of a period: its frames, where it ends, and what stays.
use Rattle.std.proofs.Common.{ℕ, zero, suc, ◌≡◌, ◌<◌, ◌≤◌, ◌+◌, ◌-◌, ◌*◌, ◌==◌, Bool, true, false, if◌then◌else◌, List, [], map, length, refl, sym, ap, ap₂, subst, ◌∙◌, arith, eq-eqb, ne_eqb, Option, None, Some, ℤ}
use Rattle.std.proofs.lemmas.Bool.{cond-true, cond-false}
use Rattle.std.specs.Prelude.{nat_le, is_some, replicate}
use Rattle.node_grid.specs.NodeSet.{IsIdSet}
use Rattle.node_grid.specs.NumberFacts.{le_yes, le_no}
use Rattle.omh_paths.specs.Wrapped.{wrapped}
use Rattle.omh_paths.specs.declared.wrapped.Wrapped.TheVariants.{Fault}
use Rattle.omh.specs.Heard.{Hearing}
use Rattle.frames.specs.Content.{Content}
use Rattle.frames.specs.Content.Content.{Done0, DoneRelay, Data, Report0, ReportRelay, Cold}
use Rattle.frames.specs.Spelling.{spelling}
use Rattle.error_detect.specs.Watching.{Watch, opened, closed}
use Rattle.error_detect.specs.Multiset.{Arriving, all_delivered, FindsEach}
use Rattle.agreed_state.specs.declared.config.Config.{Config}
use Rattle.agreed_state.specs.declared.config.Inputs.{Inputs}
use Rattle.agreed_state.specs.Agreed.{AgreedView}
use Rattle.protocol.specs.Heard.{heard, paths_of}
use Rattle.protocol.specs.View.{Setting, Kept, Received, View, own_in, view_from, through, empty_row, channel_room, goes_with}
use Rattle.protocol.specs.Run.{members_in, claim_sent, state_content}
use Rattle.node_steps.specs.Outcome.{Outcome}
use Rattle.node_steps.specs.Parts.{Found, NodeView}
use Rattle.protocol.specs.Configured.{setting_of}
use Rattle.node_steps.specs.Steps.{begun, frame_of, said_by, next_open, expected_in}
use Rattle.node_steps.specs.Stages.{stage, due_of, own_of, row_of, claims_of, found_cold}
use Rattle.protocol.specs.Saying.{if_full, says}
use Rattle.node_steps.specs.Owed.{Owes}
use Rattle.node_steps.specs.Period.{slots_run, expect_at, goes, IsWatch, Stands, IsOver, resting, IsGiven}
use Rattle.node_steps.specs.Sending.{Fixed, fixed, fixed_of, IsServed, PeriodLaw}
use Rattle.protocol.specs.ViewLaws.{goes_before, goes_through as view_through}
use Rattle.node_steps.specs.FixedLaws.{slots_fixed}
use Rattle.node_steps.proofs.SlotSteps.{opens_next}
use Rattle.node_steps.proofs.PeriodStages.{fold_is_view, starts, slots_stand, StandsCold, cold_stands, few_dues, empty_is, first_has, stays_cold}
use Rattle.node_steps.proofs.FramesOwed.{frames_are_owed}

-- ---- what is said in a slot

-- one test after another
module _ (m t : ℕ) (s c d v r e : Content) where
  abbrev pick : Content
  pick = if t == 0 then s else (if t == 1 then c else (if nat_le t (m + 1) then d else (if t == m + 2 then v else (if t == m + 3 then r else e))))

  at_claims : 1 < t → t ≤ m + 1 → pick ≡ d
  at_claims l h = cond-false (t == 0) s _ (ne_eqb t 0 (λ z. absurd (omega arith))) ∙ cond-false (t == 1) c _ (ne_eqb t 1 (λ z. absurd (omega arith))) ∙ cond-true (nat_le t (m + 1)) d _ (le_yes t (m + 1) h)

  at_values : t ≡ m + 2 → pick ≡ v
  at_values h =
      cond-false (t == 0) s _ (ne_eqb t 0 (λ z. absurd (omega arith))) ∙ cond-false (t == 1) c _ (ne_eqb t 1 (λ z. absurd (omega arith)))
      ∙ cond-false (nat_le t (m + 1)) d _ (le_no t (m + 1) (omega arith)) ∙ cond-true (t == m + 2) v _ (eq-eqb t (m + 2) h)

  at_row : t ≡ m + 3 → pick ≡ r
  at_row h =
      cond-false (t == 0) s _ (ne_eqb t 0 (λ z. absurd (omega arith))) ∙ cond-false (t == 1) c _ (ne_eqb t 1 (λ z. absurd (omega arith)))
      ∙ cond-false (nat_le t (m + 1)) d _ (le_no t (m + 1) (omega arith)) ∙ cond-false (t == m + 2) v _ (ne_eqb t (m + 2) (λ z. absurd (omega arith))) ∙ cond-true (t == m + 3) r e (eq-eqb t (m + 3) h)

  at_rows : m + 3 < t → pick ≡ e
  at_rows h =
      cond-false (t == 0) s _ (ne_eqb t 0 (λ z. absurd (omega arith))) ∙ cond-false (t == 1) c _ (ne_eqb t 1 (λ z. absurd (omega arith)))
      ∙ cond-false (nat_le t (m + 1)) d _ (le_no t (m + 1) (omega arith)) ∙ cond-false (t == m + 2) v _ (ne_eqb t (m + 2) (λ z. absurd (omega arith))) ∙ cond-false (t == m + 3) r e (ne_eqb t (m + 3) (λ z. absurd (omega arith)))

either : {C : Type 0} (b : Bool) (x y z : C) → x ≡ z → y ≡ z → (if b then x else y) ≡ z
either true x y z h k = h
either false x y z h k = k

module _ {N : ℕ} (config : Config N) (i p : ℕ) (g : Inputs) (k : Kept) (x : Received) where
  abbrev s : Setting
  s = setting_of config

  abbrev u : View
  u = view_from s i p g k x k.state

  abbrev Says : ℕ → NodeView N → Type 0
  Says t v = said_by v v.phase.before ≡ says (setting_of config) i g k x u t

  -- slot 0
  says_state : (d : Hearing ℕ) (rows : Hearing (List ℕ)) (f : Found) (w : Watch) (o : Outcome) → Says 0 (stage config i p g k x 0 k.state d rows f w o)
  says_state d rows f w o = go k.state where
    go : (y : Option AgreedView) → said_by (record { config = config; phase = record { me = i; period = p; slot = 0; is_open = true; inputs = g; full = is_some y; before = y }; kept = k; done = d; rows = rows; found = f; arrived = w; outcome = o }) y ≡ state_content s y
    go None = refl
    go (Some a) = refl

  -- the way through with a state
  module _ (a : AgreedView) (is : goes config i p g k x ≡ Some a) (ids : IsIdSet config.nodes a.standing.members) (room : ℕ) (o : Outcome) where
    owes : Owes config i p g k x a
    owes = frames_are_owed N config i p g k x a ids

    before : u.before ≡ Some a
    before = goes_before s i p g k x k.state ∙ is

    view_is : u ≡ through s i p g k x (is_some k.state) a
    view_is = view_through s i p g k x k.state a is

    due_is : u.due ≡ due_of config i p g k x a
    unfolding through
    due_is = ap (λ (v : View). v.due) view_is

    own_is : u.own ≡ own_of config i p g k x a
    unfolding through
    own_is = ap (λ (v : View). v.own) view_is

    found_is : u.found ≡ row_of config i p g k x a
    unfolding through
    found_is = ap (λ (v : View). v.found) view_is

    pub says_stage : (t : ℕ) (v : NodeView N) → Stands config i p g k x room o a t v → Says t v
    says_stage t v (Stands.hearing zero rows f w short base en em late) =
        owes.claim rows f w o ∙ ap (λ (b : Option AgreedView). if_full k (Done0 (claim_sent i g b))) (sym before)
    says_stage t v (Stands.hearing (suc r) rows f w short base en em late) =
        owes.claims (suc r) rows f w o (omega arith) short
        ∙ ap₂ (λ (n : ℕ) (b : Option AgreedView). if_full k (DoneRelay (map (λ path. wrapped (heard x.done path)) (paths_of (members_in b) n i)))) (let e : suc r ≡ suc (suc r) - 1 = omega arith in e) (sym before)
        ∙ sym (at_claims config.m (suc (suc r)) _ _ _ _ _ _ (omega arith) (omega arith))
    says_stage t v (Stands.voting rows f w base en em late) =
        owes.values rows f w o
        ∙ ap₂ (λ (own : List (Option ℤ)) (due : List ℕ). if_full k (Data (map (own_in own) due))) (sym own_is) (sym due_is)
        ∙ sym (at_values config.m (config.m + 2) _ _ _ _ _ _ refl)
    says_stage t v (Stands.reporting zero w short base) =
        owes.row w o ∙ ap (λ (row : List ℕ). if_full k (Report0 row)) (sym found_is) ∙ sym (at_row config.m (config.m + 3 + 0) _ _ _ _ _ _ (omega arith))
    says_stage t v (Stands.reporting (suc r) w short base) =
        owes.rows (suc r) w o (omega arith) short
        ∙ ap₂ (λ (n : ℕ) (b : Option AgreedView). if_full k (ReportRelay (map (λ path. wrapped (heard x.report path)) (paths_of (members_in b) n i)))) (let e : suc r ≡ config.m + 3 + suc r - (config.m + 3) = omega arith in e) (sym before)
        ∙ sym (at_rows config.m (config.m + 3 + suc r) _ _ _ _ _ _ (omega arith))

    pub stands_at : (t : ℕ) (v : NodeView N) → Stands config i p g k x room o a t v → (v.config ≡ config) × (v.phase.period ≡ p) × (v.phase.me ≡ i) × (v.phase.slot ≡ t) × (v.phase.is_open ≡ true)
    stands_at t v (Stands.hearing r rows f w short base en em late) = (refl, refl, refl, refl, refl)
    stands_at t v (Stands.voting rows f w base en em late) = (refl, refl, refl, refl, refl)
    stands_at t v (Stands.reporting r w short base) = (refl, refl, refl, refl, refl)

  cold_at : (o : Outcome) (t : ℕ) (v : NodeView N) → StandsCold config i p g k x o t v → (v.config ≡ config) × (v.phase.period ≡ p) × (v.phase.me ≡ i) × (v.phase.slot ≡ t) × (v.phase.is_open ≡ true)
  cold_at o t v (StandsCold.cold t' d rows f w later) = (refl, refl, refl, refl, refl)

  -- and of a node that stays Cold
  none_state : (y : Option AgreedView) → goes_with s i x y ≡ None → y ≡ None
  none_state None h = refl
  none_state (Some b) h = cc

  cold_says : (t : ℕ) → goes config i p g k x ≡ None → Cold ≡ says (setting_of config) i g k x u t
  cold_says t e =
      let n : k.state ≡ None = none_state k.state e in
      let c : (y : Content) → if_full k y ≡ Cold = λ y. cond-false (is_some k.state) y Cold (ap is_some n) in
      sym (either (t == 0) _ _ Cold (ap (state_content s) n) (either (t == 1) _ _ Cold (c _) (either (nat_le t (config.m + 1)) _ _ Cold (c _) (either (t == config.m + 2) _ _ Cold (c _) (either (t == config.m + 3) _ _ Cold (c _) (c _))))))

  says_cold : (o : Outcome) (t : ℕ) (v : NodeView N) → goes config i p g k x ≡ None → StandsCold config i p g k x o t v → Says t v
  says_cold o t v e (StandsCold.cold t' d rows f w later) = cold_says t' e

-- the head of a frame and its bytes
pub frame_is : {N : ℕ} (config : Config N) (p i t : ℕ) (v : NodeView N) (c : Content) → v.config ≡ config → v.phase.period ≡ p → v.phase.me ≡ i → v.phase.slot ≡ t → said_by v v.phase.before ≡ c
    → frame_of v ≡ spelling config.nodes (record { version = config.version; period = p; sender = i; slot = t }) c
frame_is {N} config p i t v c a b d e f =
    ap (λ (y : Config N). spelling y.nodes (record { version = y.version; period = v.phase.period; sender = v.phase.me; slot = v.phase.slot }) (said_by v v.phase.before)) a
    ∙ ap₂ (λ (q j : ℕ). spelling config.nodes (record { version = config.version; period = q; sender = j; slot = v.phase.slot }) (said_by v v.phase.before)) b d
    ∙ ap₂ (λ (q : ℕ) (y : Content). spelling config.nodes (record { version = config.version; period = p; sender = i; slot = q }) y) e f

-- ---- the law

module _ (law : FindsEach) {N : ℕ} (config : Config N) (i p : ℕ) (g : Inputs) (k : Kept) (x : Received) (room : ℕ) (ds : ℕ → List Arriving) (v : NodeView N)
    (given : IsServed config i p g k x room ds) (is : fixed v ≡ fixed_of config room i) (keeps : v.kept ≡ k) where
  abbrev rest : NodeView N
  rest = resting config i k v.phase v.done v.rows v.found v.arrived v.outcome

  rest_is : rest ≡ v
  rest_is =
      ap₂ (λ (c : Config N) (j : ℕ). resting c j k v.phase v.done v.rows v.found v.arrived v.outcome) (sym (ap (λ (y : Fixed N). y.config) is)) (sym (ap (λ (y : Fixed N). y.me) is))
      ∙ ap (λ (y : Kept). resting v.config v.phase.me y v.phase v.done v.rows v.found v.arrived v.outcome) (sym keeps)

  base : IsWatch config i p g k x room v.arrived
  base = record { nodes = ap (λ (y : Fixed N). y.watch_nodes) is; me = ap (λ (y : Fixed N). y.watch_me) is; room_is = ap (λ (y : Fixed N). y.room) is }

  abbrev f1 : Found
  f1 = record { sync = []; notes = k.carried; late = empty_row (setting_of config); claims = replicate N (Fault 0); due = []; own = replicate channel_room None; votes = replicate channel_room None }

  begun_is : begun v p g ≡ stage config i p g k x 0 k.state v.done v.rows f1 (opened v.arrived (expect_at config i p g k x 0 [] 0)) v.outcome
  begun_is =
      ap (λ (y : NodeView N). begun y p g) (sym rest_is)
      ∙ ap (λ (n : ℕ). stage config i p g k x 0 k.state v.done v.rows f1 (opened v.arrived (expect_at config i p g k x 0 [] n)) v.outcome)
      (cond-false (0 == config.m + 2) 0 0 (ne_eqb 0 (config.m + 2) (λ z. absurd (omega arith))))

  abbrev AtSlot : ℕ → NodeView N → Type 0
  AtSlot t w = (w.phase.is_open ≡ true) × (frame_of w ≡ spelling config.nodes (record { version = config.version; period = p; sender = i; slot = t }) (says (setting_of config) i g k x (view_from (setting_of config) i p g k x k.state) t))

  first_frame : AtSlot 0 (begun v p g)
  first_frame =
      subst (AtSlot 0) (sym begun_is) (
        refl,
        frame_is config p i 0 (stage config i p g k x 0 k.state v.done v.rows f1 (opened v.arrived (expect_at config i p g k x 0 [] 0)) v.outcome) _ refl refl refl refl
            (says_state config i p g k x v.done v.rows f1 (opened v.arrived (expect_at config i p g k x 0 [] 0)) v.outcome),
      )

  given_too : IsGiven config i p g k x room ds v.done v.rows v.arrived
  given_too = record {
    few = given.few;
    few_channels = given.few_channels;
    told = given.told;
    rooms = given.rooms;
    members = given.members;
    watch = base;
    done_nodes = ap (λ (y : Fixed N). y.done_nodes) is;
    done_rounds = ap (λ (y : Fixed N). y.done_rounds) is;
    rows_nodes = ap (λ (y : Fixed N). y.rows_nodes) is;
    rows_rounds = ap (λ (y : Fixed N). y.rows_rounds) is;
  }

  over : IsOver (slots_run ds (2 * config.m + 4) (begun v p g)) (view_from (setting_of config) i p g k x k.state)
  over =
      subst (λ (y : NodeView N). IsOver (slots_run ds (2 * config.m + 4) (begun y p g)) (view_from (setting_of config) i p g k x k.state)) rest_is
      (fold_is_view law N config i p g k x room ds v.phase v.done v.rows v.found v.arrived v.outcome given_too)

  later : (y : Option AgreedView) → goes config i p g k x ≡ y → (n : ℕ) → n ≤ 2 * config.m + 2 → AtSlot (suc n) (slots_run ds (suc n) (begun v p g))
  later (Some a) e n low =
      let ids : IsIdSet config.nodes a.standing.members = given.members a e in
      let due : length (due_of config i p g k x a) ≤ 8 = few_dues config a (claims_of config i p g k x a) given.few_channels in
      let w : NodeView N = slots_run ds (suc n) (begun v p g) in
      let st : Stands config i p g k x room v.outcome a (suc n) w =
      slots_stand config i p g k x given.few room law ds given.told given.rooms v.outcome a e ids due (begun v p g) n
      (subst (λ (y : NodeView N). Stands config i p g k x room v.outcome a 1 (slots_run ds 1 y)) (sym begun_is)
      (starts config i p g k x given.few room law ds given.told given.rooms v.outcome a e ids due v.done v.rows f1 v.arrived base given_too.done_nodes given_too.done_rounds given_too.rows_nodes given_too.rows_rounds refl
      (empty_is (setting_of config) i))) low in
      let at = stands_at config i p g k x a e ids room v.outcome (suc n) w st in
      (at.4, frame_is config p i (suc n) w _ at.0 at.1 at.2 at.3 (says_stage config i p g k x a e ids room v.outcome (suc n) w st))
  later None e n low =
      let w : NodeView N = slots_run ds (suc n) (begun v p g) in
      let cw : Watch = all_delivered (opened v.arrived (expect_at config i p g k x 0 [] 0)) (ds 0) in
      let took = stays_cold config i p g k x v.done v.rows f1 cw v.outcome (record { each = λ j l ne. given.told.sync.each j l ne ∙ sym (first_has config i p g k x room law ds given.rooms v.arrived j base l ne) }) e in
      let first = subst (λ (y : NodeView N). StandsCold config i p g k x v.outcome 1 (slots_run ds 1 y)) (sym begun_is)
      (subst (StandsCold config i p g k x v.outcome 1) (sym (ap next_open took ∙ opens_next config i p g k x 0 None v.done v.rows (found_cold config i p g k x f1) (closed cw) v.outcome (λ z. absurd (omega arith))))
      (StandsCold.cold 1 v.done v.rows f1 (opened (closed cw) (expected_in (stage config i p g k x 0 None v.done v.rows (found_cold config i p g k x f1) (closed cw) v.outcome) 1)) (omega arith))) in
      let st : StandsCold config i p g k x v.outcome (suc n) w = cold_stands config i p g k x ds v.outcome (begun v p g) n first low in
      let at = cold_at config i p g k x v.outcome (suc n) w st in
      (at.4, frame_is config p i (suc n) w _ at.0 at.1 at.2 at.3 (says_cold config i p g k x v.outcome (suc n) w e st))

  at_slot : (t : ℕ) → t < 2 * config.m + 4 → AtSlot t (slots_run ds t (begun v p g))
  at_slot zero low = first_frame
  at_slot (suc n) low = later (goes config i p g k x) refl n (omega arith)

pub goes_through : FindsEach → PeriodLaw
goes_through law N config i p g k x room ds v given is keeps = record {
  frames = λ t low. (at_slot law config i p g k x room ds v given is keeps t low).1;
  opens = λ t low. (at_slot law config i p g k x room ds v given is keeps t low).0;
  over = over law config i p g k x room ds v given is keeps;
  stays = λ t. slots_fixed ds t (begun v p g);
}
