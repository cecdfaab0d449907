-- A node with its slot and its rooms, after each event: it is held, and it is what the event makes of it.
use Rattle.std.proofs.Common.{ℕ, ◌≡◌, ◌≢◌, ◌<◌, ◌≤◌, ◌+◌, ◌*◌, ◌^◌, ◌==◌, ◌&&◌, ◌||◌, Bool, true, false, not, nat_lt, if◌then◌else◌, ℤ, List, replicate, refl, sym, ap, ap₂, subst, ◌∙◌, arith, w64, to_z, of_z, inl, inr}
use Rattle.std.specs.Prelude.{Option, None, Some, unwrap_or, set}
use Rattle.std.proofs.lemmas.Bool.{false≢true}
use Rattle.std.proofs.lemmas.Bool.Decides.{nat_tests}
use Rattle.std.proofs.lemmas.Int.{to_z-of_z}
use Rattle.node_grid.specs.NumberFacts.{differ_true, lt_from}
use Rattle.node_grid.specs.TruthFacts.{and_both}
use Rattle.frames.specs.Bound.{IsGreatest}
use Rattle.frames.specs.Content.{IsValue}
use Rattle.frames.specs.EntryLaws.{value_in_64}
use Rattle.frames.specs.Facts.{one_greatest}
use Rattle.agreed_state.specs.declared.config.Config.{Config}
use Rattle.agreed_state.specs.declared.config.Inputs.{Inputs}
use Rattle.agreed_state.specs.Config.{IsConfig}
use Rattle.agreed_state.specs.ConfigLaws.{few_rounds}
use Rattle.agreed_state.specs.Body.{state_len}
use Rattle.node_grid.specs.Capacity.{IsCapacity}
use Rattle.protocol.specs.View.{channel_room}
use Rattle.node_steps.specs.Fresh.{IsFresh}
use Rattle.node_steps.specs.Parts.{NodeView}
use Rattle.node_steps.specs.Sending.{Fixed}
use Rattle.node_steps.specs.Steps.{after_slot, given_frame, restarted, begun}
use Rattle.scenario.specs.Scenario.{ScenarioView, IsScenario}
use Rattle.live_node.specs.Event as spec
use Rattle.live_node.specs.Event.Event.{Begin, Deliver, End, Restart, Reading, Ahead}
use Rattle.live_node.specs.Live.{LiveView, IsNewLive, is_open, is_other, may_begin, allowed, period_begun, slot_ended, inputs_given, told}
use Rattle.live_node.specs.Seen.{event_in, IsAnswered}
use Rattle.live_node.specs.declared.event.Event.{Event}
use Rattle.live_node.specs.declared.event.Event.TheVariants as coded
use Rattle.live_node.specs.Standing.{IsLive, IsHeld, AreTold, open_slot}
use Rattle.live_node.proofs.Keeping.{live_begun, live_given, live_restarted, live_reading, live_ahead, live_last, live_next, closes, goes_on, next_slot, after_room, given_room, open_is, shut_is, none_told, if_true, if_false, same_place}

-- ---- truth values

pub and_true : (a b : Bool) → a ≡ true → b ≡ (a && b)
and_true a b e = ap (λ x. x && b) (sym e)

pub and_false : (a b : Bool) → a ≡ false → a ≡ (a && b)
and_false a b e = e ∙ ap (λ x. x && b) (sym e)

-- ---- which period may begin

later_of : (p n : ℕ) (f : Bool) → ((p == n) || (f && nat_lt n p)) ≡ true → n ≤ p
later_of p n true h = grind (arith, nat_tests)
later_of p n false h = grind (arith, nat_tests)

module _ {N : ℕ} (v : LiveView N) (o : Option ℕ) (may : may_begin v o ≡ true) where
  pub begins_later : (p : ℕ) → o ≡ Some p → v.next ≤ p
  begins_later p e = later_of p v.next v.forgot (ap (may_begin v) (sym e) ∙ may)

  pub begins_next : o ≡ None → v.next < 2 ^ 32
  begins_next e = lt_from v.next (2 ^ 32) (ap (may_begin v) (sym e) ∙ may)

-- ---- another node

pub other_is : {N : ℕ} (v : LiveView N) (is : IsLive v) (j : ℕ) → is_other v j ≡ true → (j < v.node.config.nodes) × (j ≢ v.node.phase.me)
other_is {N} v is j h =
    let parts = and_both (nat_lt j v.scenario.config.nodes) (not (j == v.id)) h in
    let nodes : v.node.config.nodes ≡ v.scenario.config.nodes = ap (λ (y : Config N). y.nodes) is.config in
    let low = lt_from j v.scenario.config.nodes parts.0 in
    let differs = differ_true j v.id parts.1 in
    (omega (arith, low, nodes), λ e. differs (e ∙ is.me))

-- ---- values

-- ---- the slot that is open

module _ {N : ℕ} (v : NodeView N) (s : Option ℕ) (is : s ≡ open_slot v) where
  pub slot_at : (t : ℕ) → s ≡ Some t → v.phase.is_open ≡ true → t ≡ v.phase.slot
  slot_at t e opened = ap (λ (o : Option ℕ). unwrap_or o 0) (sym e ∙ is ∙ open_is v opened)

  pub opened_at : (t : ℕ) → s ≡ Some t → v.phase.is_open ≡ true
  opened_at t e = some_open v.phase.is_open (sym e ∙ is) where
    some_open : (b : Bool) → Some t ≡ (if b then Some v.phase.slot else None) → b ≡ true
    some_open true h = refl
    some_open false h = absurd (cc)

  pub shut_at : s ≡ None → v.phase.is_open ≡ false
  shut_at e = none_open v.phase.is_open (sym e ∙ is) where
    none_open : (b : Bool) → ◌≡◌ {A = Option ℕ} None (if b then Some v.phase.slot else None) → b ≡ false
    none_open true h = absurd (cc)
    none_open false h = refl

module _ {N : ℕ} (v : LiveView N) (slot : Option ℕ) (frame text : ℕ) (is : IsHeld v slot frame text) where
  -- a slot's number is small
  pub slot_small : (t : ℕ) → slot ≡ Some t → is_open v ≡ true → (t ≡ v.node.phase.slot) × (t ≤ 9)
  slot_small t e opened =
      let at = slot_at v.node slot is.slot_is t e opened in
      let within = is.live.within opened in
      let m : v.node.config.m ≡ v.scenario.config.m = ap (λ (y : Config N). y.m) is.live.config in
      let few = few_rounds N v.scenario.config is.live.scenario.system.config in
      (at, omega (arith, at, within, m, few))

  -- ---- a period begins

  module _ (p n : ℕ) (g : Inputs) (u : NodeView N) (gs as' : List (Option ℤ)) (node : u ≡ begun v.node p g) (next : n ≡ p + 1) (given : gs ≡ replicate channel_room None) (ahead : as' ≡ replicate N None) where
    pub held_begun : v.next ≤ p → p < 2 ^ 32 → IsHeld (record v { node = u; next = n; forgot = false; given = gs; ahead = as' }) (Some 0) frame text
    held_begun later low =
        rw (node, next, given, ahead) (record {
          live = live_begun v is.live p g later low;
          slot_is = refl;
          frame_room = is.frame_room;
          text_room = is.text_room;
        })

    pub begun_is : (w : LiveView N) → v ≡ w → g ≡ inputs_given w p → record v { node = u; next = n; forgot = false; given = gs; ahead = as' } ≡ period_begun w p
    begun_is w same inputs =
        ap₂ (λ (x : NodeView N) (k : ℕ). record v { node = x; next = k; forgot = false; given = gs; ahead = as' }) (node ∙ ap (begun v.node p) inputs) next
        ∙ ap₂ (λ (xs ys : List (Option ℤ)). record v { node = begun v.node p (inputs_given w p); next = p + 1; forgot = false; given = xs; ahead = ys }) given ahead
        ∙ ap (λ (x : LiveView N). record x { node = begun x.node p (inputs_given w p); next = p + 1; forgot = false; given = replicate channel_room None; ahead = replicate N None }) same

  -- ---- a slot ends

  module _ (u : NodeView N) (node : u ≡ after_slot v.node) (opened : is_open v ≡ true) where
    room_left : (x : NodeView N) → x ≡ after_slot v.node → x.arrived.frame_max ≡ v.node.arrived.frame_max
    room_left x e = ap (λ (y : NodeView N). y.arrived.frame_max) e ∙ after_room v.node

    module _ (more : v.node.phase.slot ≢ 2 * v.node.config.m + 3) where
      pub held_next : (t : ℕ) → t ≡ v.node.phase.slot → IsHeld (record v { node = u }) (Some (t + 1)) frame text
      held_next t at = record {
        live = rw node (live_next v is.live opened more);
        slot_is = ap (λ k. Some (k + 1)) at ∙ ap (λ k. Some k) (sym (next_slot v.node more)) ∙ sym (open_is (after_slot v.node) (goes_on v.node more opened)) ∙ ap (λ (y : NodeView N). open_slot y) (sym node);
        frame_room = subst (λ k. k ≤ frame) (sym (room_left u node)) is.frame_room;
        text_room = subst (λ k. 2 * k + 32 ≤ text) (sym (room_left u node)) is.text_room;
      }

      pub next_is : (w : LiveView N) → v ≡ w → record v { node = u } ≡ slot_ended w (after_slot w.node)
      next_is w same =
          ap (λ (x : NodeView N). record v { node = x }) node
          ∙ ap (λ (r : ℕ). record v { node = after_slot v.node; run = r }) (sym (if_true {A = ℕ} (λ k. k) (after_slot v.node).phase.is_open v.run (v.run + 1) (goes_on v.node more opened)))
          ∙ ap (λ (x : LiveView N). slot_ended x (after_slot x.node)) same

    module _ (last : v.node.phase.slot ≡ 2 * v.node.config.m + 3) where
      pub held_last : IsHeld (record v { node = u; run = v.run + 1 }) None frame text
      held_last = record {
        live = rw node (live_last v is.live opened last);
        slot_is = sym (shut_is (after_slot v.node) (closes v.node last)) ∙ ap (λ (y : NodeView N). open_slot y) (sym node);
        frame_room = subst (λ k. k ≤ frame) (sym (room_left u node)) is.frame_room;
        text_room = subst (λ k. 2 * k + 32 ≤ text) (sym (room_left u node)) is.text_room;
      }

      pub last_is : (w : LiveView N) → v ≡ w → record v { node = u; run = v.run + 1 } ≡ slot_ended w (after_slot w.node)
      last_is w same =
          ap (λ (x : NodeView N). record v { node = x; run = v.run + 1 }) node
          ∙ ap (λ (r : ℕ). record v { node = after_slot v.node; run = r }) (sym (if_false {A = ℕ} (λ k. k) (after_slot v.node).phase.is_open v.run (v.run + 1) (closes v.node last)))
          ∙ ap (λ (x : LiveView N). slot_ended x (after_slot x.node)) same

  -- ---- the other events

  pub held_given : (from tick : ℕ) (bytes : List ℕ) (u : NodeView N) → u ≡ given_frame v.node from tick bytes → IsHeld (record v { node = u }) slot frame text
  held_given from tick bytes u node =
      rw node (record {
        live = live_given v is.live from tick bytes;
        slot_is = is.slot_is;
        frame_room = subst (λ k. k ≤ frame) (sym (given_room v.node from tick bytes)) is.frame_room;
        text_room = subst (λ k. 2 * k + 32 ≤ text) (sym (given_room v.node from tick bytes)) is.text_room;
      })

  pub held_restarted : (u : NodeView N) → u ≡ restarted v.node → IsHeld (record v { node = u; forgot = true }) slot frame text
  held_restarted u node = rw node (record { live = live_restarted v is.live; slot_is = is.slot_is; frame_room = is.frame_room; text_room = is.text_room })

  pub held_reading : (c : ℕ) (x y : ℤ) → IsValue x → y ≡ x → IsHeld (record v { given = set v.given c (Some y) }) slot frame text
  held_reading c x y value same = rw same (record { live = live_reading v is.live c x value; slot_is = is.slot_is; frame_room = is.frame_room; text_room = is.text_room })

  pub held_ahead : (j : ℕ) (x y : ℤ) → j ≢ v.id → IsValue x → y ≡ x → IsHeld (record v { ahead = set v.ahead j (Some y) }) slot frame text
  held_ahead j x y other value same = rw same (record { live = live_ahead v is.live j x other value; slot_is = is.slot_is; frame_room = is.frame_room; text_room = is.text_room })

  -- with rooms that are as large or larger
  pub held_larger : (f t : ℕ) → frame ≤ f → text ≤ t → IsHeld v slot f t
  held_larger f t more most = record { live = is.live; slot_is = is.slot_is; frame_room = omega (arith, is.frame_room, more); text_room = omega (arith, is.text_room, most) }

-- what the code stores of a value is that value
pub stored : (z : ℤ) → IsValue z → to_z w64 (of_z w64 z) ≡ z
stored z h = to_z-of_z w64 z (value_in_64 z h)

-- ---- before the first event

module _ {N : ℕ} (sc : ScenarioView N) (id room frame text longest : ℕ) (v : NodeView N) (gs as' : List (Option ℤ)) (given : gs ≡ replicate channel_room None) (ahead : as' ≡ replicate N None) (fresh : IsFresh sc.config id v) where
  abbrev newly : LiveView N
  newly = record { scenario = sc; id = id; node = v; next = 0; run = 0; forgot = false; given = gs; ahead = as'; longest = longest }

  pub new_live : IsNewLive sc id newly
  new_live = record { is_of = refl; is_node = refl; node = fresh; next = refl; run = refl; forgot = refl; given = given; ahead = ahead }

  pub held_new : IsScenario sc → id < sc.config.nodes → IsGreatest sc.config.nodes sc.config.m (state_len sc.config) 8 room → room ≤ frame → 2 * room + 32 ≤ text → IsHeld newly None frame text
  held_new is low greatest front back =
      let same : v.arrived.frame_max ≡ room = one_greatest sc.config.nodes sc.config.m (state_len sc.config) 8 v.arrived.frame_max room fresh.greatest greatest in
      record {
        live = record {
          scenario = is;
          id = low;
          config = ap (λ (f : Fixed N). f.config) fresh.is;
          me = ap (λ (f : Fixed N). f.me) fresh.is;
          period = λ e. absurd (omega (arith, e));
          started = λ e. absurd (false≢true (sym fresh.shut ∙ e));
          within = λ e. absurd (false≢true (sym fresh.shut ∙ e));
          run = omega arith;
          next = omega arith;
          given = subst (AreTold channel_room) (sym given) (none_told channel_room);
          ahead = subst (AreTold N) (sym ahead) (none_told N);
          own = rw ahead (same_place N id None);
        };
        slot_is = sym (shut_is v fresh.shut);
        frame_room = omega (arith, same, front);
        text_room = omega (arith, same, back);
      }

-- ---- an answer is of a period that began

-- whether an event is answered
abbrev pub answers : spec.Event → Bool
answers (Begin o) = true
answers (Deliver from tick bytes) = false
answers End = true
answers Restart = false
answers (Reading c x) = false
answers (Ahead j x) = false

-- after an event that is answered some period has begun
pub said_later : {N : ℕ} (v : LiveView N) → IsLive v → (e : spec.Event) → allowed v e ≡ true → answers e ≡ true → 0 < (told v e).next
said_later v is (Begin o) h a = omega arith
said_later v is End h a = omega (arith, is.started h)
said_later v is (Deliver from tick bytes) h a = absurd (false≢true a)
said_later v is Restart h a = absurd (false≢true a)
said_later v is (Reading c x) h a = absurd (false≢true a)
said_later v is (Ahead j x) h a = absurd (false≢true a)

-- a configuration has at most 16 nodes
pub few_nodes : (N : ℕ) (y : Config N) → IsCapacity N → IsConfig N y → y.nodes ≤ 16
few_nodes N y cap fine = elim cap [ inl e ↦ omega (arith, e, fine.few_nodes) | inr e ↦ omega (arith, e, fine.few_nodes) ]

-- what the code answers is what is answered
pub answered : (room : List ℕ) (e : Event) → IsAnswered e → answers (event_in room e) ≡ true
answered room (coded.Begin named) a = refl
answered room coded.End a = refl
answered room (coded.Deliver from tick size) a = absurd a
answered room coded.Restart a = absurd a
answered room (coded.Reading channel value) a = absurd a
answered room (coded.Ahead node by) a = absurd a
