-- What each event leaves of a node: that it stands as between two lines, which slot is open, and its rooms.
use Rattle.std.proofs.Common.{ℕ, zero, suc, ◌≡◌, ◌≢◌, ◌<◌, ◌≤◌, ◌+◌, ◌*◌, ◌^◌, ◌==◌, Bool, true, false, if◌then◌else◌, ℤ, List, [], ◌∷◌, length, take, get_or, replicate, refl, sym, ap, ◌∙◌, arith, length-set, w64, to_z, of_z}
use mir.Val.{SFits}
use Rattle.std.proofs.lemmas.Int.{to_z-of_z}
use Rattle.std.specs.Prelude.{All, IfSome, Option, None, Some, is_some, unwrap_or, set}
use Rattle.std.proofs.lemmas.Bool.{false≢true, eq-eqb, eqb-true}
use Rattle.std.proofs.lemmas.List.{length-replicate}
use Rattle.std.proofs.lemmas.List.Elements.{All-cons, All-head, All-tail, All-set, All-replicate}
use Rattle.frames.specs.Content.{IsValue}
use Rattle.agreed_state.specs.declared.config.Config.{Config}
use Rattle.agreed_state.specs.declared.config.Inputs.{Inputs}
use Rattle.protocol.specs.View.{channel_room}
use Rattle.node_steps.specs.Parts.{NodeView}
use Rattle.node_steps.specs.Sending.{Fixed}
use Rattle.node_steps.specs.Steps.{shut, slot_taken, after_slot, given_frame, restarted, begun}
use Rattle.node_steps.specs.FixedLaws.{Place, slot_place, after_fixed, slots_period, room_kept}
use Rattle.live_node.specs.Live.{LiveView, is_open, replaced}
use Rattle.live_node.specs.Standing.{IsLive, AreTold, open_slot}
use Rattle.live_node.proofs.Splitting.{not_true}

-- ---- the end of a slot

pub if_true : {A B : Type 0} (f : A → B) (b : Bool) (x y : A) → b ≡ true → f (if b then x else y) ≡ f x
if_true f true x y e = refl
if_true f false x y e = absurd (false≢true e)

pub if_false : {A B : Type 0} (f : A → B) (b : Bool) (x y : A) → b ≡ false → f (if b then x else y) ≡ f y
if_false f true x y e = absurd (false≢true (sym e))
if_false f false x y e = refl

module _ {N : ℕ} (v : NodeView N) where
  abbrev ended_slot : NodeView N
  ended_slot = slot_taken (shut v)

  same_slot : ended_slot.phase.slot ≡ v.phase.slot
  same_slot = ap (λ (p : Place N). p.slot) (slot_place v)

  same_config : ended_slot.config ≡ v.config
  same_config = ap (λ (p : Place N). p.lasts.of_node.config) (slot_place v)

  last_of : 2 * ended_slot.config.m + 3 ≡ 2 * v.config.m + 3
  last_of = ap (λ (y : Config N). 2 * y.m + 3) same_config

  pub after_config : (after_slot v).config ≡ v.config
  after_config = ap (λ (f : Fixed N). f.config) (after_fixed v)

  pub after_me : (after_slot v).phase.me ≡ v.phase.me
  after_me = ap (λ (f : Fixed N). f.me) (after_fixed v)

  pub after_room : (after_slot v).arrived.frame_max ≡ v.arrived.frame_max
  after_room = ap (λ (f : Fixed N). f.room) (after_fixed v)

  pub after_period : (after_slot v).phase.period ≡ v.phase.period
  after_period = slots_period (λ s. []) 1 v

  -- after the last slot none is open
  pub closes : v.phase.slot ≡ 2 * v.config.m + 3 → (after_slot v).phase.is_open ≡ false
  closes e =
      if_true {A = NodeView N} (λ w. w.phase.is_open) (ended_slot.phase.slot == 2 * ended_slot.config.m + 3) _ _ (eq-eqb _ _ (same_slot ∙ e ∙ sym last_of))

  module _ (more : v.phase.slot ≢ 2 * v.config.m + 3) where
    not_last : (ended_slot.phase.slot == 2 * ended_slot.config.m + 3) ≡ false
    not_last = not_true _ (λ t. more (sym same_slot ∙ eqb-true _ _ t ∙ last_of))

    pub goes_on : v.phase.is_open ≡ true → (after_slot v).phase.is_open ≡ true
    goes_on e =
        if_false {A = NodeView N} (λ w. w.phase.is_open) (ended_slot.phase.slot == 2 * ended_slot.config.m + 3) _ _ not_last
        ∙ ap (λ (p : Place N). p.still) (slot_place v) ∙ e

    pub next_slot : (after_slot v).phase.slot ≡ v.phase.slot + 1
    next_slot =
        if_false {A = NodeView N} (λ w. w.phase.slot) (ended_slot.phase.slot == 2 * ended_slot.config.m + 3) _ _ not_last
        ∙ ap (λ t. t + 1) same_slot

pub open_is : {N : ℕ} (v : NodeView N) → v.phase.is_open ≡ true → open_slot v ≡ Some v.phase.slot
open_is v e = ap (λ (b : Bool). if b then Some v.phase.slot else None) e

pub shut_is : {N : ℕ} (v : NodeView N) → v.phase.is_open ≡ false → open_slot v ≡ None
shut_is v e = ap (λ (b : Bool). if b then Some v.phase.slot else None) e

-- ---- a frame that arrives

pub given_room : {N : ℕ} (v : NodeView N) (from tick : ℕ) (bytes : List ℕ) → (given_frame v from tick bytes).arrived.frame_max ≡ v.arrived.frame_max
given_room v from tick bytes = room_kept v.arrived (record { from = from; tick = tick; bytes = bytes } ∷ [])

-- ---- what is told

-- a place of a list of equal things
pub same_place : {A : Type 0} (n i : ℕ) (x : A) → get_or (replicate n x) i x ≡ x
same_place zero i x = refl
same_place (suc n) zero x = refl
same_place (suc n) (suc i) x = same_place n i x

other_place : {A : Type 0} (xs : List A) (i j : ℕ) (x d : A) → i ≢ j → get_or (set xs i x) j d ≡ get_or xs j d
other_place [] i j x d e = refl
other_place (y ∷ ys) zero zero x d e = absurd (e refl)
other_place (y ∷ ys) zero (suc j) x d e = refl
other_place (y ∷ ys) (suc i) zero x d e = refl
other_place (y ∷ ys) (suc i) (suc j) x d e = other_place ys i j x d (λ same. e (ap suc same))

pub none_told : (n : ℕ) → AreTold n (replicate n None)
none_told n = record { each = length-replicate n None; values = All-replicate (λ o. IfSome o IsValue) n None tt }

one_told : (n : ℕ) (xs : List (Option ℤ)) (i : ℕ) (x : ℤ) → IsValue x → AreTold n xs → AreTold n (set xs i (Some x))
one_told n xs i x is h = record { each = length-set _ _ _ ∙ h.each; values = All-set (λ o. IfSome o IsValue) xs i (Some x) is h.values }

-- ---- how a node stands after each event

below : (a b : ℕ) → a ≤ b → a ≢ b → a < b
below a b low more = omega (arith, low, more)

module _ {N : ℕ} (v : LiveView N) (is : IsLive v) where
  pub live_begun : (p : ℕ) (g : Inputs) → v.next ≤ p → p < 2 ^ 32 → IsLive (record v { node = begun v.node p g; next = p + 1; forgot = false; given = replicate channel_room None; ahead = replicate N None })
  live_begun p g later low = record {
    scenario = is.scenario;
    id = is.id;
    config = is.config;
    me = is.me;
    period = λ e. refl;
    started = λ e. omega (arith, is.run, later);
    within = λ e. omega arith;
    run = omega (arith, is.run, later);
    next = omega (arith, low);
    given = none_told channel_room;
    ahead = none_told N;
    own = same_place N v.id None;
  }

  pub live_given : (from tick : ℕ) (bytes : List ℕ) → IsLive (record v { node = given_frame v.node from tick bytes })
  live_given from tick bytes = record { scenario = is.scenario; id = is.id; config = is.config; me = is.me; period = is.period; started = is.started; within = is.within; run = is.run; next = is.next; given = is.given; ahead = is.ahead; own = is.own }

  pub live_restarted : IsLive (record v { node = restarted v.node; forgot = true })
  live_restarted = record { scenario = is.scenario; id = is.id; config = is.config; me = is.me; period = is.period; started = is.started; within = is.within; run = is.run; next = is.next; given = is.given; ahead = is.ahead; own = is.own }

  pub live_reading : (c : ℕ) (x : ℤ) → IsValue x → IsLive (record v { given = set v.given c (Some x) })
  live_reading c x value = record {
    scenario = is.scenario;
    id = is.id;
    config = is.config;
    me = is.me;
    period = is.period;
    started = is.started;
    within = is.within;
    run = is.run;
    next = is.next;
    given = one_told channel_room v.given c x value is.given;
    ahead = is.ahead;
    own = is.own;
  }

  pub live_ahead : (j : ℕ) (x : ℤ) → j ≢ v.id → IsValue x → IsLive (record v { ahead = set v.ahead j (Some x) })
  live_ahead j x other value = record {
    scenario = is.scenario;
    id = is.id;
    config = is.config;
    me = is.me;
    period = is.period;
    started = is.started;
    within = is.within;
    run = is.run;
    next = is.next;
    given = is.given;
    ahead = one_told N v.ahead j x value is.ahead;
    own = other_place v.ahead j v.id (Some x) None other ∙ is.own;
  }

  -- whether the slot that ended is the last of its period
  pub live_last : is_open v ≡ true → v.node.phase.slot ≡ 2 * v.node.config.m + 3 → IsLive (record v { node = after_slot v.node; run = v.run + 1 })
  live_last opened last = record {
    scenario = is.scenario;
    id = is.id;
    config = after_config v.node ∙ is.config;
    me = after_me v.node ∙ is.me;
    period = λ some. is.period some ∙ ap (λ p. p + 1) (sym (after_period v.node));
    started = λ e. absurd (false≢true (sym (closes v.node last) ∙ e));
    within = λ e. absurd (false≢true (sym (closes v.node last) ∙ e));
    run = omega (arith, is.started opened);
    next = is.next;
    given = is.given;
    ahead = is.ahead;
    own = is.own;
  }

  pub live_next : is_open v ≡ true → v.node.phase.slot ≢ 2 * v.node.config.m + 3 → IsLive (record v { node = after_slot v.node })
  live_next opened more = record {
    scenario = is.scenario;
    id = is.id;
    config = after_config v.node ∙ is.config;
    me = after_me v.node ∙ is.me;
    period = λ some. is.period some ∙ ap (λ p. p + 1) (sym (after_period v.node));
    started = λ e. is.started opened;
    within = λ e.
        let slot = next_slot v.node more in
        let low = is.within opened in
        let m : (after_slot v.node).config.m ≡ v.node.config.m = ap (λ (y : Config N). y.m) (after_config v.node) in
        let less : v.node.phase.slot < 2 * v.node.config.m + 3 = below v.node.phase.slot (2 * v.node.config.m + 3) low more in
        omega (arith, slot, m, less);
    run = is.run;
    next = is.next;
    given = is.given;
    ahead = is.ahead;
    own = is.own;
  }

-- ---- the greatest length of a frame

-- ---- readings in their places

-- of so many channels
pub more_replaced : (os : List (Option ℤ)) (xs : List ℤ) (c : ℕ) (v : ℤ) → c < length os → c < length xs → get_or os c None ≡ Some v → set (replaced (take c os) xs) c v ≡ replaced (take (suc c) os) xs
more_replaced [] xs c v low fits e = absurd (omega arith)
more_replaced (o ∷ os) [] c v low fits e = absurd (omega arith)
more_replaced (o ∷ os) (x ∷ xs) zero v low fits e = ap (λ (p : Option ℤ). unwrap_or p x ∷ xs) (sym e)
more_replaced (o ∷ os) (x ∷ xs) (suc c) v low fits e = ap (λ ys. unwrap_or o x ∷ ys) (more_replaced os xs c v (omega (arith, low)) (omega (arith, fits)) e)

pub none_replaced : (os : List (Option ℤ)) (xs : List ℤ) (c : ℕ) → c < length os → get_or os c None ≡ None → replaced (take c os) xs ≡ replaced (take (suc c) os) xs
none_replaced [] xs c low e = absurd (omega arith)
none_replaced (o ∷ os) [] zero low e = refl
none_replaced (o ∷ os) [] (suc c) low e = refl
none_replaced (o ∷ os) (x ∷ xs) zero low e = ap (λ (p : Option ℤ). unwrap_or p x ∷ xs) (sym e)
none_replaced (o ∷ os) (x ∷ xs) (suc c) low e = ap (λ ys. unwrap_or o x ∷ ys) (none_replaced os xs c (omega (arith, low)) e)

value_of : (o : Option ℤ) (x : ℤ) → IfSome o IsValue → IsValue x → IsValue (unwrap_or o x)
value_of None x h is = is
value_of (Some y) x h is = h

pub values_replaced : (os : List (Option ℤ)) (xs : List ℤ) → All (λ o. IfSome o IsValue) os → All IsValue xs → All IsValue (replaced os xs)
values_replaced [] xs h are = are
values_replaced (o ∷ os) [] h are = are
values_replaced (o ∷ os) (x ∷ xs) h are =
    All-cons IsValue (unwrap_or o x) (replaced os xs) (value_of o x (All-head (λ p. IfSome p IsValue) o os h) (All-head IsValue x xs are))
    (values_replaced os xs (All-tail (λ p. IfSome p IsValue) o os h) (All-tail IsValue x xs are))

pub length-replaced : (os : List (Option ℤ)) (xs : List ℤ) → length (replaced os xs) ≡ length xs
length-replaced [] xs = refl
length-replaced (o ∷ os) [] = refl
length-replaced (o ∷ os) (x ∷ xs) = ap suc (length-replaced os xs)

-- ---- what the code keeps of the open slot

pub open_some : {N : ℕ} (v : NodeView N) → is_some (open_slot v) ≡ v.phase.is_open
open_some v = some_if v.phase.is_open v.phase.slot where
  some_if : (b : Bool) (t : ℕ) → is_some (if b then Some t else None) ≡ b
  some_if true t = refl
  some_if false t = refl

-- a reading was put in its place
pub put_reading : (os : List (Option ℤ)) (xs now after : List ℤ) (c : ℕ) (v : ℤ) → now ≡ replaced (take c os) xs → c < length os → c < length xs → get_or os c None ≡ Some v → SFits w64 v
    → after ≡ set now c (to_z w64 (of_z w64 v)) → after ≡ replaced (take (c + 1) os) xs
put_reading os xs now after c v before low fits is whole put =
    put ∙ ap (set now c) (to_z-of_z w64 v whole) ∙ ap (λ ys. set ys c v) before ∙ more_replaced os xs c v low fits is ∙ ap (λ n. replaced (take n os) xs) (let e : suc c ≡ c + 1 = omega arith in e)

pub left_reading : (os : List (Option ℤ)) (xs now after : List ℤ) (c : ℕ) → now ≡ replaced (take c os) xs → c < length os → get_or os c None ≡ None → after ≡ now → after ≡ replaced (take (c + 1) os) xs
left_reading os xs now after c before low is same = same ∙ before ∙ none_replaced os xs c low is ∙ ap (λ n. replaced (take n os) xs) (let e : suc c ≡ c + 1 = omega arith in e)
