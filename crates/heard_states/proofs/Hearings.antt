-- What a node makes of a good frame, and what is noted of it.
use Rattle.std.proofs.Common.{ℕ, ◌≡◌, Bool, true, false, not, ◌&&◌, ◌||◌, ◌==◌, List, Option, Some, refl, sym, ap, ap₂, subst, ◌∙◌}
use Rattle.std.specs.Prelude.{if◌then◌else◌, ◌↔◌, is_some, IsTrue}
use Rattle.std.specs.Cmp.Lexicographic.{pointwise}
use Rattle.std.proofs.lemmas.Option.{same_Some}
use Rattle.std.proofs.lemmas.Slice.Eq.{bytes_eq-Decides}
use Rattle.node_grid.specs.Capacity.{IsCapacity}
use Rattle.node_grid.specs.CapacityLaws.{capacity-le}
use Rattle.node_grid.specs.Kinds.{state}
use Rattle.error_reports.specs.Notes.{is_kind}
use Rattle.error_reports.specs.NoteLaws.{kind_where}
use Rattle.agreed_state.specs.declared.config.Config.{Config}
use Rattle.agreed_state.specs.Config.{IsConfig}
use Rattle.agreed_state.specs.Agreed.{AgreedView, IsAgreed}
use Rattle.agreed_state.specs.Body.{body, read_body}
use Rattle.agreed_state.specs.ReadLaws.{read_back}
use Rattle.protocol.specs.Arrival.{Arrival, is_bad, is_good}
use Rattle.protocol.specs.Arrival.Arrival.{Bad, Good}
use Rattle.protocol.specs.View.{other_body}
use Rattle.shared_states.specs.Sharing.{state_at, IsShared}
use Rattle.heard_states.specs.Slot.{noted_states}
use Rattle.heard_states.specs.Hearing.{IsHeardAs, is_heard_well, heard_kind}
use Rattle.heard_states.specs.declared.hearing.Heard.{Heard}
use Rattle.heard_states.specs.declared.hearing.Heard.TheVariants as heard

-- two agreed states with one body are the same
one_state : {n : ℕ} (config : Config n) (a b : AgreedView) → IsCapacity n → IsConfig n config → IsAgreed n config a → IsAgreed n config b → body config a ≡ body config b → a ≡ b
one_state {n} config a b capacity ok first second same =
    let small = capacity-le n capacity in
    same_Some a b (sym (read_back n config a small ok first) ∙ ap (read_body n config) same ∙ read_back n config b small ok second)

-- a good frame, by whether it tells the node's own state
pub heard_good : {n : ℕ} (config : Config n) (own : Option AgreedView) (is_own : Bool) (h : Heard) (b : Arrival (List ℕ)) (bytes : List ℕ)
    → h ≡ (if is_own then heard.Same else heard.Other) → b ≡ Good bytes → ((a : AgreedView) → own ≡ Some a → is_own ≡ not (other_body (body config a) (Good bytes))) → IsHeardAs config own h b
heard_good config own true h b bytes is good same =
    subst (λ (x : Heard). IsHeardAs config own x b) (sym is) (ap is_good good, λ a e. ap (other_body (body config a)) good ∙ flip (other_body (body config a) (Good bytes)) (same a e))
  where
    flip : (x : Bool) → true ≡ not x → x ≡ false
    flip true h = absurd (cc)
    flip false h = refl
heard_good config own false h b bytes is good same =
    subst (λ (x : Heard). IsHeardAs config own x b) (sym is) (ap is_good good, λ a e. ap (other_body (body config a)) good ∙ flip (other_body (body config a) (Good bytes)) (same a e))
  where
    flip : (x : Bool) → false ≡ not x → x ≡ true
    flip false h = absurd (cc)
    flip true h = refl

-- whether another full node sends the node's own state
pub own_sent : {n : ℕ} (config : Config n) (states : List (Option AgreedView)) (to from : ℕ) (alike : Bool) (a b : AgreedView) → IsCapacity n → IsConfig n config
    → IsAgreed n config a → IsAgreed n config b → state_at states to ≡ Some a → state_at states from ≡ Some b → (IsTrue alike ↔ IsShared states to from)
    → alike ≡ not (other_body (body config a) (Good (body config b)))
own_sent config states to from true a b capacity ok first second mine other is =
    let shared = is.0 refl in
    let same : b ≡ a = same_Some b a (sym other ∙ shared.1 ∙ mine) in
    let t : pointwise ◌==◌ (body config a) (body config b) ≡ true = (bytes_eq-Decides (body config a) (body config b)).1 (ap (body config) (sym same)) in
    ap (λ x. not (not x)) (sym t)
own_sent config states to from false a b capacity ok first second mine other is = by (pointwise ◌==◌ (body config a) (body config b)) refl
  where
    by : (x : Bool) → pointwise ◌==◌ (body config a) (body config b) ≡ x → false ≡ not (other_body (body config a) (Good (body config b)))
    by false e = ap (λ x. not (not x)) (sym e)
    by true e =
        let same : a ≡ b = one_state config a b capacity ok first second ((bytes_eq-Decides (body config a) (body config b)).0 e) in
        let t : false ≡ true = is.1 (ap is_some mine, other ∙ ap Some (sym same) ∙ sym mine) in
        absurd (cc)

-- whether it is good
pub heard_well : {n : ℕ} (config : Config n) (own : Option AgreedView) (h : Heard) (b : Arrival (List ℕ)) → IsHeardAs config own h b → is_heard_well h ≡ is_good b
heard_well config own (heard.Bad k) b is = sym (ap is_good is)
heard_well config own heard.Same b is = sym is.0
heard_well config own heard.Other b is = sym is.0

pub good_bad : (b : Arrival (List ℕ)) (k : ℕ) → is_good b ≡ true → is_bad b k ≡ false
good_bad (Bad x) k h = absurd (cc)
good_bad (Good c) k h = refl

-- what is noted of it
pub heard_noted : {n : ℕ} (config : Config n) (own : Option AgreedView) (h : Heard) (a : AgreedView) (sync : ℕ → Arrival (List ℕ)) (j k : ℕ) → own ≡ Some a → IsHeardAs config own h (sync j)
    → is_kind (heard_kind h) k ≡ noted_states config a sync j k
heard_noted config own (heard.Bad x) a sync j k mine is =
    sym (ap (λ (b : Arrival (List ℕ)). is_bad b k || (other_body (body config a) b && k == state)) is ∙ or_none (x == k))
  where
    or_none : (b : Bool) → (b || false) ≡ b
    or_none true = refl
    or_none false = refl
heard_noted config own heard.Same a sync j k mine is =
    sym (ap₂ (λ x y. x || (y && k == state)) (good_bad (sync j) k is.0) (is.1 a mine))
heard_noted config own heard.Other a sync j k mine is =
    sym (ap₂ (λ x y. x || (y && k == state)) (good_bad (sync j) k is.0) (is.1 a mine) ∙ sym (kind_where true state k))

pub other_same : (own : List ℕ) → other_body own (Good own) ≡ false
other_same own = ap not ((bytes_eq-Decides own own).1 refl)
