use Rattle.std.proofs.Common.{◌≡◌, ◌+◌, ◌*◌, true, sym, ap, ◌∙◌, arith, inl, inr, lit<}
use Rattle.std.specs.Prelude.{vec_capacity}
use Rattle.agreed_state.specs.declared.config.Config.{Config}
use Rattle.agreed_state.specs.ConfigLaws.{few_rounds}
use Rattle.live_node.specs.Live.{LiveView, is_open}
use Rattle.live_node.specs.Standing.{IsHeld}
use Rattle.live_node.proofs.Held.{shut_at, slot_small, held_next, next_is, held_last, last_is}
use Rattle.std.proofs.lemmas.Bool.{false≢true}
use Rattle.live_node.proofs.event_node.EventNode.end_slot.Goals as goal

pub returns-in_default : goal.returns-in_default
returns-in_default g c =
    let v : LiveView g.row.N = record { scenario = c.self.inside.scenario.now; id = c.self.inside.id; node = c.self.inside.node; next = c.self.inside.next; run = c.self.inside.run; forgot = c.self.inside.forgot; given = c.self.inside.told.given; ahead = c.self.inside.told.ahead; longest = c.self.inside.longest } in
    let same : v ≡ c.args.self.now = c.self.view_is in
    let held : IsHeld v c.self.inside.slot (vec_capacity c.self.inside.frame) (vec_capacity c.self.inside.text) = c.self.invariant in
    let opened : is_open v ≡ true = ap (λ (x : LiveView g.row.N). is_open x) same ∙ c.requires.open in
    absurd (false≢true (sym (shut_at v.node c.self.inside.slot held.slot_is c.in_default.is) ∙ opened))

pub slot_end-requires : goal.slot_end-requires
slot_end-requires g c =
    let v : LiveView g.row.N = record { scenario = c.self.inside.scenario.now; id = c.self.inside.id; node = c.self.inside.node; next = c.self.inside.next; run = c.self.inside.run; forgot = c.self.inside.forgot; given = c.self.inside.told.given; ahead = c.self.inside.told.ahead; longest = c.self.inside.longest } in
    let same : v ≡ c.args.self.now = c.self.view_is in
    let opened : is_open v ≡ true = ap (λ (x : LiveView g.row.N). is_open x) same ∙ c.requires.open in
    (elim g.bound-1.eight_or_sixteen [ inl e ↦ rw e (lit< tt) | inr e ↦ rw e (lit< tt) ], opened)

pub overflow_add-slot : goal.overflow_add-slot
overflow_add-slot g c =
    let v : LiveView g.row.N = record { scenario = c.self.inside.scenario.now; id = c.self.inside.id; node = c.self.inside.node; next = c.self.inside.next; run = c.self.inside.run; forgot = c.self.inside.forgot; given = c.self.inside.told.given; ahead = c.self.inside.told.ahead; longest = c.self.inside.longest } in
    let same : v ≡ c.args.self.now = c.self.view_is in
    let held : IsHeld v c.self.inside.slot (vec_capacity c.self.inside.frame) (vec_capacity c.self.inside.text) = c.self.invariant in
    let opened : is_open v ≡ true = ap (λ (x : LiveView g.row.N). is_open x) same ∙ c.requires.open in
    let small = slot_small v c.self.inside.slot (vec_capacity c.self.inside.frame) (vec_capacity c.self.inside.text) held c.in-Some.slot c.in-Some.is opened in omega (arith, small.1)

pub config-requires : goal.config-requires
config-requires g c =
    elim g.bound-1.eight_or_sixteen [ inl e ↦ rw e (lit< tt, lit< tt) | inr e ↦ rw e (lit< tt, lit< tt) ]

pub slot_count-requires : goal.slot_count-requires
slot_count-requires g c =
    let v : LiveView g.row.N = record { scenario = c.self.inside.scenario.now; id = c.self.inside.id; node = c.self.inside.node; next = c.self.inside.next; run = c.self.inside.run; forgot = c.self.inside.forgot; given = c.self.inside.told.given; ahead = c.self.inside.told.ahead; longest = c.self.inside.longest } in
    let held : IsHeld v c.self.inside.slot (vec_capacity c.self.inside.frame) (vec_capacity c.self.inside.text) = c.self.invariant in
    let few = few_rounds g.row.N v.scenario.config held.live.scenario.system.config in
    let m : c.config.result.now.m ≡ v.scenario.config.m = ap (λ (y : Config g.row.N). y.m) c.config.ensures.config in
    omega (arith, few, m)

pub overflow_add-self : goal.overflow_add-self
overflow_add-self g c =
    let v : LiveView g.row.N = record { scenario = c.self.inside.scenario.now; id = c.self.inside.id; node = c.self.inside.node; next = c.self.inside.next; run = c.self.inside.run; forgot = c.self.inside.forgot; given = c.self.inside.told.given; ahead = c.self.inside.told.ahead; longest = c.self.inside.longest } in
    let same : v ≡ c.args.self.now = c.self.view_is in
    let held : IsHeld v c.self.inside.slot (vec_capacity c.self.inside.frame) (vec_capacity c.self.inside.text) = c.self.invariant in
    let opened : is_open v ≡ true = ap (λ (x : LiveView g.row.N). is_open x) same ∙ c.requires.open in
    let small = slot_small v c.self.inside.slot (vec_capacity c.self.inside.frame) (vec_capacity c.self.inside.text) held c.in-Some.slot c.in-Some.is opened in omega (arith, small.1)

pub invariant_of-self : goal.invariant_of-self
invariant_of-self g c =
    let v : LiveView g.row.N = record { scenario = c.self.inside.scenario.now; id = c.self.inside.id; node = c.self.inside.node; next = c.self.inside.next; run = c.self.inside.run; forgot = c.self.inside.forgot; given = c.self.inside.told.given; ahead = c.self.inside.told.ahead; longest = c.self.inside.longest } in
    let same : v ≡ c.args.self.now = c.self.view_is in
    let held : IsHeld v c.self.inside.slot (vec_capacity c.self.inside.frame) (vec_capacity c.self.inside.text) = c.self.invariant in
    let opened : is_open v ≡ true = ap (λ (x : LiveView g.row.N). is_open x) same ∙ c.requires.open in
    let small = slot_small v c.self.inside.slot (vec_capacity c.self.inside.frame) (vec_capacity c.self.inside.text) held c.in-Some.slot c.in-Some.is opened in
    let count : c.slot_count.result ≡ 2 * v.node.config.m + 4 =
    c.slot_count.ensures ∙ ap (λ (y : Config g.row.N). 2 * y.m + 4) (c.config.ensures.config ∙ sym held.live.config) in
    let test = c.if-slot-slot_count.true in
    held_next v c.self.inside.slot (vec_capacity c.self.inside.frame) (vec_capacity c.self.inside.text) held c.slot_end.new.self c.slot_end.ensures opened (λ e. absurd (omega (arith, e, small.0, count, test))) c.in-Some.slot small.0

pub overflow_add-self-else-slot-slot_count : goal.overflow_add-self-else-slot-slot_count
overflow_add-self-else-slot-slot_count g c =
    let v : LiveView g.row.N = record { scenario = c.self.inside.scenario.now; id = c.self.inside.id; node = c.self.inside.node; next = c.self.inside.next; run = c.self.inside.run; forgot = c.self.inside.forgot; given = c.self.inside.told.given; ahead = c.self.inside.told.ahead; longest = c.self.inside.longest } in
    let same : v ≡ c.args.self.now = c.self.view_is in
    let held : IsHeld v c.self.inside.slot (vec_capacity c.self.inside.frame) (vec_capacity c.self.inside.text) = c.self.invariant in
    let opened : is_open v ≡ true = ap (λ (x : LiveView g.row.N). is_open x) same ∙ c.requires.open in
    let started = held.live.started opened in let next = held.live.next in omega (arith, started, next)

pub invariant_of-self-else-slot-slot_count : goal.invariant_of-self-else-slot-slot_count
invariant_of-self-else-slot-slot_count g c =
    let v : LiveView g.row.N = record { scenario = c.self.inside.scenario.now; id = c.self.inside.id; node = c.self.inside.node; next = c.self.inside.next; run = c.self.inside.run; forgot = c.self.inside.forgot; given = c.self.inside.told.given; ahead = c.self.inside.told.ahead; longest = c.self.inside.longest } in
    let same : v ≡ c.args.self.now = c.self.view_is in
    let held : IsHeld v c.self.inside.slot (vec_capacity c.self.inside.frame) (vec_capacity c.self.inside.text) = c.self.invariant in
    let opened : is_open v ≡ true = ap (λ (x : LiveView g.row.N). is_open x) same ∙ c.requires.open in
    let small = slot_small v c.self.inside.slot (vec_capacity c.self.inside.frame) (vec_capacity c.self.inside.text) held c.in-Some.slot c.in-Some.is opened in
    let count : c.slot_count.result ≡ 2 * v.node.config.m + 4 =
    c.slot_count.ensures ∙ ap (λ (y : Config g.row.N). 2 * y.m + 4) (c.config.ensures.config ∙ sym held.live.config) in
    let test = c.if-slot-slot_count.false in
    let within = held.live.within opened in
    held_last v c.self.inside.slot (vec_capacity c.self.inside.frame) (vec_capacity c.self.inside.text) held c.slot_end.new.self c.slot_end.ensures opened (omega (arith, small.0, count, test, within))

pub returns-then-slot-slot_count : goal.returns-then-slot-slot_count
returns-then-slot-slot_count g c =
    let v : LiveView g.row.N = record { scenario = c.self.inside.scenario.now; id = c.self.inside.id; node = c.self.inside.node; next = c.self.inside.next; run = c.self.inside.run; forgot = c.self.inside.forgot; given = c.self.inside.told.given; ahead = c.self.inside.told.ahead; longest = c.self.inside.longest } in
    let same : v ≡ c.args.self.now = c.self.view_is in
    let held : IsHeld v c.self.inside.slot (vec_capacity c.self.inside.frame) (vec_capacity c.self.inside.text) = c.self.invariant in
    let opened : is_open v ≡ true = ap (λ (x : LiveView g.row.N). is_open x) same ∙ c.requires.open in
    let small = slot_small v c.self.inside.slot (vec_capacity c.self.inside.frame) (vec_capacity c.self.inside.text) held c.in-Some.slot c.in-Some.is opened in
    let count : c.slot_count.result ≡ 2 * v.node.config.m + 4 =
    c.slot_count.ensures ∙ ap (λ (y : Config g.row.N). 2 * y.m + 4) (c.config.ensures.config ∙ sym held.live.config) in
    let test = c.if-slot-slot_count.true in
    next_is v c.self.inside.slot (vec_capacity c.self.inside.frame) (vec_capacity c.self.inside.text) held c.slot_end.new.self c.slot_end.ensures opened (λ e. absurd (omega (arith, e, small.0, count, test))) c.args.self.now same

pub returns-else-slot-slot_count : goal.returns-else-slot-slot_count
returns-else-slot-slot_count g c =
    let v : LiveView g.row.N = record { scenario = c.self.inside.scenario.now; id = c.self.inside.id; node = c.self.inside.node; next = c.self.inside.next; run = c.self.inside.run; forgot = c.self.inside.forgot; given = c.self.inside.told.given; ahead = c.self.inside.told.ahead; longest = c.self.inside.longest } in
    let same : v ≡ c.args.self.now = c.self.view_is in
    let held : IsHeld v c.self.inside.slot (vec_capacity c.self.inside.frame) (vec_capacity c.self.inside.text) = c.self.invariant in
    let opened : is_open v ≡ true = ap (λ (x : LiveView g.row.N). is_open x) same ∙ c.requires.open in
    let small = slot_small v c.self.inside.slot (vec_capacity c.self.inside.frame) (vec_capacity c.self.inside.text) held c.in-Some.slot c.in-Some.is opened in
    let count : c.slot_count.result ≡ 2 * v.node.config.m + 4 =
    c.slot_count.ensures ∙ ap (λ (y : Config g.row.N). 2 * y.m + 4) (c.config.ensures.config ∙ sym held.live.config) in
    let test = c.if-slot-slot_count.false in
    let within = held.live.within opened in
    last_is v c.self.inside.slot (vec_capacity c.self.inside.frame) (vec_capacity c.self.inside.text) held c.slot_end.new.self c.slot_end.ensures opened (omega (arith, small.0, count, test, within)) c.args.self.now same
