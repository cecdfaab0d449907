use Rattle.std.proofs.Common.{◌≡◌, ◌≤◌, ℤ, true, not, length, take, sym, ap, subst, ◌∙◌, arith, inl, inr, lit<, w64, to_z, of_z}
use Rattle.std.specs.Prelude.{Some, is_some, vec_capacity, set}
use Rattle.node_grid.specs.TruthFacts.{and_both, not_so}
use Rattle.agreed_state.specs.declared.config.Config.{Config}
use Rattle.frames.specs.Content.{IsValue}
use Rattle.node_steps.specs.Parts.{NodeView}
use Rattle.node_steps.specs.Steps.{given_frame, restarted}
use Rattle.live_node.specs.Live.{LiveView, is_open, is_other, is_of_cluster, may_begin, allowed, period_begun, told}
use Rattle.live_node.specs.Seen.{event_in, FitsIn}
use Rattle.live_node.specs.Standing.{IsHeld}
use Rattle.live_node.proofs.Held.{other_is, held_given, held_restarted, held_reading, held_ahead, stored}
use Rattle.std.proofs.Common.{length-take-le}
use Rattle.live_node.proofs.event_node.EventNode.tell.Goals as goal

pub period_of-period-requires : goal.period_of-period-requires
period_of-period-requires g c =
    let may = and_both (not (is_open c.args.self.now)) (may_begin c.args.self.now c.in-Begin.named) (sym (ap (λ e. allowed c.args.self.now (event_in c.args.room.now e)) c.in-Begin.is) ∙ c.requires.allowed) in
    (elim g.bound-1.eight_or_sixteen [ inl e ↦ rw e (lit< tt) | inr e ↦ rw e (lit< tt) ], may.1)

pub begin-requires : goal.begin-requires
begin-requires g c =
    let may = and_both (not (is_open c.args.self.now)) (may_begin c.args.self.now c.in-Begin.named) (sym (ap (λ e. allowed c.args.self.now (event_in c.args.room.now e)) c.in-Begin.is) ∙ c.requires.allowed) in
    (elim g.bound-1.eight_or_sixteen [ inl e ↦ rw e (lit< tt) | inr e ↦ rw e (lit< tt) ], (not_so (is_open c.args.self.now) may.0, c.period_of-period.ensures.later))

pub slice_bounds-deliver-end : goal.slice_bounds-deliver-end
slice_bounds-deliver-end g c =
    let short : c.in-Deliver.size ≤ length c.args.room.now = subst (FitsIn (length c.args.room.now)) c.in-Deliver.is c.requires.fits in
    sym (length-take-le c.in-Deliver.size c.args.room.now short)

pub deliver-requires : goal.deliver-requires
deliver-requires g c =
    let v : LiveView g.row.N = record { scenario = c.self.inside.scenario.now; id = c.self.inside.id; node = c.self.inside.node; next = c.self.inside.next; run = c.self.inside.run; forgot = c.self.inside.forgot; given = c.self.inside.told.given; ahead = c.self.inside.told.ahead; longest = c.self.inside.longest } in
    let same : v ≡ c.args.self.now = c.self.view_is in
    let held : IsHeld v c.self.inside.slot (vec_capacity c.self.inside.frame) (vec_capacity c.self.inside.text) = c.self.invariant in
    let opened : is_open v ≡ true = ap (λ (x : LiveView g.row.N). is_open x) same ∙ (sym (ap (λ e. allowed c.args.self.now (event_in c.args.room.now e)) c.in-Deliver.is) ∙ c.requires.allowed) in
    let other = other_is v held.live c.in-Deliver.from (ap (λ (x : LiveView g.row.N). is_other x c.in-Deliver.from) same ∙ (sym (ap (λ e. is_of_cluster c.args.self.now (event_in c.args.room.now e)) c.in-Deliver.is) ∙ c.requires.of_cluster)) in
    (elim g.bound-1.eight_or_sixteen [ inl e ↦ rw e (lit< tt) | inr e ↦ rw e (lit< tt) ], (opened, (other.0, other.1)))

pub invariant_of-self : goal.invariant_of-self
invariant_of-self g c =
    let v : LiveView g.row.N = record { scenario = c.self.inside.scenario.now; id = c.self.inside.id; node = c.self.inside.node; next = c.self.inside.next; run = c.self.inside.run; forgot = c.self.inside.forgot; given = c.self.inside.told.given; ahead = c.self.inside.told.ahead; longest = c.self.inside.longest } in
    let held : IsHeld v c.self.inside.slot (vec_capacity c.self.inside.frame) (vec_capacity c.self.inside.text) = c.self.invariant in
    held_given v c.self.inside.slot (vec_capacity c.self.inside.frame) (vec_capacity c.self.inside.text) held c.in-Deliver.from c.in-Deliver.tick (take c.in-Deliver.size c.args.room.now) c.deliver.new.self c.deliver.ensures

pub end_slot-requires : goal.end_slot-requires
end_slot-requires g c =
    (elim g.bound-1.eight_or_sixteen [ inl e ↦ rw e (lit< tt) | inr e ↦ rw e (lit< tt) ], (sym (ap (λ e. allowed c.args.self.now (event_in c.args.room.now e)) c.in-End.is) ∙ c.requires.allowed))

pub restart-requires : goal.restart-requires
restart-requires g c =
    let v : LiveView g.row.N = record { scenario = c.self-in-Restart.inside.scenario.now; id = c.self-in-Restart.inside.id; node = c.self-in-Restart.inside.node; next = c.self-in-Restart.inside.next; run = c.self-in-Restart.inside.run; forgot = c.self-in-Restart.inside.forgot; given = c.self-in-Restart.inside.told.given; ahead = c.self-in-Restart.inside.told.ahead; longest = c.self-in-Restart.inside.longest } in
    let same : v ≡ c.args.self.now = c.self-in-Restart.view_is in
    (elim g.bound-1.eight_or_sixteen [ inl e ↦ rw e (lit< tt) | inr e ↦ rw e (lit< tt) ], ap (λ (x : LiveView g.row.N). is_open x) same ∙ not_so (is_open c.args.self.now) (sym (ap (λ e. allowed c.args.self.now (event_in c.args.room.now e)) c.in-Restart.is) ∙ c.requires.allowed))

pub invariant_of-self-in-Restart : goal.invariant_of-self-in-Restart
invariant_of-self-in-Restart g c =
    let v : LiveView g.row.N = record { scenario = c.self-in-Restart.inside.scenario.now; id = c.self-in-Restart.inside.id; node = c.self-in-Restart.inside.node; next = c.self-in-Restart.inside.next; run = c.self-in-Restart.inside.run; forgot = c.self-in-Restart.inside.forgot; given = c.self-in-Restart.inside.told.given; ahead = c.self-in-Restart.inside.told.ahead; longest = c.self-in-Restart.inside.longest } in
    let held : IsHeld v c.self-in-Restart.inside.slot (vec_capacity c.self-in-Restart.inside.frame) (vec_capacity c.self-in-Restart.inside.text) = c.self-in-Restart.invariant in
    held_restarted v c.self-in-Restart.inside.slot (vec_capacity c.self-in-Restart.inside.frame) (vec_capacity c.self-in-Restart.inside.text) held c.restart.new.self c.restart.ensures

pub offset_bounds-self-inside-channel : goal.offset_bounds-self-inside-channel
offset_bounds-self-inside-channel g c =
    let fits : (c.in-Reading.channel ≤ 7) × IsValue c.in-Reading.value = subst (FitsIn (length c.args.room.now)) c.in-Reading.is c.requires.fits in
    omega (arith, fits.0)

pub overflow_cast-channel : goal.overflow_cast-channel
overflow_cast-channel g c =
    let fits : (c.in-Reading.channel ≤ 7) × IsValue c.in-Reading.value = subst (FitsIn (length c.args.room.now)) c.in-Reading.is c.requires.fits in
    omega (arith, fits.0)

pub bounds-self-inside-channel : goal.bounds-self-inside-channel
bounds-self-inside-channel g c =
    let fits : (c.in-Reading.channel ≤ 7) × IsValue c.in-Reading.value = subst (FitsIn (length c.args.room.now)) c.in-Reading.is c.requires.fits in
    omega (arith, fits.0)

pub invariant_of-self-in-Reading : goal.invariant_of-self-in-Reading
invariant_of-self-in-Reading g c =
    let v : LiveView g.row.N = record { scenario = c.self-in-Reading.inside.scenario.now; id = c.self-in-Reading.inside.id; node = c.self-in-Reading.inside.node; next = c.self-in-Reading.inside.next; run = c.self-in-Reading.inside.run; forgot = c.self-in-Reading.inside.forgot; given = c.self-in-Reading.inside.told.given; ahead = c.self-in-Reading.inside.told.ahead; longest = c.self-in-Reading.inside.longest } in
    let held : IsHeld v c.self-in-Reading.inside.slot (vec_capacity c.self-in-Reading.inside.frame) (vec_capacity c.self-in-Reading.inside.text) = c.self-in-Reading.invariant in
    let fits : (c.in-Reading.channel ≤ 7) × IsValue c.in-Reading.value = subst (FitsIn (length c.args.room.now)) c.in-Reading.is c.requires.fits in
    held_reading v c.self-in-Reading.inside.slot (vec_capacity c.self-in-Reading.inside.frame) (vec_capacity c.self-in-Reading.inside.text) held c.in-Reading.channel c.in-Reading.value (to_z w64 (of_z w64 c.in-Reading.value)) fits.1 (stored c.in-Reading.value fits.1)

pub overflow_cast-node : goal.overflow_cast-node
overflow_cast-node g c =
    let fits : (c.in-Ahead.node ≤ 15) × IsValue c.in-Ahead.by = subst (FitsIn (length c.args.room.now)) c.in-Ahead.is c.requires.fits in
    omega (arith, fits.0)

pub offset_bounds-self-inside-node : goal.offset_bounds-self-inside-node
offset_bounds-self-inside-node g c =
    let fits : (c.in-Ahead.node ≤ 15) × IsValue c.in-Ahead.by = subst (FitsIn (length c.args.room.now)) c.in-Ahead.is c.requires.fits in
    omega (arith, fits.0)

pub bounds-self-inside-node : goal.bounds-self-inside-node
bounds-self-inside-node g c =
    let v : LiveView g.row.N = record { scenario = c.self-in-Ahead.inside.scenario.now; id = c.self-in-Ahead.inside.id; node = c.self-in-Ahead.inside.node; next = c.self-in-Ahead.inside.next; run = c.self-in-Ahead.inside.run; forgot = c.self-in-Ahead.inside.forgot; given = c.self-in-Ahead.inside.told.given; ahead = c.self-in-Ahead.inside.told.ahead; longest = c.self-in-Ahead.inside.longest } in
    let same : v ≡ c.args.self.now = c.self-in-Ahead.view_is in
    let held : IsHeld v c.self-in-Ahead.inside.slot (vec_capacity c.self-in-Ahead.inside.frame) (vec_capacity c.self-in-Ahead.inside.text) = c.self-in-Ahead.invariant in
    let other = other_is v held.live c.in-Ahead.node (ap (λ (x : LiveView g.row.N). is_other x c.in-Ahead.node) same ∙ (and_both (is_other c.args.self.now c.in-Ahead.node) (is_some c.args.self.now.scenario.clock) (sym (ap (λ e. is_of_cluster c.args.self.now (event_in c.args.room.now e)) c.in-Ahead.is) ∙ c.requires.of_cluster)).0) in
    let nodes : v.node.config.nodes ≡ v.scenario.config.nodes = ap (λ (y : Config g.row.N). y.nodes) held.live.config in
    let few = held.live.scenario.system.config.few_nodes in
    omega (arith, other.0, nodes, few)

pub invariant_of-self-in-Ahead : goal.invariant_of-self-in-Ahead
invariant_of-self-in-Ahead g c =
    let v : LiveView g.row.N = record { scenario = c.self-in-Ahead.inside.scenario.now; id = c.self-in-Ahead.inside.id; node = c.self-in-Ahead.inside.node; next = c.self-in-Ahead.inside.next; run = c.self-in-Ahead.inside.run; forgot = c.self-in-Ahead.inside.forgot; given = c.self-in-Ahead.inside.told.given; ahead = c.self-in-Ahead.inside.told.ahead; longest = c.self-in-Ahead.inside.longest } in
    let same : v ≡ c.args.self.now = c.self-in-Ahead.view_is in
    let held : IsHeld v c.self-in-Ahead.inside.slot (vec_capacity c.self-in-Ahead.inside.frame) (vec_capacity c.self-in-Ahead.inside.text) = c.self-in-Ahead.invariant in
    let fits : (c.in-Ahead.node ≤ 15) × IsValue c.in-Ahead.by = subst (FitsIn (length c.args.room.now)) c.in-Ahead.is c.requires.fits in
    let other = other_is v held.live c.in-Ahead.node (ap (λ (x : LiveView g.row.N). is_other x c.in-Ahead.node) same ∙ (and_both (is_other c.args.self.now c.in-Ahead.node) (is_some c.args.self.now.scenario.clock) (sym (ap (λ e. is_of_cluster c.args.self.now (event_in c.args.room.now e)) c.in-Ahead.is) ∙ c.requires.of_cluster)).0) in
    held_ahead v c.self-in-Ahead.inside.slot (vec_capacity c.self-in-Ahead.inside.frame) (vec_capacity c.self-in-Ahead.inside.text) held c.in-Ahead.node c.in-Ahead.by (to_z w64 (of_z w64 c.in-Ahead.by)) (λ e. other.1 (e ∙ sym held.live.me)) fits.1 (stored c.in-Ahead.by fits.1)

pub returns-in-Begin : goal.returns-in-Begin
returns-in-Begin g c =
    c.begin.ensures ∙ ap (λ p. period_begun c.args.self.now p) c.period_of-period.ensures.period ∙ sym (ap (λ e. told c.args.self.now (event_in c.args.room.now e)) c.in-Begin.is)

pub returns-in-Deliver : goal.returns-in-Deliver
returns-in-Deliver g c =
    let v : LiveView g.row.N = record { scenario = c.self.inside.scenario.now; id = c.self.inside.id; node = c.self.inside.node; next = c.self.inside.next; run = c.self.inside.run; forgot = c.self.inside.forgot; given = c.self.inside.told.given; ahead = c.self.inside.told.ahead; longest = c.self.inside.longest } in
    let same : v ≡ c.args.self.now = c.self.view_is in
    ap (λ (x : NodeView g.row.N). record v { node = x }) c.deliver.ensures
    ∙ ap (λ (x : LiveView g.row.N). record x { node = given_frame x.node c.in-Deliver.from c.in-Deliver.tick (take c.in-Deliver.size c.args.room.now) }) same
    ∙ sym (ap (λ e. told c.args.self.now (event_in c.args.room.now e)) c.in-Deliver.is)

pub returns-in-End : goal.returns-in-End
returns-in-End g c =
    c.end_slot.ensures ∙ sym (ap (λ e. told c.args.self.now (event_in c.args.room.now e)) c.in-End.is)

pub returns-in-Restart : goal.returns-in-Restart
returns-in-Restart g c =
    let v : LiveView g.row.N = record { scenario = c.self-in-Restart.inside.scenario.now; id = c.self-in-Restart.inside.id; node = c.self-in-Restart.inside.node; next = c.self-in-Restart.inside.next; run = c.self-in-Restart.inside.run; forgot = c.self-in-Restart.inside.forgot; given = c.self-in-Restart.inside.told.given; ahead = c.self-in-Restart.inside.told.ahead; longest = c.self-in-Restart.inside.longest } in
    let same : v ≡ c.args.self.now = c.self-in-Restart.view_is in
    ap (λ (x : NodeView g.row.N). record v { node = x; forgot = true }) c.restart.ensures
    ∙ ap (λ (x : LiveView g.row.N). record x { node = restarted x.node; forgot = true }) same
    ∙ sym (ap (λ e. told c.args.self.now (event_in c.args.room.now e)) c.in-Restart.is)

pub returns-in-Reading : goal.returns-in-Reading
returns-in-Reading g c =
    let v : LiveView g.row.N = record { scenario = c.self-in-Reading.inside.scenario.now; id = c.self-in-Reading.inside.id; node = c.self-in-Reading.inside.node; next = c.self-in-Reading.inside.next; run = c.self-in-Reading.inside.run; forgot = c.self-in-Reading.inside.forgot; given = c.self-in-Reading.inside.told.given; ahead = c.self-in-Reading.inside.told.ahead; longest = c.self-in-Reading.inside.longest } in
    let same : v ≡ c.args.self.now = c.self-in-Reading.view_is in
    let fits : (c.in-Reading.channel ≤ 7) × IsValue c.in-Reading.value = subst (FitsIn (length c.args.room.now)) c.in-Reading.is c.requires.fits in
    ap (λ (x : ℤ). record v { given = set v.given c.in-Reading.channel (Some x) }) (stored c.in-Reading.value fits.1)
    ∙ ap (λ (x : LiveView g.row.N). record x { given = set x.given c.in-Reading.channel (Some c.in-Reading.value) }) same
    ∙ sym (ap (λ e. told c.args.self.now (event_in c.args.room.now e)) c.in-Reading.is)

pub returns-in-Ahead : goal.returns-in-Ahead
returns-in-Ahead g c =
    let v : LiveView g.row.N = record { scenario = c.self-in-Ahead.inside.scenario.now; id = c.self-in-Ahead.inside.id; node = c.self-in-Ahead.inside.node; next = c.self-in-Ahead.inside.next; run = c.self-in-Ahead.inside.run; forgot = c.self-in-Ahead.inside.forgot; given = c.self-in-Ahead.inside.told.given; ahead = c.self-in-Ahead.inside.told.ahead; longest = c.self-in-Ahead.inside.longest } in
    let same : v ≡ c.args.self.now = c.self-in-Ahead.view_is in
    let fits : (c.in-Ahead.node ≤ 15) × IsValue c.in-Ahead.by = subst (FitsIn (length c.args.room.now)) c.in-Ahead.is c.requires.fits in
    ap (λ (x : ℤ). record v { ahead = set v.ahead c.in-Ahead.node (Some x) }) (stored c.in-Ahead.by fits.1)
    ∙ ap (λ (x : LiveView g.row.N). record x { ahead = set x.ahead c.in-Ahead.node (Some c.in-Ahead.by) }) same
    ∙ sym (ap (λ e. told c.args.self.now (event_in c.args.room.now e)) c.in-Ahead.is)
