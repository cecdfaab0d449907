use Rattle.std.proofs.Common.{ℕ, ◌≡◌, ◌<◌, ◌+◌, ◌*◌, List, [], length, refl, sym, ap, ◌∙◌, arith, get_or, get_or-set_same, get_or-set_other, lit<}
use Rattle.std.proofs.lemmas.List.{with_items_is}
use Rattle.std.proofs.lemmas.Nat.{mul-le}
use Rattle.node_grid.specs.CapacityLaws.{capacity-le}
use Rattle.node_grid.specs.NodeSet.{has_id}
use Rattle.node_grid.specs.SetFacts.{member-lt}
use Rattle.omh_paths.specs.declared.wrapped.Wrapped.{Wrapped}
use Rattle.omh_paths.specs.declared.wrapped.Wrapped.TheVariants.{Fault}
use Rattle.heard_links.proofs.Sets.{node_low}
use Rattle.item_phase.proofs.Placing.{rows_apart, row_within}
use Rattle.item_phase.proofs.Sharing.{laid_kept}
use Rattle.item_phase.proofs.item_phase.ItemPhase.agree_on.Goals as goal

pub lay_row-requires : goal.lay_row-requires
lay_row-requires g c =
    let s = c.args.self.now in
    let x = c.args.phase.now in
    let told = c.requires.told in
    let set = told.heard.set in
    let low = node_low x set c.args.commander (member-lt x.config.now.nodes c.args.members.now c.args.commander told.all.ids told.member) in
    let cap = capacity-le g.row.N set.capacity in
    let most = mul-le g.row.N g.row.N 16 16 cap cap in
    let inside = row_within g.row.N c.args.commander low in
    let row_long : s.row.len ≡ g.row.N = sym c.as_mut_slice.ensures.len ∙ ap length c.as_mut_slice.ensures.value ∙ s.row_room in
    let each_long : length c.as_mut_slice-2.result.now ≡ g.row.N * g.row.N = ap length c.as_mut_slice-2.ensures.value ∙ s.each_room in
    (omega arith, (c.as_slice.ensures.len ∙ row_long, (omega (arith, inside, each_long), omega (arith, most, each_long))))

pub listed : goal.listed
listed g c =
    let told = c.requires.told in
    let x = c.args.phase.now in
    let low = node_low x told.heard.set c.args.commander (member-lt x.config.now.nodes c.args.members.now c.args.commander told.all.ids told.member) in
    omega (arith, low)

pub bounds-self-commander : goal.bounds-self-commander
bounds-self-commander g c =
    let told = c.requires.told in
    let x = c.args.phase.now in
    node_low x told.heard.set c.args.commander (member-lt x.config.now.nodes c.args.members.now c.args.commander told.all.ids told.member)

pub returns-then-phase-ne1-clause-here : goal.returns-then-phase-ne1-clause-here
returns-then-phase-ne1-clause-here g c = λ i on ne.
    let s = c.args.self.now in
    let x = c.args.phase.now in
    let told = c.requires.told in
    let low = node_low x told.heard.set c.args.commander (member-lt x.config.now.nodes c.args.members.now c.args.commander told.all.ids told.member) in
    let row_long : s.row.len ≡ g.row.N = sym c.as_mut_slice.ensures.len ∙ ap length c.as_mut_slice.ensures.value ∙ s.row_room in
    let row_is = c.as_slice.ensures.value ∙ with_items_is s.row c.settle.new.row (c.settle.ensures.places ∙ sym row_long) in
    let each_is = with_items_is s.each c.lay_row.new.values (c.lay_row.ensures.room ∙ c.as_mut_slice-2.ensures.len) in
    let room : c.args.commander < length s.convicting = omega (arith, low) in
    record {
      settled =
          ap (λ (vs : List (Wrapped g.row.V.Denot)). get_or vs (c.args.commander * g.row.N + i) (Fault 0)) each_is
          ∙ c.lay_row.ensures.laid i on
          ∙ ap (λ (vs : List (Wrapped g.row.V.Denot)). get_or vs i (Fault 0)) row_is
          ∙ c.settle.ensures.settled i on ne;
      convicted = λ two.
          ap (λ (ids : List ℕ). has_id ids i) (get_or-set_same s.convicting c.args.commander c.convicting.result [] room) ∙ c.convicting.ensures.convicts i on ne;
    }

pub returns-then-phase-ne1-clause-others : goal.returns-then-phase-ne1-clause-others
returns-then-phase-ne1-clause-others g c = λ i k low ne is.
    let s = c.args.self.now in
    let each_is = with_items_is s.each c.lay_row.new.values (c.lay_row.ensures.room ∙ c.as_mut_slice-2.ensures.len) in
    laid_kept g.V.PartialEq.eq g.V.Item.form c.args.phase.now s.links s.links s.each.items _ s.convicting _ i k is refl
    (ap (λ (vs : List (Wrapped g.row.V.Denot)). get_or vs (k * g.row.N + i) (Fault 0)) each_is
    ∙ c.lay_row.ensures.kept (k * g.row.N + i) (rows_apart g.row.N c.args.commander k i ne low)
    ∙ ap (λ (vs : List (Wrapped g.row.V.Denot)). get_or vs (k * g.row.N + i) (Fault 0)) c.as_mut_slice-2.ensures.value)
    (ap (λ (ids : List ℕ). has_id ids i) (get_or-set_other s.convicting c.args.commander k c.convicting.result [] ne))

pub returns-else-phase-ne1-clause-here : goal.returns-else-phase-ne1-clause-here
returns-else-phase-ne1-clause-here g c = λ i on ne.
    let s = c.args.self.now in
    let row_long : s.row.len ≡ g.row.N = sym c.as_mut_slice.ensures.len ∙ ap length c.as_mut_slice.ensures.value ∙ s.row_room in
    let row_is = c.as_slice.ensures.value ∙ with_items_is s.row c.settle.new.row (c.settle.ensures.places ∙ sym row_long) in
    let each_is = with_items_is s.each c.lay_row.new.values (c.lay_row.ensures.room ∙ c.as_mut_slice-2.ensures.len) in
    record {
      settled =
          ap (λ (vs : List (Wrapped g.row.V.Denot)). get_or vs (c.args.commander * g.row.N + i) (Fault 0)) each_is
          ∙ c.lay_row.ensures.laid i on
          ∙ ap (λ (vs : List (Wrapped g.row.V.Denot)). get_or vs i (Fault 0)) row_is
          ∙ c.settle.ensures.settled i on ne;
      convicted = λ two. absurd (two c.if-phase-ne1.false);
    }

pub returns-else-phase-ne1-clause-others : goal.returns-else-phase-ne1-clause-others
returns-else-phase-ne1-clause-others g c = λ i k low ne is.
    let s = c.args.self.now in
    let each_is = with_items_is s.each c.lay_row.new.values (c.lay_row.ensures.room ∙ c.as_mut_slice-2.ensures.len) in
    laid_kept g.V.PartialEq.eq g.V.Item.form c.args.phase.now s.links s.links s.each.items _ s.convicting s.convicting i k is refl
    (ap (λ (vs : List (Wrapped g.row.V.Denot)). get_or vs (k * g.row.N + i) (Fault 0)) each_is
    ∙ c.lay_row.ensures.kept (k * g.row.N + i) (rows_apart g.row.N c.args.commander k i ne low)
    ∙ ap (λ (vs : List (Wrapped g.row.V.Denot)). get_or vs (k * g.row.N + i) (Fault 0)) c.as_mut_slice-2.ensures.value)
    refl

pub settle-requires : goal.settle-requires
settle-requires g c = (lit< tt, (lit< tt, (c.requires.told, (c.requires.room, ap length c.as_mut_slice.ensures.value ∙ c.args.self.now.row_room))))

pub convicting-requires : goal.convicting-requires
convicting-requires g c = (lit< tt, (lit< tt, (lit< tt, c.requires.told)))

pub overflow_mul-commander : goal.overflow_mul-commander
overflow_mul-commander g c =
    let told = c.requires.told in
    let x = c.args.phase.now in
    let low = node_low x told.heard.set c.args.commander (member-lt x.config.now.nodes c.args.members.now c.args.commander told.all.ids told.member) in
    let cap = capacity-le g.row.N told.heard.set.capacity in
    let most = mul-le c.args.commander g.row.N 16 16 (omega (arith, low, cap)) cap in
    omega (arith, most)

pub invariant_of-self : goal.invariant_of-self
invariant_of-self g c =
    let s = c.args.self.now in
    let row_long : s.row.len ≡ g.row.N = sym c.as_mut_slice.ensures.len ∙ ap length c.as_mut_slice.ensures.value ∙ s.row_room in
    record {
      row_room = ap length (with_items_is s.row c.settle.new.row (c.settle.ensures.places ∙ sym row_long)) ∙ c.settle.ensures.places;
      each_room = ap length (with_items_is s.each c.lay_row.new.values (c.lay_row.ensures.room ∙ c.as_mut_slice-2.ensures.len)) ∙ c.lay_row.ensures.room ∙ ap length c.as_mut_slice-2.ensures.value ∙ s.each_room;
      work_room = s.work_room;
    }

pub invariant_of-self-then-phase-ne1 : goal.invariant_of-self-then-phase-ne1
invariant_of-self-then-phase-ne1 g c =
    let s = c.args.self.now in
    let row_long : s.row.len ≡ g.row.N = sym c.as_mut_slice.ensures.len ∙ ap length c.as_mut_slice.ensures.value ∙ s.row_room in
    record {
      row_room = ap length (with_items_is s.row c.settle.new.row (c.settle.ensures.places ∙ sym row_long)) ∙ c.settle.ensures.places;
      each_room = ap length (with_items_is s.each c.lay_row.new.values (c.lay_row.ensures.room ∙ c.as_mut_slice-2.ensures.len)) ∙ c.lay_row.ensures.room ∙ ap length c.as_mut_slice-2.ensures.value ∙ s.each_room;
      work_room = s.work_room;
    }

pub invariant_of-self-else-phase-ne1 : goal.invariant_of-self-else-phase-ne1
invariant_of-self-else-phase-ne1 g c =
    let s = c.args.self.now in
    let row_long : s.row.len ≡ g.row.N = sym c.as_mut_slice.ensures.len ∙ ap length c.as_mut_slice.ensures.value ∙ s.row_room in
    record {
      row_room = ap length (with_items_is s.row c.settle.new.row (c.settle.ensures.places ∙ sym row_long)) ∙ c.settle.ensures.places;
      each_room = ap length (with_items_is s.each c.lay_row.new.values (c.lay_row.ensures.room ∙ c.as_mut_slice-2.ensures.len)) ∙ c.lay_row.ensures.room ∙ ap length c.as_mut_slice-2.ensures.value ∙ s.each_room;
      work_room = s.work_room;
    }
