use Rattle.std.proofs.Common.{ℕ, ◌≡◌, ◌+◌, ◌*◌, List, [], ◌∷◌, length, sym, ap, ◌∙◌, inl, inr, lit<}
use Rattle.std.specs.Prelude.{slice_index_or}
use Rattle.std.specs.Vec.{with_items}
use Rattle.std.proofs.lemmas.List.{with_items_is}
use Rattle.node_grid.specs.CapacityLaws.{capacity-le}
use Rattle.node_grid.specs.NodeSet.{has_id}
use Rattle.omh_paths.specs.declared.wrapped.Wrapped.TheVariants.{Fault}
use Rattle.omh.specs.Omh.{settled_at}
use Rattle.equivocation.specs.Conviction.{convicts}
use Rattle.heard_links.specs.declared.links.Links.{Links}
use Rattle.heard_links.proofs.Sets.{few_m, member_low, node_low}
use Rattle.item_phase.specs.declared.item_phase.ItemPhase.{ItemPhase}
use Rattle.item_phase.specs.Settled.{listener}
use Rattle.item_phase.proofs.Hearers.{settles_by, convicts_by}
use Rattle.item_phase.proofs.Marking.{places_apart}
use Rattle.item_phase.proofs.Sharing.{laid_kept}
use Rattle.item_phase.proofs.item_phase.ItemPhase.listen_to.Goals as goal
use Rattle.item_phase.proofs.item_phase.ItemPhase.listen_to.Goals.{then-phase-ne1, else-phase-ne1}

pub settle-settled-requires : goal.settle-settled-requires
settle-settled-requires g c =
    let x = c.args.phase.now in
    let set = c.requires.heard.set in (
      lit< tt,
      (member_low x set c.args.me c.args.commander c.requires.member, ap length c.as_mut_slice.ensures.value ∙ c.args.self.now.work_room),
    )

pub convicts-convicts-requires : goal.convicts-convicts-requires
convicts-convicts-requires g c =
    let x = c.args.phase.now in
    let me = c.args.me in
    let set = c.requires.heard.set in
    let whole = with_items_is c.args.self.now.work c.settle-settled.new.work (c.settle-settled.auto.work ∙ c.as_mut_slice.ensures.len) in (
      lit< tt,
      (
        ap (λ (ids : List ℕ). has_id ids c.args.commander) c.members_of.ensures ∙ c.requires.member,
        (node_low x set me (set.awake me c.requires.node), (c.requires.other, ap length (c.as_mut_slice-then-phase-ne1.ensures.value ∙ whole) ∙ c.settle-settled.ensures.room)),
      ),
    )

pub lay-requires : goal.lay-requires
lay-requires g c =
    let x = c.args.phase.now in
    let me = c.args.me in
    let set = c.requires.heard.set in (
      elim set.capacity [ inl e ↦ rw e (lit< tt) | inr e ↦ rw e (lit< tt) ],
      (node_low x set me (set.awake me c.requires.node), member_low x set me c.args.commander c.requires.member),
    )

pub returns-clause-here : goal.returns-clause-here
returns-clause-here g c =
    let x = c.args.phase.now in
    let links = c.args.self.now.links in
    let me : ℕ = c.args.me in
    let it : ℕ = c.args.commander in
    let kept : c.if-phase-ne1.self.links ≡ links = elim c.if-phase-ne1.branch [
      | then-phase-ne1 w ↦ ap (λ (s : ItemPhase g.row.V.Denot g.row.N). s.links) w.self-is
      | else-phase-ne1 w ↦ ap (λ (s : ItemPhase g.row.V.Denot g.row.N). s.links) w.self-is
    ] in
    let same : links ≡ c.lay.new.self.links = sym (c.lay.ensures.links ∙ kept) in
    record {
      settled =
          c.lay.ensures.settled ∙ c.settle-settled.ensures.settled
          ∙ settles_by g.V.PartialEq.eq g.V.Item.form x links me c.requires.node c.members_of.result c.has.result c.members_of.ensures c.has.ensures it c.requires.member c.requires.other
          ∙ ap (λ (l : Links g.row.V.Denot g.row.N). settled_at g.V.PartialEq.eq (listener g.V.Item.form x l me) (it ∷ [])) same;
      convicted = λ two.
          c.lay.ensures.convicted
          ∙ elim c.if-phase-ne1.branch [
            | then-phase-ne1 w ↦
                w.convicts-is ∙ w.convicts-convicts.ensures.convicts
                ∙ convicts_by g.V.PartialEq.eq g.V.Item.form x links me c.requires.node c.members_of.result c.has.result c.members_of.ensures c.has.ensures it c.requires.member c.requires.other
            | else-phase-ne1 w ↦ absurd (two w.if-phase-ne1.false)
          ]
          ∙ ap (λ (l : Links g.row.V.Denot g.row.N). convicts g.V.PartialEq.eq (listener g.V.Item.form x l me) it) same;
    }

pub returns-clause-others : goal.returns-clause-others
returns-clause-others g c = λ i k low apart is.
    let x = c.args.phase.now in
    let set = c.requires.heard.set in
    let me = c.args.me in
    let was = c.args.self.now in
    let low_me = node_low x set me (set.awake me c.requires.node) in
    let place : ℕ = k * g.row.N + i in
    let links_kept : c.if-phase-ne1.self.links ≡ was.links = elim c.if-phase-ne1.branch [
      | then-phase-ne1 w ↦ ap (λ (s : ItemPhase g.row.V.Denot g.row.N). s.links) w.self-is
      | else-phase-ne1 w ↦ ap (λ (s : ItemPhase g.row.V.Denot g.row.N). s.links) w.self-is
    ] in
    let each_kept : slice_index_or c.if-phase-ne1.self.each.items place (Fault 0) ≡ slice_index_or was.each.items place (Fault 0) = elim c.if-phase-ne1.branch [
      | then-phase-ne1 w ↦ ap (λ (s : ItemPhase g.row.V.Denot g.row.N). slice_index_or s.each.items place (Fault 0)) w.self-is
      | else-phase-ne1 w ↦ ap (λ (s : ItemPhase g.row.V.Denot g.row.N). slice_index_or s.each.items place (Fault 0)) w.self-is
    ] in
    let sets_kept : has_id (slice_index_or c.if-phase-ne1.self.convicting k []) i ≡ has_id (slice_index_or was.convicting k []) i = elim c.if-phase-ne1.branch [
      | then-phase-ne1 w ↦ ap (λ (s : ItemPhase g.row.V.Denot g.row.N). has_id (slice_index_or s.convicting k []) i) w.self-is
      | else-phase-ne1 w ↦ ap (λ (s : ItemPhase g.row.V.Denot g.row.N). has_id (slice_index_or s.convicting k []) i) w.self-is
    ] in
    laid_kept g.V.PartialEq.eq g.V.Item.form x was.links c.lay.new.self.links was.each.items c.lay.new.self.each.items was.convicting c.lay.new.self.convicting i k is
    (sym (c.lay.ensures.links ∙ links_kept))
    (c.lay.ensures.each place (places_apart g.row.N c.args.commander k i me low low_me apart) ∙ each_kept)
    (c.lay.ensures.convicting i k low apart ∙ sets_kept)

pub members_of-requires : goal.members_of-requires
members_of-requires g c =
    let set = c.requires.heard.set in (
      elim set.capacity [ inl e ↦ rw e (lit< tt) | inr e ↦ rw e (lit< tt) ],
      (lit< tt, node_low c.args.phase.now set c.args.me (set.awake c.args.me c.requires.node)),
    )

pub invariant_of-hearing : goal.invariant_of-hearing
invariant_of-hearing g c = c.requires.heard

pub returns-clause-links : goal.returns-clause-links
returns-clause-links g c = c.lay.ensures.links ∙ elim c.if-phase-ne1.branch [
  | then-phase-ne1 w ↦ ap (λ (s : ItemPhase g.row.V.Denot g.row.N). s.links) w.self-is
  | else-phase-ne1 w ↦ ap (λ (s : ItemPhase g.row.V.Denot g.row.N). s.links) w.self-is
]

pub returns-clause-seen : goal.returns-clause-seen
returns-clause-seen g c = c.lay.ensures.seen ∙ elim c.if-phase-ne1.branch [
  | then-phase-ne1 w ↦ ap (λ (s : ItemPhase g.row.V.Denot g.row.N). s.seen) w.self-is
  | else-phase-ne1 w ↦ ap (λ (s : ItemPhase g.row.V.Denot g.row.N). s.seen) w.self-is
]

pub returns-clause-room : goal.returns-clause-room
returns-clause-room g c = c.lay.ensures.room ∙ elim c.if-phase-ne1.branch [
  | then-phase-ne1 w ↦ ap (λ (s : ItemPhase g.row.V.Denot g.row.N). s.settling) w.self-is
  | else-phase-ne1 w ↦ ap (λ (s : ItemPhase g.row.V.Denot g.row.N). s.settling) w.self-is
]

pub invariant_of-node : goal.invariant_of-node
invariant_of-node g c = record { fits = capacity-le g.row.N c.requires.heard.set.capacity; short = few_m c.args.phase.now c.requires.heard.set }

pub invariant_of-self : goal.invariant_of-self
invariant_of-self g c =
    let s = c.args.self.now in
    let again = with_items_is (with_items s.work c.settle-settled.new.work) c.convicts-convicts.new.work (c.convicts-convicts.auto.work ∙ c.as_mut_slice-then-phase-ne1.ensures.len) in
    record { row_room = s.row_room; each_room = s.each_room; work_room = ap length again ∙ c.convicts-convicts.ensures.room }

pub invariant_of-self-else-phase-ne1 : goal.invariant_of-self-else-phase-ne1
invariant_of-self-else-phase-ne1 g c =
    let s = c.args.self.now in
    let whole = with_items_is s.work c.settle-settled.new.work (c.settle-settled.auto.work ∙ c.as_mut_slice.ensures.len) in
    record { row_room = s.row_room; each_room = s.each_room; work_room = ap length whole ∙ c.settle-settled.ensures.room }
