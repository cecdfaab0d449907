use Rattle.std.proofs.Common.{ℕ, suc, ◌≡◌, List, true, sym, ap, subst, ◌∙◌, inl, inr, lit<, arith}
use Rattle.node_grid.specs.NodeSet.{has_id}
use Rattle.node_grid.specs.ListFacts.{split_more, split_all}
use Rattle.node_grid.specs.NumberFacts.{kinds-few}
use Rattle.node_grid.specs.SetFacts.{next_on}
use Rattle.error_reports.specs.Notes.{Notes, also_carried}
use Rattle.protocol.specs.Heard.{rounds_bad}
use Rattle.item_phase.specs.Noted.{of_node, rounds_of, IsCarrier}
use Rattle.item_phase.proofs.RoundNotes.{of_nodes, found_none, carried_start, carried_next, carried_me, carried_whole, carrier_more}
use Rattle.item_phase.proofs.item_phase.ItemPhase.carry.Goals as goal

pub loop-j-init : goal.loop-j-init
loop-j-init g c = record {
  can = tt;
  ends = tt;
  split = sym (c.into_iter-j-iterator.ensures.into_iter_gives ∙ c.iter-j-items.ensures.members);
  notes = carried_start g.row.N c.args.notes.now (rounds_bad c.args.phase.now.config.now.m (rounds_of g.V.Item.form c.args.phase.now c.args.self.now.links c.args.i)) c.requires.notes.within;
}

pub carry_of-requires : goal.carry_of-requires
carry_of-requires g c =
    let a = c.args in
    let x = a.phase.now in
    let config = x.config.now in
    let cap = c.requires.settled.heard.set.capacity in
    let inv = c.loop-j.invariant in
    let says = rounds_bad config.m (rounds_of g.V.Item.form x a.self.now.links a.i) in
    let ill : List ℕ = a.self.now.seen.ill in
    let at : has_id ill c.in-Some.j ≡ true = next_on ill c.loop-j.yielded c.next.new.self c.loop-j.j-iterator c.in-Some.j inv.split c.in-Some.ensures.steps in
    let is : IsCarrier config a.i c.loop-j.notes = subst (IsCarrier config a.i) (sym inv.notes) (carrier_more config a.i a.notes.now (of_nodes c.loop-j.yielded says) c.requires.notes) in (
      elim cap [ inl e ↦ rw e (lit< tt) | inr e ↦ rw e (lit< tt) ],
      (
        elim cap [ inl e ↦ rw e (lit< tt) | inr e ↦ rw e (lit< tt) ],
        (
          elim cap [ inl e ↦ rw e (lit< tt) | inr e ↦ rw e (lit< tt) ],
          (c.requires.settled, (c.requires.node, (c.requires.settled.seen.used c.in-Some.j at, (c.if-j-i.true, is)))),
        ),
      ),
    )

pub loop-j-preserved-then-j-i : goal.loop-j-preserved-then-j-i
loop-j-preserved-then-j-i g c =
    let a = c.args in
    let config = a.phase.now.config.now in
    let inv = c.loop-j.invariant in
    let says = rounds_bad config.m (rounds_of g.V.Item.form a.phase.now a.self.now.links a.i) in
    let q : ℕ = c.in-Some.j in
    let few = kinds-few config.version in
    let kinds = c.requires.notes.kinds in
    record {
      can = tt;
      ends = tt;
      split = split_more a.self.now.seen.ill c.loop-j.yielded c.next.new.self c.loop-j.j-iterator q inv.split c.in-Some.ensures.steps;
      notes =
          c.carry_of.ensures ∙ ap (λ (y : Notes). also_carried g.row.N y (of_node q says)) inv.notes
          ∙ carried_next g.row.N a.notes.now says c.loop-j.yielded q (omega (arith, few, kinds));
    }

pub loop-j-preserved : goal.loop-j-preserved
loop-j-preserved g c =
    let a = c.args in
    let inv = c.loop-j.invariant in
    let says = rounds_bad a.phase.now.config.now.m (rounds_of g.V.Item.form a.phase.now a.self.now.links a.i) in
    let q : ℕ = c.in-Some.j in
    record {
      can = tt;
      ends = tt;
      split = split_more a.self.now.seen.ill c.loop-j.yielded c.next.new.self c.loop-j.j-iterator q inv.split c.in-Some.ensures.steps;
      notes = inv.notes ∙ carried_me g.row.N a.notes.now says c.loop-j.yielded q (c.if-j-i.false ∙ sym c.requires.notes.me);
    }

pub returns : goal.returns
returns g c =
    let a = c.args in
    let x = a.phase.now in
    let config = x.config.now in
    let m : ℕ = config.m in
    let inv = c.loop-j.invariant in
    let rounds = rounds_of g.V.Item.form x a.self.now.links a.i in
    let ill : List ℕ = a.self.now.seen.ill in
    let all : ill ≡ c.loop-j.yielded = split_all ill c.loop-j.yielded c.loop-j.j-iterator inv.split c.in-None.ensures.steps.0 in
    inv.notes
    ∙ carried_whole g.row.N a.notes.now (rounds_bad m rounds) c.loop-j.yielded
    (λ k e used other off.
    let nodes = c.requires.notes.nodes in
    found_none rounds k e (suc m)
    (λ r low.
    c.requires.settled.seen.well r k a.i (omega (arith, low)) (omega (arith, used, nodes)) (ap (λ (s : List ℕ). has_id s k) all ∙ off) c.requires.node (λ same. other (sym same ∙ sym c.requires.notes.me)))
    (suc m) (omega arith))
