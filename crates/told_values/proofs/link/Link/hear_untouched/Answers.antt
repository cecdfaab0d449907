use Rattle.std.proofs.Common.{ℕ, ℤ, List, Option, length, map, sym, ap, ap₂, ◌∙◌}
use Rattle.node_grid.specs.NodeSet.{has_id}
use Rattle.protocol.specs.View.{own_in, value_of}
use Rattle.told_values.specs.Slot.{slot_of, own_of}
use Rattle.told_values.proofs.Arriving.{when_good, when_bad, full_comes}
use Rattle.told_values.proofs.link.Link.hear_untouched.Goals as goal

pub own_by_place-requires : goal.own_by_place-requires
own_by_place-requires g c =
    let d = slot_of g.D.Dues.dues c.args.self.now.slot.now in
    let good = when_good d c.args.self.now.from c.args.self.now.to (sym c.in-None.ensures) in record {
      as_many = ap (λ (ds : List ℕ). length ds) c.due-said.ensures.due ∙ good.1 ∙ sym (ap (λ (ds : List ℕ). length ds) c.due-due.ensures.due);
    }

pub returns-in-Some : goal.returns-in-Some
returns-in-Some g c = λ range. when_bad (slot_of g.D.Dues.dues c.args.self.now.slot.now) c.args.self.now.from c.args.self.now.to c.in-Some.kind range c.requires (sym c.in-Some.ensures)

pub returns-in-None : goal.returns-in-None
returns-in-None g c = λ range.
    let d = slot_of g.D.Dues.dues c.args.self.now.slot.now in
    let from : ℕ = c.args.self.now.from in
    let good = when_good d from c.args.self.now.to (sym c.in-None.ensures) in (
      map (own_in (own_of d from)) (d.due from),
      full_comes d from c.args.self.now.to range c.requires good.0 good.1,
      λ k on.
          c.own_by_place.ensures k (ap (λ (ds : List ℕ). has_id ds k) c.due-due.ensures.due ∙ on)
          ∙ ap (λ (own : List (Option ℤ)). value_of c.due-due.result.channels.now (map (own_in own) c.due-said.result.now) k) c.own.ensures.own
          ∙ ap₂ (λ (due said : List ℕ). value_of due (map (own_in (own_of d from)) said) k) c.due-due.ensures.due c.due-said.ensures.due,
    )
