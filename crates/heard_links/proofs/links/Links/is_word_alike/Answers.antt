use Rattle.std.proofs.Common.{rules, sym, ap, ◌∙◌, inl, inr, lit<, List, ℕ}
use Rattle.node_grid.specs.NodeSet.{has_id}
use Rattle.heard_links.proofs.Sets.{in_use}
use Rattle.heard_links.proofs.links.Links.is_word_alike.Goals as goal

pub is_alike_from-requires : goal.is_alike_from-requires
is_alike_from-requires g c =
    let x = c.args.phase.now in
    let s = c.requires.heard.set in
    let on = ap (λ (ms : List ℕ). has_id ms c.args.q) (sym c.members_of.ensures) ∙ sym c.has.ensures ∙ c.if-has.true in (
      search rules,
      (
        elim s.capacity [ inl e ↦ rw e (lit< tt) | inr e ↦ rw e (lit< tt) ],
        (c.requires, in_use x s c.args.i c.args.q on),
      ),
    )

pub returns-then-has : goal.returns-then-has
returns-then-has g c = λ is on. c.is_alike_from.ensures is
