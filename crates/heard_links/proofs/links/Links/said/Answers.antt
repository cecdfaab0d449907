use Rattle.std.proofs.Common.{rules, ℕ, ◌≡◌, ◌-◌, Bool, true, length, Some, None, sym, ap, ap₂, ◌∙◌, inl, inr, arith, lit<, slice_index_or, not, ◌&&◌}
use Rattle.std.proofs.lemmas.Bool.{cases_Bool, cond-false}
use Rattle.node_grid.specs.NodeSet.{has_id}
use Rattle.omh.specs.Written.{last_node}
use Rattle.protocol.specs.Heard.{heard}
use Rattle.protocol.specs.Talk.{rounds_upto}
use Rattle.heard_links.specs.Talks.{members_at}
use Rattle.heard_links.specs.declared.came.Came.TheVariants as came
use Rattle.heard_links.specs.Hearing.{is_even, is_asked, talk_in}
use Rattle.heard_links.proofs.Places.{last_has}
use Rattle.heard_links.proofs.Saying.{asked_is, even_is, said_none}
use Rattle.heard_links.proofs.Sets.{in_use, node_low}
use Rattle.heard_links.proofs.links.Links.said.Goals as goal

pub has_uneven-requires : goal.has_uneven-requires
has_uneven-requires g c = let few = c.len-last.ensures.few in (search rules, omega arith)

pub said_by-requires : goal.said_by-requires
said_by-requires g c = (search rules, (elim c.requires.heard.set.capacity [ inl e ↦ rw e (lit< tt) | inr e ↦ rw e (lit< tt) ], c.requires.heard))

pub returns-else-has_uneven-clause-is : goal.returns-else-has_uneven-clause-is
returns-else-has_uneven-clause-is g c =
    let a = c.args in
    let x = a.phase.now in
    let set = c.requires.heard.set in
    let t = talk_in g.V.Item.form x a.self.now in
    let path = a.path.now in
    let q = c.at.result in
    let len = c.len-last.ensures.count in
    let some = c.len-last.ensures.some in
    let last : q ≡ last_node path = c.at.ensures ∙ ap (λ (n : ℕ). slice_index_or path (n - 1) 0) len in
    elim (cases_Bool (is_asked t x.config.now.m x.awake a.to path)) [
      | inl asks ↦
          let asked = asked_is g.V.Item.form g.V.Item.first_slot g.V.Item.tells g.V.Item.entry_form g.V.Item.in_range g.met.V.Item.made_of g.met.V.Item.fits x a.self.now c.requires.heard a.to path asks in
          let on : has_id (members_at x a.to) q ≡ true = asked.within q (ap (has_id path) last ∙ last_has path (omega (arith, len, some))) in
          let untouched = c.has_uneven.ensures c.if-has_uneven.false (node_low x set q (in_use x set a.to q on)) (node_low x set a.to (set.awake a.to asked.awake_is)) in
          let is = even_is g.V.Item.form g.V.Item.first_slot g.V.Item.tells g.V.Item.entry_form g.V.Item.in_range g.met.V.Item.made_of g.met.V.Item.fits x a.self.now c.requires.heard
          (c.len-last.result - 1) q a.to came.Untouched (omega (arith, len, asked.short)) (in_use x set a.to q on) asked.awake_is (λ e. asked.other (e ∙ last)) (sym untouched) in
          said_none g.V.Item.form g.V.Item.first_slot g.V.Item.tells g.V.Item.entry_form g.V.Item.in_range g.met.V.Item.made_of g.met.V.Item.fits x a.self.now c.requires.heard a.to path asks
          (ap₂ (λ (n l : ℕ). is_even t (n - 1) l a.to) (sym len) (sym last) ∙ is)
      | inr none ↦ sym (cond-false _ (Some (heard (rounds_upto t x.config.now.m a.to) path)) None (ap (λ (b : Bool). b && not (is_even t (length path - 1) (last_node path) a.to)) none))
    ]
