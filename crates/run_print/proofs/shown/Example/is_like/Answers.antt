use Rattle.std.proofs.Common.{◌≡◌, ◌∙◌, ap, arith, sym, inl, inr, lit<}
use Rattle.std.specs.Prelude.{slice_index}
use Rattle.node_core.specs.Modes.{mode_of}
use Rattle.shown_period.specs.Outcomes.{outcome_at}
use Rattle.shown_period.specs.WholeLaws.{alike_in_group}
use Rattle.run_print.proofs.Alike.{told, numbers_same, modes_same, beliefs_same}
use Rattle.run_print.proofs.shown.Example.is_like.Goals as goal

pub returns : goal.returns
returns g c e =
    let shown = c.args.self.now.shown.now in
    let node = c.args.self.now.node in
    let one = outcome_at shown.made node in
    let other = outcome_at shown.made c.args.i in
    let groups : slice_index shown.made.group node ≡ slice_index shown.made.group c.args.i = omega (arith, c.group.ensures, c.group-2.ensures, c.if-group.false) in
    let alike = alike_in_group shown.made node c.args.i groups in
    let modes = modes_same c.mode.result c.mode-2.result (told _ _ c.ne.ensures c.if-ne.false) in
    let members : one.members ≡ other.members = sym c.members.ensures ∙ numbers_same _ _ (sym c.eq.ensures ∙ e) ∙ c.members-2.ensures in
    c.args.self.now.believes c.if-self.false
    ∙ beliefs_same shown.head.nodes shown.head.retire one other (sym c.mode.ensures ∙ ap mode_of modes ∙ c.mode-2.ensures) (sym (c.is_shared.ensures c.if-not-is_shared.false).1)
    (record { members = members; rows = alike.rows; done = alike.done; due = alike.due; votes = alike.votes })

pub is_shared-requires : goal.is_shared-requires
is_shared-requires g c =
    elim g.bound-1.eight_or_sixteen [ inl e ↦ rw e (lit< tt) | inr e ↦ rw e (lit< tt) ]

pub group-requires : goal.group-requires
group-requires g c =
    (elim g.bound-1.eight_or_sixteen [ inl e ↦ rw e (lit< tt) | inr e ↦ rw e (lit< tt) ], c.args.self.now.placed)

pub group-requires-2 : goal.group-requires-2
group-requires-2 g c =
    (elim g.bound-1.eight_or_sixteen [ inl e ↦ rw e (lit< tt) | inr e ↦ rw e (lit< tt) ], c.requires.node)

pub mode-requires : goal.mode-requires
mode-requires g c =
    (elim g.bound-1.eight_or_sixteen [ inl e ↦ rw e (lit< tt) | inr e ↦ rw e (lit< tt) ], c.args.self.now.placed)

pub mode-requires-2 : goal.mode-requires-2
mode-requires-2 g c =
    (elim g.bound-1.eight_or_sixteen [ inl e ↦ rw e (lit< tt) | inr e ↦ rw e (lit< tt) ], c.requires.node)

pub members-requires : goal.members-requires
members-requires g c =
    (elim g.bound-1.eight_or_sixteen [ inl e ↦ rw e (lit< tt) | inr e ↦ rw e (lit< tt) ], (lit< tt, c.args.self.now.placed))

pub members-requires-2 : goal.members-requires-2
members-requires-2 g c =
    (elim g.bound-1.eight_or_sixteen [ inl e ↦ rw e (lit< tt) | inr e ↦ rw e (lit< tt) ], (lit< tt, c.requires.node))
