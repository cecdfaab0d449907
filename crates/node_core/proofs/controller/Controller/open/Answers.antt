use Rattle.std.proofs.Common.{sym, ap, subst, ◌∙◌, inl, inr, lit<, ◌≡◌}
use Rattle.node_grid.specs.Capacity.{IsCapacity}
use Rattle.frames.specs.Bound.{IsGreatest}
use Rattle.error_detect.specs.Watching.{Watch, fresh}
use Rattle.agreed_state.specs.Body.{state_len}
use Rattle.agreed_state.specs.ConfigLaws.{few_rounds}
use Rattle.node_steps.specs.Fresh.{newly_open}
use Rattle.node_core.specs.Inside.{IsPlace, AreUnused}
use Rattle.node_core.proofs.controller.Controller.open.Goals as goal

pub open-requires : goal.open-requires
open-requires g c = (lit< tt, (c.requires.config.few_nodes, few_rounds g.row.N c.args.config.now c.requires.config))

pub open-requires-2 : goal.open-requires-2
open-requires-2 g c = (
  elim g.bound-1.eight_or_sixteen [ inl e ↦ rw e (lit< tt) | inr e ↦ rw e (lit< tt) ],
  (c.requires.config.few_nodes, few_rounds g.row.N c.args.config.now c.requires.config),
)

pub open-requires-2-room-V-Eq : goal.open-requires-2-room-V-Eq
open-requires-2-room-V-Eq g c = λ κs. elim g.bound-1.eight_or_sixteen [ inl e ↦ rw e (lit< tt) | inr e ↦ rw e (lit< tt) ]

pub open-requires-2-room-V-PartialEq : goal.open-requires-2-room-V-PartialEq
open-requires-2-room-V-PartialEq g c = λ κs. elim g.bound-1.eight_or_sixteen [ inl e ↦ rw e (lit< tt) | inr e ↦ rw e (lit< tt) ]

pub open-requires-2-room-V-Exact : goal.open-requires-2-room-V-Exact
open-requires-2-room-V-Exact g c = λ κs. elim g.bound-1.eight_or_sixteen [ inl e ↦ rw e (lit< tt) | inr e ↦ rw e (lit< tt) ]

pub open-requires-3 : goal.open-requires-3
open-requires-3 g c = (lit< tt, c.requires.config.few_nodes)

pub before_first-requires : goal.before_first-requires
before_first-requires g c =
    let cap : IsCapacity g.row.N = g.bound-1.eight_or_sixteen in
    let config = c.args.config.now in
    let ok = c.requires.config in
    let watch = c.in_ok-watch.ensures in
    let max : c.in_ok-watch.watch.frame_max ≡ c.args.frame_max = ap (λ (w : Watch). w.frame_max) watch in
    let place : IsPlace g.row.N config c.args.me = record { capacity = cap; few = ok.few_nodes; me_low = c.requires.me; few_rounds = few_rounds g.row.N config ok; config_is = ok } in
    let unused : AreUnused config c.in_ok-done.done c.in_ok-rows.rows = record { done_is = c.in_ok-done.ensures; rows_are = c.in_ok-rows.ensures } in
    (elim cap [ inl e ↦ rw e (lit< tt) | inr e ↦ rw e (lit< tt) ], (lit< tt, (elim cap [ inl e ↦ rw e (lit< tt) | inr e ↦ rw e (lit< tt) ], (elim cap [ inl e ↦ rw e (lit< tt) | inr e ↦ rw e (lit< tt) ], (lit< tt, (elim cap [ inl e ↦ rw e (lit< tt) | inr e ↦ rw e (lit< tt) ], (place, (unused, (watch ∙ ap (fresh config.nodes c.args.me) (sym max), subst (IsGreatest config.nodes config.m (state_len config) 8) (sym max) c.requires.greatest)))))))))

pub returns : goal.returns
returns g c = c.before_first.ensures ∙ ap (newly_open c.args.config.now c.args.me) (ap (λ (w : Watch). w.frame_max) c.in_ok-watch.ensures)

pub open-requires-2-room-V-Item : goal.open-requires-2-room-V-Item
open-requires-2-room-V-Item g c = λ κs. elim g.bound-1.eight_or_sixteen [ inl e ↦ rw e (lit< tt) | inr e ↦ rw e (lit< tt) ]
