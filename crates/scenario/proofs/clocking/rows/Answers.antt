use Rattle.std.proofs.Common.{ℤ, List, Vec, Global, map, length, ap, ◌∙◌, arith, lit<, inl, inr}
use Rattle.std.proofs.lemmas.List.{take_all}
use Rattle.scenario.specs.Given.{padded}
use Rattle.scenario.proofs.Filled.{next_seen}
use Rattle.scenario.proofs.Clocked.{row_room}
use Rattle.scenario.proofs.clocking.rows.Goals as goal

pub padded-requires : goal.padded-requires
padded-requires g c =
    let room = row_room c.args.rows.now (λ row. row.items) g.row.N c.loop-row.row-index c.row-item.result c.loop-row-test.true c.row-item.is c.requires.few in (
      elim g.bound-1.eight_or_sixteen [ inl e ↦ rw e (lit< tt) | inr e ↦ rw e (lit< tt) ],
      omega (arith, room, ap length c.deref.ensures.value),
    )

pub loop-row-init : goal.loop-row-init
loop-row-init g c = c.in_ok-found.ensures.items

pub loop-row-preserved : goal.loop-row-preserved
loop-row-preserved g c =
    next_seen (padded g.row.N) (λ (row : Vec ℤ Global). row.items) c.args.rows.now c.loop-row.row-index c.row-item.result c.padded.result c.loop-row.found.items c.push.new.self.items c.loop-row-test.true
    c.row-item.is (c.padded.ensures ∙ ap (padded g.row.N) c.deref.ensures.value) c.in_ok-push.ensures.items c.loop-row.invariant

pub returns : goal.returns
returns g c =
    c.loop-row.invariant
    ∙ ap (λ (rs : List (Vec ℤ Global)). map (padded g.row.N) (map (λ (row : Vec ℤ Global). row.items) rs)) (take_all c.loop-row.row-index c.args.rows.now c.loop-row-test.false)
