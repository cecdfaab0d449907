use Rattle.std.proofs.Common.{ℕ, ◌≡◌, ◌<◌, ◌+◌, true, List, refl, sym, subst, ◌∙◌, lit<, inl, inr, arith}
use Rattle.node_grid.specs.Capacity.{IsCapacity}
use Rattle.node_grid.specs.NodeSet.{has_id}
use Rattle.scenario.specs.Scenario.{ScenarioView, system_of}
use Rattle.touched_items.specs.ItemLaws.{row_told}
use Rattle.heard_links.specs.Hearing.{item_of}
use Rattle.item_phase.specs.declared.item_phase.ItemPhase.{ItemPhase}
use Rattle.shown_period.specs.declared.made.Made.{Made}
use Rattle.at_once.proofs.Telling.{told_more, told_skip, full_low, full_goes, full_row}
use Rattle.at_once.proofs.period.Period.tell_rows.Goals.{then-has, else-has}
use Rattle.at_once.proofs.period.Period.tell_rows.Goals as goal

pub tell-requires : goal.tell-requires
tell-requires g c =
    let cap : IsCapacity g.row.N = g.bound-1.eight_or_sixteen in
    (elim cap [ inl e ↦ rw e (lit< tt) | inr e ↦ rw e (lit< tt) ], c.loop-i-test.true)

pub loop-i-init : goal.loop-i-init
loop-i-init g c = (λ j less. absurd (omega arith), refl)

pub loop-i-preserved : goal.loop-i-preserved
loop-i-preserved g c =
    let sc : ScenarioView g.row.N = c.args.self.now.scenario.now in
    let p : ℕ = c.args.self.now.number in
    let full : List ℕ = c.args.full.now in
    let made : Made g.row.N = c.args.made.now in
    let i : ℕ = c.loop-i.i in
    let old : ℕ → List ℕ = item_of c.loop-i.rows.links in
    let told : ℕ → List ℕ = row_told (system_of sc) p in
    elim c.if-has.branch [
      | then-has w ↦
          let on : has_id full i ≡ true = sym c.has.ensures ∙ w.if-has.true in
          let goes = full_goes sc p full made c.requires.going i on in
          let low = full_low sc p full made c.requires.going i on in
          let is : told i ≡ w.found_at.result = full_row sc p full made c.requires.going i on c.through.ensures ∙ sym (w.found_at.ensures ∙ c.requires.found i goes.0 low goes.1) in
          subst (λ (y : ItemPhase (List ℕ) g.row.N). ((j : ℕ) → j < i + 1 → has_id full j ≡ true → told j ≡ item_of y.links j) × (y.settling ≡ c.args.rows.now.settling)) (sym w.rows-is) (
            told_more told full i old (item_of w.tell.new.self.links) w.found_at.result w.tell.ensures.told is c.loop-i.invariant.0,
            w.tell.ensures.room ∙ c.loop-i.invariant.1,
          )
      | else-has w ↦
          subst (λ (y : ItemPhase (List ℕ) g.row.N). ((j : ℕ) → j < i + 1 → has_id full j ≡ true → told j ≡ item_of y.links j) × (y.settling ≡ c.args.rows.now.settling)) (sym w.rows-is) (
            told_skip told full i old (sym c.has.ensures ∙ w.if-has.false) c.loop-i.invariant.0,
            c.loop-i.invariant.1,
          )
    ]

pub returns-clause-told : goal.returns-clause-told
returns-clause-told g c i on =
    let l = full_low c.args.self.now.scenario.now c.args.self.now.number c.args.full.now c.args.made.now c.requires.going i on in
    let few = c.config.ensures.scenario.system.config.few_nodes in
    let t = c.loop-i-test.false in
    c.loop-i.invariant.0 i (omega arith) on

pub returns-clause-room : goal.returns-clause-room
returns-clause-room g c = c.loop-i.invariant.1

pub config-requires : goal.config-requires
config-requires g c = elim g.bound-1.eight_or_sixteen [ inl e ↦ rw e (lit< tt, lit< tt) | inr e ↦ rw e (lit< tt, lit< tt) ]

pub overflow_cast-i-end : goal.overflow_cast-i-end
overflow_cast-i-end g c = elim g.bound-1.eight_or_sixteen [ inl e ↦ omega (arith, e) | inr e ↦ omega (arith, e) ]

pub found_at-requires : goal.found_at-requires
found_at-requires g c = (
  elim g.bound-1.eight_or_sixteen [ inl e ↦ rw e (lit< tt) | inr e ↦ rw e (lit< tt) ],
  (elim g.bound-1.eight_or_sixteen [ inl e ↦ rw e (lit< tt) | inr e ↦ rw e (lit< tt) ], c.loop-i-test.true),
)
