use Rattle.std.proofs.Common.{ℕ, ◌≤◌, map, replicate, refl, sym, ap, ap₂, subst, ◌∙◌, lit<, inl, inr, arith}
use Rattle.std.proofs.lemmas.List.FromFn.{fill_by_all}
use Rattle.node_grid.specs.NodeSet.{ids_below}
use Rattle.node_grid.specs.NumberFacts.{kinds-few}
use Rattle.node_grid.specs.Version.{kind_count}
use Rattle.error_reports.specs.Notes.{Notes}
use Rattle.agreed_state.specs.declared.config.Config.{Config}
use Rattle.at_once.proofs.Filled.{IsFilledBelow, settled_none, settled_one}
use Rattle.at_once.proofs.keeping.Keeping.open.Goals as goal

-- what a node notes that notes nothing
abbrev blank : ℕ → ℕ → ℕ → ℕ → Notes
blank n nodes kinds me = record { nodes = nodes; me = me; kinds = kinds; row = replicate n 0; carried = replicate n 0 }

pub config-config-requires : goal.config-config-requires
config-config-requires g c = elim g.bound-1.eight_or_sixteen [ inl e ↦ rw e (lit< tt, lit< tt) | inr e ↦ rw e (lit< tt, lit< tt) ]

pub new-notes-requires : goal.new-notes-requires
new-notes-requires g c = (
  elim g.bound-1.eight_or_sixteen [ inl e ↦ rw e (lit< tt) | inr e ↦ rw e (lit< tt) ],
  (
    subst (λ (x : Config g.row.N). x.nodes ≤ g.row.N) (sym c.config-config.ensures.config) c.config-config.ensures.scenario.system.config.few_nodes,
    (let e = c.kinds_of-kinds.ensures in let f = kinds-few c.config-config.result.now.version in omega arith),
  ),
)

pub new-requires : goal.new-requires
new-requires g c = (
  elim g.bound-1.eight_or_sixteen [ inl e ↦ rw e (lit< tt) | inr e ↦ rw e (lit< tt) ],
  (
    subst (λ (x : Config g.row.N). x.nodes ≤ g.row.N) (sym c.config-config.ensures.config) c.config-config.ensures.scenario.system.config.few_nodes,
    (let e = c.kinds_of-kinds.ensures in let f = kinds-few c.config-config.result.now.version in omega arith),
  ),
)

pub loop-me-init : goal.loop-me-init
loop-me-init g c =
    let item : ℕ → Notes = blank g.row.N c.config-config.result.now.nodes c.kinds_of-kinds.result in
    subst (λ (x : Notes). IsFilledBelow g.row.N (item 0) item 0 (replicate g.row.N x)) (sym c.new-notes.ensures) (settled_none g.row.N (item 0) item)

pub loop-me-preserved : goal.loop-me-preserved
loop-me-preserved g c =
    let item : ℕ → Notes = blank g.row.N c.config-config.result.now.nodes c.kinds_of-kinds.result in
    settled_one g.row.N (item 0) item c.loop-me.me c.loop-me.notes _ c.new.result c.loop-me-test.true refl c.new.ensures c.loop-me.invariant

pub returns : goal.returns
returns g c =
    let config : Config g.row.N = c.config-config.result.now in
    let is = c.config-config.ensures.config in
    let item : ℕ → Notes = blank g.row.N config.nodes c.kinds_of-kinds.result in
    record {
      notes =
          fill_by_all item c.loop-me.notes g.row.N (item 0) c.loop-me.invariant.wide (λ k h. c.loop-me.invariant.so_far k (let t = c.loop-me-test.false in omega arith))
          ∙ ap₂ (λ (n k : ℕ). map (blank g.row.N n k) (ids_below g.row.N)) (ap (λ (x : Config g.row.N). x.nodes) is) (c.kinds_of-kinds.ensures ∙ ap (λ (x : Config g.row.N). kind_count x.version) is);
      votes = c.none.ensures;
      owns = refl;
    }
