use Rattle.std.proofs.Common.{ℕ, map, get_or, arith, sym, ap, ◌∙◌}
use Rattle.std.proofs.lemmas.List.{get_or-map, length-map}
use Rattle.node_grid.specs.ListFacts.{map_map}
use Rattle.omh_paths.specs.declared.wrapped.Wrapped.TheVariants.{Plain, Fault}
use Rattle.protocol.specs.Settled.{plain}
use Rattle.protocol.specs.View.{as_claim}
use Rattle.relay_terms.specs.Terms.{said}
use Rattle.relaying.proofs.Settled.{settled_none, settled_one, settled_not, filled_all}
use Rattle.relaying.proofs.settling.claims_of.Goals as goal
use Rattle.relaying.proofs.settling.claims_of.Goals.{in-Plain, in-Fault}

pub loop-node-init : goal.loop-node-init
loop-node-init g c = settled_none g.row.N (Fault 0) (λ k. as_claim (plain (get_or (map said c.args.items.now) k (Fault 0))))

pub loop-node-preserved : goal.loop-node-preserved
loop-node-preserved g c =
    let k : ℕ = c.loop-node.node in
    let said_at = get_or-map said c.args.items.now k _ (Fault 0) (omega (arith, c.loop-node-test.true, c.told-items)) ∙ sym c.value.ensures in
    let item = λ (i : ℕ). as_claim (plain (get_or (map said c.args.items.now) i (Fault 0))) in
    elim c.match-value.branch [
      | in-Plain w ↦ settled_one g.row.N (Fault 0) item k c.loop-node.claims _ (Plain w.in-Plain.claim) c.loop-node-test.true (w.claims-is) (sym (ap (λ x. as_claim (plain x)) (said_at ∙ w.in-Plain.is))) c.loop-node.invariant
      | in-Fault w ↦ settled_not g.row.N (Fault 0) item k c.loop-node.claims _ w.claims-is (ap (λ x. as_claim (plain x)) (said_at ∙ w.in-Fault.is)) c.loop-node.invariant
    ]

pub returns : goal.returns
returns g c =
    filled_all g.row.N c.loop-node.node (Fault 0) (λ x. as_claim (plain x)) (map said c.args.items.now) (Fault 0) c.loop-node.claims (length-map c.args.items.now said ∙ c.told-items) (omega (arith, c.loop-node-test.false)) c.loop-node.invariant
    ∙ map_map said (λ x. as_claim (plain x)) c.args.items.now
