use Rattle.std.proofs.Common.{ℕ, ◌≡◌, true, List, None, sym, ap, ◌∙◌, lit<, inl, inr, arith}
use Rattle.std.specs.Prelude.{nat_eq}
use Rattle.std.proofs.lemmas.Bool.{cond-true, cond-false}
use Rattle.std.proofs.lemmas.List.FromFn.{fill_by_all}
use Rattle.node_grid.specs.Capacity.{IsCapacity}
use Rattle.node_grid.specs.NodeSet.{has_id}
use Rattle.omh_paths.specs.declared.wrapped.Wrapped.{Wrapped}
use Rattle.omh_paths.specs.declared.wrapped.Wrapped.TheVariants.{Fault}
use Rattle.protocol.specs.Arrival.{claim_form}
use Rattle.protocol.specs.Settled.{plain}
use Rattle.protocol.specs.View.{as_claim}
use Rattle.heard_links.specs.Talks.{members_at}
use Rattle.at_once.specs.Phases.{node_item, node_settles}
use Rattle.at_once.proofs.Filled.{settled_none, settled_one, settled_not}
use Rattle.at_once.proofs.claims.claims_settled.Goals.{then-has, else-has}
use Rattle.at_once.proofs.claims.claims_settled.Goals as goal

pub returns : goal.returns
returns g c =
    fill_by_all (λ k. as_claim (node_item nat_eq claim_form c.args.phase.now c.args.claims.now c.args.i k)) c.loop-c.done g.row.N (Fault 0) c.loop-c.invariant.wide
    (λ k h. c.loop-c.invariant.so_far k (let t = c.loop-c-test.false in omega arith))

pub loop-c-init : goal.loop-c-init
loop-c-init g c = settled_none g.row.N (Fault 0) (λ k. as_claim (node_item nat_eq claim_form c.args.phase.now c.args.claims.now c.args.i k))

pub settled-requires : goal.settled-requires
settled-requires g c =
    let cap : IsCapacity g.row.N = g.bound-1.eight_or_sixteen in
    let member : has_id (members_at c.args.phase.now c.args.i) c.loop-c.c ≡ true = sym (c.has.ensures ∙ ap (λ (ms : List ℕ). has_id ms c.loop-c.c) c.members_at-members.ensures) ∙ c.if-has.true in
    (elim cap [ inl e ↦ rw e (lit< tt) | inr e ↦ rw e (lit< tt) ], (elim cap [ inl e ↦ rw e (lit< tt) | inr e ↦ rw e (lit< tt) ], (c.requires.settled, (c.requires.node, member))))

pub loop-c-preserved : goal.loop-c-preserved
loop-c-preserved g c =
    let x = c.args.phase.now in
    let s = c.args.claims.now in
    let i : ℕ = c.args.i in
    let k : ℕ = c.loop-c.c in
    let item : ℕ → Wrapped ℕ = λ n. as_claim (node_item nat_eq claim_form x s i n) in
    let is : c.has.result ≡ has_id (members_at x i) k = c.has.ensures ∙ ap (λ (ms : List ℕ). has_id ms k) c.members_at-members.ensures in
    elim c.if-has.branch [
      | then-has w ↦
          settled_one g.row.N (Fault 0) item k c.loop-c.done _ w.as_claim.result c.loop-c-test.true w.done-is
          (w.as_claim.ensures ∙ ap (λ (y : Wrapped ℕ). as_claim (plain y)) w.settled.ensures
          ∙ sym (ap as_claim (cond-true (has_id (members_at x i) k) (plain (node_settles nat_eq claim_form x s i k)) None (sym is ∙ w.if-has.true))))
          c.loop-c.invariant
      | else-has w ↦
          settled_not g.row.N (Fault 0) item k c.loop-c.done _ w.done-is
          (ap as_claim (cond-false (has_id (members_at x i) k) (plain (node_settles nat_eq claim_form x s i k)) None (sym is ∙ w.if-has.false)))
          c.loop-c.invariant
    ]
