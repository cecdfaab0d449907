use Rattle.std.proofs.Common.{ℕ, ◌≡◌, ◌<◌, ◌+◌, ◌==◌, false, List, [], Option, Some, sym, ap, subst, ◌∙◌, lit<, inl, inr, arith, eq-eqb, eqb-true}
use Rattle.std.proofs.lemmas.Bool.{false≢true}
use Rattle.node_grid.specs.Capacity.{IsCapacity}
use Rattle.agreed_state.specs.Agreed.{AgreedView, agreed_after}
use Rattle.shared_states.specs.declared.belief.Belief.{Belief}
use Rattle.shared_states.specs.Sharing.{state_at, with_state, AreAgreed}
use Rattle.grouped_nodes.specs.Grouping.{first_of}
use Rattle.grouped_nodes.proofs.GroupSteps.{AreStepped, stepped_none, stepped_skip, stepped_put, first_state, all_stepped, none_stepped}
use Rattle.grouped_nodes.proofs.stepping.step.Goals.{then-is_first+in-Some, then-is_first+in_default, else-is_first}
use Rattle.grouped_nodes.proofs.stepping.step.Goals as goal

pub get-requires : goal.get-requires
get-requires g c = let cap : IsCapacity g.row.N = g.bound-1.eight_or_sixteen in (elim cap [ inl e ↦ rw e (lit< tt) | inr e ↦ rw e (lit< tt) ], elim cap [ inl e ↦ rw e (lit< tt) | inr e ↦ rw e (lit< tt) ])

pub step_by-requires : goal.step_by-requires
step_by-requires g c =
    let cap : IsCapacity g.row.N = g.bound-1.eight_or_sixteen in
    let here : state_at c.loop-first.states c.loop-first.first ≡ Some c.in-Some.state.now = sym c.in-Some.ensures in
    (elim cap [ inl e ↦ rw e (lit< tt) | inr e ↦ rw e (lit< tt) ], (elim cap [ inl e ↦ rw e (lit< tt) | inr e ↦ rw e (lit< tt) ], (elim cap [ inl e ↦ rw e (lit< tt) | inr e ↦ rw e (lit< tt) ], (c.requires.config, c.loop-first.invariant.agreed c.loop-first.first c.in-Some.state.now here))))

pub replace-requires : goal.replace-requires
replace-requires g c = let cap : IsCapacity g.row.N = g.bound-1.eight_or_sixteen in (elim cap [ inl e ↦ rw e (lit< tt) | inr e ↦ rw e (lit< tt) ], (lit< tt, elim cap [ inl e ↦ rw e (lit< tt) | inr e ↦ rw e (lit< tt) ]))

pub join-requires : goal.join-requires
join-requires g c = let cap : IsCapacity g.row.N = g.bound-1.eight_or_sixteen in elim cap [ inl e ↦ rw e (lit< tt) | inr e ↦ rw e (lit< tt) ]

pub loop-first-init : goal.loop-first-init
loop-first-init g c = stepped_none c.args.config.now c.args.period c.args.groups.now c.of.ensures.all c.args.beliefs.now c.requires.grouped.many c.args.states.now c.requires.grouped.shared c.requires.grouped.agreed

pub loop-first-preserved : goal.loop-first-preserved
loop-first-preserved g c =
    let config = c.args.config.now in
    let p : ℕ = c.args.period in
    let groups : List ℕ = c.args.groups.now in
    let beliefs : List (Belief g.row.N) = c.args.beliefs.now in
    let old : List (Option AgreedView) = c.args.states.now in
    let f : ℕ = c.loop-first.first in
    let now : List (Option AgreedView) = c.loop-first.states in
    let firsts = c.of.ensures.all in
    let many = c.requires.grouped.many in
    let shared = c.requires.grouped.shared in
    let m = c.loop-first.invariant in
    let low : f < g.row.N = c.loop-first-test.true in
    elim c.if-is_first.branch [
      | then-is_first+in-Some w ↦
          let a : AgreedView = w.in-Some.state.now in
          let own : first_of groups f ≡ f = eqb-true (first_of groups f) f (sym c.is_first.ensures ∙ w.if-is_first.true) in
          let here : state_at old f ≡ Some a = sym (first_state config p groups firsts beliefs many old shared f now low own m) ∙ sym w.in-Some.ensures in
          let b : AgreedView = w.step_by.new.state in
          subst (AreStepped config p groups beliefs old (f + 1)) (sym w.states-is)
          (stepped_put config p groups firsts beliefs many old shared f now w.replace.new.self a b w.index-beliefs-first.result low here m
          (w.step_by.ensures.after ∙ ap (λ (y : Belief g.row.N). agreed_after g.row.N config p a y.done y.rows) w.index-beliefs-first.is)
          (w.replace.ensures ∙ ap (λ (s : List ℕ). with_state g.row.N now s b) w.members_of.ensures)
          w.step_by.ensures.agreed)
      | then-is_first+in_default w ↦
          subst (AreStepped config p groups beliefs old (f + 1)) (sym w.states-is)
          (stepped_skip config p groups firsts beliefs many old shared f now (λ own. sym (first_state config p groups firsts beliefs many old shared f now low own m) ∙ sym w.in_default.ensures) m)
      | else-is_first w ↦
          let no : (first_of groups f == f) ≡ false = sym c.is_first.ensures ∙ w.if-is_first.false in
          subst (AreStepped config p groups beliefs old (f + 1)) (sym w.states-is)
          (stepped_skip config p groups firsts beliefs many old shared f now (λ own. absurd (false≢true (sym no ∙ eq-eqb (first_of groups f) f own))) m)
    ]

pub returns-clause-stepped : goal.returns-clause-stepped
returns-clause-stepped g c i a d low is =
    ap (λ (xs : List (Option AgreedView)). state_at xs i) c.join.ensures
    ∙ all_stepped c.args.config.now c.args.period c.args.groups.now c.of.ensures.all c.args.beliefs.now c.requires.grouped.many c.args.states.now c.requires.grouped.shared c.loop-first.first c.loop-first.states
    (let t = c.loop-first-test.false in omega arith) c.loop-first.invariant i a d low is

pub returns-clause-cold : goal.returns-clause-cold
returns-clause-cold g c i low is =
    let d : Belief g.row.N = record { done = []; due = record { items = [] }; votes = []; rows = [] } in
    ap (λ (xs : List (Option AgreedView)). state_at xs i) c.join.ensures
    ∙ none_stepped c.args.config.now c.args.period c.args.groups.now c.of.ensures.all c.args.beliefs.now c.requires.grouped.many c.args.states.now c.requires.grouped.shared c.loop-first.first c.loop-first.states d
    (let t = c.loop-first-test.false in omega arith) c.loop-first.invariant i low is

pub returns-clause-agreed : goal.returns-clause-agreed
returns-clause-agreed g c = subst (AreAgreed c.args.config.now) (sym c.join.ensures) c.loop-first.invariant.agreed

pub of-requires : goal.of-requires
of-requires g c = elim g.bound-1.eight_or_sixteen [ inl e ↦ rw e (lit< tt, lit< tt) | inr e ↦ rw e (lit< tt, lit< tt) ]

pub is_first-requires : goal.is_first-requires
is_first-requires g c = (elim g.bound-1.eight_or_sixteen [ inl e ↦ rw e (lit< tt) | inr e ↦ rw e (lit< tt) ], c.loop-first-test.true)

pub members_of-requires : goal.members_of-requires
members_of-requires g c = (elim g.bound-1.eight_or_sixteen [ inl e ↦ rw e (lit< tt) | inr e ↦ rw e (lit< tt) ], lit< tt)

pub bounds-beliefs-first : goal.bounds-beliefs-first
bounds-beliefs-first g c = let w = c.requires.grouped.many in let t = c.loop-first-test.true in omega arith
