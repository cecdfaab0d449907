use Rattle.std.proofs.Common.{ℕ, ◌≡◌, ◌+◌, ◌++◌, refl, sym, ap, ◌∙◌, arith, append-nil, lit<, inl, inr, ◌≤◌, List, length, length-append, ◌∷◌}
use Rattle.node_grid.specs.ListLaws.{bit_le}
use Rattle.node_grid.specs.Capacity.{IsCapacity}
use Rattle.node_grid.specs.Count.{count, bit}
use Rattle.node_grid.specs.SetFacts.{byte_is}
use Rattle.error_reports.specs.Charge.{is_voter, is_accuser, charged}
use Rattle.error_reports.proofs.Voting.{tally_said, tally_none, split_more}
use Rattle.error_reports.proofs.charge.is_charged.Goals as goal

pub loop-member-preserved-in-Some-accusation : goal.loop-member-preserved-in-Some-accusation
loop-member-preserved-in-Some-accusation g c = record {
  can = tt;
  ends = tt;
  split = split_more _ _ _ _ _ c.loop-member.invariant.split c.in-Some.ensures.steps;
  tally = tally_said c.args.rows.now c.args.node c.args.kind c.loop-member.yielded _ _ c.in-Some.member _ _ _ c.loop-member.invariant.tally c.in-Some-accusation.ensures (omega arith)
      (ap (λ (n : ℕ). c.loop-member.accusers + n) (c.from-accusers.ensures ∙ byte_is c.in-Some-accusation.accuses));
}

pub loop-member-preserved : goal.loop-member-preserved
loop-member-preserved g c = record {
  can = tt;
  ends = tt;
  split = split_more _ _ _ _ _ c.loop-member.invariant.split c.in-Some.ensures.steps;
  tally = tally_none c.args.rows.now c.args.node c.args.kind c.loop-member.yielded _ _ c.in-Some.member c.loop-member.invariant.tally c.in_default.ensures;
}

pub returns : goal.returns
unfolding charged
returns g c =
    let members = c.args.members.now in
    let all : c.loop-member.yielded ≡ members =
    sym (c.loop-member.invariant.split ∙ ap (λ xs. c.loop-member.yielded ++ xs) c.in-None.ensures.steps.0 ∙ append-nil c.loop-member.yielded) in
    let voters : c.loop-member.voters ≡ count (is_voter c.args.rows.now c.args.node) members =
    c.loop-member.invariant.tally.voters ∙ ap (count (is_voter c.args.rows.now c.args.node)) all in
    let accusers : c.loop-member.accusers ≡ count (is_accuser c.args.rows.now c.args.node c.args.kind) members =
    c.loop-member.invariant.tally.accusers ∙ ap (count (is_accuser c.args.rows.now c.args.node c.args.kind)) all in
    rw (voters, accusers) refl

pub iter-member-items-requires : goal.iter-member-items-requires
iter-member-items-requires g c = (lit< tt, lit< tt)

pub next-requires : goal.next-requires
next-requires g c = (lit< tt, tt)

pub accusation-requires : goal.accusation-requires
accusation-requires g c =
    let cap : IsCapacity g.row.N = g.bound-1.eight_or_sixteen in (
      elim cap [ inl e ↦ rw e (lit< tt) | inr e ↦ rw e (lit< tt) ],
      (c.requires.in_range, c.requires.kind),
    )

pub overflow_add-voters : goal.overflow_add-voters
overflow_add-voters g c =
    let seen : List ℕ = c.loop-member.yielded in
    let part : length c.args.members.now ≡ length seen + length c.loop-member.member-iterator = ap length c.loop-member.invariant.split ∙ length-append seen c.loop-member.member-iterator in
    let few = c.iter-member-items.ensures.few in
    let cap : IsCapacity g.row.N = g.bound-1.eight_or_sixteen in
    let v = c.loop-member.invariant.tally.few_voters in
    omega arith

pub from-accusers-requires : goal.from-accusers-requires
from-accusers-requires g c = tt

pub overflow_add-accusers : goal.overflow_add-accusers
overflow_add-accusers g c =
    let seen : List ℕ = c.loop-member.yielded in
    let part : length c.args.members.now ≡ length seen + length c.loop-member.member-iterator = ap length c.loop-member.invariant.split ∙ length-append seen c.loop-member.member-iterator in
    let few = c.iter-member-items.ensures.few in
    let cap : IsCapacity g.row.N = g.bound-1.eight_or_sixteen in
    let a = c.loop-member.invariant.tally.few_accusers in
    let one : c.from-accusers.result ≡ bit c.in-Some-accusation.accuses = c.from-accusers.ensures ∙ byte_is c.in-Some-accusation.accuses in
    let low : bit c.in-Some-accusation.accuses ≤ 1 = bit_le c.in-Some-accusation.accuses in
    omega arith

pub loop-member-smaller-in-Some-accusation : goal.loop-member-smaller-in-Some-accusation
loop-member-smaller-in-Some-accusation g c = let e : length c.loop-member.member-iterator ≡ length (c.in-Some.member ∷ c.next.new.self) = ap length c.in-Some.ensures.steps in omega arith

pub loop-member-smaller : goal.loop-member-smaller
loop-member-smaller g c = let e : length c.loop-member.member-iterator ≡ length (c.in-Some.member ∷ c.next.new.self) = ap length c.in-Some.ensures.steps in omega arith

pub overflow_mul-result : goal.overflow_mul-result
overflow_mul-result g c =
    let seen : List ℕ = c.loop-member.yielded in
    let part : length c.args.members.now ≡ length seen + length c.loop-member.member-iterator = ap length c.loop-member.invariant.split ∙ length-append seen c.loop-member.member-iterator in
    let few = c.iter-member-items.ensures.few in
    let cap : IsCapacity g.row.N = g.bound-1.eight_or_sixteen in
    let a = c.loop-member.invariant.tally.few_accusers in
    omega arith
