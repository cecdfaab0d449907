use Rattle.std.proofs.Common.{ℕ, ◌≡◌, ◌-◌, ◌==◌, ◌∷◌, ◌++◌, [], List, true, false, get_or, sym, ap, ◌∙◌, inl, inr, arith, eqb-true}
use Rattle.std.proofs.lemmas.Bool.{both_ways, cases_Bool, or_cases}
use Rattle.node_grid.specs.NodeSet.{has_id}
use Rattle.node_grid.specs.CapacityLaws.{capacity-le}
use Rattle.node_grid.specs.ListLaws.{has_push}
use Rattle.node_grid.specs.ListFacts.{split_more}
use Rattle.node_grid.specs.SetFacts.{member-lt, next_on, has_in_front, has_rest, not_rest}
use Rattle.omh_paths.specs.declared.wrapped.Wrapped.TheVariants.{Fault}
use Rattle.omh_paths.specs.Paths.{index_in}
use Rattle.omh_paths.specs.PathLists.{index_in-lt}
use Rattle.omh_paths.specs.MemberLaws.{Distinct-ids}
use Rattle.omh.specs.Omh.{settled}
use Rattle.settled_paths.specs.Levels.{AreRelayRooms}
use Rattle.settled_paths.specs.Passing.{passing_world}
use Rattle.settled_paths.proofs.Loops.{left_out, each_of, joined_has, joined_on}
use Rattle.settled_paths.proofs.Passes.{own_terms, last_terms}
use Rattle.settled_paths.proofs.exchange.Exchange.settle_relayed.Goals as goal

-- a set of some of the nodes has none that they haven't
off_some : (nodes some : List ℕ) (k : ℕ) → ((i : ℕ) → has_id some i ≡ true → has_id nodes i ≡ true) → has_id nodes k ≡ false → has_id some k ≡ false
off_some nodes some k within off = elim (cases_Bool (has_id some k)) [
  | inr n ↦ n
  | inl y ↦ absurd (both_ways _ off (within k y))
]

pub without-nodes-requires : goal.without-nodes-requires
without-nodes-requires g c = let x = c.requires.exchange in (omega arith, member-lt g.row.N c.args.self.now.members c.args.self.now.commander x.members_ok x.member_ok)

pub alike-alike-requires : goal.alike-alike-requires
alike-alike-requires g c =
    let x = c.requires.exchange in (
      omega arith,
      (
        omega arith,
        (
          capacity-le g.row.N x.capacity_ok,
          (x.rounds_ok, next_on c.without-nodes.result c.loop-first.yielded c.next.new.self c.loop-first.first-iterator c.in-Some.first c.loop-first.invariant.split c.in-Some.ensures.steps),
        ),
      ),
    )

pub settle_each-requires : goal.settle_each-requires
settle_each-requires g c =
    let s = c.args.self.now in
    let off = off_some c.without-nodes.result c.alike-alike.result s.commander c.alike-alike.ensures.within (ap (λ (xs : List ℕ). has_id xs s.commander) c.without-nodes.ensures ∙ not_rest s.awake s.commander) in
    let longest = c.settle_longest.ensures.longest ∙ c.loop-first.invariant.longest in
    let work = c.settle_longest.ensures.terms ∙ c.loop-first.invariant.work in (
      omega arith,
      (
        omega arith,
        (
          c.requires.exchange,
          (off, (record { relayed = c.requires.room.relayed; laid_ok = c.requires.room.laid_ok; longest_ok = omega (arith, longest, c.requires.room.longest_ok); work_ok = omega (arith, work, c.requires.room.work_ok); terms_ok = omega (arith, work, c.requires.room.terms_ok) }, c.loop-first.invariant.places)),
        ),
      ),
    )

pub settle_longest-requires : goal.settle_longest-requires
settle_longest-requires g c =
    let r = c.requires.room in
    let i = c.loop-first.invariant in
    let room : AreRelayRooms c.args.self.now.rounds c.args.self.now.members c.args.laid.now c.loop-first.longest c.loop-first.work = record { relayed = r.relayed; laid_ok = r.laid_ok; longest_ok = omega (arith, i.longest, r.longest_ok); work_ok = omega (arith, i.work, r.work_ok); terms_ok = omega (arith, i.work, r.terms_ok) } in
    (omega arith, (c.requires.exchange, room))

pub loop-first-preserved : goal.loop-first-preserved
loop-first-preserved g c =
    let i = c.loop-first.invariant in
    let q = c.in-Some.first in
    record {
      can = tt;
      ends = tt;
      split = split_more c.without-nodes.result c.loop-first.yielded c.next.new.self c.loop-first.first-iterator q i.split c.in-Some.ensures.steps;
      longest = i.longest;
      work = i.work;
      places = i.places;
      reached = λ k on. elim (or_cases (has_id c.loop-first.yielded k) (q == k) (sym (has_push c.loop-first.yielded q k) ∙ on)) [
        | inl was ↦ i.reached k was
        | inr is ↦ ap (has_id c.loop-first.done) (sym (eqb-true q k is)) ∙ sym c.has.ensures ∙ c.if-not-has.false
      ];
      settled = i.settled;
      kept = i.kept;
    }

pub loop-first-preserved-then-not-has : goal.loop-first-preserved-then-not-has
loop-first-preserved-then-not-has g c =
    let s = c.args.self.now in
    let x = c.requires.exchange in
    let i = c.loop-first.invariant in
    let q = c.in-Some.first in
    let nodes = c.without-nodes.result in
    let place : ℕ = index_in s.members s.commander in
    let says = g.T.Touched.says c.args.touched.now in
    let distinct = Distinct-ids g.row.N s.members x.members_ok in
    let low = index_in-lt s.members s.commander x.member_ok in
    let split = split_more nodes c.loop-first.yielded c.next.new.self c.loop-first.first-iterator q i.split c.in-Some.ensures.steps in
    record {
      can = tt;
      ends = tt;
      split = split;
      longest = c.settle_longest.ensures.longest ∙ i.longest;
      work = c.settle_each.ensures.work ∙ c.settle_longest.ensures.terms ∙ i.work;
      places = c.settle_each.ensures.places;
      reached = λ k on.
          let here = ap (λ (xs : List ℕ). has_id xs k) split ∙ has_in_front (c.loop-first.yielded ++ q ∷ []) c.next.new.self k on in
          joined_on g.row.N c.loop-first.done c.alike-alike.result c.union-done.result k c.union-done.ensures (member-lt g.row.N nodes k c.iter-first-items.ensures.ids here)
          (elim (or_cases (has_id c.loop-first.yielded k) (q == k) (sym (has_push c.loop-first.yielded q k) ∙ on)) [
            | inl was ↦ inl (i.reached k was)
            | inr is ↦ inr (ap (has_id c.alike-alike.result) (sym (eqb-true q k is)) ∙ c.alike-alike.ensures.first)
          ]);
      settled = λ own laid k on.
          let w = passing_world s.rounds s.members s.full own says in
          elim (cases_Bool (has_id c.alike-alike.result k)) [
            | inl al ↦
                let lasts = last_terms s.full own says s.rounds s.members place distinct low c.args.laid.now laid g.V.PartialEq.eq q k (s.rounds - 1) (omega (arith, c.requires.room.relayed)) (c.alike-alike.ensures.alike k al) in
                c.settle_each.ensures.settled k al (has_id s.full k) (w.heard k) (own_terms s.full own says s.rounds s.members place distinct low c.args.laid.now laid k)
                (c.settle_longest.ensures.settled k (has_id s.full k) (w.heard k) lasts)
            | inr off ↦ c.settle_each.ensures.kept k off ∙ elim (joined_has g.row.N c.loop-first.done c.alike-alike.result c.union-done.result k c.union-done.ensures on) [
              | inl was ↦ i.settled own laid k was
              | inr al ↦ absurd (both_ways _ off al)
            ]
          ];
      kept = λ k off. c.settle_each.ensures.kept k (off_some nodes c.alike-alike.result k c.alike-alike.ensures.within off) ∙ i.kept k off;
    }

pub returns-clause-settled : goal.returns-clause-settled
returns-clause-settled g c = λ own laid k on ne.
    let s = c.args.self.now in
    let w = passing_world s.rounds s.members s.full own (g.T.Touched.says c.args.touched.now) in
    let here = ap (λ (xs : List ℕ). has_id xs k) c.without-nodes.ensures ∙ has_rest s.awake s.commander k on ne in
    each_of (λ (n : ℕ). get_or c.loop-first.all n (Fault 0) ≡ settled g.V.PartialEq.eq w n (s.commander ∷ [])) c.without-nodes.result c.loop-first.yielded c.loop-first.first-iterator c.loop-first.invariant.split c.in-None.ensures.steps.0
    (λ n h. c.loop-first.invariant.settled own laid n (c.loop-first.invariant.reached n h)) k here

pub returns-clause-kept : goal.returns-clause-kept
returns-clause-kept g c = λ k out. c.loop-first.invariant.kept k (left_out c.args.self.now.awake c.without-nodes.result c.args.self.now.commander k c.without-nodes.ensures out)
