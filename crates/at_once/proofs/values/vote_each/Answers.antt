use Rattle.std.proofs.Common.{ℕ, ℤ, ◌≡◌, ◌<◌, ◌+◌, List, [], length, set, get_or, Option, sym, subst, ◌∙◌, inl, inr, lit<, arith}
use Rattle.node_grid.specs.Capacity.{IsCapacity}
use Rattle.node_grid.specs.ListFacts.{same_at}
use Rattle.omh_paths.specs.declared.wrapped.Wrapped.{Wrapped}
use Rattle.agreed_state.specs.Agreed.{AgreedView}
use Rattle.grouped_nodes.specs.Grouping.{first_of}
use Rattle.shared_states.specs.declared.belief.Belief.{Belief}
use Rattle.told_values.specs.Slot.{DataView, slot_of}
use Rattle.at_once.specs.Kept.{of_node}
use Rattle.at_once.specs.Values.{done_at, IsVoteOf}
use Rattle.at_once.proofs.Voting.{AreVotes, votes_none, votes_skip, votes_put, taken_over, AreLeaders, leaders_none, leaders_put}
use Rattle.at_once.proofs.Voters.{AreVotersBelow, voters_none, voters_skip, voters_own, voters_taken}
use Rattle.at_once.proofs.values.vote_each.Goals.{in-Some+then-leader-i+then-hears_alike, in-Some+else-leader-i, in_default}
use Rattle.at_once.proofs.values.vote_each.Goals as goal

pub vote_at-voted-requires : goal.vote_at-voted-requires
vote_at-voted-requires g c =
    let cap : IsCapacity g.row.N = c.nodes-nodes.ensures.capacity in
    let used : c.loop-i.i < c.args.slot.now.config.nodes = (let t = c.loop-i-test.true in let n = c.nodes-nodes.ensures.nodes in omega arith) in (
      lit< tt,
      (
        elim cap [ inl e ↦ rw e (lit< tt) | inr e ↦ rw e (lit< tt) ],
        (
          elim cap [ inl e ↦ rw e (lit< tt) | inr e ↦ rw e (lit< tt) ],
          (
            elim cap [ inl e ↦ rw e (lit< tt) | inr e ↦ rw e (lit< tt) ],
            (lit< tt, (used, (c.requires.agreed c.loop-i.i c.in-Some.state.now (sym c.in-Some.ensures), c.own_told-own.ensures))),
          ),
        ),
      ),
    )

pub loop-i-init : goal.loop-i-init
loop-i-init g c =
    let d : DataView g.row.N = slot_of g.D.Dues.dues c.args.slot.now in record {
      votes = votes_none d c.args.dues.now.0 c.args.states.now c.args.dues.now.1 c.by_node.result.now c.args.off.now c.by_node.ensures.many (omega arith);
      leaders = leaders_none g.row.N c.args.dues.now.0;
      voters = voters_none g.row.N c.by_node.result.now c.each_alone-voters.result c.each_alone-voters.ensures.many c.each_alone-voters.ensures.each;
    }

pub loop-i-preserved : goal.loop-i-preserved
loop-i-preserved g c =
    let d : DataView g.row.N = slot_of g.D.Dues.dues c.args.slot.now in
    let groups : List ℕ = c.args.dues.now.0 in
    let states : List (Option AgreedView) = c.args.states.now in
    let beliefs : List (Belief g.row.N) = c.args.dues.now.1 in
    let i : ℕ = c.loop-i.i in
    let votes : List (List (Option ℤ)) = c.loop-i.votes in
    let off : List (List ℕ) = c.loop-i.off in
    let leaders : List ℕ = c.loop-i.leaders in
    let was = c.loop-i.invariant.votes in
    let led = c.loop-i.invariant.leaders in
    let taken = c.loop-i.invariant.voters in
    let used : i < d.config.nodes = (let t = c.loop-i-test.true in let n = c.nodes-nodes.ensures.nodes in omega arith) in
    let low : i < g.row.N = (let f = c.nodes-nodes.ensures.slot.config.few_nodes in omega arith) in
    elim c.match-get.branch [
      | in-Some+then-leader-i+then-hears_alike w ↦
          let a : AgreedView = w.in-Some.state.now in
          let f : ℕ = w.first-first.result in
          let f_low : f < g.row.N = (let e = w.first-first.ensures.early in omega arith) in
          let r : ℕ = get_or leaders f 0 in
          let less : r < i = w.if-leader-i.true in
          let same : first_of groups r ≡ first_of groups i = led.within f f_low (omega (arith, less, low)) ∙ w.first-first.ensures.first in
          let room : r < length off = (let wide = was.wide_off in omega arith) in
          let o : List ℕ = get_or off r w.index-off-leader.result in
          let o_is : o ≡ get_or off r [] = same_at off r w.index-off-leader.result [] room in
          record {
            votes = subst (λ (vs : List (List (Option ℤ))). AreVotes d groups states beliefs (i + 1) vs c.match-get.off) (sym w.votes-is)
                (subst (λ (os : List (List ℕ)). AreVotes d groups states beliefs (i + 1) (set votes i (of_node votes r)) os) (sym w.off-is)
                (votes_put d groups states beliefs i votes off a (of_node votes r) o low used (sym w.in-Some.ensures) was
                (λ x hears. subst (λ (s : List ℕ). IsVoteOf d a (done_at groups beliefs i) i (x i) (of_node votes r) s) (sym o_is)
                (taken_over d groups states beliefs i r votes off a c.requires.shared low used same less (sym w.in-Some.ensures) (w.hears_alike.ensures w.if-hears_alike.true) was x hears))));
            leaders = subst (AreLeaders g.row.N groups) (sym w.leaders-is) led;
            voters = subst (λ (vs : List (List (Option ℤ))). AreVotersBelow g.row.N (i + 1) vs c.match-get.voters) (sym w.votes-is)
                (subst (AreVotersBelow g.row.N (i + 1) (set votes i (of_node votes r))) (sym w.voters-is)
                (voters_taken g.row.N votes c.loop-i.voters i taken r less low was.wide));
          }
      | in-Some+else-leader-i w ↦
          let a : AgreedView = w.in-Some.state.now in
          let f : ℕ = w.first-first.result in
          let f_low : f < g.row.N = (let e = w.first-first.ensures.early in omega arith) in
          record {
            votes = subst (λ (vs : List (List (Option ℤ))). AreVotes d groups states beliefs (i + 1) vs c.match-get.off) (sym w.votes-is)
                (subst (λ (os : List (List ℕ)). AreVotes d groups states beliefs (i + 1) (set votes i w.vote_at-voted.result.votes) os) (sym w.off-is)
                (votes_put d groups states beliefs i votes off a w.vote_at-voted.result.votes w.vote_at-voted.result.off low used (sym w.in-Some.ensures) was
                (λ x hears. subst (λ (done : List (Wrapped ℕ)). IsVoteOf d a done i (x i) w.vote_at-voted.result.votes w.vote_at-voted.result.off) w.done.ensures (w.vote_at-voted.ensures (x i) (hears i used)))));
            leaders = subst (AreLeaders g.row.N groups) (sym w.leaders-is)
                (leaders_put g.row.N groups i f w.leader_after.result leaders f_low w.first-first.ensures.first w.leader_after.ensures led);
            voters = subst (λ (vs : List (List (Option ℤ))). AreVotersBelow g.row.N (i + 1) vs c.match-get.voters) (sym w.votes-is)
                (subst (AreVotersBelow g.row.N (i + 1) (set votes i w.vote_at-voted.result.votes)) (sym w.voters-is)
                (voters_own g.row.N votes c.loop-i.voters i taken w.vote_at-voted.result.votes));
          }
      | in_default w ↦ record {
        votes = subst (λ (vs : List (List (Option ℤ))). AreVotes d groups states beliefs (i + 1) vs c.match-get.off) (sym w.votes-is)
            (subst (λ (os : List (List ℕ)). AreVotes d groups states beliefs (i + 1) votes os) (sym w.off-is)
            (votes_skip d groups states beliefs i votes off (sym w.in_default.ensures) was));
        leaders = subst (AreLeaders g.row.N groups) (sym w.leaders-is) led;
        voters = subst (λ (vs : List (List (Option ℤ))). AreVotersBelow g.row.N (i + 1) vs c.match-get.voters) (sym w.votes-is)
            (subst (AreVotersBelow g.row.N (i + 1) votes) (sym w.voters-is) (voters_skip g.row.N votes c.loop-i.voters i taken));
      }
    ]

pub nodes-nodes-requires : goal.nodes-nodes-requires
nodes-nodes-requires g c = lit< tt

pub own_told-own-requires : goal.own_told-own-requires
own_told-own-requires g c = elim c.nodes-nodes.ensures.capacity [ inl e ↦ rw e (lit< tt, lit< tt) | inr e ↦ rw e (lit< tt, lit< tt) ]

pub each_alone-voters-requires : goal.each_alone-voters-requires
each_alone-voters-requires g c = elim c.nodes-nodes.ensures.capacity [ inl e ↦ rw e (lit< tt) | inr e ↦ rw e (lit< tt) ]

pub first-first-requires : goal.first-first-requires
first-first-requires g c = (lit< tt, (let t = c.loop-i-test.true in let n = c.nodes-nodes.ensures.nodes in let f = c.nodes-nodes.ensures.slot.config.few_nodes in omega arith))

pub bounds-leaders-first : goal.bounds-leaders-first
bounds-leaders-first g c =
    let e = c.first-first.ensures.early in let t = c.loop-i-test.true in let n = c.nodes-nodes.ensures.nodes in let f = c.nodes-nodes.ensures.slot.config.few_nodes in omega arith

pub hears_alike-requires : goal.hears_alike-requires
hears_alike-requires g c = lit< tt

pub bounds-votes-leader : goal.bounds-votes-leader
bounds-votes-leader g c =
    let less = c.if-leader-i.true in let t = c.loop-i-test.true in let n = c.nodes-nodes.ensures.nodes in let f = c.nodes-nodes.ensures.slot.config.few_nodes in omega arith

pub leader_after-requires : goal.leader_after-requires
leader_after-requires g c = (lit< tt, (let t = c.loop-i-test.true in let n = c.nodes-nodes.ensures.nodes in omega arith))

pub get-requires : goal.get-requires
get-requires g c = elim c.nodes-nodes.ensures.capacity [ inl e ↦ rw e (lit< tt, lit< tt) | inr e ↦ rw e (lit< tt, lit< tt) ]

pub by_node-requires : goal.by_node-requires
by_node-requires g c = elim c.nodes-nodes.ensures.capacity [ inl e ↦ rw e (lit< tt, lit< tt) | inr e ↦ rw e (lit< tt, lit< tt) ]

pub done-requires : goal.done-requires
done-requires g c =
    let low : c.loop-i.i < g.row.N = (let t = c.loop-i-test.true in let n = c.nodes-nodes.ensures.nodes in let f = c.nodes-nodes.ensures.slot.config.few_nodes in omega arith) in
    (lit< tt, (elim c.nodes-nodes.ensures.capacity [ inl e ↦ rw e (lit< tt) | inr e ↦ rw e (lit< tt) ], low))

pub invariant_of-result : goal.invariant_of-result
invariant_of-result g c = c.loop-i.invariant.voters.same

pub returns : goal.returns
returns g c x hears i a low is = c.loop-i.invariant.votes.so_far x hears i a (let t = c.loop-i-test.false in let n = c.nodes-nodes.ensures.nodes in omega arith) low is
