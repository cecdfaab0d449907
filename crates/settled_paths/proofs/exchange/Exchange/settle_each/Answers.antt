use Rattle.std.proofs.Common.{ℕ, ◌≡◌, ◌≢◌, ◌-◌, ◌∷◌, [], Bool, List, length, sym, ap, ◌∙◌, arith}
use Rattle.std.proofs.lemmas.Bool.{both_ways}
use Rattle.std.proofs.lemmas.List.{length-set}
use Rattle.node_grid.specs.NodeSet.{has_id}
use Rattle.node_grid.specs.ListFacts.{split_more, split_all}
use Rattle.node_grid.specs.SetFacts.{next_on, low_of, off_apart}
use Rattle.omh_paths.specs.declared.wrapped.Wrapped.{Wrapped}
use Rattle.omh_paths.specs.declared.wrapped.Wrapped.TheVariants.{Fault}
use Rattle.omh_paths.specs.Paths.{index_in}
use Rattle.omh.specs.Omh.{settled_at}
use Rattle.omh.specs.Flat.{AreSettled}
use Rattle.settled_paths.specs.Levels.{AreOwnTerms, ear_in}
use Rattle.settled_paths.proofs.Loops.{laid_each, laid_kept}
use Rattle.settled_paths.proofs.exchange.Exchange.settle_each.Goals as goal

pub settle_from-settled-requires : goal.settle_from-settled-requires
settle_from-settled-requires g c =
    let i = c.loop-i.invariant in
    let nodes = c.args.nodes.now in
    let q = c.in-Some.i in
    let on = next_on nodes c.loop-i.yielded c.next.new.self c.loop-i.i-iterator q i.split c.in-Some.ensures.steps in (
      omega arith,
      (
        c.requires.exchange,
        (off_apart nodes c.args.self.now.commander q c.requires.others on, record { relayed = c.requires.room.relayed; laid_ok = c.requires.room.laid_ok; longest_ok = c.requires.room.longest_ok; work_ok = omega (arith, c.requires.room.work_ok, i.work); terms_ok = omega (arith, c.requires.room.terms_ok, i.work) }),
      ),
    )

pub set_value-requires : goal.set_value-requires
set_value-requires g c =
    let i = c.loop-i.invariant in
    let low = low_of g.row.N c.args.nodes.now c.loop-i.yielded c.next.new.self c.loop-i.i-iterator c.in-Some.i c.iter-i-items.ensures.ids i.split c.in-Some.ensures.steps in
    omega (arith, low, i.places)

pub loop-i-preserved : goal.loop-i-preserved
loop-i-preserved g c =
    let s = c.args.self.now in
    let i = c.loop-i.invariant in
    let nodes = c.args.nodes.now in
    let q = c.in-Some.i in
    let place : ℕ = index_in s.members s.commander in
    let on = next_on nodes c.loop-i.yielded c.next.new.self c.loop-i.i-iterator q i.split c.in-Some.ensures.steps in
    let low = low_of g.row.N nodes c.loop-i.yielded c.next.new.self c.loop-i.i-iterator q c.iter-i-items.ensures.ids i.split c.in-Some.ensures.steps in
    record {
      can = tt;
      ends = tt;
      split = split_more nodes c.loop-i.yielded c.next.new.self c.loop-i.i-iterator q i.split c.in-Some.ensures.steps;
      work = c.settle_from-settled.ensures.work ∙ i.work;
      places = ap length c.set_value.ensures ∙ length-set c.loop-i.all q c.settle_from-settled.result ∙ i.places;
      settled = laid_each (λ (k : ℕ) (v : Wrapped g.row.V.Denot). (full : Bool) (h : List ℕ → Wrapped g.row.V.Denot) → AreOwnTerms (ear_in s.rounds s.members k full h) place c.args.laid.now
          → AreSettled g.V.PartialEq.eq (ear_in s.rounds s.members k full h) place (s.rounds - 1) c.args.longest.now → v ≡ settled_at g.V.PartialEq.eq (ear_in s.rounds s.members k full h) (s.commander ∷ []))
          c.loop-i.yielded q c.loop-i.all c.set_value.new.values c.settle_from-settled.result (Fault 0) i.settled (omega (arith, low, i.places)) c.set_value.ensures c.settle_from-settled.ensures.settled;
      kept = λ k off.
          let other : k ≢ q = λ e. both_ways _ off (ap (has_id nodes) e ∙ on) in
          laid_kept c.loop-i.all c.set_value.new.values k q c.settle_from-settled.result (Fault 0) other c.set_value.ensures ∙ i.kept k off;
    }

pub returns-clause-settled : goal.returns-clause-settled
returns-clause-settled g c = λ k on.
    let i = c.loop-i.invariant in
    let all = split_all c.args.nodes.now c.loop-i.yielded c.loop-i.i-iterator i.split c.in-None.ensures.steps.0 in
    i.settled k (ap (λ (s : List ℕ). has_id s k) (sym all) ∙ on)

pub returns-clause-kept : goal.returns-clause-kept
returns-clause-kept g c = c.loop-i.invariant.kept

pub returns-clause-work : goal.returns-clause-work
returns-clause-work g c = c.loop-i.invariant.work

pub returns-clause-places : goal.returns-clause-places
returns-clause-places g c = c.loop-i.invariant.places
