use Rattle.std.proofs.Common.{ℕ, ◌≡◌, ◌<◌, List, length, get_or, sym, ap, ap₂, ◌∙◌, subst, arith}
use Rattle.std.proofs.lemmas.List.{length_push, length-set}
use Rattle.node_grid.specs.ListFacts.{split_all, split_more}
use Rattle.omh_paths.specs.declared.wrapped.Wrapped.{Wrapped}
use Rattle.omh_paths.specs.declared.wrapped.Wrapped.TheVariants.{Fault}
use Rattle.omh_paths.specs.Paths.{outside}
use Rattle.omh_paths.specs.Facts.{next_outside}
use Rattle.settled_paths.specs.Passing.{or_passed, instead}
use Rattle.settled_paths.proofs.Loops.{next_at, next_short, front_next}
use Rattle.settled_paths.proofs.exchange.Exchange.lay_terms.Goals as goal

pub term-value-requires-clause-off : goal.term-value-requires-clause-off
term-value-requires-clause-off g c =
    (next_outside c.args.self.now.members c.args.path.now c.loop-q.yielded c.next.new.self c.loop-q.q-iterator c.in-Some.q c.loop-q.invariant.split c.in-Some.ensures.steps).1

pub loop-q-preserved : goal.loop-q-preserved
loop-q-preserved g c =
    let a = c.args in
    let i = c.loop-q.invariant in
    let others = outside a.self.now.members a.path.now in
    let q = c.in-Some.q in
    let n : ℕ = length c.loop-q.yielded in
    let at = next_at others c.loop-q.yielded c.next.new.self c.loop-q.q-iterator q i.split c.in-Some.ensures.steps in
    let short = next_short others c.loop-q.yielded c.next.new.self c.loop-q.q-iterator q i.split c.in-Some.ensures.steps in
    let room : c.loop-q.place < length c.loop-q.terms = omega (arith, i.end, i.room, short, c.requires.room) in
    let long = length_push c.loop-q.yielded q in
    let says = g.T.Touched.says a.touched.now in
    record {
      can = tt;
      ends = tt;
      split = split_more others c.loop-q.yielded c.next.new.self c.loop-q.q-iterator q i.split c.in-Some.ensures.steps;
      end = omega (arith, i.end, long);
      room = ap length c.set_value.ensures ∙ length-set c.loop-q.terms c.loop-q.place c.term-value.result ∙ i.room;
      each = λ j l. front_next (λ (k : ℕ) (v : Wrapped g.row.V.Denot). v ≡ or_passed (instead says a.i a.path.now (get_or others k 0)) (get_or a.passed.now k (Fault 0))) c.loop-q.terms c.set_value.new.values n c.loop-q.place c.term-value.result (Fault 0)
          i.end room c.set_value.ensures i.each
          (c.term-value.ensures ∙ ap₂ (λ (x : ℕ) (v : Wrapped g.row.V.Denot). or_passed (instead says a.i a.path.now x) v) (sym at) (c.value_at.ensures ∙ ap (λ (k : ℕ). get_or a.passed.now k (Fault 0)) i.end)) j (omega (arith, long));
    }

pub returns-clause-each : goal.returns-clause-each
returns-clause-each g c =
    let i = c.loop-q.invariant in
    let all = split_all (outside c.args.self.now.members c.args.path.now) c.loop-q.yielded c.loop-q.q-iterator i.split c.in-None.ensures.steps.0 in
    λ j l. i.each j (subst (λ (ys : List ℕ). j < length ys) all l)

pub returns-clause-room : goal.returns-clause-room
returns-clause-room g c = c.loop-q.invariant.room
