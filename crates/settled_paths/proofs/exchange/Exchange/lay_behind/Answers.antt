use Rattle.std.proofs.Common.{ℕ, ◌≡◌, ◌≢◌, ◌<◌, ◌+◌, List, length, get_or, sym, ap, ◌∙◌, subst, inl, inr, arith}
use Rattle.std.specs.Prelude.{if◌then◌else◌}
use Rattle.std.proofs.lemmas.List.{length_push, length-set}
use Rattle.node_grid.specs.NodeSet.{has_id}
use Rattle.node_grid.specs.ListFacts.{split_all, split_more}
use Rattle.omh_paths.specs.declared.wrapped.Wrapped.{Wrapped}
use Rattle.omh_paths.specs.declared.wrapped.Wrapped.TheVariants.{Fault}
use Rattle.omh_paths.specs.Wrapped.{wrapped}
use Rattle.omh_paths.specs.Paths.{outside}
use Rattle.omh.specs.Written.{IsSmall}
use Rattle.settled_paths.specs.Passing.{or_passed}
use Rattle.settled_paths.proofs.Loops.{next_at, next_short, laid_next, laid_kept}
use Rattle.settled_paths.proofs.exchange.Exchange.lay_behind.Goals as goal

pub loop-q-preserved : goal.loop-q-preserved
loop-q-preserved g c =
    let a = c.args in
    let i = c.loop-q.invariant in
    let others = outside a.self.now.members a.path.now in
    let q = c.in-Some.q in
    let n : ℕ = length c.loop-q.yielded in
    let at = next_at others c.loop-q.yielded c.next.new.self c.loop-q.q-iterator q i.split c.in-Some.ensures.steps in
    let short = next_short others c.loop-q.yielded c.next.new.self c.loop-q.q-iterator q i.split c.in-Some.ensures.steps in
    let room : c.loop-q.place < length c.loop-q.laid = omega (arith, i.end, i.room, short, c.requires.room) in
    let long = length_push c.loop-q.yielded q in
    let want = λ (x : ℕ). if has_id a.self.now.full x then wrapped (or_passed (g.T.Touched.says a.touched.now x a.path.now) a.passed) else Fault 0 in
    record {
      can = tt;
      ends = tt;
      split = split_more others c.loop-q.yielded c.next.new.self c.loop-q.q-iterator q i.split c.in-Some.ensures.steps;
      end = omega (arith, i.end, long);
      room = ap length c.set_value.ensures ∙ length-set c.loop-q.laid c.loop-q.place c.passed_on.result ∙ i.room;
      each = λ j l. laid_next (λ (k : ℕ) (v : Wrapped g.row.V.Denot). v ≡ want (get_or others k 0)) c.loop-q.laid c.set_value.new.values a.from n c.loop-q.place c.passed_on.result (Fault 0) i.end room c.set_value.ensures i.each
          (c.passed_on.ensures.passed ∙ ap want (sym at)) j (omega (arith, long));
      few = λ most up small j l. laid_next (λ (k : ℕ) (v : Wrapped g.row.V.Denot). IsSmall (most + 1) v) c.loop-q.laid c.set_value.new.values a.from n c.loop-q.place c.passed_on.result (Fault 0) i.end room c.set_value.ensures (i.few most up small)
          (c.passed_on.ensures.small most up small) j (omega (arith, long));
      kept = λ k out.
          let other : k ≢ c.loop-q.place = elim out [ inl low ↦ (λ e. omega (arith, i.end)) | inr high ↦ (λ e. omega (arith, i.end, short)) ] in
          laid_kept c.loop-q.laid c.set_value.new.values k c.loop-q.place c.passed_on.result (Fault 0) other c.set_value.ensures ∙ i.kept k out;
    }

pub returns-clause-each : goal.returns-clause-each
returns-clause-each g c =
    let i = c.loop-q.invariant in
    let all = split_all (outside c.args.self.now.members c.args.path.now) c.loop-q.yielded c.loop-q.q-iterator i.split c.in-None.ensures.steps.0 in
    λ j l. i.each j (subst (λ (ys : List ℕ). j < length ys) all l)

pub returns-clause-few : goal.returns-clause-few
returns-clause-few g c =
    let i = c.loop-q.invariant in
    let all = split_all (outside c.args.self.now.members c.args.path.now) c.loop-q.yielded c.loop-q.q-iterator i.split c.in-None.ensures.steps.0 in
    λ most up small j l. i.few most up small j (subst (λ (ys : List ℕ). j < length ys) all l)

pub returns-clause-kept : goal.returns-clause-kept
returns-clause-kept g c = c.loop-q.invariant.kept

pub returns-clause-room : goal.returns-clause-room
returns-clause-room g c = c.loop-q.invariant.room
