use Rattle.std.proofs.Common.{◌≡◌, ◌<◌, ℕ, false, List, map, Option, refl, sym, ap, ◌∙◌, arith, subst, lit<}
use Rattle.std.proofs.lemmas.List.{take_all, drop_all}
use Rattle.clock_skew.specs.Clock.{lie_of}
use Rattle.scenario.specs.Line.{lie_in}
use Rattle.scenario.specs.declared.parts.LiePart.{LiePart}
use Rattle.scenario.specs.Rules.{at_place, first_bad, is_lie, fits_lie}
use Rattle.scenario.specs.Seen.{lie_view}
use Rattle.scenario.specs.Verdict.{Tells}
use Rattle.scenario.proofs.Lying.{next_lie, next_fits, fits, unfit, one_too_many, bad_lie}
use Rattle.scenario.proofs.clocking.lies.Goals as goal

pub returns-in_default-clause-refused : goal.returns-in_default-clause-refused
returns-in_default-clause-refused g c =
    let plan = c.args.plan.now in
    let k = c.loop-place.place in
    let part = c.index-parts-place.result in
    let off : is_lie plan (lie_view part) ≡ false = sym c.in_default.ensures.fits in
    let bad = bad_lie plan c.args.parts.now k part c.loop-place-test.true c.index-parts-place.is (unfit plan k (lie_view part) off) in
    subst (λ (o : Option (ℕ × ℕ)). Tells o c.refused-in_default.result) (sym (ap (at_place 19) (sym c.loop-place.invariant.left ∙ bad))) c.refused-in_default.ensures

pub loop-place-preserved : goal.loop-place-preserved
loop-place-preserved g c =
    let plan = c.args.plan.now in
    let parts = c.args.parts.now in
    let k = c.loop-place.place in
    let part = c.index-parts-place.result in
    let few : k < 4096 = omega arith in
    let good = fits plan k (lie_view part) few (sym c.in-Some.ensures.fits) in
    record {
      so_far = next_lie g.row.N c.args.nodes parts k part c.in-Some.lie c.loop-place.lies.items c.push.new.self.items c.loop-place-test.true c.index-parts-place.is c.in-Some.ensures.lie c.in-Ok.ensures.items c.loop-place.invariant.so_far;
      left = next_fits plan parts k part c.loop-place-test.true c.index-parts-place.is good ∙ c.loop-place.invariant.left;
    }

pub returns-then-place-ge-MOST_LIES-clause-refused : goal.returns-then-place-ge-MOST_LIES-clause-refused
returns-then-place-ge-MOST_LIES-clause-refused g c =
    let plan = c.args.plan.now in
    let k = c.loop-place.place in
    let part = c.index-parts-place.result in
    let bad = bad_lie plan c.args.parts.now k part c.loop-place-test.true c.index-parts-place.is (one_too_many plan k (lie_view part) c.if-place-ge-MOST_LIES.true) in
    subst (λ (o : Option (ℕ × ℕ)). Tells o c.refused.result) (sym (ap (at_place 19) (sym c.loop-place.invariant.left ∙ bad))) c.refused.ensures

pub lie-requires : goal.lie-requires
lie-requires g c = (lit< tt, (lit< tt, (c.requires.few, (c.requires.nodes, (c.requires.periods, c.requires.few_periods)))))

pub loop-place-init : goal.loop-place-init
loop-place-init g c = record { so_far = ap (map (lie_of {n = g.row.N})) c.new-lies.ensures.items; left = refl }

pub returns-clause-lies : goal.returns-clause-lies
returns-clause-lies g c =
    c.loop-place.invariant.so_far ∙ ap (λ (ps : List LiePart). map (lie_in c.args.nodes) (map lie_view ps)) (take_all c.loop-place.place c.args.parts.now c.loop-place-test.false)

pub returns-clause-unrefused : goal.returns-clause-unrefused
returns-clause-unrefused g c =
    sym c.loop-place.invariant.left
    ∙ ap (λ (ps : List LiePart). first_bad (fits_lie c.args.plan.now) c.loop-place.place (map lie_view ps)) (drop_all c.loop-place.place c.args.parts.now c.loop-place-test.false)
