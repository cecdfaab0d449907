use Rattle.std.proofs.Common.{rules, ◌≡◌, ◌<◌, ◌-◌, true, false, ℕ, ◌∷◌, List, length, map, drop, set, get_or, w64, sym, ap, subst, ◌∙◌, arith}
use Rattle.std.specs.Prelude.{All}
use mir.Val.{SFits, to_z, of_z}
use Rattle.std.proofs.lemmas.Int.{to_z-of_z}
use Rattle.std.proofs.lemmas.List.{length-map}
use Rattle.std.proofs.lemmas.List.Elements.{All-get_or}
use Rattle.node_grid.specs.NodeSet.{ids_below}
use Rattle.clock_skew.specs.declared.plan.Lie.{Lie}
use Rattle.clock_skew.specs.Clock.{ClockView, LieView, lie_of, is_told, first_told, IsLie}
use Rattle.clock_skew.proofs.Places.{lie_there, rest_there}
use Rattle.clock_skew.proofs.Told.{AreTold, more_told, not_told, all_told, all_near}
use Rattle.clock_skew.proofs.plan.ClockPlan.lies_to.Goals as goal

-- a lie of a list that a plan may have is one of a node of the capacity
bounded : {n : ℕ} (ls : List (Lie n)) (k nodes : ℕ) (x : Lie n) → k < length ls → x ≡ get_or ls k x → All (IsLie nodes) (map lie_of ls) → x.from < nodes
bounded ls k nodes x low is all =
    let one : IsLie nodes (lie_of x) = subst (λ (y : LieView). IsLie nodes y) (lie_there ls k x low is) (All-get_or (IsLie nodes) (map lie_of ls) k (lie_of x) (omega (arith, low, length-map ls lie_of)) all) in
    one.from

-- the lie at the place before those that were gone through
next : {n : ℕ} (ls : List (Lie n)) (place : ℕ) (x : Lie n) → 0 < place → place - 1 < length ls → x ≡ get_or ls (place - 1) x
    → drop (place - 1) (map lie_of ls) ≡ lie_of x ∷ drop place (map lie_of ls)
next ls place x some low is = rest_there ls (place - 1) x low is ∙ ap (λ (k : ℕ). lie_of x ∷ drop k (map lie_of ls)) (omega (arith, some))

pub bounds-told-lie : goal.bounds-told-lie
bounds-told-lie g c =
    let nodes : ℕ = c.self.inside.nodes in
    let all : All (IsLie nodes) (map lie_of c.as_slice-lies.result.now) = subst (λ (ys : List LieView). All (IsLie nodes) ys) (sym (ap (map lie_of) c.as_slice-lies.ensures.value)) c.self.invariant.lies in
    let low : c.loop-place.place - 1 < length c.as_slice-lies.result.now = omega (arith, c.loop-place-test.true, c.loop-place.invariant.within) in
    omega (arith, bounded c.as_slice-lies.result.now (c.loop-place.place - 1) nodes c.index-lies-place.result low c.index-lies-place.is all, c.self.invariant.nodes)

pub loop-place-preserved-then-is_told : goal.loop-place-preserved-then-is_told
loop-place-preserved-then-is_told g c =
    let x = c.index-lies-place.result in
    let ls = c.as_slice-lies.result.now in
    let fits : SFits w64 x.by = search rules in
    let low : c.loop-place.place - 1 < length ls = omega (arith, c.loop-place-test.true, c.loop-place.invariant.within) in
    let on : is_told x.from c.args.i c.args.period (lie_of x) ≡ true = sym c.is_told.ensures ∙ c.if-is_told.true in
    let put = more_told g.row.N c.args.i c.args.period (lie_of x) (drop c.loop-place.place (map lie_of ls)) c.loop-place.told c.loop-place.invariant.told (to_z w64 (of_z w64 x.by)) (bounds-told-lie g c) (to_z-of_z w64 x.by fits) on in
    record {
      within = omega (arith, low);
      told = subst (λ (ys : List LieView). AreTold g.row.N c.args.i c.args.period ys (set c.loop-place.told x.from (to_z w64 (of_z w64 x.by)))) (sym (next ls c.loop-place.place x c.loop-place-test.true low c.index-lies-place.is)) put;
    }

pub loop-place-preserved : goal.loop-place-preserved
loop-place-preserved g c =
    let x = c.index-lies-place.result in
    let ls = c.as_slice-lies.result.now in
    let low : c.loop-place.place - 1 < length ls = omega (arith, c.loop-place-test.true, c.loop-place.invariant.within) in
    let off : is_told x.from c.args.i c.args.period (lie_of x) ≡ false = sym c.is_told.ensures ∙ c.if-is_told.false in
    let kept = not_told g.row.N c.args.i c.args.period (lie_of x) (drop c.loop-place.place (map lie_of ls)) c.loop-place.told c.loop-place.invariant.told off in
    record {
      within = omega (arith, low);
      told = subst (λ (ys : List LieView). AreTold g.row.N c.args.i c.args.period ys c.loop-place.told) (sym (next ls c.loop-place.place x c.loop-place-test.true low c.index-lies-place.is)) kept;
    }

pub returns-clause-lies : goal.returns-clause-lies
returns-clause-lies g c =
    let ls = c.as_slice-lies.result.now in
    let first : c.loop-place.place ≡ 0 = omega (arith, c.loop-place-test.false) in
    let whole : drop c.loop-place.place (map lie_of ls) ≡ c.args.self.now.lies =
    ap (λ (k : ℕ). drop k (map lie_of ls)) first ∙ ap (map lie_of) c.as_slice-lies.ensures.value ∙ ap (λ (v : ClockView). v.lies) c.self.view_is in
    all_told g.row.N c.args.i c.args.period _ c.loop-place.told c.loop-place.invariant.told ∙ ap (λ (ys : List LieView). map (λ j. first_told j c.args.i c.args.period ys) (ids_below g.row.N)) whole

pub returns-clause-range : goal.returns-clause-range
returns-clause-range g c =
    let ls = c.as_slice-lies.result.now in
    let nodes : ℕ = c.self.inside.nodes in
    let first : c.loop-place.place ≡ 0 = omega (arith, c.loop-place-test.false) in
    let whole : drop c.loop-place.place (map lie_of ls) ≡ map lie_of c.self.inside.lies.items = ap (λ (k : ℕ). drop k (map lie_of ls)) first ∙ ap (map lie_of) c.as_slice-lies.ensures.value in
    all_near g.row.N nodes c.args.i c.args.period _ c.loop-place.told c.loop-place.invariant.told (subst (λ (ys : List LieView). All (IsLie nodes) ys) (sym whole) c.self.invariant.lies)
