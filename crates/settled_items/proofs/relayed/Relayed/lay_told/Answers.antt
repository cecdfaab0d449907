use Rattle.std.proofs.Common.{rules, List, ℕ, ◌≢◌, ◌∷◌, [], length, sym, ap, subst, ◌∙◌, arith}
use Rattle.std.specs.Prelude.{All}
use Rattle.std.proofs.lemmas.List.{length-set, length-map}
use Rattle.std.proofs.lemmas.List.Elements.{All-nil, All-cons, All-set}
use Rattle.node_grid.specs.ListFacts.{split_more}
use Rattle.node_grid.specs.SetFacts.{low_of}
use Rattle.omh_paths.specs.declared.wrapped.Wrapped.{Wrapped}
use Rattle.omh_paths.specs.declared.wrapped.Wrapped.TheVariants.{Fault}
use Rattle.omh.specs.Written.{IsSmall}
use Rattle.omh.specs.Flat.{forgotten}
use Rattle.settled_paths.specs.Passing.{or_passed}
use Rattle.settled_paths.proofs.Layers.{small_more, small_known}
use Rattle.odd_relays.proofs.Laying.{laid_each}
use Rattle.settled_items.proofs.relayed.Relayed.lay_told.Goals as goal

pub set_value-requires : goal.set_value-requires
set_value-requires g c =
    let i = c.loop-i.invariant in
    let l = low_of g.row.N c.args.self.now.exchange.awake c.loop-i.yielded c.next.new.self c.loop-i.i-iterator c.in-Some.i c.iter-i-items.ensures.ids i.split c.in-Some.ensures.steps in
    omega (arith, l, i.places)

all_cleared : {V : Type 0} (xs : List (Wrapped V)) → All (λ (v : Wrapped V). v ≢ Fault 255) (forgotten xs)
all_cleared {V} [] = let P : Wrapped V → Type 0 = λ v. v ≢ Fault 255 in All-nil P
all_cleared {V} (x ∷ xs) = let P : Wrapped V → Type 0 = λ v. v ≢ Fault 255 in All-cons P (Fault 0) (forgotten xs) (small_known {V = V} (Fault 0) (omega arith)) (all_cleared xs)

pub loop-i-init : goal.loop-i-init
loop-i-init g c =
    let P : Wrapped g.row.V.Denot → Type 0 = λ v. v ≢ Fault 255 in
    record {
      can = tt;
      ends = tt;
      split = search rules;
      places = ap length c.clear.ensures ∙ length-map c.args.told.now (λ (x : Wrapped g.row.V.Denot). Fault 0) ∙ c.requires.places;
      known = subst (All P) (sym c.clear.ensures) (all_cleared c.args.told.now);
      told = λ i on. absurd (cc);
    }

pub loop-i-preserved : goal.loop-i-preserved
loop-i-preserved g c =
    let i = c.loop-i.invariant in
    let q : ℕ = c.in-Some.i in
    let x = c.args.self.now in
    let l = low_of g.row.N x.exchange.awake c.loop-i.yielded c.next.new.self c.loop-i.i-iterator q c.iter-i-items.ensures.ids i.split c.in-Some.ensures.steps in
    let small = c.heard-heard.ensures.small 252 (omega arith) (subst (IsSmall 252) (sym c.own-own.ensures) (small_more 251 252 x.own.now (omega arith) c.requires.own)) in
    let known : c.heard-heard.result ≢ Fault 255 = small_known c.heard-heard.result (small_more 252 254 c.heard-heard.result (omega arith) small) in
    let P : Wrapped g.row.V.Denot → Type 0 = λ v. v ≢ Fault 255 in
    record {
      can = tt;
      ends = tt;
      split = split_more x.exchange.awake c.loop-i.yielded c.next.new.self c.loop-i.i-iterator q i.split c.in-Some.ensures.steps;
      places = ap length c.set_value.ensures ∙ length-set c.loop-i.told q c.heard-heard.result ∙ i.places;
      known = subst (All P) (sym c.set_value.ensures) (All-set P c.loop-i.told q c.heard-heard.result known i.known);
      told = laid_each (λ (k : ℕ). or_passed (g.T.Touched.says x.touched.now k (x.exchange.commander ∷ [])) x.own.now) c.loop-i.yielded q c.loop-i.told c.set_value.new.values c.heard-heard.result (Fault 0) i.told (omega (arith, l, i.places)) c.set_value.ensures
          (c.heard-heard.ensures.heard ∙ ap (or_passed (g.T.Touched.says x.touched.now q c.root-root.result)) c.own-own.ensures ∙ ap (λ p. or_passed (g.T.Touched.says x.touched.now q p) x.own.now) c.root-root.ensures);
    }
