use Rattle.std.proofs.Common.{ℕ, ◌≡◌, ◌≢◌, ◌<◌, ◌*◌, length, map, refl, sym, ap, subst, ◌∙◌, arith}
use Rattle.std.specs.List.{flat_map}
use Rattle.std.proofs.lemmas.List.{get_or-map, length-map, take_all}
use Rattle.omh_paths.specs.declared.wrapped.Wrapped.TheVariants.{Fault}
use Rattle.omh_paths.specs.Wrapped.{wrapped}
use Rattle.frames.specs.Writing.{pasted}
use Rattle.relay_terms.specs.Terms.{said}
use Rattle.relaying.proofs.Framing.{put_none, put_fits, put_more}
use Rattle.relaying.proofs.saying.put_terms.Goals as goal

pub loop-place-init : goal.loop-place-init
loop-place-init g c = put_none (g.V.RelayedItem.width c.args.nodes) (g.V.RelayedItem.spelling c.args.nodes) (map said c.args.terms.now) (length c.args.out.now) c.requires.can c.args.out.now

pub put_wrapped-requires : goal.put_wrapped-requires
put_wrapped-requires g c =
    let terms = map said c.args.terms.now in
    let k : ℕ = c.loop-place.place in
    let low : k < length terms = (let l = length-map c.args.terms.now said in omega (arith, l, c.loop-place-test.true)) in
    record {
      nodes = c.requires.nodes;
      fits = put_fits (g.V.RelayedItem.width c.args.nodes) (g.V.RelayedItem.spelling c.args.nodes) terms (length c.args.out.now) c.requires.can k c.args.out.now c.loop-place.out low refl c.loop-place.invariant;
      few = subst (λ x. x ≢ Fault 254) (get_or-map said c.args.terms.now k c.index-terms-place.result (Fault 0) c.loop-place-test.true ∙ ap said (sym c.index-terms-place.is)) (c.requires.can.few k);
    }

pub loop-place-preserved : goal.loop-place-preserved
loop-place-preserved g c =
    let terms = map said c.args.terms.now in
    let k : ℕ = c.loop-place.place in
    let low : k < length terms = (let l = length-map c.args.terms.now said in omega (arith, l, c.loop-place-test.true)) in
    let is = get_or-map said c.args.terms.now k c.index-terms-place.result (Fault 0) c.loop-place-test.true ∙ ap said (sym c.index-terms-place.is) in
    put_more (g.V.RelayedItem.width c.args.nodes) (g.V.RelayedItem.spelling c.args.nodes) terms (length c.args.out.now) c.requires.can k c.args.out.now c.loop-place.out c.put_wrapped.new.out low refl c.loop-place.invariant
    (c.put_wrapped.ensures ∙ ap (λ x. pasted (g.V.RelayedItem.width c.args.nodes * k) (g.V.RelayedItem.spelling c.args.nodes (wrapped x)) c.loop-place.out) (sym is))

pub returns : goal.returns
returns g c =
    let xs = map wrapped (map said c.args.terms.now) in
    let long : length xs ≡ length c.args.terms.now = length-map (map said c.args.terms.now) wrapped ∙ length-map c.args.terms.now said in
    c.loop-place.invariant ∙ ap (λ ys. pasted 0 (flat_map (g.V.RelayedItem.spelling c.args.nodes) ys) c.args.out.now) (take_all c.loop-place.place xs (omega (arith, long, c.loop-place-test.false)))
