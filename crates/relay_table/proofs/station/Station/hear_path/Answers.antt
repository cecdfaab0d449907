use Rattle.std.proofs.Common.{refl, inl, inr, lit<, ◌≡◌, ◌≤◌, ◌+◌, false, map, length, sym, ap, subst, ◌∙◌, arith}
use Rattle.std.proofs.lemmas.Bool.{cond-true, cond-false}
use Rattle.std.proofs.lemmas.List.{length-map}
use Rattle.node_grid.specs.NodeSet.{without_id}
use Rattle.relay_terms.specs.Terms.{said, term_in}
use Rattle.relay_walk.specs.Laid.{laid}
use Rattle.relay_walk.specs.Walking.{HaveNext, IsMoved, next_in}
use Rattle.relay_table.specs.Settling.{is_on_path}
use Rattle.relay_table.specs.Tabled.{AreKnown}
use Rattle.relay_table.proofs.Known.{known_laid, known_next, known_each}
use Rattle.relay_table.proofs.station.Station.hear_path.Goals as goal

pub pass-requires : goal.pass-requires
pass-requires g c = (
  elim c.requires.more.sized [ inl e ↦ rw e (lit< tt) | inr e ↦ rw e (lit< tt) ],
  (lit< tt, subst (λ by. HaveNext by c.args.frames.now) (sym c.without-others.ensures) c.requires.more),
)

pub keep-requires : goal.keep-requires
keep-requires g c =
    let l = ap (λ xs. length xs) c.without-others.ensures in (
      elim c.requires.more.sized [ inl e ↦ rw e (lit< tt) | inr e ↦ rw e (lit< tt) ],
      (
        lit< tt,
        (
          subst (λ by. HaveNext by c.args.frames.now) (sym c.without-others.ensures) c.requires.more,
          omega (arith, l, c.requires.room (sym c.is_on_path.ensures ∙ c.if-is_on_path.false)),
        ),
      ),
    )

pub returns-then-is_on_path : goal.returns-then-is_on_path
returns-then-is_on_path g c =
    let s = c.args.self.now in
    let on = sym c.is_on_path.ensures ∙ c.if-is_on_path.true in
    let others = without_id c.args.free.now s.me in
    record {
      heard = sym (cond-true (is_on_path s.members s.me c.args.free.now) (map said c.args.heard.now) (laid c.args.at (map (next_in (term_in g.V.Item.of_bytes) c.args.frames.now) others) (map said c.args.heard.now)) on);
      behind = sym (cond-true (is_on_path s.members s.me c.args.free.now) c.args.at (c.args.at + length others) on);
      known = λ k. k;
      moved = subst (λ by. IsMoved by c.args.frames.now c.pass.new.self) c.without-others.ensures c.pass.ensures;
      length = refl;
    }

pub returns : goal.returns
returns g c =
    let s = c.args.self.now in
    let off : is_on_path s.members s.me c.args.free.now ≡ false = sym c.is_on_path.ensures ∙ c.if-is_on_path.false in
    let others = without_id c.args.free.now s.me in
    let nexts = map (next_in (term_in g.V.Item.of_bytes) c.args.frames.now) others in
    let old = map said c.args.heard.now in
    let is : map said c.keep.new.terms ≡ laid c.args.at nexts old =
    c.keep.ensures.terms ∙ ap (λ xs. laid c.args.at (map (next_in (term_in g.V.Item.of_bytes) c.args.frames.now) xs) old) c.without-others.ensures in
    let room : c.args.at + length nexts ≤ length old = omega (arith, c.requires.room off, length-map others (next_in (term_in g.V.Item.of_bytes) c.args.frames.now), length-map c.args.heard.now said) in
    record {
      heard = is ∙ sym (cond-false (is_on_path s.members s.me c.args.free.now) old (laid c.args.at nexts old) off);
      behind = c.keep.ensures.behind ∙ ap (λ xs. c.args.at + length xs) c.without-others.ensures ∙ sym (cond-false (is_on_path s.members s.me c.args.free.now) c.args.at (c.args.at + length others) off);
      known = λ known. subst (λ xs. AreKnown xs) (sym is) (known_laid c.args.at nexts old (known_each (next_in (term_in g.V.Item.of_bytes) c.args.frames.now) others (known_next g.V.Item.of_bytes others c.args.frames.now c.requires.more)) known room);
      moved = subst (λ by. IsMoved by c.args.frames.now c.keep.new.self) c.without-others.ensures c.keep.ensures.moved;
      length = c.keep.ensures.length;
    }
