use Rattle.std.proofs.Common.{◌+◌, ◌∷◌, [], map, refl, sym, subst, ◌∙◌, inl, inr, lit<}
use Rattle.std.specs.Prelude.{slice_index_or}
use Rattle.std.proofs.lemmas.Bool.{cond-true}
use Rattle.node_grid.specs.NodeSet.{without_id}
use Rattle.omh_paths.specs.declared.wrapped.Wrapped.TheVariants.{Fault}
use Rattle.omh_paths.specs.Wrapped.{unwrapped}
use Rattle.omh_paths.specs.Majority.{majority}
use Rattle.relay_terms.specs.Terms.{said, term_in}
use Rattle.relay_walk.specs.Laid.{laid}
use Rattle.relay_walk.specs.Walking.{HaveNext, IsMoved, next_in}
use Rattle.relay_table.specs.Settling.{is_on_path, own_said}
use Rattle.relay_table.proofs.Known.{known_at}
use Rattle.relay_table.proofs.station.Station.settle_path.Goals as goal

pub pass-requires : goal.pass-requires
pass-requires g c = (
  elim c.requires.more.sized [ inl e ↦ rw e (lit< tt) | inr e ↦ rw e (lit< tt) ],
  (lit< tt, subst (λ by. HaveNext by c.args.frames.now) (sym c.without-others.ensures) c.requires.more),
)

pub settle-term-requires : goal.settle-term-requires
settle-term-requires g c = (
  elim c.requires.more.sized [ inl e ↦ rw e (lit< tt) | inr e ↦ rw e (lit< tt) ],
  (lit< tt, subst (λ by. HaveNext by c.args.frames.now) (sym c.without-others.ensures) c.requires.more),
)

pub returns-then-is_on_path : goal.returns-then-is_on_path
returns-then-is_on_path g c =
    let s = c.args.self.now in
    let on = sym c.is_on_path.ensures ∙ c.if-is_on_path.true in
    let others = without_id c.args.free.now s.me in
    let own = own_said s.full s.members s.me (slice_index_or (map said c.args.heard.now) c.args.at (Fault 0)) in
    let value = unwrapped (majority g.V.PartialEq.eq (own ∷ map (next_in (term_in g.V.Item.of_bytes) c.args.frames.now) others)) in
    record {
      settled = sym (cond-true (is_on_path s.members s.me c.args.free.now) (map said c.args.settled.now) (laid c.args.at (value ∷ []) (map said c.args.settled.now)) on);
      behind = sym (cond-true (is_on_path s.members s.me c.args.free.now) c.args.at (c.args.at + 1) on);
      moved = subst (λ by. IsMoved by c.args.frames.now c.pass.new.self) c.without-others.ensures c.pass.ensures;
      length = refl;
    }

pub own_term-own-requires : goal.own_term-own-requires
own_term-own-requires g c = (lit< tt, known_at c.args.heard.now c.args.at c.index-heard-at.result c.index-heard-at.is (c.requires.heard (sym c.is_on_path.ensures ∙ c.if-is_on_path.false)) c.requires.known)

pub set_term-requires : goal.set_term-requires
set_term-requires g c = c.requires.room (sym c.is_on_path.ensures ∙ c.if-is_on_path.false)
