use Rattle.std.proofs.Common.{ℕ, ◌≡◌, ◌≢◌, ◌<◌, ◌==◌, true, List, length, map, get_or, sym, ap, ◌∙◌, ne_eqb, arith}
use Rattle.std.specs.Prelude.{if◌then◌else◌}
use Rattle.std.proofs.lemmas.Bool.{cond-true, cond-false}
use Rattle.node_grid.specs.NodeSet.{has_id, without_id, place_of, IsIdSet}
use Rattle.node_grid.specs.SetFacts.{has-without}
use Rattle.omh_paths.specs.declared.wrapped.Wrapped.TheVariants.{Fault}
use Rattle.omh_paths.specs.MemberLaws.{place-index}
use Rattle.omh_paths.specs.Paths.{index_in}
use Rattle.omh_paths.specs.PathLists.{index_in-lt}
use Rattle.relay_terms.specs.Terms.{said}
use Rattle.relay_table.proofs.Known.{said_at}
use Rattle.relay_table.proofs.station.Station.settled_item.Goals as goal

-- the place of another member
place_is : (n : ℕ) (members others : List ℕ) (me node place : ℕ) → IsIdSet n others → others ≡ without_id members me → node ≢ me → has_id members node ≡ true → place ≡ place_of others node
    → (place ≡ index_in others node) × (place < length others)
place_is n members others me node place ids is other on at =
    let there : has_id others node ≡ true = ap (λ (s : List ℕ). has_id s node) is ∙ has-without members me node other on in
    let index : place ≡ index_in others node = at ∙ place-index n others node ids there in
    (index, omega (arith, index, index_in-lt others node there))

pub bounds-settled-place : goal.bounds-settled-place
bounds-settled-place g c =
    let s = c.args.self.now in
    let place = place_is g.row.N s.members s.others s.me c.args.node c.place.result c.place.ensures.ids c.requires.station.others_ok c.if-node-self.true (sym c.has.ensures ∙ c.if-not-has.false) c.place.ensures.count in
    omega (arith, place.1, c.requires.room)

pub returns-then-node-self : goal.returns-then-node-self
returns-then-node-self g c =
    let s = c.args.self.now in
    let on = sym c.has.ensures ∙ c.if-not-has.false in
    let place = place_is g.row.N s.members s.others s.me c.args.node c.place.result c.place.ensures.ids c.requires.station.others_ok c.if-node-self.true on c.place.ensures.count in
    let mine = if s.full then said c.args.own.now else Fault 0 in
    let theirs = get_or (map said c.args.settled.now) (index_in s.others c.args.node) (Fault 0) in
    said_at c.args.settled.now c.place.result c.index-settled-place.result c.index-settled-place.is (omega (arith, place.1, c.requires.room))
    ∙ ap (λ k. get_or (map said c.args.settled.now) k (Fault 0)) place.0
    ∙ sym (cond-false (c.args.node == s.me) mine theirs (ne_eqb c.args.node s.me c.if-node-self.true))
    ∙ sym (cond-true (has_id s.members c.args.node) (if c.args.node == s.me then mine else theirs) (Fault 0) on)

pub offset_bounds-settled-place : goal.offset_bounds-settled-place
offset_bounds-settled-place g c = let low = bounds-settled-place g c in omega arith
