use Rattle.std.proofs.Common.{sym, ◌∙◌, get_or, None, true, ◌≡◌}
use Rattle.std.specs.Prelude.{slice_get}
use Rattle.std.proofs.lemmas.Bool.{cond-true, cond-false}
use Rattle.std.proofs.lemmas.Option.{slice_get_read}
use Rattle.node_grid.specs.NodeSet.{has_id}
use Rattle.node_grid.specs.SetFacts.{member-lt}
use Rattle.shared_states.proofs.Views.{seen}
use Rattle.shared_states.proofs.states.SharedStates.get.Goals as goal

pub bounds-self-inside-i : goal.bounds-self-inside-i
bounds-self-inside-i g c = member-lt g.row.N c.self.inside.awake c.args.i c.self.invariant.ids (sym c.has.ensures ∙ c.if-has.true)

pub returns-then-has : goal.returns-then-has
returns-then-has g c =
    let s = c.self.inside in
    let ok = c.self.invariant in
    let on : has_id s.awake c.args.i ≡ true = sym c.has.ensures ∙ c.if-has.true in
    sym (
    seen g.row.N s.awake s.places s.states.items c.args.self.now c.args.i ok.ids c.self.view_is
    ∙ cond-true (has_id s.awake c.args.i) (slice_get s.states.items (get_or s.places c.args.i 0)) None on
    ∙ slice_get_read s.states.items g.row.N (get_or s.places c.args.i 0) c.index.result.now (sym ok.room) (ok.placed c.args.i on) c.index.ensures
    )

pub returns-else-has : goal.returns-else-has
returns-else-has g c =
    let s = c.self.inside in
    sym (
    seen g.row.N s.awake s.places s.states.items c.args.self.now c.args.i c.self.invariant.ids c.self.view_is
    ∙ cond-false (has_id s.awake c.args.i) (slice_get s.states.items (get_or s.places c.args.i 0)) None (sym c.has.ensures ∙ c.if-has.false)
    )
