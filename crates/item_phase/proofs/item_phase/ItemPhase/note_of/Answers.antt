use Rattle.std.proofs.Common.{ℕ, suc, ◌≡◌, ◌<◌, ◌+◌, ◌==◌, ◌&&◌, Some, sym, ap, subst, ◌∙◌, arith}
use Rattle.node_grid.specs.NumberFacts.{kinds-few}
use Rattle.error_reports.specs.Notes.{Notes, also_noted}
use Rattle.heard_links.specs.Hearing.{frame_kind, talk_in}
use Rattle.heard_links.proofs.Sets.{node_low}
use Rattle.item_phase.specs.Noted.{found_below, of_node, rounds_of, IsNoter}
use Rattle.item_phase.proofs.FrameKinds.{kind_low}
use Rattle.item_phase.proofs.Kinding.{noted_kind}
use Rattle.item_phase.proofs.RoundNotes.{some_kinds, noted_none, noted_more, noted_same, noted_all, noter_more}
use Rattle.item_phase.proofs.item_phase.ItemPhase.note_of.Goals.{in-Some, in_default}
use Rattle.item_phase.proofs.item_phase.ItemPhase.note_of.Goals as goal

pub loop-round-init : goal.loop-round-init
loop-round-init g c = noted_none g.row.N c.args.notes.now (rounds_of g.V.Item.form c.args.phase.now c.args.self.now.links c.args.i) c.args.j c.requires.notes.within

pub note-requires : goal.note-requires
note-requires g c =
    let a = c.args in
    let x = a.phase.now in
    let config = x.config.now in
    let r : ℕ = c.loop-round.round in
    let is : IsNoter config a.i c.loop-round.notes =
    subst (IsNoter config a.i) (sym c.loop-round.invariant)
    (noter_more config a.i a.notes.now (of_node a.j (found_below r (rounds_of g.V.Item.form x a.self.now.links a.i))) c.requires.notes) in
    let low = kind_low (talk_in g.V.Item.form x a.self.now.links) config.m a.i a.j c.in-Some.kind r (omega (arith, c.loop-round-test.true)) (sym c.in-Some.ensures) in
    let some = some_kinds config.version in
    let kinds = is.kinds in
    let nodes = is.nodes in
    let used = c.requires.from in
    (omega (arith, nodes, used), omega (arith, low, some, kinds))

pub loop-round-preserved : goal.loop-round-preserved
loop-round-preserved g c =
    let a = c.args in
    let x = a.phase.now in
    let config = x.config.now in
    let set = c.requires.settled.heard.set in
    let r : ℕ = c.loop-round.round in
    let j : ℕ = a.j in
    let rounds = rounds_of g.V.Item.form x a.self.now.links a.i in
    let old : Notes = a.notes.now in
    let n : Notes = c.loop-round.notes in
    let later : also_noted g.row.N old (of_node j (found_below (suc r) rounds)) ≡ also_noted g.row.N old (of_node j (found_below (r + 1) rounds)) =
    ap (λ (k : ℕ). also_noted g.row.N old (of_node j (found_below k rounds))) (let e : suc r ≡ r + 1 = omega arith in e) in
    elim c.match-kind.branch [
      | in-Some w ↦
          let kind : ℕ = w.in-Some.kind in
          let is : IsNoter config a.i n = subst (IsNoter config a.i) (sym c.loop-round.invariant) (noter_more config a.i old (of_node j (found_below r rounds)) c.requires.notes) in
          let found : frame_kind rounds r j ≡ Some kind = sym w.in-Some.ensures in
          let low = kind_low (talk_in g.V.Item.form x a.self.now.links) config.m a.i j kind r (omega (arith, c.loop-round-test.true)) found in
          let some = some_kinds config.version in
          let few = kinds-few config.version in
          let kinds = is.kinds in
          let nodes = is.nodes in
          let used = c.requires.from in
          let old_kinds = c.requires.notes.kinds in
          let under : j < g.row.N = node_low x set j used in
          w.notes-is ∙ w.note.ensures
          ∙ noted_kind g.row.N n j kind is.within (omega (arith, few, kinds)) under (omega (arith, nodes, used)) (λ e. c.requires.other (e ∙ is.me)) (omega (arith, low, some, kinds))
          ∙ ap (λ (y : Notes). also_noted g.row.N y (λ k e. k == j && e == kind)) c.loop-round.invariant ∙ noted_more g.row.N old rounds r j kind (omega (arith, few, old_kinds)) found
          ∙ later
      | in_default w ↦ w.notes-is ∙ c.loop-round.invariant ∙ noted_same g.row.N old rounds r j (sym w.in_default.ensures) ∙ later
    ]

pub returns : goal.returns
returns g c =
    let a = c.args in
    c.loop-round.invariant
    ∙ noted_all g.row.N a.notes.now (rounds_of g.V.Item.form a.phase.now a.self.now.links a.i) a.phase.now.config.now.m c.loop-round.round a.j
    (let e = c.loop-round.auto.round-end in let t = c.loop-round-test.false in omega arith)
