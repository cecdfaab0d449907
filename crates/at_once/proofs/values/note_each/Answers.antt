use Rattle.std.proofs.Common.{ℕ, ◌≡◌, ◌<◌, ◌≤◌, ◌+◌, ◌==◌, ◌&&◌, ◌||◌, List, [], length, get_or, sym, ap, subst, ◌∙◌, inl, inr, lit<, arith}
use Rattle.node_grid.specs.Capacity.{IsCapacity}
use Rattle.node_grid.specs.Kinds.{deviate}
use Rattle.node_grid.specs.NodeSet.{has_id}
use Rattle.node_grid.specs.ListFacts.{same_at}
use Rattle.node_grid.specs.NumberFacts.{kinds-few}
use Rattle.error_reports.specs.Notes.{Notes, also_noted}
use Rattle.protocol.specs.Arrival.{is_bad}
use Rattle.told_values.specs.Slot.{DataView, slot_of}
use Rattle.told_values.specs.Within.{IsWithin}
use Rattle.at_once.specs.Kept.{notes_at}
use Rattle.at_once.proofs.Voting.{AreNotedBelow, noted_put, noted_skip}
use Rattle.at_once.proofs.values.note_each.Goals.{then-has, else-has}
use Rattle.at_once.proofs.values.note_each.Goals as goal

pub note-requires : goal.note-requires
note-requires g c =
    let cap : IsCapacity g.row.N = c.nodes-nodes.ensures.capacity in
    let i : ℕ = c.loop-i.i in
    let xs : List Notes = c.loop-i.notes in
    let y : Notes = c.index-notes-i.result in
    let used : i < c.args.slot.now.config.nodes = (let t = c.loop-i-test.true in let n = c.nodes-nodes.ensures.nodes in omega arith) in
    let low : i < g.row.N = (let f = c.nodes-nodes.ensures.slot.config.few_nodes in omega arith) in
    let room : i < length xs = (let w = c.loop-i.invariant.wide in omega arith) in
    let at : get_or xs i y ≡ notes_at c.args.notes.now i = same_at xs i y _ room ∙ c.loop-i.invariant.rest i (omega arith) in (
      lit< tt,
      (
        lit< tt,
        (
          elim cap [ inl e ↦ rw e (lit< tt) | inr e ↦ rw e (lit< tt) ],
          (
            used,
            record {
              nodes_are = ap (λ (n : Notes). n.nodes) at ∙ c.requires.shaped.nodes i used;
              me_is = ap (λ (n : Notes). n.me) at ∙ c.requires.shaped.me i used;
              few_kinds = subst (λ (k : ℕ). k ≤ 16) (sym (ap (λ (n : Notes). n.kinds) at ∙ c.requires.shaped.kinds i used)) (kinds-few c.args.slot.now.config.version);
              within = subst (IsWithin g.row.N) (sym at) (c.requires.within i used (sym c.has.ensures ∙ c.if-has.true));
            },
          ),
        ),
      ),
    )

pub loop-i-preserved : goal.loop-i-preserved
loop-i-preserved g c =
    let d : DataView g.row.N = slot_of g.D.Dues.dues c.args.slot.now in
    let awake : List ℕ = c.args.awake.now in
    let off : List (List ℕ) = c.args.off.now in
    let old : List Notes = c.args.notes.now in
    let i : ℕ = c.loop-i.i in
    let xs : List Notes = c.loop-i.notes in
    let low : i < g.row.N = (let t = c.loop-i-test.true in let n = c.nodes-nodes.ensures.nodes in let f = c.nodes-nodes.ensures.slot.config.few_nodes in omega arith) in
    let room : i < length xs = (let w = c.loop-i.invariant.wide in omega arith) in
    let room_off : i < length off = (let w = c.told-off in omega arith) in
    elim c.if-has.branch [
      | then-has w ↦
          let y : Notes = w.index-notes-i.result in
          let new : Notes = w.note.new.notes in
          let at : get_or xs i y ≡ notes_at old i = same_at xs i y _ room ∙ c.loop-i.invariant.rest i (omega arith) in
          subst (AreNotedBelow d awake off old (i + 1)) (sym w.notes-is)
          (noted_put d awake off old i xs new low c.loop-i.invariant
          (λ x hears far same. w.note.ensures.noted x hears far (λ q used other. ap (λ (s : List ℕ). has_id s q) (same_at off i w.index-off-i.result [] room_off) ∙ same q used other)
          ∙ ap (λ (n : Notes). also_noted g.row.N n (λ q k. is_bad (x.values q) k || (far q && k == deviate))) at)
          (w.note.ensures.kept ∙ ap (λ (n : Notes). record n { row = new.row }) at))
      | else-has w ↦ subst (AreNotedBelow d awake off old (i + 1)) (sym w.notes-is) (noted_skip d awake off old i xs (sym c.has.ensures ∙ w.if-has.false) c.loop-i.invariant)
    ]

pub returns-clause-noted : goal.returns-clause-noted
returns-clause-noted g c = λ i low on. c.loop-i.invariant.so_far i (let t = c.loop-i-test.false in let n = c.nodes-nodes.ensures.nodes in omega arith) on

pub returns-clause-shaped : goal.returns-clause-shaped
returns-clause-shaped g c = record {
  many = c.loop-i.invariant.wide;
  nodes = λ i low. ap (λ (n : Notes). n.nodes) (c.loop-i.invariant.kept i) ∙ c.requires.shaped.nodes i low;
  me = λ i low. ap (λ (n : Notes). n.me) (c.loop-i.invariant.kept i) ∙ c.requires.shaped.me i low;
  kinds = λ i low. ap (λ (n : Notes). n.kinds) (c.loop-i.invariant.kept i) ∙ c.requires.shaped.kinds i low;
}

pub nodes-nodes-requires : goal.nodes-nodes-requires
nodes-nodes-requires g c = lit< tt

pub bounds-off-i : goal.bounds-off-i
bounds-off-i g c = let t = c.loop-i-test.true in let n = c.nodes-nodes.ensures.nodes in let f = c.nodes-nodes.ensures.slot.config.few_nodes in omega arith

pub bounds-notes-i : goal.bounds-notes-i
bounds-notes-i g c =
    let w = c.loop-i.invariant.wide in let t = c.loop-i-test.true in let n = c.nodes-nodes.ensures.nodes in let f = c.nodes-nodes.ensures.slot.config.few_nodes in omega arith
