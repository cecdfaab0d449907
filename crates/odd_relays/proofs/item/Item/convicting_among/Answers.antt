use Rattle.std.proofs.Common.{rules, ℕ, List, sym, ◌∙◌, arith}
use Rattle.node_grid.specs.ListFacts.{split_more}
use Rattle.node_grid.specs.SetFacts.{member-lt, off_apart, low_of, next_on}
use Rattle.odd_relays.specs.Telling.{telling, convicts_commander}
use Rattle.odd_relays.proofs.Laying.{gone_through}
use Rattle.odd_relays.proofs.Finding.{found_none, found_yes, found_no}
use Rattle.odd_relays.proofs.item.Item.convicting_among.Goals as goal

pub loop-i-init : goal.loop-i-init
loop-i-init g c = record {
  can = tt;
  ends = tt;
  split = search rules;
  low = c.requires.first;
  counted = c.regular_voices-voices.ensures;
  found = found_none g.row.N (convicts_commander g.V.PartialEq.eq (telling g.S.Relays.says c.args.self.now)) c.args.nodes.now c.empty-convicting.result c.empty-convicting.ensures;
}

pub loop-i-preserved-then-convicts_beside : goal.loop-i-preserved-then-convicts_beside
loop-i-preserved-then-convicts_beside g c =
    let t = telling g.S.Relays.says c.args.self.now in
    let i = c.loop-i.invariant in
    let q : ℕ = c.in-Some.i in
    let nodes : List ℕ = c.args.nodes.now in
    record {
      can = tt;
      ends = tt;
      split = split_more nodes c.loop-i.yielded c.next.new.self c.loop-i.i-iterator q i.split c.in-Some.ensures.steps;
      low = low_of g.row.N nodes c.loop-i.yielded c.next.new.self c.loop-i.i-iterator q c.iter-i-items.ensures.ids i.split c.in-Some.ensures.steps;
      counted = c.voices_for-voices.ensures;
      found = found_yes g.row.N (convicts_commander g.V.PartialEq.eq t) nodes c.loop-i.yielded c.loop-i.convicting c.put.new.self q i.found
          (next_on nodes c.loop-i.yielded c.next.new.self c.loop-i.i-iterator q i.split c.in-Some.ensures.steps) (sym c.convicts_beside.ensures ∙ c.if-convicts_beside.true) c.put.ensures;
    }

pub loop-i-preserved : goal.loop-i-preserved
loop-i-preserved g c =
    let t = telling g.S.Relays.says c.args.self.now in
    let i = c.loop-i.invariant in
    let q : ℕ = c.in-Some.i in
    let nodes : List ℕ = c.args.nodes.now in
    record {
      can = tt;
      ends = tt;
      split = split_more nodes c.loop-i.yielded c.next.new.self c.loop-i.i-iterator q i.split c.in-Some.ensures.steps;
      low = low_of g.row.N nodes c.loop-i.yielded c.next.new.self c.loop-i.i-iterator q c.iter-i-items.ensures.ids i.split c.in-Some.ensures.steps;
      counted = c.voices_for-voices.ensures;
      found = found_no g.row.N (convicts_commander g.V.PartialEq.eq t) nodes c.loop-i.yielded c.loop-i.convicting q i.found (sym c.convicts_beside.ensures ∙ c.if-convicts_beside.false);
    }

pub voices_for-voices-requires : goal.voices_for-voices-requires
voices_for-voices-requires g c =
    let i = c.loop-i.invariant in (
      omega arith,
      (
        low_of g.row.N c.args.nodes.now c.loop-i.yielded c.next.new.self c.loop-i.i-iterator c.in-Some.i c.iter-i-items.ensures.ids i.split c.in-Some.ensures.steps,
        (i.low, i.counted),
      ),
    )

pub convicts_beside-requires : goal.convicts_beside-requires
convicts_beside-requires g c =
    let nodes : List ℕ = c.args.nodes.now in
    let i = c.loop-i.invariant in
    let on = next_on nodes c.loop-i.yielded c.next.new.self c.loop-i.i-iterator c.in-Some.i i.split c.in-Some.ensures.steps in (
      omega arith,
      (
        low_of g.row.N nodes c.loop-i.yielded c.next.new.self c.loop-i.i-iterator c.in-Some.i c.iter-i-items.ensures.ids i.split c.in-Some.ensures.steps,
        (off_apart nodes c.args.self.now.commander c.in-Some.i c.requires.others on, c.voices_for-voices.ensures),
      ),
    )

pub put-requires : goal.put-requires
put-requires g c = (
  omega arith,
  low_of g.row.N c.args.nodes.now c.loop-i.yielded c.next.new.self c.loop-i.i-iterator c.in-Some.i c.iter-i-items.ensures.ids c.loop-i.invariant.split c.in-Some.ensures.steps,
)

pub returns-clause-convicts : goal.returns-clause-convicts
returns-clause-convicts g c = λ k on.
    let i = c.loop-i.invariant in
    i.found.told k (gone_through c.args.nodes.now c.loop-i.yielded c.loop-i.i-iterator k i.split c.in-None.ensures.steps.0 on) (member-lt g.row.N c.args.nodes.now k c.iter-i-items.ensures.ids on)

pub returns-clause-within : goal.returns-clause-within
returns-clause-within g c = λ k on.
    let low = member-lt g.row.N c.loop-i.convicting k c.len.ensures.ids on in
    (c.loop-i.invariant.found.sound k low on).1
