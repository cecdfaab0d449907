use Rattle.std.proofs.Common.{◌≡◌, ◌<◌, ◌++◌, ◌∷◌, [], ℕ, Bool, List, None, slice_index_or, sym, ap, subst, ◌∙◌, append_assoc, append-nil, lit<}
use Rattle.std.specs.Prelude.{All, is_some}
use Rattle.std.proofs.lemmas.List.Elements.{All-head, All-tail}
use Rattle.node_grid.specs.NodeSet.{with_id}
use Rattle.live_node.proofs.Told.{read_among, one_read, none_read, all_read}
use Rattle.live_node.proofs.correcting.good_told.Goals as goal

pub loop-node-preserved-then-is_some : goal.loop-node-preserved-then-is_some
loop-node-preserved-then-is_some g c =
    let i = c.loop-node.invariant in
    let k = c.in-Some.node in
    let xs = c.loop-node.yielded in
    let p : ℕ → Bool = λ j. is_some (slice_index_or c.args.ahead.now j None) in
    record {
      can = tt;
      ends = tt;
      split = i.split ∙ ap (λ (rest : List ℕ). xs ++ rest) c.in-Some.ensures.steps ∙ sym (append_assoc xs (k ∷ []) c.next.new.self);
      low = All-tail (λ j. j < g.row.N) k c.next.new.self (subst (All (λ j. j < g.row.N)) c.in-Some.ensures.steps i.low);
      good = c.put.ensures ∙ ap (λ s. with_id g.row.N s k) i.good ∙ one_read g.row.N xs p k (sym c.is_some.ensures ∙ c.if-is_some.true);
    }

pub loop-node-preserved : goal.loop-node-preserved
loop-node-preserved g c =
    let i = c.loop-node.invariant in
    let k = c.in-Some.node in
    let xs = c.loop-node.yielded in
    let p : ℕ → Bool = λ j. is_some (slice_index_or c.args.ahead.now j None) in
    record {
      can = tt;
      ends = tt;
      split = i.split ∙ ap (λ (rest : List ℕ). xs ++ rest) c.in-Some.ensures.steps ∙ sym (append_assoc xs (k ∷ []) c.next.new.self);
      low = All-tail (λ j. j < g.row.N) k c.next.new.self (subst (All (λ j. j < g.row.N)) c.in-Some.ensures.steps i.low);
      good = i.good ∙ none_read g.row.N xs p k (sym c.is_some.ensures ∙ c.if-is_some.false);
    }

pub returns : goal.returns
returns g c =
    let i = c.loop-node.invariant in
    let p : ℕ → Bool = λ j. is_some (slice_index_or c.args.ahead.now j None) in
    let whole : c.args.sync.now ≡ c.loop-node.yielded = i.split ∙ ap (λ (rest : List ℕ). c.loop-node.yielded ++ rest) c.in-None.ensures.steps.0 ∙ append-nil c.loop-node.yielded in
    i.good ∙ ap (λ xs. read_among g.row.N xs p) (sym whole) ∙ all_read g.row.N c.args.sync.now p c.iter-node-items.ensures.ids

pub bounds-ahead-node : goal.bounds-ahead-node
bounds-ahead-node g c = All-head (λ j. j < g.row.N) c.in-Some.node c.next.new.self (subst (All (λ j. j < g.row.N)) c.in-Some.ensures.steps c.loop-node.invariant.low)

pub put-requires : goal.put-requires
put-requires g c = (lit< tt, All-head (λ j. j < g.row.N) c.in-Some.node c.next.new.self (subst (All (λ j. j < g.row.N)) c.in-Some.ensures.steps c.loop-node.invariant.low))
