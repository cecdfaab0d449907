use Rattle.std.proofs.Common.{◌+◌, ◌-◌, ◌*◌, ◌^◌, ◌<◌, ◌≤◌, [], Vec, Global, sym, ap, append-nil, arith}
use Rattle.draws.specs.Draws.{generator_of}
use Rattle.drawn_scenarios.specs.declared.bout.Bout.{Bout}
use Rattle.drawn_scenarios.specs.Bouts.{story, stories, drawn_bouts}
use Rattle.drawn_scenarios.proofs.GoesOn.{goes_more, goes_all, goes_at, goes_onward, onward, stays_spared, is_chosen, none_onward}
use Rattle.drawn_scenarios.proofs.drawing.draw_bouts.Goals as goal
use Rattle.drawn_scenarios.proofs.drawing.draw_bouts.Goals.{then-draw-from+in_ok-push_story, else-draw-from}

pub loop-node-preserved : goal.loop-node-preserved
loop-node-preserved c =
    let ch = c.args.options.now.choices in
    let j = c.loop-node.node in
    let low : c.loop-node.node < ch.nodes = omega arith in
    elim c.if-draw-from.branch [
      | then-draw-from+in_ok-push_story w ↦ record {
        few = (let few = c.loop-node.invariant.few in let e = w.ill-is in omega arith);
        goes_on =
            goes_at _ _ _ _ _ _ (stories ch ch.nodes 0 ch.faulty) (onward ch (j + 1) c.if-draw-from.ill) (ap (λ (v : Vec Bout Global). v.items) w.bouts-is) w.generator-is
            (goes_onward _ _ _ _ (stories ch ch.nodes 0 ch.faulty) ch (j + 1) (c.loop-node.ill - 1) c.if-draw-from.ill w.ill-is
            (goes_more _ _ _ (story ch j c.draw.new.generator).0 _ _ _ (stories ch ch.nodes 0 ch.faulty) (onward ch j c.loop-node.ill) (onward ch (j + 1) (c.loop-node.ill - 1)) w.in_ok-push_story.ensures.bouts
            (is_chosen ch j c.loop-node.ill c.from-in-loop-node.result c.draw.result c.loop-node.bouts.items w.push_story.new.bouts.items c.loop-node.generator c.draw.new.generator w.push_story.new.generator low c.from-in-loop-node.ensures
            c.draw.ensures.drawn (let b = w.if-draw-from.true in let e = c.from-in-loop-node-2.ensures in omega arith) w.in_ok-push_story.ensures) c.loop-node.invariant.goes_on));
      }
      | else-draw-from w ↦ record {
        few = (let few = c.loop-node.invariant.few in let e = w.ill-is in omega arith);
        goes_on =
            goes_at _ _ _ _ _ _ (stories ch ch.nodes 0 ch.faulty) (onward ch (j + 1) c.if-draw-from.ill) (ap (λ (v : Vec Bout Global). v.items) w.bouts-is) w.generator-is
            (goes_onward _ _ _ _ (stories ch ch.nodes 0 ch.faulty) ch (j + 1) c.loop-node.ill c.if-draw-from.ill w.ill-is
            (goes_more _ _ _ [] _ _ _ (stories ch ch.nodes 0 ch.faulty) (onward ch j c.loop-node.ill) (onward ch (j + 1) c.loop-node.ill) (sym (append-nil _))
            (stays_spared ch j c.loop-node.ill c.from-in-loop-node.result c.draw.result c.loop-node.generator c.draw.new.generator low c.from-in-loop-node.ensures c.draw.ensures.drawn
            (let b = w.if-draw-from.false in let e = c.from-in-loop-node-2.ensures in omega arith)) c.loop-node.invariant.goes_on));
      }
    ]

pub returns : goal.returns
unfolding drawn_bouts
returns c =
    let ch = c.args.options.now.choices in
    let past : ch.nodes ≤ c.loop-node.node = omega (arith, c.loop-node-test.false) in
    (goes_all [] c.loop-node.bouts.items (generator_of (2 ^ 32 * c.args.seed + c.args.index)) c.loop-node.generator (stories ch ch.nodes 0 ch.faulty) (onward ch c.loop-node.node c.loop-node.ill)
    (none_onward ch c.loop-node.node c.loop-node.ill c.loop-node.generator past) c.loop-node.invariant.goes_on).bouts
