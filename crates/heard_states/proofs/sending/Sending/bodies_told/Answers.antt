use Rattle.std.proofs.Common.{arith, ◌≡◌, ◌≢◌, ◌<◌, None, length, length-set, map, below_more, get_or-set_same, get_or-set_other, ◌∙◌}
use Rattle.std.proofs.lemmas.List.{length-map, get_or-map}
use Rattle.std.proofs.lemmas.List.FromFn.{fill_by_all}
use Rattle.agreed_state.specs.Given.{bytes_in}
use Rattle.heard_states.specs.Hearing.{told_by, body_at}
use Rattle.heard_states.proofs.sending.Sending.bodies_told.Goals as goal

pub returns : goal.returns
returns g c =
    let xs = c.loop-from.bodies in
    let wide : length xs ≡ g.row.N = c.loop-from.invariant.wide in
    fill_by_all (body_at c.args.self.now.slot.config.now.nodes c.args.to (told_by c.args.self.now c.args.to)) (map bytes_in xs) g.row.N None (length-map xs bytes_in ∙ wide)
    (λ k h. get_or-map bytes_in xs k None None (omega arith) ∙ c.loop-from.invariant.so_far k (omega (arith, c.loop-from-test.false)))

pub loop-from-preserved : goal.loop-from-preserved
loop-from-preserved g c =
    let xs = c.loop-from.bodies in
    let low : c.loop-from.from < length xs = (let w = c.loop-from.invariant.wide in let t = c.loop-from-test.true in omega arith) in
    record {
      wide = length-set xs c.loop-from.from c.body_told.result ∙ c.loop-from.invariant.wide;
      so_far = below_more _ _
          (λ k l. let ne : k ≢ c.loop-from.from = omega arith in rw get_or-set_other (c.loop-from.invariant.so_far k l))
          (rw get_or-set_same c.body_told.ensures);
    }
