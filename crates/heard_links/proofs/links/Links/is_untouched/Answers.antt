use Rattle.std.proofs.Common.{ℕ, ◌-◌, ◌<◌, List, ap, ◌∙◌, arith}
use Rattle.node_grid.specs.NodeSet.{has_id}
use Rattle.omh.specs.Written.{last_node}
use Rattle.heard_links.specs.Hearing.{talk_in, is_even}
use Rattle.heard_links.proofs.Places.{last_has}
use Rattle.heard_links.proofs.Saying.{says_untouched}
use Rattle.heard_links.proofs.Sets.{in_use}
use Rattle.heard_links.proofs.links.Links.is_untouched.Goals as goal

pub returns : goal.returns
returns g c none i path long =
    let x = c.args.phase.now in
    let s = c.requires.heard.set in
    let t = talk_in g.V.Item.form x c.args.self.now in
    let some : 0 < c.args.len = omega (arith, c.if-len-eq0.false) in
    says_untouched t x.config.now.m x.awake i path
    (λ a.
    let on = a.within (last_node path) (last_has path (omega (arith, long, some))) in
    ap (λ (n : ℕ). is_even t (n - 1) (last_node path) i) long
    ∙ c.touched.ensures (last_node path) i (ap (λ (ns : List ℕ). has_id ns (last_node path)) (c.is_empty.ensures.0 none)) (in_use x s i (last_node path) on) a.on a.other)
