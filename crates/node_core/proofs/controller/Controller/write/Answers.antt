use Rattle.std.proofs.Common.{◌≡◌, ◌≤◌, ◌+◌, ℕ, List, arith, inl, inr, lit<, sym, ap, subst, ◌∙◌}
use Rattle.std.specs.Prelude.{is_ok, vec_capacity}
use Rattle.std.specs.Vec.{vec_len}
use Rattle.std.proofs.lemmas.Bool.{cond-true}
use Rattle.std.proofs.lemmas.List.{with_items_is}
use Rattle.frames.specs.Content.{Content}
use Rattle.frames.specs.Seen.{content, HasWidth}
use Rattle.frames.specs.Spelling.{spelling}
use Rattle.relaying.proofs.Framing.{pasted_whole}
use Rattle.node_steps.specs.Parts.{NodeView}
use Rattle.node_steps.specs.Steps.{said_by}
use Rattle.node_core.proofs.Spelt.{inside_sends, inside_size}
use Rattle.node_core.proofs.controller.Controller.write.Goals as goal

pub overflow_add-size : goal.overflow_add-size
overflow_add-size g c =
    let n = c.self.inside in
    let v = c.args.self.now in
    let is = c.self.view_is in
    let body : Content = content n.config.now.nodes c.args.frame.now.body in
    let says : said_by v v.phase.before ≡ body = c.requires.says ∙ ap (λ (w : NodeView g.row.N). content w.config.nodes c.args.frame.now.body) (sym is) in
    let sent = inside_sends n v (vec_capacity c.args.out.now) c.self.invariant is c.requires.ready body c.args.frame.now.head c.requires.head says in
    let size = inside_size n v is c.args.frame.now.body c.args.size c.requires.size in
    omega (arith, size, sent.short)

pub encode-requires : goal.encode-requires
encode-requires g c =
    let n = c.self.inside in
    let v = c.args.self.now in
    let inv = c.self.invariant in
    let is = c.self.view_is in
    let body : Content = content n.config.now.nodes c.args.frame.now.body in
    let says : said_by v v.phase.before ≡ body = c.requires.says ∙ ap (λ (w : NodeView g.row.N). content w.config.nodes c.args.frame.now.body) (sym is) in
    let sent = inside_sends n v (vec_capacity c.args.out.now) inv is c.requires.ready body c.args.frame.now.head c.requires.head says in
    let size = inside_size n v is c.args.frame.now.body c.args.size c.requires.size in
    let fits : 14 + c.args.size ≤ vec_capacity c.args.out.now = omega (arith, size, sent.fits, c.requires.ready.room) in
    let made : vec_len c.resize.new.self ≡ 14 + c.args.size = c.resize.ensures.len ∙ cond-true (is_ok c.resize.result) (14 + c.args.size) (vec_len c.args.out.now) (c.resize.ensures.succeeds fits) in
    let widths : HasWidth n.config.now.nodes c.args.frame.now.body = subst (λ (w : NodeView g.row.N). HasWidth w.config.nodes c.args.frame.now.body) (sym is) c.requires.widths in
    (elim inv.place.capacity [ inl e ↦ rw e (lit< tt) | inr e ↦ rw e (lit< tt) ], (inv.place.few, (widths, (sent.short, omega (arith, size, made, c.as_mut_slice.ensures.len)))))

pub returns-clause-written : goal.returns-clause-written
returns-clause-written g c =
    let n = c.self.inside in
    let v = c.args.self.now in
    let is = c.self.view_is in
    let body : Content = content n.config.now.nodes c.args.frame.now.body in
    let says : said_by v v.phase.before ≡ body = c.requires.says ∙ ap (λ (w : NodeView g.row.N). content w.config.nodes c.args.frame.now.body) (sym is) in
    let sent = inside_sends n v (vec_capacity c.args.out.now) c.self.invariant is c.requires.ready body c.args.frame.now.head c.requires.head says in
    let size = inside_size n v is c.args.frame.now.body c.args.size c.requires.size in
    let fits : 14 + c.args.size ≤ vec_capacity c.args.out.now = omega (arith, size, sent.fits, c.requires.ready.room) in
    let made : vec_len c.resize.new.self ≡ 14 + c.args.size = c.resize.ensures.len ∙ cond-true (is_ok c.resize.result) (14 + c.args.size) (vec_len c.args.out.now) (c.resize.ensures.succeeds fits) in
    let bytes : List ℕ = spelling n.config.now.nodes c.args.frame.now.head body in
    with_items_is c.resize.new.self c.encode.new.out (c.encode.auto.out ∙ c.as_mut_slice.ensures.len)
    ∙ c.encode.ensures.written ∙ pasted_whole bytes c.as_mut_slice.result.now (omega (arith, size, made, c.as_mut_slice.ensures.len)) ∙ sent.frame

pub returns-clause-room : goal.returns-clause-room
returns-clause-room g c = c.resize.ensures.capacity
