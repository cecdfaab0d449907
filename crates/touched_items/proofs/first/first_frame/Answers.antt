use Rattle.std.proofs.Common.{ℕ, ◌≡◌, ◌≤◌, length, Some, refl, sym, ap, subst, ◌∙◌, arith, lit<, inl, inr}
use Rattle.frames.specs.Content.{Content, Expectation}
use Rattle.frames.specs.Seen.{content, expected}
use Rattle.frames.specs.Spelling.{IsInRange, body_spelling}
use Rattle.fault_classes.specs.Change.{change_of}
use Rattle.protocol.specs.Arrival.{read_as}
use Rattle.protocol.specs.Talk.{arrives}
use Rattle.touched_frames.specs.Arrived.{seen, part_of}
use Rattle.touched_items.specs.Items.{first_content}
use Rattle.touched_items.proofs.Coming.{parts_seen, first_short}
use Rattle.touched_items.proofs.first.first_frame.Goals as goal

pub returns-in-Bad : goal.returns-in-Bad
returns-in-Bad g c =
    let e : Expectation = expected c.args.expect.now in
    let said : Content = first_content g.V.Item.form c.args.said.now in
    let says : content e.nodes c.first_body.result ≡ said = c.first_body.ensures.says e.nodes in
    let has = c.arrives.ensures e (record { nodes_are = refl; head_is = sym c.head.ensures; in_range = subst (IsInRange e) (sym says) c.requires.said }) ∙ ap (arrives Some (Some (change_of c.args.effect.now)) e e) says in
    sym (parts_seen g.V.Item.form.item_in (change_of c.args.effect.now) e said (seen e.nodes c.arrives.result) has ∙ ap (λ a. part_of g.V.Item.form.item_in (seen e.nodes a)) c.in-Bad.is)

pub returns-in-Some : goal.returns-in-Some
returns-in-Some g c =
    let e : Expectation = expected c.args.expect.now in
    let said : Content = first_content g.V.Item.form c.args.said.now in
    let says : content e.nodes c.first_body.result ≡ said = c.first_body.ensures.says e.nodes in
    let has = c.arrives.ensures e (record { nodes_are = refl; head_is = sym c.head.ensures; in_range = subst (IsInRange e) (sym says) c.requires.said }) ∙ ap (arrives Some (Some (change_of c.args.effect.now)) e e) says in
    sym (parts_seen g.V.Item.form.item_in (change_of c.args.effect.now) e said (seen e.nodes c.arrives.result) has ∙ ap (λ a. part_of g.V.Item.form.item_in (seen e.nodes a)) c.in-Good.is
    ∙ ap read_as (sym (c.in-Some.ensures e.nodes)))

pub returns-in-None : goal.returns-in-None
returns-in-None g c =
    let e : Expectation = expected c.args.expect.now in
    let said : Content = first_content g.V.Item.form c.args.said.now in
    let says : content e.nodes c.first_body.result ≡ said = c.first_body.ensures.says e.nodes in
    let has = c.arrives.ensures e (record { nodes_are = refl; head_is = sym c.head.ensures; in_range = subst (IsInRange e) (sym says) c.requires.said }) ∙ ap (arrives Some (Some (change_of c.args.effect.now)) e e) says in
    sym (parts_seen g.V.Item.form.item_in (change_of c.args.effect.now) e said (seen e.nodes c.arrives.result) has ∙ ap (λ a. part_of g.V.Item.form.item_in (seen e.nodes a)) c.in-Good.is
    ∙ ap read_as (sym (c.in-None.ensures e.nodes)))

pub arrives-requires : goal.arrives-requires
arrives-requires g c =
    let nodes : ℕ = c.args.expect.now.nodes in
    let few : nodes ≤ 16 = elim g.bound-6.eight_or_sixteen [ inl e ↦ omega (arith, e, c.requires.nodes) | inr e ↦ omega (arith, e, c.requires.nodes) ] in
    let short = first_short g.V.Item.form g.V.Item.entry_form g.V.Item.in_range g.met.V.Item.made_of (expected c.args.expect.now) nodes c.args.said.now few in
    let says = ap (λ (x : Content). length (body_spelling nodes x)) (c.first_body.ensures.says nodes) in (
      elim g.bound-6.eight_or_sixteen [ inl e ↦ rw e (lit< tt) | inr e ↦ rw e (lit< tt) ],
      (
        lit< tt,
        (
          elim g.bound-6.eight_or_sixteen [ inl e ↦ rw e (lit< tt) | inr e ↦ rw e (lit< tt) ],
          (
            record { capacity_ok = g.bound-6.eight_or_sixteen; some_nodes = c.requires.some_nodes; few_nodes = c.requires.nodes; few_rounds = c.requires.rounds },
            (c.first_body.ensures.widths nodes, (omega (arith, short, says), omega (arith, short, says))),
          ),
        ),
      ),
    )
