use Rattle.std.proofs.Common.{rules, inl, inr, arith, sym, ◌∙◌, lit<}
use Rattle.heard_links.proofs.Saying.{even_is}
use Rattle.heard_links.proofs.Sets.{few_m, node_low}
use Rattle.heard_links.proofs.links.Links.is_alike_from.Goals as goal

pub came-requires : goal.came-requires
came-requires g c =
    let x = c.args.phase.now in
    let s = c.requires.hearers.heard.set in
    let f = few_m x s in
    (search rules, (omega (arith, c.requires.hearers.few, f), (node_low x s c.args.q c.requires.from, node_low x s c.args.j (s.awake c.args.j c.requires.hearers.other))))

pub came-requires-then-q-j : goal.came-requires-then-q-j
came-requires-then-q-j g c =
    let x = c.args.phase.now in
    let s = c.requires.hearers.heard.set in
    let f = few_m x s in
    (search rules, (omega (arith, c.requires.hearers.few, f), (node_low x s c.args.q c.requires.from, node_low x s c.args.i (s.awake c.args.i c.requires.hearers.one))))

pub returns-then-q-i : goal.returns-then-q-i
returns-then-q-i g c = λ is.
    inl (
      c.if-q-i.true,
      even_is g.V.Item.form g.V.Item.first_slot g.V.Item.tells g.V.Item.entry_form g.V.Item.in_range g.met.V.Item.made_of g.met.V.Item.fits c.args.phase.now c.args.self.now c.requires.hearers.heard
          c.args.round c.args.q c.args.j c.came.result c.requires.hearers.few c.requires.from c.requires.hearers.other (λ e. c.requires.hearers.two (sym c.if-q-i.true ∙ sym e)) c.came.ensures
          ∙ sym c.is_untouched.ensures ∙ is,
    )

pub returns-then-q-j : goal.returns-then-q-j
returns-then-q-j g c = λ is.
    inr (inl (
      c.if-q-j.true,
      even_is g.V.Item.form g.V.Item.first_slot g.V.Item.tells g.V.Item.entry_form g.V.Item.in_range g.met.V.Item.made_of g.met.V.Item.fits c.args.phase.now c.args.self.now c.requires.hearers.heard
          c.args.round c.args.q c.args.i c.came-then-q-j.result c.requires.hearers.few c.requires.from c.requires.hearers.one (λ e. c.requires.hearers.two (e ∙ c.if-q-j.true)) c.came-then-q-j.ensures
          ∙ sym c.is_untouched-then-q-j.ensures ∙ is,
    ))

pub effect-requires : goal.effect-requires
effect-requires g c =
    let set = c.requires.hearers.heard.set in (
      elim set.capacity [ inl e ↦ rw e (lit< tt) | inr e ↦ rw e (lit< tt) ],
      record { set = set; round = c.requires.hearers.few; from = c.requires.from; to = set.awake c.args.i c.requires.hearers.one; link = c.if-q-i.false },
    )

pub effect-requires-else-q-j : goal.effect-requires-else-q-j
effect-requires-else-q-j g c =
    let set = c.requires.hearers.heard.set in (
      elim set.capacity [ inl e ↦ rw e (lit< tt) | inr e ↦ rw e (lit< tt) ],
      record { set = set; round = c.requires.hearers.few; from = c.requires.from; to = set.awake c.args.j c.requires.hearers.other; link = c.if-q-j.false },
    )
