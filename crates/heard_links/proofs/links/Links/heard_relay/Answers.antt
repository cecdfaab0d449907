use Rattle.std.proofs.Common.{rules, ℕ, ◌+◌, length, sym, ap, ◌∙◌, inl, inr, arith, lit<}
use Rattle.heard_links.specs.Talks.{members_at}
use Rattle.heard_links.specs.Hearing.{came_at, item_of, talk_in}
use Rattle.heard_links.proofs.Places.{placed_in}
use Rattle.heard_links.proofs.Sets.{few_m, few_nodes, node_low, in_use, last_on, front_on, front_short, last_other}
use Rattle.heard_links.proofs.Standing.{bad_front, told_front, even_front, good_front}
use Rattle.heard_links.proofs.links.Links.heard_relay.Goals as goal

pub came-requires : goal.came-requires
came-requires g c =
    let a = c.args in
    let t = talk_in g.V.Item.form a.phase.now a.self.now in
    let x = a.phase.now in
    let s = c.requires.heard.set in
    let on = last_on t x.config.now.m x.awake a.i a.q a.front.now c.requires.asked c.requires.off in
    let low = in_use x s a.i a.q on in
    let short = front_short t x.config.now.m x.awake a.i a.q a.front.now c.requires.asked c.requires.off in
    let other = last_other t x.config.now.m x.awake a.i a.q a.front.now c.requires.asked c.requires.off in
    let most = few_m x s in
    (search rules, (omega (arith, c.len.ensures.count, short, most), (node_low x s a.q low, node_low x s a.i (s.awake a.i c.requires.asked.awake_is))))

pub entry-requires : goal.entry-requires
entry-requires g c =
    let a = c.args in
    let t = talk_in g.V.Item.form a.phase.now a.self.now in
    let x = a.phase.now in
    let s = c.requires.heard.set in
    let on = last_on t x.config.now.m x.awake a.i a.q a.front.now c.requires.asked c.requires.off in
    let low = in_use x s a.i a.q on in
    let short = front_short t x.config.now.m x.awake a.i a.q a.front.now c.requires.asked c.requires.off in
    let other = last_other t x.config.now.m x.awake a.i a.q a.front.now c.requires.asked c.requires.off in
    let most = few_m x s in
    let used = s.awake a.i c.requires.asked.awake_is in (
      elim s.capacity [ inl e ↦ rw e (lit< tt) | inr e ↦ rw e (lit< tt) ],
      (
        record { set = s; node = node_low x s a.i used; member = on; within = front_on t x.config.now.m x.awake a.i a.q a.front.now c.requires.asked c.requires.off; short = omega (arith, short, most) },
        record { set = s; round = short; from = low; to = used; link = λ e. other (sym e) },
      ),
    )

pub returns-in-Bad : goal.returns-in-Bad
returns-in-Bad g c =
    let a = c.args in
    let t = talk_in g.V.Item.form a.phase.now a.self.now in
    let x = a.phase.now in
    let s = c.requires.heard.set in
    let on = last_on t x.config.now.m x.awake a.i a.q a.front.now c.requires.asked c.requires.off in
    let low = in_use x s a.i a.q on in
    let short = front_short t x.config.now.m x.awake a.i a.q a.front.now c.requires.asked c.requires.off in
    let other = last_other t x.config.now.m x.awake a.i a.q a.front.now c.requires.asked c.requires.off in
    let some = c.len.ensures.some in
    sym (bad_front g.V.Item.form g.V.Item.first_slot g.V.Item.tells g.V.Item.entry_form g.V.Item.in_range g.met.V.Item.made_of g.met.V.Item.fits x a.self.now (length a.front.now + 1) c.requires.heard a.q a.i c.in-Bad.field-0 a.front.now (omega (arith, c.len.ensures.count)) (omega arith) low c.requires.asked.awake_is other
    (sym c.in-Bad.is ∙ c.came.ensures ∙ ap (λ (n : ℕ). came_at a.self.now n a.q a.i) c.len.ensures.count))

pub returns-in-Told : goal.returns-in-Told
returns-in-Told g c =
    let a = c.args in
    let t = talk_in g.V.Item.form a.phase.now a.self.now in
    let x = a.phase.now in
    let s = c.requires.heard.set in
    let on = last_on t x.config.now.m x.awake a.i a.q a.front.now c.requires.asked c.requires.off in
    let low = in_use x s a.i a.q on in
    let short = front_short t x.config.now.m x.awake a.i a.q a.front.now c.requires.asked c.requires.off in
    let other = last_other t x.config.now.m x.awake a.i a.q a.front.now c.requires.asked c.requires.off in
    let some = c.len.ensures.some in
    absurd (told_front g.V.Item.form g.V.Item.first_slot g.V.Item.tells g.V.Item.entry_form g.V.Item.in_range g.met.V.Item.made_of g.met.V.Item.fits x a.self.now (length a.front.now + 1) c.requires.heard a.q a.i c.in-Told.item a.front.now (omega (arith, c.len.ensures.count)) (omega arith) low c.requires.asked.awake_is other
    (sym c.in-Told.is ∙ c.came.ensures ∙ ap (λ (n : ℕ). came_at a.self.now n a.q a.i) c.len.ensures.count))

pub returns-in-Untouched : goal.returns-in-Untouched
returns-in-Untouched g c =
    let a = c.args in
    let t = talk_in g.V.Item.form a.phase.now a.self.now in
    let x = a.phase.now in
    let s = c.requires.heard.set in
    let on = last_on t x.config.now.m x.awake a.i a.q a.front.now c.requires.asked c.requires.off in
    let low = in_use x s a.i a.q on in
    let short = front_short t x.config.now.m x.awake a.i a.q a.front.now c.requires.asked c.requires.off in
    let other = last_other t x.config.now.m x.awake a.i a.q a.front.now c.requires.asked c.requires.off in
    let some = c.len.ensures.some in
    c.requires.own
    ∙ sym (even_front g.V.Item.form g.V.Item.first_slot g.V.Item.tells g.V.Item.entry_form g.V.Item.in_range g.met.V.Item.made_of g.met.V.Item.fits x a.self.now (length a.front.now + 1) c.requires.heard a.q a.i a.front.now (omega (arith, c.len.ensures.count)) (omega arith) short low c.requires.asked.awake_is other
    (sym c.in-Untouched.is ∙ c.came.ensures ∙ ap (λ (n : ℕ). came_at a.self.now n a.q a.i) c.len.ensures.count)
    (placed_in x.config.now.nodes (few_nodes x s) (members_at x a.i) (s.members a.i) a.q on a.front.now c.len.ensures.distinct (front_on t x.config.now.m x.awake a.i a.q a.front.now c.requires.asked c.requires.off)))

pub returns-in-Good : goal.returns-in-Good
returns-in-Good g c =
    let a = c.args in
    let t = talk_in g.V.Item.form a.phase.now a.self.now in
    let x = a.phase.now in
    let s = c.requires.heard.set in
    let on = last_on t x.config.now.m x.awake a.i a.q a.front.now c.requires.asked c.requires.off in
    let low = in_use x s a.i a.q on in
    let short = front_short t x.config.now.m x.awake a.i a.q a.front.now c.requires.asked c.requires.off in
    let other = last_other t x.config.now.m x.awake a.i a.q a.front.now c.requires.asked c.requires.off in
    let some = c.len.ensures.some in
    sym (good_front g.V.Item.form g.V.Item.first_slot g.V.Item.tells g.V.Item.entry_form g.V.Item.in_range g.met.V.Item.made_of g.met.V.Item.fits x a.self.now (length a.front.now + 1) c.requires.heard a.q a.i a.front.now (omega (arith, c.len.ensures.count)) (omega arith) short low c.requires.asked.awake_is other
    (sym c.in-Good.is ∙ c.came.ensures ∙ ap (λ (n : ℕ). came_at a.self.now n a.q a.i) c.len.ensures.count)
    (placed_in x.config.now.nodes (few_nodes x s) (members_at x a.i) (s.members a.i) a.q on a.front.now c.len.ensures.distinct (front_on t x.config.now.m x.awake a.i a.q a.front.now c.requires.asked c.requires.off))
    a.own c.entry.result c.requires.own (c.entry.ensures (item_of a.self.now)))
