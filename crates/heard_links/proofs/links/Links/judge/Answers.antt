use Rattle.std.proofs.Common.{rules, ℕ, ◌≡◌, false, not, sym, ap, subst, ◌∙◌, inl, inr, arith, lit<}
use Rattle.std.specs.Prelude.{is_none}
use Rattle.fault_classes.specs.Change.{change_of}
use Rattle.heard_links.specs.Frames.{IsJudgeable}
use Rattle.heard_links.specs.Hearing.{ActsAs, talk_in, is_even}
use Rattle.heard_links.proofs.Sending.{mapped_some, uneven_read, uneven_change}
use Rattle.heard_links.proofs.Sets.{node_low}
use Rattle.heard_links.proofs.links.Links.judge.Goals as goal
use Rattle.heard_links.proofs.links.Links.judge.Goals.{else-is_none-via-then-is_none+else-is_read_alike, else-is_none-via-else-is_none}

pub judge_first-requires : goal.judge_first-requires
judge_first-requires g c =
    let a = c.args in
    let x = a.phase.now in
    let form = g.V.Item.form in
    let h = c.requires.heard in
    let t = talk_in form x a.self.now in
    let acts : ActsAs (change_of c.effect_or-effect.result.now) (t.change a.round a.from a.to) = subst (ActsAs (change_of c.effect_or-effect.result.now)) c.effect-effect.ensures c.effect_or-effect.ensures in
    let uneven : is_even t a.round a.from a.to ≡ false = elim c.else-is_none.branch [
      | else-is_none-via-then-is_none+else-is_read_alike w ↦ uneven_read t a.round a.from a.to (sym w.is_read_alike.ensures ∙ w.if-is_read_alike.false)
      | else-is_none-via-else-is_none w ↦ uneven_change t a.round a.from a.to (sym (ap is_none c.effect-effect.ensures) ∙ mapped_some _ c.effect-effect.result (c.is_none.ensures ∙ ap not w.if-is_none.false))
    ] in
    let none = c.if-round-eq0.true in (
      search rules,
      (
        elim h.set.capacity [ inl e ↦ rw e (lit< tt) | inr e ↦ rw e (lit< tt) ],
        (
          subst (λ (r : ℕ). IsJudgeable form g.V.Item.first_slot g.V.Item.tells x a.self.now r a.from a.to) none c.requires,
          (subst (λ (r : ℕ). ActsAs (change_of c.effect_or-effect.result.now) (t.change r a.from a.to)) none acts, subst (λ (r : ℕ). is_even t r a.from a.to ≡ false) none uneven),
        ),
      ),
    )

pub judge_relay-requires : goal.judge_relay-requires
judge_relay-requires g c =
    let a = c.args in
    let x = a.phase.now in
    let form = g.V.Item.form in
    let h = c.requires.heard in
    let t = talk_in form x a.self.now in
    let acts : ActsAs (change_of c.effect_or-effect.result.now) (t.change a.round a.from a.to) = subst (ActsAs (change_of c.effect_or-effect.result.now)) c.effect-effect.ensures c.effect_or-effect.ensures in
    let uneven : is_even t a.round a.from a.to ≡ false = elim c.else-is_none.branch [
      | else-is_none-via-then-is_none+else-is_read_alike w ↦ uneven_read t a.round a.from a.to (sym w.is_read_alike.ensures ∙ w.if-is_read_alike.false)
      | else-is_none-via-else-is_none w ↦ uneven_change t a.round a.from a.to (sym (ap is_none c.effect-effect.ensures) ∙ mapped_some _ c.effect-effect.result (c.is_none.ensures ∙ ap not w.if-is_none.false))
    ] in
    let more = c.if-round-eq0.false in
    (search rules, (elim h.set.capacity [ inl e ↦ rw e (lit< tt) | inr e ↦ rw e (lit< tt) ], (c.requires, (omega (arith, more), (acts, uneven)))))

pub effect-effect-requires : goal.effect-effect-requires
effect-effect-requires g c =
    let set = c.requires.heard.set in (
      elim set.capacity [ inl e ↦ rw e (lit< tt) | inr e ↦ rw e (lit< tt) ],
      record { set = set; round = c.requires.few; from = c.requires.from; to = set.awake c.args.to c.requires.to; link = λ e. c.requires.other (sym e) },
    )

pub is_read_alike-requires : goal.is_read_alike-requires
is_read_alike-requires g c =
    let x = c.args.phase.now in
    let set = c.requires.heard.set in
    (elim set.capacity [ inl e ↦ rw e (lit< tt) | inr e ↦ rw e (lit< tt) ], (node_low x set c.args.from c.requires.from, node_low x set c.args.to (set.awake c.args.to c.requires.to)))
