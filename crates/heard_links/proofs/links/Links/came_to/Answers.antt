use Rattle.std.proofs.Common.{rules, ◌&&◌, Bool, sym, ap₂, ◌∙◌, inl, inr, lit<}
use Rattle.std.specs.Prelude.{is_none}
use Rattle.heard_links.proofs.links.Links.came_to.Goals as goal

pub judge-requires : goal.judge-requires
judge-requires g c =
    let has = sym c.has.ensures ∙ c.if-has.true in (
      search rules,
      (
        elim c.requires.heard.set.capacity [ inl e ↦ rw e (lit< tt) | inr e ↦ rw e (lit< tt) ],
        record { heard = c.requires.heard; few = c.requires.few; from = c.requires.from; to = c.requires.uneven.awake c.args.to c.requires.to has; other = c.requires.uneven.other c.args.to c.requires.to has },
      ),
    )

pub returns-else-has : goal.returns-else-has
returns-else-has g c = λ on ne.
    let even = c.requires.uneven.even c.args.to on ne (sym c.has.ensures ∙ c.if-has.false) in
    ap₂ (λ o (b : Bool). is_none o && b) even.whole even.read_alike
