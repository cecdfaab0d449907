use Rattle.std.proofs.Common.{ℕ, ◌≡◌, ◌&&◌, Bool, List, [], ap, ap₂, sym, subst, inl, inr, lit<}
use Rattle.std.specs.Prelude.{is_none}
use Rattle.node_grid.specs.NodeSet.{has_id}
use Rattle.heard_links.specs.Hearing.{IsCame, talk_in}
use Rattle.heard_links.proofs.Tables.{not_touched}
use Rattle.heard_links.proofs.links.Links.hear_frames.Goals as goal

pub returns-else-not-is_empty-clause-here : goal.returns-else-not-is_empty-clause-here
returns-else-not-is_empty-clause-here g c = λ i on ne.
    let x = c.args.phase.now in
    let t = talk_in g.V.Item.form x c.args.self.now in
    let none : c.uneven-uneven.result ≡ [] = c.is_empty.ensures.0 c.if-not-is_empty.false in
    let even = c.uneven-uneven.ensures.even i on ne (ap (λ (s : List ℕ). has_id s i) none) in
    subst (IsCame t x.config.now.m c.args.round c.args.from i) (sym (not_touched c.args.self.now c.args.round c.args.from i c.requires.fresh))
    (ap₂ (λ o (b : Bool). is_none o && b) even.whole even.read_alike)

pub uneven-uneven-requires : goal.uneven-uneven-requires
uneven-uneven-requires g c =
    let set = c.requires.heard.set in
    (elim set.capacity [ inl e ↦ rw e (lit< tt) | inr e ↦ rw e (lit< tt) ], (lit< tt, (set, (c.requires.few, c.requires.from))))

pub judge_frames-requires : goal.judge_frames-requires
judge_frames-requires g c =
    let set = c.requires.heard.set in
    (lit< tt, (elim set.capacity [ inl e ↦ rw e (lit< tt) | inr e ↦ rw e (lit< tt) ], (lit< tt, (c.requires.heard, (c.requires.few, (c.requires.from, c.uneven-uneven.ensures))))))
