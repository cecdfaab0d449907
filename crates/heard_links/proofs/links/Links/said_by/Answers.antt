use Rattle.std.proofs.Common.{rules, ℕ, ◌≡◌, ◌<◌, ◌-◌, true, length, Some, sym, ap, ap₂, subst, ◌∙◌, inl, inr, arith, lit<, slice_index_or}
use Rattle.node_grid.specs.NodeSet.{has_id}
use Rattle.omh.specs.Written.{IsSmall, last_node}
use Rattle.heard_links.specs.Talks.{members_at}
use Rattle.heard_links.specs.declared.came.Came.TheVariants as came
use Rattle.heard_links.specs.Hearing.{came_at}
use Rattle.heard_links.proofs.Places.{last_has}
use Rattle.heard_links.proofs.Saying.{asked_is, came_even, said_none, said_heard, said_bad, said_told, heard_small_at}
use Rattle.heard_links.proofs.Sets.{few_m, node_low, in_use}
use Rattle.heard_links.proofs.links.Links.said_by.Goals as goal

pub came-requires : goal.came-requires
came-requires g c =
    let a = c.args in
    let x = a.phase.now in
    let s = c.requires.heard.set in
    let path = a.path.now in
    let q = c.at.result in
    let len = c.len-last.ensures.count in
    let some = c.len-last.ensures.some in
    let last : q ≡ last_node path = c.at.ensures ∙ ap (λ (n : ℕ). slice_index_or path (n - 1) 0) len in
    let asked = asked_is g.V.Item.form g.V.Item.first_slot g.V.Item.tells g.V.Item.entry_form g.V.Item.in_range g.met.V.Item.made_of g.met.V.Item.fits x a.self.now c.requires.heard a.to path
    (sym c.is_asked.ensures ∙ c.if-not-is_asked.false) in
    let on : has_id (members_at x a.to) q ≡ true = asked.within q (ap (has_id path) last ∙ last_has path (omega (arith, len, some))) in
    (search rules, (omega (arith, len, asked.short, few_m x s), (node_low x s q (in_use x s a.to q on), node_low x s a.to (s.awake a.to asked.awake_is))))

pub returns-in-Untouched-clause-is : goal.returns-in-Untouched-clause-is
returns-in-Untouched-clause-is g c =
    let a = c.args in
    let x = a.phase.now in
    let path = a.path.now in
    let len = c.len-last.ensures.count in
    let some : 0 < length path = let filled = c.len-last.ensures.some in omega (arith, len, filled) in
    let last : c.at.result ≡ last_node path = c.at.ensures ∙ ap (λ (n : ℕ). slice_index_or path (n - 1) 0) len in
    let is : c.came.result ≡ came_at a.self.now (length path - 1) (last_node path) a.to = c.came.ensures ∙ ap₂ (λ (n l : ℕ). came_at a.self.now (n - 1) l a.to) len last in
    let asks = sym c.is_asked.ensures ∙ c.if-not-is_asked.false in
    said_none g.V.Item.form g.V.Item.first_slot g.V.Item.tells g.V.Item.entry_form g.V.Item.in_range g.met.V.Item.made_of g.met.V.Item.fits x a.self.now c.requires.heard a.to path asks
    (came_even g.V.Item.form g.V.Item.first_slot g.V.Item.tells g.V.Item.entry_form g.V.Item.in_range g.met.V.Item.made_of g.met.V.Item.fits x a.self.now c.requires.heard a.to path came.Untouched asks some (sym c.in-Untouched.is ∙ is))

pub returns-in-Bad-clause-is : goal.returns-in-Bad-clause-is
returns-in-Bad-clause-is g c =
    let a = c.args in
    let x = a.phase.now in
    let path = a.path.now in
    let len = c.len-last.ensures.count in
    let some : 0 < length path = let filled = c.len-last.ensures.some in omega (arith, len, filled) in
    let last : c.at.result ≡ last_node path = c.at.ensures ∙ ap (λ (n : ℕ). slice_index_or path (n - 1) 0) len in
    let is : c.came.result ≡ came_at a.self.now (length path - 1) (last_node path) a.to = c.came.ensures ∙ ap₂ (λ (n l : ℕ). came_at a.self.now (n - 1) l a.to) len last in
    let asks = sym c.is_asked.ensures ∙ c.if-not-is_asked.false in
    said_bad g.V.Item.form g.V.Item.first_slot g.V.Item.tells g.V.Item.entry_form g.V.Item.in_range g.met.V.Item.made_of g.met.V.Item.fits x a.self.now c.requires.heard a.to path c.in-Bad.field-0 asks some (sym c.in-Bad.is ∙ is)

pub returns-in-Told-clause-is : goal.returns-in-Told-clause-is
returns-in-Told-clause-is g c =
    let a = c.args in
    let x = a.phase.now in
    let path = a.path.now in
    let len = c.len-last.ensures.count in
    let some : 0 < length path = let filled = c.len-last.ensures.some in omega (arith, len, filled) in
    let last : c.at.result ≡ last_node path = c.at.ensures ∙ ap (λ (n : ℕ). slice_index_or path (n - 1) 0) len in
    let is : c.came.result ≡ came_at a.self.now (length path - 1) (last_node path) a.to = c.came.ensures ∙ ap₂ (λ (n l : ℕ). came_at a.self.now (n - 1) l a.to) len last in
    let asks = sym c.is_asked.ensures ∙ c.if-not-is_asked.false in
    said_told g.V.Item.form g.V.Item.first_slot g.V.Item.tells g.V.Item.entry_form g.V.Item.in_range g.met.V.Item.made_of g.met.V.Item.fits x a.self.now c.requires.heard a.to path c.in-Told.item asks some (sym c.in-Told.is ∙ is)

pub heard-requires : goal.heard-requires
heard-requires g c = (
  search rules,
  (
    elim c.requires.heard.set.capacity [ inl e ↦ rw e (lit< tt) | inr e ↦ rw e (lit< tt) ],
    (
      c.requires.heard,
      asked_is g.V.Item.form g.V.Item.first_slot g.V.Item.tells g.V.Item.entry_form g.V.Item.in_range g.met.V.Item.made_of g.met.V.Item.fits c.args.phase.now c.args.self.now c.requires.heard
          c.args.to c.args.path.now (sym c.is_asked.ensures ∙ c.if-not-is_asked.false),
    ),
  ),
)

pub returns-in-Good-clause-is : goal.returns-in-Good-clause-is
returns-in-Good-clause-is g c =
    let a = c.args in
    let x = a.phase.now in
    let path = a.path.now in
    let len = c.len-last.ensures.count in
    let some : 0 < length path = let filled = c.len-last.ensures.some in omega (arith, len, filled) in
    let last : c.at.result ≡ last_node path = c.at.ensures ∙ ap (λ (n : ℕ). slice_index_or path (n - 1) 0) len in
    let is : c.came.result ≡ came_at a.self.now (length path - 1) (last_node path) a.to = c.came.ensures ∙ ap₂ (λ (n l : ℕ). came_at a.self.now (n - 1) l a.to) len last in
    let asks = sym c.is_asked.ensures ∙ c.if-not-is_asked.false in
    ap Some c.heard.ensures
    ∙ said_heard g.V.Item.form g.V.Item.first_slot g.V.Item.tells g.V.Item.entry_form g.V.Item.in_range g.met.V.Item.made_of g.met.V.Item.fits x a.self.now c.requires.heard a.to path asks
    (came_even g.V.Item.form g.V.Item.first_slot g.V.Item.tells g.V.Item.entry_form g.V.Item.in_range g.met.V.Item.made_of g.met.V.Item.fits x a.self.now c.requires.heard a.to path came.Good asks some (sym c.in-Good.is ∙ is))

pub returns-in-Good-clause-small : goal.returns-in-Good-clause-small
returns-in-Good-clause-small g c =
    subst (IsSmall 252) (sym c.heard.ensures)
    (heard_small_at g.V.Item.form g.V.Item.first_slot g.V.Item.tells g.V.Item.entry_form g.V.Item.in_range g.met.V.Item.made_of g.met.V.Item.fits c.args.phase.now c.args.self.now c.requires.heard
    c.args.to c.args.path.now (sym c.is_asked.ensures ∙ c.if-not-is_asked.false))
