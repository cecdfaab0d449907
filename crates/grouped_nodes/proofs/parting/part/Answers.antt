use Rattle.std.proofs.Common.{ℕ, ◌≡◌, ◌<◌, ◌+◌, ◌==◌, false, List, get_or, sym, ap, subst, ◌∙◌, refl, lit<, inl, inr, arith, eq-eqb}
use Rattle.std.proofs.lemmas.Bool.{false≢true}
use Rattle.shared_states.specs.declared.belief.Belief.{Belief}
use Rattle.grouped_nodes.specs.Grouping.{first_of}
use Rattle.grouped_nodes.proofs.PartedBeliefs.{AreParted, parted_put, parted_skip}
use Rattle.grouped_nodes.proofs.parting.part.Goals.{then-is_first+then-first-i, else-is_first, else-is_first-via-then-is_first+else-first-i, else-is_first-via-else-is_first}
use Rattle.grouped_nodes.proofs.parting.part.Goals as goal

pub loop-i-preserved : goal.loop-i-preserved
loop-i-preserved g c =
    let before : List ℕ = c.args.before.now in
    let groups : List ℕ = c.args.groups.now in
    let old : List (Belief g.row.N) = c.args.beliefs.now in
    let bs : List (Belief g.row.N) = c.loop-i.beliefs in
    let i : ℕ = c.loop-i.i in
    let low : i < g.row.N = c.loop-i-test.true in
    let is : c.of-first.result ≡ first_of before i = c.of-first.ensures.first in
    let within : first_of before i < g.row.N = (let e = c.of-first.ensures.early in omega arith) in
    elim c.if-is_first.branch [
      | then-is_first+then-first-i w ↦
          subst (AreParted before groups old (i + 1)) (sym w.beliefs-is)
          (parted_put before groups old i bs w.copy_of.result w.index-beliefs-first.result low (λ e. w.if-first-i.true (is ∙ e)) within (ap (first_of before) (sym is) ∙ c.of-first.ensures.own ∙ is) c.loop-i.invariant
          (w.copy_of.ensures ∙ ap (λ (k : ℕ). get_or bs k w.index-beliefs-first.result) is))
      | else-is_first w ↦
          let stays : first_of groups i ≡ i → first_of before i ≡ i = elim w.else-is_first.branch [
            | else-is_first-via-then-is_first+else-first-i u ↦ λ own. sym is ∙ u.if-first-i.false
            | else-is_first-via-else-is_first u ↦
                let no : (first_of groups i == i) ≡ false = sym c.is_first.ensures ∙ u.if-is_first.false in
                λ own. absurd (false≢true (sym no ∙ eq-eqb (first_of groups i) i own))
          ] in
          subst (AreParted before groups old (i + 1)) (sym w.beliefs-is) (parted_skip before groups old i bs stays c.loop-i.invariant)
    ]

pub loop-i-init : goal.loop-i-init
loop-i-init g c = record { wide = c.requires.many; moved = λ j d less low own. absurd (omega arith); kept = λ j d own. refl; later = λ j d high. refl }

pub of-requires : goal.of-requires
of-requires g c = elim g.bound-1.eight_or_sixteen [ inl e ↦ rw e (lit< tt, lit< tt) | inr e ↦ rw e (lit< tt, lit< tt) ]

pub of-first-requires : goal.of-first-requires
of-first-requires g c = (elim g.bound-1.eight_or_sixteen [ inl e ↦ rw e (lit< tt) | inr e ↦ rw e (lit< tt) ], c.loop-i-test.true)

pub is_first-requires : goal.is_first-requires
is_first-requires g c = (elim g.bound-1.eight_or_sixteen [ inl e ↦ rw e (lit< tt) | inr e ↦ rw e (lit< tt) ], c.loop-i-test.true)

pub copy_of-requires : goal.copy_of-requires
copy_of-requires g c = elim g.bound-1.eight_or_sixteen [ inl e ↦ rw e (lit< tt) | inr e ↦ rw e (lit< tt) ]

pub bounds-beliefs-first : goal.bounds-beliefs-first
bounds-beliefs-first g c = let e = c.of-first.ensures.early in let w = c.loop-i.invariant.wide in let t = c.loop-i-test.true in omega arith

pub bounds-beliefs-i : goal.bounds-beliefs-i
bounds-beliefs-i g c = let w = c.loop-i.invariant.wide in let t = c.loop-i-test.true in omega arith

pub returns-clause-many : goal.returns-clause-many
returns-clause-many g c = c.loop-i.invariant.wide

pub returns-clause-beliefs : goal.returns-clause-beliefs
returns-clause-beliefs g c i d low =
    let groups : List ℕ = c.args.groups.now in
    let f : ℕ = first_of groups i in
    let f_low : f < g.row.N = (let e = c.of.ensures.all.early i low in omega arith) in
    c.loop-i.invariant.moved f d (let t = c.loop-i-test.false in omega arith) f_low (c.of.ensures.all.own i low)
    ∙ ap (λ (k : ℕ). get_or c.args.beliefs.now k d) (c.requires.parted i low)
