use Rattle.std.proofs.Common.{rules, ℕ, ◌≡◌, ◌<◌, ◌≤◌, ◌+◌, ◌==◌, true, List, [], ◌∷◌, ◌++◌, map, take, length, refl, sym, ap, ◌∙◌, inl, inr, arith, append-nil, eq-eqb, ne_eqb, eqb-true}
use Rattle.std.proofs.lemmas.Bool.{cond-true, cond-false, or_cases}
use Rattle.std.proofs.lemmas.List.{length_push, length-set}
use Rattle.node_grid.specs.NodeSet.{has_id}
use Rattle.node_grid.specs.ListLaws.{has_push}
use Rattle.node_grid.specs.ListFacts.{split_more, split_all}
use Rattle.omh_paths.specs.Wrapped.{unwrapped}
use Rattle.omh_paths.specs.Majority.{majority}
use Rattle.omh_paths.specs.Paths.{outside}
use Rattle.omh_paths.specs.Facts.{next_few, next_low, next_outside}
use Rattle.omh.specs.Omh.{own_term, settled_at, term_at}
use Rattle.omh.specs.SettledLaws.{settled_at_end, settled_at_later}
use Rattle.odd_relays.proofs.Laying.{laid_more}
use Rattle.settled_items.specs.Listening.{listener_ear}
use Rattle.settled_items.proofs.Listening.{terms_are, fronts_same}
use Rattle.settled_items.proofs.listener.Listener.+settle_path.Goals as goal
use Rattle.settled_items.proofs.listener.Listener.+settle_path.Goals.{then-q-self, else-q-self}

-- a path within the nodes, and one node more
low_push : (n : ℕ) (path longer : List ℕ) (q : ℕ) → ((x : ℕ) → has_id path x ≡ true → x < n) → q < n → longer ≡ path ++ q ∷ [] → (x : ℕ) → has_id longer x ≡ true → x < n
low_push n path longer q low at is x on = elim (or_cases (has_id path x) (q == x) (sym (has_push path q x) ∙ ap (λ (p : List ℕ). has_id p x) (sym is) ∙ on)) [
  | inl before ↦ low x before
  | inr here ↦ let e : q ≡ x = eqb-true q x here in omega arith
]

pub returns-then-len-self-clause-settled : goal.returns-then-len-self-clause-settled
returns-then-len-self-clause-settled g k c =
    c.heard.ensures.is ∙ sym (settled_at_end g.V.PartialEq.eq (listener_ear c.args.self.now (g.H.Hearing.hears c.args.hearing.now)) c.args.path.now (omega (arith, c.if-len-self.true, c.len.ensures.count)))

pub loop-q-init : goal.loop-q-init
loop-q-init g k c = record {
  can = tt;
  ends = tt;
  split = search rules;
  end = omega arith;
  long = refl;
  terms = sym (append-nil _);
}

pub then-requires-clause-off : goal.then-requires-clause-off
then-requires-clause-off g k c = (next_outside c.args.self.now.members c.args.path.now c.loop-q.yielded c.next.new.self c.loop-q.q-iterator c.in-Some.q c.loop-q.invariant.split c.in-Some.ensures.steps).1

pub settle_path-term-requires : goal.settle_path-term-requires
settle_path-term-requires g k c κs within =
    let p = c.args.path.now in
    let q = c.in-Some.q in
    let i = c.loop-q.invariant in
    let low = next_low g.row.N c.outside.result c.args.self.now.members p c.loop-q.yielded c.next.new.self c.loop-q.q-iterator q c.iter-q-items.ensures.ids c.outside.ensures i.split c.in-Some.ensures.steps in
    let few = next_few g.row.N c.outside.result c.args.self.now.members p c.loop-q.yielded c.next.new.self c.loop-q.q-iterator q c.args.self.now.fits c.iter-q-items.ensures.few c.outside.ensures i.split c.in-Some.ensures.steps in
    let deep : length p ≤ c.args.self.now.rounds = omega (arith, c.if-len-self.false, c.len.ensures.count) in
    let l : length c.then.result ≡ length p + 1 = ap length c.then.ensures ∙ length_push p q in (
      omega (arith, c.decreases, l, deep),
      (
        search rules,
        (
          search rules,
          (
            search rules,
            (
              omega arith,
              (low_push g.row.N p c.then.result q c.requires.nodes low c.then.ensures, (omega (arith, l, deep), omega (arith, l, deep, few, i.end, i.long, c.requires.room))),
            ),
          ),
        ),
      ),
    )

pub loop-q-preserved : goal.loop-q-preserved
loop-q-preserved g k c =
    let p = c.args.path.now in
    let q = c.in-Some.q in
    let x = listener_ear c.args.self.now (g.H.Hearing.hears c.args.hearing.now) in
    let eq = g.V.PartialEq.eq in
    let i = c.loop-q.invariant in
    let ys = c.loop-q.yielded in
    let from : ℕ = c.args.from in
    let few = next_few g.row.N c.outside.result x.members p ys c.next.new.self c.loop-q.q-iterator q c.args.self.now.fits c.iter-q-items.ensures.few c.outside.ensures i.split c.in-Some.ensures.steps in
    let deep : length p ≤ x.rounds = omega (arith, c.if-len-self.false, c.len.ensures.count) in
    let room : c.loop-q.end < length c.loop-q.work = omega (arith, few, deep, i.end, i.long, c.requires.room) in
    let same : take c.loop-q.end c.if-q-self.work ≡ take c.loop-q.end c.loop-q.work = elim c.if-q-self.branch [
      | then-q-self b ↦ ap (take c.loop-q.end) b.work-is
      | else-q-self b ↦ ap (take c.loop-q.end) b.work-is ∙ b.settle_path-term.ensures.kept
    ] in
    let wide : length c.if-q-self.work ≡ length c.loop-q.work = c.if-q-self.auto.work in
    record {
      can = tt;
      ends = tt;
      split = split_more (outside x.members p) ys c.next.new.self c.loop-q.q-iterator q i.split c.in-Some.ensures.steps;
      end = omega (arith, i.end, length_push ys q);
      long = ap length c.set_value.ensures ∙ length-set c.if-q-self.work c.loop-q.end c.if-q-self.term ∙ wide ∙ i.long;
      terms = laid_more (term_at eq x p) ys q (take from c.args.work.now) c.loop-q.work c.if-q-self.work c.set_value.new.values c.loop-q.end c.if-q-self.term i.terms same (omega (arith, wide, room)) c.set_value.ensures
          (elim c.if-q-self.branch [
            | then-q-self b ↦ b.term-is ∙ b.own_term-term.ensures ∙ sym (cond-true (q == x.me) (own_term x p) (settled_at eq x (p ++ q ∷ [])) (eq-eqb q x.me b.if-q-self.true))
            | else-q-self b ↦ b.term-is ∙ b.settle_path-term.ensures.settled ∙ ap (settled_at eq x) b.then.ensures ∙ sym (cond-false (q == x.me) (own_term x p) (settled_at eq x (p ++ q ∷ [])) (ne_eqb q x.me b.if-q-self.false))
          ]);
    }

pub settled_from_terms-requires : goal.settled_from_terms-requires
settled_from_terms-requires g k c =
    let i = c.loop-q.invariant in
    let all = split_all (outside c.args.self.now.members c.args.path.now) c.loop-q.yielded c.loop-q.q-iterator i.split c.in-None.ensures.steps.0 in
    record { ordered = omega (arith, i.end); within = omega (arith, i.end, i.long, ap length all, ap length c.outside.ensures, c.iter-q-items.ensures.few, c.args.self.now.fits, c.requires.room, c.if-len-self.false, c.len.ensures.count) }

pub returns-clause-settled : goal.returns-clause-settled
returns-clause-settled g k c =
    let p = c.args.path.now in
    let x = listener_ear c.args.self.now (g.H.Hearing.hears c.args.hearing.now) in
    let eq = g.V.PartialEq.eq in
    let i = c.loop-q.invariant in
    let all = split_all (outside x.members p) c.loop-q.yielded c.loop-q.q-iterator i.split c.in-None.ensures.steps.0 in
    c.settled_from_terms.ensures
    ∙ ap (λ ts. unwrapped (majority eq ts)) (terms_are (term_at eq x p) c.loop-q.yielded c.args.from c.loop-q.end c.args.work.now c.loop-q.work i.end (omega (arith, c.requires.room)) i.terms ∙ ap (map (term_at eq x p)) (sym all))
    ∙ sym (settled_at_later eq x p (omega (arith, c.if-len-self.false, c.len.ensures.count)))

pub returns-clause-kept : goal.returns-clause-kept
returns-clause-kept g k c =
    fronts_same (term_at g.V.PartialEq.eq (listener_ear c.args.self.now (g.H.Hearing.hears c.args.hearing.now)) c.args.path.now) c.loop-q.yielded c.args.from c.loop-q.end c.args.work.now c.loop-q.work c.loop-q.invariant.end (omega (arith, c.requires.room)) c.loop-q.invariant.terms
