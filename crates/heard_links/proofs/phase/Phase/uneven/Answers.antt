use Rattle.std.proofs.Common.{ℕ, ◌≢◌, ◌<◌, ◌==◌, List, refl, sym, ap, subst, ◌∙◌, inl, inr, arith, lit<, eq-eqb, eqb-true}
use Rattle.std.proofs.lemmas.Bool.{or_cases, or_left, or_right, both_ways}
use Rattle.node_grid.specs.NodeSet.{has_id}
use Rattle.node_grid.specs.SetFacts.{has-without}
use Rattle.omh_paths.specs.PathLists.{has-without-left}
use Rattle.heard_links.specs.Talks.{IsEvenTo}
use Rattle.heard_links.proofs.Puts.{more_off, more_on}
use Rattle.heard_links.proofs.phase.Phase.uneven.Goals as goal

pub loop-to-init : goal.loop-to-init
loop-to-init g c =
    let x = c.args.self.now in
    let all = c.into_iter-to-iterator.ensures.into_iter_gives ∙ c.iter-to-items.ensures.members ∙ c.without.ensures in record {
      can = tt;
      ends = tt;
      left = λ k on.
          let p = has-without-left x.awake c.args.from k (ap (λ (s : List ℕ). has_id s k) (sym all) ∙ on) in
          (p.1, p.0);
      even = λ k on ne. inl (ap (λ (s : List ℕ). has_id s k) all ∙ has-without x.awake c.args.from k ne on);
      awake = λ k low on. absurd (both_ways _ (ap (λ (s : List ℕ). has_id s k) c.empty-uneven.ensures) on);
      other = λ k low on. absurd (both_ways _ (ap (λ (s : List ℕ). has_id s k) c.empty-uneven.ensures) on);
    }

pub is_even_to-requires : goal.is_even_to-requires
is_even_to-requires g c =
    let s = c.requires.set in
    let to = c.in-Some.to in
    let here = c.loop-to.invariant.left to (ap (λ (ks : List ℕ). has_id ks to) c.in-Some.ensures.steps ∙ or_left (to == to) (has_id c.next.new.self to) (eq-eqb to to refl)) in
    (elim s.capacity [ inl e ↦ rw e (lit< tt) | inr e ↦ rw e (lit< tt) ], record { set = s; round = c.requires.round; from = c.requires.from; to = s.awake to here.0; link = λ e. here.1 (sym e) })

pub loop-to-preserved-then-not-is_even_to : goal.loop-to-preserved-then-not-is_even_to
loop-to-preserved-then-not-is_even_to g c =
    let x = c.args.self.now in
    let few = c.requires.set.config.few_nodes in
    let inv = c.loop-to.invariant in
    let to = c.in-Some.to in
    let rest = c.next.new.self in
    let has = λ (k : ℕ). ap (λ (s : List ℕ). has_id s k) c.in-Some.ensures.steps in
    let here = inv.left to (has to ∙ or_left (to == to) (has_id rest to) (eq-eqb to to refl)) in
    let is = c.put.ensures in record {
      can = tt;
      ends = tt;
      left = λ k on. inv.left k (has k ∙ or_right (to == k) (has_id rest k) on);
      even = λ k on ne.
          let awake = c.requires.set.awake k on in
          let low : k < g.row.N = omega (arith, few, awake) in
          elim (inv.even k on ne) [
            | inl left ↦ elim (or_cases (to == k) (has_id rest k) (sym (has k) ∙ left)) [
              | inl same ↦ inr (λ off. absurd ((more_off g.row.N c.loop-to.uneven _ to k is low off).0 (sym (eqb-true to k same))))
              | inr after ↦ inl after
            ]
            | inr even ↦ inr (λ off. even (more_off g.row.N c.loop-to.uneven _ to k is low off).1)
          ];
      awake = λ k low on. elim (more_on g.row.N c.loop-to.uneven _ to k is (omega (arith, few, low)) on) [
        | inl e ↦ ap (has_id x.awake) e ∙ here.0
        | inr before ↦ inv.awake k low before
      ];
      other = λ k low on. elim (more_on g.row.N c.loop-to.uneven _ to k is (omega (arith, few, low)) on) [
        | inl e ↦ subst (λ (n : ℕ). n ≢ c.args.from) (sym e) here.1
        | inr before ↦ inv.other k low before
      ];
    }

pub loop-to-preserved : goal.loop-to-preserved
loop-to-preserved g c =
    let x = c.args.self.now in
    let inv = c.loop-to.invariant in
    let to = c.in-Some.to in
    let rest = c.next.new.self in
    let has = λ (k : ℕ). ap (λ (s : List ℕ). has_id s k) c.in-Some.ensures.steps in
    record {
      can = tt;
      ends = tt;
      left = λ k on. inv.left k (has k ∙ or_right (to == k) (has_id rest k) on);
      even = λ k on ne. elim (inv.even k on ne) [
        | inl left ↦ elim (or_cases (to == k) (has_id rest k) (sym (has k) ∙ left)) [
          | inl same ↦ inr (λ off. subst (λ (n : ℕ). IsEvenTo x c.args.round c.args.from n) (eqb-true to k same) (c.is_even_to.ensures c.if-not-is_even_to.false))
          | inr after ↦ inl after
        ]
        | inr even ↦ inr even
      ];
      awake = inv.awake;
      other = inv.other;
    }

pub returns : goal.returns
returns g c =
    let inv = c.loop-to.invariant in
    let ends = c.in-None.ensures.steps.0 in record {
      even = λ i on ne off. elim (inv.even i on ne) [
        | inl left ↦ absurd (both_ways _ (ap (λ (s : List ℕ). has_id s i) ends) left)
        | inr even ↦ even off
      ];
      awake = λ i low on. inv.awake i low on;
      other = λ i low on. inv.other i low on;
    }
