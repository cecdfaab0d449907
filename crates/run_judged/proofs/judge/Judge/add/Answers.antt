use Rattle.std.proofs.Common.{◌≡◌, ◌≤◌, ◌+◌, ◌++◌, ◌&&◌, ℕ, suc, List, length, map, not, vec_capacity, sym, ap, subst, ◌∙◌, inl, inr, arith, lit<}
use Rattle.node_grid.specs.NodeSet.{ids_where, has_id}
use Rattle.at_once.specs.Run.{ShowsPeriod}
use Rattle.run_judged.specs.Illnesses.{sound_after, illnesses}
use Rattle.run_judged.specs.Growing.{begun, grown}
use Rattle.run_judged.specs.Found.{sign_by, AreFound}
use Rattle.run_judged.specs.Rows.{seen_of, skew_at}
use Rattle.run_judged.specs.Sums.{AreSums}
use Rattle.run_judged.proofs.Adding.{skew_shown}
use Rattle.run_judged.proofs.Agreeing.{illnesses_found}
use Rattle.run_judged.proofs.Founds.{reference_in}
use Rattle.run_judged.proofs.Judged.{room_more, each_of, few_skews, skews_more}
use Rattle.run_judged.proofs.judge.Judge.add.Goals as goal

pub invariant_of-seen : goal.invariant_of-seen
invariant_of-seen g c =
    let fits = c.requires.fits.scenario.system.config.few_nodes in
    let nodes = c.requires.fits.shape.nodes in
    record {
      nodes = omega arith;
      reference = reference_in c.args.scenario.now c.args.self.now.periods c.args.shown.now c.requires.shown nodes;
      many = c.requires.fits.beliefs.many;
      placed = c.requires.fits.beliefs.placed;
    }

pub of-findings-requires : goal.of-findings-requires
of-findings-requires g c = (
  elim g.bound-1.eight_or_sixteen [ inl e ↦ rw e (lit< tt) | inr e ↦ rw e (lit< tt) ],
  (lit< tt, (elim g.bound-1.eight_or_sixteen [ inl e ↦ rw e (lit< tt) | inr e ↦ rw e (lit< tt) ], (c.requires.more, (c.requires.shown, c.requires.fits)))),
)

pub add-requires : goal.add-requires
add-requires g c =
    let sc = c.args.scenario.now in
    let s = c.args.shown.now in
    let f = c.of-findings.result in
    let same : c.args.self.now.periods ≡ f.period = sym c.of-findings.ensures.period in
    let shown : ShowsPeriod sc f.period s = subst (λ (k : ℕ). ShowsPeriod sc k s) same c.requires.shown in (
      lit< tt,
      (
        elim g.bound-1.eight_or_sixteen [ inl e ↦ rw e (lit< tt) | inr e ↦ rw e (lit< tt) ],
        (
          lit< tt,
          (
            elim g.bound-1.eight_or_sixteen [ inl e ↦ rw e (lit< tt) | inr e ↦ rw e (lit< tt) ],
            (
              shown,
              (
                c.requires.fits,
                (
                  subst (λ (k : ℕ). AreFound (seen_of sc) sc.config.nodes k f) same c.of-findings.ensures,
                  (c.skew-skew.ensures ∙ skew_shown sc s f.period shown, subst (λ (k : ℕ). AreSums sc k c.args.self.now.tally) same c.requires.judges.sums),
                ),
              ),
            ),
          ),
        ),
      ),
    )

pub add-requires-2 : goal.add-requires-2
add-requires-2 g c =
    let sc = c.args.scenario.now in
    let f = c.of-findings.result in
    let list = c.args.self.now.illnesses.list in
    let same : c.args.self.now.periods ≡ f.period = sym c.of-findings.ensures.period in
    let in_use = c.of-findings.ensures.nodes in
    let fits = c.requires.fits.scenario.system.config.few_nodes in
    let nodes : f.nodes ≤ g.row.N = omega arith in
    let most = c.requires.fits.scenario.few_periods in
    let more = c.requires.more in
    let before : list.items ≡ illnesses (seen_of sc) sc.config.nodes f.period = c.requires.judges.illnesses ∙ ap (illnesses (seen_of sc) sc.config.nodes) same in
    let filled = room_more (seen_of sc) sc.config.nodes g.row.N f.period f.nodes list.items before fits (omega arith) in_use in
    let room = c.args.self.now.illnesses.room in
    let enough : length list.items + f.nodes ≤ vec_capacity list = omega arith in (
      lit< tt,
      (
        elim g.bound-1.eight_or_sixteen [ inl e ↦ rw e (lit< tt) | inr e ↦ rw e (lit< tt) ],
        (each_of (seen_of sc) sc.config.nodes f.period f.nodes list.items before in_use, enough),
      ),
    )

pub keep-requires : goal.keep-requires
keep-requires g c =
    let few = few_skews (skew_at c.args.scenario.now) c.args.self.now.periods c.args.self.now.skews.items c.requires.judges.skews in
    let most = c.requires.fits.scenario.few_periods in
    let more = c.requires.more in
    let room = c.args.self.now.room in
    omega arith

pub returns-clause-judges : goal.returns-clause-judges
returns-clause-judges g c =
    let sc = c.args.scenario.now in
    let seen = seen_of sc in
    let s = c.args.shown.now in
    let f = c.of-findings.result in
    let n : ℕ = c.args.self.now.periods in
    let old = c.args.self.now.illnesses in
    let found = c.of-findings.ensures in
    let period : f.period ≡ n = found.period in
    let next : suc n ≡ n + 1 = omega arith in
    let more = c.requires.more in
    let told = λ (p nodes : ℕ). map (λ x. grown p (sign_by f x.node) x) old.list.items ++ map (λ j. begun p j (sign_by f j)) (ids_where (λ j. has_id old.sound j && not (has_id f.sound j)) nodes) in
    record {
      in_run = omega arith;
      sums = subst (λ (k : ℕ). AreSums sc (k + 1) c.add.new.self) period c.add.ensures;
      sound = λ j low. ap (λ (xs : List ℕ). has_id xs j) c.add-2.ensures.sound ∙ found.sound j low ∙ ap (λ (k : ℕ). sound_after seen k j) next;
      illnesses = c.add-2.ensures.list ∙ ap (told f.period) found.nodes ∙ ap (λ (k : ℕ). told k sc.config.nodes) period
          ∙ illnesses_found seen sc.config.nodes n f found old.sound old.list.items c.requires.judges.sound c.requires.judges.illnesses;
      skews = skews_more (skew_at sc) n c.skew-skew.result c.args.self.now.skews.items c.keep.new.numbers.items c.requires.judges.skews (c.skew-skew.ensures ∙ skew_shown sc s n c.requires.shown) c.keep.ensures.items;
    }
