use Rattle.std.proofs.Common.{◌≡◌, ◌≤◌, ℕ, length, sym, ap, subst, ◌∙◌, inl, inr, arith, lit<}
use Rattle.agreed_state.specs.declared.config.Config.{Config}
use Rattle.shown_period.specs.Whole.{record_of}
use Rattle.run_judged.specs.declared.tally.Tally.{Tally}
use Rattle.run_judged.specs.Apart.{spread_in}
use Rattle.run_judged.proofs.Adding.{added, spread_shown, few_charges, few_false_charges, few_false_exclusions, few_claimed}
use Rattle.run_judged.proofs.tally.Tally.add.Goals as goal

pub add_charges-requires : goal.add_charges-requires
add_charges-requires g c =
    let sc = c.args.scenario.now in
    let f = c.args.findings.now in
    let t = c.args.self.now in
    let capacity = f.small in
    let fits = c.requires.fits.scenario.system.config.few_nodes in
    let few : sc.config.nodes ≤ 16 = omega arith in
    let same = c.add_budget.ensures in (
      lit< tt,
      (
        elim g.bound-1.eight_or_sixteen [ inl e ↦ rw e (lit< tt) | inr e ↦ rw e (lit< tt) ],
        (
          subst (λ (k : ℕ). k ≤ 16384) (sym (ap (λ (x : Tally g.row.N). x.charges) same)) (few_charges sc f.period t c.requires.sums few f.early),
          (
            subst (λ (k : ℕ). k ≤ 16384) (sym (ap (λ (x : Tally g.row.N). x.false_charges) same)) (few_false_charges sc f.period t c.requires.sums few f.early),
            subst (λ (k : ℕ). k ≤ 16384) (sym (ap (λ (x : Tally g.row.N). x.false_exclusions) same)) (few_false_exclusions sc f.period t c.requires.sums few f.early),
          ),
        ),
      ),
    )

pub add_claim-requires : goal.add_claim-requires
add_claim-requires g c =
    let few = few_claimed c.args.scenario.now c.args.findings.now.period c.args.self.now c.requires.sums c.args.findings.now.early in
    let one : c.add_charges.new.self.claimed ≡ c.add_budget.new.self.claimed = ap (λ (x : Tally g.row.N). x.claimed) c.add_charges.ensures in
    let two : c.add_budget.new.self.claimed ≡ c.args.self.now.claimed = ap (λ (x : Tally g.row.N). x.claimed) c.add_budget.ensures in
    (lit< tt, subst (λ (k : ℕ). k ≤ 1024) (sym (one ∙ two)) few)

pub returns : goal.returns
returns g c =
    let sc = c.args.scenario.now in
    let s = c.args.seen.now.shown.now in
    let f = c.args.findings.now in
    let config = c.requires.fits.scenario.system.config in
    let channels : c.len-channels.result ≡ length sc.config.channels.items = c.len-channels.ensures.value ∙ ap (λ (k : Config g.row.N). length k.channels.items) c.config.ensures.config in
    let spread = c.spread-spread.ensures ∙ ap (spread_in (record_of s)) channels ∙ spread_shown sc s f.period c.requires.shown in
    added sc s f c.requires.found c.requires.shown config.few_nodes c.requires.fits.shape.m c.args.self.now c.add_budget.new.self c.add_charges.new.self c.add_claim.new.self c.spread-spread.result c.args.skew
    c.add_budget.ensures c.add_charges.ensures c.add_claim.ensures spread c.requires.skew c.requires.sums

pub config-requires : goal.config-requires
config-requires g c = (elim g.bound-1.eight_or_sixteen [ inl e ↦ rw e (lit< tt) | inr e ↦ rw e (lit< tt) ], elim g.bound-1.eight_or_sixteen [ inl e ↦ rw e (lit< tt) | inr e ↦ rw e (lit< tt) ])

pub overflow_cast-channels : goal.overflow_cast-channels
overflow_cast-channels g c =
    let same : c.len-channels.result ≡ length c.args.scenario.now.config.channels.items = c.len-channels.ensures.value ∙ ap (λ (k : Config g.row.N). length k.channels.items) c.config.ensures.config in
    omega (arith, same, c.requires.fits.scenario.system.config.few_channels)

pub add_budget-requires : goal.add_budget-requires
add_budget-requires g c = lit< tt
