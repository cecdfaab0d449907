use Rattle.std.proofs.Common.{ℕ, ◌<◌, ◌≤◌, sym, ap, subst, ◌∙◌, lit<, arith, lt-ltb, le-ltb}
use Rattle.std.specs.Prelude.{nat_lt}
use Rattle.std.proofs.lemmas.Bool.{cond-true, cond-false}
use Rattle.relay_rules.specs.Hearing.{after_round}
use Rattle.relay_table.specs.Tabled.{kept_nodes}
use Rattle.relaying.specs.Told.{IsRoundHeard}
use Rattle.relaying.proofs.LastRound.{last_kept}
use Rattle.relaying.proofs.settling.hear_kept.Goals as goal

pub hear_round-requires : goal.hear_round-requires
hear_round-requires g c =
    let h = c.args.table.now in
    let low : h.rounds < 2 = omega (arith, c.if-rounds-lt2.true, c.rounds-rounds.ensures.rounds) in
    (assumption, (lit< tt, (subst (λ (r : ℕ). r < kept_nodes h.rounds) (sym c.rounds-rounds.ensures.rounds) (last_kept h.rounds low), subst (λ (r : ℕ). IsRoundHeard g.row.N g.V.RelayedItem.kind r h c.args.watch.now) (sym c.rounds-rounds.ensures.rounds) c.requires.heard)))

pub returns-then-rounds-lt2 : goal.returns-then-rounds-lt2
returns-then-rounds-lt2 g c =
    let h = c.args.table.now in
    let low : h.rounds < 2 = omega (arith, c.if-rounds-lt2.true, c.rounds-rounds.ensures.rounds) in
    c.hear_round.ensures ∙ ap (λ (r : ℕ). after_round g.V.RelayedItem.form h.nodes c.args.watch.now r h) c.rounds-rounds.ensures.rounds
    ∙ sym (cond-true (nat_lt h.rounds 2) (after_round g.V.RelayedItem.form h.nodes c.args.watch.now h.rounds h) h (lt-ltb h.rounds 2 low))

pub returns-else-rounds-lt2 : goal.returns-else-rounds-lt2
returns-else-rounds-lt2 g c =
    let h = c.args.table.now in
    let late : 2 ≤ h.rounds = omega (arith, c.if-rounds-lt2.false, c.rounds-rounds.ensures.rounds) in
    sym (cond-false (nat_lt h.rounds 2) (after_round g.V.RelayedItem.form h.nodes c.args.watch.now h.rounds h) h (le-ltb h.rounds 2 late))
