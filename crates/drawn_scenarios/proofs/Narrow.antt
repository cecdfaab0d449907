-- What the rules leave of options.
use Rattle.std.proofs.Common.{◌≡◌, ℕ, ◌^◌, ◌<◌, ◌≤◌, Bool, true, false, not, length, Option, None, Some, ℤ, pos, negsuc, refl, ap, arith, to_z, of_z, w64, subst}
use Rattle.std.specs.Prelude.{int_lt, nat_lt, nat_abs, option_map}
use Rattle.std.specs.Option.{option_or}
use Rattle.std.proofs.lemmas.Bool.{and_parts, not-true, ltb-false, ltb-true}
use Rattle.std.proofs.lemmas.Int.{to_z_pos}
use Rattle.scenario.specs.Numbers.{is_between, natural}
use Rattle.drawn_scenarios.specs.declared.option_parts.ClockOptionParts.{ClockOptionParts}
use Rattle.drawn_scenarios.specs.declared.option_parts.OptionParts.{OptionParts}
use Rattle.drawn_scenarios.specs.declared.option_parts.OptionsError.{OptionsError}
use Rattle.drawn_scenarios.specs.declared.choices.ClockChoices.{ClockChoices}
use Rattle.drawn_scenarios.specs.declared.choices.Choices.{Choices}
use Rattle.drawn_scenarios.specs.Classes.{classes_of}
use Rattle.drawn_scenarios.specs.Choices.{AreClockChoices, AreChoices}
use Rattle.drawn_scenarios.specs.Options.{unless, cluster_refusal, illness_refusal, clock_refusal, clocks_refusal, options_refusal, clock_choices_of, choices_of}

or_none : (o r : Option OptionsError) → option_or o r ≡ None → (o ≡ None) × (r ≡ None)
or_none None r h = (refl, h)
or_none (Some e) r h = absurd (let f : Some e ≡ None = h in cc)

unless_none : (b : Bool) (e : OptionsError) → unless b e ≡ None → b ≡ true
unless_none true e h = refl
unless_none false e h = cc

-- a number from low to high
pub record IsNumber (low high : ℕ) (z : ℤ) : Type 0 where
  pub least : low ≤ natural z
  pub most : natural z ≤ high
  pub is : z ≡ pos (natural z)

pub number : (low high : ℕ) (z : ℤ) → is_between (pos low) (pos high) z ≡ true → IsNumber low high z
number low high (pos n) h =
    let p = and_parts _ _ h in
    record { least = ltb-false n low (not-true _ p.0); most = ltb-false high n (not-true _ p.1); is = refl }
number low high (negsuc n) h = absurd (let e : false ≡ true = h in cc)

pub record InRange (p : OptionParts) : Type 0 where
  pub nodes : IsNumber 3 16 p.nodes
  pub m : IsNumber 0 3 p.m
  pub rounds : int_lt p.m p.nodes ≡ true
  pub periods : IsNumber 1 1024 p.periods
  pub faulty : IsNumber 0 16 p.faulty
  pub fewer : not (int_lt p.nodes p.faulty) ≡ true
  pub classes : nat_lt 0 (length (classes_of p.classes)) ≡ true
  pub rate : IsNumber 0 65536 p.rate
  pub length : IsNumber 1 1024 p.length
  pub restart : IsNumber 0 1024 p.restart
  pub clock : clocks_refusal p.clock ≡ None

pub in_range : (p : OptionParts) → options_refusal p ≡ None → InRange p
in_range p h =
    let a = or_none (cluster_refusal p) _ h in
    let b = or_none (illness_refusal p) _ a.1 in
    let c1 = or_none _ _ a.0 in let c2 = or_none _ _ c1.1 in let c3 = or_none _ _ c2.1 in
    let i1 = or_none _ _ b.0 in let i2 = or_none _ _ i1.1 in let i3 = or_none _ _ i2.1 in
    let rounds = and_parts _ _ (unless_none _ _ c2.0) in let faulty = and_parts _ _ (unless_none _ _ c3.1) in
    record {
      nodes = number 3 16 p.nodes (unless_none _ _ c1.0);
      m = number 0 3 p.m rounds.0;
      rounds = rounds.1;
      periods = number 1 1024 p.periods (unless_none _ _ c3.0);
      faulty = number 0 16 p.faulty faulty.0;
      fewer = faulty.1;
      classes = unless_none _ _ i1.0;
      rate = number 0 65536 p.rate (unless_none _ _ i2.0);
      length = number 1 1024 p.length (unless_none _ _ i3.0);
      restart = number 0 1024 p.restart (unless_none _ _ i3.1);
      clock = b.1;
    }

-- ---- in less room

pub narrow : (low high : ℕ) (z : ℤ) → high < 2 ^ 63 → IsNumber low high z → to_z w64 (of_z w64 z) ≡ pos (natural z)
narrow low high (pos n) few is = to_z_pos w64 n (let m = is.most in omega arith)
narrow low high (negsuc n) few is = let e = is.is in cc

abbrev narrowed : OptionParts → Option ClockChoices → Choices
narrowed p clock = record {
  nodes = nat_abs (to_z w64 (of_z w64 p.nodes));
  m = nat_abs (to_z w64 (of_z w64 p.m));
  periods = nat_abs (to_z w64 (of_z w64 p.periods));
  faulty = nat_abs (to_z w64 (of_z w64 p.faulty));
  classes = p.classes;
  rate = nat_abs (to_z w64 (of_z w64 p.rate));
  length = nat_abs (to_z w64 (of_z w64 p.length));
  restart = nat_abs (to_z w64 (of_z w64 p.restart));
  copies = p.copies;
  clock = clock;
}

pub same_choices : (p : OptionParts) (clock : Option ClockChoices) → InRange p → clock ≡ option_map clock_choices_of p.clock → narrowed p clock ≡ choices_of p
same_choices p clock r e =
    let a = ap nat_abs (narrow 3 16 p.nodes (omega arith) r.nodes) in
    let b = ap nat_abs (narrow 0 3 p.m (omega arith) r.m) in
    let c = ap nat_abs (narrow 1 1024 p.periods (omega arith) r.periods) in
    let d = ap nat_abs (narrow 0 16 p.faulty (omega arith) r.faulty) in
    let f = ap nat_abs (narrow 0 65536 p.rate (omega arith) r.rate) in
    let g = ap nat_abs (narrow 1 1024 p.length (omega arith) r.length) in
    let h = ap nat_abs (narrow 0 1024 p.restart (omega arith) r.restart) in
    rw (a, b, c, d, f, g, h, e) refl

-- ---- what is drawn is in range

clock_in_range : (q : ClockOptionParts) → clock_refusal q ≡ None → AreClockChoices (clock_choices_of q)
clock_in_range q h =
    let a = or_none _ _ h in let b = or_none _ _ a.1 in let c = or_none _ _ b.1 in
    record {
      epsilon = (number 0 (2 ^ 20) q.epsilon (unless_none _ _ a.0)).most;
      drift = (number 0 (2 ^ 20) q.drift (unless_none _ _ b.0)).most;
      start = (number 0 (2 ^ 40) q.start (unless_none _ _ c.0)).most;
      lie = (number 0 (2 ^ 40) q.lie (unless_none _ _ c.1)).most;
    }

clocks_in_range : (o : Option ClockOptionParts) (k : ClockChoices) → clocks_refusal o ≡ None → option_map clock_choices_of o ≡ Some k → AreClockChoices k
clocks_in_range None k h e = cc
clocks_in_range (Some q) k h e = let same : clock_choices_of q ≡ k = cc in subst AreClockChoices same (clock_in_range q h)

rounds_below : (m nodes : ℤ) → m ≡ pos (natural m) → nodes ≡ pos (natural nodes) → int_lt m nodes ≡ true → natural m < natural nodes
rounds_below (pos m) (pos n) a b h = ltb-true m n h
rounds_below (negsuc m) n a b h = cc
rounds_below (pos m) (negsuc n) a b h = cc

at_most : (m n : ℤ) → m ≡ pos (natural m) → n ≡ pos (natural n) → not (int_lt n m) ≡ true → natural m ≤ natural n
at_most (pos m) (pos n) a b h = ltb-false n m (not-true _ h)
at_most (negsuc m) n a b h = cc
at_most (pos m) (negsuc n) a b h = cc

pub are_choices : (p : OptionParts) → InRange p → AreChoices (choices_of p)
are_choices p r = record {
  some_nodes = r.nodes.least;
  few_nodes = r.nodes.most;
  rounds = rounds_below p.m p.nodes r.m.is r.nodes.is r.rounds;
  few_rounds = r.m.most;
  some_periods = r.periods.least;
  few_periods = r.periods.most;
  faulty = at_most p.faulty p.nodes r.faulty.is r.nodes.is r.fewer;
  some_classes = ltb-true _ _ r.classes;
  rate = r.rate.most;
  some_length = r.length.least;
  few_length = r.length.most;
  restart = r.restart.most;
  clock = λ k e. clocks_in_range p.clock k r.clock e;
}
