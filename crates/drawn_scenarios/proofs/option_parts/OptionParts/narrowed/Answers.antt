use Rattle.std.proofs.Common.{sym, ap, ◌∙◌, arith, None, Some}
use Rattle.drawn_scenarios.specs.declared.choices.ClockChoices.{ClockChoices}
use Rattle.drawn_scenarios.specs.Options.{clocks_refusal, clock_choices_of}
use Rattle.std.specs.Option.{option_map}
use Rattle.drawn_scenarios.proofs.Narrow.{in_range, narrow, same_choices}
use Rattle.drawn_scenarios.proofs.option_parts.OptionParts.narrowed.Goals as goal

pub overflow_cast-result-5 : goal.overflow_cast-result-5
overflow_cast-result-5 c = let r = in_range c.args.self.now c.requires in let most = r.rate.most in rw (narrow 0 65536 c.args.self.now.rate (omega arith) r.rate) (tt, omega arith)

pub overflow_cast-result-6 : goal.overflow_cast-result-6
overflow_cast-result-6 c = let r = in_range c.args.self.now c.requires in let most = r.length.most in rw (narrow 1 1024 c.args.self.now.length (omega arith) r.length) (tt, omega arith)

pub overflow_cast-result-7 : goal.overflow_cast-result-7
overflow_cast-result-7 c = let r = in_range c.args.self.now c.requires in let most = r.restart.most in rw (narrow 0 1024 c.args.self.now.restart (omega arith) r.restart) (tt, omega arith)

pub narrowed-requires : goal.narrowed-requires
narrowed-requires c = sym (ap clocks_refusal c.in-Some.is) ∙ (in_range c.args.self.now c.requires).clock

pub returns-in-None : goal.returns-in-None
returns-in-None c = same_choices c.args.self.now None (in_range c.args.self.now c.requires) (sym (ap (option_map clock_choices_of) c.in-None.is))

pub returns-in-Some : goal.returns-in-Some
returns-in-Some c =
    same_choices c.args.self.now (Some c.narrowed.result) (in_range c.args.self.now c.requires)
    (ap (λ (k : ClockChoices). Some k) c.narrowed.ensures ∙ sym (ap (option_map clock_choices_of) c.in-Some.is))
