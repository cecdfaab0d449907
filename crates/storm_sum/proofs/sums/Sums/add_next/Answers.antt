use Rattle.scenario.specs.Scenario.{system_of}
use Rattle.shown_period.specs.Whole.{record_of}
use Rattle.storm_sum.proofs.Summing.{reference_shown, sums_more}
use Rattle.storm_sum.proofs.sums.Sums.add_next.Goals as goal

pub add-requires-clause-reference : goal.add-requires-clause-reference
add-requires-clause-reference c = reference_shown (system_of c.args.run.now.scenario) c.args.run.now.scenario.clock c.args.run.now.run (record_of c.period-shown.result.now) c.period-shown.ensures.shown

pub returns-clause-sums : goal.returns-clause-sums
returns-clause-sums c =
    sums_more (system_of c.args.run.now.scenario) c.args.run.now.scenario.clock c.args.run.now.run c.args.self.now c.add.new.self (record_of c.period-shown.result.now) c.period-shown.ensures.shown (record {
      claimed = c.add.ensures.claimed;
      excluded = c.add.ensures.excluded;
      readmitted = c.add.ensures.readmitted;
      few_excluded = c.add.ensures.few_excluded;
      few_readmitted = c.add.ensures.few_readmitted;
      members = c.add.ensures.members;
      counts = c.add.ensures.counts;
    }) c.requires.sums
