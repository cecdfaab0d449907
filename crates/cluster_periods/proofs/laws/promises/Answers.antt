use Rattle.cluster_periods.proofs.laws.promises.Goals as goal

pub returns : goal.returns
returns c N sc p is claimed = record {
  safe = c.safe.ensures N sc p is claimed;
  convictions = c.convictions.ensures N sc p is claimed;
  copies = c.copies.ensures N sc p is claimed;
  clocks = c.clocks.ensures N sc p is claimed;
  lifetimes = c.over_time.ensures N sc p is claimed;
}
