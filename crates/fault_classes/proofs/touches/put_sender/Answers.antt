use Rattle.std.proofs.Common.{◌≡◌, ◌<◌, [], length, get_or, sym, ap, ◌∙◌, arith}
use Rattle.std.proofs.lemmas.List.{get_or_read}
use Rattle.node_grid.specs.NodeSet.{with_id}
use Rattle.fault_classes.proofs.Sending.{sent_none, sent_all, sent_more}
use Rattle.fault_classes.proofs.touches.put_sender.Goals as goal

pub loop-period-init : goal.loop-period-init
loop-period-init g c = λ p. sent_none g.row.N c.args.sets.now c.args.line.now.from c.args.line.now.first p

pub loop-period-preserved : goal.loop-period-preserved
loop-period-preserved g c =
    let sets = c.loop-period.sets in
    let k = c.loop-period.period in
    let from = c.args.line.now.from in
    let within : k < length sets = omega arith in
    let old : c.index-sets-period.result ≡ get_or sets k [] = get_or_read sets k c.index-sets-period.result within c.index-sets-period.is [] in
    let new : c.put.new.self ≡ with_id g.row.N (get_or sets k []) from = c.put.ensures ∙ ap (λ s. with_id g.row.N s from) (sym c.index-sets-period.is ∙ old) in
    sent_more g.row.N c.args.sets.now sets from c.args.line.now.first k c.put.new.self (omega arith) within c.loop-period.invariant new

pub returns : goal.returns
returns g c = record {
  long = c.loop-period.auto.sets;
  members = λ p. c.loop-period.invariant p ∙ sent_all g.row.N c.args.sets.now c.args.line.now.from c.args.line.now.first c.args.line.now.last c.loop-period.period p (omega arith);
}
