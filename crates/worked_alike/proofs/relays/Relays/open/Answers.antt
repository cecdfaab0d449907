use Rattle.std.proofs.Common.{◌-◌, ap, ◌∙◌, arith}
use Rattle.omh_paths.specs.Paths.{path_count}
use Rattle.omh_paths.specs.MemberLaws.{path_count-few}
use Rattle.worked_alike.proofs.relays.Relays.open.Goals as goal

pub blank-requires : goal.blank-requires
blank-requires c =
    let seat = c.args.seat in
    let few = path_count-few c.saturating_sub.result seat.round (omega (arith, c.saturating_sub.ensures, c.size_of.ensures.few)) (omega (arith, seat.within, seat.short)) in
    omega (arith, few, c.count_paths-entries.ensures.product)

pub invariant_of-result-clause-few : goal.invariant_of-result-clause-few
invariant_of-result-clause-few c =
    let seat = c.args.seat in
    let few = path_count-few c.saturating_sub.result seat.round (omega (arith, c.saturating_sub.ensures, c.size_of.ensures.few)) (omega (arith, seat.within, seat.short)) in
    omega (arith, few, c.count_paths-entries.ensures.product)

pub invariant_of-result-clause-count : goal.invariant_of-result-clause-count
invariant_of-result-clause-count c =
    c.count_paths-entries.ensures.product ∙ ap (λ n. path_count n c.args.seat.round) (c.saturating_sub.ensures ∙ ap (λ n. n - 1) c.size_of.ensures.count)

pub invariant_of-result-clause-tagged : goal.invariant_of-result-clause-tagged
invariant_of-result-clause-tagged c = c.in_ok-room.ensures.tagged
