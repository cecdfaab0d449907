use Rattle.std.proofs.Common.{◌≡◌, sym, ap, ◌∙◌, arith}
use Rattle.std.specs.Prelude.{slice_get, Some, List}
use Rattle.std.proofs.lemmas.Option.{slice_get-get_or}
use Rattle.node_steps.specs.Outcome.{Outcome}
use Rattle.cluster_periods.specs.Record.{PeriodView}
use Rattle.cluster_record.proofs.record.PeriodRecord.node.Goals as goal

pub index-requires : goal.index-requires
index-requires g c =
    let o = c.self.inside.records.ok in
    let nodes : c.self.inside.nodes ≡ c.args.self.now.nodes = ap (λ (v : PeriodView). v.nodes) c.self.view_is in
    omega (arith, o, c.self.invariant.records, nodes, c.requires)

pub returns : goal.returns
returns g c =
    let nodes : c.self.inside.nodes ≡ c.args.self.now.nodes = ap (λ (v : PeriodView). v.nodes) c.self.view_is in
    let records : c.self.inside.records.items ≡ c.args.self.now.records = ap (λ (v : PeriodView). v.records) c.self.view_is in
    ap (λ (xs : List Outcome). slice_get xs c.args.i) (sym records)
    ∙ slice_get-get_or c.self.inside.records.items c.args.i c.index.result.now (omega (arith, c.self.invariant.records, nodes, c.requires))
    ∙ ap Some (sym c.index.ensures)
