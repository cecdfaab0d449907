use Rattle.std.proofs.Common.{List, map, get_or, sym, ap, subst, ◌∙◌}
use Rattle.omh_paths.specs.declared.wrapped.Wrapped.{Wrapped}
use Rattle.omh_paths.specs.declared.wrapped.Wrapped.TheVariants.{Fault}
use Rattle.relay_terms.specs.Terms.{said}
use Rattle.relay_table.proofs.Known.{nothing_at}
use Rattle.relay_table.proofs.Tables.{opened, opened_station, opened_sets, opened_room}
use Rattle.relay_table.proofs.table.Table.open.Goals as goal

pub invariant_of-result : goal.invariant_of-result
invariant_of-result g c = (
  record {
    seated = opened_station g.row.N c.args.nodes c.args.m c.empty.result c.empty-2.result g.bound-6.eight_or_sixteen c.requires.nodes c.requires.rounds c.empty.ensures c.empty-2.ensures;
    sets = opened_sets c.args.nodes c.args.m c.free_begins.result c.empty.result c.in-Ok-no_sets.free.items c.free_begins.ensures.begins c.empty.ensures c.in-Ok-no_sets.ensures;
  },
  opened_room c.args.nodes c.args.m c.saturating_sub.result c.kept_nodes.result c.section_at-room.result c.in-Ok.heard.items c.in-Ok-unheard.settled.items c.saturating_sub.ensures c.kept_nodes.ensures.kept c.section_at-room.ensures.begins
      c.in-Ok.ensures c.in-Ok-unheard.ensures,
)

pub returns : goal.returns
returns g c =
    opened c.args.nodes c.args.m c.empty.result (said c.nothing.result) (map said c.in-Ok.heard.items) c.empty.ensures c.nothing.ensures
    (λ k. ap (λ (ts : List (Wrapped g.row.V.Denot)). get_or ts k (Fault 0)) c.in-Ok.ensures ∙ nothing_at c.section_at-room.result k)
