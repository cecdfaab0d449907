use Rattle.std.proofs.Common.{ℕ, ◌≡◌, ◌≤◌, length, map, sym, ap, subst, ◌∙◌, arith}
use Rattle.std.specs.List.{flat_map}
use Rattle.node_grid.specs.Count.{Distinct}
use Rattle.omh_paths.specs.MemberLaws.{Distinct-ids}
use Rattle.omh_paths.specs.Wrapped.{wrapped}
use Rattle.frames.specs.Writing.{pasted}
use Rattle.frames.specs.PieceLaws.{pasted_nothing}
use Rattle.relay_terms.specs.Terms.{said}
use Rattle.relaying.specs.Round.{CanPut}
use Rattle.relaying.proofs.Framing.{no_entries, own_relays, can_put}
use Rattle.relaying.proofs.Told.{round_kept}
use Rattle.relaying.proofs.saying.write_own.Goals as goal

pub heard-requires : goal.heard-requires
heard-requires g c = (assumption, (c.requires.round.some, round_kept c.args.round c.args.table.now.rounds c.requires.round.within))

pub put_terms-requires : goal.put_terms-requires
put_terms-requires g c =
    let h = c.args.table.now in
    let distinct : Distinct h.members = subst Distinct c.members-members.ensures.members (Distinct-ids g.row.N c.members-members.result c.members-members.ensures.ids) in
    let short : c.args.round ≤ 3 = omega (arith, c.requires.round.within, c.members-members.ensures.rounds) in
    let few : h.nodes ≤ g.row.N = omega (arith, c.nodes-nodes.ensures.few, c.nodes-nodes.ensures.nodes) in
    let nodes : h.nodes ≡ c.nodes-nodes.result = sym c.nodes-nodes.ensures.nodes in
    let can = can_put g.met.V.RelayedItem.laws h c.args.round c.requires.round.slot.0 c.requires.round.slot.1 few c.requires.round.some short distinct (sym c.is_member.ensures ∙ c.if-is_member.true) (length c.args.out.now) c.requires.room in
    record {
      nodes = c.nodes-nodes.ensures.few;
      can = subst (λ (n : ℕ). CanPut (g.V.RelayedItem.width n) (g.V.RelayedItem.spelling n) (map said c.heard.result.now) (length c.args.out.now)) nodes
          (subst (λ ts. CanPut (g.V.RelayedItem.width h.nodes) (g.V.RelayedItem.spelling h.nodes) ts (length c.args.out.now)) (sym c.heard.ensures.heard) can);
    }

pub returns-then-is_member : goal.returns-then-is_member
returns-then-is_member g c =
    let h = c.args.table.now in
    let distinct : Distinct h.members = subst Distinct c.members-members.ensures.members (Distinct-ids g.row.N c.members-members.result c.members-members.ensures.ids) in
    let short : c.args.round ≤ 3 = omega (arith, c.requires.round.within, c.members-members.ensures.rounds) in
    let few : h.nodes ≤ g.row.N = omega (arith, c.nodes-nodes.ensures.few, c.nodes-nodes.ensures.nodes) in
    c.put_terms.ensures
    ∙ ap (λ (n : ℕ). pasted 0 (flat_map (g.V.RelayedItem.spelling n) (map wrapped (map said c.heard.result.now))) c.args.out.now) c.nodes-nodes.ensures.nodes
    ∙ ap (λ ts. pasted 0 (flat_map (g.V.RelayedItem.spelling h.nodes) (map wrapped ts)) c.args.out.now) c.heard.ensures.heard
    ∙ ap (λ ts. pasted 0 (flat_map (g.V.RelayedItem.spelling h.nodes) ts) c.args.out.now)
    (sym (own_relays g.met.V.RelayedItem.laws h c.args.round c.requires.round.slot.0 c.requires.round.slot.1 few c.requires.round.some short distinct (sym c.is_member.ensures ∙ c.if-is_member.true)))

pub returns-else-is_member : goal.returns-else-is_member
returns-else-is_member g c =
    let h = c.args.table.now in
    sym (pasted_nothing 0 c.args.out.now) ∙ ap (λ xs. pasted 0 (flat_map (g.V.RelayedItem.spelling h.nodes) xs) c.args.out.now) (sym (no_entries h c.args.round (sym c.is_member.ensures ∙ c.if-is_member.false)))
