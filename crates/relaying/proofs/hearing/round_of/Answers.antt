use Rattle.std.proofs.Common.{ℕ, ◌≡◌, ◌≢◌, ◌<◌, ◌≤◌, ◌+◌, ◌-◌, ◌*◌, true, length, sym, ap, ap₂, subst, ◌∙◌, lit<, arith}
use Rattle.node_grid.specs.NodeSet.{has_id, without_id}
use Rattle.node_grid.specs.CapacityLaws.{capacity-le}
use Rattle.omh_paths.specs.MemberLaws.{few_ids}
use Rattle.omh_paths.specs.Paths.{path_count}
use Rattle.omh_paths.specs.PathLists.{has-without-left}
use Rattle.error_detect.specs.Entries.{HoldsBodies}
use Rattle.relaying.specs.Told.{ArePut}
use Rattle.relaying.proofs.Frames.{walks, says_told}
use Rattle.relaying.proofs.Taking.{none_put, one_put, none_came, not_other}
use Rattle.relaying.proofs.Ranges.{size_few}
use Rattle.relaying.proofs.hearing.round_of.Goals as goal
use Rattle.relaying.proofs.hearing.round_of.Goals.{then-has+in-Some, then-has+in_default, else-has}

pub count_paths-requires-clause-nodes : goal.count_paths-requires-clause-nodes
count_paths-requires-clause-nodes g c =
    omega (arith, few_ids g.row.N c.members.result c.nodes-nodes.ensures.capacity c.len.ensures.ids, c.len.ensures.count, c.saturating_sub.ensures)

pub overflow_mul-size : goal.overflow_mul-size
overflow_mul-size g c =
    let nodes : c.nodes-nodes.result ≤ 16 = omega (arith, c.nodes-nodes.ensures.few, capacity-le g.row.N c.nodes-nodes.ensures.capacity) in
    let narrow : c.entry_width-width.result ≤ 33 = subst (λ (w : ℕ). w ≤ 33) (sym c.entry_width-width.ensures) (g.met.V.RelayedItem.laws.narrow c.nodes-nodes.result nodes) in
    let few : c.saturating_sub.result ≤ 16 = omega (arith, few_ids g.row.N c.members.result c.nodes-nodes.ensures.capacity c.len.ensures.ids, c.len.ensures.count, c.saturating_sub.ensures) in
    let small : c.entry_width-width.result * c.count_paths.result ≤ 33 * 65536 = size_few c.entry_width-width.result c.count_paths.result c.saturating_sub.result c.args.round narrow c.count_paths.ensures.product few (omega (arith, c.requires.relay.within, c.members.ensures.rounds)) in
    omega (arith, small)

pub room-requires : goal.room-requires
room-requires g c = lit< tt

pub loop-node-init : goal.loop-node-init
loop-node-init g c = record {
  put = none_put c.args.watch.now c.without-others.result c.open-frames.result (subst (HoldsBodies c.args.watch.now) (sym c.open-frames.ensures.room) c.room.ensures) c.open-frames.ensures.begins c.open-frames.ensures.next c.open-frames.ensures.none;
  width = c.open-frames.ensures.width;
  size = c.open-frames.ensures.size;
}

pub entries_at-requires : goal.entries_at-requires
entries_at-requires g c =
    let by = c.requires.relay.heard.closed in
    let others : c.without-others.result ≡ without_id c.args.table.now.members c.args.table.now.me = c.without-others.ensures ∙ ap (λ ms. without_id ms c.me.result) c.members-2.ensures.members ∙ ap (without_id c.args.table.now.members) c.me.ensures.me in
    let on : has_id (without_id c.args.table.now.members c.args.table.now.me) c.loop-node.node ≡ true = sym (c.has.ensures ∙ ap (λ ms. has_id ms c.loop-node.node) others) ∙ c.if-has.true in
    let low : c.loop-node.node < c.args.watch.now.nodes = omega (arith, c.loop-node-test.true, by.nodes_are, c.nodes-nodes.ensures.nodes) in
    let ne : c.loop-node.node ≢ c.args.watch.now.me = λ same. (has-without-left c.args.table.now.members c.args.table.now.me c.loop-node.node on).0 (same ∙ by.me_is) in
    (lit< tt, (by.closed, (by.some_slot, (low, ne))))

pub loop-node-preserved : goal.loop-node-preserved
loop-node-preserved g c =
    let low : c.loop-node.node < g.row.N = omega (arith, c.loop-node-test.true, c.nodes-nodes.ensures.few) in
    let has : has_id c.without-others.result c.loop-node.node ≡ c.has.result = sym c.has.ensures in
    elim c.if-has.branch [
      | then-has+in-Some x ↦
          record {
            put = one_put c.args.watch.now c.without-others.result c.loop-node.frames c.if-has.frames c.loop-node.node x.in-Some.at low (has ∙ x.if-has.true) (sym x.entries_at.ensures ∙ x.in-Some.is) c.loop-node.invariant.put
                (ap (λ r. r.room.now) x.frames-is ∙ x.put.ensures.room) (ap (λ r. r.begins) x.frames-is ∙ x.put.ensures.begins) (ap (λ r. r.next) x.frames-is ∙ x.put.ensures.next) (ap (λ r. r.present) x.frames-is ∙ x.put.ensures.present);
            width = ap (λ r. r.width) x.frames-is ∙ x.put.ensures.width ∙ c.loop-node.invariant.width;
            size = ap (λ r. r.size) x.frames-is ∙ x.put.ensures.size ∙ c.loop-node.invariant.size;
          }
      | then-has+in_default x ↦
          record {
            put = subst (λ r. ArePut c.args.watch.now c.without-others.result (c.loop-node.node + 1) r) (sym x.frames-is) (none_came c.args.watch.now c.without-others.result c.loop-node.frames c.loop-node.node (sym x.entries_at.ensures ∙ x.in_default.is) c.loop-node.invariant.put);
            width = ap (λ r. r.width) x.frames-is ∙ c.loop-node.invariant.width;
            size = ap (λ r. r.size) x.frames-is ∙ c.loop-node.invariant.size;
          }
      | else-has x ↦
          record {
            put = subst (λ r. ArePut c.args.watch.now c.without-others.result (c.loop-node.node + 1) r) (sym x.frames-is) (not_other c.args.watch.now c.without-others.result c.loop-node.frames c.loop-node.node (has ∙ x.if-has.false) c.loop-node.invariant.put);
            width = ap (λ r. r.width) x.frames-is ∙ c.loop-node.invariant.width;
            size = ap (λ r. r.size) x.frames-is ∙ c.loop-node.invariant.size;
          }
    ]

pub returns-clause-walk : goal.returns-clause-walk
returns-clause-walk g c =
    let h = c.args.table.now in
    let w = c.args.watch.now in
    let others : c.without-others.result ≡ without_id h.members h.me = c.without-others.ensures ∙ ap (λ ms. without_id ms c.me.result) c.members-2.ensures.members ∙ ap (without_id h.members) c.me.ensures.me in
    let end : c.loop-node.node ≡ h.nodes = omega (arith, c.loop-node-test.false, c.loop-node.auto.node-end, c.nodes-nodes.ensures.nodes) in
    let few : h.nodes ≤ g.row.N = omega (arith, c.nodes-nodes.ensures.few, c.nodes-nodes.ensures.nodes) in
    let short : c.args.round ≤ 3 = omega (arith, c.requires.relay.within, c.members.ensures.rounds) in
    let below : (q : ℕ) → has_id h.members q ≡ true → q < h.nodes = λ q on. c.members.ensures.low q (ap (λ ms. has_id ms q) c.members.ensures.members ∙ on) in
    let put : ArePut w (without_id h.members h.me) h.nodes c.loop-node.frames =
    subst (λ ids. ArePut w ids h.nodes c.loop-node.frames) others (subst (λ (n : ℕ). ArePut w c.without-others.result n c.loop-node.frames) end c.loop-node.invariant.put) in
    let wide : c.entry_width-width.result ≡ g.V.RelayedItem.width h.nodes = c.entry_width-width.ensures ∙ ap g.V.RelayedItem.width c.nodes-nodes.ensures.nodes in
    let count : c.count_paths.result ≡ path_count (length h.members - 1) c.args.round =
    c.count_paths.ensures.product ∙ ap (λ (n : ℕ). path_count n c.args.round) (c.saturating_sub.ensures ∙ ap (λ (n : ℕ). n - 1) (c.len.ensures.count ∙ ap length c.members.ensures.members)) in
    let size = c.loop-node.invariant.size ∙ ap₂ (λ (a b : ℕ). a * b) wide count in
    walks g.met.V.RelayedItem.laws h w c.args.round few c.requires.relay.some short c.requires.relay.heard below c.loop-node.frames put (c.loop-node.invariant.width ∙ wide) size

pub returns-clause-told : goal.returns-clause-told
returns-clause-told g c =
    let h = c.args.table.now in
    let w = c.args.watch.now in
    let others : c.without-others.result ≡ without_id h.members h.me = c.without-others.ensures ∙ ap (λ ms. without_id ms c.me.result) c.members-2.ensures.members ∙ ap (without_id h.members) c.me.ensures.me in
    let end : c.loop-node.node ≡ h.nodes = omega (arith, c.loop-node-test.false, c.loop-node.auto.node-end, c.nodes-nodes.ensures.nodes) in
    let few : h.nodes ≤ g.row.N = omega (arith, c.nodes-nodes.ensures.few, c.nodes-nodes.ensures.nodes) in
    let short : c.args.round ≤ 3 = omega (arith, c.requires.relay.within, c.members.ensures.rounds) in
    let below : (q : ℕ) → has_id h.members q ≡ true → q < h.nodes = λ q on. c.members.ensures.low q (ap (λ ms. has_id ms q) c.members.ensures.members ∙ on) in
    let put : ArePut w (without_id h.members h.me) h.nodes c.loop-node.frames =
    subst (λ ids. ArePut w ids h.nodes c.loop-node.frames) others (subst (λ (n : ℕ). ArePut w c.without-others.result n c.loop-node.frames) end c.loop-node.invariant.put) in
    let wide : c.entry_width-width.result ≡ g.V.RelayedItem.width h.nodes = c.entry_width-width.ensures ∙ ap g.V.RelayedItem.width c.nodes-nodes.ensures.nodes in
    let count : c.count_paths.result ≡ path_count (length h.members - 1) c.args.round =
    c.count_paths.ensures.product ∙ ap (λ (n : ℕ). path_count n c.args.round) (c.saturating_sub.ensures ∙ ap (λ (n : ℕ). n - 1) (c.len.ensures.count ∙ ap length c.members.ensures.members)) in
    let size = c.loop-node.invariant.size ∙ ap₂ (λ (a b : ℕ). a * b) wide count in
    says_told g.met.V.RelayedItem.laws h w c.args.round few c.requires.relay.some short c.requires.relay.heard below c.loop-node.frames put (c.loop-node.invariant.width ∙ wide) size
