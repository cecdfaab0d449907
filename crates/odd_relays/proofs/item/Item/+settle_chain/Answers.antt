use Rattle.std.proofs.Common.{rules, ◌≡◌, ◌≢◌, ◌<◌, ◌≤◌, ◌+◌, ◌-◌, ◌*◌, suc, ◌==◌, ◌&&◌, Bool, true, false, not, length, take, drop, map, List, [], ◌∷◌, ◌++◌, ℕ, slice_index_or, sym, ap, ◌∙◌, inl, inr, arith, lit<, eq-eqb, ne_eqb}
use Rattle.std.proofs.lemmas.Bool.{or_from, cases_eq}
use Rattle.std.proofs.lemmas.List.{length_push}
use Rattle.node_grid.specs.NodeSet.{has_id, without_id}
use Rattle.node_grid.specs.ListLaws.{has_push}
use Rattle.node_grid.specs.ListFacts.{split_more, split_all}
use Rattle.node_grid.specs.SetFacts.{on_rest, member-lt}
use Rattle.omh_paths.specs.declared.wrapped.Wrapped.TheVariants.{Fault}
use Rattle.omh_paths.specs.Paths.{outside}
use Rattle.omh_paths.specs.PathLists.{has-without-left}
use Rattle.omh_paths.specs.Majority.{majority as majority_of}
use Rattle.omh_paths.specs.Wrapped.{unwrapped}
use Rattle.omh_paths.specs.Facts.{next_few, next_low, next_outside}
use Rattle.omh.specs.Omh.{ear, own_term}
use Rattle.odd_relays.specs.Chains.{chain_within}
use Rattle.odd_relays.specs.Telling.{telling}
use Rattle.odd_relays.specs.Direct.{direct_world}
use Rattle.odd_relays.proofs.ChainLaws.{chain_term, chain_now, chain_later, chain_base, chain_odd}
use Rattle.odd_relays.proofs.Places.{row_is, row_more}
use Rattle.odd_relays.proofs.Cutting.{alike_settles, chain_push, chain_low}
use Rattle.odd_relays.proofs.Columns.{filled_row, filled_here, filled_below, final_row, final_copied, final_own, final_below}
use Rattle.odd_relays.proofs.item.Item.+settle_chain.Goals as goal
use Rattle.odd_relays.proofs.item.Item.+settle_chain.Goals.{then-has, else-has}

not_self : (o : Bool) (q i : ℕ) → o ≡ true → q ≢ i → (o && not (q == i)) ≡ true
not_self o q i h ne = ap (λ (b : Bool). b && not (q == i)) h ∙ ap not (ne_eqb q i ne)

self : (o : Bool) (q i : ℕ) → o ≡ true → q ≡ i → (o && not (q == i)) ≡ false
self o q i h e = ap (λ (b : Bool). b && not (q == i)) h ∙ ap not (eq-eqb q i e)

regular : (o : Bool) (q i : ℕ) → o ≡ false → (o && not (q == i)) ≡ false
regular o q i h = ap (λ (b : Bool). b && not (q == i)) h

off_others : (all others : List ℕ) (q i : ℕ) → others ≡ without_id all q → has_id others i ≡ true → i ≢ q
off_others all others q i is on = (has-without-left all q i (ap (λ (s : List ℕ). has_id s i) (sym is) ∙ on)).0

off_longer_path : (all others path longer : List ℕ) (q i : ℕ) → others ≡ without_id all q → longer ≡ path ++ q ∷ [] → ((k : ℕ) → has_id all k ≡ true → has_id path k ≡ false) → has_id others i ≡ true → has_id longer i ≡ false
off_longer_path all others path longer q i others_are is off on =
    let parts = has-without-left all q i (ap (λ (s : List ℕ). has_id s i) (sym others_are) ∙ on) in
    ap (λ (s : List ℕ). has_id s i) is ∙ has_push path q i ∙ or_from (has_id path i) (q == i) (off i parts.1) (ne_eqb q i (λ e. parts.0 (sym e)))

pub returns-then-len-self-clause-settled : goal.returns-then-len-self-clause-settled
returns-then-len-self-clause-settled g k c =
    let p = c.args.path.now in
    let t = telling g.S.Relays.says c.args.self.now in
    let w = direct_world t in
    let e : t.rounds + 1 - length p ≡ 0 = omega (arith, c.if-len-self.true, c.len-3.ensures.count) in
    λ i on. c.lay_heard.ensures.laid i on ∙ sym (chain_now g.V.PartialEq.eq w t.odd i p) ∙ sym (ap (λ (r : ℕ). chain_within g.V.PartialEq.eq w t.odd i r p) e)

pub returns-then-lay_alike-clause-settled : goal.returns-then-lay_alike-clause-settled
returns-then-lay_alike-clause-settled g k c = λ i on.
    let t = telling g.S.Relays.says c.args.self.now in
    c.lay_alike.ensures.laid c.if-lay_alike.true i on
    ∙ alike_settles t g.V.PartialEq.eq g.met.V.Exact.exact c.requires.few i c.args.receivers.now c.args.path.now c.requires.chain on (c.requires.off i on) (c.lay_alike.ensures.alike c.if-lay_alike.true)

pub passed-own-requires : goal.passed-own-requires
passed-own-requires g k c =
    let low = next_low g.row.N c.outside.result c.args.self.now.phase.members c.args.path.now c.loop-q.yielded c.next.new.self c.loop-q.q-iterator c.in-Some.q c.iter-q-items.ensures.ids c.outside.ensures c.loop-q.invariant.split c.in-Some.ensures.steps in
    (lit< tt, low)

pub without-others-requires : goal.without-others-requires
without-others-requires g k c =
    let low = next_low g.row.N c.outside.result c.args.self.now.phase.members c.args.path.now c.loop-q.yielded c.next.new.self c.loop-q.q-iterator c.in-Some.q c.iter-q-items.ensures.ids c.outside.ensures c.loop-q.invariant.split c.in-Some.ensures.steps in
    (lit< tt, low)

pub then-requires-clause-off : goal.then-requires-clause-off
then-requires-clause-off g k c = (next_outside c.args.self.now.phase.members c.args.path.now c.loop-q.yielded c.next.new.self c.loop-q.q-iterator c.in-Some.q c.loop-q.invariant.split c.in-Some.ensures.steps).1

pub settle_chain-requires : goal.settle_chain-requires
settle_chain-requires g k c κs within =
    let p = c.args.path.now in
    let q = c.in-Some.q in
    let low = next_low g.row.N c.outside.result c.args.self.now.phase.members p c.loop-q.yielded c.next.new.self c.loop-q.q-iterator q c.iter-q-items.ensures.ids c.outside.ensures c.loop-q.invariant.split c.in-Some.ensures.steps in
    let deep : length p ≤ c.args.self.now.phase.rounds = omega (arith, c.if-len-self.false, c.len-3.ensures.count) in
    let l : length c.then.result ≡ length p + 1 = ap length c.then.ensures ∙ length_push p q in
    let long = c.fill_terms.ensures.room in
    let next = next_outside c.args.self.now.phase.members p c.loop-q.yielded c.next.new.self c.loop-q.q-iterator q c.loop-q.invariant.split c.in-Some.ensures.steps in
    let chain = chain_push (telling g.S.Relays.says c.args.self.now) p c.then.result q c.requires.chain next.0 next.1 (sym c.has.ensures ∙ c.if-has.true) deep c.then.ensures in
    let off : (i : ℕ) → has_id c.without-others.result i ≡ true → has_id c.then.result i ≡ false = λ i on. off_longer_path c.args.receivers.now c.without-others.result p c.then.result q i c.without-others.ensures c.then.ensures c.requires.off on in (
      omega (arith, c.decreases, l, deep),
      (
        search rules,
        (
          search rules,
          (
            search rules,
            (
              lit< tt,
              (
                lit< tt,
                (omega (arith, l, deep, long, c.loop-q.invariant.long, c.requires.room), (c.requires.few, (chain, off))),
              ),
            ),
          ),
        ),
      ),
    )

pub lay_alike-requires : goal.lay_alike-requires
lay_alike-requires g k c =
    let low = chain_low (telling g.S.Relays.says c.args.self.now) c.args.path.now g.row.N c.len-2.ensures.ids c.requires.chain in
    (lit< tt, (lit< tt, (low, omega (arith, c.requires.room))))

pub outside-requires : goal.outside-requires
outside-requires g k c = (lit< tt, chain_low (telling g.S.Relays.says c.args.self.now) c.args.path.now g.row.N c.len-2.ensures.ids c.requires.chain)

pub loop-q-preserved : goal.loop-q-preserved
loop-q-preserved g k c =
    let p = c.args.path.now in
    let q = c.in-Some.q in
    let t = telling g.S.Relays.says c.args.self.now in
    let w = direct_world t in
    let eq = g.V.PartialEq.eq in
    let r : ℕ = t.rounds - length p in
    let inv = c.loop-q.invariant in
    let n : ℕ = c.loop-q.count in
    let from : ℕ = c.args.from in
    let ys = c.loop-q.yielded in
    let nodes = c.args.receivers.now in
    let few16 = next_few g.row.N c.outside.result t.members p ys c.next.new.self c.loop-q.q-iterator q c.args.self.now.fits c.iter-q-items.ensures.few c.outside.ensures inv.split c.in-Some.ensures.steps in
    let few : n ≤ 15 = omega (arith, few16, inv.count) in
    let deep : length p ≤ t.rounds = omega (arith, c.if-len-self.false, c.len-3.ensures.count) in
    let low : (i : ℕ) → has_id nodes i ≡ true → i < 16 = λ i on. let m = member-lt g.row.N nodes i c.len.ensures.ids on in omega (arith, m, c.args.self.now.fits) in
    let fill = c.fill_terms.ensures in
    let own = c.passed-own.result in
    let is_own : own ≡ own_term (ear w q) p = c.passed-own.ensures in
    record {
      can = tt;
      ends = tt;
      split = split_more (outside t.members p) ys c.next.new.self c.loop-q.q-iterator q inv.split c.in-Some.ensures.steps;
      count = omega (arith, inv.count, length_push ys q);
      long = c.if-has.auto.work ∙ fill.room ∙ inv.long;
      terms = λ i on. row_more (Fault 0) (chain_term eq w t.odd r i p) ys q c.loop-q.work c.if-has.work (from + 16 + 16 * i) (inv.terms i on)
          (λ j less. elim c.if-has.branch [
            | then-has b ↦ ap (λ xs. slice_index_or xs (from + 16 + 16 * i + j) (Fault 0)) b.work-is
                ∙ final_row (Fault 0) from n few nodes c.loop-q.work c.fill_terms.new.work own fill.kept fill.laid b.without-others.result b.settle_chain.new.work b.copy_terms.new.work b.settle_chain.ensures.kept b.copy_terms.ensures.kept b.copy_terms.ensures.laid
                i j (low i on) (omega (arith, less, inv.count))
            | else-has b ↦ ap (λ xs. slice_index_or xs (from + 16 + 16 * i + j) (Fault 0)) b.work-is
                ∙ filled_row (Fault 0) from n few nodes c.loop-q.work c.fill_terms.new.work own fill.kept fill.laid i j (omega (arith, less, inv.count))
          ])
          (ap (λ (m : ℕ). slice_index_or c.if-has.work (from + 16 + 16 * i + m) (Fault 0)) (sym inv.count)
          ∙ elim c.if-has.branch [
            | then-has b ↦
                let odd = sym c.has.ensures ∙ b.if-has.true in
                let l : length b.then.result ≡ length p + 1 = ap length b.then.ensures ∙ length_push p q in
                let e : t.rounds + 1 - length b.then.result ≡ r = omega (arith, l) in
                ap (λ xs. slice_index_or xs (from + 16 + 16 * i + n) (Fault 0)) b.work-is
                ∙ elim (cases_eq q i) [
                  | inl same ↦
                      final_own (Fault 0) from n few nodes c.loop-q.work c.fill_terms.new.work own fill.kept fill.laid b.without-others.result b.settle_chain.new.work b.copy_terms.new.work b.settle_chain.ensures.kept b.copy_terms.ensures.kept b.copy_terms.ensures.laid
                      i (low i on) on (λ x at e'. off_others nodes b.without-others.result q x b.without-others.ensures at (sym e' ∙ sym same))
                      ∙ is_own ∙ sym (chain_base eq w t.odd r i p q (self (has_id t.odd q) q i odd same))
                  | inr other ↦
                      let on' = on_rest nodes b.without-others.result q i b.without-others.ensures on other in
                      final_copied (Fault 0) from n few nodes c.loop-q.work c.fill_terms.new.work own fill.kept fill.laid b.without-others.result b.settle_chain.new.work b.copy_terms.new.work b.settle_chain.ensures.kept b.copy_terms.ensures.kept b.copy_terms.ensures.laid i on'
                      ∙ b.settle_chain.ensures.settled i on'
                      ∙ ap (λ (m : ℕ). chain_within eq w t.odd i m b.then.result) e
                      ∙ ap (chain_within eq w t.odd i r) b.then.ensures
                      ∙ sym (chain_odd eq w t.odd r i p q (not_self (has_id t.odd q) q i odd other))
                ]
            | else-has b ↦
                ap (λ xs. slice_index_or xs (from + 16 + 16 * i + n) (Fault 0)) b.work-is
                ∙ filled_here (Fault 0) from n few nodes c.loop-q.work c.fill_terms.new.work own fill.kept fill.laid i on
                ∙ is_own ∙ sym (chain_base eq w t.odd r i p q (regular (has_id t.odd q) q i (sym c.has.ensures ∙ b.if-has.false)))
          ]);
      kept = λ m below. elim c.if-has.branch [
        | then-has b ↦ ap (λ xs. slice_index_or xs m (Fault 0)) b.work-is
            ∙ final_below (Fault 0) from n few nodes c.loop-q.work c.fill_terms.new.work own fill.kept fill.laid b.without-others.result b.settle_chain.new.work b.copy_terms.new.work b.settle_chain.ensures.kept b.copy_terms.ensures.kept b.copy_terms.ensures.laid m below
            ∙ inv.kept m below
        | else-has b ↦ ap (λ xs. slice_index_or xs m (Fault 0)) b.work-is
            ∙ filled_below (Fault 0) from n few nodes c.loop-q.work c.fill_terms.new.work own fill.kept fill.laid m below ∙ inv.kept m below
      ];
    }

pub returns-clause-settled : goal.returns-clause-settled
returns-clause-settled g k c =
    let p = c.args.path.now in
    let t = telling g.S.Relays.says c.args.self.now in
    let w = direct_world t in
    let eq = g.V.PartialEq.eq in
    let r : ℕ = t.rounds - length p in
    let inv = c.loop-q.invariant in
    let ys = c.loop-q.yielded in
    let all = split_all (outside t.members p) ys c.loop-q.q-iterator inv.split c.in-None.ensures.steps.0 in
    let e : suc r ≡ t.rounds + 1 - length p = omega (arith, c.if-len-self.false, c.len-3.ensures.count) in
    let few : length ys ≤ 16 = omega (arith, ap length all, ap length c.outside.ensures, c.iter-q-items.ensures.few, c.args.self.now.fits) in
    λ i on.
    let m = member-lt g.row.N c.args.receivers.now i c.len.ensures.ids on in
    let s : ℕ = c.args.from + 16 + 16 * i in
    let room : s + length ys ≤ length c.loop-q.work = omega (arith, few, m, c.args.self.now.fits, inv.long, c.requires.room, c.if-len-self.false, c.len-3.ensures.count) in
    c.settle_terms.ensures.settled i on
    ∙ ap (λ (n : ℕ). unwrapped (majority_of eq (take n (drop s c.loop-q.work)))) inv.count
    ∙ ap (λ ts. unwrapped (majority_of eq ts)) (row_is (Fault 0) (chain_term eq w t.odd r i p) ys c.loop-q.work s room (inv.terms i on) ∙ ap (map (chain_term eq w t.odd r i p)) (sym all))
    ∙ sym (chain_later eq w t.odd r i p)
    ∙ ap (λ (n : ℕ). chain_within eq w t.odd i n p) e

pub lay_heard-requires : goal.lay_heard-requires
lay_heard-requires g k c = (lit< tt, (lit< tt, omega (arith, c.requires.room)))

pub fill_terms-requires : goal.fill_terms-requires
fill_terms-requires g k c =
    let t = telling g.S.Relays.says c.args.self.now in
    let inv = c.loop-q.invariant in
    let few = next_few g.row.N c.outside.result t.members c.args.path.now c.loop-q.yielded c.next.new.self c.loop-q.q-iterator c.in-Some.q c.args.self.now.fits c.iter-q-items.ensures.few c.outside.ensures inv.split c.in-Some.ensures.steps in
    let deep : length c.args.path.now ≤ t.rounds = omega (arith, c.if-len-self.false, c.len-3.ensures.count) in
    (lit< tt, omega (arith, few, deep, inv.count, inv.long, c.args.self.now.fits, c.requires.room))

pub copy_terms-requires : goal.copy_terms-requires
copy_terms-requires g k c =
    let t = telling g.S.Relays.says c.args.self.now in
    let inv = c.loop-q.invariant in
    let few = next_few g.row.N c.outside.result t.members c.args.path.now c.loop-q.yielded c.next.new.self c.loop-q.q-iterator c.in-Some.q c.args.self.now.fits c.iter-q-items.ensures.few c.outside.ensures inv.split c.in-Some.ensures.steps in
    let deep : length c.args.path.now ≤ t.rounds = omega (arith, c.if-len-self.false, c.len-3.ensures.count) in (
      lit< tt,
      (
        omega (arith, few, inv.count, c.args.self.now.fits),
        omega (arith, deep, c.settle_chain.ensures.room, c.fill_terms.ensures.room, inv.long, c.args.self.now.fits, c.requires.room),
      ),
    )

pub settle_terms-requires : goal.settle_terms-requires
settle_terms-requires g k c =
    let t = telling g.S.Relays.says c.args.self.now in
    let inv = c.loop-q.invariant in
    let all = split_all (outside t.members c.args.path.now) c.loop-q.yielded c.loop-q.q-iterator inv.split c.in-None.ensures.steps.0 in
    let deep : length c.args.path.now ≤ t.rounds = omega (arith, c.if-len-self.false, c.len-3.ensures.count) in (
      lit< tt,
      (
        c.args.self.now.fits,
        (
          omega (arith, inv.count, ap length all, ap length c.outside.ensures, c.iter-q-items.ensures.few, c.args.self.now.fits),
          omega (arith, deep, inv.long, c.args.self.now.fits, c.requires.room),
        ),
      ),
    )

pub then-requires-clause-room : goal.then-requires-clause-room
then-requires-clause-room g k c = omega (arith, c.if-len-self.false, c.len-3.ensures.count, c.args.self.now.short)

pub overflow_add-from : goal.overflow_add-from
overflow_add-from g k c = omega (arith, c.requires.room)

pub overflow_add-from-then-has-2 : goal.overflow_add-from-then-has-2
overflow_add-from-then-has-2 g k c = omega (arith, c.if-len-self.false, c.len-3.ensures.count, c.requires.room)

pub overflow_add-count : goal.overflow_add-count
overflow_add-count g k c =
    let t = telling g.S.Relays.says c.args.self.now in
    let inv = c.loop-q.invariant in
    let few = next_few g.row.N c.outside.result t.members c.args.path.now c.loop-q.yielded c.next.new.self c.loop-q.q-iterator c.in-Some.q c.args.self.now.fits c.iter-q-items.ensures.few c.outside.ensures inv.split c.in-Some.ensures.steps in
    omega (arith, few, inv.count)

pub returns-then-len-self-clause-kept : goal.returns-then-len-self-clause-kept
returns-then-len-self-clause-kept g k c = c.lay_heard.ensures.kept

pub returns-then-len-self-clause-room : goal.returns-then-len-self-clause-room
returns-then-len-self-clause-room g k c = c.lay_heard.ensures.room

pub returns-then-lay_alike-clause-kept : goal.returns-then-lay_alike-clause-kept
returns-then-lay_alike-clause-kept g k c = c.lay_alike.ensures.kept

pub returns-then-lay_alike-clause-room : goal.returns-then-lay_alike-clause-room
returns-then-lay_alike-clause-room g k c = c.lay_alike.ensures.room
