use Rattle.std.proofs.Common.{rules, ℕ, ◌≡◌, ◌++◌, ◌∷◌, [], ◌&&◌, not, List, length, sym, ap, ap₂, ◌∙◌, arith}
use Rattle.std.specs.Prelude.{slice_index_or}
use Rattle.node_grid.specs.NodeSet.{has_id, without_id}
use Rattle.node_grid.specs.NodeSetLaws.{length-ids}
use Rattle.node_grid.specs.Count.{bit, count}
use Rattle.node_grid.specs.ListLaws.{count-more}
use Rattle.node_grid.specs.ListFacts.{split_more, split_all}
use Rattle.node_grid.specs.SetFacts.{member-lt, next_on}
use Rattle.omh_paths.specs.declared.wrapped.Wrapped.TheVariants.{Fault}
use Rattle.omh_paths.specs.Wrapped.{wrapped, same}
use Rattle.omh_paths.specs.MemberLaws.{Distinct-ids}
use Rattle.omh_paths.specs.Facts.{next_short}
use Rattle.equivocation.specs.Conviction.{is_present, disagrees}
use Rattle.odd_relays.specs.Telling.{telling}
use Rattle.odd_relays.specs.Voices.{regular_relay, regular_members, odd_members}
use Rattle.odd_relays.proofs.Voices.{count_few, few_regular, few_odd, odd_off, odd_relay, counted_convicts}
use Rattle.odd_relays.proofs.item.Item.convicts_beside.Goals as goal

pub without-odd-requires : goal.without-odd-requires
without-odd-requires g c = (omega arith, member-lt g.row.N c.args.self.now.phase.members c.args.self.now.commander c.len.ensures.ids c.args.self.now.member)

pub loop-q-init : goal.loop-q-init
loop-q-init g c =
    let t = telling g.S.Relays.says c.args.self.now in
    let odd : odd_members t ≡ c.without-odd.result =
    sym (c.without-odd.ensures ∙ ap (λ (s : List ℕ). without_id s t.commander) c.common.ensures)
    in
    let e : without_id (odd_members t) c.args.i ≡ c.without-others.result = ap (λ (s : List ℕ). without_id s c.args.i) odd ∙ sym c.without-others.ensures in
    record {
      can = tt;
      ends = tt;
      split = search (rules, e);
      present = omega arith;
      against = omega arith;
    }

pub then-requires-clause-off : goal.then-requires-clause-off
then-requires-clause-off g c =
    let t = telling g.S.Relays.says c.args.self.now in
    let on = next_on (without_id (odd_members t) c.args.i) c.loop-q.yielded c.next.new.self c.loop-q.q-iterator c.in-Some.q c.loop-q.invariant.split c.in-Some.ensures.steps in
    ap (λ (p : List ℕ). has_id p c.in-Some.q) c.root-root.ensures ∙ odd_off t c.args.i c.in-Some.q on

pub with-voices-requires-clause-present : goal.with-voices-requires-clause-present
with-voices-requires-clause-present g c =
    let t = telling g.S.Relays.says c.args.self.now in
    let i = c.loop-q.invariant in
    let n = c.args.self.now.fits in
    let m = length-ids g.row.N t.members c.len.ensures.ids in
    let regular = c.requires.counted.present in
    omega (
      arith,
      i.present,
      regular,
      n,
      count_few (λ q. is_present (regular_relay t q)) (regular_members t),
      few_regular t g.row.N m,
      count_few (λ q. is_present (odd_relay t c.args.i q)) c.loop-q.yielded,
      next_short (without_id (odd_members t) c.args.i) c.loop-q.yielded c.next.new.self c.loop-q.q-iterator c.in-Some.q g.row.N i.split c.in-Some.ensures.steps (few_odd t g.row.N c.args.i m),
    )

pub with-voices-requires-clause-against : goal.with-voices-requires-clause-against
with-voices-requires-clause-against g c =
    let t = telling g.S.Relays.says c.args.self.now in
    let i = c.loop-q.invariant in
    let n = c.args.self.now.fits in
    let m = length-ids g.row.N t.members c.len.ensures.ids in
    let regular = c.requires.counted.against in
    let own = slice_index_or t.told c.args.i (Fault 0) in
    omega (
      arith,
      i.against,
      regular,
      n,
      count_few (λ q. disagrees g.V.PartialEq.eq own (regular_relay t q)) (regular_members t),
      few_regular t g.row.N m,
      count_few (λ q. disagrees g.V.PartialEq.eq own (odd_relay t c.args.i q)) c.loop-q.yielded,
      next_short (without_id (odd_members t) c.args.i) c.loop-q.yielded c.next.new.self c.loop-q.q-iterator c.in-Some.q g.row.N i.split c.in-Some.ensures.steps (few_odd t g.row.N c.args.i m),
    )

pub loop-q-preserved : goal.loop-q-preserved
loop-q-preserved g c =
    let t = telling g.S.Relays.says c.args.self.now in
    let i = c.loop-q.invariant in
    let q : ℕ = c.in-Some.q in
    let ys : List ℕ = c.loop-q.yielded in
    let own = slice_index_or t.told c.args.i (Fault 0) in
    let relay = c.said-relay.ensures.is ∙ ap (t.says c.args.i) (c.then.ensures ∙ ap (λ (p : List ℕ). p ++ q ∷ []) c.root-root.ensures) in
    let expected = c.wrap-expected.ensures ∙ ap wrapped c.value_at.ensures in
    let p : bit (is_present c.said-relay.result) ≡ bit (is_present (odd_relay t c.args.i q)) = ap (λ r. bit (is_present r)) relay in
    let d : bit (is_present c.said-relay.result && not (same g.V.PartialEq.eq c.said-relay.result c.wrap-expected.result))
    ≡ bit (disagrees g.V.PartialEq.eq own (odd_relay t c.args.i q)) =
    ap₂ (λ r x. bit (is_present r && not (same g.V.PartialEq.eq r x))) relay expected
    in
    record {
      can = tt;
      ends = tt;
      split = split_more (without_id (odd_members t) c.args.i) ys c.next.new.self c.loop-q.q-iterator q i.split c.in-Some.ensures.steps;
      present = omega (arith, c.with-voices.ensures.present, i.present, p, count-more (λ k. is_present (odd_relay t c.args.i k)) ys q);
      against = omega (arith, c.with-voices.ensures.against, i.against, d, count-more (λ k. disagrees g.V.PartialEq.eq own (odd_relay t c.args.i k)) ys q);
    }

pub and_own-requires : goal.and_own-requires
and_own-requires g c =
    let t = telling g.S.Relays.says c.args.self.now in
    let i = c.loop-q.invariant in
    let n = c.args.self.now.fits in
    let m = length-ids g.row.N t.members c.len.ensures.ids in
    let regular = c.requires.counted.present in
    let all = ap length (split_all (without_id (odd_members t) c.args.i) c.loop-q.yielded c.loop-q.q-iterator i.split c.in-None.ensures.steps.0) in
    omega (
      arith,
      i.present,
      regular,
      n,
      all,
      count_few (λ q. is_present (regular_relay t q)) (regular_members t),
      few_regular t g.row.N m,
      count_few (λ q. is_present (odd_relay t c.args.i q)) c.loop-q.yielded,
      few_odd t g.row.N c.args.i m,
    )

pub returns : goal.returns
returns g c =
    let t = telling g.S.Relays.says c.args.self.now in
    let i = c.loop-q.invariant in
    let own = slice_index_or t.told c.args.i (Fault 0) in
    let odd : c.without-odd.result ≡ odd_members t =
    c.without-odd.ensures ∙ ap (λ (s : List ℕ). without_id s t.commander) c.common.ensures
    in
    let all = sym (split_all (without_id (odd_members t) c.args.i) c.loop-q.yielded c.loop-q.q-iterator i.split c.in-None.ensures.steps.0) in
    let p = ap (count (λ q. is_present (odd_relay t c.args.i q))) all in
    let a = ap (count (λ q. disagrees g.V.PartialEq.eq own (odd_relay t c.args.i q))) all in
    let voice = ap bit (c.is_full_among.ensures ∙ ap (λ (s : List ℕ). has_id s c.args.i && has_id t.full c.args.i) odd) in
    c.convict.ensures
    ∙ counted_convicts t g.V.PartialEq.eq g.met.V.Exact.exact c.args.i (Distinct-ids g.row.N t.members c.len.ensures.ids) c.requires.other c.args.regular.now c.and_own.result c.requires.counted
    (omega (arith, c.and_own.ensures.present, i.present, p, voice))
    (omega (arith, c.and_own.ensures.against, i.against, a))
