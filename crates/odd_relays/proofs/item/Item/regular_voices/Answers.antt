use Rattle.std.proofs.Common.{rules, ℕ, ◌≡◌, ◌&&◌, not, List, sym, ap, ap₂, ◌∙◌, arith}
use Rattle.std.specs.Prelude.{slice_index_or}
use Rattle.node_grid.specs.NodeSet.{without_id}
use Rattle.node_grid.specs.NodeSetLaws.{length-ids}
use Rattle.node_grid.specs.Count.{bit, count}
use Rattle.node_grid.specs.ListLaws.{count-more}
use Rattle.node_grid.specs.ListFacts.{split_more, split_all}
use Rattle.node_grid.specs.SetFacts.{member-lt}
use Rattle.omh_paths.specs.declared.wrapped.Wrapped.TheVariants.{Fault}
use Rattle.omh_paths.specs.Wrapped.{wrapped, same}
use Rattle.omh_paths.specs.Facts.{next_short}
use Rattle.omh.specs.Omh.{ear, own_term}
use Rattle.equivocation.specs.Conviction.{is_present, disagrees}
use Rattle.odd_relays.specs.Telling.{telling}
use Rattle.odd_relays.specs.Direct.{direct_world}
use Rattle.odd_relays.specs.Voices.{regular_relay, regular_members}
use Rattle.odd_relays.proofs.Voices.{count_few, few_regular}
use Rattle.odd_relays.proofs.item.Item.regular_voices.Goals as goal

pub without-regular-requires : goal.without-regular-requires
without-regular-requires g c = (omega arith, member-lt g.row.N c.args.self.now.phase.members c.args.self.now.commander c.len.ensures.ids c.args.self.now.member)

pub loop-q-init : goal.loop-q-init
loop-q-init g c =
    let t = telling g.S.Relays.says c.args.self.now in
    let e : regular_members t ≡ c.without-regular.result = sym (c.without-regular.ensures ∙ ap (λ (s : List ℕ). without_id s t.commander) c.minus.ensures) in
    record {
      can = tt;
      ends = tt;
      split = search (rules, e);
      present = c.none-voices.ensures.present;
      against = c.none-voices.ensures.against;
    }

pub with-voices-requires-clause-present : goal.with-voices-requires-clause-present
with-voices-requires-clause-present g c =
    let t = telling g.S.Relays.says c.args.self.now in
    let i = c.loop-q.invariant in
    let n = c.args.self.now.fits in
    let few = few_regular t g.row.N (length-ids g.row.N t.members c.len.ensures.ids) in
    omega (
      arith,
      i.present,
      count_few (λ q. is_present (regular_relay t q)) c.loop-q.yielded,
      n,
      next_short (regular_members t) c.loop-q.yielded c.next.new.self c.loop-q.q-iterator c.in-Some.q g.row.N i.split c.in-Some.ensures.steps few,
    )

pub with-voices-requires-clause-against : goal.with-voices-requires-clause-against
with-voices-requires-clause-against g c =
    let t = telling g.S.Relays.says c.args.self.now in
    let i = c.loop-q.invariant in
    let n = c.args.self.now.fits in
    let few = few_regular t g.row.N (length-ids g.row.N t.members c.len.ensures.ids) in
    omega (
      arith,
      i.against,
      count_few (λ q. disagrees g.V.PartialEq.eq (slice_index_or t.told c.args.i (Fault 0)) (regular_relay t q)) c.loop-q.yielded,
      n,
      next_short (regular_members t) c.loop-q.yielded c.next.new.self c.loop-q.q-iterator c.in-Some.q g.row.N i.split c.in-Some.ensures.steps few,
    )

pub loop-q-preserved : goal.loop-q-preserved
loop-q-preserved g c =
    let t = telling g.S.Relays.says c.args.self.now in
    let i = c.loop-q.invariant in
    let q : ℕ = c.in-Some.q in
    let ys : List ℕ = c.loop-q.yielded in
    let relay = c.passed-relay.ensures ∙ ap (own_term (ear (direct_world t) q)) c.root-root.ensures in
    let expected = c.wrap-expected.ensures ∙ ap wrapped c.value_at.ensures in
    let p : bit (is_present c.passed-relay.result) ≡ bit (is_present (regular_relay t q)) = ap (λ r. bit (is_present r)) relay in
    let d : bit (is_present c.passed-relay.result && not (same g.V.PartialEq.eq c.passed-relay.result c.wrap-expected.result))
    ≡ bit (disagrees g.V.PartialEq.eq (slice_index_or t.told c.args.i (Fault 0)) (regular_relay t q)) =
    ap₂ (λ r x. bit (is_present r && not (same g.V.PartialEq.eq r x))) relay expected
    in
    record {
      can = tt;
      ends = tt;
      split = split_more (regular_members t) ys c.next.new.self c.loop-q.q-iterator q i.split c.in-Some.ensures.steps;
      present = omega (arith, c.with-voices.ensures.present, i.present, p, count-more (λ k. is_present (regular_relay t k)) ys q);
      against = omega (arith, c.with-voices.ensures.against, i.against, d, count-more (λ k. disagrees g.V.PartialEq.eq (slice_index_or t.told c.args.i (Fault 0)) (regular_relay t k)) ys q);
    }

pub returns : goal.returns
returns g c =
    let t = telling g.S.Relays.says c.args.self.now in
    let i = c.loop-q.invariant in
    let all = sym (split_all (regular_members t) c.loop-q.yielded c.loop-q.q-iterator i.split c.in-None.ensures.steps.0) in
    record {
      present = i.present ∙ ap (count (λ k. is_present (regular_relay t k))) all;
      against = i.against ∙ ap (count (λ k. disagrees g.V.PartialEq.eq (slice_index_or t.told c.args.i (Fault 0)) (regular_relay t k))) all;
    }
