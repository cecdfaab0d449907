use Rattle.std.proofs.Common.{ℕ, suc, ◌≡◌, ◌<◌, ◌≤◌, ◌+◌, ◌-◌, ◌*◌, length, refl, ap, ◌∙◌, arith, lit<, mul-le-mul}
use Rattle.node_grid.specs.SetFacts.{member-lt}
use Rattle.omh_paths.specs.Paths.{outside, path_count, index_in}
use Rattle.omh_paths.specs.PathLists.{index_in-lt}
use Rattle.omh_paths.specs.MemberLaws.{Distinct-ids}
use Rattle.omh.proofs.Folding.{halfway_start, halfway_end}
use Rattle.omh.specs.Facts.{length-settled}
use Rattle.settled_paths.specs.Levels.{level_at, ear_in}
use Rattle.settled_paths.proofs.Places.{level_within, level_at-le, term_place}
use Rattle.settled_paths.proofs.Folds.{shorter_more}
use Rattle.settled_paths.proofs.exchange.Exchange.settle_shorter.Goals as goal

pub loop-k-init : goal.loop-k-init
loop-k-init g c =
    let s = c.args.self.now in
    record {
      work = refl;
      half = λ full h own longer. halfway_start g.V.PartialEq.eq (ear_in s.rounds s.members c.args.i full h) (index_in s.members s.commander) c.args.relays (c.args.relays + 1) c.args.work.now (omega arith) longer;
    }

pub own_term-own-requires : goal.own_term-own-requires
own_term-own-requires g c =
    let s = c.args.self.now in
    let x = c.requires.exchange in
    let t = term_place g.row.N s.rounds s.members s.commander c.args.relays c.loop-k.k c.len.result c.saturating_sub-width.result c.level-level.result c.path-path.result x x.members_ok (omega (arith, c.requires.shorter)) c.level-level.ensures c.loop-k-test.true
    c.len.ensures.count c.saturating_sub-width.ensures c.path-path.ensures.path in
    let up = level_at-le (length s.members - 1) (suc (suc c.args.relays)) (s.rounds + 1) (omega (arith, c.requires.shorter)) in
    (lit< tt, ((λ q on. member-lt g.row.N s.members q x.members_ok (c.path-path.ensures.within q on)), omega (arith, t.terms, t.many, up, c.requires.laid)))

pub settle_path-requires : goal.settle_path-requires
settle_path-requires g c =
    let s = c.args.self.now in
    let x = c.requires.exchange in
    let t = term_place g.row.N s.rounds s.members s.commander c.args.relays c.loop-k.k c.len.result c.saturating_sub-width.result c.level-level.result c.path-path.result x x.members_ok (omega (arith, c.requires.shorter)) c.level-level.ensures c.loop-k-test.true
    c.len.ensures.count c.saturating_sub-width.ensures c.path-path.ensures.path in
    let up = level_at-le (length s.members - 1) (suc (suc c.args.relays)) s.rounds (omega (arith, c.requires.shorter)) in
    let after : level_at (length s.members - 1) (suc (suc c.args.relays)) ≡ level_at (length s.members - 1) (suc c.args.relays) + path_count (length s.members - 1) (suc c.args.relays) = refl in
    let room : path_count (length s.members - 1) (suc c.args.relays) ≤ length c.loop-k.work = omega (arith, up, after, c.requires.work, c.loop-k.invariant.work) in
    let low = level_within (length s.members - 1) c.args.relays c.loop-k.k s.rounds t.inside (omega (arith, c.requires.shorter)) in
    let here : c.loop-k.k < length c.loop-k.work = omega (arith, low, c.requires.work, c.loop-k.invariant.work) in
    let same = ap (λ (n : ℕ). c.loop-k.k * n) t.many in (
      lit< tt,
      (
        (λ q on. member-lt g.row.N s.members q x.members_ok (c.path-path.ensures.within q on)),
        (omega (arith, t.terms_few, t.many, same, room), here),
      ),
    )

pub loop-k-preserved : goal.loop-k-preserved
loop-k-preserved g c =
    let s = c.args.self.now in
    let x = c.requires.exchange in
    let t = term_place g.row.N s.rounds s.members s.commander c.args.relays c.loop-k.k c.len.result c.saturating_sub-width.result c.level-level.result c.path-path.result x x.members_ok (omega (arith, c.requires.shorter)) c.level-level.ensures c.loop-k-test.true
    c.len.ensures.count c.saturating_sub-width.ensures c.path-path.ensures.path in
    let i = c.loop-k.invariant in
    let up = level_at-le (length s.members - 1) (suc (suc c.args.relays)) s.rounds (omega (arith, c.requires.shorter)) in
    let after : level_at (length s.members - 1) (suc (suc c.args.relays)) ≡ level_at (length s.members - 1) (suc c.args.relays) + path_count (length s.members - 1) (suc c.args.relays) = refl in
    let room : path_count (length s.members - 1) (suc c.args.relays) ≤ length c.loop-k.work = omega (arith, up, after, c.requires.work, c.loop-k.invariant.work) in
    let low = level_within (length s.members - 1) c.args.relays c.loop-k.k s.rounds t.inside (omega (arith, c.requires.shorter)) in
    let here : c.loop-k.k < length c.loop-k.work = omega (arith, low, c.requires.work, c.loop-k.invariant.work) in
    record {
      work = ap length c.settle_path.ensures ∙ length-settled g.V.PartialEq.eq (outside s.members c.path-path.result) c.args.i c.loop-k.k (length (outside s.members c.path-path.result)) c.own_term-own.result c.loop-k.work ∙ i.work;
      half = λ full h own longer.
          shorter_more g.V.PartialEq.eq (ear_in s.rounds s.members c.args.i full h) (index_in s.members s.commander) c.args.relays c.loop-k.k c.saturating_sub-width.result (c.level-level.result.begins + c.level-level.result.paths) c.path-path.result
          c.args.laid.now c.loop-k.work c.settle_path.new.work c.own_term-own.result (Distinct-ids g.row.N s.members x.members_ok) (index_in-lt s.members s.commander x.member_ok) (omega (arith, c.requires.shorter)) own (i.half full h own longer)
          t.inside room here t.width_is t.next_is t.path_is c.own_term-own.ensures c.settle_path.ensures;
    }

pub level-level-requires : goal.level-level-requires
level-level-requires g c = (lit< tt, (c.requires.exchange, omega (arith, c.requires.shorter)))

pub path-path-requires : goal.path-path-requires
path-path-requires g c = (lit< tt, (c.requires.exchange, (omega (arith, c.requires.shorter), (c.level-level.ensures, c.loop-k-test.true))))

pub overflow_add-next : goal.overflow_add-next
overflow_add-next g c = omega (arith, c.level-level.ensures.small, c.level-level.ensures.few)

pub overflow_mul-k : goal.overflow_mul-k
overflow_mul-k g c =
    let few : c.loop-k.k ≤ 65536 = omega (arith, c.loop-k-test.true, c.level-level.ensures.few) in
    let short : c.saturating_sub-width.result ≤ 256 = omega (arith, c.saturating_sub-width.type_inv) in
    let m : c.loop-k.k * c.saturating_sub-width.result ≤ 65536 * 256 = mul-le-mul few short in
    omega (arith, m)

pub returns-clause-settled : goal.returns-clause-settled
returns-clause-settled g c = λ full h own longer.
    let s = c.args.self.now in
    halfway_end g.V.PartialEq.eq (ear_in s.rounds s.members c.args.i full h) (index_in s.members s.commander) c.args.relays c.loop-k.k c.loop-k.work
    (omega (arith, c.level-level.ensures.paths_are, c.loop-k-test.false)) (c.loop-k.invariant.half full h own longer)
