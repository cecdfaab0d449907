use Rattle.std.proofs.Common.{◌≡◌, ◌≢◌, ◌<◌, ◌+◌, ◌-◌, ◌*◌, ℕ, length, sym, ◌∙◌, arith}
use Rattle.std.proofs.lemmas.List.Elements.{All-get_or}
use Rattle.node_grid.specs.Count.{Distinct}
use Rattle.omh_paths.specs.declared.wrapped.Wrapped.{Wrapped}
use Rattle.omh_paths.specs.declared.wrapped.Wrapped.TheVariants.{Fault}
use Rattle.omh_paths.specs.Paths.{path_count}
use Rattle.omh_paths.specs.MemberLaws.{Distinct-ids}
use Rattle.omh.specs.Flat.{flat_ear, section_at}
use Rattle.omh.proofs.Folding.{step_of, halfway_start, halfway_end, heard_is, loop_more, room_more}
use Rattle.omh.proofs.station.Station.settle_shorter.Goals as goal

pub loop-k-init : goal.loop-k-init
loop-k-init g c = record {
  halfway = halfway_start g.V.PartialEq.eq (flat_ear c.args.self.now.nodes c.args.self.now.rounds c.args.self.now.members c.args.self.now.me c.args.self.now.full c.args.heard.now) c.args.commander c.args.relays (c.args.relays + 1) c.args.work.now (omega arith) c.requires.longer;
  room = c.requires.room;
}

pub overflow_add-branch : goal.overflow_add-branch
overflow_add-branch g c = let b = c.branch-branch.ensures in omega (arith, b.begins_is, b.small, c.loop-k-test.true)

pub unrank-path-requires : goal.unrank-path-requires
unrank-path-requires g c =
    let b = c.branch-branch.ensures in (
      omega arith,
      (omega arith, (omega (arith, c.requires.shorter.shorter, c.requires.station.rounds_ok), omega (arith, b.listed, c.loop-k-test.true))),
    )

pub overflow_add-branch-in-loop-k : goal.overflow_add-branch-in-loop-k
overflow_add-branch-in-loop-k g c = let b = c.branch-branch.ensures in omega (arith, b.small, c.loop-k-test.true)

pub offset_bounds-heard-branch : goal.offset_bounds-heard-branch
offset_bounds-heard-branch g c = let b = c.branch-branch.ensures in omega (arith, b.within, c.requires.room.flat_ok, c.loop-k-test.true)

pub bounds-heard-branch : goal.bounds-heard-branch
bounds-heard-branch g c = let b = c.branch-branch.ensures in omega (arith, b.within, c.requires.room.flat_ok, c.loop-k-test.true)

pub own_term-own-requires : goal.own_term-own-requires
own_term-own-requires g c =
    let b = c.branch-branch.ensures in
    let heard = c.args.heard.now in
    let low : c.branch-branch.result.begins + c.loop-k.k < length heard = omega (arith, b.within, c.requires.room.flat_ok, c.loop-k-test.true) in
    (omega arith, λ e. All-get_or (λ (x : Wrapped g.row.V.Denot). x ≢ Fault 255) heard (c.branch-branch.result.begins + c.loop-k.k) c.index-heard-branch.result low c.requires.room.known (sym c.index-heard-branch.is ∙ e))

pub settle_path-requires : goal.settle_path-requires
settle_path-requires g c =
    let a = c.args in
    let s = a.self.now in
    let step = step_of g.row.N s.nodes s.rounds s.members c.unrank-path.result s.count a.commander a.relays c.loop-k.k c.saturating_sub-width.result c.branch-branch.result a.heard.now c.loop-k.work c.requires.station c.loop-k.invariant.room
    c.requires.shorter.member c.requires.shorter.shorter c.branch-branch.ensures c.loop-k-test.true c.unrank-path.ensures.path c.saturating_sub-width.ensures in (
      omega arith,
      (c.requires.station, (c.unrank-path.ensures.within, (step.width_at, record { within = step.terms; place = step.here; small = step.terms_few }))),
    )

pub loop-k-preserved : goal.loop-k-preserved
loop-k-preserved g c =
    let a = c.args in
    let s = a.self.now in
    let b = c.branch-branch.ensures in
    let step = step_of g.row.N s.nodes s.rounds s.members c.unrank-path.result s.count a.commander a.relays c.loop-k.k c.saturating_sub-width.result c.branch-branch.result a.heard.now c.loop-k.work c.requires.station c.loop-k.invariant.room
    c.requires.shorter.member c.requires.shorter.shorter c.branch-branch.ensures c.loop-k-test.true c.unrank-path.ensures.path c.saturating_sub-width.ensures in
    let d : Distinct s.members = Distinct-ids g.row.N s.members c.requires.station.members_ok in
    let at : ℕ = c.branch-branch.result.begins + c.loop-k.k in
    let at-is : at ≡ section_at s.nodes a.relays + (a.commander * path_count (length s.members - 1) a.relays + c.loop-k.k) = omega (arith, b.begins_is, b.first_is) in
    let low : at < length a.heard.now = omega (arith, b.within, c.requires.room.flat_ok, c.loop-k-test.true) in
    let heard = heard_is s.nodes s.members a.heard.now c.unrank-path.result a.commander a.relays c.loop-k.k at c.index-heard-branch.result d c.requires.shorter.member step.inside step.path_at at-is low c.index-heard-branch.is in
    record {
      halfway = loop_more g.V.PartialEq.eq (flat_ear s.nodes s.rounds s.members s.me s.full a.heard.now) a.commander a.relays c.loop-k.k c.unrank-path.result c.saturating_sub-width.result
          c.loop-k.work c.settle_path.new.work c.index-heard-branch.result c.own_term-own.result d c.requires.shorter.member c.requires.shorter.shorter c.loop-k.invariant.halfway step.inside step.longer step.here
          step.path_at step.width_is heard c.own_term-own.ensures c.settle_path.ensures;
      room = room_more g.V.PartialEq.eq s.nodes s.rounds a.heard.now c.loop-k.work c.settle_path.new.work _ s.me c.loop-k.k c.saturating_sub-width.result c.own_term-own.result c.loop-k.invariant.room c.settle_path.ensures;
    }

pub returns : goal.returns
returns g c =
    let s = c.args.self.now in
    let b = c.branch-branch.ensures in
    halfway_end g.V.PartialEq.eq (flat_ear s.nodes s.rounds s.members s.me s.full c.args.heard.now) c.args.commander c.args.relays c.loop-k.k c.loop-k.work (omega (arith, b.paths_are, c.loop-k-test.false)) c.loop-k.invariant.halfway
