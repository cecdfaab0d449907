use Rattle.std.proofs.Common.{ℕ, suc, ◌≤◌, ◌+◌, ◌-◌, ◌*◌, length, ap, ◌∙◌, arith}
use Rattle.std.proofs.lemmas.List.{length-set, length-take-le, length-drop}
use Rattle.std.specs.Prelude.{drop}
use Rattle.node_grid.specs.SetFacts.{member-lt}
use Rattle.omh_paths.specs.Paths.{index_in}
use Rattle.omh_paths.specs.PathLists.{index_in-lt}
use Rattle.omh_paths.specs.MemberLaws.{Distinct-ids}
use Rattle.settled_paths.specs.Levels.{ear_in}
use Rattle.settled_paths.proofs.Places.{level_within, level_at-le, term_place}
use Rattle.settled_paths.proofs.Folds.{longest_more}
use Rattle.settled_paths.proofs.exchange.Exchange.settle_level.Goals as goal

pub part-requires : goal.part-requires
part-requires g c =
    let s = c.args.self.now in
    let x = c.requires.exchange in
    let t = term_place g.row.N s.rounds s.members s.commander (s.rounds - 1) c.loop-k.k c.len.result c.saturating_sub-width.result c.level-level.result c.path-path.result x x.members_ok (omega (arith, c.requires.room.relayed)) c.level-level.ensures c.loop-k-test.true
    c.len.ensures.count c.saturating_sub-width.ensures c.path-path.ensures.path in
    let up = level_at-le (length s.members - 1) (suc (suc (s.rounds - 1))) (s.rounds + 1) (omega (arith, c.requires.room.relayed)) in
    let room : c.level-level.result.begins + c.level-level.result.paths + c.loop-k.k * c.saturating_sub-width.result + c.saturating_sub-width.result ≤ length c.args.laid.now = omega (arith, t.terms, up, c.requires.room.laid_ok) in
    room

pub lay_terms-requires : goal.lay_terms-requires
lay_terms-requires g c =
    let s = c.args.self.now in
    let x = c.requires.exchange in
    let t = term_place g.row.N s.rounds s.members s.commander (s.rounds - 1) c.loop-k.k c.len.result c.saturating_sub-width.result c.level-level.result c.path-path.result x x.members_ok (omega (arith, c.requires.room.relayed)) c.level-level.ensures c.loop-k-test.true
    c.len.ensures.count c.saturating_sub-width.ensures c.path-path.ensures.path in
    let up = level_at-le (length s.members - 1) (suc (suc (s.rounds - 1))) (s.rounds + 1) (omega (arith, c.requires.room.relayed)) in
    let room : c.level-level.result.begins + c.level-level.result.paths + c.loop-k.k * c.saturating_sub-width.result + c.saturating_sub-width.result ≤ length c.args.laid.now = omega (arith, t.terms, up, c.requires.room.laid_ok) in
    let from : ℕ = c.level-level.result.begins + c.level-level.result.paths + c.loop-k.k * c.saturating_sub-width.result in
    let long = ap length c.part.ensures ∙ length-take-le c.saturating_sub-width.result (drop from c.args.laid.now) (omega (arith, length-drop from c.args.laid.now, room)) in (
      omega arith,
      (
        λ q on. member-lt g.row.N s.members q x.members_ok (c.path-path.ensures.within q on),
        (omega (arith, c.path-path.ensures.long, c.requires.room.relayed, x.rounds_ok), (omega (arith, long, t.many), omega (arith, t.many, t.narrow, c.loop-k.invariant.terms, c.requires.room.terms_ok))),
      ),
    )

pub settled_from_terms-settled-requires : goal.settled_from_terms-settled-requires
settled_from_terms-settled-requires g c =
    let s = c.args.self.now in
    let x = c.requires.exchange in
    let t = term_place g.row.N s.rounds s.members s.commander (s.rounds - 1) c.loop-k.k c.len.result c.saturating_sub-width.result c.level-level.result c.path-path.result x x.members_ok (omega (arith, c.requires.room.relayed)) c.level-level.ensures c.loop-k-test.true
    c.len.ensures.count c.saturating_sub-width.ensures c.path-path.ensures.path in
    omega (arith, t.narrow, c.lay_terms.ensures.room, c.loop-k.invariant.terms, c.requires.room.terms_ok)

pub set_value-requires : goal.set_value-requires
set_value-requires g c =
    let s = c.args.self.now in
    let x = c.requires.exchange in
    let t = term_place g.row.N s.rounds s.members s.commander (s.rounds - 1) c.loop-k.k c.len.result c.saturating_sub-width.result c.level-level.result c.path-path.result x x.members_ok (omega (arith, c.requires.room.relayed)) c.level-level.ensures c.loop-k-test.true
    c.len.ensures.count c.saturating_sub-width.ensures c.path-path.ensures.path in
    let low = level_within (length s.members - 1) (s.rounds - 1) c.loop-k.k s.rounds t.inside (omega (arith, c.requires.room.relayed)) in
    omega (arith, low, c.loop-k.invariant.longest, c.requires.room.longest_ok)

pub loop-k-preserved : goal.loop-k-preserved
loop-k-preserved g c =
    let s = c.args.self.now in
    let x = c.requires.exchange in
    let t = term_place g.row.N s.rounds s.members s.commander (s.rounds - 1) c.loop-k.k c.len.result c.saturating_sub-width.result c.level-level.result c.path-path.result x x.members_ok (omega (arith, c.requires.room.relayed)) c.level-level.ensures c.loop-k-test.true
    c.len.ensures.count c.saturating_sub-width.ensures c.path-path.ensures.path in
    let i = c.loop-k.invariant in
    let place : ℕ = index_in s.members s.commander in
    let last : ℕ = s.rounds - 1 in
    let low = level_within (length s.members - 1) last c.loop-k.k s.rounds t.inside (omega (arith, c.requires.room.relayed)) in
    record {
      longest = ap length c.set_value.ensures ∙ length-set c.loop-k.longest c.loop-k.k c.settled_from_terms-settled.result ∙ i.longest;
      terms = c.lay_terms.ensures.room ∙ i.terms;
      done = λ me full h lasts k l.
          longest_more g.V.PartialEq.eq (ear_in s.rounds s.members me full h) place c.args.i last c.loop-k.k c.saturating_sub-width.result (c.level-level.result.begins + c.level-level.result.paths) (g.T.Touched.says c.args.touched.now)
          c.path-path.result c.args.laid.now c.part.result.now c.lay_terms.new.terms c.loop-k.longest c.set_value.new.values c.settled_from_terms-settled.result
          (Distinct-ids g.row.N s.members x.members_ok) (index_in-lt s.members s.commander x.member_ok) (omega (arith, c.requires.room.relayed)) lasts t.inside t.width_is t.next_is t.path_is c.part.ensures
          (omega (arith, t.narrow, c.lay_terms.ensures.room, i.terms, c.requires.room.terms_ok)) (omega (arith, low, i.longest, c.requires.room.longest_ok)) c.lay_terms.ensures.each c.settled_from_terms-settled.ensures c.set_value.ensures
          (i.done me full h lasts) k l;
    }

pub returns-clause-settled : goal.returns-clause-settled
returns-clause-settled g c = λ me full h lasts k l. c.loop-k.invariant.done me full h lasts k (omega (arith, l, c.level-level.ensures.paths_are, c.loop-k-test.false))

pub returns-clause-longest : goal.returns-clause-longest
returns-clause-longest g c = c.loop-k.invariant.longest

pub returns-clause-terms : goal.returns-clause-terms
returns-clause-terms g c = c.loop-k.invariant.terms
