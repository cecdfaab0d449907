use Rattle.std.proofs.Common.{ℕ, suc, ◌≡◌, ◌<◌, ◌+◌, ◌-◌, ◌*◌, length, get_or, refl, sym, ap, ap₂, subst, ◌∙◌, inl, arith}
use Rattle.node_grid.specs.SetFacts.{member-lt}
use Rattle.omh_paths.specs.declared.wrapped.Wrapped.{Wrapped}
use Rattle.omh_paths.specs.declared.wrapped.Wrapped.TheVariants.{Fault}
use Rattle.omh_paths.specs.Paths.{path_count, index_in, outside}
use Rattle.omh_paths.specs.PathLists.{index_in-lt}
use Rattle.omh_paths.specs.MemberLaws.{Distinct-ids}
use Rattle.omh_paths.specs.Facts.{longer_count}
use Rattle.omh.specs.Flat.{relay_path}
use Rattle.omh.specs.Written.{IsSmall}
use Rattle.settled_paths.specs.Passing.{passed}
use Rattle.settled_paths.specs.Levels.{level_value}
use Rattle.settled_paths.proofs.Places.{level_within, level_at-le, term_place}
use Rattle.settled_paths.proofs.Layers.{small_more, layer_more, layer_all, layer_term}
use Rattle.settled_paths.proofs.Untouched.{passes_same}
use Rattle.settled_paths.proofs.exchange.Exchange.lay_level.Goals as goal

pub value_at-passed-requires : goal.value_at-passed-requires
value_at-passed-requires g c =
    let s = c.args.self.now in
    let lv = c.level-level.ensures in
    let low = level_within (length s.members - 1) c.args.relays c.loop-k.k (s.rounds + 1) (omega (arith, lv.paths_are, c.loop-k-test.true)) (omega (arith, c.requires.shorter)) in
    omega (arith, low, lv.begins_are, c.requires.room, c.loop-k.invariant.room)

pub lay_behind-requires : goal.lay_behind-requires
lay_behind-requires g c =
    let s = c.args.self.now in
    let x = c.requires.exchange in
    let t = term_place g.row.N s.rounds s.members s.commander c.args.relays c.loop-k.k c.len.result c.saturating_sub-width.result c.level-level.result c.path-path.result x x.members_ok c.requires.shorter c.level-level.ensures c.loop-k-test.true
    c.len.ensures.count c.saturating_sub-width.ensures c.path-path.ensures.path in
    let value_is : c.value_at-passed.result ≡ level_value s.members c.args.relays c.loop-k.k c.args.laid.now =
    c.value_at-passed.ensures ∙ c.loop-k.invariant.kept (c.level-level.result.begins + c.loop-k.k) (omega (arith, c.loop-k-test.true))
    ∙ ap (λ (n : ℕ). get_or c.args.laid.now (n + c.loop-k.k) (Fault 0)) c.level-level.ensures.begins_are
    in
    let value_small : IsSmall (252 + c.args.relays) c.value_at-passed.result =
    subst (IsSmall (252 + c.args.relays)) (sym value_is) (c.requires.small c.args.relays c.loop-k.k (omega arith) (omega (arith, c.level-level.ensures.paths_are, c.loop-k-test.true)))
    in
    let room = level_at-le (length s.members - 1) (suc (suc c.args.relays)) (s.rounds + 1) (omega (arith, c.requires.shorter)) in (
      omega arith,
      (
        λ q on. member-lt g.row.N s.members q x.members_ok (c.path-path.ensures.within q on),
        (
          small_more (252 + c.args.relays) 254 c.value_at-passed.result (omega (arith, c.requires.shorter, x.rounds_ok)) value_small,
          omega (arith, t.terms, t.many, room, c.requires.room, c.loop-k.invariant.room),
        ),
      ),
    )

pub loop-k-preserved : goal.loop-k-preserved
loop-k-preserved g c =
    let s = c.args.self.now in
    let x = c.requires.exchange in
    let i = c.loop-k.invariant in
    let r : ℕ = c.args.relays in
    let place : ℕ = index_in s.members s.commander in
    let next : ℕ = c.level-level.result.begins + c.level-level.result.paths in
    let w : ℕ = c.saturating_sub-width.result in
    let from : ℕ = next + c.loop-k.k * w in
    let t = term_place g.row.N s.rounds s.members s.commander r c.loop-k.k c.len.result w c.level-level.result c.path-path.result x x.members_ok c.requires.shorter c.level-level.ensures c.loop-k-test.true
    c.len.ensures.count c.saturating_sub-width.ensures c.path-path.ensures.path in
    let value_is : c.value_at-passed.result ≡ level_value s.members c.args.relays c.loop-k.k c.args.laid.now =
    c.value_at-passed.ensures ∙ c.loop-k.invariant.kept (c.level-level.result.begins + c.loop-k.k) (omega (arith, c.loop-k-test.true))
    ∙ ap (λ (n : ℕ). get_or c.args.laid.now (n + c.loop-k.k) (Fault 0)) c.level-level.ensures.begins_are
    in
    let value_small : IsSmall (252 + c.args.relays) c.value_at-passed.result =
    subst (IsSmall (252 + c.args.relays)) (sym value_is) (c.requires.small c.args.relays c.loop-k.k (omega arith) (omega (arith, c.level-level.ensures.paths_are, c.loop-k-test.true)))
    in
    let kept = λ (k : ℕ) (l : k < from). c.lay_behind.ensures.kept k (inl l) in
    let next_small : 252 + r + 1 ≡ 252 + suc r = omega arith in
    record {
      room = c.lay_behind.ensures.room ∙ i.room;
      kept = λ k l. c.lay_behind.ensures.kept k (inl (omega arith)) ∙ i.kept k l;
      few = λ k l. layer_more (λ (n : ℕ) (v : Wrapped g.row.V.Denot). IsSmall (252 + suc r) v) c.loop-k.laid c.lay_behind.new.laid (Fault 0) next c.loop-k.k w from refl i.few kept
          (λ j inside. subst (λ (m : ℕ). IsSmall m (get_or c.lay_behind.new.laid (from + j) (Fault 0))) next_small (c.lay_behind.ensures.few (252 + r) (omega arith) value_small j (omega (arith, t.many)))) k l;
      done = λ own says same laid k l. layer_more (λ (n : ℕ) (v : Wrapped g.row.V.Denot). v ≡ passed s.full own says (relay_path s.members place (suc r) n)) c.loop-k.laid c.lay_behind.new.laid (Fault 0) next c.loop-k.k w from refl (i.done own says same laid) kept
          (λ j inside. layer_term s.full own says s.members c.path-path.result place r c.loop-k.k j w c.value_at-passed.result (get_or c.lay_behind.new.laid (from + j) (Fault 0)) (Distinct-ids g.row.N s.members x.members_ok) (index_in-lt s.members s.commander x.member_ok)
          t.inside inside t.width_is t.path_is (value_is ∙ laid r c.loop-k.k (omega arith) t.inside)
          (c.lay_behind.ensures.each j (omega (arith, t.many)) ∙ passes_same s.full (g.T.Touched.says c.args.touched.now) says c.path-path.result (λ q. sym (same q c.path-path.result c.path-path.ensures.long)) c.value_at-passed.result (get_or (outside s.members c.path-path.result) j 0))) k l;
    }

pub returns-clause-laid : goal.returns-clause-laid
returns-clause-laid g c = λ own says same_said laid.
    let s = c.args.self.now in
    let r : ℕ = c.args.relays in
    let place : ℕ = index_in s.members s.commander in
    let lv = c.level-level.ensures in
    let end : c.loop-k.k ≡ c.level-level.result.paths = omega (arith, c.loop-k-test.false, c.loop-k.auto.k-end) in
    let same : c.loop-k.k * c.saturating_sub-width.result ≡ path_count (length s.members - 1) c.args.relays * (length s.members - suc c.args.relays) =
    ap₂ (λ (a b : ℕ). a * b) (end ∙ lv.paths_are) (omega (arith, c.saturating_sub-width.ensures, c.len.ensures.count))
    in
    let count = longer_count (length s.members) c.args.relays in
    layer_all (λ (n k : ℕ) (v : Wrapped g.row.V.Denot). v ≡ passed s.full own says (relay_path s.members place n k)) s.members r (c.level-level.result.begins + c.level-level.result.paths) c.args.laid.now c.loop-k.laid
    (omega (arith, lv.begins_are, lv.paths_are)) laid c.loop-k.invariant.kept
    (λ k l. c.loop-k.invariant.done own says same_said laid k (omega (arith, same, count)))

pub returns-clause-small : goal.returns-clause-small
returns-clause-small g c =
    let s = c.args.self.now in
    let lv = c.level-level.ensures in
    let end : c.loop-k.k ≡ c.level-level.result.paths = omega (arith, c.loop-k-test.false, c.loop-k.auto.k-end) in
    let same : c.loop-k.k * c.saturating_sub-width.result ≡ path_count (length s.members - 1) c.args.relays * (length s.members - suc c.args.relays) =
    ap₂ (λ (a b : ℕ). a * b) (end ∙ lv.paths_are) (omega (arith, c.saturating_sub-width.ensures, c.len.ensures.count))
    in
    let count = longer_count (length s.members) c.args.relays in
    layer_all (λ (n k : ℕ) (v : Wrapped g.row.V.Denot). IsSmall (252 + n) v) s.members c.args.relays (c.level-level.result.begins + c.level-level.result.paths) c.args.laid.now c.loop-k.laid
    (omega (arith, lv.begins_are, lv.paths_are)) c.requires.small c.loop-k.invariant.kept
    (λ k l. c.loop-k.invariant.few k (omega (arith, same, count)))
