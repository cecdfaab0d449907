use Rattle.std.proofs.Common.{◌≡◌, ◌+◌, ◌-◌, ◌==◌, true, ℕ, List, length, slice_index_or, false, refl, ap, ◌∙◌, arith, ne_eqb}
use Rattle.std.proofs.lemmas.Bool.{or_from}
use Rattle.node_grid.specs.SetFacts.{off_apart}
use Rattle.odd_relays.proofs.Cutting.{chain_root}
use Rattle.node_grid.specs.NodeSet.{has_id}
use Rattle.omh_paths.specs.MemberLaws.{Distinct-ids}
use Rattle.omh_paths.specs.declared.wrapped.Wrapped.TheVariants.{Fault}
use Rattle.odd_relays.specs.Chains.{chain_within}
use Rattle.odd_relays.specs.Telling.{telling}
use Rattle.odd_relays.specs.Direct.{direct_world}
use Rattle.odd_relays.proofs.Direct.{direct_settles}
use Rattle.odd_relays.proofs.item.Item.settle_at.Goals as goal

pub settle_chain-requires : goal.settle_chain-requires
settle_chain-requires g c =
    let t = telling g.S.Relays.says c.args.self.now in
    let long = ap length c.root.ensures in
    let chain = chain_root t c.root.result (Distinct-ids g.row.N t.members c.len.ensures.ids) c.args.self.now.member c.root.ensures in
    let off : (i : ℕ) → has_id c.args.receivers.now i ≡ true → has_id c.root.result i ≡ false = λ i on. ap (λ (s : List ℕ). has_id s i) c.root.ensures ∙ or_from (t.commander == i) false (ne_eqb t.commander i (off_apart c.args.receivers.now t.commander i c.requires.others on)) refl in (
      omega arith,
      (
        omega arith,
        (
          omega (arith, long, c.requires.room, c.args.self.now.short),
          (c.requires.few, (chain, off)),
        ),
      ),
    )

pub returns-clause-settled : goal.returns-clause-settled
returns-clause-settled g c =
    let t = telling g.S.Relays.says c.args.self.now in
    let w = direct_world t in
    let e : t.rounds + 1 - length c.root.result ≡ t.rounds = omega (arith, ap length c.root.ensures) in
    λ i on.
    let first : i ≡ 0 + i = omega arith in
    ap (λ (k : ℕ). slice_index_or c.settle_chain.new.work k (Fault 0)) first
    ∙ c.settle_chain.ensures.settled i on
    ∙ ap (λ (n : ℕ). chain_within g.V.PartialEq.eq w t.odd i n c.root.result) e
    ∙ ap (chain_within g.V.PartialEq.eq w t.odd i t.rounds) c.root.ensures
    ∙ direct_settles t g.V.PartialEq.eq g.met.V.Exact.exact (Distinct-ids g.row.N t.members c.len.ensures.ids) c.requires.few c.args.self.now.member i (off_apart c.args.receivers.now t.commander i c.requires.others on)
