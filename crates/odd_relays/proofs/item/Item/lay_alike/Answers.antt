use Rattle.std.proofs.Common.{ℕ, ◌≡◌, ◌&&◌, Bool, true, false, not, List, sym, ap, ap₂, ◌∙◌, inl, inr, arith, lit<}
use Rattle.std.proofs.lemmas.Bool.{cases_Bool}
use Rattle.node_grid.specs.NodeSet.{has_id, minus_of, common_of}
use Rattle.omh_paths.specs.Paths.{outside}
use Rattle.odd_relays.specs.Telling.{telling}
use Rattle.odd_relays.specs.Direct.{direct_heard}
use Rattle.odd_relays.proofs.Voices.{has_kept}
use Rattle.odd_relays.proofs.item.Item.lay_alike.Goals as goal

-- a Full member outside a path is among those that are asked
voting : (members full path full_ones voters : List ℕ) → full_ones ≡ common_of members full → voters ≡ outside full_ones path
    → (k : ℕ) → has_id members k ≡ true → has_id full k ≡ true → has_id path k ≡ false → has_id voters k ≡ true
voting members full path full_ones voters full_are are k member is_full off =
    ap (λ (s : List ℕ). has_id s k) (are ∙ ap (λ (s : List ℕ). outside s path) full_are)
    ∙ has_kept (λ q. not (has_id path q)) (common_of members full) k
    ∙ ap₂ (λ (a b : Bool). a && not b) (has_kept (λ q. has_id full q) members k ∙ ap₂ (λ (a b : Bool). a && b) member is_full) off

-- what voters heard, and the receivers that aren't among them, all receivers did
heard_by_all : {W : Type 0} (heard : ℕ → W) (v : W) (receivers voters others : List ℕ) → others ≡ minus_of receivers voters
    → ((k : ℕ) → has_id voters k ≡ true → heard k ≡ v) → ((k : ℕ) → has_id others k ≡ true → heard k ≡ v) → (i : ℕ) → has_id receivers i ≡ true → heard i ≡ v
heard_by_all heard v receivers voters others are voted rest i on = elim (cases_Bool (has_id voters i)) [
  | inl votes ↦ voted i votes
  | inr not_one ↦ rest i (ap (λ (s : List ℕ). has_id s i) are ∙ has_kept (λ q. not (has_id voters q)) receivers i ∙ ap₂ (λ (a b : Bool). a && not b) on not_one)
]

pub returns-clause-alike : goal.returns-clause-alike
returns-clause-alike g c = λ yes i k on member full off.
    let x = c.args.self.now.phase in
    let there = voting x.members x.full c.args.path.now c.common.result c.outside-voters.result c.common.ensures c.outside-voters.ensures k member full off in
    c.have_heard.ensures c.if-not-have_heard.false k there
    ∙ sym (heard_by_all (λ (q : ℕ). direct_heard (telling g.S.Relays.says c.args.self.now) q c.args.path.now) c.heard-value.result c.args.receivers.now c.outside-voters.result c.minus-others.result c.minus-others.ensures
    (c.have_heard.ensures c.if-not-have_heard.false) (c.have_heard-2.ensures c.if-not-have_heard-2.false) i on)

pub returns-clause-laid : goal.returns-clause-laid
returns-clause-laid g c = λ yes i on.
    c.fill_from.ensures.laid i on
    ∙ sym (heard_by_all (λ (q : ℕ). direct_heard (telling g.S.Relays.says c.args.self.now) q c.args.path.now) c.heard-value.result c.args.receivers.now c.outside-voters.result c.minus-others.result c.minus-others.ensures
    (c.have_heard.ensures c.if-not-have_heard.false) (c.have_heard-2.ensures c.if-not-have_heard-2.false) i on)

pub fill_from-requires : goal.fill_from-requires
fill_from-requires g c = (lit< tt, omega (arith, c.args.self.now.fits, c.requires.room))

pub heard-value-requires : goal.heard-value-requires
heard-value-requires g c = (lit< tt, c.in-Some.ensures.within)
