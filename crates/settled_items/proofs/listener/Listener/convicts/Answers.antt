use Rattle.std.proofs.Common.{ℕ, ◌≡◌, ◌<◌, ◌≤◌, ◌==◌, true, false, not, List, [], ◌∷◌, ◌++◌, length, refl, sym, ap, ◌∙◌, inl, inr, arith, eqb-true, eq-eqb}
use Rattle.std.proofs.lemmas.Bool.{or_cases, or_parts, or_from, or_left}
use Rattle.node_grid.specs.NodeSet.{has_id, IsIdSet}
use Rattle.node_grid.specs.NodeSetLaws.{length-ids}
use Rattle.node_grid.specs.ListFacts.{split_all}
use Rattle.node_grid.specs.SetFacts.{count_all, member-lt}
use Rattle.omh_paths.specs.Paths.{outside}
use Rattle.omh_paths.specs.Facts.{next_outside}
use Rattle.odd_relays.proofs.ChainLaws.{left_out}
use Rattle.settled_items.proofs.listener.Listener.convicts.Goals as goal

two : (root path : List ℕ) (c i : ℕ) → root ≡ c ∷ [] → path ≡ root ++ i ∷ [] → path ≡ c ∷ i ∷ []
two root path c i a b = b ∙ ap (λ (p : List ℕ). p ++ i ∷ []) a

low_two : (n c i : ℕ) (path : List ℕ) → c < n → i < n → path ≡ c ∷ i ∷ [] → (q : ℕ) → has_id path q ≡ true → q < n
low_two n c i path lc li is q on = elim (or_cases (c == q) _ (ap (λ (p : List ℕ). has_id p q) (sym is) ∙ on)) [
  | inl here ↦ let e : c ≡ q = eqb-true c q here in omega arith
  | inr later ↦ elim (or_cases (i == q) _ later) [
    | inl here ↦ let e : i ≡ q = eqb-true i q here in omega arith
    | inr none ↦ absurd (cc)
  ]
]

few_others : (n : ℕ) (members : List ℕ) (c i k : ℕ) → n ≤ 16 → IsIdSet n members → has_id members c ≡ true → k ≡ length (outside members (c ∷ i ∷ [])) → k ≤ 15
few_others n members c i k capacity ids on is =
    let off : not (has_id (c ∷ i ∷ []) c) ≡ false = ap not (or_left (c == c) (has_id (i ∷ []) c) (eq-eqb c c refl)) in
    let l = left_out (λ q. true) (λ q. not (has_id (c ∷ i ∷ []) q)) members c on off in
    omega (arith, count_all members, count_all (outside members (c ∷ i ∷ [])), capacity, length-ids n members ids)

off_root : (members root : List ℕ) (c i q : ℕ) → root ≡ c ∷ [] → has_id (c ∷ i ∷ []) q ≡ false → has_id root q ≡ false
off_root members root c i q is off = ap (λ (p : List ℕ). has_id p q) is ∙ or_from _ _ (or_parts _ _ off).0 refl

others_are : (members path all : List ℕ) (c i : ℕ) → path ≡ c ∷ i ∷ [] → all ≡ outside members path → all ≡ outside members (c ∷ i ∷ [])
others_are members path all c i a b = b ∙ ap (outside members) a

pub outside-requires : goal.outside-requires
outside-requires g c = (
  omega arith,
  low_two g.row.N c.args.commander c.args.self.now.me c.then.result (member-lt g.row.N c.args.self.now.members c.args.commander c.len.ensures.ids c.requires.member) c.requires.node (two c.root-root.result c.then.result c.args.commander c.args.self.now.me c.root-root.ensures c.then.ensures),
)

pub then-requires-in-loop-q-clause-off : goal.then-requires-in-loop-q-clause-off
then-requires-in-loop-q-clause-off g c =
    off_root c.args.self.now.members c.root-root.result c.args.commander c.args.self.now.me c.in-Some.q c.root-root.ensures
    (next_outside c.args.self.now.members (c.args.commander ∷ c.args.self.now.me ∷ []) c.loop-q.yielded c.next.new.self c.loop-q.q-iterator c.in-Some.q c.loop-q.invariant.split c.in-Some.ensures.steps).1

pub convict_by-requires-clause-few : goal.convict_by-requires-clause-few
convict_by-requires-clause-few g c =
    few_others g.row.N c.args.self.now.members c.args.commander c.args.self.now.me c.loop-q.end c.args.self.now.fits c.len.ensures.ids c.requires.member
    (c.loop-q.invariant.end ∙ ap length (sym (split_all (outside c.args.self.now.members (c.args.commander ∷ c.args.self.now.me ∷ [])) c.loop-q.yielded c.loop-q.q-iterator c.loop-q.invariant.split c.in-None.ensures.steps.0)))
