-- What is asked of a phase, by what is laid down.
use Rattle.std.proofs.Common.{ℕ, ◌≡◌, ◌≢◌, ◌<◌, ◌≤◌, ◌+◌, ◌*◌, ◌==◌, ◌&&◌, Bool, true, false, List, [], ◌∷◌, sym, ap, ◌∙◌, inl, inr, arith, eq-eqb, ne_eqb, slice_index_or}
use Rattle.std.proofs.lemmas.Bool.{cases_Bool, cases_eq, cond-true, cond-false}
use Rattle.std.proofs.lemmas.Nat.{mul-add-lt}
use Rattle.node_grid.specs.NodeSet.{has_id}
use Rattle.omh_paths.specs.declared.wrapped.Wrapped.{Wrapped}
use Rattle.omh_paths.specs.declared.wrapped.Wrapped.TheVariants.{Plain, Fault}
use Rattle.omh.specs.Omh.{settled_from, settled_at}
use Rattle.equivocation.specs.Conviction.{convicts}
use Rattle.protocol.specs.Arrival.{ItemForm}
use Rattle.protocol.specs.FurtherKinds.{convicts_member}
use Rattle.protocol.specs.Run.{System}
use Rattle.heard_links.specs.declared.phase.Phase.{Phase}
use Rattle.heard_links.specs.Talks.{members_at}
use Rattle.heard_links.specs.Hearing.{item_of}
use Rattle.heard_links.specs.Passing.{own_in}
use Rattle.heard_links.proofs.Sets.{member_low, node_low, in_use}
use Rattle.item_phase.specs.declared.item_phase.ItemPhase.{ItemPhase}
use Rattle.item_phase.specs.Settled.{listener, IsSettled}

-- a place by member and node
pub place_low : (n c i : ℕ) → c < n → i < n → c * n + i < n * n
place_low n c i low_c low_i = mul-add-lt c n i n low_c low_i

module _ {V : Type 0} {N : ℕ} (eq : V → V → Bool) (form : ItemForm V) (first : ℕ → ℕ) (tells : System → ℕ → ℕ → V) (x : Phase N) (s : ItemPhase V N) (is : IsSettled eq form first tells x s)
    (i : ℕ) (on : has_id x.awake i ≡ true) where
  pub low_i : i < N
  low_i = node_low x is.heard.set i (is.heard.set.awake i on)

  pub low_c : (c : ℕ) → has_id (members_at x i) c ≡ true → c < N
  low_c c member = member_low x is.heard.set i c member

  abbrev own : Wrapped V
  own = Plain (item_of s.links i)

  -- the node's own item, or one that is settled as it is said
  pub as_own : (c : ℕ) → c ≡ i → own_in x s.links c ≡ settled_from eq (listener form x s.links i) own c
  as_own c e = ap (own_in x s.links) e ∙ sym (cond-true (c == i) (own_in x s.links i) (settled_at eq (listener form x s.links i) (c ∷ [])) (eq-eqb c i e))

  pub as_said : (c : ℕ) → has_id (members_at x i) c ≡ true → has_id s.seen.plain c ≡ true → own_in x s.links c ≡ settled_from eq (listener form x s.links i) own c
  as_said c member plain = elim (cases_eq c i) [
    | inl e ↦ as_own c e
    | inr ne ↦ (is.plain i c on member ne plain).settled ∙ sym (cond-false (c == i) (own_in x s.links i) (settled_at eq (listener form x s.links i) (c ∷ [])) (ne_eqb c i ne))
  ]

  -- another one
  pub as_laid : (c : ℕ) → has_id (members_at x i) c ≡ true → c ≢ i → has_id s.seen.plain c ≡ false → slice_index_or s.each.items (c * N + i) (Fault 0) ≡ settled_from eq (listener form x s.links i) own c
  as_laid c member ne off =
      (is.laid i c on member ne off).settled ∙ sym (cond-false (c == i) (own_in x s.links i) (settled_at eq (listener form x s.links i) (c ∷ [])) (ne_eqb c i ne))

  -- whom it convicts
  pub against_stranger : (c : ℕ) → has_id (members_at x i) c ≡ false → false ≡ convicts_member eq (listener form x s.links i) c
  against_stranger c off = sym (ap (λ (b : Bool). b && convicts eq (listener form x s.links i) c) off)

  member_is : (c : ℕ) → has_id (members_at x i) c ≡ true → convicts eq (listener form x s.links i) c ≡ convicts_member eq (listener form x s.links i) c
  member_is c member = sym (ap (λ (b : Bool). b && convicts eq (listener form x s.links i) c) member)

  pub against_plain : (c : ℕ) → has_id (members_at x i) c ≡ true → c ≢ i → has_id s.seen.plain c ≡ true → false ≡ convicts_member eq (listener form x s.links i) c
  against_plain c member ne plain = sym (is.plain i c on member ne plain).spared ∙ member_is c member

  pub against_laid : (c : ℕ) → x.config.now.version ≢ 1 → has_id (members_at x i) c ≡ true → c ≢ i → has_id s.seen.plain c ≡ false
      → has_id (slice_index_or s.convicting c []) i ≡ convicts_member eq (listener form x s.links i) c
  against_laid c two member ne off = (is.laid i c on member ne off).convicted two ∙ member_is c member

-- two nodes with the same members settle an item as it is said
pub alike_said : {V : Type 0} {N : ℕ} (eq : V → V → Bool) (form : ItemForm V) (first : ℕ → ℕ) (tells : System → ℕ → ℕ → V) (x : Phase N) (s : ItemPhase V N) → IsSettled eq form first tells x s
    → (i j c : ℕ) → has_id x.awake i ≡ true → has_id x.awake j ≡ true → members_at x i ≡ members_at x j → has_id (members_at x i) c ≡ true → has_id s.seen.plain c ≡ true
    → settled_from eq (listener form x s.links i) (Plain (item_of s.links i)) c ≡ settled_from eq (listener form x s.links j) (Plain (item_of s.links j)) c
alike_said eq form first tells x s is i j c on_i on_j same member plain =
    sym (as_said eq form first tells x s is i on_i c member plain)
    ∙ as_said eq form first tells x s is j on_j c (ap (λ (ms : List ℕ). has_id ms c) (sym same) ∙ member) plain

-- a node convicts none that isn't in use
pub none_behind : {V : Type 0} {N : ℕ} (eq : V → V → Bool) (form : ItemForm V) (first : ℕ → ℕ) (tells : System → ℕ → ℕ → V) (x : Phase N) (s : ItemPhase V N) → IsSettled eq form first tells x s
    → (i c : ℕ) → has_id x.awake i ≡ true → x.config.now.nodes ≤ c → false ≡ convicts_member eq (listener form x s.links i) c
none_behind eq form first tells x s is i c on high = elim (cases_Bool (has_id (members_at x i) c)) [
  | inl member ↦ let low = in_use x is.heard.set i c member in absurd (omega arith)
  | inr off ↦ against_stranger eq form first tells x s is i on c off
]
