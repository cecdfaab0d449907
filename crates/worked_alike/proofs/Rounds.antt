-- The frames of a round that were taken up, one after another in one room.
use Rattle.std.proofs.Common.{ℕ, ◌≡◌, ◌≢◌, ◌<◌, ◌≤◌, ◌+◌, ◌*◌, max, ◌==◌, ◌||◌, true, false, List, [], length, length-set, get_or-set_other, get_or-set_same, sym, ap, ap₂, ◌∙◌, inl, inr, arith, eqb-true, ◌⊎◌, zero, suc}
use Rattle.std.specs.Prelude.{◌-◌, slice_index, slice_set, replicate}
use Rattle.std.proofs.Math.Nat.{mul-le-mul}
use Rattle.std.proofs.lemmas.List.{length-replicate}
use Rattle.std.proofs.lemmas.Bool.{cases_eq, cases_lt, both_ways, or_cases}
use Rattle.node_grid.specs.NodeSet.{has_id, with_id, without_id}
use Rattle.node_grid.specs.NodeSetLaws.{has-with_id, hasnt-filter}
use Rattle.omh_paths.specs.Paths.{path_count}
use Rattle.omh.specs.Heard.{Hearing}
use Rattle.relay_walk.specs.declared.round.Round.{Round}
use Rattle.relay_walk.specs.Walking.{IsWalk}
use Rattle.relay_table.specs.Tabled.{others_in, kept_nodes}

-- frames of so many bytes each were taken up, each at its node's place, of nodes that came
pub record AreTaken (came : List ℕ) (size : ℕ) (round : Round 16) : Type 0 where
  pub long : length round.begins ≡ 16
  pub next : round.next ≡ round.begins
  pub low : (q : ℕ) → has_id round.present q ≡ true → q < 16
  pub came_only : (q : ℕ) → has_id round.present q ≡ true → has_id came q ≡ true
  pub begins : (q : ℕ) → has_id round.present q ≡ true → slice_index round.begins q ≡ q * size

pub none_taken : (came : List ℕ) (size : ℕ) (round : Round 16) → round.begins ≡ replicate 16 0 → round.next ≡ replicate 16 0 → round.present ≡ [] → AreTaken came size round
none_taken came size round begins next none = record {
  long = ap length begins ∙ length-replicate {A = ℕ} 16 0;
  next = next ∙ sym begins;
  low = λ q on. absurd (nobody q on);
  came_only = λ q on. absurd (nobody q on);
  begins = λ q on. absurd (nobody q on);
} where
  nobody : (q : ℕ) → has_id round.present q ≡ true → ⊥
  nobody q on = let e : false ≡ true = sym (ap (λ (s : List ℕ). has_id s q) none) ∙ on in cc

-- who is in a set after one was put
added : (old new : List ℕ) (k q : ℕ) → new ≡ with_id 16 old k → has_id new q ≡ true → (q ≡ k) ⊎ ((q ≢ k) × (has_id old q ≡ true))
added old new k q e is = elim (cases_lt q 16) [
  | inl below ↦ elim (or_cases (q == k) (has_id old q) (sym (has-with_id 16 old k q below) ∙ sym (ap (λ (s : List ℕ). has_id s q) e) ∙ is)) [
    | inl y ↦ inl (eqb-true q k y)
    | inr before ↦ elim (cases_eq q k) [ inl same ↦ inl same | inr ne ↦ inr (ne, before) ]
  ]
  | inr above ↦ absurd (both_ways _ (ap (λ (s : List ℕ). has_id s q) e ∙ hasnt-filter (λ j. (j == k) || has_id old j) 16 q above) is)
]

-- one of these nodes came, as all before it
pub came_more : (others old new : List ℕ) (k : ℕ) → new ≡ with_id 16 old k → has_id others k ≡ true → ((q : ℕ) → has_id old q ≡ true → has_id others q ≡ true)
    → (q : ℕ) → has_id new q ≡ true → has_id others q ≡ true
came_more others old new k e on before q is = elim (added old new k q e is) [ inl same ↦ ap (has_id others) same ∙ on | inr there ↦ before q there.1 ]

pub one_taken : (came : List ℕ) (size k : ℕ) (old new : Round 16) → k < 16 → has_id came k ≡ true → AreTaken came size old
    → new.begins ≡ slice_set old.begins k (k * size) → new.next ≡ slice_set old.next k (k * size) → new.present ≡ with_id 16 old.present k → AreTaken came size new
one_taken came size k old new low on taken begins next present = record {
  long = ap length begins ∙ length-set old.begins k (k * size) ∙ taken.long;
  next = next ∙ ap (λ (xs : List ℕ). slice_set xs k (k * size)) taken.next ∙ sym begins;
  low = λ q is. elim (came_is q is) [ inl e ↦ omega (arith, e, low) | inr before ↦ taken.low q before.1 ];
  came_only = λ q is. elim (came_is q is) [ inl e ↦ ap (has_id came) e ∙ on | inr before ↦ taken.came_only q before.1 ];
  begins = λ q is. elim (came_is q is) [
    | inl e ↦
        ap (λ (xs : List ℕ). slice_index xs q) begins
        ∙ ap (slice_index (slice_set old.begins k (k * size))) e
        ∙ get_or-set_same old.begins k (k * size) 0 (let l = taken.long in omega (arith, low, l))
        ∙ ap (λ (j : ℕ). j * size) (sym e)
    | inr before ↦ ap (λ (xs : List ℕ). slice_index xs q) begins ∙ get_or-set_other old.begins k q (k * size) 0 before.0 ∙ taken.begins q before.1
  ];
} where
  came_is : (q : ℕ) → has_id new.present q ≡ true → (q ≡ k) ⊎ ((q ≢ k) × (has_id old.present q ≡ true))
  came_is q is = added old.present new.present k q present is

-- so they are a round, from its beginning
pub walks : (came room : List ℕ) (entries : ℕ) (round : Round 16) → length room ≡ 32 * entries → ((j : ℕ) → slice_index room (2 * j) < 254)
    → round.room.now ≡ room → round.width ≡ 2 → round.size ≡ 2 * entries → AreTaken came (2 * entries) round
    → (members others : List ℕ) (r : ℕ) → entries ≡ path_count (length members - 1) r → ((q : ℕ) → has_id came q ≡ true → has_id others q ≡ true) → IsWalk members others r 0 round
walks came room entries round whole tagged room_is width size taken members others r count only = record {
  frames = record {
    wide = omega (arith, width);
    whole = size ∙ ap₂ (λ (a b : ℕ). a * b) (sym width) count;
    within = λ q on.
        let most : q * (2 * entries) ≤ 15 * (2 * entries) = mul-le-mul (omega (arith, taken.low q on)) (omega arith) in
        omega (arith, most, taken.begins q on, size, whole, ap length room_is);
    tagged = λ q j on low.
        let e : slice_index round.begins q + round.width * j ≡ 2 * (q * entries + j) = ap₂ (λ (a w : ℕ). a + w * j) (taken.begins q on) width ∙ doubled q j in
        let same : slice_index round.room.now (slice_index round.begins q + round.width * j) ≡ slice_index room (2 * (q * entries + j)) = ap₂ slice_index room_is e in
        omega (arith, same, tagged (q * entries + j));
    others_only = λ q on. only q (taken.came_only q on);
  };
  cursor = λ q on. ap (λ (xs : List ℕ). slice_index xs q) taken.next ∙ nothing (slice_index round.begins q) round.width;
} where
  doubled : (q j : ℕ) → q * (2 * entries) + 2 * j ≡ 2 * (q * entries + j)
  doubled q j = omega arith

  nothing : (n k : ℕ) → n ≡ n + k * 0
  nothing n k = omega arith

-- and one of a table that has these members and this node
pub table_walks : {V : Type 0} (h : Hearing V) (members came : List ℕ) (me entries r : ℕ) (round : Round 16) → h.members ≡ members → h.me ≡ me
    → entries ≡ path_count (length members - 1) r → ((q : ℕ) → has_id came q ≡ true → has_id (without_id members me) q ≡ true)
    → ((ms others : List ℕ) (r : ℕ) → entries ≡ path_count (length ms - 1) r → ((q : ℕ) → has_id came q ≡ true → has_id others q ≡ true) → IsWalk ms others r 0 round)
    → IsWalk h.members (others_in h) r 0 round
table_walks h members came me entries r round members_are me_is count only walk =
    walk h.members (others_in h) r (count ∙ ap (λ (ms : List ℕ). path_count (length ms - 1) r) (sym members_are))
    (λ q on. ap₂ (λ (ms : List ℕ) (i : ℕ). has_id (without_id ms i) q) members_are me_is ∙ only q on)

-- a table of some rounds keeps what is heard in each but the last, and in the only one
pub kept_round : (m r : ℕ) → 0 < m → r < max m 2 → r < kept_nodes m
kept_round zero r some low = absurd (omega (arith, some))
kept_round (suc zero) r some low = omega (arith, low)
kept_round (suc (suc m)) r some low = omega (arith, low)
