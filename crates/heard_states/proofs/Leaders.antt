-- A node without a state adopts that of a leader.
use Rattle.std.proofs.Common.{ℕ, zero, suc, ◌≡◌, ◌≢◌, ◌<◌, ◌≤◌, ◌+◌, ◌-◌, Bool, true, false, not, ◌&&◌, ◌||◌, ◌==◌, List, [], ◌∷◌, length, map, Option, None, Some, refl, sym, ap, ap₂, ◌∙◌, inl, inr, arith, nat_lt, lt-ltb, le-ltb, eq-eqb, ne_eqb}
use Rattle.std.specs.Prelude.{if◌then◌else◌, is_some}
use Rattle.std.specs.List.{range_with_len}
use Rattle.std.proofs.lemmas.Bool.{cases_lt, cond-true, and_parts, not-true}
use Rattle.node_grid.specs.Count.{bit, count}
use Rattle.node_grid.specs.CapacityLaws.{capacity-le}
use Rattle.node_grid.specs.NodeSet.{ids_below, has_id, minus_of, common_of}
use Rattle.node_grid.specs.ListLaws.{bit_le}
use Rattle.node_grid.specs.NodeSetLaws.{has_filtered}
use Rattle.node_grid.specs.SetFacts.{length_filter, has_minus}
use Rattle.omh_paths.specs.declared.wrapped.Wrapped.{Wrapped}
use Rattle.omh_paths.specs.declared.wrapped.Wrapped.TheVariants.{Plain}
use Rattle.omh_paths.specs.Wrapped.{same, is_error}
use Rattle.omh_paths.specs.Paths.{same_nodes}
use Rattle.omh_paths.specs.MajorityLaws.{majority_is}
use Rattle.omh_paths.specs.Facts.{paths_exact}
use Rattle.agreed_state.specs.Agreed.{AgreedView}
use Rattle.agreed_state.specs.Body.{body}
use Rattle.agreed_state.specs.ReadLaws.{read_back}
use Rattle.agreed_state.specs.Adoption.{given as offered, state_read, adopted}
use Rattle.protocol.specs.Arrival.{Arrival}
use Rattle.protocol.specs.Arrival.Arrival.{Good}
use Rattle.protocol.specs.View.{content, adopted_by}
use Rattle.protocol.specs.Configured.{setting_of}
use Rattle.shared_states.specs.Sharing.{state_at, IsShared}
use Rattle.heard_states.specs.Slot.{told_state}
use Rattle.heard_states.specs.Hearing.{IsSending, told_by}
use Rattle.heard_states.specs.Leading.{IsTeller, IsLeader}
use Rattle.heard_states.specs.declared.sending.Sending.{Sending}
use Rattle.heard_states.proofs.Alike.{some_at}
use Rattle.heard_states.proofs.Frames.{told_clean}

-- ---- sets

-- what is in what two sets share is in both
in_both : (xs ys : List ℕ) (x : ℕ) → has_id (common_of xs ys) x ≡ true → (has_id xs x ≡ true) × (has_id ys x ≡ true)
in_both xs ys x on =
    let p = and_parts (has_id ys x) (has_id xs x) (sym (has_filtered (λ k. has_id ys k) xs x) ∙ on) in
    (p.1, p.0)

pub teller_is : {N : ℕ} (s : Sending N) (leader j : ℕ) (sharers : List ℕ) → ((k : ℕ) → has_id sharers k ≡ true → IsShared s.states.now leader k)
    → has_id (common_of (minus_of s.senders.full s.senders.touched) sharers) j ≡ true → IsTeller s leader j
teller_is s leader j sharers shared on =
    let both = in_both (minus_of s.senders.full s.senders.touched) sharers j on in
    let p = and_parts (not (has_id s.senders.touched j)) (has_id s.senders.full j) (sym (has_minus s.senders.full s.senders.touched j) ∙ both.0) in
    record { full = p.1; untouched = not-true (has_id s.senders.touched j) p.0; shared = shared j both.1 }

low_few : (n a r : ℕ) → count (λ q. nat_lt q n) (range_with_len a r) ≤ n - a
low_few n a zero = omega arith
low_few n a (suc r) = elim (cases_lt a n) [
  | inl low ↦
      let e : bit (nat_lt a n) ≡ 1 = ap bit (lt-ltb _ _ low) in
      let rest = low_few n (a + 1) r in
      omega arith
  | inr past ↦
      let e : bit (nat_lt a n) ≡ 0 = ap bit (le-ltb _ _ past) in
      let rest = low_few n (a + 1) r in
      omega arith
]

-- ---- bodies

-- of one node: it is below the number of nodes where a body is given, and a teller gives this one
record Term (low teller error is : Bool) : Type 0 where
  few : bit (not error) ≤ bit low
  more : bit teller ≤ bit is

term_one : (own : List ℕ) (low other teller : Bool) (b : Arrival (List ℕ)) → (teller ≡ true → (low ≡ true) × ((other ≡ true) × (b ≡ Good own)))
    → Term low teller (is_error (offered (if low && other then content b else None))) (same same_nodes (Plain own) (offered (if low && other then content b else None)))
term_one own low other true b tells =
    let h = tells refl in
    let e : ◌≡◌ {A = Option (List ℕ)} (if low && other then content b else None) (Some own) =
    ap₂ (λ (l o : Bool). if l && o then content b else None) h.0 h.1.0 ∙ ap (λ (x : Arrival (List ℕ)). content x) h.1.1 in
    let f : bit low ≡ 1 = ap bit h.0 in
    let k : bit (not (is_error (offered (if low && other then content b else None)))) ≡ 1 = ap (λ (o : Option (List ℕ)). bit (not (is_error (offered o)))) e in
    let i : bit (same same_nodes (Plain own) (offered (if low && other then content b else None))) ≡ 1 =
    ap (λ (o : Option (List ℕ)). bit (same same_nodes (Plain own) (offered o))) e ∙ ap bit (paths_exact.finds own) in
    record { few = omega arith; more = omega arith }
term_one own false other false b tells = record { few = omega arith; more = omega arith }
term_one own true other false b tells =
    let k = bit_le (not (is_error (offered (if true && other then content b else None)))) in
    record { few = k; more = omega arith }

record Terms (low teller : ℕ → Bool) (bodies : ℕ → Option (List ℕ)) (v : Wrapped (List ℕ)) (qs : List ℕ) : Type 0 where
  few : count (λ y. not (is_error y)) (map offered (map bodies qs)) ≤ count low qs
  more : count teller qs ≤ count (same same_nodes v) (map offered (map bodies qs))

terms : (low teller : ℕ → Bool) (bodies : ℕ → Option (List ℕ)) (v : Wrapped (List ℕ)) (qs : List ℕ)
    → ((q : ℕ) → Term (low q) (teller q) (is_error (offered (bodies q))) (same same_nodes v (offered (bodies q)))) → Terms low teller bodies v qs
terms low teller bodies v [] h = record { few = omega arith; more = omega arith }
terms low teller bodies v (q ∷ qs) h =
    let a = (h q).few in let b = (h q).more in let rest = terms low teller bodies v qs h in record { few = omega arith; more = omega arith }

-- ---- the leader

module _ {N : ℕ} {s : Sending N} (ok : IsSending s) (i j : ℕ) (used : i < s.slot.config.now.nodes) (none : state_at s.states.now i ≡ None) (l : IsLeader s j) where
  not_me : (q : ℕ) → has_id s.senders.full q ≡ true → q ≢ i
  not_me q on e = let z : false ≡ true = sym (ap is_some none) ∙ ap (λ k. is_some (state_at s.states.now k)) (sym e) ∙ ok.there q on in cc

  told_leader : (q : ℕ) (a : AgreedView) → state_at s.states.now j ≡ Some a → IsTeller s j q → told_by s i q ≡ Good (body s.slot.config.now a)
  told_leader q a e t =
      ap (told_state s.slot.config.now s.slot.plan.now s.slot.period i q) (cond-true (has_id s.senders.full q) (state_at s.states.now q) None t.full ∙ t.shared.1 ∙ e)
      ∙ told_clean s.slot.config.now ok.slot_is.capacity ok.slot_is.config s.slot.period q s.slot.plan.now i a (ok.agreed j a e)
      (ok.untouched q i (ok.used q t.full) used (not_me q t.full) t.untouched)

  pub leader_there : is_some (state_at s.states.now j) ≡ true
  leader_there = by l.tellers refl
    where
      by : (xs : List ℕ) → l.tellers ≡ xs → is_some (state_at s.states.now j) ≡ true
      by [] e = let z : length l.tellers ≡ 0 = ap length e in let many = l.many in absurd (omega arith)
      by (x ∷ xs) e = (l.tell x (ap (λ (ys : List ℕ). has_id ys x) e ∙ ap (λ b. b || has_id xs x) (eq-eqb x x refl))).shared.0

  pub leads : adopted_by (setting_of s.slot.config.now) i (told_by s i) ≡ state_at s.states.now j
  unfolding adopted_by adopted
  leads =
      let config = s.slot.config.now in
      let h = some_at (state_at s.states.now j) leader_there in
      let own = body config h.0 in
      let bodies : ℕ → Option (List ℕ) = λ q. if nat_lt q config.nodes && not (q == i) then content (told_by s i q) else None in
      let t = terms (λ q. nat_lt q config.nodes) (λ q. has_id l.tellers q) bodies (Plain own) (ids_below N)
      (λ q. term_one own (nat_lt q config.nodes) (not (q == i)) (has_id l.tellers q) (told_by s i q)
      (λ on. let t = l.tell q on in (lt-ltb _ _ (ok.used q t.full), (ap not (ne_eqb q i (not_me q t.full)), told_leader q h.0 h.1 t)))) in
      let few = low_few config.nodes 0 N in
      let many = l.many in
      let t_few = t.few in
      let t_more = t.more in
      let ids : length l.tellers ≡ count (λ q. has_id l.tellers q) (ids_below N) = ap length l.ids ∙ length_filter (λ q. has_id l.tellers q) (ids_below N) in
      ap (state_read N config) (majority_is paths_exact (map offered (map bodies (ids_below N))) (Plain own) refl (omega arith))
      ∙ read_back N config h.0 (capacity-le N ok.slot_is.capacity) ok.slot_is.config (ok.agreed j h.0 h.1)
      ∙ sym h.1
