-- In a run, an item is passed on where nothing befalls the relay frames that speak of it.
use Rattle.std.specs.Prelude.{ℕ, ◌+◌, ◌≡◌, ◌≢◌, ◌<◌, ◌≤◌, ◌⊎◌, Bool, true, false, List, [], ◌∷◌, ◌++◌, length, None}
use Rattle.node_grid.specs.NodeSet.{has_id}
use Rattle.node_grid.specs.Count.{Distinct}
use Rattle.omh_paths.specs.Paths.{IsPath}
use Rattle.omh.specs.Omh.{World, ear, own_term}
use Rattle.protocol.specs.Heard.{Rounds, entry, heard}
use Rattle.protocol.specs.Run.{System, change_at, full_at, members_of, goes_in, run}
use Rattle.protocol.specs.Accepted.{IsAccepted}
use Rattle.odd_relays.specs.Chains.{IsPassedOn}

-- all nodes in the slots of one kind of item, by what each has of them
abbrev pub received_world : {V : Type 0} → System → ℕ → List ℕ → (ℕ → Rounds V) → World V
received_world sys p members x = record { rounds = sys.setting.config.m; members = members; is_full = full_at sys p (goes_in sys p); heard = λ i. heard (x i) }

-- what node i has of node j's relay frame of round r says of the item of c what j puts into its own majorities
abbrev pub SaysOwnTerms : {V : Type 0} → World V → (ℕ → Rounds V) → ℕ → ℕ → ℕ → ℕ → Type 0
SaysOwnTerms w x c r j i =
    (front : List ℕ) → length (c ∷ front) ≡ r → IsPath w.members w.rounds (c ∷ (front ++ j ∷ [])) → has_id (c ∷ (front ++ j ∷ [])) i ≡ false
    → entry ((x i).relay r j) (c ∷ front) ≡ own_term (ear w j) (c ∷ front)

-- in the slots of a period from this one on, in which items are told and relayed, all nodes that are awake have these members;
-- and of the relay frames of a member that isn't odd each comes to each of them untouched, or says all the same of the item of c
-- what it should
pub record IsRelayed {V : Type 0} (sys : System) (p first : ℕ) (x : ℕ → Rounds V) (members : List ℕ) (c : ℕ) (odd : List ℕ) (is_awake : ℕ → Bool) : Type 0 where
  pub distinct : Distinct members
  pub full : (q : ℕ) → has_id members q ≡ true → full_at sys p (goes_in sys p) q ≡ true → is_awake q ≡ true
  pub goes : (i : ℕ) → is_awake i ≡ true → members_of sys p (goes_in sys p) i ≡ members
  pub regular : (r j i : ℕ) → 0 < r → r ≤ sys.setting.config.m → has_id members j ≡ true → has_id odd j ≡ false → is_awake i ≡ true → j ≢ i
      → (change_at sys p (first + r) j i ≡ None) ⊎ SaysOwnTerms (received_world sys p members x) x c r j i

-- Law: so the claim of c is passed on
abbrev pub ClaimPassedOnLaw : Type 0
ClaimPassedOnLaw =
    (sys : System) → IsAccepted sys → (p : ℕ) (members : List ℕ) (c : ℕ) (odd : List ℕ) (is_awake : ℕ → Bool)
    → IsRelayed sys p 1 (λ i. ((run sys).received i p).done) members c odd is_awake
    → IsPassedOn (received_world sys p members (λ i. ((run sys).received i p).done)) c odd is_awake

-- Law: and its row
abbrev pub RowPassedOnLaw : Type 0
RowPassedOnLaw =
    (sys : System) → IsAccepted sys → (p : ℕ) (members : List ℕ) (c : ℕ) (odd : List ℕ) (is_awake : ℕ → Bool)
    → IsRelayed sys p (sys.setting.config.m + 3) (λ i. ((run sys).received i p).report) members c odd is_awake
    → IsPassedOn (received_world sys p members (λ i. ((run sys).received i p).report)) c odd is_awake
