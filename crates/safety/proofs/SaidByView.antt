-- What a run says in each slot is what each node says by its finished view.
use Rattle.std.proofs.Common.{ℕ, zero, suc, ◌≡◌, ◌≢◌, ◌<◌, ◌≤◌, ◌+◌, ◌-◌, ◌*◌, ◌==◌, Bool, true, false, if◌then◌else◌, List, map, refl, sym, ap, ap₂, ◌∙◌, arith, Option, ℤ}
use Rattle.std.proofs.lemmas.Bool.{eqb-false, leb-true, leb-false}
use Rattle.std.specs.Prelude.{nat_le}
use Rattle.omh_paths.specs.declared.wrapped.Wrapped.{Wrapped}
use Rattle.omh_paths.specs.Wrapped.{wrapped}
use Rattle.frames.specs.Content.{Content}
use Rattle.frames.specs.Content.Content.{Done0, DoneRelay, Data, Report0, ReportRelay}
use Rattle.agreed_state.specs.Agreed.{AgreedView}
use Rattle.protocol.specs.Heard.{heard, paths_of}
use Rattle.protocol.specs.Talk.{relay_said, rounds_upto}
use Rattle.protocol.specs.TalkLaws.{entries_stable}
use Rattle.protocol.specs.View.{Kept, Received, View, own_in}
use Rattle.protocol.specs.Cluster.{view}
use Rattle.protocol.specs.Run.{System, members_in, claim_sent, members_of, done_talk, row_talk, said_in, goes_in, run}
use Rattle.protocol.specs.RunLaws.{begins_is, before_is, members_of_is, due_of_is, found_is}
use Rattle.protocol.specs.Saying.{if_full, says}
use Rattle.safety.specs.Talk.{SayingLaw}

-- ---- one slot after another

abbrev pick : ℕ → ℕ → Content → Content → Content → Content → Content → Content → Content
pick m t s c d v r e = if t == 0 then s else (if t == 1 then c else (if nat_le t (m + 1) then d else (if t == m + 2 then v else (if t == m + 3 then r else e))))

if_alike : {C : Type 0} (b : Bool) (x y z w : C) → (b ≡ true → x ≡ z) → (b ≡ false → y ≡ w) → (if b then x else y) ≡ (if b then z else w)
if_alike true x y z w h k = h refl
if_alike false x y z w h k = k refl

pick_alike : (m t : ℕ) (s c d v r e s' c' d' v' r' e' : Content) → s ≡ s' → c ≡ c' → (1 < t → t ≤ m + 1 → d ≡ d') → v ≡ v' → r ≡ r' → (m + 3 < t → e ≡ e') → pick m t s c d v r e ≡ pick m t s' c' d' v' r' e'
pick_alike m t s c d v r e s' c' d' v' r' e' hs hc hd hv hr he =
    if_alike (t == 0) _ _ _ _ (λ _. hs) (λ a.
    if_alike (t == 1) _ _ _ _ (λ _. hc) (λ b.
    if_alike (nat_le t (m + 1)) _ _ _ _ (λ l. hd (let x : t ≢ 0 = eqb-false t 0 a in let y : t ≢ 1 = eqb-false t 1 b in omega arith) (leb-true t (m + 1) l)) (λ l.
    if_alike (t == m + 2) _ _ _ _ (λ _. hv) (λ n.
    if_alike (t == m + 3) _ _ _ _ (λ _. hr) (λ q. he
    (let x : m + 1 < t = leb-false t (m + 1) l in let y : t ≢ m + 2 = eqb-false t (m + 2) n in let z : t ≢ m + 3 = eqb-false t (m + 3) q in omega arith))))))

-- ---- the run

module _ (sys : System) (p : ℕ) where
  abbrev m : ℕ
  m = sys.setting.config.m

  abbrev k : ℕ → Kept
  k = goes_in sys p

  abbrev x : ℕ → Received
  x j = (run sys).received j p

  abbrev u : ℕ → View
  u j = view (run sys) j p

  claims_there : (t j : ℕ) → 1 < t → t ≤ m + 1 → relay_said (done_talk sys p k) (t - 1) (rounds_upto (done_talk sys p k) (t - 2) j) j
      ≡ if_full (k j) (DoneRelay (map (λ path. wrapped (heard (x j).done path)) (paths_of (members_in (u j).before) (t - 1) j)))
  claims_there zero j some low = absurd (omega arith)
  claims_there (suc zero) j some low = absurd (omega arith)
  claims_there (suc (suc n)) j some low =
      ap₂ (λ (a b : ℕ). relay_said (done_talk sys p k) a (rounds_upto (done_talk sys p k) b j) j) (let e : suc (suc n) - 1 ≡ suc n = omega arith in e) (let e : suc (suc n) - 2 ≡ n = omega arith in e)
      ∙ ap (λ (es : List (Wrapped ℕ)). if_full (k j) (DoneRelay es)) (entries_stable (done_talk sys p k) m n j (members_of sys p k j) (omega arith))
      ∙ ap₂ (λ (a : ℕ) (ms : List ℕ). if_full (k j) (DoneRelay (map (λ path. wrapped (heard (x j).done path)) (paths_of ms a j)))) (let e : suc n ≡ suc (suc n) - 1 = omega arith in e) (members_of_is sys p j)

  rows_at : (t n j : ℕ) → t ≡ m + 3 + suc n → n ≤ m → relay_said (row_talk sys p k) (t - (m + 3)) (rounds_upto (row_talk sys p k) (t - (m + 4)) j) j
      ≡ if_full (k j) (ReportRelay (map (λ path. wrapped (heard (x j).report path)) (paths_of (members_in (u j).before) (t - (m + 3)) j)))
  rows_at t n j is low =
      ap₂ (λ (a b : ℕ). relay_said (row_talk sys p k) a (rounds_upto (row_talk sys p k) b j) j) (let e : t - (m + 3) ≡ suc n = omega arith in e) (let e : t - (m + 4) ≡ n = omega arith in e)
      ∙ ap (λ (es : List (Wrapped (List ℕ))). if_full (k j) (ReportRelay es)) (entries_stable (row_talk sys p k) m n j (members_of sys p k j) low)
      ∙ ap₂ (λ (a : ℕ) (ms : List ℕ). if_full (k j) (ReportRelay (map (λ path. wrapped (heard (x j).report path)) (paths_of ms a j)))) (let e : suc n ≡ t - (m + 3) = omega arith in e) (members_of_is sys p j)

  -- with what it goes into the period by the run
  said_is : (t j : ℕ) → t < 2 * m + 4 → said_in sys p k t j ≡ says sys.setting j (sys.inputs j p) (k j) (x j) (u j) t
  said_is t j low =
      pick_alike m t _ _ _ _ _ _ _ _ _ _ _ _
      refl
      (ap (λ (b : Option AgreedView). if_full (k j) (Done0 (claim_sent j (sys.inputs j p) b))) (sym (before_is sys p j)))
      (claims_there t j)
      (ap₂ (λ (own : List (Option ℤ)) (due : List ℕ). if_full (k j) (Data (map (own_in own) due))) (sym (due_of_is sys p j).1) (sym (due_of_is sys p j).0))
      (ap (λ (row : List ℕ). if_full (k j) (Report0 row)) (sym (found_is sys p j)))
      (λ late. rows_at t (t - (m + 4)) j (omega arith) (omega arith))

pub saying_law : SayingLaw
saying_law sys p j slot low =
    said_is sys p slot j low
    ∙ ap (λ (kept : Kept). says sys.setting j (sys.inputs j p) kept ((run sys).received j p) (view (run sys) j p) slot) (sym (begins_is sys j p))
