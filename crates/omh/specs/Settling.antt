-- The uniform law and the agreement law.
use Rattle.std.proofs.Common.{ℕ, zero, suc, ◌≡◌, ◌≢◌, ◌<◌, ◌≤◌, ◌+◌, ◌-◌, ◌⊎◌, Bool, true, false, ◌==◌, if◌then◌else◌, List, [], ◌∷◌, ◌++◌, map, length, refl, sym, ap, subst, ◌∙◌, inl, inr, arith, eqb-true, eq-eqb, ne_eqb}
use Rattle.std.proofs.lemmas.Bool.{cases_Bool, cases_eq, eqb-false, cond-true, cond-false}
use Rattle.std.proofs.lemmas.List.{length_push}
use Rattle.omh_paths.specs.declared.wrapped.Wrapped.{Wrapped}
use Rattle.omh_paths.specs.declared.wrapped.Wrapped.TheVariants.{Fault}
use Rattle.omh_paths.specs.Wrapped.{wrapped, unwrapped, IsExact}
use Rattle.node_grid.specs.Count.{bit, count}
use Rattle.omh_paths.specs.Majority.{majority}
use Rattle.node_grid.specs.NodeSet.{has_id}
use Rattle.omh_paths.specs.Paths.{outside, IsPath}
use Rattle.omh.specs.Omh.{World, ear, own_term, settled_within, Hears, Fits, counted_nodes}
use Rattle.node_grid.specs.declared.class.Class.{Class}
use Rattle.node_grid.specs.Class.{is_silent, is_asymmetric, is_sound, IsEnough}
use Rattle.omh.specs.Laws.{UniformLaw, AgreementLaw}
use Rattle.node_grid.specs.declared.class.Class.TheVariants.{N, J, B, S, A}
use Rattle.omh_paths.specs.MajorityLaws.{unwrapped-wrapped, is_error-wrapped}
use Rattle.omh_paths.specs.PathLaws.{off_longer, off_from, IsPath-push, all_outside, map_alike}
use Rattle.omh.specs.Counting.{TermFits, majority_of_terms, more_outside, enough_longer, asymmetric_longer}

pub Hears-shorter : {class_of : ℕ → Class} (path : List ℕ) (q i : ℕ) → Hears class_of (path ++ q ∷ []) i → Hears class_of path i
Hears-shorter path q i h = record { sound = h.sound; off = (off_longer path q i h.off).0 }

pub Hears-longer : {class_of : ℕ → Class} (path : List ℕ) (q i : ℕ) → Hears class_of path i → q ≢ i → Hears class_of (path ++ q ∷ []) i
Hears-longer path q i h ne = record { sound = h.sound; off = off_from path q i h.off ne }

-- what node i settles for a path that can grow by r nodes
abbrev settled_by : {V : Type 0} → (V → V → Bool) → World V → ℕ → ℕ → List ℕ → Wrapped V
settled_by eq w r i path = settled_within eq (ear w i) r path

-- what node i puts into the majority of a path for the member q
unfoldable pub term_of : {V : Type 0} → (V → V → Bool) → World V → ℕ → ℕ → List ℕ → ℕ → Wrapped V
term_of eq w r i path q = if q == i then own_term (ear w i) path else settled_by eq w r i (path ++ q ∷ [])

settled_now : {V : Type 0} (eq : V → V → Bool) (w : World V) (i : ℕ) (path : List ℕ) → settled_by eq w 0 i path ≡ w.heard i path
unfolding settled_within
settled_now eq w i path = refl

settled_later : {V : Type 0} (eq : V → V → Bool) (w : World V) (r i : ℕ) (path : List ℕ)
    → settled_by eq w (suc r) i path ≡ unwrapped (majority eq (map (term_of eq w r i path) (outside w.members path)))
unfolding settled_within term_of
settled_later eq w r i path = refl

term_own : {V : Type 0} (eq : V → V → Bool) (w : World V) (r i : ℕ) (path : List ℕ) (q : ℕ) → q ≡ i → term_of eq w r i path q ≡ own_term (ear w i) path
unfolding term_of
term_own eq w r i path q e = cond-true _ _ _ (eq-eqb q i e)

term_other : {V : Type 0} (eq : V → V → Bool) (w : World V) (r i : ℕ) (path : List ℕ) (q : ℕ) → q ≢ i → term_of eq w r i path q ≡ settled_by eq w r i (path ++ q ∷ [])
unfolding term_of
term_other eq w r i path q ne = cond-false _ _ _ (ne_eqb q i ne)

-- a sound node that is silent is joining
pub silent_sound : (c : Class) → is_sound c ≡ true → is_silent c ≡ true → c ≡ J
silent_sound N s h = cc
silent_sound J s h = refl
silent_sound B s h = cc
silent_sound S s h = cc
silent_sound A s h = cc

pub nonfaulty_sound : (c : Class) → c ≡ N → is_sound c ≡ true
nonfaulty_sound c e = ap is_sound e

pub sound_cases : (c : Class) → is_sound c ≡ true → (c ≡ N) ⊎ (c ≡ J)
sound_cases N s = inl refl
sound_cases J s = inr refl
sound_cases B s = cc
sound_cases S s = cc
sound_cases A s = cc

asymmetric_or_not : (c : Class) → (c ≡ A) ⊎ (c ≢ A)
asymmetric_or_not N = inr (λ e. cc)
asymmetric_or_not J = inr (λ e. cc)
asymmetric_or_not B = inr (λ e. cc)
asymmetric_or_not S = inr (λ e. cc)
asymmetric_or_not A = inl refl

-- the own term of a member, by its class
pub own_nonfaulty : {V : Type 0} (w : World V) (i : ℕ) (path : List ℕ) → w.is_full i ≡ true → own_term (ear w i) path ≡ wrapped (w.heard i path)
own_nonfaulty w i path e = cond-true _ _ _ e

pub own_joining : {V : Type 0} (w : World V) (i : ℕ) (path : List ℕ) → w.is_full i ≡ false → own_term (ear w i) path ≡ Fault 0
own_joining w i path e = cond-false _ _ _ e

-- the path front, last
abbrev to : List ℕ → ℕ → List ℕ
to front last = front ++ last ∷ []

length-to : (front : List ℕ) (last r m : ℕ) → suc r + length (to front last) ≡ m + 1 → length (to front last) ≤ m
length-to front last r m e = omega arith

length_longer : (front : List ℕ) (last q r m : ℕ) → suc r + length (to front last) ≡ m + 1 → r + length (to (to front last) q) ≡ m + 1
length_longer front last q r m e = omega (arith, length_push (to front last) q)

nonempty : (front : List ℕ) (last : ℕ) → 0 < length (to front last)
nonempty front last = omega (arith, length_push front last)

module _ {V : Type 0} (eq : V → V → Bool) (exact : IsExact eq) (w : World V) (class_of : ℕ → Class) (item : ℕ → V) (fits : Fits w class_of item) where
  -- what every sound node outside the path heard, it settles
  uniform : (r : ℕ) (front : List ℕ) (last : ℕ) → IsPath w.members w.rounds (to front last) → r + length (to front last) ≡ w.rounds + 1
      → IsEnough class_of (counted_nodes w.members front last) r
      → (v : Wrapped V) → ((i : ℕ) → Hears class_of (to front last) i → w.heard i (to front last) ≡ v)
      → (i : ℕ) → Hears class_of (to front last) i → settled_by eq w r i (to front last) ≡ v
  uniform zero front last path long enough v hs i hi = settled_now eq w i (to front last) ∙ hs i hi
  uniform (suc r) front last path long enough v hs i hi =
      let p : List ℕ = to front last in
      let longer = λ (q : ℕ) (member : has_id w.members q ≡ true) (off : has_id p q ≡ false) (u : Wrapped V) (us : (j : ℕ) → Hears class_of (to p q) j → w.heard j (to p q) ≡ u) (ne : q ≢ i).
      term_other eq w r i p q ne ∙ uniform r p q (IsPath-push q path member off (length-to front last r w.rounds long)) (length_longer front last q r w.rounds long)
      (enough_longer class_of w.members p last q r fits.distinct member off enough) u us i (Hears-longer p q i hi ne)
      in
      let at : (q : ℕ) → has_id w.members q ≡ true → has_id p q ≡ false → TermFits class_of (term_of eq w r i p) (wrapped v) q =
      λ q member off. let grown = IsPath-push q path member off (length-to front last r w.rounds long) in
      elim (cases_Bool (q == i)) [
        | inl here ↦ let e : q ≡ i = eqb-true q i here in record {
          says = λ n. term_own eq w r i p q e ∙ own_nonfaulty w i p (fits.full i (ap (has_id w.members) (sym e) ∙ member) (ap class_of (sym e) ∙ n)) ∙ ap wrapped (hs i hi);
          silent = λ s. term_own eq w r i p q e ∙ own_joining w i p (fits.not_full i (ap (has_id w.members) (sym e) ∙ member) (silent_sound _ hi.sound (ap (λ (x : ℕ). is_silent (class_of x)) (sym e) ∙ s)));
        }
        | inr other ↦ let ne : q ≢ i = eqb-false q i other in record {
          says = λ n. longer q member off (wrapped v) (λ j hj. fits.relays p q j (nonempty front last) grown n hj ∙ ap wrapped (hs q (record { sound = nonfaulty_sound _ n; off = off }))) ne;
          silent = λ s. longer q member off (Fault 0) (λ j hj. fits.silent p q j grown s hj) ne;
        }
      ]
      in
      settled_later eq w r i p
      ∙ ap unwrapped (majority_of_terms exact class_of (term_of eq w r i p) (wrapped v) (is_error-wrapped v) (outside w.members p) (all_outside w.members p _ at) (let more = more_outside class_of last (outside w.members p) r enough in omega arith))
      ∙ unwrapped-wrapped v

  -- a sound member off the path: what another sound node settles for its relay is its own term
  relay_settles : (r : ℕ) (front : List ℕ) (last q j : ℕ) → IsPath w.members w.rounds (to front last) → suc r + length (to front last) ≡ w.rounds + 1
      → IsEnough class_of (counted_nodes w.members front last) (suc r) → has_id w.members q ≡ true → Hears class_of (to front last) q → Hears class_of (to front last) j → q ≢ j
      → settled_by eq w r j (to (to front last) q) ≡ own_term (ear w q) (to front last)
  relay_settles r front last q j path long enough member hq hj ne =
      let p : List ℕ = to front last in
      let grown = IsPath-push q path member hq.off (length-to front last r w.rounds long) in
      let go = λ (u : Wrapped V) (us : (k : ℕ) → Hears class_of (to p q) k → w.heard k (to p q) ≡ u).
      uniform r p q grown (length_longer front last q r w.rounds long) (enough_longer class_of w.members p last q r fits.distinct member hq.off enough) u us j (Hears-longer p q j hj ne)
      in
      elim (sound_cases (class_of q) hq.sound) [
        | inl n ↦ go (wrapped (w.heard q p)) (λ k hk. fits.relays p q k (nonempty front last) grown n hk) ∙ sym (own_nonfaulty w q p (fits.full q member n))
        | inr b ↦ go (Fault 0) (λ k hk. fits.silent p q k grown (ap is_silent b) hk) ∙ sym (own_joining w q p (fits.not_full q member b))
      ]

  -- a last node that is not asymmetric says the same to all sound nodes
  heard_alike : (front : List ℕ) (last : ℕ) (c : Class) → class_of last ≡ c → c ≢ A → IsPath w.members w.rounds (to front last)
      → (i j : ℕ) → Hears class_of (to front last) i → Hears class_of (to front last) j → w.heard j (to front last) ≡ w.heard i (to front last)
  heard_alike [] last N e ne path i j hi hj = fits.tells last j path e hj ∙ sym (fits.tells last i path e hi)
  heard_alike (x ∷ xs) last N e ne path i j hi hj = fits.relays (x ∷ xs) last j (omega arith) path e hj ∙ sym (fits.relays (x ∷ xs) last i (omega arith) path e hi)
  heard_alike front last J e ne path i j hi hj = fits.silent front last j path (ap is_silent e) hj ∙ sym (fits.silent front last i path (ap is_silent e) hi)
  heard_alike front last B e ne path i j hi hj = fits.silent front last j path (ap is_silent e) hj ∙ sym (fits.silent front last i path (ap is_silent e) hi)
  heard_alike front last S e ne path i j hi hj = fits.alike front last j i path e hj hi
  heard_alike front last A e ne path i j hi hj = absurd (ne refl)

  same_by_uniform : (r : ℕ) (front : List ℕ) (last : ℕ) → IsPath w.members w.rounds (to front last) → r + length (to front last) ≡ w.rounds + 1
      → IsEnough class_of (counted_nodes w.members front last) r → class_of last ≢ A
      → (i j : ℕ) → Hears class_of (to front last) i → Hears class_of (to front last) j → settled_by eq w r i (to front last) ≡ settled_by eq w r j (to front last)
  same_by_uniform r front last path long enough ne i j hi hj =
      let all = λ (k : ℕ) (hk : Hears class_of (to front last) k). heard_alike front last (class_of last) refl ne path i k hi hk in
      uniform r front last path long enough (w.heard i (to front last)) all i hi ∙ sym (uniform r front last path long enough (w.heard i (to front last)) all j hj)

  agreement : (r : ℕ) (front : List ℕ) (last : ℕ) → IsPath w.members w.rounds (to front last) → r + length (to front last) ≡ w.rounds + 1
      → IsEnough class_of (counted_nodes w.members front last) r → count (λ q. is_asymmetric (class_of q)) (counted_nodes w.members front last) ≤ r
      → (i j : ℕ) → Hears class_of (to front last) i → Hears class_of (to front last) j → settled_by eq w r i (to front last) ≡ settled_by eq w r j (to front last)
  agreement zero front last path long enough few i j hi hj =
      same_by_uniform zero front last path long enough (λ e. let one : bit (is_asymmetric (class_of last)) ≡ 1 = ap (λ (c : Class). bit (is_asymmetric c)) e in omega arith) i j hi hj
  agreement (suc r) front last path long enough few i j hi hj =
      elim (asymmetric_or_not (class_of last)) [
        | inr ne ↦ same_by_uniform (suc r) front last path long enough ne i j hi hj
        | inl faulty ↦
            let p : List ℕ = to front last in
            let at : (q : ℕ) → has_id w.members q ≡ true → has_id p q ≡ false → term_of eq w r i p q ≡ term_of eq w r j p q =
            λ q member off. elim (cases_eq q i) [
              | inl qi ↦ elim (cases_eq q j) [
                | inl qj ↦ ap (λ (k : ℕ). term_of eq w r k p q) (sym qi ∙ qj)
                | inr nj ↦ term_own eq w r i p q qi ∙ ap (λ (k : ℕ). own_term (ear w k) p) (sym qi)
                    ∙ sym (relay_settles r front last q j path long enough member (subst (Hears class_of p) (sym qi) hi) hj nj) ∙ sym (term_other eq w r j p q nj)
              ]
              | inr ni ↦ elim (cases_eq q j) [
                | inl qj ↦ term_other eq w r i p q ni ∙ relay_settles r front last q i path long enough member (subst (Hears class_of p) (sym qj) hj) hi ni
                    ∙ ap (λ (k : ℕ). own_term (ear w k) p) qj ∙ sym (term_own eq w r j p q qj)
                | inr nj ↦ term_other eq w r i p q ni
                    ∙ agreement r p q (IsPath-push q path member off (length-to front last r w.rounds long)) (length_longer front last q r w.rounds long)
                    (enough_longer class_of w.members p last q r fits.distinct member off enough)
                    (asymmetric_longer class_of w.members p last q r fits.distinct member off faulty few) i j (Hears-longer p q i hi ni) (Hears-longer p q j hj nj)
                    ∙ sym (term_other eq w r j p q nj)
              ]
            ]
            in settled_later eq w r i p
            ∙ ap (λ (ts : List (Wrapped V)). unwrapped (majority eq ts)) (map_alike (term_of eq w r i p) (term_of eq w r j p) (outside w.members p) (all_outside w.members p _ at))
            ∙ sym (settled_later eq w r j p)
      ]

-- the laws, as the specs state them
pub uniform_law : {V : Type 0} (eq : V → V → Bool) → IsExact eq → UniformLaw eq
uniform_law eq exact w class_of item fits front last r path long enough v hs i hi =
    let e : w.rounds + 1 - length (to front last) ≡ r = omega arith in
    ap (λ (n : ℕ). settled_by eq w n i (to front last)) e ∙ uniform eq exact w class_of item fits r front last path long enough v hs i hi

pub agreement_law : {V : Type 0} (eq : V → V → Bool) → IsExact eq → AgreementLaw eq
agreement_law {V} eq exact w class_of item fits front last r path long enough few i j hi hj =
    let e : w.rounds + 1 - length (to front last) ≡ r = omega arith in
    let at : (k : ℕ) → settled_by eq w (w.rounds + 1 - length (to front last)) k (to front last) ≡ settled_by eq w r k (to front last) =
    λ k. ap (λ (n : ℕ). settled_by eq w n k (to front last)) e in
    at i ∙ agreement eq exact w class_of item fits r front last path long enough few i j hi hj ∙ sym (at j)
