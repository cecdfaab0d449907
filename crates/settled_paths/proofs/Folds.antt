-- What is settled for paths from their terms, length by length.
use Rattle.std.proofs.Common.{ℕ, suc, ◌≡◌, ◌<◌, ◌≤◌, ◌+◌, ◌-◌, ◌*◌, Bool, true, false, List, ◌++◌, map, length, get_or, set, take, drop, refl, sym, ap, subst, ◌∙◌, inl, inr, arith}
use Rattle.std.specs.Prelude.{Option}
use Rattle.std.proofs.lemmas.Bool.{cases_Bool, cases_eq, cond-true, cond-false}
use Rattle.std.proofs.lemmas.List.{get_or-set_same, get_or-set_other, length-take-le, get_or-take, get_or-drop, get_or-map, ext_get_or, get_or_append_left}
use Rattle.node_grid.specs.NodeSet.{has_id, IsIdSet, place_of}
use Rattle.node_grid.specs.Count.{Distinct}
use Rattle.node_grid.specs.ListFacts.{length_mapped}
use Rattle.omh_paths.specs.declared.wrapped.Wrapped.{Wrapped}
use Rattle.omh_paths.specs.declared.wrapped.Wrapped.TheVariants.{Fault}
use Rattle.omh_paths.specs.Wrapped.{unwrapped}
use Rattle.omh_paths.specs.Majority.{majority}
use Rattle.omh_paths.specs.Paths.{outside, path_count, index_in}
use Rattle.omh_paths.specs.PathLists.{index_in-lt, at-index_in}
use Rattle.omh_paths.specs.MemberLaws.{place-index}
use Rattle.omh.specs.Omh.{Ear, own_term, settled_at, term_at}
use Rattle.omh.specs.SettledLaws.{settled_at_later}
use Rattle.omh.specs.Flat.{relay_path, SettledAt, AreSettled, laid_own, path_settled}
use Rattle.omh.proofs.Folding.{IsHalfway, halfway_more, relay_listed}
use Rattle.settled_paths.specs.Passing.{or_passed, instead}
use Rattle.settled_paths.specs.Levels.{level_at, AreOwnTerms, AreLastTerms}
use Rattle.settled_paths.proofs.Places.{width_of}

-- a path from its terms
settled_terms : {V : Type 0} (eq : V → V → Bool) (x : Ear V) (p : List ℕ) (w : ℕ) (terms : List (Wrapped V)) → length p ≤ x.rounds → length (outside x.members p) ≡ w → w ≤ length terms
    → ((j : ℕ) → j < w → get_or terms j (Fault 0) ≡ term_at eq x p (get_or (outside x.members p) j 0))
    → unwrapped (majority eq (take w (drop 0 terms))) ≡ settled_at eq x p
settled_terms {V} eq x p w terms short many room each =
    let others : List ℕ = outside x.members p in
    let front : List (Wrapped V) = take w (drop 0 terms) in
    let long : length front ≡ w = length-take-le w (drop 0 terms) room in
    let same : front ≡ map (term_at eq x p) others =
    ext_get_or (Fault 0) front (map (term_at eq x p) others) (omega (arith, long, many, length_mapped (term_at eq x p) others))
    (λ j l.
    let inside : j < w = omega (arith, long) in
    get_or-take w (drop 0 terms) j (Fault 0) inside ∙ each j inside ∙ sym (get_or-map (term_at eq x p) others j 0 (Fault 0) (omega (arith, many))))
    in
    ap (λ (ts : List (Wrapped V)). unwrapped (majority eq ts)) same ∙ sym (settled_at_later eq x p short)

-- ---- the paths of m nodes

pub longest_more : {V : Type 0} (eq : V → V → Bool) (x : Ear V) (place i last k w next : ℕ) (says : ℕ → List ℕ → Option (Wrapped V)) (path : List ℕ) (laid passed terms longest new : List (Wrapped V)) (value : Wrapped V)
    → Distinct x.members → place < length x.members → x.rounds ≡ suc last → AreLastTerms eq x place i says last laid → k < path_count (length x.members - 1) last
    → w ≡ length x.members - suc last → next ≡ level_at (length x.members - 1) (suc last) → path ≡ relay_path x.members place last k → passed ≡ take w (drop (next + k * w) laid) → w ≤ length terms → k < length longest
    → ((j : ℕ) → j < length (outside x.members path) → get_or terms j (Fault 0) ≡ or_passed (instead says i path (get_or (outside x.members path) j 0)) (get_or passed j (Fault 0)))
    → value ≡ unwrapped (majority eq (take w (drop 0 terms))) → new ≡ set longest k value
    → ((n : ℕ) → n < k → SettledAt eq x place last longest n) → (n : ℕ) → n < k + 1 → SettledAt eq x place last new n
longest_more {V} eq x place i last k w next says path laid passed terms longest new value d low m terms-are within w-is next-is path-is passed-is room here each v puts before n l off =
    elim (cases_eq n k) [
      | inl e ↦
          let now : has_id (relay_path x.members place last k) x.me ≡ false = ap (λ (a : ℕ). has_id (relay_path x.members place last a) x.me) (sym e) ∙ off in
          ap (λ (ts : List (Wrapped V)). get_or ts n (Fault 0)) puts ∙ ap (λ (a : ℕ). get_or (set longest k value) a (Fault 0)) e ∙ get_or-set_same longest k value (Fault 0) here ∙ v
          ∙ settled_terms eq x p w terms (let listed = relay_listed x.members place last k d low within in omega (arith, listed.long)) (many ∙ sym w-is) room (λ j inside. term j inside now)
          ∙ ap (λ (a : ℕ). settled_at eq x (relay_path x.members place last a)) (sym e)
      | inr ne ↦ ap (λ (ts : List (Wrapped V)). get_or ts n (Fault 0)) puts ∙ get_or-set_other longest k n value (Fault 0) ne ∙ before n (omega arith) off
    ]
  where
    p : List ℕ
    p = relay_path x.members place last k

    many : length (outside x.members (relay_path x.members place last k)) ≡ length x.members - suc last
    many = width_of x.members place last k d low within

    each_here : (j : ℕ) → j < length (outside x.members (relay_path x.members place last k)) → get_or terms j (Fault 0) ≡ or_passed (instead says i (relay_path x.members place last k) (get_or (outside x.members (relay_path x.members place last k)) j 0)) (get_or passed j (Fault 0))
    each_here = subst (λ (ns : List ℕ). (j : ℕ) → j < length (outside x.members ns) → get_or terms j (Fault 0) ≡ or_passed (instead says i ns (get_or (outside x.members ns) j 0)) (get_or passed j (Fault 0))) path-is each

    at : (j : ℕ) → j < w → get_or passed j (Fault 0) ≡ get_or laid (level_at (length x.members - 1) (suc last) + (k * (length x.members - suc last) + j)) (Fault 0)
    at j inside =
        let same : next + k * w + j ≡ level_at (length x.members - 1) (suc last) + (k * (length x.members - suc last) + j) = omega (arith, next-is, ap (λ (a : ℕ). k * a) w-is) in
        ap (λ (ts : List (Wrapped V)). get_or ts j (Fault 0)) passed-is ∙ get_or-take w (drop (next + k * w) laid) j (Fault 0) inside ∙ get_or-drop (next + k * w) laid j (Fault 0)
        ∙ ap (λ (a : ℕ). get_or laid a (Fault 0)) same

    term : (j : ℕ) → j < w → has_id (relay_path x.members place last k) x.me ≡ false → get_or terms j (Fault 0) ≡ term_at eq x (relay_path x.members place last k) (get_or (outside x.members (relay_path x.members place last k)) j 0)
    term j inside now =
        each_here j (omega (arith, many, w-is))
        ∙ ap (or_passed (instead says i (relay_path x.members place last k) (get_or (outside x.members (relay_path x.members place last k)) j 0))) (at j inside)
        ∙ terms-are.term k j within (omega arith) now

-- ---- one path with the node's own term

pub own_place : (n i place : ℕ) (others seen : List ℕ) → seen ≡ others → IsIdSet n seen → place ≡ place_of seen i → has_id seen i ≡ true → (place ≡ index_in others i) × (place < length others)
own_place n i place others seen is ids at on =
    let e : place ≡ index_in seen i = at ∙ place-index n seen i ids on in
    (e ∙ ap (λ (s : List ℕ). index_in s i) is, omega (arith, e, index_in-lt seen i on, ap length is))

pub own_laid : {V : Type 0} (n i from place : ℕ) (others seen : List ℕ) (own : Wrapped V) (work now : List (Wrapped V)) → seen ≡ others → IsIdSet n seen → place ≡ place_of seen i → has_id seen i ≡ true → now ≡ set work (from + place) own
    → now ≡ laid_own others i from own work
own_laid n i from place others seen own work now is ids at on puts =
    puts ∙ ap (λ (k : ℕ). set work (from + k) own) (own_place n i place others seen is ids at on).0
    ∙ sym (cond-true (has_id others i) (set work (from + index_in others i) own) work (ap (λ (s : List ℕ). has_id s i) (sym is) ∙ on))

pub own_unlaid : {V : Type 0} (i from : ℕ) (others seen : List ℕ) (own : Wrapped V) (work now : List (Wrapped V)) → seen ≡ others → has_id seen i ≡ false → now ≡ work → now ≡ laid_own others i from own work
own_unlaid i from others seen own work now is off same =
    same ∙ sym (cond-false (has_id others i) (set work (from + index_in others i) own) work (ap (λ (s : List ℕ). has_id s i) (sym is) ∙ off))

pub path_done : {V : Type 0} (eq : V → V → Bool) (others : List ℕ) (i k w : ℕ) (own value : Wrapped V) (work laid new : List (Wrapped V)) → w ≡ length others → laid ≡ laid_own others i (k * w) own work → new ≡ set laid k value
    → value ≡ unwrapped (majority eq (take w (drop (k * w) laid))) → new ≡ path_settled eq others i k (length others) own work
path_done {V} eq others i k w own value work laid new w-is laid-is puts v =
    puts ∙ ap (set laid k) v
    ∙ ap (λ (ts : List (Wrapped V)). set ts k (unwrapped (majority eq (take w (drop (k * w) ts))))) laid-is
    ∙ ap (λ (a : ℕ). path_settled eq others i k a own work) w-is

-- ---- the paths of fewer relays

pub shorter_more : {V : Type 0} (eq : V → V → Bool) (x : Ear V) (place r k w next : ℕ) (path : List ℕ) (laid work new : List (Wrapped V)) (own : Wrapped V)
    → Distinct x.members → place < length x.members → suc r ≤ x.rounds → AreOwnTerms x place laid → IsHalfway eq x place r work k → k < path_count (length x.members - 1) r
    → path_count (length x.members - 1) (suc r) ≤ length work → k < length work → w ≡ length x.members - suc r → next ≡ level_at (length x.members - 1) (suc r) → path ≡ relay_path x.members place r k
    → (has_id (outside x.members path) x.me ≡ true → own ≡ get_or laid (next + k * w + index_in (outside x.members path) x.me) (Fault 0))
    → new ≡ path_settled eq (outside x.members path) x.me k (length (outside x.members path)) own work → IsHalfway eq x place r new (k + 1)
shorter_more {V} eq x place r k w next path laid work new own d low short terms half within room here w-is next-is path-is own-is puts =
    subst (λ (ts : List (Wrapped V)). IsHalfway eq x place r ts (k + 1)) (sym (now ∙ same))
    (halfway_more eq x place r k work (own_term x p) (unwrapped (majority eq (take v (drop (k * v) (laid_own others x.me (k * v) (own_term x p) work))))) d low short half within room here refl refl)
  where
    p : List ℕ
    p = relay_path x.members place r k

    others : List ℕ
    others = outside x.members (relay_path x.members place r k)

    v : ℕ
    v = length x.members - suc r

    many : length (outside x.members (relay_path x.members place r k)) ≡ length x.members - suc r
    many = width_of x.members place r k d low within

    now : new ≡ path_settled eq (outside x.members (relay_path x.members place r k)) x.me k (length x.members - suc r) own work
    now = puts ∙ ap (λ (ns : List ℕ). path_settled eq (outside x.members ns) x.me k (length (outside x.members ns)) own work) path-is
        ∙ ap (λ (a : ℕ). path_settled eq (outside x.members (relay_path x.members place r k)) x.me k a own work) many

    own_here : has_id (outside x.members (relay_path x.members place r k)) x.me ≡ true → own ≡ get_or laid (next + k * w + index_in (outside x.members (relay_path x.members place r k)) x.me) (Fault 0)
    own_here = subst (λ (ns : List ℕ). has_id (outside x.members ns) x.me ≡ true → own ≡ get_or laid (next + k * w + index_in (outside x.members ns) x.me) (Fault 0)) path-is own-is

    laid_same : laid_own (outside x.members (relay_path x.members place r k)) x.me (k * (length x.members - suc r)) own work ≡ laid_own (outside x.members (relay_path x.members place r k)) x.me (k * (length x.members - suc r)) (own_term x (relay_path x.members place r k)) work
    laid_same = elim (cases_Bool (has_id others x.me)) [
      | inl on ↦
          let j : ℕ = index_in others x.me in
          let inside : j < length x.members - suc r = omega (arith, index_in-lt others x.me on, many) in
          let at : next + k * w + j ≡ level_at (length x.members - 1) (suc r) + (k * (length x.members - suc r) + j) = omega (arith, next-is, ap (λ (a : ℕ). k * a) w-is) in
          let e : own ≡ own_term x (relay_path x.members place r k) =
          own_here on ∙ ap (λ (a : ℕ). get_or laid a (Fault 0)) at ∙ terms.own r k j short within inside (at-index_in others x.me 0 on) in
          ap (λ (u : Wrapped V). laid_own others x.me (k * (length x.members - suc r)) u work) e
      | inr off ↦
          cond-false (has_id others x.me) (set work (k * (length x.members - suc r) + index_in others x.me) own) work off
          ∙ sym (cond-false (has_id others x.me) (set work (k * (length x.members - suc r) + index_in others x.me) (own_term x (relay_path x.members place r k))) work off)
    ]

    same : path_settled eq (outside x.members (relay_path x.members place r k)) x.me k (length x.members - suc r) own work
        ≡ set (laid_own (outside x.members (relay_path x.members place r k)) x.me (k * (length x.members - suc r)) (own_term x (relay_path x.members place r k)) work) k (unwrapped (majority eq (take (length x.members - suc r) (drop (k * (length x.members - suc r)) (laid_own (outside x.members (relay_path x.members place r k)) x.me (k * (length x.members - suc r)) (own_term x (relay_path x.members place r k)) work)))))
    same = ap (λ (ts : List (Wrapped V)). set ts k (unwrapped (majority eq (take (length x.members - suc r) (drop (k * (length x.members - suc r)) ts))))) laid_same

-- what was settled for paths of m nodes, copied
pub copied : {V : Type 0} (eq : V → V → Bool) (x : Ear V) (place last len : ℕ) (longest work new : List (Wrapped V)) → len ≡ path_count (length x.members - 1) last → len ≤ length longest → new ≡ take len longest ++ drop len work
    → AreSettled eq x place last longest → AreSettled eq x place last new
copied {V} eq x place last len longest work new is room copies settled k within off =
    let inside : k < len = omega arith in
    ap (λ (ts : List (Wrapped V)). get_or ts k (Fault 0)) copies
    ∙ get_or_append_left (take len longest) (drop len work) (Fault 0) k (omega (arith, length-take-le len longest room))
    ∙ get_or-take len longest k (Fault 0) inside ∙ settled k within off
