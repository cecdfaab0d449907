-- What a relay frame says of a path that ends in its sender.
use Rattle.std.proofs.Common.{ℕ, ◌≡◌, ◌<◌, ◌+◌, ◌==◌, true, false, List, [], ◌∷◌, ◌++◌, length, map, take, get_or, refl, sym, ap, subst, ◌∙◌, arith, None}
use Rattle.std.specs.Prelude.{slice_index_or}
use Rattle.std.specs.List.{AllByRecursion}
use Rattle.std.proofs.lemmas.Bool.{both_ways, or_left}
use Rattle.std.proofs.lemmas.List.{length_push}
use Rattle.node_grid.specs.NodeSet.{has_id, without_id}
use Rattle.node_grid.specs.Count.{Distinct}
use Rattle.node_grid.specs.SetFacts.{has-without, front_distinct, split_off}
use Rattle.omh_paths.specs.declared.wrapped.Wrapped.{Wrapped}
use Rattle.omh_paths.specs.declared.wrapped.Wrapped.TheVariants.{Fault}
use Rattle.omh_paths.specs.Paths.{paths_of_length, place_in}
use Rattle.node_grid.specs.ListLaws.{has_push}
use Rattle.omh_paths.specs.PathLists.{length-paths, Distinct-without, place-lt}
use Rattle.omh.specs.Heard.{Entry}
use Rattle.omh.specs.HeardLaws.{IsHeardPath}
use Rattle.omh.specs.Written.{last_node}
use Rattle.omh.specs.Facts.{last_push}
use Rattle.error_detect.specs.Watching.{Watch, told_at}
use Rattle.protocol.specs.Arrival.{Arrival, ItemForm, arrived}
use Rattle.protocol.specs.Arrival.Arrival.{Bad, Good}
use Rattle.protocol.specs.Heard.{with_entries, entry, heard, paths_of}
use Rattle.protocol.specs.Facts.{looked_up_place}
use Rattle.relay_rules.specs.Hearing.{slot_rounds, frame_says}
use Rattle.protocol.specs.TalkLaws.{heard_push, paths_of_member}
use Rattle.relay_rules.specs.HearingLaws.{Split, split}

at_push : (p : List ℕ) (q : ℕ) → get_or (p ++ q ∷ []) (length p) 0 ≡ q
at_push [] q = refl
at_push (x ∷ p) q = at_push p q

-- a path that ends in a node, without it
pub record Behind (members : List ℕ) (r q : ℕ) (p : List ℕ) : Type 0 where
  pub front : List ℕ
  pub is : p ≡ front ++ q ∷ []
  pub long : length front ≡ r
  pub placed : place_in (paths_of_length (without_id members q) r) front < length (paths_of_length (without_id members q) r)

pub behind : (members : List ℕ) (me rounds r q : ℕ) (p : List ℕ) → Distinct members → IsHeardPath members me rounds p → length p ≡ r + 1 → last_node p ≡ q → Behind members r q p
behind members me rounds r q p d real long end =
    let c : Split p = split p real.some in
    let last : c.last ≡ q = sym (last_push c.front c.last) ∙ ap last_node (sym c.is) ∙ end in
    let is : p ≡ c.front ++ q ∷ [] = c.is ∙ ap (λ (x : ℕ). c.front ++ x ∷ []) last in
    let len : length c.front ≡ r = (let e = length_push c.front q in let f = ap length is in omega arith) in
    let dp : Distinct (c.front ++ q ∷ []) = subst Distinct is real.distinct in
    let s : List ℕ = without_id members q in
    let off-q : has_id c.front q ≡ false = split_off c.front q dp in
    let inside : (x : ℕ) → has_id c.front x ≡ true → has_id s x ≡ true = λ x x-on.
    has-without members q x (λ e. both_ways _ off-q (ap (has_id c.front) (sym e) ∙ x-on))
    (real.within x (ap (λ (y : List ℕ). has_id y x) is ∙ has_push c.front q x ∙ or_left (has_id c.front x) (q == x) x-on)) in
    let at : place_in (paths_of_length s (length c.front)) c.front < length (paths_of_length s (length c.front)) =
    (let e = length-paths s (length c.front) (Distinct-without members q d) in let l = place-lt s c.front (Distinct-without members q d) (front_distinct c.front q dp) inside in omega arith) in
    record {
      front = c.front;
      is = is;
      long = len;
      placed = subst (λ (k : ℕ). place_in (paths_of_length s k) c.front < length (paths_of_length s k)) len at;
    }

-- ---- what it says of them

take-front : (xs old : List ℕ) → take (length xs) (xs ++ old) ≡ xs
take-front [] old = refl
take-front (x ∷ xs) old = ap (λ (ys : List ℕ). x ∷ ys) (take-front xs old)

entry_says : {V : Type 0} (a : Arrival (List (Wrapped V))) (members : List ℕ) (r q : ℕ) (front : List ℕ) → length front ≡ r → place_in (paths_of_length (without_id members q) r) front < length (paths_of_length (without_id members q) r)
    → frame_says members q r a (front ++ q ∷ []) ≡ entry (with_entries (paths_of_length (without_id members q) r) a) front
entry_says (Bad x) members r q front long low = refl
entry_says (Good xs) members r q front long low =
    let ps : List (List ℕ) = paths_of_length (without_id members q) r in
    let t : take r (front ++ q ∷ []) ≡ front = ap (λ (n : ℕ). take n (front ++ q ∷ [])) (sym long) ∙ take-front front (q ∷ []) in
    ap (λ (p : List ℕ). slice_index_or xs (place_in ps p) (Fault 0)) t ∙ sym (looked_up_place ps xs front low)

pub says_heard : {V : Type 0} (form : ItemForm V) (members : List ℕ) (w : Watch) (me rounds r q : ℕ) (p : List ℕ) → Distinct members → IsHeardPath members me rounds p → has_id members q ≡ true → 0 < r → length p ≡ r + 1 → last_node p ≡ q
    → frame_says members q r (arrived form.relay_in None (told_at w q)) p ≡ heard (slot_rounds form members w) p
says_heard {V} form members w me rounds r q p d real on some long end =
    let b : Behind members r q p = behind members me rounds r q p d real long end in
    let a : Arrival (List (Wrapped V)) = arrived form.relay_in None (told_at w q) in
    ap (frame_says members q r a) b.is
    ∙ entry_says a members r q b.front b.long b.placed
    ∙ sym (ap (heard (slot_rounds form members w)) b.is
    ∙ heard_push (slot_rounds form members w) b.front q (let l = b.long in omega arith)
    ∙ ap (λ (n : ℕ). entry (with_entries (paths_of members n q) a) b.front) b.long
    ∙ ap (λ (ps : List (List ℕ)). entry (with_entries ps a) b.front) (paths_of_member members r q on))

-- ---- each of what was heard

pub each_entry : {V : Type 0} (P : List ℕ → Type 0) (es : List (Entry V)) → AllByRecursion P (map (λ (e : Entry V). e.path) es) → AllByRecursion (λ (e : Entry V). P e.path) es
each_entry P [] h = tt
each_entry P (e ∷ es) h = (h.0, each_entry P es h.1)

pub where_all : {X : Type 0} (P Q : X → Type 0) (xs : List X) → AllByRecursion P xs → ((x : X) → P x → Q x) → AllByRecursion Q xs
where_all P Q [] a h = tt
where_all P Q (x ∷ xs) a h = (h x a.0, where_all P Q xs a.1 h)
