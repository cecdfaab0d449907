-- What a slot says of paths lies in range, and so does what a table heard after it.
use Rattle.std.proofs.Common.{ℕ, ◌≡◌, ◌+◌, ◌-◌, true, false, List, [], ◌∷◌, length, map, reverse, Option, None, Some, refl, sym, ap, subst, ◌∙◌, inl, inr, arith}
use Rattle.std.specs.Prelude.{All}
use Rattle.std.proofs.lemmas.Bool.{cases_Bool, cond-true, cond-false}
use Rattle.std.proofs.lemmas.List.{length-reverse}
use Rattle.node_grid.specs.Count.{Distinct}
use Rattle.omh_paths.specs.declared.wrapped.Wrapped.{Wrapped}
use Rattle.omh_paths.specs.declared.wrapped.Wrapped.TheVariants.{Fault}
use Rattle.omh_paths.specs.Paths.{same_nodes}
use Rattle.omh.specs.Heard.{Hearing, heard_in, heard_paths, nothing_heard, entry as entry_of}
use Rattle.frames.specs.Content.{Content, Expectation, IsEntry, IsClaim, IsRow, IsSized, round_in}
use Rattle.frames.specs.Content.Content.{State, Done0, DoneRelay, Data, Report0, ReportRelay, Cold}
use Rattle.error_detect.specs.Watching.{Watch, of_sender, told_at}
use Rattle.protocol.specs.Arrival.{ItemForm, arrived, read_as, claim_form, row_form}
use Rattle.protocol.specs.Arrival.Arrival.{Good}
use Rattle.protocol.specs.Heard.{paths_of, heard, heard_back}
use Rattle.protocol.specs.View.{content}
use Rattle.relay_rules.specs.Hearing.{has_path, slot_rounds, all_told, after_round}
use Rattle.relay_rules.specs.Ranged.{HeardIn, IsRanged}
use Rattle.relay_rules.specs.HearingLaws.{length_all}
use Rattle.node_steps.specs.TableRanges.{ranged_told, entry_in, said_in}
use Rattle.node_steps.specs.ToldInRange.{told_in_range}

-- ---- what a content says of an item is in range

pub record Speaks {V : Type 0} (form : ItemForm V) (P : V → Type 0) (e : Expectation) : Type 0 where
  pub item : (c : Content) (v : V) → form.item_in c ≡ Some v → IsSized e c → P v
  pub relay : (c : Content) (xs : List (Wrapped V)) → form.relay_in c ≡ Some xs → IsSized e c → All (IsEntry P (round_in e.m e.slot)) xs

or_else : {X : Type 0} → Option X → X → X
or_else None d = d
or_else (Some x) d = x

some_same : {X : Type 0} (x y : X) → Some x ≡ Some y → x ≡ y
unfolding or_else
some_same x y h = ap (λ o. or_else o x) h

pub claims_speak : (e : Expectation) → Speaks claim_form (IsClaim e.tasks) e
claims_speak e = record { item = item; relay = relay } where
  item : (c : Content) (v : ℕ) → claim_form.item_in c ≡ Some v → IsSized e c → IsClaim e.tasks v
  item (Done0 t) v h s = subst (IsClaim e.tasks) (some_same t v h) s
  item (State b) v h s = absurd (cc)
  item (DoneRelay b) v h s = absurd (cc)
  item (Data b) v h s = absurd (cc)
  item (Report0 b) v h s = absurd (cc)
  item (ReportRelay b) v h s = absurd (cc)
  item Cold v h s = absurd (cc)

  relay : (c : Content) (xs : List (Wrapped ℕ)) → claim_form.relay_in c ≡ Some xs → IsSized e c → All (IsEntry (IsClaim e.tasks) (round_in e.m e.slot)) xs
  relay (DoneRelay ys) xs h s = subst (λ zs. All (IsEntry (IsClaim e.tasks) (round_in e.m e.slot)) zs) (some_same ys xs h) s.1
  relay (State b) v h s = absurd (cc)
  relay (Done0 b) v h s = absurd (cc)
  relay (Data b) v h s = absurd (cc)
  relay (Report0 b) v h s = absurd (cc)
  relay (ReportRelay b) v h s = absurd (cc)
  relay Cold v h s = absurd (cc)

pub rows_speak : (e : Expectation) → Speaks row_form (IsRow e.version e.capacity e.nodes) e
rows_speak e = record { item = item; relay = relay } where
  item : (c : Content) (v : List ℕ) → row_form.item_in c ≡ Some v → IsSized e c → IsRow e.version e.capacity e.nodes v
  item (Report0 t) v h s = subst (IsRow e.version e.capacity e.nodes) (some_same t v h) s
  item (State b) v h s = absurd (cc)
  item (Done0 b) v h s = absurd (cc)
  item (DoneRelay b) v h s = absurd (cc)
  item (Data b) v h s = absurd (cc)
  item (ReportRelay b) v h s = absurd (cc)
  item Cold v h s = absurd (cc)

  relay : (c : Content) (xs : List (Wrapped (List ℕ))) → row_form.relay_in c ≡ Some xs → IsSized e c → All (IsEntry (IsRow e.version e.capacity e.nodes) (round_in e.m e.slot)) xs
  relay (ReportRelay ys) xs h s = subst (λ zs. All (IsEntry (IsRow e.version e.capacity e.nodes) (round_in e.m e.slot)) zs) (some_same ys xs h) s.1
  relay (State b) v h s = absurd (cc)
  relay (Done0 b) v h s = absurd (cc)
  relay (DoneRelay b) v h s = absurd (cc)
  relay (Data b) v h s = absurd (cc)
  relay (Report0 b) v h s = absurd (cc)
  relay Cold v h s = absurd (cc)

good_is : {C : Type 0} (part : Content → Option C) (o : Option Content) (v : C) → arrived part None o ≡ Good v → (c : Content) × ((o ≡ Some c) × (part c ≡ Some v))
good_is part None v h = absurd (cc)
good_is {C} part (Some c) v h = (c, (refl, inner (part c) h)) where
  inner : (x : Option C) → read_as x ≡ Good v → x ≡ Some v
  inner None g = absurd (cc)
  inner (Some y) g = ap content g

-- what the slot of round r says of a path of that round
spoken : {V : Type 0} (form : ItemForm V) (P : V → Type 0) (w : Watch) (e : Expectation) (members : List ℕ) (me r nodes : ℕ) → w.expect ≡ Some e → ((j : ℕ) → Speaks form P (of_sender j e)) → round_in e.m e.slot ≡ r → Distinct members
    → (p : List ℕ) → has_path (all_told members me r nodes) p ≡ true → HeardIn P (length p - 1) (heard (slot_rounds form members w) p)
spoken {V} form P w e members me r nodes is speaks round d p on =
    let n : length p ≡ r + 1 = length_all members me r nodes p d on ∙ omega arith in
    let m : r ≡ length p - 1 = omega arith in
    subst (λ (k : ℕ). HeardIn P k (heard (slot_rounds form members w) p)) m (go (reverse p) (length-reverse p ∙ n))
  where
    go : (b : List ℕ) → length b ≡ r + 1 → HeardIn P r (heard_back (slot_rounds form members w) b)
    go [] h = absurd (omega arith)
    go (q ∷ []) h =
        let z : 0 ≡ r = omega arith in
        subst (λ (k : ℕ). HeardIn P k (heard_back (slot_rounds form members w) (q ∷ []))) z
        (said_in P (arrived form.item_in None (told_at w q)) (λ v g. let k = good_is form.item_in (told_at w q) v g in (speaks q).item k.0 v k.1.1 (told_in_range w e q k.0 is k.1.0).sized))
    go (q ∷ c ∷ back) h =
        entry_in P r (paths_of members (length (c ∷ back)) q) (arrived form.relay_in None (told_at w q)) (reverse (c ∷ back))
        (λ xs g. let k = good_is form.relay_in (told_at w q) xs g in subst (λ (n : ℕ). All (IsEntry P n) xs) round ((speaks q).relay k.0 xs k.1.1 (told_in_range w e q k.0 is k.1.0).sized))

-- a table stays in range over a round
pub round_ranged : {V : Type 0} (form : ItemForm V) (P : V → Type 0) (w : Watch) (e : Expectation) (nodes r : ℕ) (h : Hearing V) → w.expect ≡ Some e → ((j : ℕ) → Speaks form P (of_sender j e)) → round_in e.m e.slot ≡ r → Distinct h.members
    → IsRanged P h.heard → IsRanged P (after_round form nodes w r h).heard
round_ranged form P w e nodes r h is speaks round d ranged =
    ranged_told P (all_told h.members h.me r nodes) (heard (slot_rounds form h.members w)) h.heard ranged (spoken form P w e h.members h.me r nodes is speaks round d)

-- a table that heard nothing is in range
pub nothing_ranged : {V : Type 0} (P : V → Type 0) (members : List ℕ) (me rounds : ℕ) → IsRanged {V = V} P (nothing_heard members me rounds)
nothing_ranged {V} P members me rounds = record { each = λ p. go p (heard_paths members me rounds) } where
  go : (p : List ℕ) (ps : List (List ℕ)) → HeardIn P (length p - 1) (heard_in (map (entry_of (λ path. Fault 0)) ps) p)
  go p [] = omega arith
  go p (q ∷ ps) = elim (cases_Bool (same_nodes q p)) [
    | inl y ↦ subst (HeardIn P (length p - 1)) (sym (cond-true (same_nodes q p) (Fault 0) (heard_in (map (entry_of (λ path. Fault 0)) ps) p) y)) (omega arith)
    | inr n ↦ subst (HeardIn P (length p - 1)) (sym (cond-false (same_nodes q p) (Fault 0) (heard_in (map (entry_of (λ path. Fault 0)) ps) p) n)) (go p ps)
  ]
