-- The slots of an item, as they add up.
use Rattle.std.proofs.Common.{ℕ, zero, suc, ◌≡◌, ◌≢◌, ◌<◌, ◌≤◌, ◌+◌, ◌==◌, ◌&&◌, Bool, true, false, if◌then◌else◌, List, [], ◌∷◌, ◌++◌, length, map, refl, sym, ap, ap₂, ◌∙◌, inl, inr, arith, eq-eqb, eqb-true, ne_eqb, Option, None, Some}
use Rattle.std.specs.Prelude.{nat_le}
use Rattle.std.specs.List.{range_with_len}
use Rattle.std.proofs.lemmas.Bool.{cases_Bool, cases_lt, cond-true, cond-false, both_ways, or_parts, or_from, or_cases, eqb-false, or_right}
use Rattle.std.proofs.lemmas.Bool.Decides.{nat_tests}
use Rattle.std.proofs.lemmas.List.{length_push}
use Rattle.node_grid.specs.NodeSet.{has_id, IsIdSet}
use Rattle.node_grid.specs.SetFacts.{member-lt}
use Rattle.omh_paths.specs.declared.wrapped.Wrapped.{Wrapped}
use Rattle.omh_paths.specs.declared.wrapped.Wrapped.TheVariants.{Plain, Fault}
use Rattle.omh_paths.specs.MemberLaws.{Distinct-ids}
use Rattle.node_grid.specs.ListLaws.{has_push}
use Rattle.omh.specs.Omh.{settled_from}
use Rattle.omh.specs.Heard.{Entry, entry as tabled, heard_in, heard_paths, ear_of}
use Rattle.omh.specs.HeardLaws.{IsHeardPath, heard_in-at, settled_as, IsHeardPath-root}
use Rattle.equivocation.specs.Conviction.{convicts}
use Rattle.equivocation.specs.ConvictionLaws.{unrelayed, convicts_alike}
use Rattle.frames.specs.Content.{Content}
use Rattle.error_detect.specs.Finding.{kind_of}
use Rattle.error_detect.specs.Watching.{Watch, told_at, finding_at}
use Rattle.protocol.specs.Arrival.{ItemForm, arrived, said}
use Rattle.protocol.specs.Heard.{Rounds, paths_of, with_entries, entry, heard}
use Rattle.protocol.specs.FurtherKinds.{convicts_member}
use Rattle.protocol.specs.Settled.{plain, settled_items, ear_of as ear_by}
use Rattle.relay_rules.specs.Hearing.{slot_rounds, after_round}
use Rattle.relay_rules.specs.Settling.{settled_in}
use Rattle.node_steps.specs.At.{heard_upto, table_at, IsRound}
use Rattle.protocol.specs.TalkLaws.{heard_push}
use Rattle.relay_rules.specs.HearingLaws.{Split, split, slot_tabled}

-- a kind of error goes with nothing said
pub record Agrees (k : Option ℕ) (o : Option Content) : Type 0 where
  pub none : (n : ℕ) → k ≡ Some n → o ≡ None

said_any : {C : Type 0} (part : Content → Option C) (k : Option ℕ) (o : Option Content) → Agrees k o → said (arrived part None o) ≡ said (arrived part k o)
said_any part None o h = refl
said_any part (Some n) o h = ap (λ u. said (arrived part None u)) (h.none n refl)

entry_any : {V : Type 0} (part : Content → Option (List (Wrapped V))) (ps : List (List ℕ)) (k : Option ℕ) (o : Option Content) (p : List ℕ) → Agrees k o
    → entry (with_entries ps (arrived part None o)) p ≡ entry (with_entries ps (arrived part k o)) p
entry_any part ps None o p h = refl
entry_any part ps (Some n) o p h = ap (λ u. entry (with_entries ps (arrived part None u)) p) (h.none n refl)

-- what a slot says of a path is what is heard for it
says_heard : {V : Type 0} (form : ItemForm V) (members : List ℕ) (me rounds nodes r : ℕ) (w : Watch) (x : Rounds V) (p : List ℕ) (c : Split p) → IsIdSet nodes members → ((j : ℕ) → Agrees (kind_of (finding_at w j)) (told_at w j))
    → IsRound form members me nodes r w x → IsHeardPath members me rounds p → length p ≡ suc r → heard (slot_rounds form members w) p ≡ heard x p
says_heard {V} form members me rounds nodes r w x p c ids agree round real long =
    let q : ℕ = c.last in
    let on-p : has_id p q ≡ true = ap (λ (y : List ℕ). has_id y q) c.is ∙ has_push c.front q q ∙ or_right (has_id c.front q) (q == q) (eq-eqb q q refl) in
    let low : q < nodes = member-lt nodes members q ids (real.within q on-p) in
    let ne : q ≢ me = λ e. both_ways _ real.other (ap (has_id p) (sym e) ∙ on-p) in
    let len : length c.front ≡ r = (let e = length_push c.front q in let f = ap length c.is in omega arith) in
    ap (heard (slot_rounds form members w)) c.is ∙ go r c.front len q low ne round ∙ ap (heard x) (sym c.is)
  where
    go : (r : ℕ) (front : List ℕ) → length front ≡ r → (q : ℕ) → q < nodes → q ≢ me → IsRound form members me nodes r w x → heard (slot_rounds form members w) (front ++ q ∷ []) ≡ heard x (front ++ q ∷ [])
    go zero [] e q low ne round = said_any form.item_in (kind_of (finding_at w q)) (told_at w q) (agree q) ∙ ap said (sym (round.first refl q low ne))
    go zero (y ∷ ys) e q low ne round = absurd (omega arith)
    go (suc r) front e q low ne round =
        heard_push (slot_rounds form members w) front q (omega arith)
        ∙ ap (λ n. entry (with_entries (paths_of members n q) (arrived form.relay_in None (told_at w q))) front) e
        ∙ entry_any form.relay_in (paths_of members (suc r) q) (kind_of (finding_at w q)) (told_at w q) front (agree q)
        ∙ ap (λ a. entry a front) (sym (round.relay (omega arith) q low ne))
        ∙ ap (λ n. entry (x.relay n q) front) (sym e)
        ∙ sym (heard_push x front q (omega arith))

pub upto_here : {V : Type 0} (n : ℕ) (x : Rounds V) (p : List ℕ) → length p ≤ n → heard_upto n x p ≡ heard x p
upto_here n x p h = cond-true (nat_le (length p) n) (heard x p) (Fault 0) (test (length p) n h) where
  test : (a b : ℕ) → a ≤ b → nat_le a b ≡ true
  test a b h = grind (arith, nat_tests)

upto_next : {V : Type 0} (r : ℕ) (x : Rounds V) (p : List ℕ) → length p ≢ suc r → heard_upto r x p ≡ heard_upto (suc r) x p
upto_next r x p h = ap (λ (b : Bool). if b then heard x p else Fault 0) (test (length p) r h) where
  test : (a r : ℕ) → a ≢ suc r → nat_le a r ≡ nat_le a (suc r)
  test a r h = grind (arith, nat_tests)

-- a round more
pub round_more : {V : Type 0} (form : ItemForm V) (members : List ℕ) (me m nodes r : ℕ) (full : Bool) (own : V) (w : Watch) (x : Rounds V) → IsIdSet nodes members → ((j : ℕ) → Agrees (kind_of (finding_at w j)) (told_at w j))
    → IsRound form members me nodes r w x → after_round form nodes w r (table_at nodes m members me full own r x) ≡ table_at nodes m members me full own (suc r) x
round_more {V} form members me m nodes r full own w x ids agree round =
    ap (λ (es : List (Entry V)). record { nodes = nodes; rounds = m; members = members; me = me; full = full; own = Plain own; heard = es })
    (slot_tabled (heard_upto r x) (heard (slot_rounds form members w)) (heard_upto (suc r) x) members me m nodes r ids
    (λ p real long. says_heard form members me m nodes r w x p (split p (omega arith)) ids agree round real long ∙ sym (upto_here (suc r) x p (omega arith)))
    (λ p real ne. upto_next r x p ne))

map_each : {X : Type 0} (f g : ℕ → X) (a n : ℕ) → ((c : ℕ) → f c ≡ g c) → map f (range_with_len a n) ≡ map g (range_with_len a n)
map_each f g a zero h = refl
map_each f g a (suc n) h = ap₂ ◌∷◌ (h a) (map_each f g (a + 1) n h)

-- what is settled from a full table is what is settled from what was heard
pub settled_tabled : {V : Type 0} (eq : V → V → Bool) (capacity nodes m : ℕ) (members : List ℕ) (me : ℕ) (full : Bool) (own : V) (x : Rounds V) → IsIdSet nodes members
    → settled_in eq capacity (table_at nodes m members me full own (suc m) x) ≡ settled_items eq capacity m me full members x own
settled_tabled {V} eq capacity nodes m members me full own x ids = map_each _ _ 0 capacity (λ c. elim (cases_Bool (has_id members c)) [
  | inl on ↦ cond-true (has_id members c) _ None on ∙ ap plain (item c on) ∙ sym (cond-true (has_id members c) _ None on)
  | inr off ↦ cond-false (has_id members c) _ None off ∙ sym (cond-false (has_id members c) _ None off)
])
  where
    heard_same : (p : List ℕ) → IsHeardPath members me m p → heard_in (map (tabled (heard_upto (suc m) x)) (heard_paths members me m)) p ≡ heard x p
    heard_same p real = heard_in-at (heard_upto (suc m) x) members me m p (Distinct-ids nodes members ids) real ∙ upto_here (suc m) x p (let l = real.short in omega arith)

    item : (c : ℕ) → has_id members c ≡ true → settled_from eq (ear_of (table_at nodes m members me full own (suc m) x)) (Plain own) c ≡ settled_from eq (ear_by m me full members x) (Plain own) c
    item c on = elim (cases_Bool (c == me)) [
      | inl y ↦ cond-true (c == me) (if full then Plain own else Fault 0) _ y ∙ sym (cond-true (c == me) (if full then Plain own else Fault 0) _ y)
      | inr n ↦
          let ne = λ (e : c ≡ me). both_ways _ n (eq-eqb c me e) in
          cond-false (c == me) (if full then Plain own else Fault 0) _ n
          ∙ settled_as eq (ear_of (table_at nodes m members me full own (suc m) x)) (heard x) heard_same (c ∷ []) (IsHeardPath-root m c on ne)
          ∙ sym (cond-false (c == me) (if full then Plain own else Fault 0) _ n)
    ]

-- whom a node convicts by a full table it convicts by what was heard
pub convicts_tabled : {V : Type 0} (eq : V → V → Bool) (nodes m : ℕ) (members : List ℕ) (me : ℕ) (full : Bool) (own : V) (x : Rounds V) → IsIdSet nodes members → (c : ℕ) → c ≢ me
    → convicts_member eq (ear_of (table_at nodes m members me full own (suc m) x)) c ≡ convicts_member eq (ear_by m me full members x) c
convicts_tabled {V} eq nodes m members me full own x ids c ne = elim (cases_Bool (has_id members c)) [
  | inr off ↦ ap (λ (b : Bool). b && convicts eq (ear_of (table_at nodes m members me full own (suc m) x)) c) off ∙ sym (ap (λ (b : Bool). b && convicts eq (ear_by m me full members x) c) off)
  | inl on ↦ ap (λ (b : Bool). has_id members c && b) (elim (cases_lt 0 m) [
    | inr none ↦ unrelayed eq _ _ _ m (omega arith) ∙ sym (unrelayed eq _ _ _ m (omega arith))
    | inl some ↦ convicts_alike eq (ear_of (table_at nodes m members me full own (suc m) x)) (ear_by m me full members x) c refl refl refl refl (heard_same (c ∷ []) (IsHeardPath-root m c on ne))
        (λ q also off. heard_same (c ∷ q ∷ []) (direct q on also off some))
  ])
]
  where
    heard_same : (p : List ℕ) → IsHeardPath members me m p → heard_in (map (tabled (heard_upto (suc m) x)) (heard_paths members me m)) p ≡ heard x p
    heard_same p real = heard_in-at (heard_upto (suc m) x) members me m p (Distinct-ids nodes members ids) real ∙ upto_here (suc m) x p (let l = real.short in omega arith)

    direct : (q : ℕ) → has_id members c ≡ true → has_id members q ≡ true → has_id (c ∷ me ∷ []) q ≡ false → 0 < m → IsHeardPath members me m (c ∷ q ∷ [])
    direct q on also off some =
        let a = or_parts (c == q) (has_id (me ∷ []) q) off in
        let b = or_parts (me == q) false a.1 in
        record {
          distinct = (or_from _ _ (ne_eqb q c (λ e. eqb-false c q a.0 (sym e))) refl, (refl, tt));
          within = λ x h. elim (or_cases (c == x) _ h) [
            | inl here ↦ ap (has_id members) (sym (eqb-true c x here)) ∙ on
            | inr later ↦ elim (or_cases (q == x) false later) [
              | inl here ↦ ap (has_id members) (sym (eqb-true q x here)) ∙ also
              | inr none ↦ cc
            ]
          ];
          other = or_from _ _ (ne_eqb c me ne) (or_from _ _ (ne_eqb q me (λ e. eqb-false me q b.0 (sym e))) refl);
          some = omega arith;
          short = omega arith;
        }
