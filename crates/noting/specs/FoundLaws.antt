-- What was found of a slot's frames tells what there is against them: a frame that was found Good is one of the slot's.
use Rattle.std.proofs.Common.{ℕ, ◌≡◌, ◌≢◌, ◌<◌, ◌≤◌, ◌+◌, ◌==◌, ◌||◌, ◌&&◌, Bool, true, false, not, if◌then◌else◌, List, refl, sym, ap, ap₂, subst, ◌∙◌, inl, inr, arith, eq-eqb, ne_eqb, Option, None, Some}
use Rattle.std.specs.Prelude.{slice_index_or, is_none, IsSome, IfSome}
use Rattle.std.proofs.lemmas.Bool.{cases_eq, false≢true}
use Rattle.std.proofs.lemmas.Bool.Decides.{nat_tests}
use Rattle.std.proofs.lemmas.List.FromFn.{get_or-map-range_with_len}
use Rattle.node_grid.specs.Kinds.{deviate}
use Rattle.node_grid.specs.NodeSet.{has_id, ids_where}
use Rattle.node_grid.specs.NodeSetLaws.{filter_range, has-filter}
use Rattle.node_grid.specs.Version.{kind_count}
use Rattle.frames.specs.Content.{Content, Expectation, kind, kind_in, State, Done0, DoneRelay, Data, Report0, ReportRelay, Cold}
use Rattle.frames.specs.FrameKinds.{state_kind, claim_kind, claim_relay_kind, data_kind, row_kind, row_relay_kind}
use Rattle.error_detect.specs.declared.finding.Finding.{Finding}
use Rattle.error_detect.specs.declared.finding.Finding.TheVariants as finding
use Rattle.error_detect.specs.Finding.{kind_of, is_good_at}
use Rattle.error_detect.specs.Finding as found_as
use Rattle.error_detect.specs.Watching.{Watch, of_sender, finding_at, findings, told_at}
use Rattle.error_detect.specs.Good.{IsToldWith}
use Rattle.error_detect.specs.GoodLaws.{good_fits}
use Rattle.error_reports.specs.Charge.{accuses}
use Rattle.error_reports.specs.Notes.{Notes, noted_besides, is_kind, of_each, also_noted, also_carried}
use Rattle.error_reports.specs.NoteLaws.{SayTheSame, noted_alike, carried_alike}
use Rattle.protocol.specs.Arrival.{ItemForm, arrived, read_as, is_bad, is_good, body_said, claim_in, claims_in, values_in, row_in, rows_in, claim_form, row_form}
use Rattle.protocol.specs.Arrival.Arrival.{Good}
use Rattle.protocol.specs.View.{Setting, other_body, row_by}
use Rattle.protocol.specs.Facts.{none_bad}
use Rattle.noting.specs.Findings.{has_of, bad_in, good_in, found_bad}

-- ---- what a frame of the slot's kind says

-- a part of the contents of one kind
abbrev pub IsPartOf : {C : Type 0} → (Content → Option C) → ℕ → Type 0
IsPartOf part n = (c : Content) → is_good (read_as (part c)) ≡ (kind c == n)

-- each content has one part
parts : (c : Content) → (is_good (read_as (body_said c)) ≡ (kind c == state_kind)) × (is_good (read_as (claim_in c)) ≡ (kind c == claim_kind))
    × (is_good (read_as (claims_in c)) ≡ (kind c == claim_relay_kind)) × (is_good (read_as (values_in c)) ≡ (kind c == data_kind))
    × (is_good (read_as (row_in c)) ≡ (kind c == row_kind)) × (is_good (read_as (rows_in c)) ≡ (kind c == row_relay_kind))
parts (State x) = (refl, refl, refl, refl, refl, refl)
parts (Done0 x) = (refl, refl, refl, refl, refl, refl)
parts (DoneRelay x) = (refl, refl, refl, refl, refl, refl)
parts (Data x) = (refl, refl, refl, refl, refl, refl)
parts (Report0 x) = (refl, refl, refl, refl, refl, refl)
parts (ReportRelay x) = (refl, refl, refl, refl, refl, refl)
parts Cold = (refl, refl, refl, refl, refl, refl)

-- where that has its place in the slot, it is good exactly where the finding is, and bad as the finding is
by_finding : {C : Type 0} (part : Content → Option C) (e : Expectation) → IsPartOf part (kind_in e.m e.slot) → (error : Option ℕ) (o : Option Content) → IsToldWith e error o
    → (is_good (arrived part error o) ≡ is_none error) × ((k : ℕ) → is_kind error k ≡ is_bad (arrived part error o) k)
by_finding part e of (Some x) o told = (refl, λ k. refl)
by_finding part e of None o told =
    let good : is_good (arrived part None o) ≡ true =
    ap (λ (p : Option Content). is_good (arrived part None p)) told.1 ∙ of told.0 ∙ eq-eqb (kind told.0) (kind_in e.m e.slot) told.2 in
    (good, λ k. sym (none_bad (arrived part None o) k good))

-- another node's frame in a slot in which this is expected
in_slot : {C : Type 0} (part : Content → Option C) (w : Watch) (e : Expectation) (j : ℕ) → w.expect ≡ Some e → IsPartOf part (kind_in e.m e.slot) → j < w.nodes → j ≢ w.me
    → (is_good (has_of part w j) ≡ is_none (kind_of (finding_at w j))) × ((k : ℕ) → is_kind (kind_of (finding_at w j)) k ≡ is_bad (has_of part w j) k)
in_slot part w e j is of low other = by_finding part (of_sender j e) of (kind_of (finding_at w j)) (told_at w j) (good_fits w e j is low other)

found_at : (n : ℕ) (w : Watch) (j : ℕ) → j < n → slice_index_or (findings n w) j finding.Good ≡ finding_at w j
found_at n w j low = get_or-map-range_with_len (finding_at w) 0 n j j finding.Good low (omega arith)

-- ---- the kinds of slots

of_kind : {C : Type 0} (part : Content → Option C) (a b : ℕ) → IsPartOf part a → b ≡ a → IsPartOf part b
of_kind part a b h e = subst (IsPartOf part) (sym e) h

sync_kind : (m slot : ℕ) → slot ≡ 0 → kind_in m slot ≡ state_kind
sync_kind m slot e = ap (kind_in m) e

values_kind : (m slot : ℕ) → slot ≡ m + 2 → kind_in m slot ≡ data_kind
values_kind m slot e = ap (kind_in m) e ∙ grind (arith, nat_tests)

claims_kind : (m slot r : ℕ) → slot ≡ r + 1 → r ≤ m → kind_in m slot ≡ (if r == 0 then claim_kind else claim_relay_kind)
claims_kind m slot r e few = ap (kind_in m) e ∙ grind (arith, nat_tests)

rows_kind : (m slot r : ℕ) → slot ≡ m + 3 + r → r ≤ m → kind_in m slot ≡ (if r == 0 then row_kind else row_relay_kind)
rows_kind m slot r e few = ap (kind_in m) e ∙ grind (arith, nat_tests)

-- ---- notes of a slot

-- what is expected in a slot that was opened as the first
pub the_slot : (o : Option Expectation) → IsSome o → IfSome o (λ e. e.slot ≡ 0) → (e : Expectation) × (o ≡ Some e) × (e.slot ≡ 0)
the_slot None some first = absurd (false≢true some)
the_slot (Some e) some first = (e, refl, first)

-- a slot that node `me` of the notes watches, and in which this is expected
pub record IsWatched (n : Notes) (w : Watch) (e : Expectation) : Type 0 where
  pub nodes_are : w.nodes ≡ n.nodes
  pub me_is : w.me ≡ n.me
  pub expects : w.expect ≡ Some e

-- what was found of each other node is what its frame brings against it
pub part_found : {C : Type 0} (part : Content → Option C) (capacity : ℕ) (n : Notes) (w : Watch) (e : Expectation) → IsWatched n w e → IsPartOf part (kind_in e.m e.slot)
    → SayTheSame capacity n (found_bad (findings capacity w)) (λ j k. is_bad (has_of part w j) k)
part_found part capacity n w e is of = λ j k low used other within.
    ap (λ (f : Finding). is_kind (kind_of f) k) (found_at capacity w j low)
    ∙ (in_slot part w e j is.expects of (let z = is.nodes_are in omega arith) (λ q. other (q ∙ is.me_is))).1 k

round_found : {V : Type 0} (form : ItemForm V) (own relay capacity : ℕ) (n : Notes) (w : Watch) (e : Expectation) (r : ℕ) → IsWatched n w e → IsPartOf form.item_in own → IsPartOf form.relay_in relay
    → kind_in e.m e.slot ≡ (if r == 0 then own else relay) → SayTheSame capacity n (found_bad (findings capacity w)) (bad_in form r w)
round_found form own relay capacity n w e r is of_own of_relay slot = go (r == 0) slot where
  go : (b : Bool) → kind_in e.m e.slot ≡ (if b then own else relay)
      → SayTheSame capacity n (found_bad (findings capacity w)) (λ j k. if b then is_bad (has_of form.item_in w j) k else is_bad (has_of form.relay_in w j) k)
  go true s = part_found form.item_in capacity n w e is (of_kind form.item_in own (kind_in e.m e.slot) of_own s)
  go false s = part_found form.relay_in capacity n w e is (of_kind form.relay_in relay (kind_in e.m e.slot) of_relay s)

-- in a slot of claims, by its round
pub claims_found : (capacity : ℕ) (n : Notes) (w : Watch) (e : Expectation) (r : ℕ) → IsWatched n w e → e.slot ≡ r + 1 → r ≤ e.m
    → also_noted capacity n (found_bad (findings capacity w)) ≡ also_noted capacity n (bad_in claim_form r w)
claims_found capacity n w e r is slot few =
    noted_alike capacity n (found_bad (findings capacity w)) (bad_in claim_form r w)
    (round_found claim_form claim_kind claim_relay_kind capacity n w e r is (λ c. (parts c).1) (λ c. (parts c).2) (claims_kind e.m e.slot r slot few))

-- and in one of rows
pub rows_found : (capacity : ℕ) (n : Notes) (w : Watch) (e : Expectation) (r : ℕ) → IsWatched n w e → e.slot ≡ e.m + 3 + r → r ≤ e.m
    → also_carried capacity n (found_bad (findings capacity w)) ≡ also_carried capacity n (bad_in row_form r w)
rows_found capacity n w e r is slot few =
    carried_alike capacity n (found_bad (findings capacity w)) (bad_in row_form r w)
    (round_found row_form row_kind row_relay_kind capacity n w e r is (λ c. (parts c).4) (λ c. (parts c).5) (rows_kind e.m e.slot r slot few))

-- in the data slot, with the nodes of which a value deviates
pub values_found : (capacity : ℕ) (n : Notes) (w : Watch) (e : Expectation) (off : List ℕ) (far : ℕ → Bool) → IsWatched n w e → e.slot ≡ e.m + 2
    → ((j : ℕ) → j < n.nodes → j ≢ n.me → has_id off j ≡ far j)
    → also_noted capacity n (λ j k. found_bad (findings capacity w) j k || (has_id off j && k == deviate)) ≡ also_noted capacity n (λ j k. is_bad (has_of values_in w j) k || (far j && k == deviate))
values_found capacity n w e off far is slot are =
    noted_alike capacity n (λ j k. found_bad (findings capacity w) j k || (has_id off j && k == deviate)) (λ j k. is_bad (has_of values_in w j) k || (far j && k == deviate))
    (λ j k low used other within.
    ap₂ (λ (x y : Bool). x || (y && k == deviate))
    (part_found values_in capacity n w e is (of_kind values_in data_kind (kind_in e.m e.slot) (λ c. (parts c).3) (values_kind e.m e.slot slot)) j k low used other within) (are j used other))

-- in the sync slot
pub states_found : (capacity : ℕ) (n : Notes) (w : Watch) (e : Expectation) → IsWatched n w e → e.slot ≡ 0 → SayTheSame capacity n (found_bad (findings capacity w)) (λ j k. is_bad (has_of body_said w j) k)
states_found capacity n w e is slot = part_found body_said capacity n w e is (of_kind body_said state_kind (kind_in e.m e.slot) (λ c. (parts c).0) (sync_kind e.m e.slot slot))

pub good_by : (f : Finding) → found_as.is_good f ≡ is_none (kind_of f)
good_by finding.Good = refl
good_by finding.Missing = refl
good_by finding.Malformed = refl
good_by finding.Timing = refl
good_by finding.Cold = refl

-- whose frames of the sync slot were found Good
pub good_found : (capacity nodes me : ℕ) (w : Watch) (e : Expectation) → nodes ≤ capacity → w.nodes ≡ nodes → w.me ≡ me → w.expect ≡ Some e → e.slot ≡ 0
    → ids_where (λ j. not (j == me) && is_good_at (findings capacity w) j) nodes ≡ good_in nodes me (has_of body_said w)
good_found capacity nodes me w e few nodes_are me_is expects slot =
    filter_range (λ j. not (j == me) && is_good_at (findings capacity w) j) (λ j. not (j == me) && is_good (has_of body_said w j)) 0 nodes
    (λ j l u. elim (cases_eq j me) [
      | inl same ↦ rw (eq-eqb j me same) refl
      | inr other ↦
          ap (λ (b : Bool). not (j == me) && b)
          (ap (λ (f : Finding). found_as.is_good f) (found_at capacity w j (omega arith)) ∙ good_by (finding_at w j)
          ∙ sym (in_slot body_said w e j expects (of_kind body_said state_kind (kind_in e.m e.slot) (λ c. (parts c).0) (sync_kind e.m e.slot slot)) (omega arith) (λ q. other (q ∙ me_is))).0)
    ])

-- a state that is another one, by what was told alone
pub other_told : (own : List ℕ) (w : Watch) (e : Expectation) (j : ℕ) → w.expect ≡ Some e → j < w.nodes → j ≢ w.me → other_body own (arrived body_said None (told_at w j)) ≡ other_body own (has_of body_said w j)
other_told own w e j expects low other = go (kind_of (finding_at w j)) (told_at w j) (good_fits w e j expects low other) where
  go : (error : Option ℕ) (o : Option Content) → IsToldWith (of_sender j e) error o → other_body own (arrived body_said None o) ≡ other_body own (arrived body_said error o)
  go (Some x) o told = ap (λ (p : Option Content). other_body own (arrived body_said None p)) told
  go None o told = refl

-- ---- notes by a set of nodes, and as a row

-- what a set of other nodes has
pub has_others : (f : ℕ → Bool) (me n j : ℕ) → j < n → j ≢ me → has_id (ids_where (λ q. not (q == me) && f q) n) j ≡ f j
has_others f me n j low other = has-filter (λ q. not (q == me) && f q) n j low ∙ ap (λ (b : Bool). not b && f j) (ne_eqb j me other)

-- a kind of each node of a set of others
pub noted_of_each : (capacity : ℕ) (n : Notes) (f : ℕ → Bool) (error : ℕ) → also_noted capacity n (of_each (ids_where (λ q. not (q == n.me) && f q) capacity) error) ≡ also_noted capacity n (λ j k. f j && k == error)
noted_of_each capacity n f error =
    noted_alike capacity n (of_each (ids_where (λ q. not (q == n.me) && f q) capacity) error) (λ j k. f j && k == error)
    (λ j k low used other within. ap (λ (b : Bool). b && k == error) (has_others f n.me capacity j low other))

pub carried_of_each : (capacity : ℕ) (n : Notes) (f : ℕ → Bool) (error : ℕ) → also_carried capacity n (of_each (ids_where (λ q. not (q == n.me) && f q) capacity) error) ≡ also_carried capacity n (λ j k. f j && k == error)
carried_of_each capacity n f error =
    carried_alike capacity n (of_each (ids_where (λ q. not (q == n.me) && f q) capacity) error) (λ j k. f j && k == error)
    (λ j k low used other within. ap (λ (b : Bool). b && k == error) (has_others f n.me capacity j low other))

-- notes besides a row are the row by both
pub besides_by : (s : Setting) (i : ℕ) (row : List ℕ) (more : ℕ → ℕ → Bool) → noted_besides s.capacity (kind_count s.config.version) s.config.nodes i row more ≡ row_by s i (λ j k. accuses row j k || more j k)
unfolding row_by
besides_by s i row more = refl
