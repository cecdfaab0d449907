-- The laws of faults that all others see alike: they are noted by all, and the node is out.
use Rattle.std.proofs.Common.{ℕ, zero, suc, ◌≡◌, ◌≢◌, ◌<◌, ◌≤◌, ◌+◌, ◌-◌, ◌==◌, ◌||◌, true, false, [], length, Option, None, Some, refl, sym, ap, subst, ◌∙◌, inl, inr, arith, eq-eqb}
use Rattle.std.specs.Prelude.{if◌then◌else◌, slice_index}
use Rattle.std.proofs.lemmas.Bool.{cases_lt, or_left, or_right}
use Rattle.node_grid.specs.declared.class.Class.TheVariants.{N}
use Rattle.node_grid.specs.Class.{is_sound}
use Rattle.node_grid.specs.Version.{kind_count}
use Rattle.node_grid.specs.Kinds.{missing, cold}
use Rattle.slot_plan.specs.Slots.{slot_count}
use Rattle.frames.specs.Content.{IsClaim, IsRow}
use Rattle.fault_classes.specs.Change.{Change}
use Rattle.fault_classes.specs.Change.Change.{Drop, Cut, Twice, Time, Set, Raw}
use Rattle.error_reports.specs.Charge.{accuses}
use Rattle.protocol.specs.Arrival.{Arrival, is_bad, body_said, values_in}
use Rattle.protocol.specs.Arrival.Arrival.{Bad}
use Rattle.protocol.specs.Heard.{Rounds, rounds_bad}
use Rattle.protocol.specs.View.{Kept}
use Rattle.protocol.specs.RunLaws.{begins_is}
use Rattle.protocol.specs.Cluster.{begins}
use Rattle.protocol.specs.Run.{System, run, classes, change_at, expectation, state_said, state_content, values_said, members_of, due_of, done_talk, row_talk, goes_in}
use Rattle.protocol.specs.Accepted.{IsAccepted}
use Rattle.protocol.specs.Safe.{Claim}
use Rattle.safety.specs.Facts.{given_of}
use Rattle.safety.specs.Given.{IsGiven}
use Rattle.safety.specs.Views.{StartLaw, StepLaw}
use Rattle.safety.specs.Runs.{ReceptionLaw}
use Rattle.safety.specs.Lifetime.{IsAccused, ExclusionLaw}
use Rattle.safety.specs.Manifest.{manifest_kind, IsMarred, SaysCold, IsManifest, at_once, a_period_later, as_cold, IsNoted, ManifestLaw, ManifestExclusionLaw, SilenceLaw}
use Rattle.safety.proofs.Lists.{any_above}
use Rattle.safety.proofs.Arrivals.{arrives_cold, arrives_bad}
use Rattle.safety.proofs.Talks.{first_bad, relay_bad}
use Rattle.safety.proofs.StateLaws.{StateLaws}
use Rattle.safety.proofs.Period.{Here, row_with, carried_with}
use Rattle.safety.proofs.Induction.{here, state_laws}
use Rattle.safety.proofs.FaultPlans.{effect_fits, untouched_at}
use Rattle.safety.proofs.Runs.{grammar, state_range, values_range, done_form, reports_form}
use Rattle.safety.proofs.Convergence.{is_here}

-- ---- kinds

few_kinds : (version : ℕ) → 4 ≤ kind_count version
few_kinds version = elim (version == 1) as (λ b. 4 ≤ (if b then 8 else 16)) [ true ↦ omega arith | false ↦ omega arith ]

kind_low : (change : Option Change) (kind : ℕ) → manifest_kind change ≡ Some kind → kind < 4
kind_low None kind h = cc
kind_low (Some Drop) kind h = let e : 0 ≡ kind = cc in omega arith
kind_low (Some (Cut k)) kind h = let e : 1 ≡ kind = cc in omega arith
kind_low (Some Twice) kind h = let e : 1 ≡ kind = cc in omega arith
kind_low (Some (Time t)) kind h = let e : 2 ≡ kind = cc in omega arith
kind_low (Some (Set at bytes)) kind h = cc
kind_low (Some (Raw bytes)) kind h = cc

another : (j n : ℕ) → 3 ≤ n → (i : ℕ) × (i < n) × (i ≢ j)
another zero n few = (1, omega arith, omega arith)
another (suc j) n few = (0, omega arith, omega arith)

bad_is : {C : Type 0} (a : Arrival C) (k : ℕ) → a ≡ Bad k → is_bad a k ≡ true
bad_is a k e = ap (λ x. is_bad x k) e ∙ eq-eqb k k refl

first_in : {V : Type 0} (m : ℕ) (x : Rounds V) (j k : ℕ) → x.first j ≡ Bad k → rounds_bad m x j k ≡ true
first_in m x j k e = or_left _ _ (bad_is (x.first j) k e)

relay_in : {V : Type 0} (m r : ℕ) (x : Rounds V) (j k : ℕ) → suc r ≤ m → x.relay (suc r) j ≡ Bad k → rounds_bad m x j k ≡ true
relay_in m r x j k low e = or_right (is_bad (x.first j) k) _ (any_above (λ r. is_bad (x.relay r j) k) 1 m (suc r) (omega arith) (omega arith) (bad_is (x.relay (suc r) j) k e))

-- ---- what a node has of frames that are marred

module _ (sys : System) (given : IsAccepted sys) (states : StateLaws sys.setting) (p j i kind : ℕ) (low : j < sys.setting.config.nodes) where
  abbrev Marred : ℕ → Type 0
  Marred slot = manifest_kind (change_at sys p slot j i) ≡ Some kind

  sync_bad : Marred 0 → ((run sys).received i p).sync j ≡ Bad kind
  sync_bad m =
      arrives_bad grammar body_said (change_at sys p 0 j i) (expectation sys p 0 j [] 0) (expectation sys p 0 j [] 0) (state_said sys p (goes_in sys p) j) kind
      (state_range sys given states p j) (effect_fits sys.plan given.plan p 0 j i) m

  done_bad : (r : ℕ) → r ≤ sys.setting.config.m → Marred (1 + r) → rounds_bad sys.setting.config.m ((run sys).received i p).done j kind ≡ true
  done_bad zero few m =
      first_in sys.setting.config.m ((run sys).received i p).done j kind
      (first_bad grammar (IsClaim (length sys.setting.config.graph.tasks)) (done_talk sys p (goes_in sys p)) sys.setting.config.m (done_form sys given states p) j i kind (effect_fits sys.plan given.plan p 1 j i) m)
  done_bad (suc r) few m =
      relay_in sys.setting.config.m r ((run sys).received i p).done j kind few
      (relay_bad grammar (IsClaim (length sys.setting.config.graph.tasks)) (done_talk sys p (goes_in sys p)) sys.setting.config.m (done_form sys given states p) r j i kind few (effect_fits sys.plan given.plan p (1 + suc r) j i) m)

  values_bad : Marred (sys.setting.config.m + 2) → ((run sys).received i p).values j ≡ Bad kind
  values_bad m =
      arrives_bad grammar values_in (change_at sys p (sys.setting.config.m + 2) j i)
      (expectation sys p (sys.setting.config.m + 2) j (members_of sys p (goes_in sys p) j) (length (due_of sys p (goes_in sys p) j)))
      (expectation sys p (sys.setting.config.m + 2) j (members_of sys p (goes_in sys p) i) (length (due_of sys p (goes_in sys p) i)))
      (values_said sys p (goes_in sys p) j) kind
      (values_range sys given states p j low) (effect_fits sys.plan given.plan p (sys.setting.config.m + 2) j i) m

  reports_bad : (r : ℕ) → r ≤ sys.setting.config.m → Marred (sys.setting.config.m + 3 + r) → rounds_bad sys.setting.config.m ((run sys).received i p).report j kind ≡ true
  reports_bad zero few m =
      first_in sys.setting.config.m ((run sys).received i p).report j kind
      (first_bad grammar (IsRow sys.setting.config.version sys.setting.capacity sys.setting.config.nodes) (row_talk sys p (goes_in sys p)) sys.setting.config.m (reports_form sys given states p) j i kind
      (effect_fits sys.plan given.plan p (sys.setting.config.m + 3 + 0) j i) m)
  reports_bad (suc r) few m =
      relay_in sys.setting.config.m r ((run sys).received i p).report j kind few
      (relay_bad grammar (IsRow sys.setting.config.version sys.setting.capacity sys.setting.config.nodes) (row_talk sys p (goes_in sys p)) sys.setting.config.m (reports_form sys given states p) r j i kind few
      (effect_fits sys.plan given.plan p (sys.setting.config.m + 3 + suc r) j i) m)

  -- of a slot up to that of values it is found at once
  early_bad : (slot : ℕ) → slot ≤ sys.setting.config.m + 2 → Marred slot
      → (is_bad (((run sys).received i p).sync j) kind || (rounds_bad sys.setting.config.m ((run sys).received i p).done j kind || (is_bad (((run sys).received i p).values j) kind || accuses (begins (run sys) i p).carried j kind))) ≡ true
  early_bad zero few m = or_left _ _ (bad_is (((run sys).received i p).sync j) kind (sync_bad m))
  early_bad (suc r) few m = or_right (is_bad (((run sys).received i p).sync j) kind) _ (elim (cases_lt sys.setting.config.m r) [
    | inl high ↦
        let is : suc r ≡ sys.setting.config.m + 2 = omega arith in
        or_right (rounds_bad sys.setting.config.m ((run sys).received i p).done j kind) _
        (or_left _ _ (bad_is (((run sys).received i p).values j) kind (values_bad (subst (λ (slot : ℕ). manifest_kind (change_at sys p slot j i) ≡ Some kind) is m))))
    | inr in_rounds ↦
        let is : suc r ≡ 1 + r = omega arith in
        or_left _ _ (done_bad r in_rounds (subst (λ (slot : ℕ). manifest_kind (change_at sys p slot j i) ≡ Some kind) is m))
  ])

  late_bad : (slot : ℕ) → sys.setting.config.m + 3 ≤ slot → slot < slot_count sys.setting.config.m → Marred slot → rounds_bad sys.setting.config.m ((run sys).received i p).report j kind ≡ true
  late_bad slot late there m =
      let is : slot ≡ sys.setting.config.m + 3 + (slot - (sys.setting.config.m + 3)) = omega arith in
      reports_bad (slot - (sys.setting.config.m + 3)) (omega arith) (subst (λ (slot : ℕ). manifest_kind (change_at sys p slot j i) ≡ Some kind) is m)

-- ---- a node whose frames are marred, or that says Cold, isn't nonfaulty

module _ (sys : System) (given : IsAccepted sys) (p j : ℕ) where
  -- a line touches a frame of it, so it isn't sound
  touched : (slot kind : ℕ) → slot < slot_count sys.setting.config.m → IsMarred sys p slot j kind → is_sound (classes sys p j) ≡ true → ⊥
  touched slot kind there m sound =
      let x = another j sys.setting.config.nodes given.config.some_nodes in
      let in_plan : x.0 < sys.plan.nodes = let e = given.plan_nodes in let l = x.1 in omega arith in
      let in_period : slot < slot_count sys.plan.rounds = let e = given.plan_rounds in subst (λ (m : ℕ). slot < slot_count m) (sym e) there in
      let clean = untouched_at sys.plan p slot j x.0 sound in_plan in_period (λ e. x.2 (sym e)) in
      let both : None ≡ Some kind = sym (ap manifest_kind clean) ∙ m x.0 x.1 x.2 in
      cc

  marred_low : (slot kind : ℕ) → IsMarred sys p slot j kind → kind < 4
  marred_low slot kind m = let x = another j sys.setting.config.nodes given.config.some_nodes in kind_low (change_at sys p slot j x.0) kind (m x.0 x.1 x.2)

-- ---- the laws

manifest_low : (sys : System) → IsAccepted sys → (p j kind : ℕ) → IsManifest sys p j kind → kind < kind_count sys.setting.config.version
manifest_low sys given p j kind (at_once slot early m) = let l = marred_low sys given p j slot kind m in let f = few_kinds sys.setting.config.version in omega arith
manifest_low sys given p j kind (a_period_later q slot next late there m) = let l = marred_low sys given q j slot kind m in let f = few_kinds sys.setting.config.version in omega arith
manifest_low sys given p j kind (as_cold is says) = let f = few_kinds sys.setting.config.version in omega arith

module _ (sys : System) (given : IsAccepted sys) (all : IsGiven (run sys) (classes sys)) where
  abbrev states : StateLaws sys.setting
  states = state_laws sys.setting given.capacity given.config

  module _ (p j kind : ℕ) (low : j < sys.setting.config.nodes) (listed : kind < kind_count sys.setting.config.version) (h : Here (run sys) (classes sys) p) where
    in_use : (i : ℕ) → classes sys p i ≡ N → i < sys.setting.config.nodes
    in_use i n = all.classing.bounded p i (ap is_sound n)

    noted_at_once : (slot : ℕ) → slot ≤ sys.setting.config.m + 2 → IsMarred sys p slot j kind → IsNoted sys p j kind
    noted_at_once slot early m = record {
      not_nonfaulty = λ n. touched sys given p j slot kind (omega arith) m (ap is_sound n);
      accused = λ i n apart. row_with (run sys) (classes sys) p h i j kind n low (λ e. apart (sym e)) listed (early_bad sys given states p j i kind low slot early (m i (in_use i n) apart));
    }

    noted_cold : kind ≡ cold → SaysCold sys p j → IsNoted sys p j kind
    noted_cold is says =
        let stateless : (goes_in sys p j).state ≡ None = ap (λ (x : Kept). x.state) (sym (begins_is sys j p)) ∙ says.stateless in
        record {
          not_nonfaulty = λ n. let both : None ≡ Some h.start.state = sym says.stateless ∙ h.start.equal j n in cc;
          accused = λ i n apart.
              let cold_there : ((run sys).received i p).sync j ≡ Bad cold =
              arrives_cold grammar body_said (change_at sys p 0 j i) (expectation sys p 0 j [] 0) (expectation sys p 0 j [] 0) (state_said sys p (goes_in sys p) j)
              (says.untouched i (in_use i n) apart) refl (ap (state_content sys.setting) stateless) in
              row_with (run sys) (classes sys) p h i j kind n low (λ e. apart (sym e)) listed
              (or_left _ _ (bad_is (((run sys).received i p).sync j) kind (cold_there ∙ ap Bad (sym is))));
        }

  module _ (q j kind : ℕ) (low : j < sys.setting.config.nodes) (listed : kind < kind_count sys.setting.config.version) (before : Here (run sys) (classes sys) q) (h : Here (run sys) (classes sys) (suc q)) where
    noted_later : (slot : ℕ) → sys.setting.config.m + 3 ≤ slot → slot < slot_count sys.setting.config.m → IsMarred sys q slot j kind → IsNoted sys (suc q) j kind
    noted_later slot late there m = record {
      not_nonfaulty = λ n. touched sys given q j slot kind there m (all.classing.sound_before q j n);
      accused = λ i n apart.
          let sound = all.classing.sound_before q i n in
          let carried = carried_with (run sys) (classes sys) q before i j kind n low (λ e. apart (sym e)) listed
          (late_bad sys given states q j i kind low slot late there (m i (all.classing.bounded q i sound) apart)) in
          row_with (run sys) (classes sys) (suc q) h i j kind n low (λ e. apart (sym e)) listed
          (or_right (is_bad (((run sys).received i (suc q)).sync j) kind) _
          (or_right (rounds_bad sys.setting.config.m ((run sys).received i (suc q)).done j kind) _
          (or_right (is_bad (((run sys).received i (suc q)).values j) kind) _ carried)));
    }

-- where each claimed period has its premise
module _ (sys : System) (given : IsAccepted sys) (all : IsGiven (run sys) (classes sys)) (here_at : (p : ℕ) → Claim (run sys) (classes sys) p → Here (run sys) (classes sys) p) where
  noted : (p : ℕ) → Claim (run sys) (classes sys) p → (j kind : ℕ) → j < sys.setting.config.nodes → kind < kind_count sys.setting.config.version → IsManifest sys p j kind → IsNoted sys p j kind
  noted p claim j kind low listed (at_once slot early m) = noted_at_once sys given all p j kind low listed (here_at p claim) slot early m
  noted p claim j kind low listed (a_period_later q slot e late there m) =
      let now : Claim (run sys) (classes sys) (suc q) = subst (Claim (run sys) (classes sys)) e claim in
      subst (λ (x : ℕ). IsNoted sys x j kind) (sym e)
      (noted_later sys given all q j kind low listed (here_at q (λ r l. now r (omega arith))) (here_at (suc q) now) slot late there m)
  noted p claim j kind low listed (as_cold is says) = noted_cold sys given all p j kind low listed (here_at p claim) is says

pub manifest_law : ReceptionLaw → StartLaw → StepLaw → ManifestLaw
manifest_law reception start next sys given are p claim j kind low seen =
    let all : IsGiven (run sys) (classes sys) = given_of reception sys given in
    noted sys given all (λ q c. here (run sys) (classes sys) q (is_here start next (run sys) (classes sys) all are q c)) p claim j kind low (manifest_low sys given p j kind seen) seen

pub manifest_exclusion_law : ManifestLaw → ExclusionLaw → ManifestExclusionLaw
manifest_exclusion_law notes exclusion sys given are p k claim j weight low seen i stays high =
    exclusion sys given are p k claim j weight low (λ q l u. accused q l u) i stays high
  where
    accused : (q : ℕ) → p ≤ q → q ≤ p + k → IsAccused (run sys) (classes sys) q j weight
    accused q l u =
        let x = seen q l u in
        let is = notes sys given are q (λ r b. claim r (omega arith)) j x.0 low x.2 in
        record { kind = x.0; is_listed = manifest_low sys given q j x.0 x.2; weighs = x.1; can = inl (λ on. is.not_nonfaulty); accused = λ i on n apart. is.accused i n apart }

pub silence_law : ManifestExclusionLaw → SilenceLaw
silence_law leave sys given are p k claim j low dropped i stays high =
    leave sys given are p k claim j (slice_index sys.setting.config.policy.weights missing) low
    (λ q l u. (missing, omega arith, at_once 0 (omega arith) (λ x on ne. ap manifest_kind (dropped q x l u on ne))))
    i stays high
