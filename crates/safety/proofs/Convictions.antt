-- No sound node convicts a node that tells all alike, so the kind of convictions spares those that were nonfaulty throughout.
use Rattle.std.proofs.Common.{ℕ, zero, suc, ◌≡◌, ◌≢◌, ◌≤◌, Bool, true, false, ◌&&◌, ◌==◌, List, refl, sym, ap, ap₂, subst, ◌∙◌, inl, inr, arith}
use Rattle.std.specs.Prelude.{nat_eq, is_some}
use Rattle.std.specs.Cmp.Lexicographic.{pointwise}
use Rattle.std.proofs.lemmas.Bool.{cases_Bool, cond-true}
use Rattle.std.proofs.lemmas.Option.{same_Some}
use Rattle.node_grid.specs.declared.class.Class.{Class}
use Rattle.node_grid.specs.declared.class.Class.TheVariants.{N, J, A}
use Rattle.node_grid.specs.Class.{is_nonfaulty, is_sound, IsWithin}
use Rattle.node_grid.specs.NodeSet.{has_id}
use Rattle.node_grid.specs.Count.{Distinct}
use Rattle.omh_paths.specs.MemberLaws.{Distinct-ids}
use Rattle.omh_paths.specs.Wrapped.{IsExact}
use Rattle.omh.specs.Omh.{World, Ear, IsClaimed}
use Rattle.omh.specs.Settling.{sound_cases}
use Rattle.equivocation.specs.Conviction.{convicts}
use Rattle.equivocation.specs.ConvictionLaws.{spares_law, notices_law}
use Rattle.error_reports.specs.Charge.{accuses}
use Rattle.agreed_state.specs.Agreed.{AgreedView}
use Rattle.protocol.specs.Heard.{Rounds}
use Rattle.protocol.specs.Settled.{ear_of}
use Rattle.list_scheduler.specs.Schedule.{verdict}
use Rattle.agreed_state.specs.Body.{body}
use Rattle.protocol.specs.View.{Further, is_further, Kept, nothing, other_body, deviates, by_kind}
use Rattle.protocol.specs.Cluster.{Cluster, begins, view}
use Rattle.protocol.specs.Run.{members_in, run, classes}
use Rattle.node_grid.specs.Kinds.{equivocate}
use Rattle.protocol.specs.FurtherKinds.{convicts_member, convictions}
use Rattle.protocol.specs.Safe.{Classing, Claim, CopiesClose, Safe}
use Rattle.safety.specs.Facts.{given_of}
use Rattle.safety.specs.Talk.{Told}
use Rattle.safety.specs.Given.{IsGiven, Started, IsHere, AllSparing}
use Rattle.safety.specs.Views.{StartLaw, StepLaw}
use Rattle.safety.specs.Lifetime.{IsWell}
use Rattle.safety.specs.Runs.{ReceptionLaw, SparingLaw, RunLaw, RunCopiesLaw}
use Rattle.safety.specs.ClockLaws.{SparingClockLaw, RunClockLaw}
use Rattle.safety.specs.Convictions.{ConvictsWell, ConvictionsHold, ConvictionsLaw, SparedLaw, RunConvictionsLaw}
use Rattle.safety.proofs.Worlds.{world, fits}
use Rattle.safety.proofs.Sync.{bytes_exact}
use Rattle.safety.proofs.Period.{Here, before_is, within, reference_is, members_are, claim_item, row_item, told_done, told_rows, by_kind_named, row_without, carried_without}
use Rattle.safety.proofs.Induction.{numbers_exact, here, begins_first, accuses_none, all_started}

-- ---- one item

-- what sound nodes are told of an item, within the budget, convicts well
convicts_told : {V : Type 0} (eq : V → V → Bool) → IsExact eq → (rounds : ℕ) (members : List ℕ) (class_of : ℕ → Class) (item : ℕ → V) (x : ℕ → Rounds V)
    → Told rounds members class_of item x → Distinct members → IsWithin class_of members rounds
    → ConvictsWell eq rounds members class_of (λ i. ear_of rounds i (is_nonfaulty (class_of i)) members (x i))
convicts_told {V} eq exact rounds members class_of item x told distinct within =
    let w : World V = world rounds class_of members x in
    let claimed : IsClaimed w class_of item = record { fits = fits told distinct; within = within } in
    record {
      spares = λ i c s on not_a ne. spares_law eq exact w class_of item claimed c i on not_a s ne;
      notices = λ i c some s on ne many. notices_law eq exact w class_of item claimed some c i on s ne many;
    }

-- and so it does by the ears that the nodes have
module _ {V : Type 0} (eq : V → V → Bool) (rounds : ℕ) (members : List ℕ) (class_of : ℕ → Class) (full : ℕ → Bool) (listed : ℕ → List ℕ) (x : ℕ → Rounds V)
    (is_full : (i : ℕ) → is_sound (class_of i) ≡ true → full i ≡ is_nonfaulty (class_of i)) (are_listed : (i : ℕ) → is_sound (class_of i) ≡ true → listed i ≡ members) where
  same_ear : (i c : ℕ) → is_sound (class_of i) ≡ true → convicts eq (ear_of rounds i (full i) (listed i) (x i)) c ≡ convicts eq (ear_of rounds i (is_nonfaulty (class_of i)) members (x i)) c
  same_ear i c s = ap₂ (λ (b : Bool) (ms : List ℕ). convicts eq (ear_of rounds i b ms (x i)) c) (is_full i s) (are_listed i s)

  by_ears : ConvictsWell eq rounds members class_of (λ i. ear_of rounds i (is_nonfaulty (class_of i)) members (x i))
      → ConvictsWell eq rounds members class_of (λ i. ear_of rounds i (full i) (listed i) (x i))
  by_ears h = record {
    spares = λ i c s on not_a ne. same_ear i c s ∙ h.spares i c s on not_a ne;
    notices = λ i c some s on ne many. same_ear i c s ∙ h.notices i c some s on ne many;
  }

-- ---- a period

module _ (cl : Cluster) (class_of : Classing) (p : ℕ) (h : Here cl class_of p) where
  distinct : Distinct h.start.state.standing.members
  distinct = Distinct-ids cl.setting.config.nodes h.start.state.standing.members h.start.valid.standing.set

  claims_convict : ConvictsWell nat_eq cl.setting.config.m h.start.state.standing.members (class_of p) (λ i. ear_of cl.setting.config.m i (is_nonfaulty (class_of p i)) h.start.state.standing.members (cl.received i p).done)
  claims_convict =
      convicts_told nat_eq numbers_exact cl.setting.config.m h.start.state.standing.members (class_of p) (claim_item cl class_of p h) (λ i. (cl.received i p).done)
      (told_done cl class_of p h) distinct (within cl class_of p h)

  rows_convict : ConvictsWell (pointwise ◌==◌) cl.setting.config.m h.start.state.standing.members (class_of p) (λ i. ear_of cl.setting.config.m i (is_nonfaulty (class_of p i)) h.start.state.standing.members (cl.received i p).report)
  rows_convict =
      convicts_told (pointwise ◌==◌) bytes_exact cl.setting.config.m h.start.state.standing.members (class_of p) (row_item cl class_of p h) (λ i. (cl.received i p).report)
      (told_rows cl class_of p h) distinct (within cl class_of p h)

  -- a sound node has a state when the period starts where it is nonfaulty
  starts_full : (i : ℕ) → is_sound (class_of p i) ≡ true → is_some (begins cl i p).state ≡ is_nonfaulty (class_of p i)
  starts_full i s = elim (sound_cases (class_of p i) s) [
    | inl n ↦ ap is_some (h.start.equal i n) ∙ sym (ap is_nonfaulty n)
    | inr j ↦ ap (λ (k : Kept). is_some k.state) (cond-true (cl.restarts i p) (nothing cl.setting) _ (h.all.given.classing.restarts p i j)) ∙ sym (ap is_nonfaulty j)
  ]

  convictions_hold : ConvictionsHold cl class_of p h.start.state.standing.members
  convictions_hold = record {
    claims = by_ears nat_eq cl.setting.config.m h.start.state.standing.members (class_of p) (λ i. is_some (begins cl i p).state) (λ i. members_in (view cl i p).before) (λ i. (cl.received i p).done)
        starts_full (λ i s. ap members_in (before_is cl class_of p h i s)) claims_convict;
    rows = by_ears (pointwise ◌==◌) cl.setting.config.m h.start.state.standing.members (class_of p) (λ i. is_some (begins cl i p).state) (λ i. members_in (view cl i p).before) (λ i. (cl.received i p).report)
        starts_full (λ i s. ap members_in (before_is cl class_of p h i s)) rows_convict;
  }

pub convictions_law : ConvictionsLaw
convictions_law cl class_of p h = convictions_hold cl class_of p (here cl class_of p h)

-- ---- the condition on further kinds

both_fail : (a c : Bool) → ((a && false) && c) ≡ false
both_fail true c = refl
both_fail false c = refl

-- who isn't convicted isn't given the kind
not_given : {V : Type 0} (eq : V → V → Bool) (x : Ear V) (j k : ℕ) → (has_id x.members j ≡ true → convicts eq x j ≡ false) → ((k == equivocate && convicts_member eq x j) && is_further k) ≡ false
not_given eq x j k none =
    let e : convicts_member eq x j ≡ false = elim (cases_Bool (has_id x.members j)) [
      | inl on ↦ ap (λ b. b && convicts eq x j) on ∙ none on
      | inr off ↦ ap (λ b. b && convicts eq x j) off
    ] in
    ap (λ b. (k == equivocate && b) && is_further k) e ∙ both_fail (k == equivocate) (is_further k)

nonfaulty_tells_alike : (c : Class) → c ≡ N → c ≢ A
nonfaulty_tells_alike N n = λ e. cc
nonfaulty_tells_alike J n = cc
nonfaulty_tells_alike A n = cc
nonfaulty_tells_alike _ n = cc

module _ (cl : Cluster) (class_of : Classing) (given : IsGiven cl class_of) (are : cl.setting.further ≡ convictions cl.setting.config.m) where
  carried_spares : (p : ℕ) → Claim cl class_of p → ((q : ℕ) → q ≤ p → Started cl class_of q)
      → (i j k : ℕ) → class_of p i ≡ N → IsWell class_of j p → j ≢ i → accuses (begins cl i p).carried j k ≡ false
  carried_spares zero claim started i j k n well ne = ap (λ (x : Kept). accuses x.carried j k) (begins_first cl class_of i given.classing n) ∙ accuses_none cl.setting.capacity j k
  carried_spares (suc p) claim started i j k n well ne =
      let h : Here cl class_of p = here cl class_of p (record { given = given; start = started p (omega arith); budget = claim p (omega arith) }) in
      let nj = well p (omega arith) (omega arith) in
      carried_without cl class_of p h i j k n nj ne
      (ap (λ (f : Further). f.rows i (is_nonfaulty (class_of p i)) (started p (omega arith)).state.standing.members (cl.received i p).report j k && is_further k) are
      ∙ not_given (pointwise ◌==◌) (ear_of cl.setting.config.m i (is_nonfaulty (class_of p i)) (started p (omega arith)).state.standing.members (cl.received i p).report) j k
      (λ on. (rows_convict cl class_of p h).spares i j (given.classing.sound_before p i n) on (nonfaulty_tells_alike (class_of p j) nj) ne))

  -- where a kind is no finding of its own, a nonfaulty node says it of none that is well
  pub unsaid : (p : ℕ) → Claim cl class_of p → ((q : ℕ) → q ≤ p → Started cl class_of q) → (h : Here cl class_of p)
      → (i j k : ℕ) → class_of p i ≡ N → IsWell class_of j p → j ≢ i
      → (let v = verdict cl.setting.config.graph h.start.state.standing.members h.start.state.copies (view cl i p).done j in
      by_kind (other_body (body cl.setting.config h.start.state) ((cl.received i p).sync j)) v.claim v.overrun (deviates cl.setting (view cl i p).due (view cl i p).votes (cl.received i p) j) k) ≡ false
      → accuses (view cl i p).found j k ≡ false
  unsaid p claim started h i j k n well ne other =
      let nj = well p (omega arith) (omega arith) in
      row_without cl class_of p h i j k n nj ne (carried_spares p claim started i j k n well ne)
      (ap (λ (f : Further). f.claims i true h.start.state.standing.members (cl.received i p).done j k && is_further k) are
      ∙ not_given nat_eq (ear_of cl.setting.config.m i true h.start.state.standing.members (cl.received i p).done) j k
      (λ on. ap (λ b. convicts nat_eq (ear_of cl.setting.config.m i b h.start.state.standing.members (cl.received i p).done) j) (sym (ap is_nonfaulty n))
      ∙ (claims_convict cl class_of p h).spares i j (ap is_sound n) on (nonfaulty_tells_alike (class_of p j) nj) ne))
      other

  convictions_spare : AllSparing cl class_of
  convictions_spare p claim started i j k n always ne high =
      let h : Here cl class_of p = here cl class_of p (record { given = given; start = started p (omega arith); budget = claim p (omega arith) }) in
      unsaid p claim started h i j k n (λ q low near. always q low) ne (by_kind_named _ _ _ _ k high)

pub spared_law : SparedLaw
spared_law = convictions_spare

-- ---- a run

pub run_law : ReceptionLaw → SparingLaw → RunLaw
run_law reception sparing sys given are = sparing sys given (convictions_spare (run sys) (classes sys) (given_of reception sys given) are)

pub run_copies_law : RunLaw → RunCopiesLaw
run_copies_law law sys given are p claim i j c a delta t lies si sj goes due e =
    let safe : Safe (run sys) (classes sys) p = law sys given are p claim in
    let same : safe.equal.before ≡ a = same_Some safe.equal.before a (sym (safe.equal.goes i si) ∙ goes) in
    subst (λ (b : AgreedView). CopiesClose (run sys) (classes sys) p b i j c t lies) same (safe.copies i j c delta t lies si sj due e)

pub run_convictions_law : ReceptionLaw → StartLaw → StepLaw → RunConvictionsLaw
run_convictions_law reception start next sys given are p claim =
    let all : IsGiven (run sys) (classes sys) = given_of reception sys given in
    let started : (q : ℕ) → q ≤ p → Started (run sys) (classes sys) q =
    all_started start next (run sys) (classes sys) all (convictions_spare (run sys) (classes sys) all are) p (λ q l. claim q (omega arith)) in
    let is : IsHere (run sys) (classes sys) p = record { given = all; start = started p (omega arith); budget = claim p (omega arith) } in
    let h : Here (run sys) (classes sys) p = here (run sys) (classes sys) p is in
    subst (ConvictionsHold (run sys) (classes sys) p) (sym (members_are (run sys) (classes sys) p (reference_is (run sys) (classes sys) p h) h.start)) (convictions_hold (run sys) (classes sys) p h)

pub run_clock_law : ReceptionLaw → SparingClockLaw → RunClockLaw
run_clock_law reception law sys given are c clocks p claim = law sys given (convictions_spare (run sys) (classes sys) (given_of reception sys given) are) c clocks p claim
