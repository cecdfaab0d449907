-- The law of clocks: what sound nodes read of members, and how near their corrected clocks are.
use Rattle.std.proofs.Common.{ℕ, suc, ◌≡◌, ◌≢◌, ◌<◌, ◌≤◌, ◌+◌, ◌*◌, ◌/◌, Bool, true, false, not, ◌&&◌, List, Option, None, Some, ℤ, pos, negsuc, ◌+ℤ◌, ◌-ℤ◌, ◌≤ℤ◌, refl, sym, ap, ap₂, subst, ◌∙◌, inl, inr, arith, eq-eqb, ne_eqb, lt-ltb, nat_lt}
use Rattle.std.specs.Prelude.{◌==◌, if◌then◌else◌, neg_ℤ, unsigned_abs}
use Rattle.std.proofs.lemmas.Int.{ints}
use Rattle.std.proofs.Math.IntN.{+ℤ_comm}
use Rattle.std.proofs.Math.Bool.{and-false}
use Rattle.std.proofs.lemmas.Bool.{cases_Bool, cases_eq, cond-true, both_ways}
use Rattle.node_grid.specs.declared.class.Class.{Class}
use Rattle.node_grid.specs.declared.class.Class.TheVariants.{N, J, B, S, A}
use Rattle.node_grid.specs.Class.{is_nonfaulty, is_silent, is_sound}
use Rattle.node_grid.specs.NodeSet.{has_id}
use Rattle.mme_vote.specs.Vote.{distance}
use Rattle.mme_vote.specs.Moved.{AreNear}
use Rattle.clock_skew.specs.Clock.{ClockView, number_at, drift_at, error_at, lie_at}
use Rattle.clock_skew.specs.Correction.{is_own, read_of, voted}
use Rattle.clock_skew.specs.Skew.{Reads, ReadAlike, AreRead, SkewLaw, DriftLaw}
use Rattle.clock_skew.specs.Reading.{reading_at}
use Rattle.protocol.specs.Arrival.{is_good}
use Rattle.protocol.specs.View.{synced_by, Mode, View, through}
use Rattle.protocol.specs.Run.{members_in}
use Rattle.protocol.specs.Cluster.{Cluster}
use Rattle.protocol.specs.Safe.{Classing}
use Rattle.protocol.specs.Clocks.{readings_at, corrects, correction_at, corrected, offsets, AreClocks, ClocksNear}
use Rattle.safety.specs.Facts.{given_of}
use Rattle.safety.specs.Given.{Started, IsHere}
use Rattle.safety.specs.Views.{StartLaw, StepLaw}
use Rattle.safety.specs.Runs.{ReceptionLaw}
use Rattle.safety.specs.ClockLaws.{ClockLaw, ClaimedClockLaw, SparingClockLaw}
use Rattle.safety.proofs.Lists.{has_where, tabulated}
use Rattle.safety.proofs.Classes.{silent_not_full}
use Rattle.safety.proofs.ClockLies.{no_lie, same_lie}
use Rattle.safety.proofs.Period.{Here, has_reference, members_are, goes, within, below}
use Rattle.safety.proofs.Induction.{here, all_started}

-- a number that is not negative is its absolute value
size_of : (z : ℤ) → pos 0 ≤ℤ z → z ≡ pos (unsigned_abs z)
size_of (pos n) h = refl
size_of (negsuc n) h = absurd (omega (arith, ints))

reads_other : (n : ℕ) (a x error lie e : ℤ) (u : Option ℤ) → e ≡ pos n → neg_ℤ e ≤ℤ error → error ≤ℤ e → u ≡ Some ((x -ℤ a) +ℤ error +ℤ lie) → Reads n a (x +ℤ lie) u
reads_other n a x error lie e u size low high is =
    let l : neg_ℤ (pos n) ≤ℤ error = subst (λ (z : ℤ). neg_ℤ z ≤ℤ error) size low in
    let m : error ≤ℤ pos n = subst (λ (z : ℤ). error ≤ℤ z) size high in
    record { value = (x -ℤ a) +ℤ error +ℤ lie; is = is; low = below_it a x error lie n l; high = above_it a x error lie n m }
  where
    below_it : (a x error lie : ℤ) (n : ℕ) → neg_ℤ (pos n) ≤ℤ error → (x +ℤ lie) ≤ℤ (((x -ℤ a) +ℤ error +ℤ lie) +ℤ a +ℤ pos n)
    below_it a x error lie n h = omega (arith, ints)

    above_it : (a x error lie : ℤ) (n : ℕ) → error ≤ℤ pos n → (((x -ℤ a) +ℤ error +ℤ lie) +ℤ a) ≤ℤ ((x +ℤ lie) +ℤ pos n)
    above_it a x error lie n h = omega (arith, ints)

add_zero : (a : ℤ) → a +ℤ pos 0 ≡ a
add_zero a = omega (arith, ints)

reads_own : (n : ℕ) (a lie : ℤ) (u : Option ℤ) → lie ≡ pos 0 → u ≡ Some (pos 0) → Reads n a (a +ℤ lie) u
reads_own n a lie u none is =
    let z : a +ℤ lie ≡ a = ap (λ (x : ℤ). a +ℤ x) none ∙ add_zero a in
    subst (λ (x : ℤ). Reads n a x u) (sym z) (record { value = pos 0; is = is; low = low a n; high = high a n })
  where
    low : (a : ℤ) (n : ℕ) → a ≤ℤ (pos 0 +ℤ a +ℤ pos n)
    low a n = omega (arith, ints)

    high : (a : ℤ) (n : ℕ) → (pos 0 +ℤ a) ≤ℤ (a +ℤ pos n)
    high a n = omega (arith, ints)

-- the reader itself, where it is a full node
abbrev own_clock : ℕ → Bool → Option ℕ
own_clock i full = if full then Some i else None

by_mode : (m i : ℕ) (readings : List ℤ) (members good : List ℕ) (full : Bool)
    → corrects m i readings members good (if full then Mode.Full else Mode.Joining) ≡ voted members m (read_of good (own_clock i full) readings)
by_mode m i readings members good true = refl
by_mode m i readings members good false = refl

not_own : (i q : ℕ) (full : Bool) → q ≢ i → is_own (own_clock i full) q ≡ false
not_own i q true ne = ne_eqb i q (λ e. ne (sym e))
not_own i q false ne = refl

close_by : (k d : ℕ) (e : ℤ) → e ≡ pos d → pos k ≤ℤ e → k ≤ d
close_by k d e size h = let l : pos k ≤ℤ pos d = subst (λ (z : ℤ). pos k ≤ℤ z) size h in step k d l where
  step : (k d : ℕ) → pos k ≤ℤ pos d → k ≤ d
  step k d h = omega (arith, ints)

module _ (cl : Cluster) (class_of : Classing) (p : ℕ) (h : Here cl class_of p) (c : ClockView) (clocks : AreClocks cl class_of c) where
  abbrev o : ℕ → ℤ
  o = offsets cl c p

  abbrev ms : List ℕ
  ms = h.start.state.standing.members

  abbrev n : ℕ
  n = unsigned_abs c.epsilon

  bounded : (i : ℕ) → is_sound (class_of p i) ≡ true → i < c.nodes
  bounded i s = let l = h.all.given.classing.bounded p i s in let e = clocks.nodes in omega arith

  member_below : (q : ℕ) → has_id ms q ≡ true → q < cl.setting.config.nodes
  member_below q on = below cl class_of p h q on

  -- what node i reads of node q
  abbrev read : ℕ → ℕ → Option ℤ
  read i q = read_of (synced_by cl.setting i (cl.received i p)) (own_clock i (is_nonfaulty (class_of p i))) (readings_at cl.setting c (offsets cl c p) p i) q

  correction_is : (i : ℕ) → is_sound (class_of p i) ≡ true → correction_at cl c (offsets cl c p) p i ≡ voted ms cl.setting.config.m (read i)
  unfolding through
  correction_is i s =
      ap (λ (w : View). corrects cl.setting.config.m i (readings_at cl.setting c (offsets cl c p) p i) (members_in w.before) w.sync w.mode) (goes cl class_of p h i s)
      ∙ by_mode cl.setting.config.m i (readings_at cl.setting c (offsets cl c p) p i) ms (synced_by cl.setting i (cl.received i p)) (is_nonfaulty (class_of p i))

  -- whose frames are among the good ones
  in_sync : (i q : ℕ) → q < cl.setting.config.nodes → q ≢ i → has_id (synced_by cl.setting i (cl.received i p)) q ≡ is_good ((cl.received i p).sync q)
  in_sync i q low ne =
      has_where (λ j. not (j == i) && is_good ((cl.received i p).sync j)) cl.setting.config.nodes q
      ∙ ap₂ (λ (a b : Bool). a && (not b && is_good ((cl.received i p).sync q))) (lt-ltb _ _ low) (ne_eqb q i ne)

  not_in_sync : (i q : ℕ) → q ≡ i → has_id (synced_by cl.setting i (cl.received i p)) q ≡ false
  not_in_sync i q e =
      has_where (λ j. not (j == i) && is_good ((cl.received i p).sync j)) cl.setting.config.nodes q
      ∙ ap (λ (b : Bool). nat_lt q cl.setting.config.nodes && (not b && is_good ((cl.received i p).sync q))) (eq-eqb q i e) ∙ and-false (nat_lt q cl.setting.config.nodes)

  read_other : (i q : ℕ) (good : Bool) → q < cl.setting.config.nodes → q ≢ i → is_good ((cl.received i p).sync q) ≡ good
      → read i q ≡ (if good then Some (reading_at c (offsets cl c p) p i q) else None)
  read_other i q good low ne e =
      let few = h.all.given.config.few_nodes in
      ap (λ (b : Bool). if b then Some (pos 0) else (if has_id (synced_by cl.setting i (cl.received i p)) q then Some (number_at (readings_at cl.setting c (offsets cl c p) p i) q) else None))
      (not_own i q (is_nonfaulty (class_of p i)) ne)
      ∙ ap₂ (λ (b : Bool) (z : ℤ). if b then Some z else None) (in_sync i q low ne ∙ e) (tabulated cl.setting.capacity (λ j. if nat_lt j cl.setting.config.nodes then reading_at c (offsets cl c p) p i j else pos 0) q (pos 0) (omega arith)
      ∙ cond-true (nat_lt q cl.setting.config.nodes) (reading_at c (offsets cl c p) p i q) (pos 0) (lt-ltb _ _ low))

  reads_good : (i q : ℕ) → is_sound (class_of p i) ≡ true → q < cl.setting.config.nodes → q ≢ i → is_good ((cl.received i p).sync q) ≡ true
      → Reads n (offsets cl c p i) (offsets cl c p q +ℤ lie_at c q i p) (read i q)
  reads_good i q s low ne g =
      let b = clocks.clock.errors (p + q) i (bounded i s) in
      reads_other n (offsets cl c p i) (offsets cl c p q) (error_at c i q p) (lie_at c q i p) c.epsilon (read i q) (size_of c.epsilon clocks.clock.epsilon.0) b.0 b.1 (read_other i q true low ne g)

  sound_tells : (q i : ℕ) → is_sound (class_of p q) ≡ true → lie_at c q i p ≡ pos 0
  sound_tells q i s = no_lie class_of c.nodes q i p c.lies clocks.fair s

  reads_nonfaulty : (i q : ℕ) → is_sound (class_of p i) ≡ true → q < cl.setting.config.nodes → class_of p q ≡ N → Reads n (offsets cl c p i) (offsets cl c p q +ℤ lie_at c q i p) (read i q)
  reads_nonfaulty i q s low e = elim (cases_eq q i) [
    | inl same ↦
        let own : read i i ≡ Some (pos 0) =
        ap (λ (full : Bool). read_of (synced_by cl.setting i (cl.received i p)) (own_clock i full) (readings_at cl.setting c (offsets cl c p) p i) i) (ap is_nonfaulty (ap (class_of p) (sym same) ∙ e))
        ∙ cond-true (i == i) _ _ (eq-eqb i i refl) in
        subst (λ (x : ℕ). Reads n (offsets cl c p i) (offsets cl c p x +ℤ lie_at c x i p) (read i x)) (sym same)
        (reads_own n (offsets cl c p i) (lie_at c i i p) (read i i) (sound_tells i i s) own)
    | inr ne ↦ reads_good i q s low ne (ap is_good ((h.all.given.reception p).sync.stands q i h.start.state e s ne (h.start.equal q e) h.start.valid))
  ]

  reads_silent : (i q : ℕ) → is_sound (class_of p i) ≡ true → q < cl.setting.config.nodes → is_silent (class_of p q) ≡ true → read i q ≡ None
  reads_silent i q s low quiet = elim (cases_eq q i) [
    | inl same ↦
        ap₂ (λ (full good : Bool). if is_own (own_clock i full) q then Some (pos 0) else (if good then Some (number_at (readings_at cl.setting c (offsets cl c p) p i) q) else None))
        (silent_not_full (class_of p i) (ap (λ (x : ℕ). is_silent (class_of p x)) (sym same) ∙ quiet)) (not_in_sync i q same)
    | inr ne ↦ read_other i q false low ne ((h.all.given.reception p).sync.silent q i quiet s ne)
  ]

  -- the lie to another reader, where there is one
  lie_there : (i j q : ℕ) → lie_at c q j p ≡ lie_at c q i p → Reads n (offsets cl c p j) (offsets cl c p q +ℤ lie_at c q j p) (read j q) → Reads n (offsets cl c p j) (offsets cl c p q +ℤ lie_at c q i p) (read j q)
  lie_there i j q e r = subst (λ (z : ℤ). Reads n (offsets cl c p j) (offsets cl c p q +ℤ z) (read j q)) e r

  reads_alike : (i j q : ℕ) → is_sound (class_of p i) ≡ true → is_sound (class_of p j) ≡ true → q < cl.setting.config.nodes → class_of p q ≡ S
      → ReadAlike n (offsets cl c p i) (offsets cl c p j) (offsets cl c p q +ℤ lie_at c q i p) (read i q) (read j q)
  reads_alike i j q si sj low e =
      let apart : (x : ℕ) → is_sound (class_of p x) ≡ true → q ≢ x = λ x sx f. both_ways _ (ap is_sound e) (ap (λ (y : ℕ). is_sound (class_of p y)) f ∙ sx) in
      let same = ap is_good ((h.all.given.reception p).sync.alike q i j e si sj (apart i si) (apart j sj)) in
      let lie = same_lie class_of c.nodes q j i p c.lies clocks.fair e (bounded j sj) (bounded i si) (λ f. apart j sj (sym f)) (λ f. apart i si (sym f)) in
      elim (cases_Bool (is_good ((cl.received i p).sync q))) [
        | inl g ↦ inr (reads_good i q si low (apart i si) g, lie_there i j q lie (reads_good j q sj low (apart j sj) (sym same ∙ g)))
        | inr b ↦ inl (read_other i q false low (apart i si) b, read_other j q false low (apart j sj) (sym same ∙ b))
      ]

  are_read : (i j q : ℕ) → is_sound (class_of p i) ≡ true → is_sound (class_of p j) ≡ true → has_id ms q ≡ true
      → AreRead n (offsets cl c p i) (offsets cl c p j) (class_of p q) (offsets cl c p q +ℤ lie_at c q i p) (read i q) (read j q)
  are_read i j q si sj on = go (class_of p q) refl where
    low : q < cl.setting.config.nodes
    low = member_below q on

    go : (k : Class) → class_of p q ≡ k → AreRead n (offsets cl c p i) (offsets cl c p j) k (offsets cl c p q +ℤ lie_at c q i p) (read i q) (read j q)
    go N e = let s : is_sound (class_of p q) ≡ true = ap is_sound e in
        (reads_nonfaulty i q si low e, lie_there i j q (sound_tells q j s ∙ sym (sound_tells q i s)) (reads_nonfaulty j q sj low e))
    go J e = (reads_silent i q si low (ap is_silent e), reads_silent j q sj low (ap is_silent e))
    go B e = (reads_silent i q si low (ap is_silent e), reads_silent j q sj low (ap is_silent e))
    go S e = reads_alike i j q si sj low e
    go A e = tt

  near_after : SkewLaw → (i j : ℕ) → is_sound (class_of p i) ≡ true → is_sound (class_of p j) ≡ true → (low high : ℤ)
      → ((q : ℕ) → has_id ms q ≡ true → class_of p q ≡ N → (low ≤ℤ offsets cl c p q) × (offsets cl c p q ≤ℤ high))
      → AreNear low high n (corrected cl c (offsets cl c p) p i) (corrected cl c (offsets cl c p) p j)
  near_after law i j si sj low high bounds =
      let r = law cl.setting.config.m n (class_of p) (λ q. offsets cl c p q +ℤ lie_at c q i p) (read i) (read j) (offsets cl c p i) (offsets cl c p j) low high ms
      (λ q on. are_read i j q si sj on) (within cl class_of p h)
      (λ q on e. subst (λ (z : ℤ). (low ≤ℤ z) × (z ≤ℤ high)) (sym (ap (λ (z : ℤ). offsets cl c p q +ℤ z) (sound_tells q i (ap is_sound e)) ∙ add_zero (offsets cl c p q))) (bounds q on e)) in
      let a : voted ms cl.setting.config.m (read i) +ℤ offsets cl c p i ≡ corrected cl c (offsets cl c p) p i =
      +ℤ_comm (voted ms cl.setting.config.m (read i)) (offsets cl c p i) ∙ ap (λ (z : ℤ). offsets cl c p i +ℤ z) (sym (correction_is i si)) in
      let b : voted ms cl.setting.config.m (read j) +ℤ offsets cl c p j ≡ corrected cl c (offsets cl c p) p j =
      +ℤ_comm (voted ms cl.setting.config.m (read j)) (offsets cl c p j) ∙ ap (λ (z : ℤ). offsets cl c p j +ℤ z) (sym (correction_is j sj)) in
      subst (λ (x : ℤ). AreNear low high n x (corrected cl c (offsets cl c p) p j)) a
      (subst (λ (y : ℤ). AreNear low high n (voted ms cl.setting.config.m (read i) +ℤ offsets cl c p i) y) b r)

  offset_next : (i : ℕ) → offsets cl c (suc p) i ≡ corrected cl c (offsets cl c p) p i +ℤ drift_at c i p
  unfolding offsets
  offset_next i = refl

  pub clocks_near : SkewLaw → DriftLaw → (i j : ℕ) → is_sound (class_of p i) ≡ true → is_sound (class_of p j) ≡ true → ClocksNear cl class_of c p ms i j
  clocks_near law drift i j si sj = record {
    corrected_near = near_after law i j si sj;
    skew = λ low high bounds.
        let d = close_by (distance (drift_at c i p) (drift_at c j p)) (unsigned_abs c.drift) c.drift (size_of c.drift clocks.clock.drift.0) (clocks.clock.close_drifts p i j (bounded i si) (bounded j sj)) in
        let r = drift low high n (unsigned_abs c.drift) (corrected cl c (offsets cl c p) p i) (corrected cl c (offsets cl c p) p j) (drift_at c i p) (drift_at c j p) (near_after law i j si sj low high bounds) d in
        subst (λ (x : ℤ). distance x (offsets cl c (suc p) j) ≤ (distance low high + 1) / 2 + 2 * n + unsigned_abs c.drift) (sym (offset_next i))
        (subst (λ (y : ℤ). distance (corrected cl c (offsets cl c p) p i +ℤ drift_at c i p) y ≤ (distance low high + 1) / 2 + 2 * n + unsigned_abs c.drift) (sym (offset_next j)) r);
  }

-- ---- the laws

pub clock_law : SkewLaw → DriftLaw → ClockLaw
clock_law law drift cl class_of p h c clocks = clocks_near cl class_of p (here cl class_of p h) c clocks law drift

pub claimed_clock_law : StartLaw → StepLaw → ClockLaw → ClaimedClockLaw
claimed_clock_law start next law cl class_of given spares c clocks p claim i j si sj =
    let started : (q : ℕ) → q ≤ p → Started cl class_of q = all_started start next cl class_of given spares p (λ q l. claim q (omega arith)) in
    let h : IsHere cl class_of p = record { given = given; start = started p (omega arith); budget = claim p (omega arith) } in
    let same = members_are cl class_of p (has_reference cl class_of p (claim p (omega arith))) (started p (omega arith)) in
    subst (λ (members : List ℕ). ClocksNear cl class_of c p members i j) (sym same) (law cl class_of p h c clocks i j si sj)

pub sparing_clock_law : ReceptionLaw → ClaimedClockLaw → SparingClockLaw
sparing_clock_law reception law sys given spares c clocks p claim = law _ _ (given_of reception sys given) spares c clocks p claim
