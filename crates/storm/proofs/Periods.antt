-- Each period of a storm is claimed.
use Rattle.std.proofs.Common.{◌≡◌, ◌≢◌, ℕ, zero, suc, ◌<◌, ◌≤◌, true, List, length, Some, refl, sym, ap, subst, ◌∙◌, inl, inr, arith}
use Rattle.std.proofs.lemmas.Bool.{cases_Bool, cases_lt, both_ways, false_from_ne_true}
use Rattle.std.proofs.lemmas.List.{length-map}
use Rattle.node_grid.specs.declared.class.Class.TheVariants.{N}
use Rattle.node_grid.specs.Class.{is_nonfaulty, is_sound, IsWithin}
use Rattle.node_grid.specs.SetFacts.{member-lt}
use Rattle.omh_paths.specs.MemberLaws.{Distinct-ids}
use Rattle.protocol.specs.Run.{members_in, run, classes}
use Rattle.protocol.specs.Safe.{reference, members_from, members_at, KeepsBound, Safe}
use Rattle.safety.specs.Given.{IsGiven, IsSparing, Started}
use Rattle.safety.specs.Views.{StartLaw, StepLaw}
use Rattle.safety.specs.Runs.{ReceptionLaw}
use Rattle.safety.specs.Convictions.{SparedLaw}
use Rattle.draws.specs.Draws.{generator_of}
use Rattle.safety.specs.Facts.{given_of}
use Rattle.storm.specs.Storm.{Block, blocks, storm, restart_drawn}
use Rattle.storm.specs.Laws.{HasOneFaulty, IsWeathered, Weathers, StormLaw}
use Rattle.storm.proofs.Off.{is_off}
use Rattle.storm.proofs.Shape.{AreBlocks}
use Rattle.storm.proofs.Drawn.{blocks_are, length-blocks}
use Rattle.storm.proofs.Offs.{off_high, one_off}
use Rattle.storm.proofs.Classes.{nonfaulty}
use Rattle.storm.proofs.Budgets.{within}
use Rattle.storm.proofs.Planned.{few_lines}
use Rattle.storm.proofs.Accepted.{system_by, given_is, accepted_by}

module _ (bs : List Block) (are : AreBlocks 0 bs) where
  -- nodes 0 to 4 are always of class N
  low_nodes : (p j : ℕ) → j < 5 → classes (system_by bs) p j ≡ N
  low_nodes p j low = nonfaulty bs are p j (omega arith) (false_from_ne_true _ (λ h. let high = (off_high 0 bs p j are h).0 in absurd (omega arith)))

  -- at most one node is faulty
  one_faulty : (p : ℕ) → HasOneFaulty (classes (system_by bs) p)
  one_faulty p = elim (cases_Bool (is_off bs p 5)) [
    | inl off ↦ faulty 5 (omega arith) (omega arith) (λ j h. one_off 0 bs p j 5 are h off)
    | inr not_five ↦ elim (cases_Bool (is_off bs p 6)) [
      | inl off ↦ faulty 6 (omega arith) (omega arith) (λ j h. one_off 0 bs p j 6 are h off)
      | inr not_six ↦ faulty 7 (omega arith) (omega arith) (λ j h.
          let high = off_high 0 bs p j are h in
          let five : j ≢ 5 = λ e. both_ways _ not_five (subst (λ (x : ℕ). is_off bs p x ≡ true) e h) in
          let six : j ≢ 6 = λ e. both_ways _ not_six (subst (λ (x : ℕ). is_off bs p x ≡ true) e h) in
          let low = high.0 in let most = high.1 in
          omega arith)
    ]
  ]
    where
      faulty : (f : ℕ) → 5 ≤ f → f ≤ 7 → ((j : ℕ) → is_off bs p j ≡ true → j ≡ f) → HasOneFaulty (classes (system_by bs) p)
      faulty f low high one = record {
        node = f;
        low = low;
        high = high;
        others = λ j small ne. nonfaulty bs are p j small (false_from_ne_true _ (λ h. ne (one j h)));
      }

  first_node : (p : ℕ) → reference (run (system_by bs)) (classes (system_by bs)) p ≡ Some 0
  first_node p = let n : is_nonfaulty (classes (system_by bs) p 0) ≡ true = ap is_nonfaulty (low_nodes p 0 (omega arith)) in rw n refl

  members_are : (p : ℕ) (start : Started (run (system_by bs)) (classes (system_by bs)) p) → start.state.standing.members ≡ members_at (run (system_by bs)) (classes (system_by bs)) p
  members_are p start =
      sym (ap (members_from (run (system_by bs)) p) (first_node p) ∙ ap members_in (start.equal 0 (low_nodes p 0 (omega arith))))

  budget : (p : ℕ) → Started (run (system_by bs)) (classes (system_by bs)) p → KeepsBound (run (system_by bs)) (classes (system_by bs)) p
  budget p start =
      subst (λ (qs : List ℕ). IsWithin (classes (system_by bs) p) qs 2) (members_are p start)
      (within (classes (system_by bs) p) (is_off bs p) start.state.standing.members start.valid.standing.set (Distinct-ids 8 start.state.standing.members start.valid.standing.set)
      (λ q low. (start.innocent q (λ r l. low_nodes r q low)).member) (λ q h. (off_high 0 bs p q are h).0) (λ x y h k. one_off 0 bs p x y are h k)
      (λ q on not_off. nonfaulty bs are p q (member-lt 8 start.state.standing.members q start.valid.standing.set on) not_off))

  module _ (given : IsGiven (run (system_by bs)) (classes (system_by bs))) (start : StartLaw) (step : StepLaw) (spared : SparedLaw) where
    -- the premise of a period, where all periods up to it have theirs
    safe_here : (p : ℕ) → ((q : ℕ) → q ≤ p → Started (run (system_by bs)) (classes (system_by bs)) q)
        → Safe (run (system_by bs)) (classes (system_by bs)) p × Started (run (system_by bs)) (classes (system_by bs)) (suc p)
    safe_here p before =
        let s = before p (omega arith) in
        let spares : IsSparing (run (system_by bs)) (classes (system_by bs)) p =
        spared (run (system_by bs)) (classes (system_by bs)) given refl p (λ q l. budget q (before q l)) before in
        step (run (system_by bs)) (classes (system_by bs)) p (record { given = given; start = s; budget = budget p s }) spares

    all_started : (p : ℕ) → (q : ℕ) → q ≤ p → Started (run (system_by bs)) (classes (system_by bs)) q
    all_started zero q low =
        let first : 0 ≡ q = omega arith in
        subst (Started (run (system_by bs)) (classes (system_by bs))) first (start (run (system_by bs)) (classes (system_by bs)) given)
    all_started (suc p) q low = elim (cases_lt q (suc p)) [
      | inl less ↦ all_started p q (omega arith)
      | inr more ↦ let last : suc p ≡ q = omega arith in subst (Started (run (system_by bs)) (classes (system_by bs))) last (safe_here p (all_started p)).1
    ]

    started : (p : ℕ) → Started (run (system_by bs)) (classes (system_by bs)) p
    started p = all_started p p (omega arith)

    safe : (p : ℕ) → Safe (run (system_by bs)) (classes (system_by bs)) p
    safe p = (safe_here p (all_started p)).0

    weathered : (p : ℕ) → IsWeathered (system_by bs) p
    weathered p =
        let sound : is_sound (classes (system_by bs) p 0) ≡ true = ap is_sound (low_nodes p 0 (omega arith)) in
        record {
          one_faulty = one_faulty p;
          claimed = λ q l. budget q (started q);
          safe = safe p;
          reference_node = first_node p;
          before = (started p).state;
          begins_with = (started p).equal 0 (low_nodes p 0 (omega arith));
          spared_before = λ j low. (started p).innocent j (λ r l. low_nodes r j low);
          after = (safe p).equal.after;
          ends_with = (safe p).equal.ends 0 sound;
          spared_after = λ j low. ((safe p).no_false 0 j sound (λ r l. low_nodes r j low)).is;
        }

storm_by : ReceptionLaw → StartLaw → StepLaw → SparedLaw → (bs : List Block) → length bs ≡ 64 → AreBlocks 0 bs → Weathers (system_by bs)
storm_by reception start step spared bs long are =
    let given = accepted_by bs long are in
    record {
      accepted = given;
      few_lines = (let few = few_lines 0 bs are in omega arith);
      restarts = length-map bs restart_drawn ∙ long;
      periods = weathered bs are (given_of reception (system_by bs) given) start step spared;
    }

pub storm_law : ReceptionLaw → StartLaw → StepLaw → SparedLaw → StormLaw
unfolding storm
storm_law reception start step spared seed =
    let long = length-blocks 64 0 (generator_of seed) in
    let are = blocks_are 64 0 (generator_of seed) in
    let bs = (blocks 64 0 (generator_of seed)).0 in
    subst Weathers (sym (given_is bs long are)) (storm_by reception start step spared bs long are)
