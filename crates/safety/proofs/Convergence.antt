-- The laws of values and clocks over many periods: each period halves how far they are apart, up to what it adds.
use Rattle.std.proofs.Common.{ℕ, zero, suc, ◌≡◌, ◌<◌, ◌≤◌, ◌+◌, ◌-◌, ◌*◌, ◌/◌, ◌^◌, true, List, ℤ, pos, ◌+ℤ◌, ◌≤ℤ◌, refl, sym, ap, ap₂, subst, ◌∙◌, arith, pow_pos}
use Rattle.std.specs.Prelude.{unsigned_abs, slice_index_or}
use Rattle.std.proofs.lemmas.Int.{ints}
use Rattle.std.proofs.lemmas.Nat.{div_below}
use Rattle.std.proofs.Math.Nat.{add-div_right, div-div-eq-div-mul, pow-suc}
use Rattle.node_grid.specs.declared.class.Class.{Class}
use Rattle.node_grid.specs.declared.class.Class.TheVariants.{N}
use Rattle.node_grid.specs.Class.{is_nonfaulty, is_sound, IsWithin}
use Rattle.node_grid.specs.NodeSet.{has_id}
use Rattle.node_grid.specs.TruthFacts.{is_n}
use Rattle.mme_vote.specs.declared.channel.Channel.TheVariants.{State}
use Rattle.mme_vote.specs.Channel.{is_judged}
use Rattle.mme_vote.specs.Vote.{distance}
use Rattle.mme_vote.specs.Members.{MembersLaw}
use Rattle.clock_skew.specs.Clock.{ClockView}
use Rattle.protocol.specs.View.{own_in, own_from, own_value, cut, channel}
use Rattle.protocol.specs.FurtherKinds.{convictions}
use Rattle.protocol.specs.Cluster.{Cluster, begins, view}
use Rattle.protocol.specs.Run.{run, classes}
use Rattle.protocol.specs.Safe.{Classing, Claim}
use Rattle.protocol.specs.Clocks.{AreClocks, offsets}
use Rattle.safety.specs.Facts.{given_of}
use Rattle.safety.specs.Given.{IsGiven, Started, IsHere}
use Rattle.safety.specs.Views.{StartLaw, StepLaw}
use Rattle.safety.specs.Runs.{ReceptionLaw}
use Rattle.safety.specs.ClockLaws.{ClockLaw}
use Rattle.safety.specs.Convergence.{halved, OwnsNear, VotesNear, ValuesConvergeLaw, StartsConvergeLaw, settled_skew, OffsetsNear, SkewAfter, ClocksSettleLaw, StartedClocksLaw}
use Rattle.safety.proofs.Classes.{more_nonfaulty}
use Rattle.safety.proofs.Distances.{cut_close}
use Rattle.safety.proofs.Period.{Here, within}
use Rattle.safety.proofs.Data.{best, le_total, le_trans, listed, own_at, state_due, next_own, votes_close}
use Rattle.safety.proofs.Induction.{here, all_started}
use Rattle.safety.proofs.Convictions.{spared_law}

-- ---- halves

none_halved : (d : ℕ) → halved 0 d ≡ d
unfolding halved
none_halved d = omega arith

once_more : (k d : ℕ) → (halved k d + 1) / 2 ≡ halved (suc k) d
unfolding halved
once_more k d =
    let some : 0 < 2 ^ k = pow_pos k in
    let double : 2 ^ suc k ≡ 2 ^ k * 2 = pow-suc 2 k in
    let whole : d + (2 ^ k - 1) + 2 ^ k ≡ d + (2 ^ suc k - 1) = omega arith in
    ap (λ (n : ℕ). n / 2) (sym (add-div_right (d + (2 ^ k - 1)) some))
    ∙ div-div-eq-div-mul (d + (2 ^ k - 1) + 2 ^ k) (2 ^ k) 2
    ∙ ap₂ (λ (n m : ℕ). n / m) whole (sym double)

in_the_end : (k d : ℕ) → d ≤ 2 ^ k → halved k d ≤ 1
unfolding halved
in_the_end k d low =
    let some : 0 < 2 ^ k = pow_pos k in
    let less : d + (2 ^ k - 1) < 2 * 2 ^ k = omega arith in
    let few = div_below (d + (2 ^ k - 1)) (2 ^ k) 2 some less in
    omega arith

-- ---- numbers of the nonfaulty members that are at most d apart

record Bounds (f : ℕ → ℤ) (class_of : ℕ → Class) (members : List ℕ) (d : ℕ) : Type 0 where
  low : ℤ
  high : ℤ
  near : distance low high ≤ d
  all : (q : ℕ) → has_id members q ≡ true → class_of q ≡ N → (low ≤ℤ f q) × (f q ≤ℤ high)

bounds_of : (f : ℕ → ℤ) (class_of : ℕ → Class) (members : List ℕ) (rounds d : ℕ) → IsWithin class_of members rounds
    → ((i j : ℕ) → class_of i ≡ N → class_of j ≡ N → distance (f i) (f j) ≤ d) → Bounds f class_of members d
bounds_of f class_of members rounds d within near =
    let more = more_nonfaulty class_of members rounds within in
    let low = best (λ x y. x ≤ℤ y) (λ x y. le_total x y) (λ x y z r s. le_trans x y z r s) f (λ q. is_nonfaulty (class_of q)) members (omega arith) in
    let high = best (λ x y. y ≤ℤ x) (λ x y. le_total y x) (λ x y z r s. le_trans z y x s r) f (λ q. is_nonfaulty (class_of q)) members (omega arith) in
    record {
      low = f low.node;
      high = f high.node;
      near = near low.node high.node (is_n _ low.passes) (is_n _ high.passes);
      all = λ q on n. (low.first q on (ap is_nonfaulty n), high.first q on (ap is_nonfaulty n));
    }

-- half of what is at most d is at most half of d
half_le : (x y d : ℕ) → x ≤ (y + 1) / 2 → y ≤ d → x ≤ (d + 1) / 2
half_le x y d h k = omega arith

pos_le : (a b : ℕ) → pos a ≤ℤ pos b → a ≤ b
pos_le a b h = omega (arith, ints)

-- ---- one period

module _ (cl : Cluster) (class_of : Classing) (p : ℕ) (h : Here cl class_of p) (law : MembersLaw) (c : ℕ) (delta : ℤ) (start : List ℤ) (step : ℤ) (e : channel cl.setting c ≡ State delta start step) (d : ℕ)
    (near : OwnsNear cl class_of p c d) where
  votes_halve : VotesNear cl class_of p c ((d + 1) / 2)
  votes_halve i j v w si sj is_v is_w =
      let r = votes_close cl class_of p h law i j c si sj (state_due cl class_of p h law i c delta start step si e) (ap is_judged e) in
      let b = bounds_of (λ q. own_in (view cl q p).own c) (class_of p) h.start.state.standing.members cl.setting.config.m d (within cl class_of p h) near in
      let k = r.close b.low b.high b.all in
      let a : r.first ≡ v = let f = sym r.votes ∙ is_v in cc in
      let o : r.second ≡ w = let f = sym r.votes_too ∙ is_w in cc in
      subst (λ (x : ℤ). distance x w ≤ (d + 1) / 2) a (subst (λ (y : ℤ). distance r.first y ≤ (d + 1) / 2) o (half_le _ _ d k.halved b.near))

  owns_halve : Here cl class_of (suc p) → OwnsNear cl class_of (suc p) c ((d + 1) / 2)
  owns_halve next i j ni nj =
      let si = h.all.given.classing.sound_before p i ni in
      let sj = h.all.given.classing.sound_before p j nj in
      let low = listed cl.setting c delta start step e in
      let r = votes_close cl class_of p h law i j c si sj (state_due cl class_of p h law i c delta start step si e) (ap is_judged e) in
      let n = votes_halve i j r.first r.second si sj r.votes r.votes_too in
      let a = own_at cl class_of (suc p) next law i c (ap is_sound ni) low ∙ next_own cl class_of p h law i c delta start step r.first ni e si r.votes in
      let b = own_at cl class_of (suc p) next law j c (ap is_sound nj) low ∙ next_own cl class_of p h law j c delta start step r.second nj e sj r.votes_too in
      let cuts : pos (distance (cut (r.first +ℤ step)) (cut (r.second +ℤ step))) ≤ℤ pos (distance r.first r.second) = cut_close r.first r.second step (pos (distance r.first r.second)) (self (distance r.first r.second)) in
      let less = pos_le _ _ cuts in
      let all : distance (cut (r.first +ℤ step)) (cut (r.second +ℤ step)) ≤ (d + 1) / 2 = omega arith in
      subst (λ (x : ℤ). distance x (own_in (view cl j (suc p)).own c) ≤ (d + 1) / 2) (sym a) (subst (λ (y : ℤ). distance (cut (r.first +ℤ step)) y ≤ (d + 1) / 2) (sym b) all)
    where
      self : (n : ℕ) → pos n ≤ℤ pos n
      self n = omega (arith, ints)

-- clocks that are at most d apart before a period are half of that apart after it, rounded up, and what the period adds
module _ (cl : Cluster) (class_of : Classing) (p : ℕ) (h : IsHere cl class_of p) (law : ClockLaw) (c : ClockView) (clocks : AreClocks cl class_of c) (d : ℕ)
    (near : OffsetsNear cl class_of c p d) where
  skew_halves : SkewAfter cl class_of c p ((d + 1) / 2 + 2 * unsigned_abs c.epsilon + unsigned_abs c.drift)
  skew_halves i j si sj =
      let b = bounds_of (offsets cl c p) (class_of p) h.start.state.standing.members cl.setting.config.m d (within cl class_of p (here cl class_of p h)) near in
      let r = (law cl class_of p h c clocks i j si sj).skew b.low b.high b.all in
      let n = b.near in
      omega arith

-- what exceeds the settled skew is halved
settles : (x s n a : ℕ) → s ≡ 2 * a → n ≤ (x + s + 1) / 2 + a → n ≤ (x + 1) / 2 + s
settles x s n a e h = omega arith

-- ---- the claimed periods of a cluster

module _ (start : StartLaw) (next : StepLaw) (cl : Cluster) (class_of : Classing) (given : IsGiven cl class_of) (are : cl.setting.further ≡ convictions cl.setting.config.m) where
  -- the premise of each claimed period, and of the one after it
  pub started_at : (p : ℕ) → Claim cl class_of p → (q : ℕ) → q ≤ suc p → Started cl class_of q
  started_at p claim q low = all_started start next cl class_of given (spared_law cl class_of given are) (suc p) (λ r l. claim r (omega arith)) q low

  pub is_here : (p : ℕ) → Claim cl class_of p → IsHere cl class_of p
  is_here p claim = record { given = given; start = started_at p claim p (omega arith); budget = claim p (omega arith) }

  pub claim_below : (p q : ℕ) → Claim cl class_of q → p ≤ q → Claim cl class_of p
  claim_below p q claim low r l = claim r (omega arith)

  module _ (law : MembersLaw) (c : ℕ) (delta : ℤ) (starts : List ℤ) (step : ℤ) (e : channel cl.setting c ≡ State delta starts step) (d p : ℕ) (near : OwnsNear cl class_of p c d) where
    owns_near : (k q : ℕ) → p + k ≡ q → Claim cl class_of q → OwnsNear cl class_of q c (halved k d)
    owns_near zero q at claim =
        let same : p ≡ q = omega arith in
        subst (λ (n : ℕ). OwnsNear cl class_of q c n) (sym (none_halved d)) (subst (λ (x : ℕ). OwnsNear cl class_of x c d) same near)
    owns_near (suc k) q at claim =
        let same : suc (p + k) ≡ q = omega arith in
        let before : Claim cl class_of (p + k) = claim_below (p + k) q claim (omega arith) in
        let now : Claim cl class_of (suc (p + k)) = claim_below (suc (p + k)) q claim (omega arith) in
        subst (λ (x : ℕ). OwnsNear cl class_of x c (halved (suc k) d)) same
        (subst (λ (n : ℕ). OwnsNear cl class_of (suc (p + k)) c n) (once_more k d)
        (owns_halve cl class_of (p + k) (here cl class_of (p + k) (is_here (p + k) before)) law c delta starts step e (halved k d) (owns_near k (p + k) refl before)
        (here cl class_of (suc (p + k)) (is_here (suc (p + k)) now))))

    votes_near : (k : ℕ) → Claim cl class_of (p + k) → VotesNear cl class_of (p + k) c (halved (suc k) d)
    votes_near k claim =
        subst (λ (n : ℕ). VotesNear cl class_of (p + k) c n) (once_more k d)
        (votes_halve cl class_of (p + k) (here cl class_of (p + k) (is_here (p + k) claim)) law c delta starts step e (halved k d) (owns_near k (p + k) refl claim))

  module _ (law : ClockLaw) (c : ClockView) (clocks : AreClocks cl class_of c) (d p : ℕ) (near : OffsetsNear cl class_of c p d) where
    abbrev skew : ℕ → ℕ
    skew k = halved k (d - settled_skew c) + settled_skew c

    skew_settles : (k q : ℕ) → Claim cl class_of q → OffsetsNear cl class_of c q (skew k) → SkewAfter cl class_of c q (skew (suc k))
    skew_settles k q claim offsets_near i j si sj =
        let r = skew_halves cl class_of q (is_here q claim) law c clocks (skew k) offsets_near i j si sj in
        let l = settles (halved k (d - settled_skew c)) (settled_skew c) (distance (offsets cl c (suc q) i) (offsets cl c (suc q) j)) (2 * unsigned_abs c.epsilon + unsigned_abs c.drift) (omega arith) (omega arith) in
        subst (λ (n : ℕ). distance (offsets cl c (suc q) i) (offsets cl c (suc q) j) ≤ n + settled_skew c) (once_more k (d - settled_skew c)) l

    offsets_near : (k q : ℕ) → p + k ≡ q → Claim cl class_of q → OffsetsNear cl class_of c q (skew k)
    offsets_near zero q at claim =
        let same : p ≡ q = omega arith in
        let z = none_halved (d - settled_skew c) in
        subst (λ (x : ℕ). OffsetsNear cl class_of c x (skew 0)) same (λ i j ni nj. let n = near i j ni nj in omega arith)
    offsets_near (suc k) q at claim =
        let same : suc (p + k) ≡ q = omega arith in
        let before : Claim cl class_of (p + k) = claim_below (p + k) q claim (omega arith) in
        subst (λ (x : ℕ). OffsetsNear cl class_of c x (skew (suc k))) same
        (λ i j ni nj. skew_settles k (p + k) before (offsets_near k (p + k) refl before) i j (given.classing.sound_before (p + k) i ni) (given.classing.sound_before (p + k) j nj))

  -- own values before any period are the starts
  owns_start : (law : MembersLaw) (c : ℕ) (delta : ℤ) (starts : List ℤ) (step : ℤ) → channel cl.setting c ≡ State delta starts step → Claim cl class_of 0 → (i : ℕ) → class_of 0 i ≡ N
      → own_in (view cl i 0).own c ≡ slice_index_or starts i (pos 0)
  unfolding own_value
  owns_start law c delta starts step e claim i n =
      own_at cl class_of 0 (here cl class_of 0 (is_here 0 claim)) law i c (ap is_sound n) (listed cl.setting c delta starts step e)
      ∙ ap (own_from i 0 (cl.inputs i 0) (begins cl i 0) c) e

-- ---- the laws

pub values_law : ReceptionLaw → StartLaw → StepLaw → MembersLaw → ValuesConvergeLaw
values_law reception start next law sys given are p k claim c delta starts step e d near =
    let all : IsGiven (run sys) (classes sys) = given_of reception sys given in
    (owns_near start next (run sys) (classes sys) all are law c delta starts step e d p near k (p + k) refl claim, votes_near start next (run sys) (classes sys) all are law c delta starts step e d p near k claim)

pub starts_law : ReceptionLaw → StartLaw → StepLaw → MembersLaw → ValuesConvergeLaw → StartsConvergeLaw
starts_law reception start next law values sys given are p claim c delta starts step e d near =
    let all : IsGiven (run sys) (classes sys) = given_of reception sys given in
    let first : Claim (run sys) (classes sys) 0 = λ q l. claim q (omega arith) in
    let own = owns_start start next (run sys) (classes sys) all are law c delta starts step e first in
    let from : OwnsNear (run sys) (classes sys) 0 c d = λ i j ni nj.
    subst (λ (x : ℤ). distance x (own_in (view (run sys) j 0).own c) ≤ d) (sym (own i ni)) (subst (λ (y : ℤ). distance (slice_index_or starts i (pos 0)) y ≤ d) (sym (own j nj))
    (near i j (all.classing.bounded 0 i (ap is_sound ni)) (all.classing.bounded 0 j (ap is_sound nj)))) in
    let zero_more : 0 + p ≡ p = omega arith in
    let r = values sys given are 0 p (subst (Claim (run sys) (classes sys)) (sym zero_more) claim) c delta starts step e d from in
    subst (λ (q : ℕ). OwnsNear (run sys) (classes sys) q c (halved p d) × VotesNear (run sys) (classes sys) q c (halved (suc p) d)) zero_more r

pub clocks_settle_law : ReceptionLaw → StartLaw → StepLaw → ClockLaw → ClocksSettleLaw
clocks_settle_law reception start next law sys given are p k claim c clocks d near =
    let all : IsGiven (run sys) (classes sys) = given_of reception sys given in
    let before = offsets_near start next (run sys) (classes sys) all are law c clocks d p near k (p + k) refl claim in
    (before, skew_settles start next (run sys) (classes sys) all are law c clocks d p near k (p + k) claim before)

pub started_clocks_law : ReceptionLaw → ClocksSettleLaw → StartedClocksLaw
unfolding offsets
started_clocks_law reception settle sys given are p claim c clocks d near =
    let all : IsGiven (run sys) (classes sys) = given_of reception sys given in
    let in_use : (i : ℕ) → classes sys 0 i ≡ N → i < c.nodes = λ i n. let l = all.classing.bounded 0 i (ap is_sound n) in let e = clocks.nodes in omega arith in
    let from : OffsetsNear (run sys) (classes sys) c 0 d = λ i j ni nj. near i j (in_use i ni) (in_use j nj) in
    let zero_more : 0 + p ≡ p = omega arith in
    let r = settle sys given are 0 p (subst (Claim (run sys) (classes sys)) (sym zero_more) claim) c clocks d from in
    let before : OffsetsNear (run sys) (classes sys) c p (halved p (d - settled_skew c) + settled_skew c) =
    subst (λ (q : ℕ). OffsetsNear (run sys) (classes sys) c q (halved p (d - settled_skew c) + settled_skew c)) zero_more r.0 in
    record {
      before = before;
      after = subst (λ (q : ℕ). SkewAfter (run sys) (classes sys) c q (halved (suc p) (d - settled_skew c) + settled_skew c)) zero_more r.1;
      in_the_end = λ long i j ni nj. let n = before i j ni nj in let few = in_the_end p (d - settled_skew c) (omega arith) in omega arith;
    }
