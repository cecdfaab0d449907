-- The laws of one node over many periods: once well, back among the members, and out.
use Rattle.std.proofs.Common.{ℕ, zero, suc, ◌≡◌, ◌≢◌, ◌<◌, ◌≤◌, ◌+◌, ◌-◌, ◌*◌, ◌/◌, ◌%◌, ◌⊎◌, Bool, true, false, not, ◌&&◌, ◌||◌, ◌==◌, List, [], ◌∷◌, length, get_or, Option, refl, sym, ap, ap₂, subst, ◌∙◌, inl, inr, arith, lt-ltb, le-ltb, eq-eqb, ne_eqb, nat_lt, min}
use Rattle.std.specs.Prelude.{nat_le, if◌then◌else◌, slice_index}
use Rattle.std.specs.Int.{bit_at}
use Rattle.std.specs.List.{list_all}
use Rattle.std.proofs.lemmas.Bool.{cases_Bool, cases_lt, cases_eq, cond-true, cond-false, or_left, or_right, or_from, and_from, and_parts, and_right, le-leb, lt-leb, leb-true}
use Rattle.std.proofs.lemmas.Nat.{div-mul-add, mod-mul-add, div-add-mod', le-div, mod_below, mul-le}
use Rattle.std.proofs.lemmas.List.Sums.{get_or-le-sum_by}
use Rattle.std.proofs.lemmas.List.FromFn.{get_or-range_with_len, length-range_with_len}
use Rattle.std.proofs.Math.Nat.{add-mul, mul-add, mul-one, suc-mul, mul_comm, min-eq_left, min-eq_right}
use Rattle.node_grid.specs.declared.class.Class.TheVariants.{N}
use Rattle.node_grid.specs.Class.{is_sound}
use Rattle.node_grid.specs.NodeSet.{ids_below, has_id}
use Rattle.node_grid.specs.MaskLaws.{mask-has}
use Rattle.node_grid.specs.NumberFacts.{kinds-few}
use Rattle.mme_vote.specs.Members.{MembersLaw}
use Rattle.list_scheduler.specs.declared.schedule.Verdict.{Verdict}
use Rattle.error_reports.specs.Charge.{accuses, charged, charged_mask}
use Rattle.penalty.specs.declared.Policy.{Policy}
use Rattle.penalty.specs.Step.{penalty, count_after, streak_after}
use Rattle.penalty.specs.StepLaws.{for_nodes-at}
use Rattle.membership.specs.Members.{Standing, remains, joins, all_would_leave, stays, leaves, times_after, standing_after}
use Rattle.agreed_state.specs.Agreed.{standing_by}
use Rattle.protocol.specs.RowLaws.{mask-zero}
use Rattle.protocol.specs.View.{Setting}
use Rattle.protocol.specs.FurtherKinds.{convictions}
use Rattle.protocol.specs.Cluster.{Cluster, view}
use Rattle.protocol.specs.Run.{run, classes}
use Rattle.protocol.specs.Safe.{Classing, Claim, members_at, rows_from, rows_at, IsContinuous, IsInnocent}
use Rattle.safety.specs.Facts.{given_of}
use Rattle.safety.specs.Rows.{CanCharge}
use Rattle.safety.specs.Given.{IsGiven, Started}
use Rattle.safety.specs.Views.{StartLaw, StepLaw}
use Rattle.safety.specs.Runs.{ReceptionLaw, RunLaw}
use Rattle.safety.specs.Lifetime.{standing_at, StandingLaw, IsWell, IsNonfaulty, IsSpared, WellLaw, RecoveryLaw, streaks_needed, MayReturn, ReturnLaw, RemainLaw, IsAccused, StaysLight, LightLaw, ExclusionLaw}
use Rattle.safety.proofs.Charges.{no_charge_law, full_charge_law}
use Rattle.safety.proofs.Standings.{count_at, member_at, counted_full, no_count}
use Rattle.safety.proofs.Period.{Here, members_are, before_is, reference_is, within, rows_fit, same_rows, row_item, by_kind_none}
use Rattle.safety.proofs.Sync.{no_other_body}
use Rattle.safety.proofs.Data.{no_deviations}
use Rattle.safety.proofs.Induction.{here, no_verdicts}
use Rattle.safety.proofs.Convictions.{unsaid}
use Rattle.safety.proofs.Convergence.{started_at, is_here, claim_below}

-- ---- the step of a node's count, streak and membership

streak_at : (s : Setting) (rows : List (Option (List ℕ))) (old : Standing) (j : ℕ) → j < s.config.nodes → j < length old.streaks
    → slice_index (standing_by s.config.policy s.config.nodes rows old).streaks j ≡ streak_after s.config.policy (charged_mask rows old.members j) (slice_index old.streaks j)
unfolding standing_after
streak_at s rows old j low room = for_nodes-at s.config.nodes (λ j. streak_after s.config.policy (charged_mask rows old.members j) (slice_index old.streaks j)) old.streaks j low room

left_at : (s : Setting) (rows : List (Option (List ℕ))) (old : Standing) (j : ℕ) → j < s.config.nodes → j < length old.left
    → slice_index (standing_by s.config.policy s.config.nodes rows old).left j
    ≡ times_after s.config.policy (leaves s.config.policy old.members (λ q. slice_index (standing_by s.config.policy s.config.nodes rows old).counts q) j) (slice_index old.left j)
unfolding standing_after
left_at s rows old j low room =
    for_nodes-at s.config.nodes (λ q. times_after s.config.policy (leaves s.config.policy old.members (λ q. slice_index (standing_by s.config.policy s.config.nodes rows old).counts q) q) (slice_index old.left q)) old.left j low room

-- a member below the bound stays, and a node that may join does; where a count is at the bound of another, nobody stays or joins
kept_in : (policy : Policy) (on all : Bool) (count times : ℕ) → policy.readmit < policy.exclude → count ≤ policy.readmit → (policy.retire ≡ 0) ⊎ (times < policy.retire)
    → (if on then remains policy all count else joins policy count times) ≡ true
kept_in policy true all count times less low may = or_left (nat_lt count policy.exclude) all (lt-ltb _ _ (omega arith))
kept_in policy false all count times less low may = and_from (nat_le count policy.readmit) _ (le-leb _ _ low) (elim may [
  | inl none ↦ or_left (policy.retire == 0) _ (eq-eqb _ _ none)
  | inr few ↦ or_right (policy.retire == 0) _ (lt-ltb _ _ few)
])

put_out : (policy : Policy) (on all : Bool) (count times : ℕ) → policy.readmit < policy.exclude → policy.exclude ≤ count → all ≡ false
    → (if on then remains policy all count else joins policy count times) ≡ false
put_out policy true all count times less high not_all = or_from (nat_lt count policy.exclude) all (le-ltb _ _ high) not_all
put_out policy false all count times less high not_all = ap (λ b. b && (policy.retire == 0 || nat_lt times policy.retire)) (lt-leb count policy.readmit (omega arith))

-- who isn't a member doesn't leave
not_on : (policy : Policy) (members : List ℕ) (count : ℕ → ℕ) (q : ℕ) → has_id members q ≡ false → leaves policy members count q ≡ false
not_on policy members count q off = ap (λ b. b && not (remains policy (all_would_leave policy members count) (count q))) off

all_fails : (f : ℕ → Bool) (xs : List ℕ) (x : ℕ) → has_id xs x ≡ true → f x ≡ false → list_all f xs ≡ false
all_fails f [] x on fails = cc
all_fails f (y ∷ ys) x on fails = elim (cases_eq y x) [
  | inl e ↦ ap (λ b. b && list_all f ys) (ap f e ∙ fails)
  | inr ne ↦ and_right (f y) (list_all f ys) (all_fails f ys x (sym (ap (λ b. b || has_id ys x) (ne_eqb y x ne)) ∙ on) fails)
]

-- ---- a streak, one period further

record Further (n s : ℕ) : Type 0 where
  whole : (n % s) + 1 ≡ s → ((n + 1) / s ≡ n / s + 1) × ((n + 1) % s ≡ 0)
  part : (n % s) + 1 ≢ s → ((n + 1) / s ≡ n / s) × ((n + 1) % s ≡ n % s + 1)

further : (n s : ℕ) → 0 < s → Further n s
further n s some =
    let split = div-add-mod' n s in
    let less = mod_below n s some in
    record {
      whole = λ e.
          let is : n + 1 ≡ (n / s + 1) * s + 0 = more (n / s) s (n % s) n split e in
          (ap (λ (x : ℕ). x / s) is ∙ div-mul-add (n / s + 1) s 0 some, ap (λ (x : ℕ). x % s) is ∙ mod-mul-add (n / s + 1) s 0 some);
      part = λ ne.
          let small : n % s + 1 < s = omega arith in
          let is : n + 1 ≡ n / s * s + (n % s + 1) = omega arith in
          (ap (λ (x : ℕ). x / s) is ∙ div-mul-add (n / s) s (n % s + 1) small, ap (λ (x : ℕ). x % s) is ∙ mod-mul-add (n / s) s (n % s + 1) small);
    }
  where
    more : (d s r n : ℕ) → d * s + r ≡ n → r + 1 ≡ s → n + 1 ≡ (d + 1) * s + 0
    more d s r n e f = let x = add-mul d 1 s in omega arith

uncharged_count : (policy : Policy) (mask count streak : ℕ) → mask ≡ 0 → count_after policy mask count streak ≡ (if streak + 1 == policy.streak then count - policy.credit else count)
uncharged_count policy mask count streak e = cond-true (mask == 0) _ _ (eq-eqb mask 0 e)

uncharged_streak : (policy : Policy) (mask streak : ℕ) → mask ≡ 0 → streak_after policy mask streak ≡ (if streak + 1 == policy.streak then 0 else streak + 1)
uncharged_streak policy mask streak e = cond-true (mask == 0) _ _ (eq-eqb mask 0 e)

-- by so many periods since a streak of 0, a count and a streak are these
record IsAfter (policy : Policy) (first n count streak : ℕ) : Type 0 where
  counted : count ≡ first - policy.credit * (n / policy.streak)
  run : streak ≡ n % policy.streak

one_after : (policy : Policy) (first n mask count streak : ℕ) → 0 < policy.streak → mask ≡ 0 → IsAfter policy first n count streak
    → IsAfter policy first (n + 1) (count_after policy mask count streak) (streak_after policy mask streak)
one_after policy first n mask count streak some none was =
    let f = further n policy.streak some in
    elim (cases_eq (n % policy.streak + 1) policy.streak) [
      | inl e ↦
          let full : (streak + 1 == policy.streak) ≡ true = eq-eqb _ _ (ap (λ (x : ℕ). x + 1) was.run ∙ e) in
          let d = f.whole e in
          let step : policy.credit * (n / policy.streak + 1) ≡ policy.credit * (n / policy.streak) + policy.credit = mul-add policy.credit (n / policy.streak) 1 ∙ ap (λ (x : ℕ). policy.credit * (n / policy.streak) + x) (mul-one policy.credit) in
          record {
            counted = uncharged_count policy mask count streak none ∙ cond-true _ _ _ full ∙ ap (λ (x : ℕ). x - policy.credit) was.counted
                ∙ less_twice first (policy.credit * (n / policy.streak)) policy.credit ∙ ap (λ (x : ℕ). first - x) (sym step) ∙ ap (λ (x : ℕ). first - policy.credit * x) (sym d.0);
            run = uncharged_streak policy mask streak none ∙ cond-true _ _ _ full ∙ sym d.1;
          }
      | inr ne ↦
          let part : (streak + 1 == policy.streak) ≡ false = ne_eqb _ _ (λ g. ne (sym (ap (λ (x : ℕ). x + 1) was.run) ∙ g)) in
          let d = f.part ne in
          record {
            counted = uncharged_count policy mask count streak none ∙ cond-false _ _ _ part ∙ was.counted ∙ ap (λ (x : ℕ). first - policy.credit * x) (sym d.0);
            run = uncharged_streak policy mask streak none ∙ cond-false _ _ _ part ∙ ap (λ (x : ℕ). x + 1) was.run ∙ sym d.1;
          }
    ]
  where
    less_twice : (a b c : ℕ) → a - b - c ≡ a - (b + c)
    less_twice a b c = omega arith

-- a count never rises without a charge
count_falls : (policy : Policy) (mask count streak : ℕ) → mask ≡ 0 → count_after policy mask count streak ≤ count
count_falls policy mask count streak none =
    subst (λ (n : ℕ). n ≤ count) (sym (uncharged_count policy mask count streak none))
    (elim (streak + 1 == policy.streak) as (λ b. (if b then count - policy.credit else count) ≤ count) [ true ↦ omega arith | false ↦ omega arith ])

-- so many full streaks are enough
enough : (credit readmit count most streak n : ℕ) → 0 < credit → 0 < streak → count ≤ most → streak * streaks_needed credit readmit most ≤ n → count - credit * (n / streak) ≤ readmit
enough credit readmit count most streak n some full below long =
    let needed : ℕ = streaks_needed credit readmit most in
    let turned : needed * streak ≤ n = subst (λ (x : ℕ). x ≤ n) (mul_comm streak needed) long in
    let many : needed ≤ n / streak = le-div needed n streak full turned in
    let split = div-add-mod' (most - readmit + (credit - 1)) credit in
    let rest = mod_below (most - readmit + (credit - 1)) credit some in
    let product : credit * needed ≤ credit * (n / streak) = mul-le credit needed credit (n / streak) (omega arith) many in
    let swapped : credit * needed ≡ needed * credit = mul_comm credit needed in
    omega arith

-- the penalty of a mask is at least the weight of each of its kinds
penalty_least : (weights : List ℕ) (mask k : ℕ) → k < 16 → (bit_at mask k == 1) ≡ true → slice_index weights k ≤ penalty weights mask
penalty_least weights mask k few is =
    let f : ℕ → ℕ = λ x. if bit_at mask x == 1 then slice_index weights x else 0 in
    let one = get_or-le-sum_by f (ids_below 16) k 0 (subst (λ (n : ℕ). k < n) (sym (length-range_with_len 0 16)) few) in
    let plain : 0 + k ≡ k = omega arith in
    let there : f (get_or (ids_below 16) k 0) ≡ slice_index weights k = ap f (get_or-range_with_len 0 16 k 0 few ∙ plain) ∙ cond-true (bit_at mask k == 1) (slice_index weights k) 0 is in
    subst (λ (n : ℕ). n ≤ penalty weights mask) there one

-- a count that rises by at least so much, up to the cap
grow : (cap exclude count more weight next total : ℕ) → exclude ≤ cap → next ≡ min cap (count + more) → weight ≤ more → (exclude ≤ count) ⊎ (total ≤ count + weight) → (exclude ≤ next) ⊎ (total ≤ next)
grow cap exclude count more weight next total less is heavy was = elim (cases_lt (count + more) cap) [
  | inl under ↦ let e : next ≡ count + more = is ∙ min-eq_right (omega arith) in elim was [
    | inl high ↦ inl (omega arith)
    | inr sum ↦ inr (omega arith)
  ]
  | inr over ↦ let e : next ≡ cap = is ∙ min-eq_left over in inl (omega arith)
]

-- ---- a period and the standing before it

module _ (cl : Cluster) (class_of : Classing) (p : ℕ) (h : Here cl class_of p) where
  abbrev pub was : Standing
  was = standing_at cl class_of p

  abbrev pub becomes : Standing
  becomes = standing_at cl class_of (suc p)

  members_same : members_at cl class_of p ≡ was.members
  members_same = members_are cl class_of p (reference_is cl class_of p h) h.start ∙ ap (λ (s : Standing). s.members) h.start.folded

  rows_same : (i : ℕ) → is_sound (class_of p i) ≡ true → (view cl i p).rows ≡ rows_at cl class_of p
  rows_same i s = let r = reference_is cl class_of p h in same_rows cl class_of p h i r.node s (ap is_sound r.nonfaulty) ∙ sym (ap (rows_from cl p) r.is)

  count_room : (j : ℕ) → j < cl.setting.config.nodes → j < length was.counts
  count_room j low = let m = ap (λ (s : Standing). length s.counts) (sym h.start.folded) ∙ h.start.valid.standing.many_counts in let f = h.all.given.config.few_nodes in omega arith

  streak_room : (j : ℕ) → j < cl.setting.config.nodes → j < length was.streaks
  streak_room j low = let m = ap (λ (s : Standing). length s.streaks) (sym h.start.folded) ∙ h.start.valid.standing.many_streaks in let f = h.all.given.config.few_nodes in omega arith

  left_room : (j : ℕ) → j < cl.setting.config.nodes → j < length was.left
  left_room j low = let m = ap (λ (s : Standing). length s.left) (sym h.start.folded) ∙ h.start.valid.standing.many_left in let f = h.all.given.config.few_nodes in omega arith

  abbrev mask : ℕ → ℕ
  mask j = charged_mask (rows_at cl class_of p) was.members j

  next_count : (j : ℕ) → j < cl.setting.config.nodes → slice_index becomes.counts j ≡ count_after cl.setting.config.policy (mask j) (slice_index was.counts j) (slice_index was.streaks j)
  next_count j low = count_at cl.setting (rows_at cl class_of p) was j low (count_room j low)

  next_streak : (j : ℕ) → j < cl.setting.config.nodes → slice_index becomes.streaks j ≡ streak_after cl.setting.config.policy (mask j) (slice_index was.streaks j)
  next_streak j low = streak_at cl.setting (rows_at cl class_of p) was j low (streak_room j low)

  next_left : (j : ℕ) → j < cl.setting.config.nodes
      → slice_index becomes.left j ≡ times_after cl.setting.config.policy (leaves cl.setting.config.policy was.members (λ q. slice_index becomes.counts q) j) (slice_index was.left j)
  next_left j low = left_at cl.setting (rows_at cl class_of p) was j low (left_room j low)

  abbrev stay : ℕ → Bool
  stay j = stays cl.setting.config.policy was.members (λ q. slice_index becomes.counts q) (λ q. slice_index was.left q) j

  next_member : (j : ℕ) → has_id becomes.members j ≡ (nat_lt j cl.setting.config.nodes && stay j)
  next_member j = member_at cl.setting (rows_at cl class_of p) was j

  -- a node whose count is low enough is a member, and one whose count is at the bound isn't, beside a member below it
  pub returns : (j : ℕ) → j < cl.setting.config.nodes → slice_index becomes.counts j ≤ cl.setting.config.policy.readmit
      → (cl.setting.config.policy.retire ≡ 0) ⊎ (slice_index was.left j < cl.setting.config.policy.retire) → has_id becomes.members j ≡ true
  returns j low few may =
      next_member j ∙ and_from _ _ (lt-ltb _ _ low)
      (kept_in cl.setting.config.policy (has_id was.members j) (all_would_leave cl.setting.config.policy was.members (λ q. slice_index becomes.counts q)) (slice_index becomes.counts j) (slice_index was.left j) h.all.given.config.policy.readmit few may)

  pub goes_out : (i j : ℕ) → has_id was.members i ≡ true → slice_index becomes.counts i < cl.setting.config.policy.exclude → cl.setting.config.policy.exclude ≤ slice_index becomes.counts j → has_id becomes.members j ≡ false
  goes_out i j on light high =
      next_member j ∙ and_right (nat_lt j cl.setting.config.nodes) (stay j)
      (put_out cl.setting.config.policy (has_id was.members j) (all_would_leave cl.setting.config.policy was.members (λ q. slice_index becomes.counts q)) (slice_index becomes.counts j) (slice_index was.left j) h.all.given.config.policy.readmit high
      (all_fails (λ q. nat_le cl.setting.config.policy.exclude (slice_index becomes.counts q)) was.members i on (lt-leb _ _ light)))

  stays_in : (j : ℕ) → j < cl.setting.config.nodes → has_id was.members j ≡ true → slice_index becomes.counts j < cl.setting.config.policy.exclude → has_id becomes.members j ≡ true
  stays_in j low on small =
      next_member j ∙ and_from _ _ (lt-ltb _ _ low)
      (cond-true (has_id was.members j) _ _ on
      ∙ or_left (nat_lt (slice_index becomes.counts j) cl.setting.config.policy.exclude) (all_would_leave cl.setting.config.policy was.members (λ q. slice_index becomes.counts q)) (lt-ltb _ _ small))

  joined_light : (j : ℕ) → has_id was.members j ≡ false → has_id becomes.members j ≡ true → slice_index becomes.counts j < cl.setting.config.policy.exclude
  joined_light j off on =
      let less = h.all.given.config.policy.readmit in
      let stayed : stay j ≡ true = (and_parts (nat_lt j cl.setting.config.nodes) (stay j) (sym (next_member j) ∙ on)).1 in
      let joined : joins cl.setting.config.policy (slice_index becomes.counts j) (slice_index was.left j) ≡ true = sym (cond-false (has_id was.members j) _ _ off) ∙ stayed in
      let few = leb-true _ _ (and_parts (nat_le (slice_index becomes.counts j) cl.setting.config.policy.readmit) _ joined).0 in
      omega arith

  -- what a node is so accused of is charged, and its count rises by the weight
  accused_more : (j weight : ℕ) → j < cl.setting.config.nodes → IsAccused cl class_of p j weight
      → (more : ℕ) × (slice_index becomes.counts j ≡ min cl.setting.config.policy.cap (slice_index was.counts j + more)) × (weight ≤ more)
  accused_more j weight low a =
      let r = reference_is cl class_of p h in
      let s : is_sound (class_of p r.node) ≡ true = ap is_sound r.nonfaulty in
      let members = members_are cl class_of p r h.start in
      let few : a.kind < 16 = let l = kinds-few cl.setting.config.version in let b = a.is_listed in omega arith in
      let is : charged (view cl r.node p).rows h.start.state.standing.members j a.kind ≡ true =
      full_charge_law (class_of p) h.start.state.standing.members cl.setting.config.m (row_item cl class_of p h) (view cl r.node p).rows (within cl class_of p h) (rows_fit cl class_of p h r.node s) j a.kind
      (subst (λ (ms : List ℕ). CanCharge (class_of p) ms cl.setting.config.m j) members a.can)
      (λ q on n apart. a.accused q (ap (λ (ms : List ℕ). has_id ms q) members ∙ on) n apart) in
      let here_is : charged (rows_at cl class_of p) was.members j a.kind ≡ true =
      ap₂ (λ (rows : List (Option (List ℕ))) (ms : List ℕ). charged rows ms j a.kind) (sym (rows_same r.node s)) (ap (λ (x : Standing). x.members) (sym h.start.folded)) ∙ is in
      let weighs = penalty_least cl.setting.config.policy.weights (mask j) a.kind few (mask-has (charged (rows_at cl class_of p) was.members j) 16 a.kind (omega arith) few ∙ here_is) in
      let b = a.weighs in
      (penalty cl.setting.config.policy.weights (mask j), counted_full cl.setting (rows_at cl class_of p) was j a.kind low (count_room j low) few here_is, omega arith)

-- ---- once well

-- a node that is well is accused by no nonfaulty node, and so not charged
module _ (cl : Cluster) (class_of : Classing) (given : IsGiven cl class_of) (are : cl.setting.further ≡ convictions cl.setting.config.m) (law : MembersLaw) (p : ℕ) (claim : Claim cl class_of p)
    (started : (q : ℕ) → q ≤ p → Started cl class_of q) (h : Here cl class_of p) (j : ℕ) (well : IsWell class_of j p) where
  now : class_of p j ≡ N
  now = well p (omega arith) (omega arith)

  unaccused : (i k : ℕ) → class_of p i ≡ N → j ≢ i → accuses (view cl i p).found j k ≡ false
  unaccused i k n ne =
      let s : is_sound (class_of p i) ≡ true = ap is_sound n in
      let v = no_verdicts cl class_of p h i j s now in
      unsaid cl class_of given are p claim started h i j k n well ne
      (by_kind_none _ _ _ _ k
      (no_other_body cl class_of p j i h.all.given h.start now s ne)
      (ap (λ (v : Verdict). v.claim) v)
      (ap (λ (v : Verdict). v.overrun) v)
      (no_deviations cl class_of p h law i j n now ne))

  no_charge : (i k : ℕ) → is_sound (class_of p i) ≡ true → charged (view cl i p).rows (standing_at cl class_of p).members j k ≡ false
  no_charge i k s =
      ap (λ (x : Standing). charged (view cl i p).rows x.members j k) (sym h.start.folded)
      ∙ no_charge_law (class_of p) h.start.state.standing.members cl.setting.config.m (row_item cl class_of p h) (view cl i p).rows (within cl class_of p h) (rows_fit cl class_of p h i s) j k
      (λ q on n apart. unaccused q k n (λ e. apart (sym e)))

  spared : IsSpared cl class_of p j
  spared = record { unaccused = unaccused; uncharged = no_charge }

  -- so its mask is empty
  no_mask : charged_mask (rows_at cl class_of p) (standing_at cl class_of p).members j ≡ 0
  no_mask =
      let r = reference_is cl class_of p h in
      let s : is_sound (class_of p r.node) ≡ true = ap is_sound r.nonfaulty in
      mask-zero (charged (rows_at cl class_of p) (standing_at cl class_of p).members j) 16
      (λ k. ap (λ (rows : List (Option (List ℕ))). charged rows (standing_at cl class_of p).members j k) (sym (rows_same cl class_of p h r.node s)) ∙ no_charge r.node k s)

-- ---- the claimed periods of a cluster

module _ (start : StartLaw) (next : StepLaw) (law : MembersLaw) (cl : Cluster) (class_of : Classing) (given : IsGiven cl class_of) (are : cl.setting.further ≡ convictions cl.setting.config.m) where
  begun : (p : ℕ) → Claim cl class_of p → (q : ℕ) → q ≤ suc p → Started cl class_of q
  begun p claim q low = started_at start next cl class_of given are p claim q low

  pub at : (p : ℕ) → Claim cl class_of p → Here cl class_of p
  at p claim = here cl class_of p (is_here start next cl class_of given are p claim)

  pub down : (p q : ℕ) → Claim cl class_of q → p ≤ q → Claim cl class_of p
  down p q claim low = claim_below start next cl class_of given are p q claim low

  well_spared : (p : ℕ) → Claim cl class_of p → (j : ℕ) → IsWell class_of j p → IsSpared cl class_of p j
  well_spared p claim j well = spared cl class_of given are law p claim (λ q l. begun p claim q (omega arith)) (at p claim) j well

  well_mask : (p : ℕ) → Claim cl class_of p → (j : ℕ) → IsWell class_of j p → charged_mask (rows_at cl class_of p) (standing_at cl class_of p).members j ≡ 0
  well_mask p claim j well = no_mask cl class_of given are law p claim (λ q l. begun p claim q (omega arith)) (at p claim) j well

  -- from period p to period q it was nonfaulty
  module _ (p j : ℕ) where
    abbrev first : Standing
    first = standing_at cl class_of (suc p)

    low_of : (q : ℕ) → class_of q j ≡ N → j < cl.setting.config.nodes
    low_of q n = given.classing.bounded q j (ap is_sound n)

    -- a streak is below its full length
    short : Claim cl class_of p → class_of p j ≡ N → slice_index first.streaks j < cl.setting.config.policy.streak
    short claim n =
        let s = begun p claim (suc p) (omega arith) in
        subst (λ (x : Standing). slice_index x.streaks j < cl.setting.config.policy.streak) s.folded (s.valid.standing.counted.unfilled j (low_of p n))

    recovers : (k q : ℕ) → p + k ≡ q → Claim cl class_of q → IsNonfaulty class_of j p k
        → IsAfter cl.setting.config.policy (slice_index first.counts j) (slice_index first.streaks j + k) (slice_index (standing_at cl class_of (suc q)).counts j) (slice_index (standing_at cl class_of (suc q)).streaks j)
    recovers zero q e claim was =
        let same : p ≡ q = omega arith in
        let less = short (down p q claim (omega arith)) (was p (omega arith) (omega arith)) in
        let none : slice_index first.streaks j + 0 ≡ 0 * cl.setting.config.policy.streak + slice_index first.streaks j = omega arith in
        let d : (slice_index first.streaks j + 0) / cl.setting.config.policy.streak ≡ 0 = ap (λ (x : ℕ). x / cl.setting.config.policy.streak) none ∙ div-mul-add 0 cl.setting.config.policy.streak (slice_index first.streaks j) less in
        let r : (slice_index first.streaks j + 0) % cl.setting.config.policy.streak ≡ slice_index first.streaks j =
        ap (λ (x : ℕ). x % cl.setting.config.policy.streak) none ∙ mod-mul-add 0 cl.setting.config.policy.streak (slice_index first.streaks j) less in
        let whole : slice_index first.counts j ≡ slice_index first.counts j - cl.setting.config.policy.credit * 0 = omega arith in
        subst (λ (x : ℕ). IsAfter cl.setting.config.policy (slice_index first.counts j) (slice_index first.streaks j + 0) (slice_index (standing_at cl class_of (suc x)).counts j) (slice_index (standing_at cl class_of (suc x)).streaks j)) same
        (record { counted = whole ∙ ap (λ (x : ℕ). slice_index first.counts j - cl.setting.config.policy.credit * x) (sym d); run = sym r })
    recovers (suc k) q e claim was =
        let same : suc (p + k) ≡ q = omega arith in
        let now : Claim cl class_of (suc (p + k)) = down (suc (p + k)) q claim (omega arith) in
        let before = recovers k (p + k) refl (down (p + k) q claim (omega arith)) (λ r l u. was r l (omega arith)) in
        let n = was (suc (p + k)) (omega arith) (omega arith) in
        let m = well_mask (suc (p + k)) now j (λ r l u. was r (omega arith) (omega arith)) in
        let h = at (suc (p + k)) now in
        let step = one_after cl.setting.config.policy (slice_index first.counts j) (slice_index first.streaks j + k) _ _ _ given.config.policy.some_streak m before in
        let one : slice_index first.streaks j + k + 1 ≡ slice_index first.streaks j + suc k = omega arith in
        subst (λ (x : ℕ). IsAfter cl.setting.config.policy (slice_index first.counts j) (slice_index first.streaks j + suc k) (slice_index (standing_at cl class_of (suc x)).counts j) (slice_index (standing_at cl class_of (suc x)).streaks j)) same
        (record {
          counted = next_count cl class_of (suc (p + k)) h j (low_of (suc (p + k)) n) ∙ step.counted ∙ ap (λ (x : ℕ). slice_index first.counts j - cl.setting.config.policy.credit * (x / cl.setting.config.policy.streak)) one;
          run = next_streak cl class_of (suc (p + k)) h j (low_of (suc (p + k)) n) ∙ step.run ∙ ap (λ (x : ℕ). x % cl.setting.config.policy.streak) one;
        })

    -- what a node may that is charged with nothing it may in the next period
    may_next : (q : ℕ) → Claim cl class_of q → j < cl.setting.config.nodes → charged_mask (rows_at cl class_of q) (standing_at cl class_of q).members j ≡ 0 → MayReturn cl class_of q j → MayReturn cl class_of (suc q) j
    may_next q claim low none may = elim may [
      | inl never ↦ inl never
      | inr x ↦
          let h = at q claim in
          let less = given.config.policy.readmit in
          let falls = count_falls cl.setting.config.policy (charged_mask (rows_at cl class_of q) (standing_at cl class_of q).members j) (slice_index (standing_at cl class_of q).counts j) (slice_index (standing_at cl class_of q).streaks j) none in
          let is = next_count cl class_of q h j low in
          elim (cases_Bool (has_id (standing_at cl class_of q).members j)) [
            | inl on ↦
                let light = x.1 on in
                let small : slice_index (standing_at cl class_of (suc q)).counts j < cl.setting.config.policy.exclude = omega arith in
                let stays : leaves cl.setting.config.policy (standing_at cl class_of q).members (λ r. slice_index (standing_at cl class_of (suc q)).counts r) j ≡ false =
                and_right (has_id (standing_at cl class_of q).members j) _ (ap not (or_left (nat_lt (slice_index (standing_at cl class_of (suc q)).counts j) cl.setting.config.policy.exclude) _ (lt-ltb _ _ small))) in
                let same : slice_index (standing_at cl class_of (suc q)).left j ≡ slice_index (standing_at cl class_of q).left j = next_left cl class_of q h j low ∙ ap (λ b. times_after cl.setting.config.policy b (slice_index (standing_at cl class_of q).left j)) stays in
                inr (subst (λ (n : ℕ). n < cl.setting.config.policy.retire) (sym same) x.0, λ later. small)
            | inr off ↦
                let stays : leaves cl.setting.config.policy (standing_at cl class_of q).members (λ r. slice_index (standing_at cl class_of (suc q)).counts r) j ≡ false =
                not_on cl.setting.config.policy (standing_at cl class_of q).members (λ r. slice_index (standing_at cl class_of (suc q)).counts r) j off in
                let same : slice_index (standing_at cl class_of (suc q)).left j ≡ slice_index (standing_at cl class_of q).left j = next_left cl class_of q h j low ∙ ap (λ b. times_after cl.setting.config.policy b (slice_index (standing_at cl class_of q).left j)) stays in
                inr (subst (λ (n : ℕ). n < cl.setting.config.policy.retire) (sym same) x.0, λ later. joined_light cl class_of q h j off later)
          ]
    ]

    may_at : (k q : ℕ) → p + k ≡ q → Claim cl class_of q → IsNonfaulty class_of j p k → MayReturn cl class_of (suc p) j → MayReturn cl class_of (suc q) j
    may_at zero q e claim was may = let same : p ≡ q = omega arith in subst (λ (x : ℕ). MayReturn cl class_of (suc x) j) same may
    may_at (suc k) q e claim was may =
        let same : suc (p + k) ≡ q = omega arith in
        let now : Claim cl class_of (suc (p + k)) = down (suc (p + k)) q claim (omega arith) in
        subst (λ (x : ℕ). MayReturn cl class_of (suc x) j) same
        (may_next (suc (p + k)) now (low_of (suc (p + k)) (was (suc (p + k)) (omega arith) (omega arith))) (well_mask (suc (p + k)) now j (λ r l u. was r (omega arith) (omega arith)))
        (may_at k (p + k) refl (down (p + k) q claim (omega arith)) (λ r l u. was r l (omega arith)) may))

    is_back : (k q : ℕ) → p + suc k ≡ q → Claim cl class_of q → IsNonfaulty class_of j p (suc k) → 0 < cl.setting.config.policy.credit → MayReturn cl class_of (suc p) j → (most : ℕ) → slice_index first.counts j ≤ most
        → cl.setting.config.policy.streak * streaks_needed cl.setting.config.policy.credit cl.setting.config.policy.readmit most ≤ slice_index first.streaks j + suc k
        → has_id (standing_at cl class_of (suc q)).members j ≡ true
    is_back k q e claim was some may most below long =
        let same : suc (p + k) ≡ q = omega arith in
        let r = recovers (suc k) q e claim was in
        let few = enough cl.setting.config.policy.credit cl.setting.config.policy.readmit (slice_index first.counts j) most cl.setting.config.policy.streak (slice_index first.streaks j + suc k) some given.config.policy.some_streak below long in
        let may_here : MayReturn cl class_of q j = subst (λ (x : ℕ). MayReturn cl class_of x j) same (may_at k (p + k) refl (down (p + k) q claim (omega arith)) (λ r l u. was r l (omega arith)) may) in
        returns cl class_of q (at q claim) j (low_of q (was q (omega arith) (omega arith))) (subst (λ (n : ℕ). n ≤ cl.setting.config.policy.readmit) (sym r.counted) few)
        (elim may_here [
          | inl never ↦ inl never
          | inr x ↦ inr x.0
        ])

    -- a member below the bound that is charged with nothing stays below it, and a member
    remains_on : (k q : ℕ) → p + k ≡ q → Claim cl class_of q → IsNonfaulty class_of j p k → has_id first.members j ≡ true → slice_index first.counts j < cl.setting.config.policy.exclude
        → (has_id (standing_at cl class_of (suc q)).members j ≡ true) × (slice_index (standing_at cl class_of (suc q)).counts j < cl.setting.config.policy.exclude)
    remains_on zero q e claim was on small =
        let same : p ≡ q = omega arith in
        subst (λ (x : ℕ). (has_id (standing_at cl class_of (suc x)).members j ≡ true) × (slice_index (standing_at cl class_of (suc x)).counts j < cl.setting.config.policy.exclude)) same (on, small)
    remains_on (suc k) q e claim was on small =
        let same : suc (p + k) ≡ q = omega arith in
        let now : Claim cl class_of (suc (p + k)) = down (suc (p + k)) q claim (omega arith) in
        let before = remains_on k (p + k) refl (down (p + k) q claim (omega arith)) (λ r l u. was r l (omega arith)) on small in
        let low = low_of (suc (p + k)) (was (suc (p + k)) (omega arith) (omega arith)) in
        let h = at (suc (p + k)) now in
        let light = before.1 in
        let falls = count_falls cl.setting.config.policy _ (slice_index (standing_at cl class_of (suc (p + k))).counts j) (slice_index (standing_at cl class_of (suc (p + k))).streaks j) (well_mask (suc (p + k)) now j (λ r l u. was r (omega arith) (omega arith))) in
        let is = next_count cl class_of (suc (p + k)) h j low in
        let less : slice_index (standing_at cl class_of (suc (suc (p + k)))).counts j < cl.setting.config.policy.exclude = omega arith in
        subst (λ (x : ℕ). (has_id (standing_at cl class_of (suc x)).members j ≡ true) × (slice_index (standing_at cl class_of (suc x)).counts j < cl.setting.config.policy.exclude)) same
        (stays_in cl class_of (suc (p + k)) h j low before.0 less, less)

  -- ---- out

  light : (q i : ℕ) → Claim cl class_of q → IsContinuous class_of i q → StaysLight cl class_of q i
  light q i claim always =
      let s = begun q claim q (omega arith) in
      let is : IsInnocent (standing_at cl class_of q) i = subst (λ (x : Standing). IsInnocent x i) s.folded (s.innocent i always) in
      let zero_after : slice_index (standing_at cl class_of (suc q)).counts i ≡ 0 =
      next_count cl class_of q (at q claim) i (given.classing.bounded q i (ap is_sound (always q (omega arith))))
      ∙ no_count cl.setting.config.policy _ _ _ (well_mask q claim i (λ r l u. always r l)) is.unpunished in
      let some = given.config.policy.some_exclude in
      (is.member, omega arith)

  module _ (p j weight : ℕ) (low : j < cl.setting.config.nodes) where
    grown : (k q : ℕ) → p + k ≡ q → Claim cl class_of q → ((r : ℕ) → p ≤ r → r ≤ q → IsAccused cl class_of r j weight)
        → (cl.setting.config.policy.exclude ≤ slice_index (standing_at cl class_of (suc q)).counts j) ⊎ (slice_index (standing_at cl class_of p).counts j + suc k * weight ≤ slice_index (standing_at cl class_of (suc q)).counts j)
    grown zero q e claim accused =
        let same : q ≡ p = omega arith in
        let a = accused_more cl class_of q (at q claim) j weight low (accused q (omega arith) (omega arith)) in
        let start_is : slice_index (standing_at cl class_of q).counts j ≡ slice_index (standing_at cl class_of p).counts j = ap (λ (x : ℕ). slice_index (standing_at cl class_of x).counts j) same in
        let once : 1 * weight ≡ weight = omega arith in
        grow cl.setting.config.policy.cap cl.setting.config.policy.exclude (slice_index (standing_at cl class_of q).counts j) a.0 weight (slice_index (standing_at cl class_of (suc q)).counts j) _ given.config.policy.exclude a.1 a.2 (inr (omega arith))
    grown (suc k) q e claim accused =
        let same : suc (p + k) ≡ q = omega arith in
        let now : Claim cl class_of (suc (p + k)) = down (suc (p + k)) q claim (omega arith) in
        let before = grown k (p + k) refl (down (p + k) q claim (omega arith)) (λ r l u. accused r l (omega arith)) in
        let a = accused_more cl class_of (suc (p + k)) (at (suc (p + k)) now) j weight low (accused (suc (p + k)) (omega arith) (omega arith)) in
        let once_more : suc (suc k) * weight ≡ suc k * weight + weight = suc-mul (suc k) weight in
        subst (λ (x : ℕ). (cl.setting.config.policy.exclude ≤ slice_index (standing_at cl class_of (suc x)).counts j) ⊎ (slice_index (standing_at cl class_of p).counts j + suc (suc k) * weight ≤ slice_index (standing_at cl class_of (suc x)).counts j)) same
        (grow cl.setting.config.policy.cap cl.setting.config.policy.exclude (slice_index (standing_at cl class_of (suc (p + k))).counts j) a.0 weight (slice_index (standing_at cl class_of (suc (suc (p + k)))).counts j) _ given.config.policy.exclude a.1 a.2
        (elim before [
          | inl high ↦ inl high
          | inr sum ↦ inr (omega arith)
        ]))

    is_out : (k : ℕ) → Claim cl class_of (p + k) → ((r : ℕ) → p ≤ r → r ≤ p + k → IsAccused cl class_of r j weight) → (i : ℕ) → StaysLight cl class_of (p + k) i
        → cl.setting.config.policy.exclude ≤ slice_index (standing_at cl class_of p).counts j + suc k * weight → has_id (standing_at cl class_of (suc (p + k))).members j ≡ false
    is_out k claim accused i l high =
        let full : cl.setting.config.policy.exclude ≤ slice_index (standing_at cl class_of (suc (p + k))).counts j = elim (grown k (p + k) refl claim accused) [
          | inl is ↦ is
          | inr sum ↦ omega arith
        ] in
        goes_out cl class_of (p + k) (at (p + k) claim) i j l.0 l.1 full

-- ---- the laws

pub well_law : ReceptionLaw → StartLaw → StepLaw → MembersLaw → WellLaw
well_law reception start next law sys given are p claim j well = well_spared start next law (run sys) (classes sys) (given_of reception sys given) are p claim j well

pub recovery_law : ReceptionLaw → StartLaw → StepLaw → MembersLaw → RecoveryLaw
recovery_law reception start next law sys given are p k claim j was =
    let r = recovers start next law (run sys) (classes sys) (given_of reception sys given) are p j k (p + k) refl claim was in
    record { count = r.counted; streak = r.run }

pub return_law : ReceptionLaw → StartLaw → StepLaw → MembersLaw → ReturnLaw
return_law reception start next law sys given are p zero claim j was later some may most below long = absurd (omega arith)
return_law reception start next law sys given are p (suc k) claim j was later some may most below long =
    is_back start next law (run sys) (classes sys) (given_of reception sys given) are p j k (p + suc k) refl claim was some may most below long

pub remain_law : ReceptionLaw → StartLaw → StepLaw → MembersLaw → RemainLaw
remain_law reception start next law sys given are p k claim j was on small =
    (remains_on start next law (run sys) (classes sys) (given_of reception sys given) are p j k (p + k) refl claim was on small).0

pub light_law : ReceptionLaw → StartLaw → StepLaw → MembersLaw → LightLaw
light_law reception start next law sys given are p claim i always = light start next law (run sys) (classes sys) (given_of reception sys given) are p i claim always

pub exclusion_law : ReceptionLaw → StartLaw → StepLaw → MembersLaw → ExclusionLaw
exclusion_law reception start next law sys given are p k claim j weight low accused i stays high =
    is_out start next law (run sys) (classes sys) (given_of reception sys given) are p j weight low k claim accused i stays high

pub standing_law : RunLaw → ReceptionLaw → StartLaw → StepLaw → MembersLaw → StandingLaw
standing_law runs reception start next law sys given are p claim i s =
    let all : IsGiven (run sys) (classes sys) = given_of reception sys given in
    let here_now = at start next law (run sys) (classes sys) all are p claim in
    let safe = runs sys given are p claim in
    record {
      before = here_now.start.state;
      goes = before_is (run sys) (classes sys) p here_now i s;
      stands = here_now.start.folded;
      after = safe.equal.after;
      ends = safe.equal.ends i s;
      stands_after = safe.equal.folded;
    }
