-- The premises of the law of clocks can be met, with a clock that is read otherwise by each node.
use Rattle.std.proofs.Common.{ℕ, ◌≡◌, ◌<◌, ◌≤◌, true, false, List, [], ◌∷◌, length, replicate, ℤ, pos, ◌≤ℤ◌, refl, sym, ap, subst, ◌∙◌, inl, inr, arith}
use Rattle.std.specs.Prelude.{neg_ℤ, ◌^◌, ◌%◌, slice_index, slice_index_or}
use Rattle.std.proofs.lemmas.Int.{ints}
use Rattle.std.proofs.lemmas.List.{get_or_past, length-replicate}
use Rattle.std.proofs.lemmas.List.Elements.{All-nil, All-cons, All-replicate}
use Rattle.node_grid.specs.declared.class.Class.TheVariants.{S, A}
use Rattle.node_grid.specs.Class.{is_sound}
use Rattle.node_grid.specs.NodeSet.{has_id}
use Rattle.mme_vote.specs.Vote.{distance}
use Rattle.clock_skew.specs.Clock.{LieView, number_at, row_in_turn, IsUpTo, AreUpTo, AreNear, IsLie}
use Rattle.penalty.specs.Policy.{IsPolicy}
use Rattle.frames.specs.Content.{IsValue}
use Rattle.frames.specs.Facts.{zero_value}
use Rattle.protocol.specs.Run.{run, classes}
use Rattle.protocol.specs.Accepted.{IsAccepted}
use Rattle.protocol.specs.Safe.{KeepsBound, members_at}
use Rattle.protocol.specs.Clocks.{IsFair, AreClocks, ClocksNear}
use Rattle.safety.specs.ClockLaws.{RunClockLaw}
use Rattle.worked_runs.specs.Systems.{policy_2, no_state_of_3, lie_of_3, two_faced_clock}
use Rattle.worked_runs.proofs.Witness.{IsLight, no_tasks, four}
use Rattle.worked_runs.proofs.Opened.{opened}

policy_fits : IsPolicy policy_2
policy_fits = record {
  weights = All-replicate IsLight 16 5 (omega arith);
  some_cap = omega arith;
  cap = omega arith;
  some_exclude = omega arith;
  exclude = omega arith;
  readmit = omega arith;
  credit = omega arith;
  some_streak = omega arith;
  streak = omega arith;
  retire = omega arith;
}

weightless : (k : ℕ) → 16 ≤ k → slice_index (replicate 16 5) k ≡ 0
weightless k high = get_or_past (replicate 16 5) k 0 (let e = length-replicate {A = ℕ} 16 5 in omega arith)

pub accepted : IsAccepted no_state_of_3
accepted = record {
  capacity = inl refl;
  config = record {
    version = inr refl;
    some_nodes = omega arith;
    few_nodes = omega arith;
    version_nodes = omega arith;
    few_rounds = omega arith;
    rounds = omega arith;
    some_frame = omega arith;
    frame = omega arith;
    policy = policy_fits;
    weights = weightless;
    retire = λ e. refl;
    graph = no_tasks 4 (omega arith) (omega arith);
    graph_nodes = refl;
    few_channels = omega arith;
    channels = All-nil _;
  };
  plan = refl;
  plan_nodes = refl;
  plan_rounds = refl;
  inputs = λ i p low. record { least = λ t none. absurd (omega arith); most = λ t none. absurd (omega arith); readings = All-replicate IsValue 8 (pos 0) zero_value };
  close = record { starts = λ i j c delta start step hi hj low e. absurd (omega arith); readings = λ i j p c delta task hi hj low e. absurd (omega arith) };
}

-- ---- the plan of clocks

mod_one : (p : ℕ) → p % 1 ≡ 0
mod_one p = omega arith

one_row : (row : List ℤ) (p : ℕ) → row_in_turn (row ∷ []) p ≡ row
one_row row p = ap (λ (k : ℕ). slice_index_or (row ∷ []) k []) (mod_one p)

zero_up_to : (limit : ℤ) → pos 0 ≤ℤ limit → IsUpTo limit (pos 0)
zero_up_to limit h = (omega (arith, ints), omega (arith, ints))

zeros_up_to : (limit : ℤ) → pos 0 ≤ℤ limit → AreUpTo 4 limit (replicate 4 (pos 0))
zeros_up_to limit h i low = let z = zero_up_to limit h in four (λ i. IsUpTo limit (number_at (replicate 4 (pos 0)) i)) z z z z i low

zeros_near : AreNear 4 (pos 0) (replicate 4 (pos 0))
zeros_near i j hi hj =
    let zero_at : (i : ℕ) → i < 4 → number_at (replicate 4 (pos 0)) i ≡ pos 0 = λ i low. four (λ i. number_at (replicate 4 (pos 0)) i ≡ pos 0) refl refl refl refl i low in
    subst (λ (x : ℤ). pos (distance x (number_at (replicate 4 (pos 0)) j)) ≤ℤ pos 0) (sym (zero_at i hi))
    (subst (λ (y : ℤ). pos (distance (pos 0) y) ≤ℤ pos 0) (sym (zero_at j hj)) (omega (arith, ints)))

start_up_to : AreUpTo 4 (pos (2 ^ 40)) two_faced_clock.start
start_up_to i low =
    four (λ i. IsUpTo (pos (2 ^ 40)) (number_at two_faced_clock.start i)) (omega (arith, ints), omega (arith, ints)) (omega (arith, ints), omega (arith, ints))
    (omega (arith, ints), omega (arith, ints)) (omega (arith, ints), omega (arith, ints)) i low

asymmetric : classes no_state_of_3 0 3 ≡ A
unfolding opened
asymmetric = refl

fair : (reader : ℕ) (by : ℤ) → IsFair (classes no_state_of_3) 4 (lie_of_3 reader by)
fair reader by p low high =
    let e : p ≡ 0 = omega arith in
    let a : classes no_state_of_3 p 3 ≡ A = ap (λ (q : ℕ). classes no_state_of_3 q 3) e ∙ asymmetric in
    (ap is_sound a, λ s i h ne. let f : A ≡ S = sym a ∙ s in cc)

lie : (reader : ℕ) (by : ℤ) → reader < 4 → has_id (reader ∷ []) 3 ≡ false → IsUpTo (pos (2 ^ 40)) by → IsLie 4 (lie_of_3 reader by)
lie reader by low other small = record {
  from = omega arith;
  some = omega arith;
  to = All-cons (λ i. i < 4) reader [] low (All-nil (λ i. i < 4));
  others = other;
  periods = omega arith;
  by = small;
}

abbrev ahead : LieView
ahead = lie_of_3 1 (pos 1000)

abbrev behind : LieView
behind = lie_of_3 2 (neg_ℤ (pos 1000))

pub are_clocks : AreClocks (run no_state_of_3) (classes no_state_of_3) two_faced_clock
are_clocks = record {
  clock = record {
    nodes = omega arith;
    epsilon = (omega (arith, ints), omega (arith, ints));
    drift = (omega (arith, ints), omega (arith, ints));
    start = start_up_to;
    some_drifts = omega arith;
    few_drifts = omega arith;
    drifts = λ p. subst (AreUpTo 4 (pos (2 ^ 20))) (sym (one_row (replicate 4 (pos 0)) p)) (zeros_up_to (pos (2 ^ 20)) (omega (arith, ints)));
    close_drifts = λ p. subst (AreNear 4 (pos 0)) (sym (one_row (replicate 4 (pos 0)) p)) zeros_near;
    some_errors = omega arith;
    few_errors = omega arith;
    errors = λ p. subst (AreUpTo 4 (pos 0)) (sym (one_row (replicate 4 (pos 0)) p)) (zeros_up_to (pos 0) (omega (arith, ints)));
    few_lies = omega arith;
    lies = All-cons (IsLie 4) ahead (behind ∷ []) (lie 1 (pos 1000) (omega arith) refl (omega (arith, ints), omega (arith, ints)))
        (All-cons (IsLie 4) behind [] (lie 2 (neg_ℤ (pos 1000)) (omega arith) refl (omega (arith, ints), omega (arith, ints))) (All-nil (IsLie 4)));
  };
  nodes = refl;
  fair = All-cons (IsFair (classes no_state_of_3) 4) ahead (behind ∷ []) (fair 1 (pos 1000)) (All-cons (IsFair (classes no_state_of_3) 4) behind [] (fair 2 (neg_ℤ (pos 1000))) (All-nil (IsFair (classes no_state_of_3) 4)));
}

within : KeepsBound (run no_state_of_3) (classes no_state_of_3) 0
unfolding opened
within = record { enough = omega arith; few = omega arith }

pub near : RunClockLaw → (i j : ℕ) → is_sound (classes no_state_of_3 0 i) ≡ true → is_sound (classes no_state_of_3 0 j) ≡ true
    → ClocksNear (run no_state_of_3) (classes no_state_of_3) two_faced_clock 0 (members_at (run no_state_of_3) (classes no_state_of_3) 0) i j
near law i j si sj =
    law no_state_of_3 accepted refl two_faced_clock are_clocks 0 (λ q h. let e : 0 ≡ q = omega arith in subst (λ (x : ℕ). KeepsBound (run no_state_of_3) (classes no_state_of_3) x) e within) i j si sj
