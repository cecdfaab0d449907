-- Facts that several crates cite.
use Rattle.std.proofs.Common.{List, arith, pos, refl, ℕ, ◌+◌, ◌≡◌, ◌≤◌}
use Rattle.std.proofs.lemmas.Bool.Decides.{nat_tests}
use Rattle.std.proofs.lemmas.Int.{ints}
use Rattle.omh_paths.specs.declared.wrapped.Wrapped.{Wrapped}
use Rattle.frames.specs.Bound.{IsGreatest}
use Rattle.frames.specs.Content.{Cold, Content, Data, Done0, DoneRelay, IsValue, Report0, ReportRelay, State, kind, kind_in, round_in}
use Rattle.frames.specs.FrameKinds.{claim_relay_kind, row_relay_kind}

pub claims_kinded : (c : Content) → kind c ≡ claim_relay_kind → (es : List (Wrapped ℕ)) × (c ≡ DoneRelay es)
claims_kinded (State bytes) h = absurd (cc)
claims_kinded (Done0 task) h = absurd (cc)
claims_kinded (DoneRelay es) h = (es, refl)
claims_kinded (Data numbers) h = absurd (cc)
claims_kinded (Report0 masks) h = absurd (cc)
claims_kinded (ReportRelay es) h = absurd (cc)
claims_kinded Cold h = absurd (cc)

pub claims_round_in : (m r : ℕ) → r ≤ m → round_in m (1 + r) ≡ r
claims_round_in m r low = grind (arith, nat_tests)

pub one_greatest : (nodes m state_len due a b : ℕ) → IsGreatest nodes m state_len due a → IsGreatest nodes m state_len due b → a ≡ b
one_greatest nodes m state_len due a b g h = omega (arith, at_most nodes m state_len due a b g h, at_most nodes m state_len due b a h g) where
  at_most : (nodes m state_len due a b : ℕ) → IsGreatest nodes m state_len due a → IsGreatest nodes m state_len due b → a ≤ b
  at_most nodes m state_len due a b g h =
      let r = g.reached in
      omega (arith, r.5, h.within r.0 r.1 r.2 r.4)

pub rows_kinded : (c : Content) → kind c ≡ row_relay_kind → (es : List (Wrapped (List ℕ))) × (c ≡ ReportRelay es)
rows_kinded (State bytes) h = absurd (cc)
rows_kinded (Done0 task) h = absurd (cc)
rows_kinded (DoneRelay es) h = absurd (cc)
rows_kinded (Data numbers) h = absurd (cc)
rows_kinded (Report0 masks) h = absurd (cc)
rows_kinded (ReportRelay es) h = (es, refl)
rows_kinded Cold h = absurd (cc)

pub rows_round_in : (m r : ℕ) → round_in m (m + 3 + r) ≡ r
rows_round_in m r = grind (arith, nat_tests)

pub value_kind : (m : ℕ) → kind_in m (m + 2) ≡ 4
value_kind m = grind (arith, nat_tests)

pub zero_value : IsValue (pos 0)
zero_value = record { low = omega (arith, ints); high = omega (arith, ints) }
