use Rattle.std.proofs.Common.{ℕ, ◌≡◌, ◌<◌, replicate, get_or, arith}
use Rattle.std.proofs.lemmas.List.{get_or-replicate}
use Rattle.shown_period.proofs.made.Made.open.Goals as goal

first_place : (n i : ℕ) → i < n → get_or (replicate n 0) i 0 < n
first_place n i low = let is : ◌≡◌ {A = ℕ} (get_or (replicate n 0) i 0) 0 = get_or-replicate n i 0 0 low in omega (arith, is, low)

pub returns : goal.returns
returns g c = (c.in_ok-states.ensures, record { capacity = g.bound-1.eight_or_sixteen; many = c.in-Ok.ensures; placed = λ i low. first_place g.row.N i low })
