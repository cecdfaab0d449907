-- How many paths there are of more nodes, and where the sections of the flat list begin.
use Rattle.std.proofs.Common.{ℕ, zero, suc, ◌≡◌, ◌≤◌, ◌+◌, ◌-◌, sym, ap, ◌∙◌, arith}
use Rattle.omh_paths.specs.Paths.{path_count}
use Rattle.omh.specs.Flat.{section_at}

section_at-more : (n a d : ℕ) → section_at n a ≤ section_at n (a + d)
section_at-more n a zero = let e : a + 0 ≡ a = omega arith in omega (arith, ap (section_at n) e)
section_at-more n a (suc d) = let e : a + suc d ≡ suc (a + d) = omega arith in omega (arith, section_at-more n a d, ap (section_at n) e)

pub section_at-le : (n a b : ℕ) → a ≤ b → section_at n a ≤ section_at n b
section_at-le n a b h = let e : a + (b - a) ≡ b = omega arith in omega (arith, section_at-more n a (b - a), ap (section_at n) e)

pub section_at-next : (n a : ℕ) → section_at n (a + 1) ≡ section_at n a + path_count n (a + 1)
section_at-next n a = let e : a + 1 ≡ suc a = omega arith in ap (section_at n) e ∙ ap (λ (k : ℕ). section_at n a + path_count n k) (sym e)
