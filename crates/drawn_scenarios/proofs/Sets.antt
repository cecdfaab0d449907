-- How many sets of the other nodes there are.
use Rattle.std.proofs.Common.{◌≡◌, ℕ, zero, suc, ◌-◌, ◌*◌, ◌%◌, ◌^◌, ◌≤◌, refl, arith}

pub record AreSets (n : ℕ) : Type 0 where
  pub shifted : 1 * 2 ^ (n - 1) % 4294967296 ≡ 2 ^ (n - 1)
  pub some : 4 ≤ 2 ^ (n - 1)
  pub few : 2 ^ (n - 1) ≤ 32768

pub sets : (n : ℕ) → 3 ≤ n → n ≤ 16 → AreSets n
sets zero l h = absurd (omega arith)
sets (suc zero) l h = absurd (omega arith)
sets (suc (suc zero)) l h = absurd (omega arith)
sets (suc (suc (suc zero))) l h = record { shifted = refl; some = omega arith; few = omega arith }
sets (suc (suc (suc (suc zero)))) l h = record { shifted = refl; some = omega arith; few = omega arith }
sets (suc (suc (suc (suc (suc zero))))) l h = record { shifted = refl; some = omega arith; few = omega arith }
sets (suc (suc (suc (suc (suc (suc zero)))))) l h = record { shifted = refl; some = omega arith; few = omega arith }
sets (suc (suc (suc (suc (suc (suc (suc zero))))))) l h = record { shifted = refl; some = omega arith; few = omega arith }
sets (suc (suc (suc (suc (suc (suc (suc (suc zero)))))))) l h = record { shifted = refl; some = omega arith; few = omega arith }
sets (suc (suc (suc (suc (suc (suc (suc (suc (suc zero))))))))) l h = record { shifted = refl; some = omega arith; few = omega arith }
sets (suc (suc (suc (suc (suc (suc (suc (suc (suc (suc zero)))))))))) l h = record { shifted = refl; some = omega arith; few = omega arith }
sets (suc (suc (suc (suc (suc (suc (suc (suc (suc (suc (suc zero))))))))))) l h = record { shifted = refl; some = omega arith; few = omega arith }
sets (suc (suc (suc (suc (suc (suc (suc (suc (suc (suc (suc (suc zero)))))))))))) l h = record { shifted = refl; some = omega arith; few = omega arith }
sets (suc (suc (suc (suc (suc (suc (suc (suc (suc (suc (suc (suc (suc zero))))))))))))) l h = record { shifted = refl; some = omega arith; few = omega arith }
sets (suc (suc (suc (suc (suc (suc (suc (suc (suc (suc (suc (suc (suc (suc zero)))))))))))))) l h = record { shifted = refl; some = omega arith; few = omega arith }
sets (suc (suc (suc (suc (suc (suc (suc (suc (suc (suc (suc (suc (suc (suc (suc zero))))))))))))))) l h = record { shifted = refl; some = omega arith; few = omega arith }
sets (suc (suc (suc (suc (suc (suc (suc (suc (suc (suc (suc (suc (suc (suc (suc (suc zero)))))))))))))))) l h = record { shifted = refl; some = omega arith; few = omega arith }
sets (suc (suc (suc (suc (suc (suc (suc (suc (suc (suc (suc (suc (suc (suc (suc (suc (suc n))))))))))))))))) l h = absurd (omega arith)
