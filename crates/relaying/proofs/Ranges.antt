-- The sizes of frames.
use Rattle.std.proofs.Common.{ℕ, ◌≡◌, ◌≤◌, ◌*◌, arith}
use Rattle.std.proofs.lemmas.Nat.{mul-le}
use Rattle.omh_paths.specs.Paths.{path_count}
use Rattle.omh_paths.specs.MemberLaws.{path_count-few}

-- so many entries have few bytes
pub size_few : (w n k r : ℕ) → w ≤ 33 → n ≡ path_count k r → k ≤ 16 → r ≤ 4 → w * n ≤ 33 * 65536
size_few w n k r narrow is few short = mul-le w n 33 65536 narrow (omega (arith, is, path_count-few k r few short))
