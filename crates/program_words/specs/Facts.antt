-- Facts that several crates cite.
use Rattle.std.proofs.Common.{Bool, Err, List, Ok, Result, false, sym, true, ℕ, ◌<◌, ◌^◌, ◌∙◌, ◌≡◌}
use Rattle.std.proofs.lemmas.Fmt.{parse-decimal}
use Rattle.std.specs.Prelude.{decimal}
use Rattle.std.specs.Str.Parse.{ParsesUnsigned}

pub never : (b : Bool) → b ≡ false → b ≡ true → ⊥
never b h k = let s : ◌≡◌ {A = Bool} false true = sym h ∙ k in cc

pub not_both : {E : Type 0} (r : Result ℕ E) (n : ℕ) (e : E) → r ≡ Ok n → r ≡ Err e → ⊥
not_both {E = E} r n e h k = let s : ◌≡◌ {A = Result ℕ E} (Ok n) (Err e) = sym h ∙ k in cc

-- a number that is read of its decimal text is that number
pub read_back : {E : Type 0} (word : List ℕ) (n : ℕ) (r : Result ℕ E) → n < 2 ^ 64 → word ≡ decimal n → ParsesUnsigned 64 10 word r → r ≡ Ok n
read_back word n r low e reads = parse-decimal 64 n word r low low e reads

pub same_number : {E : Type 0} (r : Result ℕ E) (m n : ℕ) → r ≡ Ok m → r ≡ Ok n → m ≡ n
same_number {E = E} r m n h k = let s : ◌≡◌ {A = Result ℕ E} (Ok m) (Ok n) = sym h ∙ k in cc
