use Rattle.std.proofs.Common.{◌≡◌, ◌%◌, ℕ, true, length, subst}
use Rattle.frames.specs.Checks.{are_written}
use Rattle.frames.specs.EntryLaws.{claims_spelt, rows_spelt}
use Rattle.frames.proofs.cells.Cells.bytes.Goals as goal

pub returns-clause-claims : goal.returns-clause-claims
returns-clause-claims c e =
    let P : ℕ → Type 0 = λ w. length c.args.self.now.bytes.now % w ≡ 0 in
    let Q : ℕ → Type 0 = λ w. are_written w c.args.self.now.bytes.now ≡ true in
    claims_spelt c.args.self.now.bytes.now (subst P e c.args.self.now.whole) c.args.self.now.small (subst Q e c.args.self.now.written)

pub returns-clause-rows : goal.returns-clause-rows
returns-clause-rows c capacity nodes e =
    let P : ℕ → Type 0 = λ w. length c.args.self.now.bytes.now % w ≡ 0 in
    let Q : ℕ → Type 0 = λ w. are_written w c.args.self.now.bytes.now ≡ true in
    rows_spelt capacity nodes c.args.self.now.bytes.now (subst P e c.args.self.now.whole) c.args.self.now.small (subst Q e c.args.self.now.written)
