use Rattle.std.proofs.Common.{◌≡◌, ◌/◌, ◌<◌, ◌*◌, ◌+◌, ℕ, length, subst, sym, ap, ◌∙◌, false, arith, get_or, ◌≤◌, lit<}
use Rattle.std.specs.Prelude.{◌==◌, if◌then◌else◌}
use Rattle.omh_paths.specs.declared.wrapped.Wrapped.TheVariants.{Plain, Fault}
use Rattle.frames.specs.Reading.{content_claim}
use Rattle.frames.specs.PieceLaws.{read_at, piece_within}
use Rattle.frames.specs.EntryLaws.{claim_at}
use Rattle.frames.proofs.cells.Cells.done_at.Goals as goal

-- the two bytes of an entry lie within all
within : (width k n : ℕ) → width ≡ 2 → k < n / width → (2 * k < n) × (2 * k + 1 < n)
within width k n e h =
    let P : ℕ → Type 0 = λ w. k < n / w in
    let p : 2 * k + 2 ≤ n = piece_within 2 k n (lit< tt) (subst P e h) in
    (omega (arith, p), omega (arith, p))

pub returns-in-0 : goal.returns-in-0
returns-in-0 c =
    let P : ℕ → Type 0 = λ w. c.args.k < length c.args.self.now.bytes.now / w in
    let within : c.args.k < length c.args.self.now.bytes.now / 2 = subst P c.requires.wide c.requires.within in
    let zero : get_or c.args.self.now.bytes.now (2 * c.args.k) 0 ≡ 0 = c.in-0.is in
    sym (read_at 2 content_claim c.args.self.now.bytes.now c.args.k _ within ∙ claim_at c.args.self.now.bytes.now c.args.k
    ∙ ap (λ t. if t == 0 then Plain (get_or c.args.self.now.bytes.now (2 * c.args.k + 1) 0) else Fault t) zero)

pub returns-in_default : goal.returns-in_default
returns-in_default c =
    let P : ℕ → Type 0 = λ w. c.args.k < length c.args.self.now.bytes.now / w in
    let within : c.args.k < length c.args.self.now.bytes.now / 2 = subst P c.requires.wide c.requires.within in
    let some : (get_or c.args.self.now.bytes.now (2 * c.args.k) 0 == 0) ≡ false = grind arith in
    sym (read_at 2 content_claim c.args.self.now.bytes.now c.args.k _ within ∙ claim_at c.args.self.now.bytes.now c.args.k
    ∙ ap (λ b. if b then Plain (get_or c.args.self.now.bytes.now (2 * c.args.k + 1) 0) else Fault (get_or c.args.self.now.bytes.now (2 * c.args.k) 0)) some)

pub bounds-self-k : goal.bounds-self-k
bounds-self-k c = (within c.args.self.now.width c.args.k (length c.args.self.now.bytes.now) c.requires.wide c.requires.within).0

pub bounds-self-k-in-0 : goal.bounds-self-k-in-0
bounds-self-k-in-0 c = (within c.args.self.now.width c.args.k (length c.args.self.now.bytes.now) c.requires.wide c.requires.within).1

pub overflow_add-result : goal.overflow_add-result
overflow_add-result c = omega (arith, (within c.args.self.now.width c.args.k (length c.args.self.now.bytes.now) c.requires.wide c.requires.within).1)

pub overflow_mul-k : goal.overflow_mul-k
overflow_mul-k c = omega (arith, (within c.args.self.now.width c.args.k (length c.args.self.now.bytes.now) c.requires.wide c.requires.within).0)

pub overflow_mul-result : goal.overflow_mul-result
overflow_mul-result c = omega (arith, (within c.args.self.now.width c.args.k (length c.args.self.now.bytes.now) c.requires.wide c.requires.within).0)
