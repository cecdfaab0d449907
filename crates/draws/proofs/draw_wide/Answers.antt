use Rattle.std.proofs.Common.{◌≡◌, ℕ, ◌+◌, ◌*◌, ◌%◌, ◌^◌, ap, ap₂, ◌∙◌}
use Rattle.rand_pcg.specs.Lcg.{Lcg}
use Rattle.draws.specs.Draws.{next_word, draw_wide}
use Rattle.draws.proofs.draw_wide.Goals as goal

-- two words that were drawn are those of the definition
two : (k high low : ℕ) (g h i : Lcg) → (high, h) ≡ next_word g → (low, i) ≡ next_word h → ((high * 2 ^ 32 + low) % k, i) ≡ draw_wide k g
unfolding draw_wide
two k high low g h i e f =
    let a : high ≡ (next_word g).0 = ap (λ (p : ℕ × Lcg). p.0) e in
    let b : h ≡ (next_word g).1 = ap (λ (p : ℕ × Lcg). p.1) e in
    let x : low ≡ (next_word (next_word g).1).0 = ap (λ (p : ℕ × Lcg). p.0) f ∙ ap (λ (y : Lcg). (next_word y).0) b in
    let y : i ≡ (next_word (next_word g).1).1 = ap (λ (p : ℕ × Lcg). p.1) f ∙ ap (λ (z : Lcg). (next_word z).1) b in
    ap₂ (λ (m : ℕ) (n : ℕ). ((m * 2 ^ 32 + n) % k, i)) a x ∙ ap (λ (z : Lcg). (((next_word g).0 * 2 ^ 32 + (next_word (next_word g).1).0) % k, z)) y

pub returns-clause-drawn : goal.returns-clause-drawn
returns-clause-drawn c =
    ap₂ (λ (m : ℕ) (n : ℕ). ((m * 2 ^ 32 + n) % c.args.count, c.next_word-low.new.generator)) c.from.ensures c.from-2.ensures
    ∙ two c.args.count c.next_word-high.result c.next_word-low.result c.args.generator.now c.next_word-high.new.generator c.next_word-low.new.generator c.next_word-high.ensures c.next_word-low.ensures
