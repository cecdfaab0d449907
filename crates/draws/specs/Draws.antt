-- Words of a generator, and what is made by drawing them one after another.
use Rattle.std.specs.Prelude.{ℕ, ◌+◌, ◌*◌, ◌%◌, ◌^◌}
use Rattle.rand_core.specs.Pcg32Seed.{pcg32_seed}
use Rattle.rand_pcg.specs.Lcg.{Lcg}
use Rattle.rand_pcg.specs.Pcg.{pcg32, pcg32_of_seed}

-- the generator that `seed_from_u64` makes of a number
unfoldable pub generator_of : ℕ → Lcg
generator_of seed = pcg32_of_seed (pcg32_seed 16 seed)

-- its next word, of 32 bits, and the generator that is left
unfoldable pub next_word : Lcg → ℕ × Lcg
next_word = pcg32

-- what is made by drawing words: a value, and the generator that is left
abbrev pub Drawing : Type 0 → Type 0
Drawing A = Lcg → A × Lcg

-- the remainder by k of the next word
unfoldable pub draw : ℕ → Drawing ℕ
draw k g = ((next_word g).0 % k, (next_word g).1)

-- the remainder by k of the number of the next two words, the high half first
unfoldable pub draw_wide : ℕ → Drawing ℕ
draw_wide k g = (((next_word g).0 * 2 ^ 32 + (next_word (next_word g).1).0) % k, (next_word (next_word g).1).1)

-- one drawing after another
infixl 10 ◌>>=◌
abbrev pub ◌>>=◌ : {A B : Type 0} → Drawing A → (A → Drawing B) → Drawing B
◌>>=◌ first next g = next (first g).0 (first g).1

-- no word is drawn
abbrev pub pure : {A : Type 0} → A → Drawing A
pure value g = (value, g)
