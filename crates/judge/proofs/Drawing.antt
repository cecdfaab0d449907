-- Scenarios that are drawn one after another.
use Rattle.std.proofs.Common.{◌≡◌, ℕ, zero, suc, ◌+◌, ◌<◌, ◌++◌, append_assoc, append-nil, arith, sym, ap, ◌∙◌, subst, Ok, Err}
use Rattle.drawn_scenarios.specs.declared.choices.Choices.{Choices}
use Rattle.input_lines.specs.Devices.{SinkView, WritesAll, WritesFront, all_all, all_front}
use Rattle.judge.specs.Rows.{drawn_rows, all_drawn_rows}
use Rattle.judge.specs.Writing.{WritesRows}
use Rattle.judge.specs.Session.{row_status}
use Rattle.judge.specs.Options.{DrawsRows}
use Rattle.judge.specs.declared.words.Draws.{Draws}
use Rattle.judge.specs.declared.bench.RowError.{RowError}
use Rattle.judge.specs.declared.bench.RowError.TheVariants.{NoMemory, WriteFault}
use Rattle.program_words.specs.declared.status.Status.TheVariants.{Done}

one_more : (choices : Choices) (seed first k : ℕ) → all_drawn_rows choices seed first (suc k) ≡ all_drawn_rows choices seed first k ++ drawn_rows choices seed (first + k)
one_more choices seed first zero = append-nil (drawn_rows choices seed first) ∙ ap (drawn_rows choices seed) (omega arith)
one_more choices seed first (suc k) =
    let later = ap (λ t. drawn_rows choices seed first ++ t) (one_more choices seed (suc first) k) in
    let place : suc first + k ≡ first + suc k = omega arith in
    later ∙ sym (append_assoc (drawn_rows choices seed first) (all_drawn_rows choices seed (suc first) k) (drawn_rows choices seed (suc first + k)))
    ∙ ap (λ i. (drawn_rows choices seed first ++ all_drawn_rows choices seed (suc first) k) ++ drawn_rows choices seed i) place

-- one more
pub drawn_more : (choices : Choices) (seed first k : ℕ) → all_drawn_rows choices seed first (k + 1) ≡ all_drawn_rows choices seed first k ++ drawn_rows choices seed (first + k)
drawn_more choices seed first k = let next : k + 1 ≡ suc k = omega arith in ap (all_drawn_rows choices seed first) next ∙ one_more choices seed first k

module _ (choices : Choices) (d : Draws) (k index : ℕ) (old mid new : SinkView) (place : index ≡ d.first + k) where
  more_is : all_drawn_rows choices d.seed d.first k ++ drawn_rows choices d.seed index ≡ all_drawn_rows choices d.seed d.first (k + 1)
  more_is = ap (λ i. all_drawn_rows choices d.seed d.first k ++ drawn_rows choices d.seed i) place ∙ sym (drawn_more choices d.seed d.first k)

  -- one more was written
  pub drew_one : WritesAll old mid (all_drawn_rows choices d.seed d.first k) → {u : Unit {0}} → WritesRows mid new (λ t. t ≡ drawn_rows choices d.seed index) (Ok u) → WritesAll old new (all_drawn_rows choices d.seed d.first (k + 1))
  drew_one wrote (text, is, w) =
      subst (WritesAll old new) (ap (λ t. all_drawn_rows choices d.seed d.first k ++ t) is ∙ more_is) (all_all old mid new (all_drawn_rows choices d.seed d.first k) text wrote w)

-- or not
pub stopped_drawing : (error : RowError) (choices : Choices) (d : Draws) (k index : ℕ) (old mid new : SinkView) → index ≡ d.first + k → k < d.count → WritesAll old mid (all_drawn_rows choices d.seed d.first k)
    → WritesRows mid new (λ t. t ≡ drawn_rows choices d.seed index) (Err error) → DrawsRows choices d old new (row_status error)
stopped_drawing NoMemory choices d k index old mid new place few wrote same = (k, omega (arith, few), subst (λ s. WritesAll old s (all_drawn_rows choices d.seed d.first k)) (sym same) wrote)
stopped_drawing WriteFault choices d k index old mid new place few wrote (text, is, w) =
    (k + 1, omega (arith, few), subst (WritesFront old new) (ap (λ t. all_drawn_rows choices d.seed d.first k ++ t) is ∙ more_is choices d k index old mid new place) (all_front old mid new (all_drawn_rows choices d.seed d.first k) text wrote w))

pub drew_all : (choices : Choices) (d : Draws) (k : ℕ) (old new : SinkView) → k ≡ d.count → WritesAll old new (all_drawn_rows choices d.seed d.first k) → DrawsRows choices d old new Done
drew_all choices d k old new all wrote = subst (λ n. WritesAll old new (all_drawn_rows choices d.seed d.first n)) all wrote
