-- What is answered behind the first line, as the outcome of the whole input.
use Rattle.std.proofs.Common.{◌≡◌, ℕ, ◌-◌, ◌^◌, ◌≤◌, Bool, true, false, List, [], ◌∷◌, ◌++◌, length, length-append, arith, append_assoc, append-nil, inl, inr, refl, sym, ap, ◌∙◌, subst}
use Rattle.std.specs.Io.KnownBytes.{IsAtEnd}
use Rattle.std.proofs.KnownBytes.{Consumes-trans}
use Rattle.span_io.specs.Causes.{Rose}
use Rattle.input_lines.specs.Lines.{line_feed, IsUnbroken}
use Rattle.input_lines.specs.Laws.{Begins}
use Rattle.input_lines.specs.Splits.{read_more}
use Rattle.input_lines.specs.Reading.{SourceView, GivesBytes}
use Rattle.live_node.specs.Live.{LiveView}
use Rattle.input_lines.specs.FirstLine.{first_line, behind_first, first_of, behind_of, first_is_all, nothing_behind, long_first}
use Rattle.input_lines.specs.Devices.{input_is, IsInput, told_left, SinkView, WritesAll, nothing_left, gave_both, wrote_nothing}
use Rattle.controller.specs.Words.{Calls}
use Rattle.controller.specs.Input.{scenario_limit}
use Rattle.controller.specs.Course.{closing, ending_of}
use Rattle.controller.specs.Outcome.{capacity, first_event, IsNode, IsAnswered, EndsSo, IsOutcome, IsScenarioRefused, IsUnreadable}
use Rattle.controller.specs.Session.{Stand, Concludes, Runs, RunsTo, Took, with_more}
use Rattle.controller.specs.First.{HasFirst, IsFirst, StopsFirst, at_first, RunsNode, NodeAnswers, AnswersFirst}
use Rattle.controller.specs.Answers.{HasOutcome}
use Rattle.controller.specs.declared.control.FirstLine.{FirstLine}
use Rattle.program_words.specs.declared.status.Status.{Status}
use Rattle.program_words.specs.declared.status.Status.TheVariants.{Done, Usage, Unreadable, Refused, ReadFault, WriteFault, NoMemory, TooLong}
use Rattle.controller.proofs.Explaining.{Explains}

-- ---- inputs

-- the first line of the input, and what stands behind it
first_whole : (ends : Bool) (first : FirstLine) (now : SourceView) (bytes : List ℕ) → IsFirst first now bytes ends → IsUnbroken first.lines.line → first_line (bytes ++ told_left now.left) ≡ first.lines.line
first_whole true first now bytes h unbroken =
    ap (λ x. first_line (bytes ++ x)) (nothing_left now.left h.0) ∙ ap first_line (append-nil bytes ∙ h.1) ∙ first_is_all first.lines.line unbroken
first_whole false first now bytes h unbroken =
    ap (λ x. first_line (x ++ told_left now.left)) h ∙ ap first_line (append_assoc first.lines.line (line_feed ∷ first.lines.rest) (told_left now.left)) ∙ first_of first.lines.line (first.lines.rest ++ told_left now.left) unbroken

module _ (line rest more left : List ℕ) (unbroken : IsUnbroken line) where
  regroup : ((line ++ line_feed ∷ rest) ++ more) ++ left ≡ line ++ line_feed ∷ ((rest ++ more) ++ left)
  regroup = ap (λ x. x ++ left) (append_assoc line (line_feed ∷ rest) more) ∙ append_assoc line (line_feed ∷ (rest ++ more)) left

  first_read : first_line (((line ++ line_feed ∷ rest) ++ more) ++ left) ≡ line
  first_read = ap first_line regroup ∙ first_of line ((rest ++ more) ++ left) unbroken

  events_read : behind_first (((line ++ line_feed ∷ rest) ++ more) ++ left) ≡ (rest ++ more) ++ left
  events_read = ap behind_first regroup ∙ behind_of line ((rest ++ more) ++ left) unbroken

node_of : (line other : List ℕ) (id : ℕ) (v : LiveView capacity) → other ≡ line → IsNode line id v → IsNode other id v
node_of line other id v e node = subst (λ l. IsNode l id v) (sym e) node

-- ---- a node that reads on

module _ (words : List (List ℕ)) (id : ℕ) (calls : Calls words id) (line rest : List ℕ) (unbroken : IsUnbroken line) (v : LiveView capacity) (node : IsNode line id v)
    (a b c : SourceView) (old new : SinkView) (gave : GivesBytes a b (line ++ line_feed ∷ rest)) where
  whole : List ℕ → List ℕ
  whole more = ((line ++ line_feed ∷ rest) ++ more) ++ told_left c.left

  whole_input : (more : List ℕ) → GivesBytes b c more → IsInput a.left (whole more)
  unfolding whole
  whole_input more g = input_is a.left c.left ((line ++ line_feed ∷ rest) ++ more) (gave_both a b c (line ++ line_feed ∷ rest) more gave g).left

  whole_node : (more : List ℕ) → IsNode (first_line (whole more)) id v
  unfolding whole
  whole_node more = node_of line (first_line (whole more)) id v (first_read line rest more (told_left c.left) unbroken) node

  whole_ends : (more text : List ℕ) (status : Status) → RunsTo (at_first v rest) more c status text → EndsSo (whole more) id status text
  unfolding whole
  whole_ends more text status h = (v, whole_node more, ap (ending_of v first_event) (events_read line rest more (told_left c.left) unbroken) ∙ h)

  whole_answered : (more text : List ℕ) (to : Stand) (lines : List (List ℕ)) → Took (with_more (at_first v rest) more) to lines text → IsAnswered v (behind_first (whole more)) (to.rest ++ told_left c.left) text
  unfolding whole
  whole_answered more text to lines t = record {
    lines = lines;
    begins = subst (λ e. Begins e lines (to.rest ++ told_left c.left)) (sym (events_read line rest more (told_left c.left) unbroken)) (read_more (rest ++ more) lines to.rest (told_left c.left) t.begins);
    node = to.node;
    stands = t.stands;
  }

  outcome : (more text : List ℕ) (status : Status) → GivesBytes b c more → IsOutcome id (whole more) status text → HasOutcome words a.left status text
  outcome more text status g o = record { id = id; calls = calls; bytes = whole more; input = whole_input more g; outcome = o }

  same_faults : (more : List ℕ) → GivesBytes b c more → c.faults ≡ a.faults
  same_faults more g = g.faults ∙ gave.faults

  many_whole : (more : List ℕ) → 2 ^ 64 - 1 ≤ length more → 2 ^ 64 - 1 ≤ length (whole more)
  unfolding whole
  many_whole more h = omega (arith, h, length-append ((line ++ line_feed ∷ rest) ++ more) (told_left c.left), length-append (line ++ line_feed ∷ rest) more)

  -- what such a run says
  pub reads_on : (status : Status) → Runs (at_first v rest) b c old new status → Explains words (record { source = a; sink = old }) (record { source = c; sink = new }) status
  reads_on Done (more, text, g, over, ends, wrote) = (same_faults more g, text, outcome more text Done g (whole_ends more text Done ends), over, wrote)
  reads_on Refused (more, text, g, ends, wrote) = (same_faults more g, text, outcome more text Refused g (inr (whole_ends more text Refused ends)), wrote)
  reads_on TooLong (more, text, g, inl ends, wrote) = (same_faults more g, text, outcome more text TooLong g (inr (inl (whole_ends more text TooLong ends))), wrote)
  reads_on TooLong (more, text, g, inr full, wrote) = (
    same_faults more g,
    text,
    outcome more text TooLong g
        (inr (inr (record { many = many_whole more full.many; v = v; node = whole_node more; rest = full.to.rest ++ told_left c.left; answered = whole_answered more text full.to full.lines full.took }))),
    wrote,
  )
  reads_on WriteFault (more, text, g, inl part, wrote) = (
    same_faults more g,
    text,
    record { id = id; calls = calls; bytes = whole more; input = whole_input more g; part = inl (v, part.0.rest ++ told_left c.left, whole_node more, whole_answered more text part.0 part.1 part.2) },
    wrote,
  )
  reads_on WriteFault (more, text, g, inr ends, wrote) = (
    same_faults more g,
    text,
    record { id = id; calls = calls; bytes = whole more; input = whole_input more g; part = inr (whole_ends more text Done ends) },
    wrote,
  )
  reads_on ReadFault (more, text, to, consumes, rose, caught, wrote) =
      let bytes = (line ++ line_feed ∷ rest) ++ more in
      let is : bytes ≡ line ++ line_feed ∷ (rest ++ more) = append_assoc line (line_feed ∷ rest) more in (
        subst (λ n. Rose n c.faults) gave.faults rose,
        text,
        record {
          id = id;
          calls = calls;
          bytes = bytes;
          read = Consumes-trans a.left b.left c.left (line ++ line_feed ∷ rest) more gave.left consumes;
          answered = inr (
            v,
            to.rest,
            node_of line (first_line bytes) id v (ap first_line is ∙ first_of line (rest ++ more) unbroken) node,
            record { lines = caught.lines; begins = subst (λ e. Begins e caught.lines to.rest) (sym (ap behind_first is ∙ behind_of line (rest ++ more) unbroken)) caught.took.begins; node = to.node; stands = caught.took.stands },
            caught.unbroken,
          );
        },
        wrote,
      )
  reads_on Usage h = absurd h
  reads_on Unreadable h = absurd h
  reads_on NoMemory h = absurd h

-- ---- a node behind whose first line nothing comes

module _ (words : List (List ℕ)) (id : ℕ) (calls : Calls words id) (line : List ℕ) (unbroken : IsUnbroken line) (v : LiveView capacity) (node : IsNode line id v)
    (a b : SourceView) (old new : SinkView) (gave : GivesBytes a b line) (over : IsAtEnd b.left) where
  alone_input : IsInput a.left line
  alone_input = subst (IsInput a.left) (ap (λ x. line ++ x) (nothing_left b.left over) ∙ append-nil line) (input_is a.left b.left line gave.left)

  alone_ends : (status : Status) → (closing v first_event []).status ≡ status → EndsSo line id status (closing v first_event []).text
  alone_ends status h = (
    v,
    node_of line (first_line line) id v (first_is_all line unbroken) node,
    ap (ending_of v first_event) (nothing_behind line unbroken) ∙ ap (λ s. record { status = s; text = (closing v first_event []).text }) h,
  )

  pub ends_there : (status : Status) → Concludes (closing v first_event []) old new status → Explains words (record { source = a; sink = old }) (record { source = b; sink = new }) status
  ends_there Done h = (gave.faults, (closing v first_event []).text, record { id = id; calls = calls; bytes = line; input = alone_input; outcome = alone_ends Done h.0 }, over, h.1)
  ends_there Refused h = (gave.faults, (closing v first_event []).text, record { id = id; calls = calls; bytes = line; input = alone_input; outcome = inr (alone_ends Refused h.0) }, h.1)
  ends_there WriteFault h = (gave.faults, (closing v first_event []).text, record { id = id; calls = calls; bytes = line; input = alone_input; part = inr (alone_ends Done h.0) }, h.1)
  ends_there Usage h = absurd h
  ends_there Unreadable h = absurd h
  ends_there ReadFault h = absurd h
  ends_there NoMemory h = absurd h
  ends_there TooLong h = absurd h

-- ---- what is answered

node_runs : (words : List (List ℕ)) (id : ℕ) → Calls words id → (first : FirstLine) (ends : Bool) (v : LiveView capacity) → IsUnbroken first.lines.line → IsNode first.lines.line id v → (a b c : SourceView) (old new : SinkView) (bytes : List ℕ)
    → GivesBytes a b bytes → IsFirst first b bytes ends → (status : Status) → RunsNode ends v first.lines.rest b c old new status → Explains words (record { source = a; sink = old }) (record { source = c; sink = new }) status
node_runs words id calls first true v unbroken node a b c old new bytes gave is status h =
    let one : GivesBytes a b first.lines.line = subst (GivesBytes a b) is.1 gave in
    subst (λ (s : SourceView). Explains words (record { source = a; sink = old }) (record { source = s; sink = new }) status) (sym h.0)
    (ends_there words id calls first.lines.line unbroken v node a b old new one is.0 status (subst (λ r. Concludes (closing v first_event r) old new status) is.2 h.1))
node_runs words id calls first false v unbroken node a b c old new bytes gave is status h =
    reads_on words id calls first.lines.line first.lines.rest unbroken v node a b c old new (subst (GivesBytes a b) is gave) status h

node_answers : (words : List (List ℕ)) (id : ℕ) → Calls words id → (first : FirstLine) (a b c : SourceView) (old new : SinkView) (bytes : List ℕ) → GivesBytes a b bytes → HasFirst first b bytes
    → (status : Status) → NodeAnswers first id b c old new status → Explains words (record { source = a; sink = old }) (record { source = c; sink = new }) status
node_answers words id calls first a b c old new bytes gave h status x = node_runs words id calls first first.ends_input x.0 h.unbroken x.1 a b c old new bytes gave h.is status x.2

module _ (words : List (List ℕ)) (id : ℕ) (calls : Calls words id) (first : FirstLine) (a b : SourceView) (bytes : List ℕ) (gave : GivesBytes a b bytes) (h : HasFirst first b bytes) where
  -- the input, of which nothing behind the first line matters
  by_first : (status : Status) (text : List ℕ) → IsOutcome id (bytes ++ told_left b.left) status text → HasOutcome words a.left status text
  by_first status text o = record { id = id; calls = calls; bytes = bytes ++ told_left b.left; input = input_is a.left b.left bytes gave.left; outcome = o }

  is_line : first_line (bytes ++ told_left b.left) ≡ first.lines.line
  is_line = first_whole first.ends_input first b bytes h.is h.unbroken

  not_read : IsUnreadable first.lines.line → HasOutcome words a.left Unreadable []
  not_read u = by_first Unreadable [] (subst (λ l. length l ≤ scenario_limit) (sym is_line) h.short, subst IsUnreadable (sym is_line) u, refl)

  not_accepted : (text : List ℕ) → IsScenarioRefused first.lines.line id text → HasOutcome words a.left Refused text
  not_accepted text r = by_first Refused text (inl (subst (λ l. IsScenarioRefused l id text) (sym is_line) r))

-- what is answered behind the first line
pub answered : (words : List (List ℕ)) (id : ℕ) → Calls words id → (first : FirstLine) (a b c : SourceView) (old new : SinkView) (bytes : List ℕ) → GivesBytes a b bytes → HasFirst first b bytes
    → (status : Status) → AnswersFirst first id b c old new status → Explains words (record { source = a; sink = old }) (record { source = c; sink = new }) status
answered words id calls first a b c old new bytes gave h Usage x = absurd x
answered words id calls first a b c old new bytes gave h Unreadable x = (
  ap (λ (s : SourceView). s.faults) x.1 ∙ gave.faults,
  not_read words id calls first a b bytes gave h x.0,
  subst (λ (k : SinkView). WritesAll old k []) (sym x.2) (wrote_nothing old),
)
answered words id calls first a b c old new bytes gave h NoMemory x = (ap (λ (s : SourceView). s.faults) x.0 ∙ gave.faults, subst (λ (k : SinkView). WritesAll old k []) (sym x.1) (wrote_nothing old))
answered words id calls first a b c old new bytes gave h Refused (inl x) = (ap (λ (s : SourceView). s.faults) x.2 ∙ gave.faults, x.0, not_accepted words id calls first a b bytes gave h x.0 x.1, x.3)
answered words id calls first a b c old new bytes gave h Refused (inr x) = node_answers words id calls first a b c old new bytes gave h Refused x
answered words id calls first a b c old new bytes gave h Done x = node_answers words id calls first a b c old new bytes gave h Done x
answered words id calls first a b c old new bytes gave h TooLong x = node_answers words id calls first a b c old new bytes gave h TooLong x
answered words id calls first a b c old new bytes gave h WriteFault x = node_answers words id calls first a b c old new bytes gave h WriteFault x
answered words id calls first a b c old new bytes gave h ReadFault x = node_answers words id calls first a b c old new bytes gave h ReadFault x

-- what is answered where the first line was not read
pub unanswered : (words : List (List ℕ)) (id : ℕ) → Calls words id → (a b : SourceView) (k : SinkView) (status : Status) → StopsFirst status a b → Explains words (record { source = a; sink = k }) (record { source = b; sink = k }) status
unanswered words id calls a b k TooLong (bytes, gave, long) = (
  gave.faults,
  [],
  record { id = id; calls = calls; bytes = bytes ++ told_left b.left; input = input_is a.left b.left bytes gave.left; outcome = inl (long_first scenario_limit bytes (told_left b.left) long, refl) },
  wrote_nothing k,
)
unanswered words id calls a b k ReadFault (bytes, consumes, unbroken, rose) = (rose, [], record { id = id; calls = calls; bytes = bytes; read = consumes; answered = inl (unbroken, refl) }, wrote_nothing k)
unanswered words id calls a b k NoMemory h = (h, wrote_nothing k)
unanswered words id calls a b k Usage h = absurd h
unanswered words id calls a b k Done h = absurd h
unanswered words id calls a b k Unreadable h = absurd h
unanswered words id calls a b k Refused h = absurd h
unanswered words id calls a b k WriteFault h = absurd h
