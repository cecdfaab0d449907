-- How the text of a node ends.
use Rattle.std.proofs.Common.{◌≡◌, ℕ, ◌<◌, cond, List, [], ◌∷◌, ◌++◌, length, arith, append_assoc, append-nil, refl, sym, ap, ◌∙◌, lt-ltb, ⊎_elim}
use Rattle.input_lines.specs.Lines.{IsUnbroken, lines_of, rest_of}
use Rattle.input_lines.specs.Laws.{Begins}
use Rattle.input_lines.specs.Reading.{IsLong}
use Rattle.input_lines.specs.Splits.{lines_begun, rest_begun, all_begun, read_more}
use Rattle.live_node.specs.Live.{LiveView}
use Rattle.input_lines.specs.FirstLine.{first_line, first_line_is, long_first}
use Rattle.input_lines.specs.Numbers.{number_behind, number_behind_both}
use Rattle.controller.specs.Input.{event_limit}
use Rattle.controller.specs.Course.{Course, Ending, ending_behind, behind, line_refusal, course, closing, course_end, ending_of}
use Rattle.controller.specs.Course.Course.{Stands, Ends}
use Rattle.controller.specs.Session.{Stand, Took}
use Rattle.program_words.specs.declared.status.Status.TheVariants.{TooLong}
use Rattle.controller.proofs.Courses.{course_both, course_ended, line_long}

-- the end of all that is told, by how the lines are split and where they lead
pub ends_by : {N : ℕ} (v : LiveView N) (n : ℕ) (bytes : List ℕ) (lines : List (List ℕ)) (rest : List ℕ) (c : Course N) → lines_of bytes ≡ lines → rest_of bytes ≡ rest → course v n lines ≡ c
    → ending_of v n bytes ≡ course_end (number_behind n lines) rest c
ends_by v n bytes lines rest c a b h =
    ap (λ ls. course_end (number_behind n ls) (rest_of bytes) (course v n ls)) a ∙ ap (λ r. course_end (number_behind n lines) r (course v n lines)) b ∙ ap (course_end (number_behind n lines) rest) h

-- all lines were taken, and the input ends
pub at_end : (from to : Stand) (lines : List (List ℕ)) (text : List ℕ) → Took from to lines text → IsUnbroken to.rest → ending_of from.node from.number from.rest ≡ ending_behind text (closing to.node to.number to.rest)
at_end from to lines text t unbroken =
    let all = all_begun from.rest lines to.rest t.begins unbroken in
    ends_by from.node from.number from.rest lines to.rest (Stands to.node text) all.0 all.1 t.stands ∙ ap (λ n. ending_behind text (closing to.node n to.rest)) (sym t.number)

-- a line was refused, whatever comes behind it
pub at_refusal : (from : Stand) (lines : List (List ℕ)) (rest more : List ℕ) (e : Ending) → Begins from.rest lines rest → course from.node from.number lines ≡ Ends e → ending_of from.node from.number (from.rest ++ more) ≡ e
at_refusal from lines rest more e b h =
    ends_by from.node from.number (from.rest ++ more) (lines ++ lines_of (rest ++ more)) (rest_of (from.rest ++ more)) (Ends e)
    (lines_begun (from.rest ++ more) lines (rest ++ more) (read_more from.rest lines rest more b)) refl (course_ended from.node from.number lines (lines_of (rest ++ more)) e h)

long_closing : {N : ℕ} (v : LiveView N) (n : ℕ) (rest : List ℕ) → event_limit < length rest → closing v n rest ≡ record { status = TooLong; text = [] }
long_closing v n [] h = absurd (omega arith)
long_closing v n (c ∷ rest) h = ap (λ b. cond b (record { status = TooLong; text = [] }) (line_refusal 20 n)) (lt-ltb event_limit (length (c ∷ rest)) h)

-- so does a node that stands so before a line that is too long, whatever comes behind it
long_end : {N : ℕ} (w : LiveView N) (n : ℕ) (bytes : List ℕ) → event_limit < length (first_line bytes) → ending_of w n bytes ≡ record { status = TooLong; text = [] }
long_end w n bytes long = ⊎_elim
    (λ none.
    ends_by w n bytes [] (first_line bytes) (Stands w []) none.0 none.1 refl ∙ ap (ending_behind []) (long_closing w n (first_line bytes) long))
    (λ some.
    ends_by w n bytes (first_line bytes ∷ some.0) (rest_of bytes) (Ends (record { status = TooLong; text = [] })) some.1 refl (line_long w n (first_line bytes) some.0 long))
    (first_line_is bytes)

course_end_behind : {N : ℕ} (n : ℕ) (rest text : List ℕ) (c : Course N) → course_end n rest (behind text c) ≡ ending_behind text (course_end n rest c)
course_end_behind n rest text (Stands v more) = ap (λ x. record { status = (closing v n rest).status; text = x }) (append_assoc text more (closing v n rest).text)
course_end_behind n rest text (Ends e) = refl

-- the end of a node that goes on from where it stands
goes_on : (from to : Stand) (lines : List (List ℕ)) (text more : List ℕ) → Took from to lines text → ending_of from.node from.number (from.rest ++ more) ≡ ending_behind text (ending_of to.node to.number (to.rest ++ more))
goes_on from to lines text more t =
    let others = lines_of (to.rest ++ more) in
    let b = read_more from.rest lines to.rest more t.begins in
    let numbers : number_behind from.number (lines ++ others) ≡ number_behind to.number others = number_behind_both from.number lines others ∙ ap (λ n. number_behind n others) (sym t.number) in
    ends_by from.node from.number (from.rest ++ more) (lines ++ others) (rest_of (to.rest ++ more)) (behind text (course to.node to.number others))
    (lines_begun (from.rest ++ more) lines (to.rest ++ more) b) (rest_begun (from.rest ++ more) lines (to.rest ++ more) b)
    (course_both from.node to.node from.number lines others text t.stands ∙ ap (λ n. behind text (course to.node n others)) (sym t.number))
    ∙ ap (λ n. course_end n (rest_of (to.rest ++ more)) (behind text (course to.node to.number others))) numbers
    ∙ course_end_behind (number_behind to.number others) (rest_of (to.rest ++ more)) text (course to.node to.number others)

-- lines were taken, and the next one is too long, whatever comes behind it
pub at_long : (from to : Stand) (lines : List (List ℕ)) (text more : List ℕ) → Took from to lines text → IsLong event_limit to.rest → ending_of from.node from.number (from.rest ++ more) ≡ record { status = TooLong; text = text }
at_long from to lines text more t long =
    goes_on from to lines text more t ∙ ap (ending_behind text) (long_end to.node to.number (to.rest ++ more) (long_first event_limit to.rest more long))
    ∙ ap (λ x. record { status = TooLong; text = x }) (append-nil text)
