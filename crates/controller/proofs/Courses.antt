-- The course of a node over lines, one after another.
use Rattle.std.proofs.Common.{◌≡◌, ℕ, ◌<◌, ◌≤◌, Bool, true, false, cond, List, [], ◌∷◌, ◌++◌, length, append_assoc, append-nil, refl, sym, ap, ◌∙◌, le-ltb, lt-ltb, inl, inr}
use Rattle.std.specs.Prelude.{◌⊎◌, nat_lt, Option, None, Some}
use Rattle.live_node.specs.Event.{Event, event_of}
use Rattle.live_node.specs.Event.Event.{Begin, Deliver, End, Restart, Reading, Ahead}
use Rattle.live_node.specs.Live.{LiveView, Step, is_of_cluster, allowed, told, answer, step_of, line_step, unknown_rule, not_now_rule}
use Rattle.live_node.specs.Live.Step.{Goes, Refuses}
use Rattle.input_lines.specs.Numbers.{next_number, number_behind}
use Rattle.controller.specs.Input.{event_limit}
use Rattle.controller.specs.Course.{Course, Ending, ending_behind, behind, line_refusal, after_step, course}
use Rattle.controller.specs.Course.Course.{Stands, Ends}
use Rattle.program_words.specs.declared.status.Status.TheVariants.{TooLong}

-- ---- a step

told_longest : {N : ℕ} (v : LiveView N) (e : Event) → (told v e).longest ≡ v.longest
told_longest v (Begin o) = refl
told_longest v (Deliver from tick bytes) = refl
told_longest v End = refl
told_longest v Restart = refl
told_longest v (Reading c x) = refl
told_longest v (Ahead j x) = refl

chosen : {N : ℕ} (a b : Bool) (x w : LiveView N) (t text : List ℕ) (r s : ℕ) → cond a (cond b (Goes x t) (Refuses r)) (Refuses s) ≡ Goes w text → x ≡ w
chosen true true x w t text r s h = cc
chosen true false x w t text r s h = cc
chosen false b x w t text r s h = cc

refused_by : {N : ℕ} (a b : Bool) (x : LiveView N) (t : List ℕ) (r s rule : ℕ) → cond a (cond b (Goes x t) (Refuses r)) (Refuses s) ≡ Refuses rule → (rule ≡ s) ⊎ (rule ≡ r)
refused_by true true x t r s rule h = cc
refused_by true false x t r s rule h = inr cc
refused_by false b x t r s rule h = inl cc

step_longest_of : {N : ℕ} (v w : LiveView N) (o : Option Event) (text : List ℕ) → step_of v o ≡ Goes w text → w.longest ≡ v.longest
step_longest_of v w None text h = cc
step_longest_of v w (Some e) text h =
    ap (λ u. u.longest) (sym (chosen (is_of_cluster v e) (allowed v e) (told v e) w (answer (told v e) e) text not_now_rule unknown_rule h)) ∙ told_longest v e

-- no line changes how long a line may be
pub step_longest : {N : ℕ} (v w : LiveView N) (line text : List ℕ) → line_step v line ≡ Goes w text → w.longest ≡ v.longest
step_longest v w line text h = step_longest_of v w (event_of line) text h

step_rule_of : {N : ℕ} (v : LiveView N) (o : Option Event) (rule : ℕ) → step_of v o ≡ Refuses rule → (rule ≡ unknown_rule) ⊎ (rule ≡ not_now_rule)
step_rule_of v None rule h = inl cc
step_rule_of v (Some e) rule h = refused_by (is_of_cluster v e) (allowed v e) (told v e) (answer (told v e) e) not_now_rule unknown_rule rule h

-- two rules refuse lines
pub step_rule : {N : ℕ} (v : LiveView N) (line : List ℕ) (rule : ℕ) → line_step v line ≡ Refuses rule → (rule ≡ unknown_rule) ⊎ (rule ≡ not_now_rule)
step_rule v line rule h = step_rule_of v (event_of line) rule h

-- ---- texts before a course

behind_nil : {N : ℕ} (c : Course N) → behind [] c ≡ c
behind_nil (Stands v text) = refl
behind_nil (Ends e) = refl

behind_twice : {N : ℕ} (s t : List ℕ) (c : Course N) → behind s (behind t c) ≡ behind (s ++ t) c
behind_twice s t (Stands v text) = ap (Stands v) (sym (append_assoc s t text))
behind_twice s t (Ends e) = ap (λ x. Ends (record { status = e.status; text = x })) (sym (append_assoc s t e.text))

stands_behind : {N : ℕ} (t : List ℕ) (c : Course N) (w : LiveView N) (text : List ℕ) → behind t c ≡ Stands w text → (more : List ℕ) × (c ≡ Stands w more) × (text ≡ t ++ more)
stands_behind t (Stands v more) w text h = let same : v ≡ w = cc in let all : t ++ more ≡ text = cc in (more, ap (λ u. Stands u more) same, sym all)
stands_behind t (Ends e) w text h = cc

ends_behind : {N : ℕ} (t : List ℕ) (c : Course N) (e : Ending) → behind t c ≡ Ends e → (last : Ending) × (c ≡ Ends last) × (ending_behind t last ≡ e)
ends_behind t (Stands v more) e h = cc
ends_behind t (Ends last) e h = (last, refl, cc)

-- ---- lines, one after another

stood : {N : ℕ} (n : ℕ) (v w : LiveView N) (text : List ℕ) (more : List (List ℕ)) → ◌≡◌ {A = Course N} (Stands v []) (Stands w text) → course v n more ≡ behind text (course w n more)
stood n v w text more h = let same : v ≡ w = cc in let none : [] ≡ text = cc in sym (behind_nil (course v n more)) ∙ ap (λ u. behind [] (course u n more)) same ∙ ap (λ t. behind t (course w n more)) none

both_after : {N : ℕ} (b : Bool) (s : Step N) (w : LiveView N) (n : ℕ) (later : Course N) (long : Ending) (text : List ℕ) (f g : LiveView N → Course N)
    → ((u : LiveView N) (t : List ℕ) → f u ≡ Stands w t → g u ≡ behind t later)
    → cond b (Ends long) (after_step n f s) ≡ Stands w text → cond b (Ends long) (after_step n g s) ≡ behind text later
both_after true s w n later long text f g next h = cc
both_after false (Refuses rule) w n later long text f g next h = cc
both_after false (Goes u t) w n later long text f g next h =
    let rest = stands_behind t (f u) w text h in
    ap (behind t) (next u rest.0 rest.1) ∙ behind_twice t rest.0 later ∙ ap (λ x. behind x later) (sym rest.2)

-- a node that stands so after lines goes on from there
pub course_both : {N : ℕ} (v w : LiveView N) (n : ℕ) (lines more : List (List ℕ)) (text : List ℕ) → course v n lines ≡ Stands w text → course v n (lines ++ more) ≡ behind text (course w (number_behind n lines) more)
course_both v w n [] more text h = stood n v w text more h
course_both v w n (line ∷ lines) more text h =
    both_after (nat_lt event_limit (length line)) (line_step v line) w n (course w (number_behind (next_number n) lines) more) _ text _ _
    (λ u t e. course_both u w (next_number n) lines more t e) h

ended_after : {N : ℕ} (b : Bool) (s : Step N) (n : ℕ) (long e : Ending) (f g : LiveView N → Course N) → ((u : LiveView N) (last : Ending) → f u ≡ Ends last → g u ≡ Ends last)
    → cond b (Ends long) (after_step n f s) ≡ Ends e → cond b (Ends long) (after_step n g s) ≡ Ends e
ended_after true s n long e f g next h = h
ended_after false (Refuses rule) n long e f g next h = h
ended_after false (Goes u t) n long e f g next h =
    let rest = ends_behind t (f u) e h in
    ap (behind t) (next u rest.0 rest.1) ∙ ap Ends rest.2

-- a course that ended is not changed by further lines
pub course_ended : {N : ℕ} (v : LiveView N) (n : ℕ) (lines more : List (List ℕ)) (e : Ending) → course v n lines ≡ Ends e → course v n (lines ++ more) ≡ Ends e
course_ended v n [] more e h = cc
course_ended v n (line ∷ lines) more e h =
    ended_after (nat_lt event_limit (length line)) (line_step v line) n _ e _ _ (λ u last k. course_ended u (next_number n) lines more last k) h

-- one line that is not too long
line_taken : {N : ℕ} (v : LiveView N) (n : ℕ) (line : List ℕ) → length line ≤ event_limit → course v n (line ∷ []) ≡ after_step n (λ w. Stands w []) (line_step v line)
line_taken v n line short =
    let next : Course _ = after_step n (λ w. Stands w []) (line_step v line) in
    ap (λ b. cond b (Ends (record { status = TooLong; text = [] })) next) (le-ltb event_limit (length line) short)

pub line_goes : {N : ℕ} (v w : LiveView N) (n : ℕ) (line text : List ℕ) → length line ≤ event_limit → line_step v line ≡ Goes w text → course v n (line ∷ []) ≡ Stands w text
line_goes v w n line text short h = line_taken v n line short ∙ ap (after_step n (λ u. Stands u [])) h ∙ ap (Stands w) (append-nil text)

pub line_refused : {N : ℕ} (v : LiveView N) (n : ℕ) (line : List ℕ) (rule : ℕ) → length line ≤ event_limit → line_step v line ≡ Refuses rule → course v n (line ∷ []) ≡ Ends (line_refusal rule n)
line_refused v n line rule short h = line_taken v n line short ∙ ap (after_step n (λ u. Stands u [])) h

pub line_long : {N : ℕ} (v : LiveView N) (n : ℕ) (line : List ℕ) (lines : List (List ℕ)) → event_limit < length line → course v n (line ∷ lines) ≡ Ends (record { status = TooLong; text = [] })
line_long v n line lines long =
    ap (λ b. cond b (Ends (record { status = TooLong; text = [] })) (after_step n (λ w. course w (next_number n) lines) (line_step v line))) (lt-ltb event_limit (length line) long)
