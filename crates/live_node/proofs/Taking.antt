-- What becomes of a node and a sink by a line.
use Rattle.std.proofs.Common.{ℕ, ◌≡◌, ◌+◌, ◌*◌, ◌/◌, ◌≤◌, Bool, true, false, if◌then◌else◌, List, [], ◌++◌, refl, sym, ap, subst, ◌∙◌, arith, append-nil, Option, None, Some, Result, Ok, Err}
use Rattle.std.specs.Prelude.{is_some}
use Rattle.std.proofs.KnownBytes.{Keeps-refl}
use Rattle.span_io.specs.Causes.{Writes}
use Rattle.span_io.specs.Progress.{then, stop, start, finish}
use Rattle.run_print.specs.declared.WriteFault.{WriteFault}
use Rattle.run_text.specs.PeriodText.{alone_text}
use Rattle.agreed_state.specs.declared.config.Config.{Config}
use Rattle.node_steps.specs.Outcome.{Outcome}
use Rattle.node_steps.specs.Steps.{frame_of}
use Rattle.live_node.specs.Event as spec
use Rattle.live_node.specs.Event.Event.{Begin, Deliver, End, Restart, Reading, Ahead}
use Rattle.live_node.specs.Event.{event_of}
use Rattle.live_node.specs.Live.{LiveView, Step, is_open, is_of_cluster, allowed, told, answer, step_of, line_step, unknown_rule, not_now_rule, period_answer, slot_answer, correction}
use Rattle.live_node.specs.Live.Step.{Goes, Refuses}
use Rattle.live_node.specs.Text.{say_text, correct_text}
use Rattle.live_node.specs.Taking.{Takes, refusal_by}
use Rattle.live_node.specs.declared.live.Refusal.{Refusal}
use Rattle.live_node.specs.declared.live.Refusal.TheVariants.{WriteFault as Failed}
use Rattle.live_node.proofs.Keeping.{if_true, if_false}

-- ---- the step of a line

module _ {N : ℕ} (v : LiveView N) (line : List ℕ) where
  pub no_event : event_of line ≡ None → line_step v line ≡ Refuses unknown_rule
  no_event e = ap (step_of v) e

  module _ (e : spec.Event) (tells : event_of line ≡ Some e) where
    pub unknown : is_of_cluster v e ≡ false → line_step v line ≡ Refuses unknown_rule
    unknown h = ap (step_of v) tells ∙ ap (λ (b : Bool). if b then (if allowed v e then Goes (told v e) (answer (told v e) e) else Refuses not_now_rule) else Refuses unknown_rule) h

    pub not_now : is_of_cluster v e ≡ true → allowed v e ≡ false → line_step v line ≡ Refuses not_now_rule
    not_now h k =
        ap (step_of v) tells ∙ ap (λ (b : Bool). if b then (if allowed v e then Goes (told v e) (answer (told v e) e) else Refuses not_now_rule) else Refuses unknown_rule) h
        ∙ ap (λ (b : Bool). if b then Goes (told v e) (answer (told v e) e) else Refuses not_now_rule) k

    pub goes : is_of_cluster v e ≡ true → allowed v e ≡ true → line_step v line ≡ Goes (told v e) (answer (told v e) e)
    goes h k =
        ap (step_of v) tells ∙ ap (λ (b : Bool). if b then (if allowed v e then Goes (told v e) (answer (told v e) e) else Refuses not_now_rule) else Refuses unknown_rule) h
        ∙ ap (λ (b : Bool). if b then Goes (told v e) (answer (told v e) e) else Refuses not_now_rule) k

-- nothing changes how long a line may be
pub longest_kept : {N : ℕ} (v : LiveView N) (e : spec.Event) → (told v e).longest ≡ v.longest
longest_kept v (Begin o) = refl
longest_kept v (Deliver from tick bytes) = refl
longest_kept v End = refl
longest_kept v Restart = refl
longest_kept v (Reading c x) = refl
longest_kept v (Ahead j x) = refl

-- ---- a line that is refused, and one that is taken

module _ {N : ℕ} {S : Type 0} (written : S → Option (List ℕ)) (faults : S → ℕ) (v w : LiveView N) (s s' : S) (st : Step N) where
  pub refused : (T : Type 0) (rule : ℕ) (e : Refusal) → st ≡ Refuses rule → w ≡ v → e ≡ refusal_by rule → Takes {T = T} written faults v s w s st (Err e)
  refused T rule e is same says =
      subst (λ (x : Step N). Takes {T = T} written faults v s w s x (Err e)) (sym is)
      (record { stays = same; silent = Keeps-refl (written s); faultless = refl; says = ap (λ (x : Refusal). Err x) says })

  module _ (T U : Type 0) (after : LiveView N) (text : List ℕ) (r : Result T WriteFault) (is : st ≡ Goes after text) (same : w ≡ after) (wrote : Writes (written s) (written s') (faults s) (faults s') text r) where
    pub taken_ok : (t : T) (u : U) → r ≡ Ok t → Takes written faults v s w s' st (Ok u)
    taken_ok t u e =
        let k : Writes {T = T} {E = WriteFault} (written s) (written s') (faults s) (faults s') text (Ok t) = subst (λ (x : Result T WriteFault). Writes (written s) (written s') (faults s) (faults s') text x) e wrote in
        subst (λ (x : Step N). Takes {T = U} written faults v s w s' x (Ok u)) (sym is)
        (record { stands = same; wrote = record { whole = k.whole; prefix = tt; later = k.later; faultless = k.faultless; failed = tt }; fault = tt })

    pub taken_err : (f : WriteFault) → r ≡ Err f → Takes {T = U} written faults v s w s' st (Err Failed)
    taken_err f e =
        let k : Writes {T = T} {E = WriteFault} (written s) (written s') (faults s) (faults s') text (Err f) = subst (λ (x : Result T WriteFault). Writes (written s) (written s') (faults s) (faults s') text x) e wrote in
        subst (λ (x : Step N). Takes {T = U} written faults v s w s' x (Err Failed)) (sym is)
        (record { stands = same; wrote = record { whole = tt; prefix = k.prefix; later = k.later; faultless = tt; failed = k.failed }; fault = refl })

-- nothing is written
pub silent : (T E : Type 0) (old : Option (List ℕ)) (faults : ℕ) (text : List ℕ) (u : T) → text ≡ [] → Writes {T = T} {E = E} old old faults faults text (Ok u)
silent T E old faults text u e = subst (λ (x : List ℕ). Writes {T = T} {E = E} old old faults faults x (Ok u)) (sym e) (finish {T = T} {E = E} old old faults faults [] u (start old faults []))

-- ---- the lines of a period

abbrev pub period_lines : {N : ℕ} → LiveView N → List ℕ
period_lines v = alone_text v.node.phase.period v.id v.scenario.config.nodes v.scenario.config.policy.retire v.node.outcome

module _ {N : ℕ} (v w : LiveView N) (same : v ≡ w) where
  pub lines_are : (period : ℕ) (config : Config N) (outcome : Outcome) → period + 1 ≡ v.next → v.next ≡ v.node.phase.period + 1 → config ≡ v.scenario.config → outcome ≡ v.node.outcome
      → alone_text period v.id config.nodes config.policy.retire outcome ≡ period_lines w
  lines_are period config outcome before next is shown =
      let at : period ≡ v.node.phase.period = omega (arith, before, next) in
      ap (λ p. alone_text p v.id config.nodes config.policy.retire outcome) at
      ∙ ap (λ (y : Config N). alone_text v.node.phase.period v.id y.nodes y.policy.retire outcome) is
      ∙ ap (λ (o : Outcome). alone_text v.node.phase.period v.id v.scenario.config.nodes v.scenario.config.policy.retire o) shown
      ∙ ap (λ (x : LiveView N). period_lines x) same

module _ {N : ℕ} (w : LiveView N) where
  pub with_clock : is_some w.scenario.clock ≡ true → period_lines w ++ correct_text (correction w) ≡ period_answer w
  with_clock e = ap (λ (b : Bool). period_lines w ++ (if b then correct_text (correction w) else [])) (sym e)

  pub without_clock : is_some w.scenario.clock ≡ false → period_lines w ≡ period_answer w
  without_clock e = sym (append-nil (period_lines w)) ∙ ap (λ (b : Bool). period_lines w ++ (if b then correct_text (correction w) else [])) (sym e)

  -- ---- an answer

  pub said : (slot : ℕ) → slot ≡ w.node.phase.slot → is_open w ≡ true → say_text slot (frame_of w.node) ≡ slot_answer w
  said slot at opened = ap (λ t. say_text t (frame_of w.node)) at ∙ sym (if_true {A = List ℕ} (λ xs. xs) (is_open w) _ (period_answer w) opened)

  pub ran : is_open w ≡ false → period_answer w ≡ slot_answer w
  ran shut = sym (if_false {A = List ℕ} (λ xs. xs) (is_open w) (say_text w.node.phase.slot (frame_of w.node)) _ shut)

-- the front of a text failed
pub front_failed : (T U E F : Type 0) (old new : Option (List ℕ)) (a b : ℕ) (xs zs text : List ℕ) (r : Result T E) (e : E) (f : F) → r ≡ Err e → xs ++ zs ≡ text → Writes old new a b xs r → Writes {T = U} {E = F} old new a b text (Err f)
front_failed T U E F old new a b xs zs text r e f is whole h =
    subst (λ t. Writes {T = U} {E = F} old new a b t (Err f)) whole (stop {T = T} {U = U} {E = E} {F = F} old new a b xs zs e (Err f) refl (subst (λ (x : Result T E). Writes old new a b xs x) is h))

-- the front was written, and that is all
pub front_all : (T U E F : Type 0) (old new : Option (List ℕ)) (a b : ℕ) (xs text : List ℕ) (r : Result T E) (u : T) (z : U) → r ≡ Ok u → xs ≡ text → Writes old new a b xs r → Writes {T = U} {E = F} old new a b text (Ok z)
front_all T U E F old new a b xs text r u z is whole h =
    let k : Writes {T = T} {E = E} old new a b xs (Ok u) = subst (λ (x : Result T E). Writes old new a b xs x) is h in
    subst (λ t. Writes {T = U} {E = F} old new a b t (Ok z)) whole (record { whole = k.whole; prefix = tt; later = k.later; faultless = k.faultless; failed = tt })

-- the front was written, and then the rest as it was
pub front_and_rest : (T E : Type 0) (old mid new : Option (List ℕ)) (a b c : ℕ) (xs ys text : List ℕ) (r s : Result T E) (u : T) → r ≡ Ok u → xs ++ ys ≡ text → Writes old mid a b xs r → Writes mid new b c ys s → Writes old new a c text s
front_and_rest T E old mid new a b c xs ys text r s u is whole h k =
    subst (λ t. Writes {T = T} {E = E} old new a c t s) whole
    ((then) {T = T} {E = E} old mid new a b c xs ys u s (subst (λ (x : Result T E). Writes old mid a b xs x) is h) k)

-- so many bytes have room for half as many letters
pub half_holds : (most longest room : ℕ) → room ≡ most / 2 → longest ≡ most → longest ≤ 2 * room + 1
half_holds most longest room is long = omega (arith, is, long)
