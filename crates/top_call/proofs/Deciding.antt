-- What an answer decides.
use Rattle.std.proofs.Common.{◌≡◌, ℕ, ◌<◌, ◌≤◌, List, length, arith, inl, inr, sym, ◌∙◌, ap, subst, Option, Some, None, refl}
use Rattle.std.specs.Prelude.{IfSome}
use Rattle.node_grid.specs.NumberFacts.{nothing_told}
use Rattle.span_io.specs.Causes.{Rose}
use Rattle.scenario_reading.specs.Verdict.{value_refusal, refusal_on}
use Rattle.scenario_reading.specs.Facts.{same_value}
use Rattle.node_alone.specs.Rules.{record_refusal}
use Rattle.program_words.specs.declared.status.Status.{Status}
use Rattle.program_words.specs.declared.status.Status.TheVariants.{Done, Usage, Unreadable, Refused, ReadFault, WriteFault, NoMemory, TooLong}
use Rattle.top_call.specs.declared.form.Reading.{Reading}
use Rattle.top_call.specs.declared.form.Reading.TheVariants.{Scenario, Log}
use Rattle.top_call.specs.Answers.{input_limit, capacity, IsRefused, IsUnreadable, IsAcceptedInput, HasTextOf, Decides, Answers}

-- bytes with a text are accepted
input_of : (reading : Reading) (bytes text : List ℕ) → HasTextOf reading bytes text → IsAcceptedInput reading bytes
input_of (Scenario form) bytes text h = (h.0, h.1)
input_of (Log id) bytes text h = (h.0, h.1)

-- bytes that are accepted are JSON text
readable : (reading : Reading) (bytes : List ℕ) → IsAcceptedInput reading bytes → IsUnreadable bytes → ⊥
readable (Scenario form) bytes h u = u h.1.value h.1.reads
readable (Log id) bytes h u = u h.1.value h.1.reads

-- and no rule refuses them
not_both : (reading : Reading) (bytes : List ℕ) (rule place : ℕ) → IsAcceptedInput reading bytes → IsRefused reading bytes rule place → ⊥
not_both (Scenario form) bytes rule place h r =
    let a = h.1 in
    let same : a.value ≡ r.value = same_value bytes a.value r.value a.reads r.reads in
    let unrefused : value_refusal capacity a.value ≡ None = ap (refusal_on capacity) a.accepted.reads ∙ a.accepted.unrefused in
    nothing_told rule place (sym unrefused ∙ ap (value_refusal capacity) same ∙ r.refused)
not_both (Log id) bytes rule place h r =
    let a = h.1 in
    let same : a.value ≡ r.value = same_value bytes a.value r.value a.reads r.reads in
    nothing_told rule place (sym a.accepted.unrefused ∙ ap (record_refusal capacity id) same ∙ r.refused)

pub no_memory : (reading : Reading) (bytes : List ℕ) (before now : ℕ) → Decides reading bytes before now NoMemory
no_memory reading bytes before now = record {
  too_long = λ h. inr refl;
  unreadable = λ h u. inr refl;
  refused = λ h rule place r. inr refl;
  accepted = λ h a n. inr refl;
}

pub too_long : (reading : Reading) (bytes : List ℕ) (before now : ℕ) → input_limit < length bytes → Decides reading bytes before now TooLong
too_long reading bytes before now long = record {
  too_long = λ h. inl refl;
  unreadable = λ h u. absurd (omega arith);
  refused = λ h rule place r. absurd (omega arith);
  accepted = λ h a n. absurd (omega arith);
}

done : (reading : Reading) (bytes : List ℕ) (before now : ℕ) → length bytes ≤ input_limit → IsAcceptedInput reading bytes → Decides reading bytes before now Done
done reading bytes before now short a = record {
  too_long = λ h. absurd (omega arith);
  unreadable = λ h u. absurd (readable reading bytes a u);
  refused = λ h rule place r. absurd (not_both reading bytes rule place a r);
  accepted = λ h a n. inl refl;
}

write_fault : (reading : Reading) (bytes : List ℕ) (before now : ℕ) → length bytes ≤ input_limit → IsAcceptedInput reading bytes → Rose before now → Decides reading bytes before now WriteFault
write_fault reading bytes before now short a rose = record {
  too_long = λ h. absurd (omega arith);
  unreadable = λ h u. absurd (readable reading bytes a u);
  refused = λ h rule place r. absurd (not_both reading bytes rule place a r);
  accepted = λ h a n. absurd (n rose);
}

refused : (reading : Reading) (bytes : List ℕ) (before now rule place : ℕ) → length bytes ≤ input_limit → IsRefused reading bytes rule place → Decides reading bytes before now Refused
refused reading bytes before now rule place short r = record {
  too_long = λ h. absurd (omega arith);
  unreadable = λ h u. absurd (u r.value r.reads);
  refused = λ h rule place r. inl refl;
  accepted = λ h a n. absurd (not_both reading bytes rule place a r);
}

unreadable : (reading : Reading) (bytes : List ℕ) (before now : ℕ) → length bytes ≤ input_limit → IsUnreadable bytes → Decides reading bytes before now Unreadable
unreadable reading bytes before now short u = record {
  too_long = λ h. absurd (omega arith);
  unreadable = λ h u. inl refl;
  refused = λ h rule place r. absurd (u r.value r.reads);
  accepted = λ h a n. absurd (readable reading bytes a u);
}

-- the answer to the bytes of an input that is not too long
pub answered : (reading : Reading) (bytes : List ℕ) (old new : Option (List ℕ)) (before now : ℕ) (status : Status) → length bytes ≤ input_limit → Answers reading bytes old new before now status → Decides reading bytes before now status
answered reading bytes old new before now Done short a = done reading bytes before now short (input_of reading bytes a.0 a.1)
answered reading bytes old new before now WriteFault short a = write_fault reading bytes before now short (input_of reading bytes a.0 a.1) a.3
answered reading bytes old new before now Unreadable short a = unreadable reading bytes before now short a.0
answered reading bytes old new before now Refused short a = refused reading bytes before now a.0 a.1 short a.2
answered reading bytes old new before now NoMemory short a = no_memory reading bytes before now
answered reading bytes old new before now Usage short a = absurd a
answered reading bytes old new before now ReadFault short a = absurd a
answered reading bytes old new before now TooLong short a = absurd a

-- what holds of the bytes that were read holds of those that were left, where they are told
pub of_known : (reading : Reading) (left : Option (List ℕ)) (bytes : List ℕ) (before now : ℕ) (status : Status) → IfSome left (λ xs. bytes ≡ xs) → Decides reading bytes before now status
    → IfSome left (λ xs. Decides reading xs before now status)
of_known reading None bytes before now status h d = tt
of_known reading (Some xs) bytes before now status h d = subst (λ ys. Decides reading ys before now status) h d
