-- What an answer says of each way to end.
use Rattle.std.proofs.Common.{◌≡◌, ℕ, ◌⊎◌, List, Option, inl, inr, refl, subst}
use Rattle.span_io.specs.Causes.{Rose}
use Rattle.program_words.specs.declared.status.Status.{Status}
use Rattle.program_words.specs.declared.status.Status.TheVariants.{Done, Usage, Unreadable, Refused, ReadFault, WriteFault, NoMemory, TooLong}
use Rattle.top_call.specs.declared.form.Reading.{Reading}
use Rattle.top_call.specs.Answers.{Answers, AnswersStorm}

-- an answer that is this status
pub answers_so : (reading : Reading) (bytes : List ℕ) (old new : Option (List ℕ)) (before now : ℕ) (r s : Status) → Answers reading bytes old new before now r → r ≡ s
    → Answers reading bytes old new before now s
answers_so reading bytes old new before now r s a e = subst (λ (t : Status). Answers reading bytes old new before now t) e a

pub storm_so : (seed : ℕ) (old new : Option (List ℕ)) (before now : ℕ) (r s : Status) → AnswersStorm seed old new before now r → r ≡ s → AnswersStorm seed old new before now s
storm_so seed old new before now r s a e = subst (λ (t : Status). AnswersStorm seed old new before now t) e a

-- the sink is faultless but where its fault is answered, or the line of a refusal was to be written
pub sink_told : (reading : Reading) (bytes : List ℕ) (old new : Option (List ℕ)) (before now : ℕ) (r : Status) → Answers reading bytes old new before now r
    → (r ≡ WriteFault) ⊎ ((r ≡ Refused) ⊎ (now ≡ before))
sink_told reading bytes old new before now Done a = inr (inr a.3)
sink_told reading bytes old new before now WriteFault a = inl refl
sink_told reading bytes old new before now Unreadable a = inr (inr a.2)
sink_told reading bytes old new before now Refused a = inr (inl refl)
sink_told reading bytes old new before now NoMemory a = inr (inr a.1)
sink_told reading bytes old new before now Usage a = absurd a
sink_told reading bytes old new before now ReadFault a = absurd a
sink_told reading bytes old new before now TooLong a = absurd a

pub storm_sink_told : (seed : ℕ) (old new : Option (List ℕ)) (before now : ℕ) (r : Status) → AnswersStorm seed old new before now r
    → (r ≡ WriteFault) ⊎ ((r ≡ Refused) ⊎ (now ≡ before))
storm_sink_told seed old new before now Done a = inr (inr a.3)
storm_sink_told seed old new before now WriteFault a = inl refl
storm_sink_told seed old new before now NoMemory a = inr (inr a.1)
storm_sink_told seed old new before now Unreadable a = absurd a
storm_sink_told seed old new before now Refused a = absurd a
storm_sink_told seed old new before now Usage a = absurd a
storm_sink_told seed old new before now ReadFault a = absurd a
storm_sink_told seed old new before now TooLong a = absurd a

-- where the sink is faultless, a storm is told
pub storm_decided : (seed : ℕ) (old new : Option (List ℕ)) (before now : ℕ) (r : Status) → AnswersStorm seed old new before now r → ¬ Rose before now → (r ≡ Done) ⊎ (r ≡ NoMemory)
storm_decided seed old new before now Done a n = inl refl
storm_decided seed old new before now WriteFault a n = absurd (n a.3)
storm_decided seed old new before now NoMemory a n = inr refl
storm_decided seed old new before now Unreadable a n = absurd a
storm_decided seed old new before now Refused a n = absurd a
storm_decided seed old new before now Usage a n = absurd a
storm_decided seed old new before now ReadFault a n = absurd a
storm_decided seed old new before now TooLong a n = absurd a
