-- What each status says of the devices, and that it is all that is promised of it.
use Rattle.std.proofs.Common.{◌≡◌, ℕ, List, [], Option, None, Some, inl, inr, refl, subst}
use Rattle.std.specs.Prelude.{◌⊎◌, IfSome}
use Rattle.std.specs.Io.KnownBytes.{IsAtEnd}
use Rattle.span_io.specs.Causes.{Rose}
use Rattle.input_lines.specs.Devices.{WritesAll, WritesFront, WritesSome, Devices}
use Rattle.controller.specs.Words.{Calls}
use Rattle.controller.specs.Answers.{HasOutcome, HasPart, IsAnsweredSoFar, Decides, IsDecided, IsStatusOf}
use Rattle.program_words.specs.declared.status.Status.{Status}
use Rattle.program_words.specs.declared.status.Status.TheVariants.{Done, Usage, Unreadable, Refused, ReadFault, WriteFault, NoMemory, TooLong}
use Rattle.controller.proofs.Deciding.{decides, of_told, no_memory}

-- the source failed no more often than before
abbrev pub IsFaultless : Devices → Devices → Type 0
IsFaultless old new = new.source.faults ≡ old.source.faults

-- what a status says, where the words call for a node
abbrev pub Explains : List (List ℕ) → Devices → Devices → Status → Type 0
Explains words old new Usage = ⊥
Explains words old new Done = IsFaultless old new × (text : List ℕ) × HasOutcome words old.source.left Done text × IsAtEnd new.source.left × WritesAll old.sink new.sink text
Explains words old new Unreadable = IsFaultless old new × HasOutcome words old.source.left Unreadable [] × WritesAll old.sink new.sink []
Explains words old new Refused = IsFaultless old new × (text : List ℕ) × HasOutcome words old.source.left Refused text × WritesSome old.sink new.sink text
Explains words old new TooLong = IsFaultless old new × (text : List ℕ) × HasOutcome words old.source.left TooLong text × WritesAll old.sink new.sink text
Explains words old new WriteFault = IsFaultless old new × (text : List ℕ) × HasPart words old.source.left text × WritesFront old.sink new.sink text
Explains words old new ReadFault = Rose old.source.faults new.source.faults × (text : List ℕ) × IsAnsweredSoFar words old.source.left new.source.left text × WritesAll old.sink new.sink text
Explains words old new NoMemory = IsFaultless old new × WritesAll old.sink new.sink []

faultless : (words : List (List ℕ)) (old new : Devices) (status : Status) → Explains words old new status → (status ≡ ReadFault) ⊎ (new.source.faults ≡ old.source.faults)
faultless words old new Usage x = absurd x
faultless words old new Done x = inr x.0
faultless words old new Unreadable x = inr x.0
faultless words old new Refused x = inr x.0
faultless words old new TooLong x = inr x.0
faultless words old new WriteFault x = inr x.0
faultless words old new ReadFault x = inl refl
faultless words old new NoMemory x = inr x.0

sink_faultless : (words : List (List ℕ)) (old new : Devices) (status : Status) → Explains words old new status → (status ≡ WriteFault) ⊎ ((status ≡ Refused) ⊎ (new.sink.faults ≡ old.sink.faults))
sink_faultless words old new Usage x = absurd x
sink_faultless words old new Done x = inr (inr x.4.1)
sink_faultless words old new Unreadable x = inr (inr x.2.1)
sink_faultless words old new Refused x = inr (inl refl)
sink_faultless words old new TooLong x = inr (inr x.3.1)
sink_faultless words old new WriteFault x = inl refl
sink_faultless words old new ReadFault x = inr (inr x.3.1)
sink_faultless words old new NoMemory x = inr (inr x.1.1)

by_outcome : (words : List (List ℕ)) (old new : Devices) (status : Status) (text : List ℕ) → HasOutcome words old.source.left status text → (id : ℕ) × Calls words id × IsDecided id old new status
by_outcome words old new status text o = (o.id, o.calls, λ a b. of_told o.id old.source.left o.bytes status o.input (decides o.id o.bytes status text o.outcome))

for_all : (id : ℕ) (left : Option (List ℕ)) → IfSome left (λ bytes. Decides id bytes NoMemory)
for_all id None = tt
for_all id (Some bytes) = no_memory id bytes

decided : (words : List (List ℕ)) (old new : Devices) (status : Status) (id : ℕ) → Calls words id → Explains words old new status → (id : ℕ) × Calls words id × IsDecided id old new status
decided words old new Usage id calls x = absurd x
decided words old new Done id calls x = by_outcome words old new Done x.1 x.2
decided words old new Unreadable id calls x = by_outcome words old new Unreadable [] x.1
decided words old new Refused id calls x = by_outcome words old new Refused x.1 x.2
decided words old new TooLong id calls x = by_outcome words old new TooLong x.1 x.2
decided words old new WriteFault id calls x = (id, calls, λ a b. absurd (b x.3.1))
decided words old new ReadFault id calls x = (id, calls, λ a b. absurd (a x.0))
decided words old new NoMemory id calls x = (id, calls, λ a b. for_all id old.source.left)

-- what a status says is all that is promised of it
pub explained : (words : List (List ℕ)) (old new : Devices) (status : Status) (id : ℕ) → Calls words id → Explains words old new status → IsStatusOf words old new status
explained words old new status id calls x = record {
  usage = (λ e. absurd (subst (λ (s : Status). Explains words old new s) e x), λ none. absurd (none id calls));
  usage_untouched = λ e. absurd (subst (λ (s : Status). Explains words old new s) e x);
  read_fault = λ e. subst (λ (s : Status). Explains words old new s) e x;
  faults = faultless words old new status x;
  sink_faults = sink_faultless words old new status x;
  too_long = λ e. let y = subst (λ (s : Status). Explains words old new s) e x in (y.1, y.2, y.3);
  unreadable = λ e. let y = subst (λ (s : Status). Explains words old new s) e x in (y.1, y.2);
  refused = λ e. let y = subst (λ (s : Status). Explains words old new s) e x in (y.1, y.2, y.3);
  write_fault = λ e. let y = subst (λ (s : Status). Explains words old new s) e x in (y.1, y.2, y.3);
  no_memory = λ e. (subst (λ (s : Status). Explains words old new s) e x).1;
  done = λ e. let y = subst (λ (s : Status). Explains words old new s) e x in (y.1, y.2, y.3, y.4);
  decided = inr (decided words old new status id calls x);
}
