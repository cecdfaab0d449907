-- What is seen of the devices of a program that reads lines, and what reads and writes one after another come to.
use Rattle.std.proofs.Common.{◌≡◌, ℕ, List, [], ◌++◌, length-append, arith, append-nil, refl, sym, ◌∙◌, subst, inl, inr, Option, None, Some}
use Rattle.std.specs.Prelude.{◌⊎◌, IfSome}
use Rattle.std.specs.Io.KnownBytes.{Appends, Consumes, Keeps, IsAtEnd}
use Rattle.std.proofs.KnownBytes.{Appends-trans, Appends-nil, Consumes-nil, Consumes-trans}
use Rattle.span_io.specs.Causes.{Rose, AppendsPrefix}
use Rattle.span_io.specs.Progress.{back}
use Rattle.input_lines.specs.Reading.{SourceView, GivesBytes}

-- what is seen of a sink: what was written, and how many faults it counted
pub record SinkView : Type 0 where
  pub written : Option (List ℕ)
  pub faults : ℕ

-- what is seen of a source and a sink
pub record Devices : Type 0 where
  pub source : SourceView
  pub sink : SinkView

-- what is seen of a sink by its kind of sinks, and of a source
abbrev pub sink_seen : {K : Type 0} → (K → Option (List ℕ)) → (K → ℕ) → K → SinkView
sink_seen written faults k = record { written = written k; faults = faults k }

abbrev pub source_seen : {S : Type 0} → (S → Option (List ℕ)) → (S → ℕ) → (S → ℕ) → S → SourceView
source_seen left given faults s = record { left = left s; given = given s; faults = faults s }

abbrev pub devices_seen : {S K : Type 0} → (S → Option (List ℕ)) → (S → ℕ) → (S → ℕ) → (K → Option (List ℕ)) → (K → ℕ) → S → K → Devices
devices_seen left given faults written sink_faults s k = record { source = source_seen left given faults s; sink = sink_seen written sink_faults k }

-- nothing was read or written
pub record IsUntouched (old new : Devices) : Type 0 where
  pub left : Keeps old.source.left new.source.left
  pub given : new.source.given ≡ old.source.given
  pub written : Keeps old.sink.written new.sink.written

-- ---- what is read

-- the bytes of the whole input are these, where the source told what was left
abbrev pub IsInput : Option (List ℕ) → List ℕ → Type 0
IsInput left bytes = IfSome left (λ xs. bytes ≡ xs)

-- what is left, where it is told
abbrev pub told_left : Option (List ℕ) → List ℕ
told_left None = []
told_left (Some xs) = xs

-- the bytes that were read and those that are left are the input
pub input_is : (before now : Option (List ℕ)) (bytes : List ℕ) → Consumes before now bytes → IsInput before (bytes ++ told_left now)
input_is None now bytes h = tt
input_is (Some xs) None bytes h = absurd h
input_is (Some xs) (Some ys) bytes h = sym h

pub nothing_left : (left : Option (List ℕ)) → IsAtEnd left → told_left left ≡ []
nothing_left None h = refl
nothing_left (Some xs) h = h

pub gave_nothing : (a : SourceView) → GivesBytes a a []
gave_nothing a = record { left = Consumes-nil a.left; given = omega arith; faults = refl }

pub gave_both : (a b c : SourceView) (first second : List ℕ) → GivesBytes a b first → GivesBytes b c second → GivesBytes a c (first ++ second)
gave_both a b c first second x y = record {
  left = Consumes-trans a.left b.left c.left first second x.left y.left;
  given = omega (arith, x.given, y.given, length-append first second);
  faults = y.faults ∙ x.faults;
}

pub gave_no_more : (a b c : SourceView) (first : List ℕ) → GivesBytes a b first → GivesBytes b c [] → GivesBytes a c first
gave_no_more a b c first x y = subst (GivesBytes a c) (append-nil first) (gave_both a b c first [] x y)

-- ---- what is written

-- the text was written and no fault was counted
abbrev pub WritesAll : SinkView → SinkView → List ℕ → Type 0
WritesAll old new text = Appends old.written new.written text × (new.faults ≡ old.faults)

-- a prefix of the text was written, and the count of faults rose
abbrev pub WritesFront : SinkView → SinkView → List ℕ → Type 0
WritesFront old new text = AppendsPrefix old.written new.written text × Rose old.faults new.faults

abbrev pub WritesSome : SinkView → SinkView → List ℕ → Type 0
WritesSome old new text = WritesAll old new text ⊎ WritesFront old new text

pub wrote_nothing : (a : SinkView) → WritesAll a a []
wrote_nothing a = (Appends-nil a.written, refl)

pub all_all : (a b c : SinkView) (s t : List ℕ) → WritesAll a b s → WritesAll b c t → WritesAll a c (s ++ t)
all_all a b c s t x y = (Appends-trans a.written b.written c.written s t x.0 y.0, y.1 ∙ x.1)

pub all_front : (a b c : SinkView) (s t : List ℕ) → WritesAll a b s → WritesFront b c t → WritesFront a c (s ++ t)
all_front a b c s t x y = (back a.written b.written c.written s t x.0 y.0, subst (λ n. Rose n c.faults) x.1 y.1)

pub all_some : (a b c : SinkView) (s t : List ℕ) → WritesAll a b s → WritesSome b c t → WritesSome a c (s ++ t)
all_some a b c s t x (inl y) = inl (all_all a b c s t x y)
all_some a b c s t x (inr y) = inr (all_front a b c s t x y)
