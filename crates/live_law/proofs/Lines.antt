-- Lines that tell events do what the events do.
use Rattle.std.proofs.Common.{ℕ, ◌≡◌, List, [], ◌∷◌, map, refl, ap, ◌∙◌, Option, Some}
use Rattle.std.specs.List.{fold}
use Rattle.live_node.specs.Event.{Event, event_of}
use Rattle.live_node.specs.Live.{Step, step_of}
use Rattle.live_node.specs.Live.Step.{Goes, Refuses}
use Rattle.live_law.specs.Events.{behind, step_on, line_on, LiveLinesLaw}

tells : {N : ℕ} (s : Step N) (l : List ℕ) (e : Event) → event_of l ≡ Some e → line_on s l ≡ step_on s e
tells (Goes v text) l e h = ap (λ (o : Option Event). behind text (step_of v o)) h
tells (Refuses rule) l e h = refl

all_tell : {N : ℕ} (s : Step N) (ls : List (List ℕ)) (es : List Event) → map event_of ls ≡ map Some es → fold line_on s ls ≡ fold step_on s es
all_tell s [] [] h = refl
all_tell s [] (e ∷ es) h = absurd (cc)
all_tell s (l ∷ ls) [] h = absurd (cc)
all_tell {N} s (l ∷ ls) (e ∷ es) h =
    ap (λ (t : Step N). fold line_on t ls) (tells s l e (cc)) ∙ all_tell (step_on s e) ls es (cc)

pub lines_law : LiveLinesLaw
lines_law N v ls es h = all_tell (Goes v []) ls es h
