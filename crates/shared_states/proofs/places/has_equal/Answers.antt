use Rattle.std.proofs.Common.{sym, ap, refl, ◌∙◌, Some}
use Rattle.std.proofs.lemmas.Option.{slice_get_read, same_Some}
use Rattle.shared_states.proofs.SameStates.{same_states, found_same}
use Rattle.shared_states.proofs.places.has_equal.Goals as goal

pub returns-else-one-other : goal.returns-else-one-other
returns-else-one-other g c =
    let states = c.args.states.now in
    let a = c.index-states-one.result in
    let b = c.index-states-other.result in
    let first = slice_get_read states _ c.args.one a refl c.requires.one c.index-states-one.is in
    let second = slice_get_read states _ c.args.other b refl c.requires.other c.index-states-other.is in (
      λ said. first ∙ ap Some (same_states a b (sym c.eq.ensures ∙ said) (record {
        idle_running = λ k. refl;
        idle_passed = refl;
        idle_failed = refl;
        running_idle = λ k. refl;
        running = λ j k. refl;
        running_passed = λ k. refl;
        running_failed = λ k. refl;
        passed_idle = refl;
        passed_running = λ k. refl;
        passed_failed = refl;
        failed_idle = refl;
        failed_running = λ k. refl;
        failed_passed = refl;
      })) ∙ sym second,
      λ same. c.eq.ensures ∙ found_same a b (same_Some a b (sym first ∙ same ∙ second)) (record { idle = refl; running = λ k. refl; passed = refl; failed = refl }),
    )
