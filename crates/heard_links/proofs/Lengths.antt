-- A relay frame that is good has an entry for each path by which it is read.
use Rattle.std.proofs.Common.{ℕ, suc, ◌≡◌, ◌≤◌, List, length, Option, sym, subst, ◌∙◌}
use Rattle.std.proofs.lemmas.List.{length-map}
use Rattle.omh_paths.specs.declared.wrapped.Wrapped.{Wrapped}
use Rattle.omh_paths.specs.Wrapped.{wrapped}
use Rattle.frames.specs.Content.{Content}
use Rattle.frames.specs.Spelling.{IsInRange}
use Rattle.fault_classes.specs.Change.{Change}
use Rattle.protocol.specs.Arrival.{ItemForm}
use Rattle.protocol.specs.Arrival.Arrival.{Good}
use Rattle.protocol.specs.Heard.{paths_of, heard}
use Rattle.protocol.specs.Talk.{arrives, rounds_upto}
use Rattle.protocol.specs.Run.{System}
use Rattle.safety.proofs.Arrivals.{Grammar, arrives_fits}
use Rattle.safety.proofs.Talks.{FormFits, entries_of}
use Rattle.touched_items.specs.Items.{talk_of, EntryForm, AreEntries, Sizes}
use Rattle.heard_links.proofs.Frames.{read_in_range}

pub good_long : (g : Grammar) {V : Type 0} (form : ItemForm V) (cells : EntryForm V) (in_range : Sizes → V → Type 0) → AreEntries form cells in_range
    → (P : V → Type 0) (first : ℕ → ℕ) (tells : System → ℕ → ℕ → V) (sys : System) (p m : ℕ) (fits : FormFits P (talk_of form first tells sys p) m)
    → (k j i : ℕ) → suc k ≤ m → (change : Option Change) (c : Content) (xs : List (Wrapped V))
    → arrives form.relay_in change ((talk_of form first tells sys p).expect (suc k) j ((talk_of form first tells sys p).members i)) ((talk_of form first tells sys p).expect (suc k) j ((talk_of form first tells sys p).members i)) c ≡ Good xs
    → length xs ≡ length (paths_of ((talk_of form first tells sys p).members i) (suc k) j)
good_long g form cells in_range made P first tells sys p m fits k j i low change c xs good =
    let t = talk_of form first tells sys p in
    let e = t.expect (suc k) j (t.members i) in
    let r = arrives_fits g form.relay_in change e e c xs good in
    made.number e xs (subst (IsInRange e) (made.of_entries r.0 xs r.2) r.1).sized
    ∙ sym (made.number e (entries_of t (t.members i) k j) (read_in_range g P form first tells sys p m fits k j i low).sized)
    ∙ length-map (paths_of (t.members i) (suc k) j) (λ path. wrapped (heard (rounds_upto t k j) path))
