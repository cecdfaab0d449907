-- What was heard for a path is what was put for it last.
use Rattle.std.proofs.Common.{ℕ, ◌≡◌, Bool, List, [], ◌∷◌, ◌++◌, map, reverse, refl, sym, ap, ◌∙◌, inl, inr}
use Rattle.std.specs.Prelude.{if◌then◌else◌}
use Rattle.std.proofs.lemmas.Bool.{cases_Bool, cond-true, cond-false}
use Rattle.std.proofs.lemmas.List.{reverse-append}
use Rattle.omh_paths.specs.declared.wrapped.Wrapped.{Wrapped}
use Rattle.omh_paths.specs.declared.wrapped.Wrapped.TheVariants.{Fault}
use Rattle.omh_paths.specs.Paths.{same_nodes}
use Rattle.omh_paths.specs.Facts.{same_nodes-sym}
use Rattle.omh.specs.Heard.{Entry, entry, heard_in, heard_paths, with_heard}
use Rattle.omh.specs.HeardLaws.{heard_in-at}
use Rattle.omh.specs.Laws.{all_heard, LastPutLaw}

module _ {V : Type 0} where
  -- what was heard, after one value
  after : Entry V → (List ℕ → Wrapped V) → List ℕ → Wrapped V
  after p f path = if same_nodes path p.path then p.value else f path

  one_put : (p : Entry V) (f : List ℕ → Wrapped V) (path : List ℕ) → with_heard p.path p.value (entry f path) ≡ entry (after p f) path
  unfolding after
  one_put p f path = elim (cases_Bool (same_nodes path p.path)) [
    | inl y ↦ cond-true (same_nodes path p.path) (record { path = path; value = p.value }) (entry f path) y ∙ ap (λ (u : Wrapped V). record { path = path; value = u }) (sym (cond-true (same_nodes path p.path) p.value (f path) y))
    | inr n ↦ cond-false (same_nodes path p.path) (record { path = path; value = p.value }) (entry f path) n ∙ ap (λ (u : Wrapped V). record { path = path; value = u }) (sym (cond-false (same_nodes path p.path) p.value (f path) n))
  ]

  put_over : (p : Entry V) (f : List ℕ → Wrapped V) (ps : List (List ℕ)) → map (with_heard p.path p.value) (map (entry f) ps) ≡ map (entry (after p f)) ps
  put_over p f [] = refl
  put_over p f (q ∷ ps) = ap (λ (e : Entry V). e ∷ map (with_heard p.path p.value) (map (entry f) ps)) (one_put p f q) ∙ ap (λ (es : List (Entry V)). entry (after p f) q ∷ es) (put_over p f ps)

  -- the first of these for a path, and else another value
  first_or : List (Entry V) → List ℕ → Wrapped V → Wrapped V
  first_or [] path d = d
  first_or (e ∷ es) path d = if same_nodes e.path path then e.value else first_or es path d

  first_or-heard : (es : List (Entry V)) (path : List ℕ) → first_or es path (Fault 0) ≡ heard_in es path
  unfolding first_or
  first_or-heard [] path = refl
  first_or-heard (e ∷ es) path = ap (λ (u : Wrapped V). if same_nodes e.path path then e.value else u) (first_or-heard es path)

  first_or-push : (es : List (Entry V)) (p : Entry V) (path : List ℕ) (d : Wrapped V) → first_or (es ++ p ∷ []) path d ≡ first_or es path (if same_nodes p.path path then p.value else d)
  unfolding first_or
  first_or-push [] p path d = refl
  first_or-push (e ∷ es) p path d = ap (λ (u : Wrapped V). if same_nodes e.path path then e.value else u) (first_or-push es p path d)

  reverse_cons : (p : Entry V) (puts : List (Entry V)) → reverse (p ∷ puts) ≡ reverse puts ++ p ∷ []
  reverse_cons p puts = reverse-append (p ∷ []) puts

  all_put : (puts : List (Entry V)) (f : List ℕ → Wrapped V) (ps : List (List ℕ)) → all_heard puts (map (entry f) ps) ≡ map (entry (λ path. first_or (reverse puts) path (f path))) ps
  unfolding first_or after
  all_put [] f ps = refl
  all_put (p ∷ puts) f ps =
      ap (all_heard puts) (put_over p f ps) ∙ all_put puts (after p f) ps
      ∙ ap (λ (g : List ℕ → Wrapped V). map (entry g) ps) (λ i path. last path i)
    where
      last : (path : List ℕ) → first_or (reverse puts) path (after p f path) ≡ first_or (reverse (p ∷ puts)) path (f path)
      last path =
          ap (λ (b : Bool). first_or (reverse puts) path (if b then p.value else f path)) (same_nodes-sym path p.path)
          ∙ sym (first_or-push (reverse puts) p path (f path)) ∙ ap (λ (es : List (Entry V)). first_or es path (f path)) (sym (reverse_cons p puts))

pub last_put_law : (V : Type 0) → LastPutLaw V
last_put_law V members me rounds d puts path real some off =
    ap (λ (es : List (Entry V)). heard_in es path) (all_put puts (λ q. Fault 0) (heard_paths members me rounds))
    ∙ heard_in-at (λ q. first_or (reverse puts) q (Fault 0)) members me rounds path d
    (record { distinct = real.distinct; within = real.within; other = off; some = some; short = real.short })
    ∙ first_or-heard (reverse puts) path
