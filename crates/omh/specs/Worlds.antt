-- The premises of the laws can be met: whatever the faulty nodes say, there is a world of it.
use Rattle.std.proofs.Common.{ℕ, ◌≡◌, ◌<◌, true, List, [], ◌∷◌, ◌++◌, length, reverse, refl, sym, ap, ◌∙◌, arith}
use Rattle.std.proofs.lemmas.Bool.{cond-true, cond-false}
use Rattle.std.proofs.lemmas.List.{reverse-append, length-reverse}
use Rattle.omh_paths.specs.declared.wrapped.Wrapped.{Wrapped}
use Rattle.omh_paths.specs.declared.wrapped.Wrapped.TheVariants.{Fault}
use Rattle.omh_paths.specs.Wrapped.{wrapped}
use Rattle.node_grid.specs.declared.class.Class.{Class}
use Rattle.node_grid.specs.Class.{is_nonfaulty, is_silent}
use Rattle.omh.specs.Omh.{told_on, told}
use Rattle.omh.specs.Laws.{EachWorldFits}
use Rattle.node_grid.specs.declared.class.Class.TheVariants.{N, J, B, S, A}

module _ {V : Type 0} (class_of : ℕ → Class) (item : ℕ → V) (lies : ℕ → List ℕ → Wrapped V) where
  says_nonfaulty : (i q : ℕ) (back : List ℕ) → class_of q ≡ N → told class_of item lies i (q ∷ back) ≡ told_on item q back (told class_of item lies q back)
  says_nonfaulty i q back e = cond-true _ _ _ (ap is_nonfaulty e)

  says_silent : (i q : ℕ) (back : List ℕ) → (c : Class) → class_of q ≡ c → is_silent c ≡ true → told class_of item lies i (q ∷ back) ≡ Fault 0
  says_silent i q back N e s = cc
  says_silent i q back J e s = cond-false _ _ _ (ap is_nonfaulty e) ∙ cond-true _ _ _ (ap is_silent e)
  says_silent i q back B e s = cond-false _ _ _ (ap is_nonfaulty e) ∙ cond-true _ _ _ (ap is_silent e)
  says_silent i q back S e s = cc
  says_silent i q back A e s = cc

  says_symmetric : (i q : ℕ) (back : List ℕ) → class_of q ≡ S → told class_of item lies i (q ∷ back) ≡ lies i (q ∷ back)
  says_symmetric i q back e = cond-false _ _ _ (ap is_nonfaulty e) ∙ cond-false _ _ _ (ap is_silent e)

  turned : (i q : ℕ) (path : List ℕ) → told class_of item lies i (reverse (path ++ q ∷ [])) ≡ told class_of item lies i (q ∷ reverse path)
  turned i q path = ap (told class_of item lies i) (reverse-append path (q ∷ []))

  some_on : (was : Wrapped V) (q : ℕ) (back : List ℕ) → 0 < length back → told_on item q back was ≡ wrapped was
  some_on was q [] some = absurd (omega arith)
  some_on was q (p ∷ back) some = refl

  some_back : (was : Wrapped V) (q : ℕ) (path : List ℕ) → 0 < length path → told_on item q (reverse path) was ≡ wrapped was
  some_back was q path some = some_on was q (reverse path) (omega (arith, length-reverse path))

pub each_world_fits : (V : Type 0) → EachWorldFits V
each_world_fits V m members class_of item lies distinct alike = record {
  distinct = distinct;
  full = λ q on n. ap is_nonfaulty n;
  not_full = λ q on n. ap is_nonfaulty n;
  tells = λ q i path n h. says_nonfaulty class_of item lies i q [] n;
  relays = λ path q i some grown n h. turned class_of item lies i q path ∙ says_nonfaulty class_of item lies i q (reverse path) n ∙ some_back class_of item lies (told class_of item lies q (reverse path)) q path some;
  silent = λ front q i path s h. turned class_of item lies i q front ∙ says_silent class_of item lies i q (reverse front) (class_of q) refl s;
  alike = λ front q i j path s hi hj. turned class_of item lies i q front ∙ says_symmetric class_of item lies i q (reverse front) s ∙ alike q i j (reverse front) s
      ∙ sym (says_symmetric class_of item lies j q (reverse front) s) ∙ sym (turned class_of item lies j q front);
}
