-- Tables of what is settled, filled in node by node.
use Rattle.std.proofs.Common.{ℕ, ◌≡◌, ◌≢◌, ◌+◌, ◌<◌, ◌≤◌, List, length, map, length-set, set, replicate, get_or, get_or-set_other, get_or-set_same, ap, ◌∙◌, sym, inl, inr, arith}
use Rattle.std.proofs.lemmas.Bool.{cases_lt, cases_eq}
use Rattle.std.proofs.lemmas.List.{length-map, get_or-map, ext_get_or, length-replicate, get_or-replicate, get_or_past}

-- a table that has below i what a function says, and nothing from there on
pub record IsFilledBelow {X : Type 0} (capacity : ℕ) (nothing : X) (item : ℕ → X) (i : ℕ) (xs : List X) : Type 0 where
  pub wide : length xs ≡ capacity
  pub so_far : (k : ℕ) → k < i → get_or xs k nothing ≡ item k
  pub rest : (k : ℕ) → i ≤ k → get_or xs k nothing ≡ nothing

module _ {X : Type 0} (capacity : ℕ) (nothing : X) (item : ℕ → X) where
  pub settled_none : IsFilledBelow capacity nothing item 0 (replicate capacity nothing)
  settled_none = record {
    wide = length-replicate {A = X} capacity nothing;
    so_far = λ k low. absurd (omega arith);
    rest = λ k high. elim (cases_lt k capacity) [
      | inl within ↦ get_or-replicate capacity k nothing nothing within
      | inr beyond ↦ get_or_past (replicate capacity nothing) k nothing (let l = length-replicate {A = X} capacity nothing in omega arith)
    ];
  }

  pub settled_one : (i : ℕ) (xs ys : List X) (x : X) → i < capacity → ys ≡ set xs i x → x ≡ item i → IsFilledBelow capacity nothing item i xs → IsFilledBelow capacity nothing item (i + 1) ys
  settled_one i xs ys x low put is f =
      let room : i < length xs = (let w = f.wide in omega arith) in
      record {
        wide = ap length put ∙ length-set xs i x ∙ f.wide;
        so_far = λ k l. ap (λ zs. get_or zs k nothing) put ∙ elim (cases_eq k i) [
          | inl e ↦ ap (λ n. get_or (set xs i x) n nothing) e ∙ get_or-set_same xs i x nothing room ∙ is ∙ sym (ap item e)
          | inr ne ↦ get_or-set_other xs i k x nothing ne ∙ f.so_far k (omega arith)
        ];
        rest = λ k h. let ne : k ≢ i = omega arith in ap (λ zs. get_or zs k nothing) put ∙ get_or-set_other xs i k x nothing ne ∙ f.rest k (omega arith);
      }

  pub settled_not : (i : ℕ) (xs ys : List X) → ys ≡ xs → item i ≡ nothing → IsFilledBelow capacity nothing item i xs → IsFilledBelow capacity nothing item (i + 1) ys
  settled_not i xs ys kept is f = record {
    wide = ap length kept ∙ f.wide;
    so_far = λ k l. ap (λ zs. get_or zs k nothing) kept ∙ elim (cases_eq k i) [
      | inl e ↦ f.rest k (omega arith) ∙ sym (ap item e ∙ is)
      | inr ne ↦ f.so_far k (omega arith)
    ];
    rest = λ k h. ap (λ zs. get_or zs k nothing) kept ∙ f.rest k (omega arith);
  }

-- filled up to the capacity it is what the function says of another list
pub filled_all : {X Y : Type 0} (capacity i : ℕ) (nothing : X) (f : Y → X) (ys : List Y) (d : Y) (xs : List X) → length ys ≡ capacity → capacity ≤ i → IsFilledBelow capacity nothing (λ k. f (get_or ys k d)) i xs → xs ≡ map f ys
filled_all capacity i nothing f ys d xs long end filled =
    let w = filled.wide in
    let m = length-map ys f in
    ext_get_or nothing xs (map f ys) (omega (arith, w, m, long)) (λ k low. filled.so_far k (omega (arith, low, w, end)) ∙ sym (get_or-map f ys k d nothing (omega (arith, low, w, long))))
