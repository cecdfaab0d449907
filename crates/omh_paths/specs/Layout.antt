-- A path as its nodes in an array of four places, the rest of which is 0.
use Rattle.std.proofs.Common.{ℕ, suc, ◌≡◌, ◌<◌, ◌≤◌, ◌+◌, ◌-◌, List, [], ◌∷◌, ◌++◌, length, take, drop, get_or, set, replicate, refl, sym, ap, subst, ◌∙◌, arith, false}
use Rattle.std.proofs.lemmas.List.{length-take-le, take_more_set, drop-set-lt, length-set, take-append-drop}
use Rattle.std.proofs.Math.Seq.{drop-cons}
use Rattle.node_grid.specs.NodeSet.{has_id}
use Rattle.node_grid.specs.Count.{Distinct}
use Rattle.omh_paths.specs.PathLaws.{Distinct-push}

-- the path in an array of four places
abbrev pub padded : List ℕ → List ℕ
padded path = path ++ replicate (4 - length path) 0

-- the first len of the nodes are a path, and the others are 0
pub record IsLaidOut (len : ℕ) (nodes : List ℕ) : Type 0 where
  pub some : 0 < len
  pub few : len ≤ 4
  pub whole : length nodes ≡ 4
  pub rest : drop len nodes ≡ replicate (4 - len) 0
  pub distinct : Distinct (take len nodes)

pub length-front : {len : ℕ} {nodes : List ℕ} → IsLaidOut len nodes → length (take len nodes) ≡ len
length-front {len} {nodes} h = let w = h.whole in let f = h.few in length-take-le len nodes (omega arith)

pub padded-front : {len : ℕ} {nodes : List ℕ} → IsLaidOut len nodes → padded (take len nodes) ≡ nodes
padded-front {len} {nodes} h =
    ap (λ (k : ℕ). take len nodes ++ replicate (4 - k) 0) (length-front h) ∙ ap (λ (xs : List ℕ). take len nodes ++ xs) (sym h.rest) ∙ take-append-drop len nodes

pub IsLaidOut-root : (c : ℕ) → IsLaidOut 1 (c ∷ 0 ∷ 0 ∷ 0 ∷ [])
IsLaidOut-root c = record { some = omega arith; few = omega arith; whole = refl; rest = refl; distinct = (refl, tt) }

pub front-more : {len : ℕ} {nodes : List ℕ} (q : ℕ) → IsLaidOut len nodes → len < 4 → take (len + 1) (set nodes len q) ≡ take len nodes ++ q ∷ []
front-more {len} {nodes} q h room = let w = h.whole in let l : len < length nodes = omega arith in take_more_set nodes len q l

pub zeros_after : (len : ℕ) (nodes : List ℕ) → len < length nodes → drop len nodes ≡ replicate (4 - len) 0 → len < 4 → drop (len + 1) nodes ≡ replicate (4 - (len + 1)) 0
zeros_after len nodes l e room =
    let k : 4 - len ≡ suc (4 - (len + 1)) = omega arith in
    let j : len + 1 ≡ suc len = omega arith in
    let d : drop len nodes ≡ get_or nodes len 0 ∷ drop (suc len) nodes = drop-cons nodes len 0 l in
    let f : get_or nodes len 0 ∷ drop (suc len) nodes ≡ 0 ∷ replicate (4 - (len + 1)) 0 = sym d ∙ e ∙ ap (λ (n : ℕ). replicate n 0) k in
    ap (λ (n : ℕ). drop n nodes) j ∙ ap (λ (xs : List ℕ). drop 1 xs) f

pub IsLaidOut-more : {len : ℕ} {nodes : List ℕ} (q : ℕ) → IsLaidOut len nodes → len < 4 → has_id (take len nodes) q ≡ false → IsLaidOut (len + 1) (set nodes len q)
IsLaidOut-more {len} {nodes} q h room off = record {
  some = omega arith;
  few = omega arith;
  whole = length-set nodes len q ∙ h.whole;
  rest = drop-set-lt (len + 1) nodes len q (omega arith) ∙ zeros_after len nodes (omega (arith, h.whole)) h.rest room;
  distinct = subst Distinct (sym (front-more q h room)) (Distinct-push (take len nodes) q h.distinct off);
}
