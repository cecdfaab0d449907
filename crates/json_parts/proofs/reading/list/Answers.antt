use Rattle.std.proofs.Common.{◌≡◌, ℕ, ◌+◌, ◌<◌, ◌≤◌, List, [], ◌∷◌, ◌++◌, length, map, drop, get_or, append-nil, Option, Some, None, Result, Ok, Err, refl, sym, ap, subst, ◌∙◌, arith}
use Rattle.std.specs.Prelude.{option_map, option_and_then}
use Rattle.std.specs.Result.{IsErr, IsErrAnd}
use Rattle.std.proofs.lemmas.List.{drop_all, map-append}
use Rattle.std.proofs.lemmas.Result.{err_from_is_err_and}
use Rattle.serde_json.specs.Data.{Data, Items}
use Rattle.serde_json.specs.Find.{as_array}
use Rattle.std.specs.declared.alloc.Global.{Global}
use Rattle.json.specs.Value.{items_view}
use Rattle.json.specs.declared.value.Value.{Value}
use Rattle.json_parts.specs.Meaning.{view, items_data}
use Rattle.json_parts.specs.declared.error.PartError.{PartError}
use Rattle.json_parts.specs.declared.error.PartError.TheVariants.{NoMemory, NoPart}
use Rattle.json_parts.specs.Part.{Gives}
use Rattle.json_parts.specs.Reading.{each, list_of}
use Rattle.json_parts.proofs.Collect.{after, after-nil, each-some, each-none, drop-here}
use Rattle.json_parts.proofs.reading.list.Goals as goal

-- the items of the list that a value is
items_there : {R X : Type 0} (f : Data → Option X) (d : Data) (shown : R → Items) (o : Option R) (r : R) (items : List (Value Global))
    → option_map shown o ≡ as_array d → o ≡ Some r → items_data (items_view items) ≡ shown r → list_of f d ≡ each f (items_data (items_view items))
items_there f d shown o r items e is same = ap (option_and_then (each f)) (sym e ∙ ap (option_map shown) is) ∙ ap (each f) (sym same)

none_there : {R X : Type 0} (f : Data → Option X) (d : Data) (shown : R → Items) (o : Option R) → option_map shown o ≡ as_array d → o ≡ None → list_of f d ≡ None
none_there f d shown o e is = ap (option_and_then (each f)) (sym e ∙ ap (option_map shown) is)

gives_none : {A X : Type 0} (seen : A → X) (part : Option X) (r : Result A PartError) → IsErr r → part ≡ None → Gives seen part r
gives_none seen part (Ok a) bad none = absurd cc
gives_none seen part (Err NoMemory) bad none = tt
gives_none seen part (Err NoPart) bad none = none

-- the next item is read, or it gives nothing
next : {A X : Type 0} (seen : A → X) (f : Data → Option X) (vs : List (Value Global)) (i : ℕ) (v : Value Global) (found now : List A) (a : A)
    → i < length vs → v ≡ get_or vs i v → f (view v) ≡ Some (seen a) → now ≡ found ++ a ∷ [] → after (map seen found) (each f (items_data (items_view (drop i vs)))) ≡ each f (items_data (items_view vs))
    → after (map seen now) (each f (items_data (items_view (drop (i + 1) vs)))) ≡ each f (items_data (items_view vs))
next seen f vs i v found now a low is e grown so_far =
    ap (λ ys. after (map seen ys) (each f (items_data (items_view (drop (i + 1) vs))))) grown
    ∙ ap (λ xs. after xs (each f (items_data (items_view (drop (i + 1) vs))))) (map-append seen found (a ∷ []))
    ∙ sym (each-some f (drop (i + 1) vs) v (map seen found) (seen a) e)
    ∙ ap (λ ws. after (map seen found) (each f (items_data (items_view ws)))) (sym (drop-here vs i v low is))
    ∙ so_far

unread : {A B X : Type 0} (seen : A → X) (all : B → List X) (f : Data → Option X) (vs : List (Value Global)) (i : ℕ) (v : Value Global) (found : List X) (part : Option (List X)) (y : PartError)
    (r : Result B PartError) → i < length vs → v ≡ get_or vs i v → Gives seen (f (view v)) (Err y)
    → after found (each f (items_data (items_view (drop i vs)))) ≡ each f (items_data (items_view vs)) → part ≡ each f (items_data (items_view vs)) → IsErrAnd r (λ z. z ≡ y) → Gives all part r
unread seen all f vs i v found part y (Ok b) low is given so_far there same = absurd same
unread seen all f vs i v found part y (Err NoMemory) low is given so_far there same = tt
unread seen all f vs i v found part y (Err NoPart) low is given so_far there same =
    let none : f (view v) ≡ None = subst (λ z. Gives seen (f (view v)) (Err z)) (sym same) given in
    there ∙ sym so_far ∙ ap (λ ws. after found (each f (items_data (items_view ws)))) (drop-here vs i v low is) ∙ each-none f (drop (i + 1) vs) v found none

all_read : {X : Type 0} (f : Data → Option X) (vs : List (Value Global)) (i : ℕ) (found : List X) (part : Option (List X)) → length vs ≤ i
    → after found (each f (items_data (items_view (drop i vs)))) ≡ each f (items_data (items_view vs)) → part ≡ each f (items_data (items_view vs)) → part ≡ Some found
all_read f vs i found part past so_far there = there ∙ sym so_far ∙ ap (λ ws. after found (each f (items_data (items_view ws)))) (drop_all i vs past) ∙ ap Some (append-nil found)

pub read-requires : goal.read-requires
read-requires g c = λ k. (refl, tt)

pub bounds-item-items-item-index : goal.bounds-item-items-item-index
bounds-item-items-item-index g c = c.loop-item-test.true

pub offset_bounds-item-items-item-index : goal.offset_bounds-item-items-item-index
offset_bounds-item-items-item-index g c = omega (arith, c.loop-item-test.true, c.deref-item-items.type_inv.1)

pub loop-item-init : goal.loop-item-init
loop-item-init g c = rw c.in_ok-found.ensures.items (after-nil _)

pub loop-item-preserved : goal.loop-item-preserved
loop-item-preserved g c =
    next g.F.Form.seen (g.F.Form.reads c.args.form.now) c.deref-item-items.result.now c.loop-item.item-index c.item-item.result c.loop-item.found.items c.push.new.self.items
    c.in_ok-read.field-0 c.loop-item-test.true c.item-item.is c.in_ok-read.ensures c.in-Ok.ensures.items c.loop-item.invariant

pub loop-item-smaller : goal.loop-item-smaller
loop-item-smaller g c = omega (arith, c.loop-item-test.true)

pub returns-in_err-items : goal.returns-in_err-items
returns-in_err-items g c =
    gives_none _ _ c.from_residual.result c.from_residual.ensures.0
    (none_there (g.F.Form.reads c.args.form.now) _ _ c.items.result c.items.ensures c.in_err-items.ensures.ok_part)

pub returns-in_err-found : goal.returns-in_err-found
returns-in_err-found g c = let p = err_from_is_err_and c.from_residual-in_err-found.result c.from_residual-in_err-found.ensures.1 in rw (p.1, p.2) tt

pub returns-in_err-read : goal.returns-in_err-read
returns-in_err-read g c =
    let f = g.F.Form.reads c.args.form.now in
    let items = c.deref-item-items.result.now in
    unread g.F.Form.seen _ f items c.loop-item.item-index c.item-item.result _ _ c.in_err-read.field-0.0 c.from_residual-in_err-read.result
    c.loop-item-test.true c.item-item.is c.in_err-read.ensures c.loop-item.invariant
    (items_there f _ _ c.items.result _ items c.items.ensures c.in_ok-items.ensures.ok_part (ap (λ vs. items_data (items_view vs)) c.deref-item-items.ensures.value))
    c.from_residual-in_err-read.ensures.1

pub returns-in_default : goal.returns-in_default
returns-in_default g c = tt

pub returns : goal.returns
returns g c =
    let f = g.F.Form.reads c.args.form.now in
    let items = c.deref-item-items.result.now in
    all_read f items c.loop-item.item-index _ _ c.loop-item-test.false c.loop-item.invariant
    (items_there f _ _ c.items.result _ items c.items.ensures c.in_ok-items.ensures.ok_part (ap (λ vs. items_data (items_view vs)) c.deref-item-items.ensures.value))
