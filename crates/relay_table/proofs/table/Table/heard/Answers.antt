use Rattle.std.proofs.Common.{ℕ, ◌≡◌, ◌<◌, ◌≤◌, ◌+◌, ◌-◌, List, map, length, take, drop, sym, ap, ap₂, subst, ◌∙◌, arith}
use Rattle.std.proofs.lemmas.List.{length-map, take-map, drop-map}
use Rattle.omh.specs.Flat.{section_at}
use Rattle.omh_paths.specs.Paths.{path_count}
use Rattle.relay_terms.specs.Terms.{said}
use Rattle.relay_table.specs.Tabled.{IsStation, AreKnown, kept_nodes}
use Rattle.relay_table.proofs.Known.{known_drop, known_take}
use Rattle.relay_table.proofs.Stations.{section_fits, rooms_small, begins_within, end_is}
use Rattle.relay_table.proofs.Tables.{rounds_are, heard_of}
use Rattle.relay_table.proofs.table.Table.heard.Goals as goal

-- a section lies within the terms
within : {capacity nodes rounds me : ℕ} {members others : List ℕ} → IsStation capacity nodes rounds me members others → (count len begins many room : ℕ) → count ≡ length others → 0 < len → len ≤ kept_nodes rounds
    → begins ≡ section_at count (len - 1) → many ≡ path_count count len → room ≡ section_at (nodes - 1) (kept_nodes rounds) → (begins ≡ section_at (length others) (len - 1)) × (many ≡ path_count (length others) len) × (begins + many ≤ room)
within {capacity} {nodes} {rounds} {me} {members} {others} st count len begins many room same some low at is long =
    let b = begins_within count (length others) len begins room same at some (omega (arith, section_fits st len low, long)) in
    let m = end_is count (length others) len many is same in
    (b.0, m, omega (arith, b.1, m))

pub slice_bounds-result-end : goal.slice_bounds-result-end
slice_bounds-result-end g c =
    let inside = c.self.inside in
    let st = c.self.invariant.0.seated in
    let kept = ap kept_nodes (rounds_are inside.station (said inside.own) (map said inside.heard.items) c.args.self.now c.self.view_is st) in
    let w = within st c.len-others.result c.args.len c.section_at-begins.result c.count_paths.result (length inside.heard.items) c.len-others.ensures.count c.requires.some (omega (arith, c.requires.kept, kept)) c.section_at-begins.ensures.begins
    c.count_paths.ensures.product c.self.invariant.1.heard_ok in
    omega (arith, w.2, ap (λ ts. length ts) c.deref.ensures.value)

pub offset_bounds-deref-begins : goal.offset_bounds-deref-begins
offset_bounds-deref-begins g c = let low = slice_bounds-result-end g c in omega arith

pub overflow_add-result : goal.overflow_add-result
overflow_add-result g c = let low = slice_bounds-result-end g c in omega (arith, low, ap (λ ts. length ts) c.deref.ensures.value, c.self.invariant.1.heard_ok, rooms_small c.self.invariant.0.seated)

pub returns : goal.returns
returns g c =
    let inside = c.self.inside in
    let s = inside.station in
    let st = c.self.invariant.0.seated in
    let flat = map said inside.heard.items in
    let begins = c.section_at-begins.result in
    let many = begins + c.count_paths.result - begins in
    let seen = c.deref.result.now in
    let same = ap kept_nodes (rounds_are s (said inside.own) flat c.args.self.now c.self.view_is st) in
    let kept : c.args.len ≤ kept_nodes s.rounds = omega (arith, c.requires.kept, same) in
    let w = within st c.len-others.result c.args.len begins c.count_paths.result (length inside.heard.items) c.len-others.ensures.count c.requires.some kept c.section_at-begins.ensures.begins c.count_paths.ensures.product c.self.invariant.1.heard_ok in
    let all : many ≡ path_count (length s.others) c.args.len = omega (arith, w.1) in
    record {
      heard =
          sym (take-map said many (drop begins seen)) ∙ ap (take many) (sym (drop-map said begins seen))
          ∙ ap (λ ts. take many (drop begins (map said ts))) c.deref.ensures.value
          ∙ ap₂ (λ k b. take k (drop b flat)) all w.0
          ∙ heard_of s (said inside.own) flat c.args.self.now c.self.view_is st c.args.len c.requires.some kept (omega (arith, section_fits st c.args.len kept, c.self.invariant.1.heard_ok, length-map inside.heard.items said));
      known =
          subst AreKnown (take-map said many (drop begins seen))
          (known_take (map said (drop begins seen)) many (known_drop seen begins (subst (λ ts. AreKnown (map said ts)) (sym c.deref.ensures.value) c.self.invariant.1.known)));
    }
