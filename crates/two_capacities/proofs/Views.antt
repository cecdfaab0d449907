-- A node's period with places for further nodes.
use Rattle.std.proofs.Common.{ℕ, zero, suc, ◌≡◌, ◌≤◌, ◌+◌, Bool, true, false, not, ◌&&◌, ◌||◌, ◌==◌, List, ◌∷◌, ◌++◌, map, length, replicate, get_or, Option, None, Some, refl, sym, ap, ◌∙◌, arith, le-ltb}
use Rattle.std.proofs.Math.Path.{fun_ext}
use Rattle.std.specs.Prelude.{if◌then◌else◌, nat_lt, nat_eq, ℤ, pos}
use Rattle.std.specs.List.{list_any, filter_map}
use Rattle.std.specs.Option.{option_map}
use Rattle.std.specs.Int.{bit_at}
use Rattle.std.specs.Cmp.Lexicographic.{pointwise}
use Rattle.std.proofs.lemmas.List.{length-map, length-replicate, map-append, replicate-append-replicate}
use Rattle.node_grid.specs.NodeSet.{ids_below, ids_where, has_id, mask_of}
use Rattle.node_grid.specs.Version.{kind_count}
use Rattle.node_grid.specs.Kinds.{no_claim, equivocate}
use Rattle.node_grid.specs.NodeSetLaws.{hasnt-filter, filter_every}
use Rattle.omh_paths.specs.declared.wrapped.Wrapped.{Wrapped}
use Rattle.omh_paths.specs.declared.wrapped.Wrapped.TheVariants.{Plain, Fault}
use Rattle.mme_vote.specs.declared.channel.Channel.{Channel}
use Rattle.mme_vote.specs.declared.channel.Channel.TheVariants.{State, Sensor, Copy}
use Rattle.mme_vote.specs.Channel.{delta_of, is_judged}
use Rattle.mme_vote.specs.Vote.{vote_of}
use Rattle.list_scheduler.specs.Copies.{CopyTable, copy_at, is_passed}
use Rattle.list_scheduler.specs.declared.copies.CopyState.{CopyState}
use Rattle.list_scheduler.specs.declared.schedule.Verdict.{Verdict}
use Rattle.list_scheduler.specs.Schedule.{claim_of, verdict, finished, copies_completed, copies_after}
use Rattle.error_reports.specs.Charge.{charged_mask}
use Rattle.membership.specs.Members.{Standing, standing_after}
use Rattle.agreed_state.specs.declared.config.Config.{Config}
use Rattle.agreed_state.specs.declared.config.Inputs.{Inputs}
use Rattle.agreed_state.specs.Agreed.{AgreedView, first_agreed, standing_by, agreed_after, finished_now, passed_after}
use Rattle.agreed_state.specs.Body.{body}
use Rattle.agreed_state.specs.Adoption.{adopted}
use Rattle.protocol.specs.Arrival.{Arrival, is_bad}
use Rattle.protocol.specs.Heard.{rounds_bad}
use Rattle.protocol.specs.Settled.{ear_of, plain, settled_items}
use Rattle.omh.specs.Omh.{settled_from}
use Rattle.protocol.specs.View.{Setting, channel_room, Kept, nothing, first_kept, Received, content, bodies_for, adopted_by, synced_by, claim_at, own_claim, as_claim, claims_settled, channel, no_channel, is_due, due_channels, own_from, own_value, own_values, value_from, voters, lies_tolerated, votes_on, is_far, value_in, value_at, deviates, other_body, by_kind, is_further, noted, row_by, empty_row, carried_by, View, through, cold_view, joined, view_from, opened}
use Rattle.protocol.specs.View.Mode.{Full, Joining}
use Rattle.protocol.specs.FurtherKinds.{convicts_member}
use Rattle.two_capacities.specs.Wider.{wide, wide_copies, wide_rows, wide_standing, wide_channel, wide_config, wide_agreed, setting_of, wide_claims, wide_kept, wide_view}
use Rattle.two_capacities.proofs.Lists.{get_padded, get_mapped, tab_padded, where_longer, wide_long, get_wide, tab_wide, eq_wide}
use Rattle.two_capacities.proofs.Copies.{copies_wide, AreBelow, works_same, finished_same, verdict_same, after_wide, after_narrow, done_wide, first_wide, first_narrow}
use Rattle.two_capacities.proofs.Standings.{mask_wide, standing_wide, first_standing_wide}
use Rattle.two_capacities.proofs.Bodies.{same_agreed, IsBelow, IsBelowIf, body_wide, adopted_below, adopted_wide}
use Rattle.two_capacities.proofs.Settling.{each_round, rounds_each, convicts_each, items_each}

-- ---- what all nodes run under, and what a node keeps, receives and believes

abbrev pub wide_received : ℕ → ℕ → Received → Received
wide_received n k x = record { sync = x.sync; done = x.done; values = x.values; report = each_round (wide n k) x.report }

pub same_kept : {a a' : Option AgreedView} {b b' : List ℕ} {v o : List (Option ℤ)} → a ≡ a' → b ≡ b' → (let x : Kept = record { state = a; carried = b; votes = v; owns = o } in x) ≡ record { state = a'; carried = b'; votes = v; owns = o }
same_kept {a} {a'} {b} {b'} {v} {o} e f =
    ap (λ y. let x : Kept = record { state = y; carried = b; votes = v; owns = o } in x) e ∙ ap (λ y. let x : Kept = record { state = a'; carried = y; votes = v; owns = o } in x) f

-- a view of a node that goes through the period
abbrev viewed : Bool → AgreedView → List ℕ → List (Wrapped ℕ) → List ℕ → List (Option ℤ) → List (Option ℤ) → List ℕ → List (Option (List ℕ)) → AgreedView → List ℕ → View
viewed full a sync done due own votes found rows after carried = record {
  mode = if full then Full else Joining;
  before = Some a;
  sync = sync;
  done = done;
  due = due;
  own = own;
  votes = votes;
  found = found;
  rows = rows;
  kept = record { state = Some after; carried = carried; votes = votes; owns = own };
}

same_viewed : (full : Bool) (a : AgreedView) (s : List ℕ) {d d' : List (Wrapped ℕ)} {u u' : List ℕ} {o o' v v' : List (Option ℤ)} {f f' : List ℕ} {r r' : List (Option (List ℕ))} {t t' : AgreedView} {y y' : List ℕ}
    → d ≡ d' → u ≡ u' → o ≡ o' → v ≡ v' → f ≡ f' → r ≡ r' → t ≡ t' → y ≡ y' → viewed full a s d u o v f r t y ≡ viewed full a s d' u' o' v' f' r' t' y'
same_viewed full a s {d} {d'} {u} {u'} {o} {o'} {v} {v'} {f} {f'} {r} {r'} {t} {t'} {y} {y'} ed eu eo ev ef er et ey =
    ap (λ x. viewed full a s x u o v f r t y) ed
    ∙ ap (λ x. viewed full a s d' x o v f r t y) eu
    ∙ ap (λ x. viewed full a s d' u' x v f r t y) eo
    ∙ ap (λ x. viewed full a s d' u' o' x f r t y) ev
    ∙ ap (λ x. viewed full a s d' u' o' v' x r t y) ef
    ∙ ap (λ x. viewed full a s d' u' o' v' f' x t y) er
    ∙ ap (λ x. viewed full a s d' u' o' v' f' r' x y) et
    ∙ ap (λ x. viewed full a s d' u' o' v' f' r' t' x) ey

pub zeros_wide : (c n k : ℕ) → n ≤ c → replicate (c + k) 0 ≡ wide n k (replicate c 0)
zeros_wide c n k h = sym (replicate-append-replicate c k 0) ∙ sym (wide_long n k (replicate c 0) (omega (arith, length-replicate {A = ℕ} c 0)))

none_where : (f : ℕ → Bool) (n c : ℕ) → n ≤ c → AreBelow c (ids_where f n)
none_where f n c h q l = hasnt-filter f n q (omega arith)

none_below : (n c : ℕ) → n ≤ c → AreBelow c (ids_below n)
none_below n c h q l = ap (λ xs. has_id xs q) (sym (filter_every (λ j. true) 0 n (λ j a b. refl))) ∙ hasnt-filter (λ j. true) n q (omega arith)

module _ (c k : ℕ) (g : Config c) (few : g.nodes ≤ c) (few_graph : g.graph.nodes ≤ c) where
  -- ---- what a node begins with

  pub nothing_wide : nothing (setting_of (wide_config k g)) ≡ wide_kept g.nodes k (nothing (setting_of g))
  nothing_wide = same_kept refl (zeros_wide c g.nodes k few)

  pub opened_wide : (restarts : Bool) (x : Kept) → opened (setting_of (wide_config k g)) restarts (wide_kept g.nodes k x) ≡ wide_kept g.nodes k (opened (setting_of g) restarts x)
  opened_wide true x = nothing_wide
  opened_wide false x = refl

  first_wide_agreed : first_agreed (c + k) (wide_config k g) ≡ wide_agreed g.nodes k (first_agreed c g)
  unfolding first_agreed
  first_wide_agreed = same_agreed (first_standing_wide c g.nodes k few) (first_wide c k g.graph (ids_below g.nodes) (none_below g.nodes c few))

  pub first_kept_wide : first_kept (setting_of (wide_config k g)) ≡ wide_kept g.nodes k (first_kept (setting_of g))
  first_kept_wide = same_kept (ap Some first_wide_agreed) (zeros_wide c g.nodes k few)

  pub first_below : IsBelow c (first_agreed c g)
  unfolding first_agreed
  first_below = record { members = none_below g.nodes c few; copies = first_narrow c k g.graph (ids_below g.nodes) }

  -- ---- adoption

  bodies_padded : (i : ℕ) (sync : ℕ → Arrival (List ℕ)) → bodies_for (setting_of (wide_config k g)) i sync ≡ bodies_for (setting_of g) i sync ++ replicate k None
  bodies_padded i sync = tab_padded _ _ None c k (λ j l. refl) (λ j l. ap (λ b. if b && not (j == i) then content (sync j) else None) (le-ltb j g.nodes (omega arith)))

  pub adopted_by_wide : (i : ℕ) (sync : ℕ → Arrival (List ℕ)) → adopted_by (setting_of (wide_config k g)) i sync ≡ option_map (wide_agreed g.nodes k) (adopted_by (setting_of g) i sync)
  unfolding adopted_by
  adopted_by_wide i sync = ap (adopted (c + k) (wide_config k g)) (bodies_padded i sync) ∙ adopted_wide c k g few few_graph (bodies_for (setting_of g) i sync)

  pub adopted_by_below : (i : ℕ) (sync : ℕ → Arrival (List ℕ)) → IsBelowIf c (adopted_by (setting_of g) i sync)
  unfolding adopted_by
  adopted_by_below i sync = adopted_below c k g few few_graph (bodies_for (setting_of g) i sync)

  -- ---- claims

  pub own_claim_wide : (i : ℕ) (inp : Inputs) (a : AgreedView) → own_claim i inp (wide_agreed g.nodes k a) ≡ own_claim i inp a
  own_claim_wide i inp a = ap (λ w. if has_id a.standing.members i then claim_at inp.run w else no_claim) (works_same (wide_copies k a.copies) a.copies (copies_wide k a.copies) i)

  none_claimed : (j : ℕ) → map as_claim (replicate j None) ≡ replicate j (Fault 0)
  none_claimed zero = refl
  none_claimed (suc j) = ap (λ xs. Fault 0 ∷ xs) (none_claimed j)

  pub claims_wide : (i : ℕ) (full : Bool) (a : AgreedView) (inp : Inputs) (x : Received) → AreBelow c a.standing.members
      → claims_settled (setting_of (wide_config k g)) i full (wide_agreed g.nodes k a) inp (wide_received g.nodes k x) ≡ wide_claims k (claims_settled (setting_of g) i full a inp x)
  unfolding claims_settled
  claims_wide i full a inp x below =
      ap (λ own. map as_claim (settled_items nat_eq (c + k) g.m i full a.standing.members x.done own)) (own_claim_wide i inp a)
      ∙ ap (map as_claim) (tab_padded _ _ None c k (λ j l. refl) (λ q l. ap (λ b. if b then plain (settled_from nat_eq (ear_of g.m i full a.standing.members x.done) (Plain (own_claim i inp a)) q) else None) (below q l)))
      ∙ map-append as_claim (settled_items nat_eq c g.m i full a.standing.members x.done (own_claim i inp a)) (replicate k None)
      ∙ ap (λ xs. map as_claim (settled_items nat_eq c g.m i full a.standing.members x.done (own_claim i inp a)) ++ xs) (none_claimed k)

  claim_wide : (done : List (Wrapped ℕ)) (q : ℕ) → claim_of (wide_claims k done) q ≡ claim_of done q
  claim_wide done q = get_padded done k (Fault 0) q

  -- ---- channels

  channel_wide : (j : ℕ) → channel (setting_of (wide_config k g)) j ≡ wide_channel k (channel (setting_of g) j)
  channel_wide j = get_mapped (wide_channel k) g.channels.items j no_channel

  completed_wide : (a : AgreedView) → IsBelow c a → (done : List (Wrapped ℕ)) → copies_completed (c + k) g.graph a.standing.members (wide_copies k a.copies) (wide_claims k done) ≡ wide_copies k (copies_completed c g.graph a.standing.members a.copies done)
  completed_wide a below done = done_wide c k g.graph a.standing.members a.copies (wide_claims k done) done below.members (claim_wide done) below.copies

  module _ (a : AgreedView) (below : IsBelow c a) (done : List (Wrapped ℕ)) where
    now_wide : (t : ℕ) → finished_now (c + k) (wide_config k g) (wide_agreed g.nodes k a) (wide_claims k done) t ≡ finished_now c g a done t
    now_wide t =
        ap (λ b. not b && finished g.graph (copies_completed (c + k) g.graph a.standing.members (wide_copies k a.copies) (wide_claims k done)) t) (finished_same (wide_copies k a.copies) a.copies (copies_wide k a.copies) g.graph t)
        ∙ ap (λ (z : CopyTable). not (finished g.graph a.copies t) && finished g.graph z t) (completed_wide a below done)
        ∙ ap (λ b. not (finished g.graph a.copies t) && b)
        (finished_same (wide_copies k (copies_completed c g.graph a.standing.members a.copies done)) (copies_completed c g.graph a.standing.members a.copies done) (copies_wide k (copies_completed c g.graph a.standing.members a.copies done)) g.graph t)

    due_wide : (ch : Channel c) → is_due (setting_of (wide_config k g)) (wide_agreed g.nodes k a) (wide_claims k done) (wide_channel k ch) ≡ is_due (setting_of g) a done ch
    due_wide (State delta start step) = refl
    due_wide (Sensor delta None) = refl
    due_wide (Sensor delta (Some t)) = now_wide t
    due_wide (Copy delta t lies) = now_wide t

    pub channels_wide : due_channels (setting_of (wide_config k g)) (wide_agreed g.nodes k a) (wide_claims k done) ≡ due_channels (setting_of g) a done
    channels_wide =
        ap (λ (f : ℕ → Bool). ids_where f (length (map (wide_channel k) g.channels.items)))
        (fun_ext (λ j. ap (is_due (setting_of (wide_config k g)) (wide_agreed g.nodes k a) (wide_claims k done)) (channel_wide j) ∙ due_wide (channel (setting_of g) j)))
        ∙ ap (ids_where (λ j. is_due (setting_of g) a done (channel (setting_of g) j))) (length-map g.channels.items (wide_channel k))

  -- ---- own values and votes

  own_from_wide : (i p : ℕ) (inp : Inputs) (x : Kept) (j : ℕ) (ch : Channel c) → own_from i p inp (wide_kept g.nodes k x) j (wide_channel k ch) ≡ own_from i p inp x j ch
  own_from_wide i zero inp x j (State delta start step) = get_padded start k (pos 0) i
  own_from_wide i (suc p) inp x j (State delta start step) = refl
  own_from_wide i zero inp x j (Sensor delta task) = refl
  own_from_wide i (suc p) inp x j (Sensor delta task) = refl
  own_from_wide i zero inp x j (Copy delta task lies) = refl
  own_from_wide i (suc p) inp x j (Copy delta task lies) = refl

  own_value_wide : (i p : ℕ) (inp : Inputs) (x : Kept) (j : ℕ) → own_value (setting_of (wide_config k g)) i p inp (wide_kept g.nodes k x) j ≡ own_value (setting_of g) i p inp x j
  unfolding own_value
  own_value_wide i p inp x j = ap (own_from i p inp (wide_kept g.nodes k x) j) (channel_wide j) ∙ own_from_wide i p inp x j (channel (setting_of g) j)

  pub own_wide : (i p : ℕ) (inp : Inputs) (x : Kept) → own_values (setting_of (wide_config k g)) i p inp (wide_kept g.nodes k x) ≡ own_values (setting_of g) i p inp x
  own_wide i p inp x =
      ap (λ n. map (λ j. if nat_lt j n then Some (own_value (setting_of (wide_config k g)) i p inp (wide_kept g.nodes k x) j) else None) (ids_below channel_room)) (length-map g.channels.items (wide_channel k))
      ∙ ap (λ (f : ℕ → ℤ). map (λ j. if nat_lt j (length g.channels.items) then Some (f j) else None) (ids_below channel_room)) (fun_ext (own_value_wide i p inp x))

  module _ (a : AgreedView) (below : IsBelow c a) (done : List (Wrapped ℕ)) where
    passed_wide : (t : ℕ) → passed_after (c + k) (wide_config k g) (wide_agreed g.nodes k a) (wide_claims k done) t ≡ passed_after c g a done t
    passed_wide t =
        let after : CopyTable = copies_completed c g.graph a.standing.members a.copies done in
        ap (λ (z : CopyTable). ids_where (λ q. has_id a.standing.members q && is_passed (copy_at z t q)) (c + k)) (completed_wide a below done)
        ∙ ap (λ (z : ℕ → ℕ → CopyState). ids_where (λ q. has_id a.standing.members q && is_passed (z t q)) (c + k)) (copies_wide k after)
        ∙ where_longer (λ q. has_id a.standing.members q && is_passed (copy_at after t q)) c k (λ q l. ap (λ b. b && is_passed (copy_at after t q)) (below.members q l))

    pub votes_wide : (i : ℕ) (full : Bool) (due : List ℕ) (own : List (Option ℤ)) (x : Received)
        → votes_on (setting_of (wide_config k g)) i full (wide_agreed g.nodes k a) (wide_claims k done) due own (wide_received g.nodes k x) ≡ votes_on (setting_of g) i full a done due own x
    unfolding votes_on
    votes_wide i full due own x =
        ap (λ (f : ℕ → Option ℤ). map (λ j. if has_id due j then f j else None) (ids_below channel_room))
        (fun_ext (λ j.
        ap (λ (ch : Channel (c + k)). vote_of (filter_map (value_from i full due own x j) (voters (setting_of (wide_config k g)) (wide_agreed g.nodes k a) (wide_claims k done) ch)) (lies_tolerated (setting_of (wide_config k g)) ch)) (channel_wide j)
        ∙ by j (channel (setting_of g) j)))
      where
        by : (j : ℕ) (ch : Channel c)
            → vote_of (filter_map (value_from i full due own x j) (voters (setting_of (wide_config k g)) (wide_agreed g.nodes k a) (wide_claims k done) (wide_channel k ch))) (lies_tolerated (setting_of (wide_config k g)) (wide_channel k ch))
            ≡ vote_of (filter_map (value_from i full due own x j) (voters (setting_of g) a done ch)) (lies_tolerated (setting_of g) ch)
        by j (State delta start step) = refl
        by j (Sensor delta task) = refl
        by j (Copy delta t lies) = ap (λ ms. vote_of (filter_map (value_from i full due own x j) ms) lies) (passed_wide t)

  -- ---- a node's own row

  far_wide : (ch : Channel c) (value vote : Option ℤ) → (is_judged (wide_channel k ch) && is_far (delta_of (wide_channel k ch)) value vote) ≡ (is_judged ch && is_far (delta_of ch) value vote)
  far_wide (State delta start step) value vote = refl
  far_wide (Sensor delta task) value vote = refl
  far_wide (Copy delta task lies) value vote = refl

  deviates_wide : (due : List ℕ) (votes : List (Option ℤ)) (x : Received) (j : ℕ) → deviates (setting_of (wide_config k g)) due votes (wide_received g.nodes k x) j ≡ deviates (setting_of g) due votes x j
  deviates_wide due votes x j =
      ap (λ (f : ℕ → Bool). list_any f due)
      (fun_ext (λ ch.
      ap (λ (z : Channel (c + k)). is_judged z && is_far (delta_of z) (value_in due (x.values j) ch) (value_at votes ch)) (channel_wide ch)
      ∙ far_wide (channel (setting_of g) ch) (value_in due (x.values j) ch) (value_at votes ch)))

  noted_wide : (i : ℕ) (a : AgreedView) (y : Kept) (done : List (Wrapped ℕ)) (due : List ℕ) (votes : List (Option ℤ)) (x : Received) (j kd : ℕ)
      → noted (setting_of (wide_config k g)) i (wide_agreed g.nodes k a) (wide_kept g.nodes k y) (wide_claims k done) due votes (wide_received g.nodes k x) j kd
      ≡ noted (setting_of g) i a y done due votes x j kd
  unfolding noted
  noted_wide i a y done due votes x j kd =
      let told = λ (mask : ℕ) (own : List ℕ) (v : Verdict) (far : Bool).
      is_bad (x.sync j) kd || (rounds_bad g.m x.done j kd || (is_bad (x.values j) kd || ((bit_at mask kd == 1) || (((kd == equivocate && convicts_member nat_eq (ear_of g.m i true a.standing.members x.done) j) && is_further kd)
      || by_kind (other_body own (x.sync j)) v.claim v.overrun far kd)))) in
      ap (λ z. told z (body (wide_config k g) (wide_agreed g.nodes k a)) (verdict g.graph a.standing.members (wide_copies k a.copies) (wide_claims k done) j) (deviates (setting_of (wide_config k g)) due votes (wide_received g.nodes k x) j)) (get_wide g.nodes k y.carried j)
      ∙ ap (λ z. told (get_or y.carried j 0) z (verdict g.graph a.standing.members (wide_copies k a.copies) (wide_claims k done) j) (deviates (setting_of (wide_config k g)) due votes (wide_received g.nodes k x) j)) (body_wide c k g a)
      ∙ ap (λ z. told (get_or y.carried j 0) (body g a) z (deviates (setting_of (wide_config k g)) due votes (wide_received g.nodes k x) j)) (verdict_same (wide_copies k a.copies) a.copies (copies_wide k a.copies) g.graph a.standing.members (wide_claims k done) done (claim_wide done) j)
      ∙ ap (told (get_or y.carried j 0) (body g a) (verdict g.graph a.standing.members a.copies done j)) (deviates_wide due votes x j)

  row_wide : (i : ℕ) (f f' : ℕ → ℕ → Bool) → f' ≡ f → row_by (setting_of (wide_config k g)) i f' ≡ wide g.nodes k (row_by (setting_of g) i f)
  unfolding row_by
  row_wide i f f' e =
      ap (row_by (setting_of (wide_config k g)) i) e
      ∙ tab_wide g.nodes k _ _ c few (λ j l. refl) (λ j l. ap (λ b. if b && not (j == i) then mask_of (ids_where (f j) (kind_count g.version)) else 0) (le-ltb j g.nodes (omega arith)))

  found_wide : (i : ℕ) (full : Bool) (f f' : ℕ → ℕ → Bool) → f' ≡ f
      → (if full then row_by (setting_of (wide_config k g)) i f' else empty_row (setting_of (wide_config k g))) ≡ wide g.nodes k (if full then row_by (setting_of g) i f else empty_row (setting_of g))
  found_wide i true f f' e = row_wide i f f' e
  found_wide i false f f' e = zeros_wide c g.nodes k few

  carried_wide : (i : ℕ) (full : Bool) (a : AgreedView) (x : Received) → carried_by (setting_of (wide_config k g)) i full (wide_agreed g.nodes k a) (wide_received g.nodes k x) ≡ wide g.nodes k (carried_by (setting_of g) i full a x)
  carried_wide i full a x = row_wide i _ _ (fun_ext (λ j. fun_ext (λ kd.
      ap (λ b. b || ((kd == equivocate && convicts_member (pointwise ◌==◌) (ear_of g.m i full a.standing.members (each_round (wide g.nodes k) x.report)) j) && is_further kd)) (rounds_each (wide g.nodes k) g.m x.report j kd)
      ∙ ap (λ b. rounds_bad g.m x.report j kd || ((kd == equivocate && (has_id a.standing.members j && b)) && is_further kd))
      (convicts_each (wide g.nodes k) (pointwise ◌==◌) (pointwise ◌==◌) (eq_wide g.nodes k) g.m i full a.standing.members x.report j))))

  -- ---- the state after a period

  standing_below : (s : Standing) (charge : ℕ → ℕ) → AreBelow c (standing_after g.policy g.nodes charge s).members
  unfolding standing_after
  standing_below s charge = none_where _ g.nodes c few

  pub after_below : (p : ℕ) (a : AgreedView) (done : List (Wrapped ℕ)) (rows : List (Option (List ℕ))) → IsBelow c (agreed_after c g p a done rows)
  unfolding agreed_after
  after_below p a done rows = record { members = standing_below a.standing (charged_mask rows a.standing.members); copies = after_narrow c k g.graph g.frame p a.standing.members _ a.copies done }

  agreed_wide : (p : ℕ) (a : AgreedView) → IsBelow c a → (done : List (Wrapped ℕ)) (rows : List (Option (List ℕ)))
      → agreed_after (c + k) (wide_config k g) p (wide_agreed g.nodes k a) (wide_claims k done) (wide_rows g.nodes k rows) ≡ wide_agreed g.nodes k (agreed_after c g p a done rows)
  unfolding agreed_after
  agreed_wide p a below done rows =
      let after : Standing = standing_by g.policy g.nodes rows a.standing in
      let step : standing_by g.policy g.nodes (wide_rows g.nodes k rows) (wide_standing g.nodes k a.standing) ≡ wide_standing g.nodes k after =
      standing_wide g.policy g.nodes k a.standing (charged_mask rows a.standing.members) (charged_mask (wide_rows g.nodes k rows) a.standing.members) (mask_wide g.nodes k rows a.standing.members) in
      same_agreed step
      (ap (λ (s : Standing). copies_after (c + k) g.graph g.frame p a.standing.members s.members (wide_copies k a.copies) (wide_claims k done)) step
      ∙ after_wide c k g.graph g.frame p a.standing.members after.members a.copies (wide_claims k done) done below.members (standing_below a.standing (charged_mask rows a.standing.members)) (claim_wide done) below.copies)

  -- ---- a period

  pub through_wide : (i p : ℕ) (inp : Inputs) (y : Kept) (x : Received) (full : Bool) (a : AgreedView) → IsBelow c a
      → through (setting_of (wide_config k g)) i p inp (wide_kept g.nodes k y) (wide_received g.nodes k x) full (wide_agreed g.nodes k a) ≡ wide_view g.nodes k (through (setting_of g) i p inp y x full a)
  unfolding through
  through_wide i p inp y x full a below =
      let n : ℕ = g.nodes in
      let s : Setting = setting_of g in
      let s' : Setting = setting_of (wide_config k g) in
      let a' : AgreedView = wide_agreed n k a in
      let y' : Kept = wide_kept n k y in
      let x' : Received = wide_received n k x in
      let done : List (Wrapped ℕ) = claims_settled s i full a inp x in
      let done' : List (Wrapped ℕ) = claims_settled s' i full a' inp x' in
      let e_done : done' ≡ wide_claims k done = claims_wide i full a inp x below.members in
      let due : List ℕ = due_channels s a done in
      let due' : List ℕ = due_channels s' a' done' in
      let e_due : due' ≡ due = ap (due_channels s' a') e_done ∙ channels_wide a below done in
      let own : List (Option ℤ) = own_values s i p inp y in
      let own' : List (Option ℤ) = own_values s' i p inp y' in
      let e_own : own' ≡ own = own_wide i p inp y in
      let votes : List (Option ℤ) = votes_on s i full a done due own x in
      let votes' : List (Option ℤ) = votes_on s' i full a' done' due' own' x' in
      let e_votes : votes' ≡ votes = ap (λ d. votes_on s' i full a' d due' own' x') e_done ∙ ap (λ u. votes_on s' i full a' (wide_claims k done) u own' x') e_due ∙ ap (λ o. votes_on s' i full a' (wide_claims k done) due o x') e_own
      ∙ votes_wide a below done i full due own x in
      let e_noted : noted s' i a' y' done' due' votes' x' ≡ noted s i a y done due votes x =
      ap (λ d. noted s' i a' y' d due' votes' x') e_done ∙ ap (λ u. noted s' i a' y' (wide_claims k done) u votes' x') e_due ∙ ap (λ v. noted s' i a' y' (wide_claims k done) due v x') e_votes
      ∙ fun_ext (λ j. fun_ext (noted_wide i a y done due votes x j)) in
      let found : List ℕ = if full then row_by s i (noted s i a y done due votes x) else empty_row s in
      let found' : List ℕ = if full then row_by s' i (noted s' i a' y' done' due' votes' x') else empty_row s' in
      let e_found : found' ≡ wide n k found = found_wide i full (noted s i a y done due votes x) (noted s' i a' y' done' due' votes' x') e_noted in
      let rows : List (Option (List ℕ)) = settled_items (pointwise ◌==◌) c g.m i full a.standing.members x.report found in
      let rows' : List (Option (List ℕ)) = settled_items (pointwise ◌==◌) (c + k) g.m i full a.standing.members (each_round (wide n k) x.report) found' in
      let e_rows : rows' ≡ wide_rows n k rows =
      ap (settled_items (pointwise ◌==◌) (c + k) g.m i full a.standing.members (each_round (wide n k) x.report)) e_found
      ∙ items_each (wide n k) (pointwise ◌==◌) (pointwise ◌==◌) (eq_wide n k) g.m i full a.standing.members x.report c k found below.members in
      let e_after : agreed_after (c + k) (wide_config k g) p a' done' rows' ≡ wide_agreed n k (agreed_after c g p a done rows) =
      ap (λ d. agreed_after (c + k) (wide_config k g) p a' d rows') e_done ∙ ap (agreed_after (c + k) (wide_config k g) p a' (wide_claims k done)) e_rows ∙ agreed_wide p a below done rows in
      same_viewed full a' (synced_by s i x) e_done e_due e_own e_votes e_found e_rows e_after (carried_wide i full a x)

  cold_wide : (i : ℕ) (x : Received) → cold_view (setting_of (wide_config k g)) i (wide_received g.nodes k x) ≡ wide_view g.nodes k (cold_view (setting_of g) i x)
  cold_wide i x =
      ap (λ (z : List (Wrapped ℕ)). let v : View = record (cold_view (setting_of (wide_config k g)) i (wide_received g.nodes k x)) { done = z } in v) (sym (replicate-append-replicate c k (Fault 0)))
      ∙ ap (λ (z : List ℕ). let v : View = record (cold_view (setting_of (wide_config k g)) i (wide_received g.nodes k x)) { done = wide_claims k (replicate c (Fault 0)); found = z } in v) (zeros_wide c g.nodes k few)
      ∙ ap (λ (z : List (Option (List ℕ))). let v : View = record (cold_view (setting_of (wide_config k g)) i (wide_received g.nodes k x)) { done = wide_claims k (replicate c (Fault 0)); found = wide g.nodes k (replicate c 0); rows = z } in v) (rows_wide)
      ∙ ap (λ (z : Kept). let v : View = record (cold_view (setting_of (wide_config k g)) i (wide_received g.nodes k x)) { done = wide_claims k (replicate c (Fault 0)); found = wide g.nodes k (replicate c 0); rows = wide_rows g.nodes k (replicate c None); kept = z } in v) nothing_wide
    where
      none_mapped : (j : ℕ) → map (option_map (wide g.nodes k)) (replicate j None) ≡ replicate j None
      none_mapped zero = refl
      none_mapped (suc j) = ap (λ xs. None ∷ xs) (none_mapped j)

      rows_wide : replicate (c + k) None ≡ wide_rows g.nodes k (replicate c None)
      rows_wide = sym (replicate-append-replicate c k None) ∙ ap (λ xs. xs ++ replicate k None) (sym (none_mapped c))

  module _ (i p : ℕ) (inp : Inputs) (y : Kept) (x : Received) where
    joined_wide : (o : Option AgreedView) → IsBelowIf c o
        → joined (setting_of (wide_config k g)) i p inp (wide_kept g.nodes k y) (wide_received g.nodes k x) (option_map (wide_agreed g.nodes k) o) ≡ wide_view g.nodes k (joined (setting_of g) i p inp y x o)
    joined_wide None below = cold_wide i x
    joined_wide (Some a) below = through_wide i p inp y x false a below

    pub view_wide : (o : Option AgreedView) → IsBelowIf c o
        → view_from (setting_of (wide_config k g)) i p inp (wide_kept g.nodes k y) (wide_received g.nodes k x) (option_map (wide_agreed g.nodes k) o) ≡ wide_view g.nodes k (view_from (setting_of g) i p inp y x o)
    view_wide (Some a) below = through_wide i p inp y x true a below
    view_wide None below =
        ap (joined (setting_of (wide_config k g)) i p inp (wide_kept g.nodes k y) (wide_received g.nodes k x)) (adopted_by_wide i x.sync)
        ∙ joined_wide (adopted_by (setting_of g) i x.sync) (adopted_by_below i x.sync)

    joined_keeps : (o : Option AgreedView) → IsBelowIf c (joined (setting_of g) i p inp y x o).kept.state
    unfolding through
    joined_keeps None = tt
    joined_keeps (Some a) = after_below p a _ _

    pub view_keeps : (o : Option AgreedView) → IsBelowIf c (view_from (setting_of g) i p inp y x o).kept.state
    unfolding through
    view_keeps (Some a) = after_below p a _ _
    view_keeps None = joined_keeps (adopted_by (setting_of g) i x.sync)
