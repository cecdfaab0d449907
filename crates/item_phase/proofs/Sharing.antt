-- What all nodes settle of an item, where those that are awake have the same members.
use Rattle.std.proofs.Common.{ℕ, suc, ◌≡◌, ◌≢◌, ◌<◌, ◌≤◌, ◌+◌, Bool, true, false, List, [], ◌∷◌, ◌++◌, length, Option, None, refl, sym, ap, ap₂, subst, ◌∙◌, arith, eq-eqb}
use Rattle.std.specs.Prelude.{◌*◌, slice_index_or, if◌then◌else◌, IfSome}
use Rattle.std.proofs.lemmas.Bool.{or_right}
use Rattle.std.proofs.lemmas.List.{length_push}
use Rattle.node_grid.specs.Capacity.{IsCapacity}
use Rattle.node_grid.specs.NodeSet.{has_id}
use Rattle.node_grid.specs.ListLaws.{has_push}
use Rattle.node_grid.specs.SetFacts.{member-lt}
use Rattle.omh_paths.specs.declared.wrapped.Wrapped.{Wrapped}
use Rattle.omh_paths.specs.declared.wrapped.Wrapped.TheVariants.{Plain, Fault}
use Rattle.omh_paths.specs.Wrapped.{IsExact}
use Rattle.omh_paths.specs.PathLaws.{off_longer}
use Rattle.omh_paths.specs.MemberLaws.{Distinct-ids}
use Rattle.omh.specs.Omh.{World, Ear, ear, settled, settled_at}
use Rattle.omh.specs.Written.{IsSmall}
use Rattle.equivocation.specs.Conviction.{convicts}
use Rattle.settled_paths.specs.Passing.{passing_world}
use Rattle.settled_paths.proofs.Worlds.{passing_law}
use Rattle.settled_items.specs.Relaying.{AreOddHeard, AreFewOdd}
use Rattle.settled_items.specs.Relayed.{IsRelayed}
use Rattle.settled_items.specs.declared.relayed.Relayed.{Relayed}
use Rattle.settled_items.specs.Laws.{IsToldAsIs}
use Rattle.settled_paths.specs.declared.exchange.Exchange.{Exchange}
use Rattle.settled_items.proofs.Worlds.{convicting_law, plain_law, spared}
use Rattle.protocol.specs.Arrival.{ItemForm}
use Rattle.protocol.specs.Settled.{ear_of}
use Rattle.protocol.specs.Talk.{rounds_upto}
use Rattle.heard_links.specs.declared.links.Links.{Links}
use Rattle.heard_links.specs.declared.phase.Phase.{Phase}
use Rattle.heard_links.specs.Talks.{IsSet}
use Rattle.heard_links.specs.Hearing.{item_of, talk_in, is_even}
use Rattle.heard_links.specs.Passing.{own_in, world_in, says_of, ArePassedOn}
use Rattle.heard_links.proofs.Sets.{few_m}
use Rattle.item_phase.specs.Settled.{listener, IsOfAll, AreOdd, IsPlain, IsLaid}

-- nothing is said of frames that come as they were sent
abbrev pub IsSaidOfOdd : {V : Type 0} {N : ℕ} → ItemForm V → Phase N → Links V N → Type 0
IsSaidOfOdd form x links = (i q : ℕ) (front : List ℕ) → is_even (talk_in form x links) (length front) q i ≡ true → says_of form x links i (front ++ q ∷ []) ≡ None

-- what a node says of itself is small
pub own_small : {V : Type 0} {N : ℕ} (x : Phase N) (links : Links V N) (c : ℕ) → IsSmall 251 (own_in x links c)
own_small x links c = small (has_id x.full c) where
  small : (b : Bool) → IsSmall 251 (if b then Plain (item_of links c) else Fault 0)
  small true = tt
  small false = omega arith

module _ {V : Type 0} {N : ℕ} (eq : V → V → Bool) (form : ItemForm V) (x : Phase N) (links : Links V N) (members : List ℕ) (all : IsOfAll x members) where
  abbrev w : World V
  w = world_in form x links members

  abbrev says : ℕ → List ℕ → Option (Wrapped V)
  says = says_of form x links

  abbrev with_members : ℕ → List ℕ → Ear V
  with_members i ms = ear_of x.config.now.m i (has_id x.full i) ms (rounds_upto (talk_in form x links) x.config.now.m i)

  settles_world : (c i : ℕ) → has_id x.awake i ≡ true → settled eq w i (c ∷ []) ≡ settled_at eq (listener form x links i) (c ∷ [])
  settles_world c i on = ap (λ (ms : List ℕ). settled_at eq (with_members i ms) (c ∷ [])) (sym (all.same i on))

  convicts_world : (c i : ℕ) → has_id x.awake i ≡ true → convicts eq (ear w i) c ≡ convicts eq (listener form x links i) c
  convicts_world c i on = ap (λ (ms : List ℕ). convicts eq (with_members i ms) c) (sym (all.same i on))

  -- odd members' relays alone are heard otherwise
  pub odd_heard : (odd : List ℕ) → AreOdd form x links odd → IsSaidOfOdd form x links → (c : ℕ) → AreOddHeard x.config.now.m members c odd (λ i. has_id x.awake i) says
  odd_heard odd odds even c front q i path off on away =
      let ne : q ≢ i = (off_longer (c ∷ front) q i away).1 in
      let short : suc (length front) ≤ x.config.now.m = let s = path.short in omega (arith, length_push (c ∷ front) q) in
      let low : q < x.config.now.nodes = member-lt x.config.now.nodes members q all.ids (path.within q (has_push (c ∷ front) q q ∙ or_right (has_id (c ∷ front) q) _ (eq-eqb q q refl))) in
      even i q (c ∷ front) (odds (suc (length front)) q i (omega arith) short off low on (λ e. ne (sym e)))

  -- what is settled by what is passed on
  pub settles_passed : ArePassedOn form x links → (c i : ℕ) → has_id members c ≡ true → has_id x.awake i ≡ true → c ≢ i
      → settled eq (passing_world x.config.now.m members x.full (own_in x links c) says) i (c ∷ []) ≡ settled_at eq (listener form x links i) (c ∷ [])
  settles_passed passed c i member on ne =
      sym (passing_law eq w (λ k. has_id x.awake k) c x.full (own_in x links c) says (passed members all.same c member) member i on ne) ∙ settles_world c i on

  pub convicts_passed : ArePassedOn form x links → (c i : ℕ) → has_id members c ≡ true → has_id x.awake i ≡ true → c ≢ i
      → convicts eq (ear (passing_world x.config.now.m members x.full (own_in x links c) says) i) c ≡ convicts eq (listener form x links i) c
  convicts_passed passed c i member on ne =
      sym (convicting_law eq w (λ k. has_id x.awake k) c x.full (own_in x links c) says (passed members all.same c member) member i on ne) ∙ convicts_world c i on

  -- what is settled where few are odd and a first frame comes as it was sent
  pub are_plain : IsExact eq → ArePassedOn form x links → IsSaidOfOdd form x links → (odd touched : List ℕ) → AreOdd form x links odd → AreFewOdd x.config.now.m members x.full odd
      → ((j i : ℕ) → has_id touched j ≡ false → j < x.config.now.nodes → has_id x.awake i ≡ true → i ≢ j → is_even (talk_in form x links) 0 j i ≡ true)
      → (i c : ℕ) → has_id x.awake i ≡ true → c ≢ i → has_id members c ≡ true → has_id touched c ≡ false → IsPlain eq form x links i c
  are_plain exact passed even odd touched odds few untouched i c on ne member off =
      let told : IsToldAsIs w (λ k. has_id x.awake k) c x.full odd (own_in x links c) says = record {
        distinct = Distinct-ids x.config.now.nodes members all.ids;
        member = member;
        passed_on = passed members all.same c member;
        odd_heard = odd_heard odd odds even c;
        few = few;
        as_is = λ k at other. even k c [] (untouched c k off (member-lt x.config.now.nodes members c all.ids member) at (λ e. other (sym e)));
      } in
      record {
        settled = sym (sym (settles_world c i on) ∙ plain_law eq exact w (λ k. has_id x.awake k) c x.full odd (own_in x links c) says told i on ne);
        spared = sym (convicts_world c i on) ∙ spared eq exact w (λ k. has_id x.awake k) c x.full odd (own_in x links c) says told i on ne;
      }

-- what was laid stays where nothing is laid over it
pub laid_kept : {V : Type 0} {N : ℕ} (eq : V → V → Bool) (form : ItemForm V) (x : Phase N) (a b : Links V N) (was now : List (Wrapped V)) (before after : List (List ℕ)) (i c : ℕ)
    → IsLaid eq form x a was before i c → a ≡ b → slice_index_or now (c * N + i) (Fault 0) ≡ slice_index_or was (c * N + i) (Fault 0)
    → has_id (slice_index_or after c []) i ≡ has_id (slice_index_or before c []) i → IsLaid eq form x b now after i c
laid_kept {V} {N} eq form x a b was now before after i c is same each convicting = record {
  settled = each ∙ is.settled ∙ ap (λ (l : Links V N). settled_at eq (listener form x l i) (c ∷ [])) same;
  convicted = λ two. convicting ∙ is.convicted two ∙ ap (λ (l : Links V N). convicts eq (listener form x l i) c) same;
}

-- who tells an item, who passes it on, and who hears it
abbrev pub exchange_in : {N : ℕ} → Phase N → List ℕ → ℕ → Exchange N
exchange_in x members c = record { rounds = x.config.now.m; members = members; full = x.full; awake = x.awake; commander = c }

module _ {V : Type 0} {N : ℕ} (eq : V → V → Bool) (form : ItemForm V) (x : Phase N) (links : Links V N) (members : List ℕ) (all : IsOfAll x members) (c : ℕ) (member : has_id members c ≡ true)
    (passed : ArePassedOn form x links) (ex : Exchange N) (own : Wrapped V) (said : ℕ → List ℕ → Option (Wrapped V))
    (ex_is : ex ≡ exchange_in x members c) (own_is : own ≡ own_in x links c) (said_is : said ≡ says_of form x links) where
  pub settles_told : (row : List (Wrapped V))
      → ((i : ℕ) → has_id ex.awake i ≡ true → ex.commander ≢ i → slice_index_or row i (Fault 0) ≡ settled eq (passing_world ex.rounds ex.members ex.full own said) i (ex.commander ∷ []))
      → (i : ℕ) → has_id x.awake i ≡ true → c ≢ i → slice_index_or row i (Fault 0) ≡ settled_at eq (listener form x links i) (c ∷ [])
  settles_told row h i on ne =
      subst (λ (y : Exchange N). (k : ℕ) → has_id y.awake k ≡ true → y.commander ≢ k → slice_index_or row k (Fault 0) ≡ settled eq (passing_world y.rounds y.members y.full own said) k (y.commander ∷ [])) ex_is h i on ne
      ∙ ap₂ (λ (o : Wrapped V) (s : ℕ → List ℕ → Option (Wrapped V)). settled eq (passing_world x.config.now.m members x.full o s) i (c ∷ [])) own_is said_is
      ∙ settles_passed eq form x links members all passed c i member on ne

  pub convicts_told : (against : List ℕ)
      → ((i : ℕ) → has_id ex.awake i ≡ true → ex.commander ≢ i → has_id against i ≡ convicts eq (ear (passing_world ex.rounds ex.members ex.full own said) i) ex.commander)
      → (i : ℕ) → has_id x.awake i ≡ true → c ≢ i → has_id against i ≡ convicts eq (listener form x links i) c
  convicts_told against h i on ne =
      subst (λ (y : Exchange N). (k : ℕ) → has_id y.awake k ≡ true → y.commander ≢ k → has_id against k ≡ convicts eq (ear (passing_world y.rounds y.members y.full own said) k) y.commander) ex_is h i on ne
      ∙ ap₂ (λ (o : Wrapped V) (s : ℕ → List ℕ → Option (Wrapped V)). convicts eq (ear (passing_world x.config.now.m members x.full o s) i) c) own_is said_is
      ∙ convicts_passed eq form x links members all passed c i member on ne

-- a member's item in at most three rounds, by what is told and passed on of it
pub record IsRelayedAs {V : Type 0} {N : ℕ} (ex : Exchange N) (odd : List ℕ) (own : Wrapped V) (said : ℕ → List ℕ → Option (Wrapped V)) : Type 0 where
  pub rounds_ok : ex.rounds ≤ 3
  pub member : has_id ex.members ex.commander ≡ true
  pub awake : (q : ℕ) → has_id ex.members q ≡ true → has_id ex.full q ≡ true → has_id ex.awake q ≡ true
  pub own_small : IsSmall 251 own
  pub said_small : (i : ℕ) (path : List ℕ) → IfSome (said i path) (λ v. IsSmall 251 v)
  pub odd_heard : AreOddHeard ex.rounds ex.members ex.commander odd (λ i. has_id ex.awake i) said

-- so it is relayed as `settled_items` asks
pub relayed_here : {V T : Type 0} {n : ℕ} (says : T → ℕ → List ℕ → Option (Wrapped V)) (x : Relayed V T n) → IsCapacity n → IsRelayedAs x.exchange x.odd x.own.now (says x.touched.now) → IsRelayed says x
relayed_here says x cap r = record { capacity_ok = cap; rounds_ok = r.rounds_ok; member = r.member; awake = r.awake; own_small = r.own_small; said_small = r.said_small; odd_heard = r.odd_heard }

pub relayed_as : {V : Type 0} {N : ℕ} (eq : V → V → Bool) (form : ItemForm V) (x : Phase N) (links : Links V N) (members : List ℕ) → IsSet x → (all : IsOfAll x members) → (c : ℕ)
    → has_id members c ≡ true → IsSaidOfOdd form x links → ((i : ℕ) (path : List ℕ) → IfSome (says_of form x links i path) (λ v. IsSmall 251 v))
    → (ex : Exchange N) (odd : List ℕ) (own : Wrapped V) (said : ℕ → List ℕ → Option (Wrapped V)) → AreOdd form x links odd
    → ex ≡ exchange_in x members c → own ≡ own_in x links c → said ≡ says_of form x links → IsRelayedAs ex odd own said
relayed_as {V} {N} eq form x links members set all c member even small ex odd own said odds ex_is own_is said_is = record {
  rounds_ok = let few = few_m x set in let rounds : ex.rounds ≡ x.config.now.m = ap (λ (y : Exchange N). y.rounds) ex_is in omega (arith, few, rounds);
  member = ap (λ (y : Exchange N). has_id y.members y.commander) ex_is ∙ member;
  awake = λ q on full. ap (λ (y : Exchange N). has_id y.awake q) ex_is ∙ set.full q (sym (ap (λ (y : Exchange N). has_id y.full q) ex_is) ∙ full);
  own_small = subst (λ (o : Wrapped V). IsSmall 251 o) (sym own_is) (own_small x links c);
  said_small = λ i path. subst (λ (s : ℕ → List ℕ → Option (Wrapped V)). IfSome (s i path) (λ v. IsSmall 251 v)) (sym said_is) (small i path);
  odd_heard =
      subst (λ (s : ℕ → List ℕ → Option (Wrapped V)). AreOddHeard ex.rounds ex.members ex.commander odd (λ i. has_id ex.awake i) s) (sym said_is)
      (subst (λ (y : Exchange N). AreOddHeard y.rounds y.members y.commander odd (λ i. has_id y.awake i) (says_of form x links)) (sym ex_is) (odd_heard eq form x links members all odd odds even c));
}
