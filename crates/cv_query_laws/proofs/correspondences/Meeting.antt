-- A left event whose node has an entry is met by the events before it.
use Rattle.std.proofs.Common.{◌≡◌, ℕ, zero, suc, ◌<◌, Bool, true, false, cond, List, [], ◌∷◌, map, inl, inr, Option, Some, None, is_some, refl, sym, ap, subst, ◌∙◌, arith, eqb-true}
use Rattle.std.specs.Prelude.{Contains}
use Rattle.std.proofs.lemmas.Bool.{both_ways, and_parts}
use Rattle.std.proofs.lemmas.List.Elements.{Contains-append_left, Contains-append_right}
use Rattle.std.specs.List.{AllByRecursion}
use Rattle.cv_syntax_trees.specs.declared.head.Head.{Head}
use Rattle.cv_syntax_trees.specs.declared.head.Head.TheVariants.{AboveRoute, And, Apply, AtEntry, Branch, Call, CellRoute, Cons, Eq, HoldsRoute, In, Key, Leaf, Let, NeverEntry, New, No, Not, Or, Read, WithEntry, Yes}
use Rattle.cv_syntax_trees.specs.Head.{weight}
use Rattle.cv_syntax_trees.specs.Tree.{Tree, Empty, Node, first}
use Rattle.cv_meaning.specs.Side.{no_side}
use Rattle.cv_meaning.specs.Interpretation.{Interpretation, Setting, setting_of}
use Rattle.cv_meaning.specs.Memory.{Happened, Indices, Local, Store, nowhere, tuple}
use Rattle.cv_meaning.specs.Terms.{found_in, leaf_value_from, or_zero, value, values, values_here}
use Rattle.cv_meaning.specs.Candidates.{is_assigned}
use Rattle.cv_meaning.specs.Satisfies.{Satisfies}
use Rattle.cv_meaning.specs.Correspondences.{Atom, Correspondence, RightEvent, RightTerm}
use Rattle.cv_meaning_laws.specs.adequacy.Broken.{AreValues, Holds as IsHeld, IsMet, StandsAt, query_values, right_event}
use Rattle.cv_meaning_laws.specs.adequacy.Typed as meaning
use Rattle.cv_meaning_laws.specs.adequacy.Typed.{IsTypedStore}
use Rattle.cv_meaning_laws.proofs.adequacy.Sorted.{typed_value}
use Rattle.cv_syntax_trees.specs.declared.sites.sort.Sort.{Sort}
use Rattle.cv_syntax_trees.specs.declared.sites.sort.Sort.TheVariants.{BelowParameter, OfType}
use Rattle.cv_scope_rules.specs.typing.Signature.{sort_of}
use Rattle.cv_syntax_trees.specs.sites.Sorts.{same_sort}
use Rattle.cv_typing_runs.specs.Games.{context_of, sort_of_meaning}
use Rattle.cv_typing_runs.proofs.Models.{is_model}
use Rattle.cv_typing_runs.proofs.Terms.{nil_empty}
use Rattle.cv_scope_rules.specs.Behind.{sites_of}
use Rattle.cv_scope_rules.specs.Context.{Context, known_at}
use Rattle.cv_scope_rules.specs.Made.{made_by}
use Rattle.cv_scope_rules.specs.Phrases.{Inputs, Nil, OneCell, Term, Terms, is_phrase}
use Rattle.cv_scope_rules.specs.Scope.{is_variable}
use Rattle.cv_scope_rules.specs.Sites.{Variable}
use Rattle.cv_scope_runs.specs.Promises.{AreIndicesOf, EventsKept, IsRecorded, after_site}
use Rattle.cv_scope_runs.proofs.Contexts.{EventHolds, Holds, Matches, constant_none, variable_none}
use Rattle.cv_scope_runs.proofs.Games.{Game}
use Rattle.cv_scope_runs.proofs.PathRuns.{SiteHolds, StoreHolds}
use Rattle.cv_scope_runs.proofs.Standing.{stands_definition, stands_known}
use Rattle.cv_scope_runs.proofs.TermsLater.{AllReadable, LeafReads, Readable, cell, constant, index}
use Rattle.cv_scene.specs.lines.Given.{with_given}
use Rattle.cv_scene.specs.lines.Lines.{lines_of, statements}
use Rattle.cv_scene.specs.lines.Targets.{falsity}
use Rattle.cv_derive_laws.proofs.Substitution.{names_of, put_value, put_values}
use Rattle.cv_derive_laws.proofs.stores.Terms.{term_sorted}
use Rattle.cv_derive_laws.specs.stores.Holding.{IsReady}
use Rattle.cv_derive_laws.specs.stores.Truth.{AreOver, IsOver, IsTrue, is_name_of}
use Rattle.cv_scene.specs.Scenes.{Scene}
use Rattle.cv_scene.specs.Sights.{at_cell, is_cell_at, is_term_of, sight_at}
use Rattle.cv_scene.specs.Terms.{above_at, is_sort, is_term_at, replications_at, replications_by, signature_in}
use Rattle.cv_query_certificates.specs.Accepted.{IsEntry, Proves}
use Rattle.cv_query_certificates.specs.Alternatives.{chosen, chosen_atoms, routes_of}
use Rattle.cv_query_certificates.specs.Claims.{at_place, behind_cell, claim_of, claims_of, equations, joined}
use Rattle.cv_query_certificates.specs.Claims as claims
use Rattle.cv_query_certificates.specs.EventNodes.{are_for, arguments_at, is_event_above, only_site, place_in, the_only}
use Rattle.cv_query_certificates.specs.Forms.{has_route_form, have_route_forms, have_types, is_above_site, is_number}
use Rattle.cv_query_certificates.proofs.Alternatives.{is_alternative}
use Rattle.cv_query_laws.specs.routes.Ends.{Execution, HoldsBy, IsMetBy, entry_atoms, entry_routes, item_at, witnesses_of}
use Rattle.cv_query_laws.proofs.correspondences.Behind.{EventNode, IsAmong, arguments_phrase, event_node, known_above, site_keeps}
use Rattle.cv_query_laws.proofs.correspondences.Naming.{AreNamedAtoms, HasNamedAtoms, IsNamed, IsNamedAtom}
use Rattle.cv_query_laws.proofs.correspondences.Putting.{as_many_left, as_many_right, both_names, both_values, equal_values}
use Rattle.cv_query_laws.proofs.correspondences.Sites.{only_definition}
use Rattle.cv_derive_laws.proofs.reached.Reached.{index_names, same_indices}
use Rattle.cv_derive_laws.proofs.Reasons.{named_found}

recorded_contains : (e : Happened) (es : List Happened) → IsRecorded e es → Contains es e
recorded_contains e [] a = absurd a
recorded_contains e (d ∷ es) (inl k) = Contains-append_left (d ∷ []) es e (0, omega arith, sym k)
recorded_contains e (d ∷ es) (inr a) = Contains-append_right (d ∷ []) es e (recorded_contains e es a)

among_all : {A : Type 0} (P : A → Type 0) (x : A) (xs : List A) → IsAmong x xs → AllByRecursion P xs → P x
among_all P x [] a h = absurd a
among_all P x (y ∷ ys) (inl e) h = subst P (sym e) h.0
among_all P x (y ∷ ys) (inr a) h = among_all P x ys a h.1

contained : {A : Type 0} (P : A → Type 0) (xs : List A) (x : A) → AllByRecursion P xs → Contains xs x → P x
contained P [] x a (k, l, e) = absurd (omega (arith, l))
contained P (y ∷ xs) x a (zero, l, e) = subst P e a.0
contained P (y ∷ xs) x a (suc k, l, e) = contained P xs x a.1 (k, omega (arith, l), e)

-- what defines a variable is a node with a place
pub maker_counts : (h : Head) (a : Tree) (x : ℕ) → made_by h a (Variable x) ≡ true → weight h ≡ 1
maker_counts (New y T) a x e = refl
maker_counts (Let y T) a x e = refl
maker_counts (Key y) a x e = refl
maker_counts (Call y l) a x e = refl
maker_counts (In c) a x e = refl
maker_counts Branch a x e = refl
maker_counts h a x e = absurd (both_ways _ refl e)

same_sort_law : (R S : Sort) → same_sort R S ≡ true → R ≡ S
same_sort_law (OfType T) (OfType U) e = ap OfType (eqb-true T U e)
same_sort_law (OfType T) (BelowParameter n) e = absurd (both_ways _ refl e)
same_sort_law (BelowParameter n) (OfType T) e = absurd (both_ways _ refl e)
same_sort_law (BelowParameter n) (BelowParameter k) e = ap BelowParameter (eqb-true n k e)

-- terms whose names are readable are over such names

module _ (g : Setting) (variable : ℕ → Bool) (at : Indices) (m : Store) where
  abbrev L : ℕ → Type 0
  L x = LeafReads g variable at m x

  mutual
    unfolding is_phrase

    readable_over : (t : Tree) → is_phrase Term t ≡ true → Readable g variable at m t → IsOver L (Unit {0}) t
    readable_over Empty f r = absurd (both_ways _ refl f)
    readable_over (Node (Leaf x) a b) f r = r
    readable_over (Node (Read x) a b) f r = (tt, all_readable_over a (and_parts (is_phrase Terms a) _ f).0 r.1)
    readable_over (Node (Apply k) a b) f r = all_readable_over a (and_parts (is_phrase Terms a) _ f).0 r
    readable_over (Node Eq a b) f r = let z = and_parts (is_phrase Term a) _ f in (readable_over a z.0 r.0, readable_over b z.1 r.1)
    readable_over (Node And a b) f r = let z = and_parts (is_phrase Term a) _ f in (readable_over a z.0 r.0, readable_over b z.1 r.1)
    readable_over (Node Or a b) f r = let z = and_parts (is_phrase Term a) _ f in (readable_over a z.0 r.0, readable_over b z.1 r.1)
    readable_over (Node Not a b) f r = readable_over a (and_parts (is_phrase Term a) _ f).0 r.0
    readable_over (Node Yes a b) f r = tt
    readable_over (Node No a b) f r = tt
    readable_over (Node h a b) f r = absurd (both_ways _ refl f)

    all_readable_over : (t : Tree) → is_phrase Terms t ≡ true → AllReadable g variable at m t → AreOver L (Unit {0}) t
    all_readable_over Empty f r = tt
    all_readable_over (Node Cons a b) f r = let z = and_parts (is_phrase Term a) _ f in (readable_over a z.0 r.0, all_readable_over b z.1 r.1)
    all_readable_over (Node h a b) f r = absurd (both_ways _ refl f)

-- what holds in a visit of the left event's node
pub record IsThere (s : Scene) (i : Interpretation) (fine : Game (setting_of s.declarations i) (is_variable s.game) s.game) (p : ℕ) (l : Local) : Type 0 where
  pub above : Context
  pub known : known_at s.game p ≡ Some above
  pub matches : Matches (setting_of s.declarations i) (is_variable s.game) above.replications l.indices
  pub holds : Holds (setting_of s.declarations i) (is_variable s.game) above l.indices l.memory.store l.memory.events
  pub stores : StoreHolds (setting_of s.declarations i) (is_variable s.game) s.game fine l.memory.store l.memory.events
  pub types : IsTypedStore (context_of s.declarations s.game) i l.memory.store

module _ (s : Scene) (i : Interpretation) (ready : IsReady s.declarations s.game) (model : Satisfies s.declarations i)
    (fine : Game (setting_of s.declarations i) (is_variable s.game) s.game) (q : Correspondence) (p : ℕ) (l : Local) (there : IsThere s i fine p l)
    (true-at : (by targets : Tree) → Proves s p (record { by = by; targets = targets }) → AllByRecursion (IsTrue (setting_of s.declarations i) l.indices l.memory.store l.memory.store) (statements (lines_of targets))) where
  abbrev g : Setting
  g = setting_of s.declarations i

  abbrev variable : ℕ → Bool
  variable = is_variable s.game

  abbrev at : Indices
  at = l.indices

  abbrev m : Store
  m = l.memory.store

  abbrev args : Tree
  args = arguments_at s.game p

  abbrev pub left : Happened
  left = record { event = q.event; values = values g at m args }

  -- the event of a node, with the values of its arguments at these indices
  abbrev pub event_of : (f n : ℕ) → Indices → Happened
  event_of f n is = record { event = f; values = values g is m (arguments_at s.game n) }

  -- an event's node that stands above the place executed its event, and so did one above the definition of an assigned cell
  abbrev pub ExecutesAbove : Execution → Type 0
  ExecutesAbove E = (f n : ℕ) (ms : Tree) → EventNode s.game f ms n p → E n (tuple at) (event_of f n at)

  abbrev pub ExecutesBehind : Execution → Type 0
  ExecutesBehind E =
      (x : ℕ) (u : List ℕ) (v : ℕ) → m x u ≡ Some v → (r : ℕ) (Δ : Context) → sites_of s.game x ≡ (r, Δ) ∷ [] → (h : SiteHolds g variable s.game fine x u v m l.memory.events) (f n : ℕ) (ms : Tree) → EventNode s.game f ms n h.place → E n u (event_of f n h.indices)

  -- it is known there that it was executed
  pub above_event : (f n : ℕ) (ms : Tree) → EventNode s.game f ms n p → EventHolds g variable at m l.memory.events (f, arguments_at s.game n)
  above_event f n ms node = among_all (EventHolds g variable at m l.memory.events) (f, arguments_at s.game n) there.above.events (known_above s.game f ms n p there.above node there.known) there.holds.events

  pub site_event : (x : ℕ) (u : List ℕ) (v : ℕ) (h : SiteHolds g variable s.game fine x u v m l.memory.events) (f n : ℕ) (ms : Tree) → EventNode s.game f ms n h.place → EventHolds g variable h.indices m l.memory.events (f, arguments_at s.game n)
  site_event x u v h f n ms node =
      let known = stands_known s.game h.place h.phrase h.above (Node h.head h.one h.two) (maker_counts h.head h.one x h.defines) h.stands in
      among_all (EventHolds g variable h.indices m l.memory.events) (f, arguments_at s.game n) (after_site h.head h.one h.two h.above).events
      (site_keeps (f, arguments_at s.game n) h.head h.one h.two h.above (known_above s.game f ms n h.place h.above node known)) h.holds.events

  -- `never`

  no_value : value g at m (Node No Empty Empty) ≡ 1 → ⊥
  unfolding value
  no_value e = omega arith

  never_met : (by : Tree) → Proves s p (record { by = by; targets = falsity }) → ⊥
  unfolding lines_of statements
  never_met by d = no_value (true-at by falsity d).0

  -- the values of witnesses

  module _ (ws : Tree) (long : are_for q.variables args ≡ true) where
    witness_sorted : (T : ℕ) (w : Tree) → is_term_of (sight_at s p) (OfType T) w ≡ true → value g at m w < i.type_size T
    witness_sorted T w e =
        let z = and_parts (is_term_at s p w) _ e in
        let r = term_sorted s (replications_at s p) w ready.arguments ready.formed z.0 in
        let same : r.0 ≡ OfType T = go (sort_of (signature_in s) (above_at s p) w) r.0 r.1 z.1 in
        typed_value (context_of s.declarations s.game) i no_side (is_model s.declarations s.game i model ready.sorts) (replications_at s p) at m
        (subst (λ o. meaning.AreIndicesOf i (replications_by o) at) (sym there.known) (same_indices s.declarations i at there.above.replications there.matches.named)) there.types w (meaning.OfType T)
        (subst (λ (S : Sort). meaning.HasSort (context_of s.declarations s.game) (replications_at s p) w (sort_of_meaning S)) same r.2)
      where
        go : (o : Option Sort) (S : Sort) → o ≡ Some S → is_sort o (OfType T) ≡ true → S ≡ OfType T
        go None S k e = absurd (both_ways _ refl e)
        go (Some R) S k e = let x : R ≡ S = cc in sym x ∙ same_sort_law R (OfType T) e

    witnesses_sorted : (xs : List (ℕ × ℕ)) (w : Tree) → have_types (sight_at s p) xs w ≡ true → AreValues g xs (values g at m w)
    unfolding value
    witnesses_sorted [] Empty e = tt
    witnesses_sorted [] (Node h a b) e = absurd (both_ways _ refl e)
    witnesses_sorted (x ∷ xs) Empty e = absurd (both_ways _ refl e)
    witnesses_sorted (x ∷ xs) (Node h a b) e = let z = and_parts (is_term_of (sight_at s p) (OfType x.1) a) _ e in (witness_sorted x.1 a z.0, witnesses_sorted xs b z.1)

    witnesses_long : (xs : List (ℕ × ℕ)) (w : Tree) → have_types (sight_at s p) xs w ≡ true → are_for (map (λ (x : ℕ × ℕ). x.0) xs) w ≡ true
    witnesses_long [] Empty e = refl
    witnesses_long [] (Node h a b) e = absurd (both_ways _ refl e)
    witnesses_long (x ∷ xs) Empty e = absurd (both_ways _ refl e)
    witnesses_long (x ∷ xs) (Node h a b) e = witnesses_long xs b (and_parts (is_term_of (sight_at s p) (OfType x.1) a) _ e).1

    module _ (typed : have_types (sight_at s p) q.others ws ≡ true) (E : Execution) (above : ExecutesAbove E) (behind : ExecutesBehind E) where
      abbrev ρ : Indices
      ρ = query_values q left (values g at m ws)

      abbrev put : Tree → Tree
      put t = at_place s q p ws t

      names_same : names_of ρ ≡ claims.names_of q
      names_same = both_names g at m q.variables (map (λ (x : ℕ × ℕ). x.0) q.others) args ws long (witnesses_long q.others ws typed)

      values_same : values g at m (joined args ws) ≡ tuple ρ
      values_same = both_values g at m q.variables (map (λ (x : ℕ × ℕ). x.0) q.others) args ws long (witnesses_long q.others ws typed)

      known_leaf : (x : ℕ) → IsNamed s.declarations q x → found_in ρ x ≡ None → leaf_value_from g m x (found_in at x) ≡ leaf_value_from g nowhere x None
      known_leaf x (inl e) f = absurd (named_found ρ x (subst (λ ns. is_name_of ns x ≡ true) (sym names_same) e) f)
      known_leaf x (inr c) f =
          ap (leaf_value_from g m x) (constant_none g variable there.above.replications at there.matches x c)
          ∙ ap (λ b. cond b (g.interpretation.table x []) (or_zero (m x []))) c ∙ sym (ap (λ b. cond b (g.interpretation.table x []) (or_zero (nowhere x []))) c)

      term_value : (t : Tree) → IsOver (IsNamed s.declarations q) ⊥ t → value g at m (put t) ≡ value g ρ nowhere t
      term_value t o =
          ap (λ ns. value g at m (with_given ns (joined args ws) t)) (sym names_same)
          ∙ put_value g at m nowhere (IsNamed s.declarations q) ⊥ ρ (joined args ws) values_same known_leaf (λ b x u. absurd b) t o

      terms_value : (t : Tree) → AreOver (IsNamed s.declarations q) ⊥ t → values g at m (put t) ≡ values g ρ nowhere t
      terms_value t o =
          ap (λ ns. values g at m (with_given ns (joined args ws) t)) (sym names_same)
          ∙ put_values g at m nowhere (IsNamed s.declarations q) ⊥ ρ (joined args ws) values_same known_leaf (λ b x u. absurd b) t o

      -- an event that was executed with the values of the query's terms
      held : (n : ℕ) (u : List ℕ) (f : ℕ) (ms : Tree) (vs : List ℕ) → E n u (record { event = f; values = vs }) → vs ≡ values g ρ nowhere ms → E n u (right_event g ρ f ms)
      held n u f ms vs r e = subst (λ vs. E n u (record { event = f; values = vs })) e r

      above_held : (f : ℕ) (ms n by : Tree) → AreOver (IsNamed s.declarations q) ⊥ ms → is_event_above s.game f ms (place_in n) p ≡ true
          → Proves s p (record { by = by; targets = equations (arguments_at s.game (place_in n)) (put ms) }) → E (place_in n) (tuple at) (right_event g ρ f ms)
      above_held f ms n by o e d =
          let node = event_node s.game f ms (place_in n) p e in
          held (place_in n) (tuple at) f ms (values g at m (arguments_at s.game (place_in n))) (above f (place_in n) ms node)
          (equal_values g at m m (arguments_at s.game (place_in n)) (put ms) (as_many_right (IsNamed s.declarations q) ⊥ (claims.names_of q) (joined args ws) (arguments_at s.game (place_in n)) ms o node.long) (true-at by _ d) ∙ terms_value ms o)

      -- behind the only definition of an assigned cell

      some_value : (o : Option ℕ) → is_some o ≡ true → (v : ℕ) × (o ≡ Some v)
      some_value None e = absurd (both_ways _ refl e)
      some_value (Some v) e = (v, refl)

      module _ (f : ℕ) (ms n : Tree) (o : AreOver (IsNamed s.declarations q) ⊥ ms) (c : Tree) (x : ℕ) (u : List ℕ) (indexed : values g at m (first c) ≡ u) where
        abbrev arguments : Tree
        arguments = arguments_at s.game (place_in n)

        site_held : (r : ℕ) (Δ : Context) → sites_of s.game x ≡ (r, Δ) ∷ [] → is_event_above s.game f ms (place_in n) r ≡ true
            → (v : ℕ) → m x u ≡ Some v → SiteHolds g variable s.game fine x u v m l.memory.events → AllByRecursion (IsTrue g at m m) (statements (lines_of (equations (at_cell c Δ arguments) (put ms)))) → E (place_in n) (values g at m (first c)) (right_event g ρ f ms)
        site_held r Δ one e v assigned h lines =
            let same = only_definition s.game x r Δ (h.place, after_site h.head h.one h.two h.above) one (stands_definition s.game x h.place h.phrase h.above h.head h.one h.two h.stands h.defines) in
            let node : EventNode s.game f ms (place_in n) h.place = event_node s.game f ms (place_in n) h.place (subst (λ r. is_event_above s.game f ms (place_in n) r ≡ true) (sym same.0) e) in
            let z = site_event x u v h f (place_in n) ms node in
            let over : AreOver (L g variable h.indices m) (Unit {0}) arguments =
            all_readable_over g variable h.indices m arguments (arguments_phrase Inputs s.game (place_in n) f arguments node.next ready.formed.phrase node.stands) z.readable in
            let names : names_of h.indices ≡ map (λ (r : ℕ × ℕ). r.0) Δ.replications = index_names g h.indices _ h.matches.named ∙ ap (map (λ (r : ℕ × ℕ). r.0)) (sym same.1) in
            let put-there : values g at m (at_cell c Δ arguments) ≡ values g h.indices m arguments =
            ap (λ ns. values g at m (with_given ns (first c) arguments)) (sym names)
            ∙ put_values g at m m (L g variable h.indices m) (Unit {0}) h.indices (first c) (indexed ∙ sym h.at) (leaf h) (λ b y w. refl) arguments over in
            held (place_in n) (values g at m (first c)) f ms (values g h.indices m arguments) (subst (λ u. E (place_in n) u (event_of f (place_in n) h.indices)) (sym indexed) (behind x u v assigned r Δ one h f (place_in n) ms node))
            (sym put-there
            ∙ equal_values g at m m (at_cell c Δ arguments) (put ms)
            (as_many_left (L g variable h.indices m) (Unit {0}) (map (λ (r : ℕ × ℕ). r.0) Δ.replications) (first c) arguments (put ms) over
            (as_many_right (IsNamed s.declarations q) ⊥ (claims.names_of q) (joined args ws) arguments ms o node.long)) lines
            ∙ terms_value ms o)
          where
            leaf : (h : SiteHolds g variable s.game fine x u v m l.memory.events) (y : ℕ) → LeafReads g variable h.indices m y → found_in h.indices y ≡ None → leaf_value_from g m y (found_in at y) ≡ leaf_value_from g m y None
            leaf h y (index w k) f = absurd (let no : ◌≡◌ {A = Option ℕ} (Some w) None → ⊥ = λ e. cc in no (sym k ∙ f))
            leaf h y (constant k c) f = ap (leaf_value_from g m y) (constant_none g variable there.above.replications at there.matches y c)
            leaf h y (cell k c v a) f = ap (leaf_value_from g m y) (variable_none g variable there.above.replications at there.matches y v)

        cell_held : (ls : List (ℕ × Context)) → sites_of s.game x ≡ ls → is_above_site s.game f ms (place_in n) (the_only ls) ≡ true → is_some (m x u) ≡ true
            → AllByRecursion (IsTrue g at m m) (statements (lines_of (equations (behind_cell c (the_only ls) arguments) (put ms)))) → E (place_in n) (values g at m (first c)) (right_event g ρ f ms)
        cell_held [] k e a lines = absurd (both_ways _ refl e)
        cell_held (d ∷ []) k e a lines = let v = some_value (m x u) a in site_held d.0 d.1 k e v.0 v.1 (there.stores x u v.0 v.1) lines
        cell_held (d ∷ (b ∷ ls)) k e a lines = absurd (both_ways _ refl e)

      by_cell : (f : ℕ) (ms n : Tree) → AreOver (IsNamed s.declarations q) ⊥ ms → (c : Tree) → is_phrase OneCell c ≡ true → is_above_site s.game f ms (place_in n) (only_site s.game c) ≡ true → is_assigned g at m m c ≡ true
          → AllByRecursion (IsTrue g at m m) (statements (lines_of (equations (behind_cell c (only_site s.game c) (arguments_at s.game (place_in n))) (put ms)))) → E (place_in n) (values g at m (first c)) (right_event g ρ f ms)
      unfolding is_phrase value
      by_cell f ms n o Empty k e a lines = absurd (both_ways _ refl k)
      by_cell f ms n o (Node (Leaf x) b d) k e a lines =
          cell_held f ms n o (Node (Leaf x) b d) x [] (ap (values g at m) (nil_empty b (and_parts (is_phrase Nil b) (is_phrase Nil d) k).0)) (sites_of s.game x) refl e a lines
      by_cell f ms n o (Node (Read x) b d) k e a lines = cell_held f ms n o (Node (Read x) b d) x (values g at m b) refl (sites_of s.game x) refl e a lines
      by_cell f ms n o (Node h b d) k e a lines = absurd (both_ways _ refl k)

      cell_met : (f : ℕ) (ms n by c : Tree) → AreOver (IsNamed s.declarations q) ⊥ ms → is_cell_at s p c ≡ true → is_above_site s.game f ms (place_in n) (only_site s.game c) ≡ true
          → Proves s p (claim_of s put (RightEvent false f ms) (Node CellRoute c (Node Cons n by))) → E (place_in n) (values g at m (first c)) (right_event g ρ f ms)
      unfolding lines_of statements
      cell_met f ms n by c o k e d =
          let t = true-at by _ d in
          by_cell f ms n o c (and_parts (is_phrase OneCell c) _ k).0 e t.0 t.1

      -- a route to a right event or term

      term_met : (t by : Tree) → IsOver (IsNamed s.declarations q) ⊥ t → Proves s p (claim_of s put (RightTerm t) (Node HoldsRoute by Empty)) → value g ρ nowhere t ≡ 1
      unfolding lines_of statements
      term_met t by o d = sym (term_value t o) ∙ (true-at by _ d).0

      route_met : (c : Atom) (route : Tree) → IsNamedAtom s.declarations q c → has_route_form s p c route ≡ true → Proves s p (claim_of s put c route) → HoldsBy g E l ρ c route
      route_met (RightEvent inj f ms) (Node AboveRoute n by) o e d = above_held f ms n by o e d
      route_met (RightEvent inj f ms) (Node CellRoute c (Node h n by)) o e d = let z = and_parts (is_cell_at s p c) _ e in cell_met f ms n by c o z.0 z.1 d
      route_met (RightEvent inj f ms) (Node CellRoute c Empty) o e d = absurd (both_ways _ refl e)
      route_met (RightEvent inj f ms) (Node h a b) o e d = absurd (both_ways _ refl e)
      route_met (RightEvent inj f ms) Empty o e d = absurd (both_ways _ refl e)
      route_met (RightTerm t) (Node HoldsRoute by k) o e d = term_met t by o d
      route_met (RightTerm t) (Node h a b) o e d = absurd (both_ways _ refl e)
      route_met (RightTerm t) Empty o e d = absurd (both_ways _ refl e)

      routes_met : (cs : List (ℕ × Atom)) (routes : Tree) → AreNamedAtoms s.declarations q cs → have_route_forms s p cs routes ≡ true → AllByRecursion (Proves s p) (claims_of s put cs routes) → (n : ℕ) (c : ℕ × Atom) → StandsAt cs n c → HoldsBy g E l ρ c.1 (item_at routes n)
      routes_met [] routes o e d n c k = absurd (no_atom c k)
        where
          no_atom : (c : ℕ × Atom) → ◌≡◌ {A = Option (ℕ × Atom)} None (Some c) → ⊥
          no_atom c k = cc
      routes_met (c ∷ cs) Empty o e d n a k = absurd (both_ways _ refl e)
      routes_met (c ∷ cs) (Node h route more) o e d zero a k =
          let same : c ≡ a = cc in
          subst (λ (a : ℕ × Atom). HoldsBy g E l ρ a.1 route) same (route_met c.1 route o.0 (and_parts (has_route_form s p c.1 route) _ e).0 d.0)
      routes_met (c ∷ cs) (Node h route more) o e d (suc n) a k = routes_met cs more o.1 (and_parts (has_route_form s p c.1 route) _ e).1 d.1 n a k

  pub entry_met_by : (E : Execution) → ExecutesAbove E → ExecutesBehind E → (entry : Tree) → HasNamedAtoms s.declarations q → IsEntry s q p entry → IsMetBy g q E l left entry
  entry_met_by E above behind (Node AtEntry n (Node NeverEntry by e)) o z = absurd (never_met by z.claims.0)
  entry_met_by E above behind (Node AtEntry n (Node WithEntry ws choice)) o z =
      let a = and_parts (is_number p n) _ z.form in
      let b = and_parts (are_for q.variables args) _ a.1 in
      let c = and_parts (have_types (sight_at s p) q.others ws) _ b.1 in
      let d = and_parts (is_some (chosen q.alternatives choice)) _ c.1 in
      let alternative = is_alternative q.alternatives choice d.0 in
      record {
        is_alternative = alternative;
        are_values = witnesses_sorted ws b.0 q.others ws c.0;
        hold = λ k n a x.
            routes_met ws b.0 c.0 E above behind (chosen_atoms q.alternatives choice) (routes_of choice) (contained (AreNamedAtoms s.declarations q) q.alternatives _ o alternative) d.1 z.claims k (n, a) x;
      }
  entry_met_by E above behind entry o z = absurd (both_ways _ refl z.form)

  -- so the event is met by the events that were recorded
  module _ (es : List Happened) (kept : EventsKept l.memory.events es) where
    recorded_above : ExecutesAbove (λ n u e. Contains es e)
    recorded_above f n ms node = recorded_contains (event_of f n at) es (kept (event_of f n at) (above_event f n ms node).recorded)

    recorded_behind : ExecutesBehind (λ n u e. Contains es e)
    recorded_behind x u v e r Δ one h f n ms node = recorded_contains (event_of f n h.indices) es (kept (event_of f n h.indices) (site_event x u v h f n ms node).recorded)

    held_of : (ρ : Indices) (c : Atom) (route : Tree) → HoldsBy g (λ n u e. Contains es e) l ρ c route → IsHeld g es ρ c
    held_of ρ (RightEvent inj f ms) route h = h
    held_of ρ (RightTerm t) route h = h

    pub entry_met : (entry : Tree) → HasNamedAtoms s.declarations q → IsEntry s q p entry → IsMet g q es left
    entry_met entry o z =
        let r = entry_met_by (λ n u e. Contains es e) recorded_above recorded_behind entry o z in
        record {
          alternative = entry_atoms q entry;
          is_alternative = r.is_alternative;
          others = values_here g l (witnesses_of entry);
          are_values = r.are_values;
          hold = λ k j a x. held_of (query_values q left (values_here g l (witnesses_of entry))) a (item_at (entry_routes entry) k) (r.hold k j a x);
        }
