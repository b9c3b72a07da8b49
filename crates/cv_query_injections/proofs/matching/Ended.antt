-- Where the routes of an entry end, by the values that the index terms of their ends have at the end of a run.
use Rattle.std.proofs.Common.{◌≡◌, ℕ, zero, suc, ◌+◌, Bool, true, false, ◌||◌, ◌==◌, List, [], ◌∷◌, ◌++◌, length, map, take, inl, Some, refl, sym, ap, ap₂, subst, ◌∙◌}
use Rattle.std.proofs.lemmas.Bool.{and_parts, both_ways}
use Rattle.std.specs.List.{AllByRecursion}
use Rattle.cv_syntax_trees.specs.declared.head.Head.TheVariants.{AboveRoute, CellRoute, Cons, Defined, Leaf, Read}
use Rattle.cv_syntax_trees.specs.Tree.{Tree, Empty, Node, first}
use Rattle.cv_syntax.specs.Layouts.{IsSyntax}
use Rattle.cv_meaning.specs.Interpretation.{Interpretation, Setting, setting_of}
use Rattle.cv_meaning.specs.Memory.{Indices, Store, tuple}
use Rattle.cv_meaning.specs.Terms.{found_in, leaf_value_from, value, values}
use Rattle.cv_meaning.specs.Tapes.{Tape}
use Rattle.cv_meaning.specs.Runs.{Adversary, Events}
use Rattle.cv_meaning.specs.Experiments.{run, visits_of_run}
use Rattle.cv_meaning.specs.Serving.{Visit}
use Rattle.cv_meaning.specs.Correspondences.{Atom, RightEvent}
use Rattle.cv_meaning_laws.specs.adequacy.Broken.{StandsAt}
use Rattle.cv_scope_rules.specs.Above.{stands_at}
use Rattle.cv_scope_rules.specs.Behind.{sites_of}
use Rattle.cv_scope_rules.specs.Context.{Context, items, known_at}
use Rattle.cv_scope_rules.specs.Phrases.{Nil, is_phrase}
use Rattle.cv_scope_rules.specs.Rules.{is_index}
use Rattle.cv_scope_rules.specs.Scope.{is_variable}
use Rattle.cv_scope_runs.specs.Promises.{AreIndicesOf}
use Rattle.cv_scope_runs.specs.Reads.{IsKept}
use Rattle.cv_scope_runs.proofs.ServeRuns.{VisitHolds}
use Rattle.cv_scope_runs.proofs.Standing.{stands_known}
use Rattle.cv_scope_runs.proofs.TermsLater.{AllReadable, store_extends, values_kept}
use Rattle.cv_typing_runs.proofs.Terms.{nil_empty}
use Rattle.cv_derive_facts.specs.Definitions.{IsBehind}
use Rattle.cv_scene.specs.Late.{index_term}
use Rattle.cv_scene.specs.Pairs.{second_index, second_indices}
use Rattle.cv_scene.specs.Scenes.{Scene}
use Rattle.cv_scene.specs.Sights.{is_cell_at}
use Rattle.cv_scene.specs.Terms.{replications_at, replications_by}
use Rattle.cv_scene.specs.lines.Lines.{lines_of, statements}
use Rattle.cv_derive_laws.specs.reached.Fine.{IsFine, IsFineTerm}
use Rattle.cv_derive_laws.specs.stores.Holding.{HoldAtVisit, IsReady}
use Rattle.cv_derive_laws.proofs.reached.Targets.{ends_hold}
use Rattle.cv_query_certificates.specs.Accepted.{Proves}
use Rattle.cv_query_certificates.specs.Claims.{claim_of, claims_of}
use Rattle.cv_query_certificates.specs.EventNodes.{place_in}
use Rattle.cv_query_certificates.specs.Forms.{has_route_form, have_route_forms}
use Rattle.cv_query_certificates.specs.Pairs.{End, end_of}
use Rattle.cv_query_laws.specs.routes.Ends.{item_at, route_place, route_tuple}
use Rattle.cv_query_laws.specs.visits.Visited.{HasVisitAbove, IsFront}
use Rattle.cv_query_laws.proofs.correspondences.Behind.{EventNode, event_node}
use Rattle.cv_query_laws.proofs.routes.Executed.{event_above, fine, grows_at, holds_at}
use Rattle.cv_query_laws.proofs.visits.OneBody.{front_take}
use Rattle.cv_syntax_trees.proofs.lists.Options.{none_some, some_injective}
use Rattle.cv_syntax_trees.proofs.lists.Tests.{equals_refl}
use Rattle.cv_query_secrets.proofs.copies.Values.{cell_fine}
use Rattle.cv_query_injections.proofs.places.Reads.{IfCell, IsRead, derivation_reads}

-- lists

pub take_mapped : {A B : Type 0} (f : A → B) (n : ℕ) (xs : List A) → map f (take n xs) ≡ take n (map f xs)
take_mapped f zero xs = refl
take_mapped f (suc n) [] = refl
take_mapped f (suc n) (x ∷ xs) = ap (λ l. f x ∷ l) (take_mapped f n xs)

all_taken : {A : Type 0} (P : A → Type 0) (n : ℕ) (xs : List A) → AllByRecursion P xs → AllByRecursion P (take n xs)
all_taken P zero xs h = tt
all_taken P (suc n) [] h = tt
all_taken P (suc n) (x ∷ xs) h = (h.0, all_taken P n xs h.1)

pub map_twice : {A B C : Type 0} (f : B → C) (h : A → B) (xs : List A) → map f (map h xs) ≡ map (λ x. f (h x)) xs
map_twice f h [] = refl
map_twice f h (x ∷ xs) = ap (λ l. f (h x) ∷ l) (map_twice f h xs)

pub items_values : (g : Setting) (at : Indices) (m : Store) (t : Tree) → map (value g at m) (items t) ≡ values g at m t
unfolding values
items_values g at m Empty = refl
items_values g at m (Node h a b) = ap (λ l. value g at m a ∷ l) (items_values g at m b)

-- the indices of outer replications are the first ones

module _ {A : Type 0} (f : ℕ × ℕ → A) (by_name : (r p : ℕ × ℕ) → r.0 ≡ p.0 → f r ≡ f p) (g : Setting) where
  front_mapped : (z more : Indices) (rs ps : List (ℕ × ℕ)) → AreIndicesOf g z rs → AreIndicesOf g (z ++ more) ps → map f rs ≡ take (length rs) (map f ps)
  front_mapped [] more [] ps h k = refl
  front_mapped [] more (r ∷ rs) ps h k = absurd h
  front_mapped (c ∷ z) more [] ps h k = absurd h
  front_mapped (c ∷ z) more (r ∷ rs) [] h k = absurd k
  front_mapped (c ∷ z) more (r ∷ rs) (p ∷ ps) h k = ap₂ ◌∷◌ (by_name r p (sym h.0 ∙ k.0)) (front_mapped z more rs ps h.2 k.2)

module _ (g : Setting) (z at : Indices) (front : IsFront z at) (rs ps : List (ℕ × ℕ)) (h : AreIndicesOf g z rs) (k : AreIndicesOf g at ps) where
  whole : AreIndicesOf g (z ++ front.0) ps
  whole = subst (λ ix. AreIndicesOf g ix ps) front.1 k

  pub first_terms : map index_term rs ≡ take (length rs) (map index_term ps)
  first_terms = front_mapped index_term (λ r p e. ap (λ x. index_term (x, 0)) e) g z front.0 rs ps h whole

  pub second_terms : (j : ℕ) → map index_term (second_indices j rs) ≡ take (length rs) (map index_term (second_indices j ps))
  second_terms j =
      map_twice index_term (second_index j) rs
      ∙ front_mapped (λ r. index_term (second_index j r)) (λ r p e. ap (λ x. index_term (x + j, 0)) e) g z front.0 rs ps h whole
      ∙ ap (take (length rs)) (sym (map_twice index_term (second_index j) ps))

-- the values of indices
index_values : (g : Setting) (at : Indices) (m : Store) (a : Indices) (rs : List (ℕ × ℕ)) → AreIndicesOf g a rs → AllByRecursion (λ (c : ℕ × ℕ). found_in at c.0 ≡ Some c.1) a → map (value g at m) (map index_term rs) ≡ tuple a
unfolding value
index_values g at m [] [] h f = refl
index_values g at m [] (r ∷ rs) h f = absurd h
index_values g at m (c ∷ a) [] h f = absurd h
index_values g at m (c ∷ a) (r ∷ rs) h f = ap₂ ◌∷◌ (ap (leaf_value_from g m r.0) (ap (found_in at) (sym h.0) ∙ f.0)) (index_values g at m a rs h.2 f.1)

indices_fine : (s : Scene) (all rs : List (ℕ × ℕ)) → ((x : ℕ) → is_index rs x ≡ true → is_index all x ≡ true) → AllByRecursion (IsFineTerm s.declarations s.game all) (map index_term rs)
indices_fine s all [] k = tt
indices_fine s all (r ∷ rs) k = (inl (k r.0 (ap (λ b. b || is_index rs r.0) (equals_refl r.0))), indices_fine s all rs (λ x e. k x (or_more (r.0 == x) (is_index rs x) e)))
  where
    or_more : (a b : Bool) → b ≡ true → (a || b) ≡ true
    or_more true b e = refl
    or_more false b e = e

-- An end at a copy of a place: its index terms name what they may there, and have these values.
pub record EndsAt (s : Scene) (i : Interpretation) (place : ℕ) (at : Indices) (m : Store) (e : End) (u : List ℕ) : Type 0 where
  pub are_fine : AllByRecursion (IsFineTerm s.declarations s.game (replications_at s place)) e.indices
  pub are_values : map (value (setting_of s.declarations i) at m) e.indices ≡ u

-- a route with its end
pub record RouteEnds (s : Scene) (i : Interpretation) (place : ℕ) (at : Indices) (m : Store) (route : Tree) (u : List ℕ) : Type 0 where
  pub end : End
  pub is : end_of s route ≡ Some end
  pub there : end.node ≡ route_place route
  pub ends : EndsAt s i place at m end u

-- the route of an atom, and its derivation
pub route_at : (s : Scene) (p : ℕ) (put : Tree → Tree) (cs : List (ℕ × Atom)) (routes : Tree) → have_route_forms s p cs routes ≡ true → AllByRecursion (Proves s p) (claims_of s put cs routes) → (n : ℕ) (c : ℕ × Atom) → StandsAt cs n c
    → (has_route_form s p c.1 (item_at routes n) ≡ true) × Proves s p (claim_of s put c.1 (item_at routes n))
route_at s p put [] routes e d n c k = absurd (none_some c k)
route_at s p put (b ∷ cs) Empty e d n c k = absurd (both_ways _ refl e)
route_at s p put (b ∷ cs) (Node h route more) e d zero c k =
    subst (λ (c : ℕ × Atom). (has_route_form s p c.1 route ≡ true) × Proves s p (claim_of s put c.1 route)) (some_injective k) ((and_parts (has_route_form s p b.1 route) _ e).0, d.0)
route_at s p put (b ∷ cs) (Node h route more) e d (suc n) c k = route_at s p put cs more (and_parts (has_route_form s p b.1 route) _ e).1 d.1 n c k

module _ (s : Scene) (ready : IsReady s.declarations s.game) (i : Interpretation) (names : (p : ℕ) (Γ : Context) → stands_at s.game p ≡ Some Γ → IsFine s.declarations s.game Γ) (behind : (y : ℕ) → AllByRecursion (IsBehind s.game) (sites_of s.game y)) (a : Adversary) (t : Tape)
    (number : ℕ) (v : Visit) (stands : StandsAt (visits_of_run (setting_of s.declarations i) Events a s.game t) number v) (counts : IsSyntax v.tree) (derives : HoldAtVisit s i v) where
  abbrev g : Setting
  g = setting_of s.declarations i

  abbrev variable : ℕ → Bool
  variable = is_variable s.game

  abbrev at : Indices
  at = v.before.indices

  abbrev m : Store
  m = v.before.memory.store

  abbrev last : Store
  last = (run g Events a s.game t).memory.store

  here : VisitHolds g variable s.game (fine s ready i a t) v
  here = holds_at s ready i a t number v stands

  kept : IsKept m last
  kept = (grows_at s ready i a t number v stands).store

  known : known_at s.game v.place ≡ Some here.above
  known = stands_known s.game v.place here.phrase here.above v.tree counts here.stands

  pub own_indices : AreIndicesOf g at (replications_at s v.place)
  own_indices = subst (λ o. AreIndicesOf g at (replications_by o)) (sym known) here.matches.named

  -- what is known at a node that was visited above, and its indices, at first indices of the visit

  pub above_known : (place : ℕ) (node : Tree) (q : ℕ) (ix : Indices) → IsSyntax node → HasVisitAbove g t (visits_of_run g Events a s.game t) place node q ix → (Γ : Context) × (known_at s.game place ≡ Some Γ)
  above_known place node q ix w z =
      let y = holds_at s ready i a t z.number z.visit z.stands in
      (y.above, subst (λ p. known_at s.game p ≡ Some y.above) z.there (stands_known s.game z.visit.place y.phrase y.above z.visit.tree (subst IsSyntax (sym z.same) w) y.stands))

  pub above_indices : (place : ℕ) (node : Tree) (q : ℕ) (ix : Indices) → IsSyntax node → (z : HasVisitAbove g t (visits_of_run g Events a s.game t) place node q ix) → AreIndicesOf g z.visit.before.indices (replications_at s place)
  unfolding above_known
  above_indices place node q ix w z =
      let y = holds_at s ready i a t z.number z.visit z.stands in
      subst (λ o. AreIndicesOf g z.visit.before.indices (replications_by o)) (sym (above_known place node q ix w z).1) y.matches.named

  module _ (u : List ℕ) where
    above_ends : (f n : ℕ) (ms : Tree) → EventNode s.game f ms n v.place → IsFront u (tuple at) → length u ≡ length (replications_at s n) → EndsAt s i v.place at last (record { node = n; indices = map index_term (replications_at s n) }) u
    above_ends f n ms node front long =
        let z = event_above s ready i a t number v stands counts f n ms node in
        let terms = first_terms g z.visit.before.indices at z.front (replications_at s n) (replications_at s v.place) (above_indices n _ v.place at refl z) own_indices in
        record {
          are_fine = subst (AllByRecursion (IsFineTerm s.declarations s.game (replications_at s v.place))) (sym terms)
              (all_taken (IsFineTerm s.declarations s.game (replications_at s v.place)) (length (replications_at s n)) (map index_term (replications_at s v.place)) (indices_fine s (replications_at s v.place) (replications_at s v.place) (λ x e. e)));
          are_values =
              ap (map (value g at last)) terms
              ∙ take_mapped (value g at last) (length (replications_at s n)) (map index_term (replications_at s v.place))
              ∙ ap (take (length (replications_at s n))) (index_values g at last at (replications_at s v.place) own_indices here.matches.found)
              ∙ front_take (length (replications_at s n)) u (tuple at) front long;
        }

    cell_ends : (n : ℕ) (c : Tree) → is_cell_at s v.place c ≡ true → AllReadable g variable at m (first c) → IsFront u (values g at m (first c)) → length u ≡ length (replications_at s n)
        → EndsAt s i v.place at last (record { node = n; indices = take (length (replications_at s n)) (items (first c)) }) u
    cell_ends n c typed reads front long = record {
      are_fine = all_taken (IsFineTerm s.declarations s.game (replications_at s v.place)) (length (replications_at s n)) (items (first c)) (cell_fine s ready v.place c typed);
      are_values =
          take_mapped (value g at last) (length (replications_at s n)) (items (first c))
          ∙ ap (take (length (replications_at s n))) (items_values g at last (first c) ∙ values_kept g variable at m at last (store_extends g variable at m last kept) (first c) reads)
          ∙ front_take (length (replications_at s n)) u (values g at m (first c)) front long;
    }

    read_terms : (c : Tree) → IsRead s i names behind (fine s ready i a t) v counts here c → AllReadable g variable at m (first c)
    unfolding is_phrase
    read_terms Empty r = tt
    read_terms (Node (Leaf x) b d) r = subst (AllReadable g variable at m) (sym (nil_empty b (and_parts (is_phrase Nil b) (is_phrase Nil d) r.phrase).0)) tt
    read_terms (Node (Read x) b d) r = r.reads.readable.1
    read_terms (Node h b d) r = absurd (both_ways _ refl r.phrase)

    route_reads : (c by lines : Tree) → Proves s v.place (record { by = by; targets = Node Cons (Node Defined c Empty) lines }) → AllReadable g variable at m (first c)
    unfolding lines_of statements
    route_reads c by lines d =
        let all = derivation_reads s i names behind (fine s ready i a t) v counts here by d.right ((derives counts).0 by d.right) in
        read_terms c
        (ends_hold (IfCell s i names behind (fine s ready i a t) v counts here) (statements (lines_of by)) (statements (lines_of (Node Cons (Node Defined c Empty) lines))) d.end all).0

    pub route_ends : (put : Tree → Tree) (inj : Bool) (f : ℕ) (ms route : Tree) → has_route_form s v.place (RightEvent inj f ms) route ≡ true → Proves s v.place (claim_of s put (RightEvent inj f ms) route) → IsFront u (route_tuple g v.before route) → length u ≡ length (replications_at s (route_place route))
        → RouteEnds s i v.place at last route u
    route_ends put inj f ms (Node AboveRoute n by) e d front long = record {
      end = record { node = place_in n; indices = map index_term (replications_at s (place_in n)) };
      is = refl;
      there = refl;
      ends = above_ends f (place_in n) ms (event_node s.game f ms (place_in n) v.place e) front long;
    }
    route_ends put inj f ms (Node CellRoute c (Node h n by)) e d front long = record {
      end = record { node = place_in n; indices = take (length (replications_at s (place_in n))) (items (first c)) };
      is = refl;
      there = refl;
      ends = cell_ends (place_in n) c (and_parts (is_cell_at s v.place c) _ e).0 (route_reads c by _ d) front long;
    }
    route_ends put inj f ms (Node CellRoute c Empty) e d front long = absurd (both_ways _ refl e)
    route_ends put inj f ms (Node h b d) e c front long = absurd (both_ways _ refl e)
    route_ends put inj f ms Empty e d front long = absurd (both_ways _ refl e)
