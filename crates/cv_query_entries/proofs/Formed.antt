-- The form of entries, route by route and term by term.
use Rattle.std.proofs.lemmas.List.{drop_all, drop_more}
use Rattle.std.proofs.Common.{◌≡◌, ℕ, ◌+◌, ◌<◌, ◌≤◌, length, drop, get_or, Option, Some, None, is_some, Bool, true, false, ◌&&◌, List, [], refl, sym, ap, ap₂, ◌∙◌}
use Rattle.cv_pool.specs.KindTree.{KindTree}
use Rattle.cv_syntax_trees.specs.declared.head.Head.{Head}
use Rattle.cv_syntax_trees.specs.Children.{is_empty}
use Rattle.cv_syntax_trees.specs.Tree.{Tree, Empty, Node}
use Rattle.cv_syntax.specs.PoolTrees.{tree_at}
use Rattle.cv_syntax.proofs.Trees.{tree_of_NoTree}
use Rattle.cv_meaning.specs.Correspondences.{Atom, Correspondence, atom_of, leaf_names}
use Rattle.cv_query_certificates.specs.Alternatives.{atoms_of_chosen, chosen_by, number_in, routes_of}
use Rattle.cv_scene.specs.Scenes.{Scene}
use Rattle.cv_scene.specs.Sights.{Sight, sight_at}
use Rattle.cv_query_certificates.specs.EventNodes.{are_as_many, are_for, arguments_at}
use Rattle.cv_query_certificates.specs.Failures.{first_unformed}
use Rattle.cv_query_certificates.specs.Forms.{has_choice, has_form, have_route_forms, have_types, is_number}
use Rattle.cv_query_parts.specs.Alternatives.{atoms_seen}
use Rattle.cv_query_parts.specs.Said.{Saying, Way, With, has_saying, has_way, has_with, saying_of, way_of}
use Rattle.cv_query_parts.specs.declared.alternatives.NumberedAtom.{NumberedAtom}
use Rattle.cv_query_parts.proofs.Said.{entry_form, route_form}

pub ruleset formed = (tree_of_NoTree)

-- as many terms as variables
pub for_variables : (xs ms : Tree) → are_for (leaf_names xs) ms ≡ are_as_many xs ms
for_variables Empty Empty = refl
for_variables Empty (Node k n ns) = refl
for_variables (Node h x xs) Empty = refl
for_variables (Node h x xs) (Node k m ms) = for_variables xs ms

-- an entry by what it says

pub form_of : (s : Scene) (q : Correspondence) (p : ℕ) (t : Tree) (x : Saying) (b : Bool) → x ≡ saying_of t → b ≡ has_saying s q p x → b ≡ has_form s q p t
form_of s q p t x b e f = f ∙ (ap (has_saying s q p) e ∙ sym (entry_form s q p t))

pub number_first : (s : Scene) (q : Correspondence) (p : ℕ) (n ws choice : Tree) (b : Bool) → b ≡ is_number p n → b ≡ false → false ≡ has_saying s q p (With n ws choice)
number_first s q p n ws choice b e f = sym (ap (λ c. c && has_with s q p ws choice) (sym e ∙ f))

module _ (s : Scene) (q : Correspondence) (p : ℕ) (ws choice xs ms : Tree) (e : q.variables ≡ leaf_names xs) (f : ms ≡ arguments_at s.game p) (b : Bool) (g : b ≡ are_as_many xs ms) where
  many_by : are_for q.variables (arguments_at s.game p) ≡ b
  many_by = ap₂ are_for e (sym f) ∙ (for_variables xs ms ∙ sym g)

  pub with_few : b ≡ false → false ≡ has_with s q p ws choice
  with_few i = sym (ap (λ c. c && (have_types (sight_at s p) q.others ws && has_choice s q p choice)) (many_by ∙ i))

  module _ (i : b ≡ true) (t : Bool) (j : t ≡ have_types (sight_at s p) q.others ws) where
    with_types : has_with s q p ws choice ≡ (t && has_choice s q p choice)
    with_types = ap₂ (λ c d. c && (d && has_choice s q p choice)) (many_by ∙ i) (sym j)

    pub with_others : t ≡ false → false ≡ has_with s q p ws choice
    with_others k = sym (with_types ∙ ap (λ c. c && has_choice s q p choice) k)

    pub with_choice : t ≡ true → (r : Bool) → r ≡ has_choice s q p choice → r ≡ has_with s q p ws choice
    with_choice k r l = l ∙ sym (with_types ∙ ap (λ c. c && has_choice s q p choice) k)

-- an alternative that is chosen, or none

module _ (s : Scene) (q : Correspondence) (p : ℕ) (choice : Tree) (n : Option ℕ) (o : Option (List (ℕ × Atom))) (e : n ≡ number_in choice) (f : o ≡ chosen_by q.alternatives n) where
  chosen_here : has_choice s q p choice ≡ (is_some o && have_route_forms s p (atoms_of_chosen o) (routes_of choice))
  chosen_here = ap (λ c. is_some c && have_route_forms s p (atoms_of_chosen c) (routes_of choice)) (ap (chosen_by q.alternatives) (sym e) ∙ sym f)

  pub no_choice : o ≡ None → false ≡ has_choice s q p choice
  no_choice g = sym (chosen_here ∙ ap (λ c. is_some c && have_route_forms s p (atoms_of_chosen c) (routes_of choice)) g)

  pub by_choice : (atoms : List (ℕ × Atom)) (routes : Tree) (b : Bool) → o ≡ Some atoms → routes ≡ routes_of choice → b ≡ have_route_forms s p atoms routes → b ≡ has_choice s q p choice
  by_choice atoms routes b g h i =
      i ∙ (ap (have_route_forms s p atoms) h ∙ sym (chosen_here ∙ ap (λ c. is_some c && have_route_forms s p (atoms_of_chosen c) (routes_of choice)) g))

pub no_entry : (s : Scene) (q : Correspondence) (ps : List ℕ) (k : ℕ) (t : Tree) → k < length ps → t ≡ Empty → Some (get_or ps k 0) ≡ first_unformed s q (drop k ps) t
no_entry s q ps k t l e = sym (ap₂ (first_unformed s q) (drop_more ps k 0 l) e)

pub no_witness : (s : Sight) (xs : List (ℕ × ℕ)) (k : ℕ) (t : Tree) → k < length xs → t ≡ Empty → false ≡ have_types s (drop k xs) t
no_witness s xs k t l e = sym (ap₂ (have_types s) (drop_more xs k (0, 0) l) e)

-- the routes for atoms, one by one

module _ (s : Scene) (p : ℕ) (trees : List KindTree) (xs : List NumberedAtom) (k : ℕ) (t : Tree) where
  abbrev forms_from : ℕ → Tree → Bool
  forms_from k t = have_route_forms s p (atoms_seen trees (drop k xs)) t

  pub no_more_atoms : length xs ≤ k → (c : Bool) → c ≡ is_empty t → c ≡ forms_from k t
  no_more_atoms l c e = e ∙ sym (ap (λ ys. have_route_forms s p (atoms_seen trees ys) t) (drop_all k xs l) ∙ none t)
    where
      none : (t : Tree) → have_route_forms s p [] t ≡ is_empty t
      none Empty = refl
      none (Node h a b) = refl

  module _ (d : NumberedAtom) (l : k < length xs) where
    pub no_route : t ≡ Empty → false ≡ forms_from k t
    no_route e = sym (ap₂ (λ ys u. have_route_forms s p (atoms_seen trees ys) u) (drop_more xs k d l) e)

    module _ (h : Head) (r more : Tree) (e : t ≡ Node h r more) (c : Atom) (w : Way) (b : Bool) (g : c ≡ atom_of (tree_at trees (get_or xs k d).atom)) (i : w ≡ way_of r) (j : b ≡ has_way s p c w) where
      one_route : forms_from k t ≡ (b && forms_from (k + 1) more)
      one_route =
          ap₂ (λ ys u. have_route_forms s p (atoms_seen trees ys) u) (drop_more xs k d l) e
          ∙ ap (λ x. x && forms_from (k + 1) more) (route_form s p (atom_of (tree_at trees (get_or xs k d).atom)) r ∙ sym (j ∙ ap₂ (has_way s p) g i))

      pub bad_route : b ≡ false → false ≡ forms_from k t
      bad_route m = sym (one_route ∙ ap (λ x. x && forms_from (k + 1) more) m)

      pub next_route : b ≡ true → forms_from (k + 1) more ≡ forms_from k t
      next_route m = sym (one_route ∙ ap (λ x. x && forms_from (k + 1) more) m)
