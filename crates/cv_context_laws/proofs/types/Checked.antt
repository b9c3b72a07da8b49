-- In a game that typing accepts each definition has the type of its name.
use Rattle.std.proofs.Common.{◌≡◌, ℕ, ◌==◌, Bool, true, false, cond, List, [], Option, Some, None, is_some, refl, sym, ap, ◌∙◌, eq-eqb}
use Rattle.std.proofs.lemmas.Bool.{both_ways, or_left, or_parts, or_right}
use Rattle.std.specs.Prelude.{option_map}
use Rattle.cv_syntax.specs.faults.Walk.{IsObeyed}
use Rattle.cv_syntax_trees.specs.declared.head.Head.{Head}
use Rattle.cv_syntax_trees.specs.declared.head.Head.TheVariants.{Binder, Branch, In, Let, New}
use Rattle.cv_syntax_trees.specs.Declarations.{Declaration}
use Rattle.cv_syntax_trees.specs.Tree.{Tree, Empty, Node, second}
use Rattle.cv_syntax_trees.specs.sites.Sites.{Variable, at_parameters, bound_sort, first_of, first_site, parameters_below, site_here, sites_of}
use Rattle.cv_syntax_trees.specs.declared.sites.sort.Sort.{Sort}
use Rattle.cv_syntax_trees.specs.declared.sites.sort.Sort.TheVariants.{BelowParameter, OfType}
use Rattle.cv_scope_rules.specs.typing.Parts.{IsTypedGame, nothing_above}
use Rattle.cv_scope_rules.specs.typing.Signature.{Above, OfGame, Signature, variable_sort}
use Rattle.cv_scope_rules.specs.typing.Typing.{binders_differ, site_differs, typing_walk}
use Rattle.cv_syntax_trees.specs.sites.Sorts.{differs_from}
use Rattle.cv_scope_rules.specs.typing.Wants.{Run, Want}
use Rattle.cv_scope_rules.specs.declared.typing.form.Form.TheVariants.{InProcess}
use Rattle.cv_typing_runs.proofs.Terms.{faultless, same_sorts}
use Rattle.cv_scope_rules.specs.Made.{made_by}
use Rattle.cv_scope_rules.specs.Sites.{Variable as Named}
use Rattle.cv_context_runs.specs.visits.Fine.{defines}
use Rattle.cv_context_laws.specs.types.Typed.{sort_name, type_by, variable_type}
use Rattle.cv_context_laws.proofs.types.Definitions.{HasTypes}
use Rattle.cv_scope_runs.proofs.Games.{first_some, second_some}

some_at : (ps : List ℕ) (o : Option Sort) (q : Option Variable) → is_some o ≡ true → is_some (first_of (at_parameters ps o) q) ≡ true
some_at ps None q e = absurd (both_ways false refl e)
some_at ps (Some S) q e = refl

module _ (ds : List Declaration) (game : Tree) where
  abbrev e : Signature
  e = record { declarations = ds; arrays = OfGame (sites_of game) }

  abbrev IsThere : ℕ → Type 0
  IsThere x = is_some (first_site x [] game) ≡ true

  -- a tree of the game, as typing comes to it
  pub record IsChecked (t : Tree) : Type 0 where
    pub state : Above × Want
    pub parameters : List ℕ
    pub obeyed : IsObeyed (typing_walk e) state t
    pub there : (x : ℕ) → is_some (first_site x parameters t) ≡ true → IsThere x
    pub defined : (x : ℕ) → defines x t ≡ true → defines x game ≡ true

  -- the first definition of a name gives the sort of each other one
  sorted_as : (x : ℕ) (S : Sort) → IsThere x → differs_from (variable_sort e.arrays x) S ≡ false → sort_name S ≡ variable_type game x
  sorted_as x S i d = go (first_site x [] game) i d
    where
      go : (o : Option Variable) → is_some o ≡ true → differs_from (option_map (λ (v : Variable). v.sort) o) S ≡ false → sort_name S ≡ type_by o
      go None i d = absurd (both_ways false refl i)
      go (Some v) i d = ap sort_name (same_sorts v.sort S d)

  binders_sorted : (sort : ℕ → Sort) → ((U : ℕ) → sort_name (sort U) ≡ U) → (t : Tree) → binders_differ e.arrays sort t ≡ false → ((x : ℕ) → is_some (bound_sort sort x t) ≡ true → IsThere x) → HasTypes (variable_type game) t
  unfolding binders_differ bound_sort HasTypes
  binders_sorted sort n Empty d f = tt
  binders_sorted sort n (Node (Binder y U) a b) d f =
      let o = or_parts (differs_from (variable_sort e.arrays y) (sort U)) (binders_differ e.arrays sort b) d in (
        sym (n U) ∙ sorted_as y (sort U) (f y (ap (λ c. is_some (cond c (Some (sort U)) (bound_sort sort y b))) (eq-eqb y y refl))) o.0,
        binders_sorted sort n b o.1 (λ x i. f x (rest x (y == x) i)),
      )
    where
      rest : (x : ℕ) (c : Bool) → is_some (bound_sort sort x b) ≡ true → is_some (cond c (Some (sort U)) (bound_sort sort x b)) ≡ true
      rest x true i = refl
      rest x false i = i
  binders_sorted sort n (Node h a b) d f = binders_sorted sort n b d f

  module _ (h : Head) (a b : Tree) (c : IsChecked (Node h a b)) where
    pub first_checked : IsChecked a
    unfolding IsObeyed first_site defines
    first_checked = record {
      state = (typing_walk e).first c.state h a;
      parameters = c.parameters;
      obeyed = c.obeyed.1;
      there = λ x i. c.there x (second_some (at_parameters c.parameters (site_here x h a)) _ (first_some (first_site x c.parameters a) _ i));
      defined = λ x i. c.defined x (or_right (made_by h a (Named x)) _ (or_left (defines x a) (defines x b) i));
    }

    pub second_checked : IsChecked b
    unfolding IsObeyed first_site defines
    second_checked = record {
      state = (typing_walk e).second c.state h a;
      parameters = parameters_below h c.parameters;
      obeyed = c.obeyed.2;
      there = λ x i. c.there x (second_some (at_parameters c.parameters (site_here x h a)) _ (second_some (first_site x c.parameters a) _ i));
      defined = λ x i. c.defined x (or_right (made_by h a (Named x)) _ (or_right (defines x a) (defines x b) i));
    }

    site : site_differs e.arrays h a ≡ false
    unfolding IsObeyed
    site = (faultless e c.state.0 c.state.1 h a c.obeyed.0).site

    here : (x : ℕ) → is_some (site_here x h a) ≡ true → IsThere x
    unfolding first_site
    here x i = c.there x (some_at c.parameters (site_here x h a) _ i)

    pub made_here : (x : ℕ) → made_by h a (Named x) ≡ true → defines x game ≡ true
    unfolding defines
    made_here x i = c.defined x (or_left (made_by h a (Named x)) _ i)

  itself : (x : ℕ) (S : Sort) → is_some (cond (x == x) (Some S) None) ≡ true
  itself x S = ap (λ b. is_some (cond b (Some S) None)) (eq-eqb x x refl)

  -- the definitions of a node

  pub new_typed : (x U : ℕ) (a b : Tree) → IsChecked (Node (New x U) a b) → U ≡ variable_type game x
  new_typed x U a b c = sorted_as x (OfType U) (here (New x U) a b c x (itself x (OfType U))) (site (New x U) a b c)

  pub new_defined : (x U : ℕ) (a b : Tree) → IsChecked (Node (New x U) a b) → defines x game ≡ true
  new_defined x U a b c = made_here (New x U) a b c x (eq-eqb x x refl)

  pub let_typed : (x U : ℕ) (a b : Tree) → IsChecked (Node (Let x U) a b) → U ≡ variable_type game x
  let_typed x U a b c = sorted_as x (OfType U) (here (Let x U) a b c x (itself x (OfType U))) (site (Let x U) a b c)

  pub input_typed : (x : ℕ) (a b : Tree) → IsChecked (Node (In x) a b) → HasTypes (variable_type game) (second a)
  input_typed x a b c = binders_sorted OfType (λ U. refl) (second a) (site (In x) a b c) (here (In x) a b c)

  pub branch_typed : (a b : Tree) → IsChecked (Node Branch a b) → HasTypes (variable_type game) a
  branch_typed a b c = binders_sorted BelowParameter (λ U. refl) a (site Branch a b c) (here Branch a b c)

  pub game_checked : IsTypedGame ds game → IsChecked game
  game_checked k = record { state = (nothing_above, Run InProcess); parameters = []; obeyed = k; there = λ x i. i; defined = λ x i. i }
