-- Where the types and parameters of a game pass the test, they are declared.
use Rattle.std.proofs.Common.{◌≡◌, ℕ, ◌==◌, Bool, true, false, cond, List, [], ◌∷◌, Contains, Option, Some, ◌⊎◌, inl, inr, refl, sym, subst, eqb-true}
use Rattle.std.proofs.lemmas.Bool.{and_parts, both_ways, or_cases}
use Rattle.cv_syntax_trees.specs.declared.class.Class.TheVariants as class
use Rattle.cv_syntax_trees.specs.declared.head.Head.{Head}
use Rattle.cv_syntax_trees.specs.declared.head.Head.TheVariants.{Binder, Branch, In, Let, New, Repl}
use Rattle.cv_syntax_trees.specs.Declarations.{Declaration, Named}
use Rattle.cv_syntax_trees.specs.Tree.{Tree, Empty, Node, second}
use Rattle.cv_meaning_laws.proofs.Listed.{Has}
use Rattle.cv_meaning_laws.specs.adequacy.Typed.{IsDeclared}
use Rattle.cv_meaning_laws.specs.adequacy.Typed as meaning
use Rattle.cv_meaning_laws.proofs.adequacy.Lists.{has_contains}
use Rattle.cv_syntax_trees.specs.declared.sites.sort.Sort.{Sort}
use Rattle.cv_syntax_trees.specs.declared.sites.sort.Sort.TheVariants.{BelowParameter, OfType}
use Rattle.cv_scope_rules.specs.typing.Signature.{declaration_of, is_of}
use Rattle.cv_typing_runs.specs.Games.{AreDeclared, HasDeclaredSorts, NamesDeclared, sort_of_meaning}
use Rattle.cv_scene.specs.Scenes.{is_type_by}
use Rattle.cv_steps_laws.specs.crypto.Sorts.{are_declared, has_declared_sorts, is_parameter, is_parameter_by, is_type, names_declared}

-- the declaration that is found by a name is one of the list, and of this name
found : (ds : List Declaration) (x : ℕ) (d : Declaration) → declaration_of ds x ≡ Some d → Has ds d × (is_of x d ≡ true)
found [] x d e = absurd (cc)
found (c ∷ ds) x d e = go (is_of x c) refl e (found ds x d)
  where
    go : (v : Bool) → is_of x c ≡ v → cond v (Some c) (declaration_of ds x) ≡ Some d → (declaration_of ds x ≡ Some d → Has ds d × (is_of x d ≡ true)) → Has (c ∷ ds) d × (is_of x d ≡ true)
    go true f e k = let h : d ≡ c = cc in (inl h, subst (λ y. is_of x y ≡ true) (sym h) f)
    go false f e k = let h = k e in (inr h.0, h.1)

module _ (ds : List Declaration) where
  type_by : (T : ℕ) (o : Option Declaration) → declaration_of ds T ≡ o → is_type_by o ≡ true → IsDeclared ds (meaning.OfType T)
  type_by T (Some (Named y (class.TypeName fixed large) arguments result)) e k =
      let h = found ds T (Named y (class.TypeName fixed large) arguments result) e in
      let named : y ≡ T = sym (eqb-true T y h.1) in
      inr (fixed, large, arguments, result, subst (λ x. Contains ds (Named x (class.TypeName fixed large) arguments result)) named (has_contains ds _ h.0))
  type_by T o e k = absurd (both_ways false refl k)

  type_declared : (T : ℕ) → is_type ds T ≡ true → IsDeclared ds (meaning.OfType T)
  type_declared T e = go (or_cases (T == 0) _ e)
    where
      go : ((T == 0) ≡ true) ⊎ (is_type_by (declaration_of ds T) ≡ true) → IsDeclared ds (meaning.OfType T)
      go (inl f) = inl (eqb-true T 0 f)
      go (inr f) = type_by T (declaration_of ds T) refl f

  parameter_by : (n : ℕ) (o : Option Declaration) → declaration_of ds n ≡ o → is_parameter_by o ≡ true → IsDeclared ds (meaning.BelowParameter n)
  parameter_by n (Some (Named y class.Param arguments result)) e k =
      let h = found ds n (Named y class.Param arguments result) e in
      (arguments, result, subst (λ x. Contains ds (Named x class.Param arguments result)) (sym (eqb-true n y h.1)) (has_contains ds _ h.0))
  parameter_by n o e k = absurd (both_ways false refl k)

  parameter_declared : (n : ℕ) → is_parameter ds n ≡ true → IsDeclared ds (meaning.BelowParameter n)
  parameter_declared n e = parameter_by n (declaration_of ds n) refl e

  binders_declared : (is : ℕ → Bool) (sort : ℕ → Sort) → ((T : ℕ) → is T ≡ true → IsDeclared ds (sort_of_meaning (sort T))) → (t : Tree) → are_declared is t ≡ true → AreDeclared ds sort t
  unfolding are_declared AreDeclared
  binders_declared is sort k Empty e = tt
  binders_declared is sort k (Node (Binder x T) a b) e = let p = and_parts (is T) _ e in (k T p.0, binders_declared is sort k b p.1)
  binders_declared is sort k (Node h a b) e = binders_declared is sort k b e

  node_declared : (h : Head) (a : Tree) → names_declared ds h a ≡ true → NamesDeclared ds h a
  node_declared (Repl i n) a e = parameter_declared n e
  node_declared (New x T) a e = type_declared T e
  node_declared (Let x T) a e = type_declared T e
  node_declared (In c) a e = binders_declared (is_type ds) OfType type_declared (second a) e
  node_declared Branch a e = binders_declared (is_parameter ds) BelowParameter parameter_declared a e
  node_declared h a e = tt

  pub sorts_declared : (game : Tree) → has_declared_sorts ds game ≡ true → HasDeclaredSorts ds game
  unfolding has_declared_sorts HasDeclaredSorts
  sorts_declared Empty e = tt
  sorts_declared (Node h a b) e =
      let p = and_parts (names_declared ds h a) _ e in
      let q = and_parts (has_declared_sorts ds a) _ p.1 in
      (node_declared h a p.0, sorts_declared a q.0, sorts_declared b q.1)
