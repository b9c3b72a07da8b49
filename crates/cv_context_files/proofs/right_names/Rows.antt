-- The rows of declarations make equivalences whose right sides bind such names.
use Rattle.std.proofs.Common.{ℕ, Bool, List, [], ◌∷◌, map, None, refl}
use Rattle.std.specs.List.{AllByRecursion}
use Rattle.cv_syntax_trees.proofs.lists.Each.{AllByRecursion_flat_map}
use Rattle.cv_syntax_trees.specs.declared.class.Class.{Class}
use Rattle.cv_syntax_trees.specs.Declarations.{Declaration, Equiv}
use Rattle.cv_syntax_trees.specs.Tree.{Tree, second}
use Rattle.cv_parse_grammar.specs.Declarations.{collision_decl, constant, declaration, equiv_decl, forall_vars, named}
use Rattle.cv_parse_grammar.specs.Equivalences.{lone_group}
use Rattle.cv_parse_grammar.specs.Rules.{file}
use Rattle.cv_parse_grammar.proofs.yields.Yielding.{anything, before, behind, follow, one_of, several, turned}
use Rattle.cv_parse_laws.proofs.roles.Forms.{enclosed}
use Rattle.cv_context_files.specs.right_names.Bindings.{HasFreeNames}
use Rattle.cv_context_files.proofs.right_names.Phrases.{chained, node}
use Rattle.cv_context_files.proofs.right_names.Bodies.{Binds, Is, Makes, a_local, bound_free, function_is, in_list, of_group, of_term, of_vars}

module _ (barred : ℕ → Bool) where
  abbrev pub IfEquivalence : Declaration → Type 0
  IfEquivalence (Equiv x t) = HasFreeNames barred (second t)
  IfEquivalence d = Unit {0}

  abbrev pub HaveFreeSides : List Declaration → Type 0
  HaveFreeSides ds = AllByRecursion IfEquivalence ds

  all_named : (c : Class) (l : List ℕ) → HaveFreeSides (map (named c) l)
  all_named c [] = tt
  all_named c (x ∷ l) = (tt, all_named c l)

  all_constants : (T : ℕ) (l : List ℕ) → HaveFreeSides (map (constant T) l)
  all_constants T [] = tt
  all_constants T (x ∷ l) = (tt, all_constants T l)

  of_forall : Makes barred forall_vars (Is barred)
  of_forall = in_list barred (behind (before (of_vars barred)))

  -- a collision has one function, with this body
  lone_is : (x : ℕ) (key : ℕ × ℕ) (args t : Tree) → Binds barred key → Is barred args → Is barred t → Is barred (lone_group x key args t)
  lone_is x key args t k v w = node refl refl (bound_free barred (key ∷ []) (k, tt)) (chained (_ ∷ []) (function_is barred x None args t v w, tt))

  of_collision : Makes barred collision_decl HaveFreeSides
  of_collision =
      turned (follow anything (enclosed (behind (follow (a_local barred) (behind (follow of_forall (follow anything (follow anything (before (of_term barred))))))))))
      (λ x w. (lone_is x.0 x.1.0 x.1.1.0 x.1.1.1.1.1 w.1.0 w.1.1.0 w.1.1.1.1.1, tt))

  of_equiv : Makes barred equiv_decl HaveFreeSides
  of_equiv = turned (behind (before (follow anything (enclosed (follow anything (follow anything (of_group barred))))))) (λ x w. (w.1.1.1, tt))

  of_declaration : Makes barred declaration HaveFreeSides
  of_declaration =
      one_of (turned anything (λ l w. all_named _ l))
      (one_of (turned anything (λ l w. all_named _ l))
      (one_of (turned anything (λ x w. (tt, tt)))
      (one_of (turned anything (λ x w. (tt, tt)))
      (one_of (turned anything (λ x w. all_constants x.1 x.0))
      (one_of (turned anything (λ x w. (tt, tt)))
      (one_of (turned anything (λ x w. (tt, tt)))
      (one_of (turned anything (λ x w. (tt, tt)))
      (one_of of_collision
      (one_of of_equiv (turned anything (λ x w. (tt, tt))))))))))))

  pub of_file : Makes barred file (λ f. HaveFreeSides f.decls)
  of_file = turned (follow (several of_declaration) anything) (λ x w. AllByRecursion_flat_map HaveFreeSides IfEquivalence (λ ds. ds) (λ ds k. k) x.0 w.0)
