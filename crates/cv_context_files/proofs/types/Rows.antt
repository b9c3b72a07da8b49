-- The types of keys and of coins are those that the uses of names of an equivalence ask for.
use Rattle.std.proofs.Common.{ℕ, List, [], ◌∷◌, map, inl, refl}
use Rattle.std.specs.List.{AllByRecursion}
use Rattle.cv_syntax_trees.proofs.lists.Each.{AllByRecursion_flat_map}
use Rattle.cv_syntax_trees.specs.declared.class.Class.{Class}
use Rattle.cv_syntax_trees.specs.declared.class.Class.TheVariants as class
use Rattle.cv_syntax_trees.specs.declared.head.Head.TheVariants.{Equivalence}
use Rattle.cv_syntax_trees.specs.Declarations.{Declaration, Equiv}
use Rattle.cv_syntax_trees.specs.Tree.{Tree, Node, binders, chain}
use Rattle.cv_meaning.specs.Correspondences.{typed_names}
use Rattle.cv_meaning.specs.contexts.Groups.{Function, Group, Left, Right, Which, function_of, functions_of, group_of, side_group}
use Rattle.cv_meaning_laws.specs.adequacy.Typed.{IsDeclared, OfType}
use Rattle.cv_parse_notation.specs.Form.{Form}
use Rattle.cv_parse_grammar.specs.declared.role.Role.{Role}
use Rattle.cv_parse_grammar.specs.declared.role.Role.TheVariants.{BindsLocal}
use Rattle.cv_parse_grammar.specs.Declarations.{channel_decl, collision, collision_decl, const_decl, constant, declaration, equation_decl, equiv_decl, event_decl, fun_decl, named, param_decl, proba_decl, query_decl, type_decl}
use Rattle.cv_parse_grammar.specs.Equivalences.{functions, group, left_function, lone_group, right_function}
use Rattle.cv_parse_grammar.specs.Phrases.{Sort, inside, type_name, typed}
use Rattle.cv_parse_grammar.specs.Phrases as sort
use Rattle.cv_parse_grammar.specs.Rules.{file, rule}
use Rattle.cv_parse_grammar.specs.yields.Yields.{Yields}
use Rattle.cv_parse_grammar.proofs.yields.Yielding.{Gives, a_word, anything, before, behind, below, follow, leveled, one_of, several, turned, weaker}
use Rattle.cv_parse_laws.proofs.roles.Forms.{enclosed}
use Rattle.cv_parse_laws.proofs.roles.Rows.{Asked}
use Rattle.cv_context_files.specs.tapes.Declared.{AreOfDeclaredTypes}

module _ (ds : List Declaration) where
  abbrev HasDeclaredCoins : Function → Type 0
  HasDeclaredCoins f = AreOfDeclaredTypes ds f.coins

  abbrev pub OfSort : Sort → Tree → Type 0
  OfSort sort.LeftFunction t = HasDeclaredCoins (function_of t)
  OfSort sort.RightFunction t = HasDeclaredCoins (function_of t)
  OfSort s t = Unit {0}

  abbrev Makes : {A : Type 0} → Form Role Sort A → (A → Type 0) → Type 0
  Makes f Q = Gives (Asked ds) OfSort f Q

  -- names with types

  of_type_name : Makes type_name (λ T. IsDeclared ds (OfType T))
  of_type_name = one_of (turned anything (λ u w. inl refl)) a_word

  a_name : Makes (typed BindsLocal) (λ b. IsDeclared ds (OfType b.1))
  a_name = weaker (follow anything (behind of_type_name)) (λ b w. w.1)

  types_of : (l : List (ℕ × ℕ)) → AreOfDeclaredTypes ds l → AreOfDeclaredTypes ds (typed_names (binders l))
  types_of [] w = tt
  types_of (b ∷ l) w = (w.0, types_of l w.1)

  -- functions; on the right no coins stand before the body

  of_left : Makes left_function (λ t. HasDeclaredCoins (function_of t))
  of_left = turned (follow anything (behind (follow anything (follow (several (behind (before a_name))) anything)))) (λ x w. types_of x.1.1.0 w.1.1.0)

  of_right : Makes right_function (λ t. HasDeclaredCoins (function_of t))
  of_right = turned anything (λ x w. tt)

  pub rows : (s : Sort) (t : Tree) → Yields (Asked ds) OfSort (rule s) t → OfSort s t
  rows sort.LeftFunction t y = of_left.gives t y
  rows sort.RightFunction t y = of_right.gives t y
  rows _ t y = tt

  -- groups

  pub record IsGroup (g : Group) : Type 0 where
    pub key : IsDeclared ds (OfType g.key.1)
    pub coins : AllByRecursion HasDeclaredCoins g.functions

  abbrev HasCoins : Tree → Type 0
  HasCoins t = HasDeclaredCoins (function_of t)

  chained : (l : List Tree) → AllByRecursion HasCoins l → AllByRecursion HasDeclaredCoins (functions_of (chain l))
  chained [] w = tt
  chained (t ∷ l) w = (w.0, chained l w.1)

  left_functions : Makes (functions sort.LeftFunction) (λ t. AllByRecursion HasDeclaredCoins (functions_of t))
  left_functions = leveled (behind (before (turned (turned {p = λ x. HasCoins x.0 × AllByRecursion HasCoins x.1} {q = AllByRecursion HasCoins} (follow below (several (behind below))) (λ x w. w)) chained)))

  right_functions : Makes (functions sort.RightFunction) (λ t. AllByRecursion HasDeclaredCoins (functions_of t))
  right_functions = leveled (behind (before (turned (turned {p = λ x. HasCoins x.0 × AllByRecursion HasCoins x.1} {q = AllByRecursion HasCoins} (follow below (several (behind below))) (λ x w. w)) chained)))

  of_group : (s : Sort) → Makes (functions s) (λ t. AllByRecursion HasDeclaredCoins (functions_of t)) → Makes (group s) (λ t. IsGroup (group_of t))
  of_group s i = turned (behind (follow anything (behind (follow anything (behind (follow a_name (behind i))))))) (λ x w. record { key = w.1.1.0; coins = w.1.1.1 })

  -- declarations

  abbrev pub HasGroups : Tree → Type 0
  HasGroups t = (which : Which) → IsGroup (side_group which t)

  abbrev pub IfEquivalence : Declaration → Type 0
  IfEquivalence (Equiv x t) = HasGroups t
  IfEquivalence d = Unit {0}

  abbrev pub HaveGroups : List Declaration → Type 0
  HaveGroups es = AllByRecursion IfEquivalence es

  all_named : (c : Class) (l : List ℕ) → HaveGroups (map (named c) l)
  all_named c [] = tt
  all_named c (x ∷ l) = (tt, all_named c l)

  all_constants : (T : ℕ) (l : List ℕ) → HaveGroups (map (constant T) l)
  all_constants T [] = tt
  all_constants T (x ∷ l) = (tt, all_constants T l)

  of_param : Makes param_decl HaveGroups
  of_param = turned anything (λ l w. all_named class.Param l)

  of_channel : Makes channel_decl HaveGroups
  of_channel = turned anything (λ l w. all_named class.Channel l)

  of_proba : Makes proba_decl HaveGroups
  of_proba = turned anything (λ x w. (tt, tt))

  of_type : Makes type_decl HaveGroups
  of_type = turned anything (λ x w. (tt, tt))

  of_const : Makes const_decl HaveGroups
  of_const = turned anything (λ x w. all_constants x.1 x.0)

  of_fun : Makes fun_decl HaveGroups
  of_fun = turned anything (λ x w. (tt, tt))

  of_event : Makes event_decl HaveGroups
  of_event = turned anything (λ x w. (tt, tt))

  of_equation : Makes equation_decl HaveGroups
  of_equation = turned anything (λ x w. (tt, tt))

  of_query : Makes query_decl HaveGroups
  of_query = turned anything (λ x w. (tt, tt))

  both_groups : (p : ℕ) (l r : Tree) → IsGroup (group_of l) → IsGroup (group_of r) → HasGroups (Node (Equivalence p) l r)
  both_groups p l r u v Left = u
  both_groups p l r u v Right = v

  -- a collision has one key, and no coins
  lone_is : (x : ℕ) (key : ℕ × ℕ) (args t : Tree) → IsDeclared ds (OfType key.1) → IsGroup (group_of (lone_group x key args t))
  lone_is x key args t d = record { key = d; coins = (tt, tt) }

  collided : (x : ℕ) (key : ℕ × ℕ) (args l : Tree) (p : ℕ) (r : Tree) → IsDeclared ds (OfType key.1) → HaveGroups (collision x key args l p r ∷ [])
  collided x key args l p r d = (both_groups p (lone_group x key args l) (lone_group x key args r) (lone_is x key args l d) (lone_is x key args r d), tt)

  of_collision : Makes collision_decl HaveGroups
  of_collision =
      turned (follow anything (enclosed (behind (follow a_name anything))))
      (λ x w. collided x.0 x.1.0 x.1.1.0 x.1.1.1.0 x.1.1.1.1.0 x.1.1.1.1.1 w.1.0)

  of_equiv : Makes equiv_decl HaveGroups
  of_equiv =
      turned (behind (before (follow anything (enclosed (follow (of_group sort.LeftFunction left_functions) (follow anything (of_group sort.RightFunction right_functions)))))))
      (λ x w. (both_groups x.1.1.0 x.1.0 x.1.1.1 w.1.0 w.1.1.1, tt))

  of_declaration : Makes declaration HaveGroups
  of_declaration =
      one_of of_param
      (one_of of_channel
      (one_of of_proba
      (one_of of_type
      (one_of of_const
      (one_of of_fun
      (one_of of_event
      (one_of of_equation
      (one_of of_collision
      (one_of of_equiv of_query)))))))))

  pub of_file : Makes file (λ f. HaveGroups f.decls)
  of_file = turned (follow (several of_declaration) anything) (λ x w. AllByRecursion_flat_map HaveGroups IfEquivalence (λ es. es) (λ es k. k) x.0 w.0)
