-- Each declaration is one that a use of its name declares, as what it is.
use Rattle.std.proofs.Common.{◌≡◌, ℕ, true, List, [], ◌∷◌, map, Option, Some, None, is_some, refl, ap, sym, subst}
use Rattle.std.specs.List.{AllByRecursion}
use Rattle.cv_syntax_trees.proofs.lists.Each.{AllByRecursion_flat_map}
use Rattle.cv_syntax_trees.specs.declared.class.Class.{Class}
use Rattle.cv_syntax_trees.specs.declared.class.Class.TheVariants as class
use Rattle.cv_syntax_trees.specs.Declarations.{Declaration, Named, Equation, Equiv, Query}
use Rattle.cv_syntax_trees.specs.Tree.{Tree, Empty, names}
use Rattle.cv_parse_notation.specs.Form.{Form, unnamed}
use Rattle.cv_parse_grammar.specs.declared.role.Asked.{Asked}
use Rattle.cv_parse_grammar.specs.declared.role.Asked.TheVariants.{AParam, AChannel, AFunction, AnEvent, AProbability, AnEquivalence, AType}
use Rattle.cv_parse_grammar.specs.declared.role.Role.{Role}
use Rattle.cv_parse_grammar.specs.declared.role.Role.TheVariants.{Declares}
use Rattle.cv_parse_grammar.specs.Declarations.{channel_decl, collision_decl, const_decl, constant, declaration, equation_decl, equiv_decl, event_decl, fun_decl, ids, named, param_decl, proba_decl, query_decl, type_decl, type_list}
use Rattle.cv_parse_grammar.specs.Phrases.{Sort}
use Rattle.cv_parse_grammar.specs.Rules.{file}
use Rattle.cv_scope_rules.specs.typing.Signature.{names_in}
use Rattle.cv_parse_grammar.proofs.yields.Yielding.{Gives, a_word, anything, before, behind, follow, one_of, several, turned}
use Rattle.cv_parse_laws.proofs.roles.Forms.{bracketed, in_row, or_this}

-- a list of names
abbrev pub IsNames : Tree → Type 0
IsNames t = t ≡ names (names_in t)

same_names : (l : List ℕ) → l ≡ names_in (names l)
unfolding names_in
same_names [] = refl
same_names (x ∷ l) = ap (λ m. x ∷ m) (same_names l)

are_names : (l : List ℕ) → IsNames (names l)
are_names l = ap names (same_names l)

-- what is declared of a class
abbrev pub asked_of : Class → Option Asked
asked_of class.Param = Some AParam
asked_of (class.TypeName fixed large) = Some AType
asked_of class.Channel = Some AChannel
asked_of (class.Fun data_like) = Some AFunction
asked_of class.Event = Some AnEvent
asked_of class.Proba = Some AProbability
asked_of c = None

-- a function has a type of results
abbrev pub HasResult : Class → Option ℕ → Type 0
HasResult (class.Fun data_like) result = is_some result ≡ true
HasResult c result = Unit {0}

module _ (W : Role → ℕ → Type 0) where
  abbrev pub DeclaredAs : Option Asked → ℕ → Type 0
  DeclaredAs None x = ⊥
  DeclaredAs (Some a) x = W (Declares a) x

  abbrev pub OfKind : Declaration → Type 0
  OfKind (Named x c arguments result) = DeclaredAs (asked_of c) x × IsNames arguments × HasResult c result
  OfKind (Equation t) = Unit {0}
  OfKind (Equiv x t) = W (Declares AnEquivalence) x
  OfKind (Query t) = Unit {0}

  abbrev Nothing : Sort → Tree → Type 0
  Nothing s t = Unit {0}

  abbrev Makes : {A : Type 0} → Form Role Sort A → (A → Type 0) → Type 0
  Makes f Q = Gives W Nothing f Q

  abbrev AllOfKind : List Declaration → Type 0
  AllOfKind ds = AllByRecursion OfKind ds

  -- lists of names without arguments

  all_named : (c : Class) (a : Asked) → asked_of c ≡ Some a → HasResult c None → (l : List ℕ) → AllByRecursion (W (Declares a)) l → AllOfKind (map (named c) l)
  all_named c a e r [] w = tt
  all_named c a e r (x ∷ l) w = ((subst (λ o. DeclaredAs o x) (sym e) w.0, are_names [], r), all_named c a e r l w.1)

  all_constants : (T : ℕ) (l : List ℕ) → AllByRecursion (W (Declares AFunction)) l → AllOfKind (map (constant T) l)
  all_constants T [] w = tt
  all_constants T (x ∷ l) w = ((w.0, are_names [], refl), all_constants T l w.1)

  of_ids : (a : Asked) → Makes (ids (Declares a)) (AllByRecursion (W (Declares a)))
  of_ids a = in_row a_word

  of_type_list : Makes type_list IsNames
  of_type_list = bracketed (turned anything (λ l w. are_names l))

  -- the rows of declarations

  of_param : Makes param_decl AllOfKind
  of_param = turned (behind (before (of_ids AParam))) (all_named class.Param AParam refl tt)

  of_channel : Makes channel_decl AllOfKind
  of_channel = turned (behind (before (of_ids AChannel))) (all_named class.Channel AChannel refl tt)

  of_proba : Makes proba_decl AllOfKind
  of_proba = turned (behind (before a_word)) (λ x w. ((w, are_names [], tt), tt))

  of_type : Makes type_decl AllOfKind
  of_type = turned (behind (before (follow a_word anything))) (λ x w. ((w.0, are_names [], tt), tt))

  of_const : Makes const_decl AllOfKind
  of_const = turned (behind (before (follow (of_ids AFunction) anything))) (λ x w. all_constants x.1 x.0 w.0)

  of_fun : Makes fun_decl AllOfKind
  of_fun = turned (behind (before (follow a_word (follow of_type_list anything)))) (λ x w. ((w.0, w.1.0, refl), tt))

  of_event : Makes event_decl AllOfKind
  of_event = turned (behind (before (follow a_word (or_this Empty (are_names []) of_type_list)))) (λ x w. ((w.0, w.1, tt), tt))

  of_equation : Makes equation_decl AllOfKind
  of_equation = turned anything (λ x w. (tt, tt))

  a_collision : Makes (unnamed (Declares AnEquivalence)) (W (Declares AnEquivalence))
  a_collision = record { gives = λ x y. y }

  of_collision : Makes collision_decl AllOfKind
  of_collision = turned (follow (one_of (behind a_word) a_collision) anything) (λ x w. (w.0, tt))

  of_equiv : Makes equiv_decl AllOfKind
  of_equiv = turned (behind (before (follow a_word anything))) (λ x w. (w.0, tt))

  of_query : Makes query_decl AllOfKind
  of_query = turned anything (λ t w. (tt, tt))

  of_declaration : Makes declaration AllOfKind
  of_declaration =
      one_of of_param
      (one_of of_channel
      (one_of of_proba
      (one_of of_type
      (one_of of_const
      (one_of of_fun
      (one_of of_event
      (one_of of_equation
      (one_of of_collision
      (one_of of_equiv of_query)))))))))

  pub of_declarations : Makes file (λ f. AllOfKind f.decls)
  of_declarations = turned (follow (several of_declaration) anything) (λ x w. AllByRecursion_flat_map AllOfKind OfKind (λ ds. ds) (λ ds k. k) x.0 w.0)
