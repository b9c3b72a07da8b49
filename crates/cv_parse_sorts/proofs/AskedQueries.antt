-- The names for whose secrecy the queries of a file ask are names of its tokens.
use Rattle.std.proofs.Common.{◌≡◌, ℕ, ◌<◌, ◌==◌, true, false, List, [], ◌∷◌, map, Option, inl, inr, ◌⊎◌, refl, subst, eqb-true}
use Rattle.std.proofs.lemmas.Bool.{both_ways}
use Rattle.std.specs.List.{AllByRecursion, list_any}
use Rattle.cv_syntax_trees.proofs.lists.Each.{AllByRecursion_flat_map}
use Rattle.cv_syntax_trees.specs.declared.class.Class.{Class}
use Rattle.cv_syntax_trees.specs.Declarations.{Declaration, Named, Equation, Equiv, Query}
use Rattle.cv_syntax_trees.specs.Tree.{Tree}
use Rattle.cv_parse_notation.specs.declared.sign.Sign.{Sign}
use Rattle.cv_parse_notation.specs.Form.{Form}
use Rattle.cv_parse_grammar.specs.declared.role.Role.{Role}
use Rattle.cv_parse_grammar.specs.Declarations.{constant, correspondence, declaration, named, query_decl, secrecy}
use Rattle.cv_parse_grammar.specs.Files.{levels}
use Rattle.cv_parse_grammar.specs.Phrases.{Sort}
use Rattle.cv_parse_grammar.specs.Rules.{File, file, heads, rule}
use Rattle.cv_parse_grammar.specs.Whole.{IsRead}
use Rattle.cv_meaning.specs.Queries.{queries_in}
use Rattle.cv_parse_grammar.proofs.yields.Yielding.{Gives, a_word, anything, before, behind, follow, forms_tell, one_of, several, turned}
use Rattle.cv_parse_laws.proofs.roles.Forms.{enclosed}
use Rattle.cv_scene.specs.Scenes.{asks_for}
use Rattle.cv_parse_sorts.proofs.SmallNames.{AreBelow}
use Rattle.cv_parse_sorts.proofs.UsedNames.{forms_keep}
use Rattle.cv_syntax_trees.proofs.lists.Tests.{or_cases}

module _ (bound : ℕ) (some : 0 < bound) where
  -- the name for whose secrecy a query asks is below the bound
  abbrev AsksBelow : Tree → Type 0
  AsksBelow t = (x : ℕ) → asks_for x t ≡ true → x < bound

  abbrev IsQueryBelow : Declaration → Type 0
  IsQueryBelow (Query t) = AsksBelow t
  IsQueryBelow d = Unit {0}

  abbrev AreQueriesBelow : List Declaration → Type 0
  AreQueriesBelow ds = AllByRecursion IsQueryBelow ds

  abbrev Nothing : Sort → Tree → Type 0
  Nothing s t = Unit {0}

  abbrev Below : Role → ℕ → Type 0
  Below r x = x < bound

  abbrev Makes : {A : Type 0} → Form Role Sort A → (A → Type 0) → Type 0
  Makes f Q = Gives Below Nothing f Q

  all_named : (c : Class) (l : List ℕ) → AreQueriesBelow (map (named c) l)
  all_named c [] = tt
  all_named c (x ∷ l) = (tt, all_named c l)

  all_constants : (T : ℕ) (l : List ℕ) → AreQueriesBelow (map (constant T) l)
  all_constants T [] = tt
  all_constants T (x ∷ l) = (tt, all_constants T l)

  same_name : (x y : ℕ) → x < bound → (x == y) ≡ true → y < bound
  same_name x y w e = subst (λ z. z < bound) (eqb-true x y e) w

  of_secrecy : Makes secrecy AsksBelow
  of_secrecy = one_of (turned (behind a_word) (λ x w y e. same_name x y w e)) (turned (behind a_word) (λ x w y e. same_name x y w e))

  of_correspondence : Makes correspondence AsksBelow
  of_correspondence = turned anything (λ x w y e. absurd (both_ways false refl e))

  of_query : Makes query_decl AreQueriesBelow
  of_query = turned (behind (before (enclosed (one_of of_secrecy of_correspondence)))) (λ t w. (w, tt))

  of_declaration : Makes declaration AreQueriesBelow
  of_declaration =
      one_of (turned anything (λ l w. all_named _ l))
      (one_of (turned anything (λ l w. all_named _ l))
      (one_of (turned anything (λ x w. (tt, tt)))
      (one_of (turned anything (λ x w. (tt, tt)))
      (one_of (turned anything (λ x w. all_constants x.1 x.0))
      (one_of (turned anything (λ x w. (tt, tt)))
      (one_of (turned anything (λ x w. (tt, tt)))
      (one_of (turned anything (λ x w. (tt, tt)))
      (one_of (turned anything (λ x w. (tt, tt)))
      (one_of (turned anything (λ x w. (tt, tt))) of_query)))))))))

  of_declarations : Makes file (λ f. AreQueriesBelow f.decls)
  of_declarations = turned (follow (several of_declaration) anything) (λ x w. AllByRecursion_flat_map AreQueriesBelow IsQueryBelow (λ ds. ds) (λ ds k. k) x.0 w.0)

  -- of what was read
  read_below : (ts : List Sign) (ds : List Declaration) (s : Option (ℕ × ℕ)) (g : Tree) → IsRead ts ds s g → AreBelow bound ts → AreQueriesBelow ds
  read_below ts ds s g r w =
      let f : File = record { decls = ds; script = s; game = r.text } in
      let used = forms_keep bound some heads rule file levels ts f r.uses [] r.spelled w in
      of_declarations.gives f (forms_tell Below Nothing heads rule (λ z t y. tt) file levels ts f r.uses [] r.spelled used.0)

  asked_below : (ds : List Declaration) → AreQueriesBelow ds → (x : ℕ) → list_any (asks_for x) (queries_in ds) ≡ true → x < bound
  unfolding queries_in
  asked_below [] w x e = absurd (both_ways false refl e)
  asked_below (Query t ∷ ds) w x e = go (or_cases (asks_for x t) _ e) (asked_below ds w.1 x)
    where
      go : (asks_for x t ≡ true) ⊎ (list_any (asks_for x) (queries_in ds) ≡ true) → (list_any (asks_for x) (queries_in ds) ≡ true → x < bound) → x < bound
      go (inl i) k = w.0 x i
      go (inr i) k = k i
  asked_below (Named y c a r ∷ ds) w x e = asked_below ds w.1 x e
  asked_below (Equation t ∷ ds) w x e = asked_below ds w.1 x e
  asked_below (Equiv y t ∷ ds) w x e = asked_below ds w.1 x e

  pub names_asked : (ts : List Sign) (ds : List Declaration) (s : Option (ℕ × ℕ)) (g : Tree) → IsRead ts ds s g → AreBelow bound ts → (x : ℕ) → list_any (asks_for x) (queries_in ds) ≡ true → x < bound
  names_asked ts ds s g r w = asked_below ds (read_below ts ds s g r w)
