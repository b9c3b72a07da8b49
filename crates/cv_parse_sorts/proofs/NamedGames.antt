-- What the game of a file applies is a function, and the cells of its `defined` lists are of its variables.
use Rattle.std.proofs.Common.{◌≡◌, ℕ, Bool, true, List, [], ◌∷◌, Option, Some, None, Ok, inr, is_some, refl, ap, sym, subst, ◌∙◌}
use Rattle.cv_syntax_trees.specs.declared.class.Class.TheVariants as class
use Rattle.cv_syntax_trees.specs.Declarations.{Declaration, Named}
use Rattle.cv_syntax_trees.specs.Tree.{Tree}
use Rattle.cv_parse_notation.specs.declared.sign.Sign.{Sign}
use Rattle.cv_parse_grammar.specs.declared.role.Asked.TheVariants.{AFunction}
use Rattle.cv_parse_grammar.specs.Files.{levels}
use Rattle.cv_parse_grammar.specs.Filled.{filled_at, first_site}
use Rattle.cv_parse_grammar.specs.Names.{Uses, declares_as, is_used}
use Rattle.cv_parse_grammar.specs.Rules.{File}
use Rattle.cv_parse_grammar.specs.Whole.{IsRead, built_in}
use Rattle.cv_parse_grammar.proofs.Identities.{declared_names, ids_are_distinct}
use Rattle.cv_parse.specs.Parsed.{Parsed, bool_type, parsed}
use Rattle.cv_parse.proofs.Exactness.{said_is_saying}
use Rattle.cv_scope_rules.specs.typing.Signature.{function_by}
use Rattle.cv_typing_runs.specs.Games.{HasNamedFunctionsAndCells, has_site}
use Rattle.cv_parse_laws.proofs.roles.Constants.{kind_of, only_declaration}
use Rattle.cv_parse_laws.proofs.roles.Declared.{Used, function_declared}
use Rattle.cv_parse_laws.proofs.roles.Games.{kinds}
use Rattle.cv_parse_sorts.proofs.Bindings.{IsBound}
use Rattle.cv_parse_sorts.proofs.BindingRows.{process_defines}
use Rattle.cv_parse_sorts.proofs.CallRows.{process_named}
use Rattle.cv_parse_sorts.proofs.DefiningTrees.{defines_filled, site_there}
use Rattle.cv_parse_sorts.proofs.NamedTrees.{HasNamed, IsFunction, IsVariable, filled_named, game_named}
use Rattle.cv_parse_sorts.proofs.Process.{IsProcess, process_says, the_process}

module _ (ts : List Sign) (ds : List Declaration) (s : Option (ℕ × ℕ)) (g : Tree) (w : IsRead ts ds s g) where
  abbrev said : File
  said = record { decls = ds; script = s; game = w.text }

  abbrev All : Uses
  All = built_in ∷ w.uses

  abbrev sites : ℕ → Option ℕ
  sites x = first_site x 0 w.text

  process : IsProcess ts said w.uses
  process = the_process ts said w.uses w.spelled

  function_there : (x : ℕ) → is_used (declares_as AFunction) x All ≡ true → IsFunction (bool_type ∷ ds) (has_site g) x
  function_there x k =
      let f = function_declared w.uses ds w.named (declared_names levels ts said w.uses w.spelled) (kinds ts ds s g w) x k in
      let d = Named x (class.Fun f.0) f.1 f.2 in
      ap (λ o. is_some (function_by o)) (only_declaration (bool_type ∷ ds) (ids_are_distinct ts ds s g w) x (class.Fun f.0) f.1 f.2 (inr f.3))
      ∙ with_result f.0 f.1 f.2 (kind_of (Used All) ds (kinds ts ds s g w) d f.3).2
    where
      with_result : (data_like : Bool) (arguments : Tree) (o : Option ℕ) → is_some o ≡ true → is_some (function_by (Some (Named x (class.Fun data_like) arguments o))) ≡ true
      with_result b a (Some T) e = refl
      with_result b a None e = e

  variable_there : (x : ℕ) → IsBound x process.used → IsVariable (bool_type ∷ ds) (has_site g) x
  variable_there x k =
      subst (λ t. has_site t x ≡ true) w.stands_for
      (site_there (filled_at sites [] w.text) x [] (defines_filled sites [] w.text x (process_defines levels process.start w.text process.used process.end process.spelled x k)))

  pub read_named : HasNamedFunctionsAndCells (bool_type ∷ ds) g
  read_named =
      let F = IsFunction (bool_type ∷ ds) (has_site g) in
      let V = IsVariable (bool_type ∷ ds) (has_site g) in
      game_named (bool_type ∷ ds) (has_site g) g
      (subst (HasNamed F V) w.stands_for
      (filled_named F V sites [] w.text
      (process_named F V levels process.start w.text process.used process.end process.spelled
      (process_says ts said w.uses w.named process F V function_there variable_there))))

pub functions_and_cells_named : (limit : ℕ) (signs : List Sign) (p : Parsed) → parsed limit signs ≡ Ok p → HasNamedFunctionsAndCells p.declarations p.game
functions_and_cells_named limit signs p e =
    let w = said_is_saying limit signs p e in
    subst (λ ds. HasNamedFunctionsAndCells ds p.game) (sym w.declared) (read_named signs w.decls w.script p.game w.read)
