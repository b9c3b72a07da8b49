-- The types and parameters that the game of a file names are declared.
use Rattle.std.proofs.Common.{◌≡◌, ℕ, List, [], ◌∷◌, Option, Ok, inl, refl, sym, subst}
use Rattle.std.specs.List.{AllByRecursion}
use Rattle.cv_syntax_trees.specs.Declarations.{Declaration, Named, Equation, Equiv, Query}
use Rattle.cv_syntax_trees.specs.Tree.{Tree}
use Rattle.cv_parse_notation.specs.declared.sign.Sign.{Sign}
use Rattle.cv_parse_grammar.specs.declared.role.Role.{Role}
use Rattle.cv_parse_grammar.specs.Files.{levels}
use Rattle.cv_parse_grammar.specs.Filled.{first_site}
use Rattle.cv_parse_grammar.specs.Names.{Uses}
use Rattle.cv_parse_grammar.specs.Rules.{File, file, heads, rule}
use Rattle.cv_parse_grammar.specs.Whole.{IsRead, built_in}
use Rattle.cv_parse_grammar.proofs.Identities.{declared_names, ids_are_distinct}
use Rattle.cv_parse.specs.Parsed.{Parsed, bool_type, parsed}
use Rattle.cv_parse.proofs.Exactness.{said_is_saying}
use Rattle.cv_scope_rules.specs.typing.Signature.{names_in}
use Rattle.cv_typing_runs.specs.Games.{HasArguments, HasConstants, HasDeclaredSorts}
use Rattle.cv_parse_grammar.specs.yields.Yields.{AllUsed}
use Rattle.cv_parse_grammar.proofs.yields.Naming.{all_used}
use Rattle.cv_parse_grammar.proofs.yields.Yielding.{forms_tell}
use Rattle.cv_parse_laws.proofs.roles.Constants.{constants_are}
use Rattle.cv_parse_laws.proofs.roles.Declared.{Used, all_asked}
use Rattle.cv_parse_laws.proofs.roles.DeclaredKinds.{OfKind, of_declarations}
use Rattle.cv_parse_laws.proofs.roles.Filling.{filled_is}
use Rattle.cv_parse_laws.proofs.roles.Rows.{Asked, OfSort, of_file, rows}
use Rattle.cv_meaning_laws.proofs.Listed.{Has, has_right}

arguments_of : (W : Role → ℕ → Type 0) (ds : List Declaration) → AllByRecursion (OfKind W) ds → HasArguments ds
unfolding HasArguments
arguments_of W [] k = tt
arguments_of W (Named x c a r ∷ ds) k = (k.0.1, arguments_of W ds k.1)
arguments_of W (Equation t ∷ ds) k = arguments_of W ds k.1
arguments_of W (Equiv x t ∷ ds) k = arguments_of W ds k.1
arguments_of W (Query t ∷ ds) k = arguments_of W ds k.1

with_bool : (ds : List Declaration) → HasArguments ds → HasArguments (bool_type ∷ ds)
unfolding HasArguments names_in
with_bool ds h = (refl, h)

module _ (ts : List Sign) (ds : List Declaration) (s : Option (ℕ × ℕ)) (g : Tree) (w : IsRead ts ds s g) where
  abbrev said : File
  said = record { decls = ds; script = s; game = w.text }

  abbrev All : Uses
  All = built_in ∷ w.uses

  -- each use is one
  all_there : AllUsed (Used All) w.uses
  all_there = all_used (λ u. Used All u.role u.name) w.uses (λ before u behind e. (u, subst (λ l. Has (built_in ∷ l) u) (sym e) (has_right (built_in ∷ before) (u ∷ behind) u (inl refl)), refl, refl))

  pub kinds : AllByRecursion (OfKind (Used All)) ds
  kinds = (of_declarations (Used All)).gives said (forms_tell (Used All) (λ z t. Unit {0}) heads rule (λ z t y. tt) file levels ts said w.uses [] w.spelled all_there)

  pub read_arguments : HasArguments (bool_type ∷ ds)
  read_arguments = with_bool ds (arguments_of (Used All) ds kinds)

  pub read_constants : HasConstants (bool_type ∷ ds)
  read_constants = constants_are (Used All) bool_type ds (ids_are_distinct ts ds s g w) (λ x. refl) kinds

  pub read_sorts : HasDeclaredSorts (bool_type ∷ ds) g
  read_sorts =
      let asked = all_asked w.uses ds w.named (declared_names levels ts said w.uses w.spelled) kinds in
      let y = forms_tell (Asked (bool_type ∷ ds)) (OfSort (bool_type ∷ ds)) heads rule (rows (bool_type ∷ ds)) file levels ts said w.uses [] w.spelled asked in
      subst (HasDeclaredSorts (bool_type ∷ ds)) w.stands_for (filled_is (bool_type ∷ ds) (λ x. first_site x 0 w.text) [] w.text ((of_file (bool_type ∷ ds)).gives said y).sorts)

pub sorts_declared : (limit : ℕ) (signs : List Sign) (p : Parsed) → parsed limit signs ≡ Ok p → HasDeclaredSorts p.declarations p.game
sorts_declared limit signs p e =
    let w = said_is_saying limit signs p e in
    subst (λ ds. HasDeclaredSorts ds p.game) (sym w.declared) (read_sorts signs w.decls w.script p.game w.read)

pub arguments_named : (limit : ℕ) (signs : List Sign) (p : Parsed) → parsed limit signs ≡ Ok p → HasArguments p.declarations
arguments_named limit signs p e =
    let w = said_is_saying limit signs p e in
    subst HasArguments (sym w.declared) (read_arguments signs w.decls w.script p.game w.read)

pub constants_declared : (limit : ℕ) (signs : List Sign) (p : Parsed) → parsed limit signs ≡ Ok p → HasConstants p.declarations
constants_declared limit signs p e =
    let w = said_is_saying limit signs p e in
    subst HasConstants (sym w.declared) (read_constants signs w.decls w.script p.game w.read)
