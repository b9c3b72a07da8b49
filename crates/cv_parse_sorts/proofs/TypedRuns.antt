-- In each run of the game of a file variables hold values of their types.
use Rattle.std.proofs.Common.{◌≡◌, ℕ, List, [], ◌∷◌, ◌++◌, flat_map, Ok}
use Rattle.cv_syntax_trees.specs.Declarations.{Declaration}
use Rattle.cv_parse_notation.specs.declared.sign.Sign.{Sign}
use Rattle.cv_parse.specs.Parsed.{Parsed, parsed}
use Rattle.cv_meaning.specs.Interpretation.{Interpretation}
use Rattle.cv_meaning.specs.Runs.{Adversary, Mode}
use Rattle.cv_meaning.specs.Satisfies.{Satisfies}
use Rattle.cv_scope_rules.specs.Scope.{IsScoped}
use Rattle.cv_scope_rules.specs.typing.Parts.{AreTyped, IsTypedFile, IsTypedPart, Part, declaration_parts, game_part}
use Rattle.cv_typing_runs.specs.Games.{HasTypedRuns}
use Rattle.cv_typing_runs.proofs.Games.{known, typed_runs as runs}
use Rattle.cv_parse_laws.proofs.Games.{well_formed}
use Rattle.cv_parse_sorts.proofs.NamedGames.{functions_and_cells_named}
use Rattle.cv_parse_laws.proofs.roles.Games.{arguments_named, constants_declared, sorts_declared}

-- the game is the last part of a file
pub last_typed : (ds : List Declaration) (parts : List Part) (part : Part) → AreTyped ds (parts ++ part ∷ []) → IsTypedPart ds part
unfolding AreTyped
last_typed ds [] part h = h.0
last_typed ds (p ∷ parts) part h = last_typed ds parts part h.1

pub typed_runs : (limit : ℕ) (signs : List Sign) (p : Parsed) → parsed limit signs ≡ Ok p → IsTypedFile p.declarations p.game → IsScoped p.declarations p.game → (i : Interpretation) → Satisfies p.declarations i → (m : Mode) (a : Adversary)
    → HasTypedRuns p.declarations p.game i m a
typed_runs limit signs p e t s i w m a =
    let f = well_formed limit signs p e s in
    runs p.declarations p.game (arguments_named limit signs p e) f (last_typed p.declarations (flat_map (declaration_parts p.declarations) p.declarations) (game_part p.game) t) (known p.declarations p.game (constants_declared limit signs p e) f (functions_and_cells_named limit signs p e)) (sorts_declared limit signs p e) i w m a
