-- The conditions of a cryptographic step in a game, in their order. Blanchet and Pointcheval, CRYPTO 2006; the order and the numbers of
-- the conditions are this profile's own.
use Rattle.std.specs.Prelude.{ℕ, ◌||◌, if◌then◌else◌, Option, Some, None, option_map}
use Rattle.cv_syntax_trees.specs.Declarations.{Declaration, Equiv}
use Rattle.cv_syntax_trees.specs.Tree.{Tree}
use Rattle.cv_scope_rules.specs.typing.Signature.{declaration_of}
use Rattle.cv_scene.specs.Contexts.{matching_of}
use Rattle.cv_scene.specs.Refusals.{Refusal, NotOneSite, Use, InCondition, CoinUse, KeyInArgument, first_refusal}
use Rattle.cv_scene.specs.Scenes.{Scene, names}

-- a condition that fails, with its place; 0 where it has none
pub record Failure : Type 0 where
  pub condition : ℕ
  pub place : ℕ

abbrev pub failed : (condition place : ℕ) → Failure
failed condition place = record { condition = condition; place = place }

-- condition 0: the file has an equivalence of the name, and the file or the game has the variable

abbrev pub equivalence_by : Option Declaration → Option Tree
equivalence_by (Some (Equiv id t)) = Some t
equivalence_by d = None

abbrev pub equivalence_of : Scene → (name : ℕ) → Option Tree
equivalence_of s e = equivalence_by (declaration_of s.declarations e)

-- the conditions from 1 on: the refusals
abbrev pub failure_by : Refusal → Failure
failure_by NotOneSite = failed 1 0
failure_by (Use p) = failed 2 p
failure_by (InCondition p) = failed 3 p
failure_by (CoinUse p) = failed 4 p
failure_by (KeyInArgument p) = failed 5 p

-- the first condition that fails, for an equivalence and a variable for its key

abbrev pub failure_with : Scene → Option Tree → (key : ℕ) → Option Failure
failure_with s None x = Some (failed 0 0)
failure_with s (Some e) x = if s.known x || names x s.game then option_map failure_by (first_refusal (matching_of s e x)) else Some (failed 0 0)

abbrev pub failure_of : Scene → (equivalence key : ℕ) → Option Failure
failure_of s e x = failure_with s (equivalence_of s e) x
