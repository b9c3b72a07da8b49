-- What a move asks of the game, of what can be told before the step is tried: where it isn't so, the move may not be made. And what is advised, by
-- the definitions and the uses of a key. Blanchet and Pointcheval, CRYPTO 2006, for the uses of a key; that moves are tested before is this
-- profile's own.
use Rattle.std.specs.Prelude.{◌≡◌, ℕ, true, false, nat_lt, if◌then◌else◌, List, [], ◌++◌, length, map, Option, Some, None}
use Rattle.cv_syntax_trees.specs.Tree.{Tree}
use Rattle.cv_meaning.specs.contexts.Groups.{Left, side_group}
use Rattle.cv_scope_rules.specs.Behind.{sites_of}
use Rattle.cv_scope_rules.specs.Phrases.{Inputs, is_phrase}
use Rattle.cv_scope_rules.specs.declared.position.Position.TheVariants.{Anywhere}
use Rattle.cv_scene.specs.Contexts.{matching_of}
use Rattle.cv_scene.specs.Instances.{Matching}
use Rattle.cv_scene.specs.LeftTerms.{HasLeftTerms}
use Rattle.cv_scene.specs.Refusals.{first_use, has_key, is_of_type, new_of}
use Rattle.cv_scene.specs.Scenes.{Scene, is_queried}
use Rattle.cv_steps.specs.Unletting.{Assignment, is_listed, only_assignment}
use Rattle.cv_steps_laws.specs.crypto.Conditions.{equivalence_of}
use Rattle.cv_edit_names.specs.Cells.{first_mixed}
use Rattle.cv_settling_rules.specs.Candidates.{when}
use Rattle.cv_settling_rules.specs.Variables.{is_tested}
use Rattle.cv_strategy_rules.specs.Moves.{ArrayRename, Crypto, Move, Unlet, has_several_keys, lets_before}

-- The key's variable has one definition, a `new` of the type that the left side's key has. No query asks for it. No condition of a `find` reads
-- it, and no term outside the instances of the left side's functions.
pub record IsUsedAsKey (M : Matching) : Type 0 where
  pub drawn : is_of_type M.group.key.1 (new_of M.scene.game M.key) ≡ true
  pub unasked : is_queried M.scene M.key ≡ false
  pub untested : is_tested M.scene.game M.key ≡ false
  pub inside : first_use M Anywhere 0 M.scene.game ≡ None

-- the variable has one definition, a `let`, and neither a query nor a `defined` list names it
pub record IsOnlyLet (s : Scene) (x : ℕ) : Type 0 where
  pub assignment : Assignment
  pub only : only_assignment s.game x ≡ Some assignment
  pub unasked : is_queried s x ≡ false
  pub unlisted : is_listed x s.game ≡ false

-- it has several definitions, no query asks for it, and no `defined` list has two of its cells
pub record HasSeveralDefinitions (s : Scene) (x : ℕ) : Type 0 where
  pub several : nat_lt 1 (length (sites_of s.game x)) ≡ true
  pub unasked : is_queried s x ≡ false
  pub unmixed : first_mixed x 0 s.game ≡ None

-- by the kinds of moves

abbrev pub DemandsOfKey : Scene → Option Tree → (key : ℕ) → Type 0
DemandsOfKey s None x = ⊥
DemandsOfKey s (Some e) x = IsUsedAsKey (matching_of s e x)

abbrev pub Demands : Scene → Move → Type 0
Demands s (Crypto e x) = DemandsOfKey s (equivalence_of s e) x
Demands s (Unlet x) = IsOnlyLet s x
Demands s (ArrayRename x) = HasSeveralDefinitions s x

-- for files that are accepted: the game is in the grammar, and the left bodies of the equivalence are terms over the names of their functions
pub record HasTerms (s : Scene) (equivalence : Tree) : Type 0 where
  pub phrase : is_phrase Inputs s.game ≡ true
  pub left : HasLeftTerms s.declarations (side_group Left equivalence)

-- what is advised

-- the `let` whose whole term is the first use of a key
abbrev pub lets_at : (game : Tree) → (place : Option ℕ) → List ℕ
lets_at game None = []
lets_at game (Some p) = lets_before game p

abbrev pub lets_of_key : Matching → List ℕ
lets_of_key M = if has_key M then lets_at M.scene.game (first_use M Anywhere 0 M.scene.game) else []

abbrev pub advice : Matching → List Move
advice M = when (has_several_keys M) (ArrayRename M.key) ++ map Unlet (lets_of_key M)
