-- The moves of a game: first a cryptographic step for each equivalence and each variable, then what is advised, since it changes why such a
-- step is refused. Each by equivalences in the order of the file, and then by variables in the order of their first definitions. Blanchet and
-- Pointcheval, CRYPTO 2006, for the steps; what is advised and the order are this profile's own.
use Rattle.std.specs.Prelude.{◌≡◌, ℕ, zero, suc, Bool, true, false, ◌&&◌, ◌==◌, nat_lt, List, [], ◌∷◌, ◌++◌, map, flat_map, length, Option, Some, None}
use Rattle.std.specs.List.{AllByRecursion, list_all}
use Rattle.cv_syntax_trees.specs.declared.head.Head.{Head}
use Rattle.cv_syntax_trees.specs.declared.head.Head.TheVariants.{Let, New}
use Rattle.cv_syntax_trees.specs.Declarations.{Declaration, Equiv}
use Rattle.cv_syntax_trees.specs.Tree.{Tree, Node}
use Rattle.cv_scene.specs.Contexts.{matching_of}
use Rattle.cv_scene.specs.Instances.{Matching}
use Rattle.cv_scene.specs.Refusals.{NotOneSite, Refusal, Use, definitions_in, first_refusal}
use Rattle.cv_scene.specs.Scenes.{Scene, part_at}
use Rattle.cv_scene.specs.Sites.{sites_of}
use Rattle.cv_script.specs.Views.{StepItems, items_of_step}
use Rattle.cv_script.specs.Views as items
use Rattle.cv_steps.specs.Elementary.{unlet_step}
use Rattle.cv_steps_laws.specs.crypto.Conditions.{equivalence_of, failure_of}
use Rattle.cv_steps_laws.specs.crypto.Steps.{IsNextGame, is_next, reduction_of}
use Rattle.cv_rule_array_names.specs.Row.{array_names_step}
use Rattle.cv_settling_rules.specs.Candidates.{when}
use Rattle.cv_settling_rules.specs.Variables.{reads_of, variables}
use Rattle.cv_strategy_rules.specs.Legal.{IsLegal}

pub data Move : Type 0 where
  Crypto : (equivalence key : ℕ) → Move
  Unlet ArrayRename : (x : ℕ) → Move

-- the equivalences of a file, with their names
abbrev pub equivalences_in : List Declaration → List (ℕ × Tree)
equivalences_in [] = []
equivalences_in (Equiv e t ∷ ds) = (e, t) ∷ equivalences_in ds
equivalences_in (d ∷ ds) = equivalences_in ds

-- what is advised

-- the variable has several definitions, each a `new` of the key's type, and is read

abbrev pub chooses : (type : ℕ) → Head → Bool
chooses T (New x U) = U == T
chooses T h = false

abbrev pub are_choices : (type : ℕ) → List (Head × List (ℕ × ℕ)) → Bool
are_choices T ds = nat_lt 1 (length ds) && list_all (λ (d : Head × List (ℕ × ℕ)). chooses T d.0) ds

abbrev pub has_several_keys : Matching → Bool
has_several_keys M = are_choices M.group.key.1 (definitions_in M.key [] M.scene.game) && nat_lt 0 (reads_of M.scene.game M.key)

-- the `let` whose whole term stands at a place

abbrev pub name_of_let : Tree → List ℕ
name_of_let (Node (Let y T) m b) = y ∷ []
name_of_let t = []

abbrev pub lets_before : (game : Tree) → (place : ℕ) → List ℕ
lets_before game zero = []
lets_before game (suc p) = name_of_let (part_at game p)

-- a name for each definition of a key that has several; no `let` of a key that is read outside all instances
abbrev pub advised_by : Matching → Option Refusal → List Move
advised_by M (Some NotOneSite) = when (has_several_keys M) (ArrayRename M.key)
advised_by M (Some (Use p)) = map Unlet (lets_before M.scene.game p)
advised_by M refusal = []

abbrev pub advised_for : Scene → ℕ × Tree → (x : ℕ) → List Move
advised_for s e x = advised_by (matching_of s e.1 x) (first_refusal (matching_of s e.1 x))

-- all in order

abbrev pub for_each : Scene → (ℕ × Tree → ℕ → List Move) → List Move
for_each s moves_of = flat_map (λ e. flat_map (moves_of e) (variables s.game)) (equivalences_in s.declarations)

abbrev pub moves : Scene → List Move
moves s = for_each s (λ e x. Crypto e.0 x ∷ []) ++ for_each s (advised_for s)

-- which of them may be made

-- The key and the coins are used in instances alone, of which there is one, and the next game, with some drawn names, is one.
pub record IsMatch (s : Scene) (equivalence key : ℕ) : Type 0 where
  pub tree : Tree
  pub there : equivalence_of s equivalence ≡ Some tree
  pub fits : failure_of s equivalence key ≡ None
  pub some : nat_lt 0 (length (sites_of (matching_of s tree key))) ≡ true
  pub next : Tree
  pub drawn : IsNextGame (reduction_of s tree key) next
  pub game : is_next s.declarations next ≡ true

abbrev pub MayBeMade : Scene → Move → Type 0
MayBeMade s (Crypto e x) = IsMatch s e x
MayBeMade s (Unlet y) = (next : Tree) × IsLegal s (unlet_step y) next
MayBeMade s (ArrayRename x) = (names : List ℕ) × (next : Tree) × IsLegal s (array_names_step x names) next

-- this one stands behind these, none of which may be made
pub record IsBehindMoves (s : Scene) (m : Move) : Type 0 where
  pub before : List Move
  pub after : List Move
  pub all : moves s ≡ before ++ m ∷ after
  pub none : AllByRecursion (λ n. MayBeMade s n → ⊥) before

-- the first that may
pub record IsFirstMove (s : Scene) (m : Move) : Type 0 where
  pub behind : IsBehindMoves s m
  pub may : MayBeMade s m

abbrev pub HasNoMove : Scene → Type 0
HasNoMove s = AllByRecursion (λ m. MayBeMade s m → ⊥) (moves s)

-- the tree is a step of the move, whatever names are drawn for it
abbrev pub IsMadeBy : Move → StepItems → Type 0
IsMadeBy (Crypto e x) (items.Crypto f y) = (f ≡ e) × (y ≡ x)
IsMadeBy (Unlet x) (items.Unlet y) = y ≡ x
IsMadeBy (ArrayRename x) (items.ArrayRename y to) = y ≡ x
IsMadeBy m i = ⊥

abbrev pub IsOfMove : Move → (step : Tree) → Type 0
IsOfMove m t = (i : StepItems) × (items_of_step t ≡ Some i) × IsMadeBy m i
