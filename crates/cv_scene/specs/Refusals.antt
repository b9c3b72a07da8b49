-- Why a game has no context for an equivalence and a key: the key has another definition or another use than in instances, or a
-- coin is used elsewhere. Blanchet and Pointcheval, CRYPTO 2006, for the conditions; their order is this profile's own.
use Rattle.std.specs.Prelude.{ℕ, ◌+◌, Bool, true, false, ◌&&◌, not, ◌==◌, if◌then◌else◌, List, [], ◌∷◌, ◌++◌, map, zip, Option, Some, None}
use Rattle.std.specs.List.{list_all, list_any}
use Rattle.cv_syntax_trees.specs.declared.head.Head.{Head}
use Rattle.cv_syntax_trees.specs.declared.head.Head.TheVariants.{Leaf, New}
use Rattle.cv_syntax_trees.specs.Tree.{Tree, Empty, Node, first_place, same_tree, second_place}
use Rattle.cv_meaning.specs.contexts.Groups.{Function}
use Rattle.cv_syntax_trees.specs.sites.Sites.{first_of}
use Rattle.cv_scope_rules.specs.declared.position.Position.{Position}
use Rattle.cv_scope_rules.specs.declared.position.Position.TheVariants.{Anywhere, Guarded}
use Rattle.cv_scope_rules.specs.Context.{cell_of, first_position, replications_below, second_position}
use Rattle.cv_scope_rules.specs.Made.{made_by}
use Rattle.cv_scope_rules.specs.Sites.{Variable}
use Rattle.cv_scope_rules.specs.Tests.{same_replications}
use Rattle.cv_scene.specs.Scenes.{first_reading, head_reads, is_queried}
use Rattle.cv_scene.specs.Sights.{variable_of}
use Rattle.cv_scene.specs.Instances.{Call, Matching, call_at}
use Rattle.cv_scene.specs.Sites.{Site, is_guard, sites_of}

pub data Refusal : Type 0 where
  -- the key hasn't one site, a `new` of its type, or a query asks for it
  NotOneSite : Refusal
  -- the key is read outside instances and conditions; in a condition; a coin is used elsewhere; the key is read in an argument
  Use InCondition CoinUse KeyInArgument : (place : ℕ) → Refusal

-- definitions

-- the nodes of a tree that define a variable, with the replications above each
unfoldable pub definitions_in : ℕ → List (ℕ × ℕ) → Tree → List (Head × List (ℕ × ℕ))
definitions_in x rs Empty = []
definitions_in x rs (Node h a b) =
    (if made_by h a (Variable x) then (h, rs) ∷ [] else []) ++ (definitions_in x rs a ++ definitions_in x (replications_below h rs) b)

-- the type of a variable and the replications above it, where it has one definition, a `new`

abbrev pub only_new : List (Head × List (ℕ × ℕ)) → Option (ℕ × List (ℕ × ℕ))
only_new ((New x T, rs) ∷ []) = Some (T, rs)
only_new ds = None

abbrev pub new_of : Tree → ℕ → Option (ℕ × List (ℕ × ℕ))
new_of game x = only_new (definitions_in x [] game)

-- the key

abbrev pub is_of_type : ℕ → Option (ℕ × List (ℕ × ℕ)) → Bool
is_of_type T None = false
is_of_type T (Some d) = d.0 == T

abbrev pub has_key : Matching → Bool
has_key M = is_of_type M.group.key.1 (new_of M.scene.game M.key) && not (is_queried M.scene M.key)

-- the first place, outside instances, `defined` lists and conditions, where the tree reads the key
unfoldable pub first_use : Matching → Position → (place : ℕ) → Tree → Option ℕ
first_use M w p Empty = None
first_use M w p (Node h a b) = elim (call_at M (Node h a b)) [
  | Some c ↦ None
  | None ↦
      if head_reads M.key h then Some p
      else first_of (if is_guard w then None else first_use M (first_position w h) (first_place p h) a) (first_use M (second_position w h) (second_place p h a) b)
]

abbrev pub is_condition : Position → Bool
is_condition Guarded = true
is_condition w = false

-- the first place in a condition of a `find` where the variable is read
unfoldable pub first_in_condition : ℕ → Position → (place : ℕ) → Tree → Option ℕ
first_in_condition x w p Empty = None
first_in_condition x w p (Node h a b) =
    first_of
    (if is_condition w then first_reading x (first_place p h) a else first_in_condition x (first_position w h) (first_place p h) a)
    (first_in_condition x (second_position w h) (second_place p h a) b)

abbrev pub is_among : List (ℕ × ℕ) → ℕ → Bool
is_among xs y = list_any (λ (x : ℕ × ℕ). x.0 == y) xs

-- the node of a body is a name of these
abbrev pub is_name_of : List (ℕ × ℕ) → Head → Bool
is_name_of xs (Leaf y) = is_among xs y
is_name_of xs h = false

-- the first place in a term that stands for an argument, where the body stands for a term at a place
unfoldable pub first_in_arguments : ℕ → (arguments : List (ℕ × ℕ)) → (body : Tree) → (place : ℕ) → (term : Tree) → Option ℕ
first_in_arguments x xs Empty p m = None
first_in_arguments x xs (Node h a b) p Empty = None
first_in_arguments x xs (Node h a b) p (Node k c d) =
    if is_name_of xs h then first_reading x p (Node k c d)
    else first_of (first_in_arguments x xs a (first_place p k) c) (first_in_arguments x xs b (second_place p k c) d)

abbrev pub first_argument_use : Matching → List Site → Option ℕ
first_argument_use M [] = None
first_argument_use M (s ∷ ss) =
    first_of (first_in_arguments M.key s.call.function.arguments s.call.function.body s.place s.term) (first_argument_use M ss)

-- coins

-- how many nodes of a tree read a variable or name it in a `defined` list
unfoldable pub uses : ℕ → Tree → ℕ
uses x Empty = 0
uses x (Node h a b) = (if head_reads x h then 1 else 0) + (uses x a + uses x b)

abbrev pub stands_under : List (ℕ × ℕ) → Option (ℕ × List (ℕ × ℕ)) → Bool
stands_under rs None = false
stands_under rs (Some d) = same_replications d.1 rs

-- A coin's variable has one definition, a `new` under the replications of the instance. It is read at the current indices, and as
-- often as the body reads the coin and no more. No query asks for it.
abbrev pub is_coin : Matching → Site → (coin : ℕ) → (term : Tree) → Option ℕ → Bool
is_coin M s c m None = false
is_coin M s c m (Some y) =
    stands_under s.replications (new_of M.scene.game y)
    && (same_tree m (cell_of s.replications y)
    && (not (is_queried M.scene y) && (uses y M.scene.game == uses c s.call.function.body)))

abbrev pub are_coins : Matching → Site → List (ℕ × ℕ) → List Tree → Bool
are_coins M s (c ∷ cs) (m ∷ ms) = is_coin M s c.0 m (variable_of m) && are_coins M s cs ms
are_coins M s cs ms = true

-- the place of the first instance with a coin that isn't its own
abbrev pub first_coin_use : Matching → List Site → Option ℕ
first_coin_use M [] = None
first_coin_use M (s ∷ ss) = if are_coins M s s.call.function.coins s.call.instance.coins then first_coin_use M ss else Some s.place

-- the first refusal

abbrev pub at_place : (ℕ → Refusal) → Option ℕ → Option Refusal
at_place refusal None = None
at_place refusal (Some p) = Some (refusal p)

abbrev pub first_refusal : Matching → Option Refusal
first_refusal M =
    if has_key M then
    first_of (at_place Use (first_use M Anywhere 0 M.scene.game))
    (first_of (at_place InCondition (first_in_condition M.key Anywhere 0 M.scene.game))
    (first_of (at_place CoinUse (first_coin_use M (sites_of M)))
    (at_place KeyInArgument (first_argument_use M (sites_of M)))))
    else Some NotOneSite
