-- When a variable is secret: in each of two forms nothing of its values reaches an adversary but by tests. Blanchet, TDSC 2008, for
-- secrecy; the two forms, and which node offends against them first, are this profile's own.
use Rattle.std.specs.Prelude.{◌≡◌, ◌⊎◌, ℕ, Bool, true, false, not, min, ◌&&◌, ◌==◌, if◌then◌else◌, List, [], ◌∷◌, ◌++◌, Option, Some, None, is_some}
use Rattle.std.specs.List.{filter, list_any}
use Rattle.cv_syntax_trees.specs.lists.Options.{first_of}
use Rattle.cv_syntax_trees.specs.declared.head.Head.{Head}
use Rattle.cv_syntax_trees.specs.declared.head.Head.TheVariants.{Let, New}
use Rattle.cv_syntax_trees.specs.Tree.{Tree, Empty, Node, first_place, second_place}
use Rattle.cv_scope_rules.specs.declared.position.Position.{Position}
use Rattle.cv_scope_rules.specs.declared.position.Position.TheVariants.{Anywhere, OneCell}
use Rattle.cv_scope_rules.specs.Context.{first_position, second_position}
use Rattle.cv_scope_rules.specs.Made.{made_by}
use Rattle.cv_scope_rules.specs.Sites.{Variable}
use Rattle.cv_scene.specs.Scenes.{Scene, has_some_new, head_reads, is_new_head, is_queried, part_at}
use Rattle.cv_scene.specs.Sights.{variable_of}

-- reads

-- a cell of a `defined` list isn't read, but its indices are
abbrev pub is_cell : Position → Bool
is_cell OneCell = true
is_cell w = false

abbrev pub reads_value : ℕ → Position → Head → Bool
reads_value x w h = not (is_cell w) && head_reads x h

abbrev pub is_let_of : ℕ → Head → Bool
is_let_of x (Let y T) = y == x
is_let_of x h = false

-- The first place in a tree, which stands at a place, where a value of one of these variables is read, but as the whole term of a `let` of
-- another one; `free` says that the tree is such a term.
unfoldable pub first_other_read : (x : ℕ) → (ys : List ℕ) → (free : Bool) → Position → (place : ℕ) → Tree → Option ℕ
first_other_read x ys free w p Empty = None
first_other_read x ys free w p (Node h a b) =
    if not free && list_any (λ y. reads_value y w h) ys then Some p
    else first_of (first_other_read x ys (is_let_of x h) (first_position w h) (first_place p h) a) (first_other_read x ys false (second_position w h) (second_place p h a) b)

-- definitions

-- the first place of a definition of the variable that isn't one of these
unfoldable pub first_definition_but : (Head → Tree → Bool) → ℕ → (place : ℕ) → Tree → Option ℕ
first_definition_but is_one x p Empty = None
first_definition_but is_one x p (Node h a b) =
    if made_by h a (Variable x) && not (is_one h a) then Some p
    else first_of (first_definition_but is_one x (first_place p h) a) (first_definition_but is_one x (second_place p h a) b)

-- the first place of a definition of the variable

abbrev pub is_none_of_them : Head → Tree → Bool
is_none_of_them h a = false

abbrev pub first_definition : (game : Tree) → (x : ℕ) → Option ℕ
first_definition game x = first_definition_but is_none_of_them x 0 game

-- a `let` stands there

abbrev pub is_let : Tree → Bool
is_let (Node (Let x T) a b) = true
is_let t = false

abbrev pub is_let_at : (game : Tree) → Option ℕ → Bool
is_let_at game None = false
is_let_at game (Some p) = is_let (part_at game p)

abbrev pub starts_by_let : (game : Tree) → (x : ℕ) → Bool
starts_by_let game x = is_let_at game (first_definition game x)

abbrev pub is_choice : Head → Tree → Bool
is_choice h a = is_new_head h

-- a `new` of this type
abbrev pub is_choice_of : (type : ℕ) → Head → Tree → Bool
is_choice_of T (New y U) a = U == T
is_choice_of T h a = false

-- the first of two places
abbrev pub earlier : Option ℕ → Option ℕ → Option ℕ
earlier None q = q
earlier (Some p) None = Some p
earlier (Some p) (Some q) = Some (min p q)

-- First form: each definition of the variable is a `new`, and no value of it is read.

abbrev pub first_offence_of_choices : (game : Tree) → (x : ℕ) → Option ℕ
first_offence_of_choices game x =
    earlier (first_definition_but is_choice x 0 game) (first_other_read x (x ∷ []) false Anywhere 0 game)

pub record AreUnreadChoices (game : Tree) (x : ℕ) : Type 0 where
  pub chosen : first_definition_but is_choice x 0 game ≡ None
  pub unread : first_other_read x (x ∷ []) false Anywhere 0 game ≡ None

-- Second form: each definition of the variable is a `let` that copies a value of another one, which is chosen of the same type, for which
-- no query asks, and of which no value is read but by these copies; and no value of the variable is read.

abbrev pub is_source : Scene → (type : ℕ) → Option ℕ → Bool
is_source s T None = false
is_source s T (Some y) = has_some_new y s.game && (not (is_some (first_definition_but (is_choice_of T) y 0 s.game)) && not (is_queried s y))

abbrev pub is_copy : Scene → Head → Tree → Bool
is_copy s (Let x T) m = is_source s T (variable_of m)
is_copy s h m = false

-- the names that the `let`s of a variable copy

abbrev pub put_source : Option ℕ → List ℕ → List ℕ
put_source None ys = ys
put_source (Some y) ys = y ∷ ys

unfoldable pub sources : ℕ → Tree → List ℕ
sources x Empty = []
sources x (Node h a b) = put_source (if is_let_of x h then variable_of a else None) (sources x a ++ sources x b)

-- those of variables: a constant and an index have no definition in the game

abbrev pub has_definition : (game : Tree) → (y : ℕ) → Bool
has_definition game y = is_some (first_definition game y)

abbrev pub copied_variables : (game : Tree) → (x : ℕ) → List ℕ
copied_variables game x = filter (has_definition game) (sources x game)

abbrev pub first_offence_of_copies : Scene → (x : ℕ) → Option ℕ
first_offence_of_copies s x =
    earlier (first_definition_but (is_copy s) x 0 s.game) (first_other_read x (x ∷ copied_variables s.game x) false Anywhere 0 s.game)

pub record AreUnreadCopies (s : Scene) (x : ℕ) : Type 0 where
  pub copies : first_definition_but (is_copy s) x 0 s.game ≡ None
  pub unread : first_other_read x (x ∷ copied_variables s.game x) false Anywhere 0 s.game ≡ None

-- of one session the variable is secret in either form
abbrev pub IsSecret : Scene → (x : ℕ) → Type 0
IsSecret s x = AreUnreadChoices s.game x ⊎ AreUnreadCopies s x
