-- The definitions of a variable in a game or context: inputs and branches that bind it, `new`, `let`, keys and calls. A
-- variable's site is its only definition. Blanchet, TDSC 2008, section 2.
use Rattle.std.specs.Prelude.{◌≡◌, ℕ, Bool, true, false, if◌then◌else◌, List, [], ◌∷◌, ◌++◌, map, Option, Some, None, option_and_then}
use Rattle.cv_syntax_trees.specs.declared.head.Head.{Head}
use Rattle.cv_syntax_trees.specs.declared.head.Head.TheVariants.{In, New, Let, Branch, Key, Call}
use Rattle.cv_syntax_trees.specs.Tree.{Tree, Empty, Node, first_place, second_place, subtree}
use Rattle.cv_directory.specs.Definitions as directory
use Rattle.cv_scope_rules.specs.Context.{Context}
use Rattle.cv_scope_rules.specs.Sites.{Variable}
use Rattle.cv_scope_rules.specs.Made.{made_by}
use Rattle.cv_derive_facts.specs.declared.sites.Seen.{Seen}
use Rattle.cv_derive_facts.specs.declared.sites.Seen.TheVariants.{Nothing, Once, Often}
use Rattle.cv_scope_rules.specs.Above.{stands_at}

-- the places of the definitions in a tree that stands at a place, in preorder
unfoldable pub places_of : ℕ → ℕ → Tree → List ℕ
places_of x p Empty = []
places_of x p (Node h a b) = (if made_by h a (Variable x) then p ∷ [] else []) ++ (places_of x (first_place p h) a ++ places_of x (second_place p h a) b)

-- those of sites
abbrev pub places : List (ℕ × Context) → List ℕ
places sites = map (λ (s : ℕ × Context). s.0) sites

-- the item of a list of one
abbrev pub only : List ℕ → Option ℕ
only (p ∷ []) = Some p
only ps = None

-- what was seen, with one more
abbrev pub seen_then : Seen → ℕ → Seen
seen_then Nothing p = Once p
seen_then s p = Often

-- and with those of a list
abbrev pub counted_on : Seen → List ℕ → Seen
counted_on s [] = s
counted_on s (p ∷ ps) = counted_on (seen_then s p) ps

-- The process behind a definition: in a branch its body, and else what follows.

abbrev pub can_define : Head → Bool
can_define (In c) = true
can_define (New x T) = true
can_define (Let x T) = true
can_define Branch = true
can_define (Key x) = true
can_define (Call x l) = true
can_define h = false

-- the place of the body behind a list and a condition
abbrev pub body_place : ℕ → Tree → ℕ
body_place p (Node h cells (Node k c body)) = second_place (second_place p h cells) k c
body_place p t = p

abbrev pub process_place : ℕ → Head → (a b : Tree) → ℕ
process_place p Branch us b = body_place (second_place p Branch us) b
process_place p h a b = second_place p h a

abbrev pub place_behind : ℕ → Tree → Option ℕ
place_behind p Empty = None
place_behind p (Node h a b) = if can_define h then Some (process_place p h a b) else None

-- the place of the process behind the definition at a place of a game
abbrev pub behind_at : Tree → ℕ → Option ℕ
behind_at game p = option_and_then (place_behind p) (subtree game p)

-- what stands there is what the site has
abbrev pub IsBehind : Tree → ℕ × Context → Type 0
IsBehind game s = option_and_then (stands_at game) (behind_at game s.0) ≡ Some s.1

-- the place of a definition in a directory, and the replications above it; the same of a site
abbrev pub definition_entry : directory.Definition → ℕ × List (ℕ × ℕ)
definition_entry d = (d.place, d.replications)

abbrev pub site_entry : ℕ × Context → ℕ × List (ℕ × ℕ)
site_entry s = (s.0, s.1.replications)
