-- Which terms of a game may be rewritten: those with a value of a type, in no `defined` list and in no index. This profile's own.
use Rattle.std.specs.Prelude.{ℕ, ◌+◌, ◌-◌, Bool, true, false, ◌&&◌, nat_lt, if◌then◌else◌, Option, Some, None}
use Rattle.cv_syntax_trees.specs.declared.head.Head.{Head}
use Rattle.cv_syntax_trees.specs.declared.head.Head.TheVariants.{Read}
use Rattle.cv_syntax_trees.specs.Head.{weight}
use Rattle.cv_syntax_trees.specs.Tree.{Tree, Empty, Node, size}
use Rattle.cv_scope_rules.specs.Phrases.{Phrase, Inputs, Nil, Term, parts}
use Rattle.cv_syntax_trees.specs.declared.sites.sort.Sort.{Sort}
use Rattle.cv_syntax_trees.specs.declared.sites.sort.Sort.TheVariants.{OfType}
use Rattle.cv_scope_rules.specs.typing.Signature.{sort_of}
use Rattle.cv_scene.specs.Scenes.{Scene, part_at}
use Rattle.cv_scene.specs.Terms.{above_at, is_sort, signature_in}

abbrev pub is_term : Phrase → Bool
is_term Term = true
is_term σ = false

-- what the children of a node are; the indices of a read are passed over

abbrev pub by_parts : Head → Option (Phrase × Phrase) → Phrase × Phrase
by_parts (Read x) parts = (Nil, Nil)
by_parts h None = (Nil, Nil)
by_parts h (Some p) = p

abbrev pub parts_of : Phrase → Head → Phrase × Phrase
parts_of σ h = by_parts h (parts σ h)

-- at a place of a phrase stands a term that is no index and no cell
unfoldable pub has_term_at : Phrase → Tree → ℕ → Bool
has_term_at σ Empty p = false
has_term_at σ (Node h a b) p =
    if nat_lt p (weight h) then is_term σ
    else if nat_lt p (weight h + size a) then has_term_at (parts_of σ h).0 a (p - weight h)
    else has_term_at (parts_of σ h).1 b (p - (weight h + size a))

-- the sort of a term at a place
abbrev pub sort_at : Scene → ℕ → Tree → Option Sort
sort_at s p m = sort_of (signature_in s) (above_at s p) m

-- a value of a type is no index
abbrev pub is_value : Option Sort → Bool
is_value (Some (OfType T)) = true
is_value S = false

-- the term at the place may be rewritten
abbrev pub is_rewritable_at : Scene → ℕ → Bool
is_rewritable_at s p = has_term_at Inputs s.game p && is_value (sort_at s p (part_at s.game p))

-- by this one it may: it is of the same sort
abbrev pub has_sort_of : Option Sort → Option Sort → Bool
has_sort_of None S = false
has_sort_of (Some R) S = is_sort S R
