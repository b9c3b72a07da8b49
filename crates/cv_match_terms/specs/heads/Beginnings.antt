-- What the bodies of functions begin with: a term with another head is an instance of none. This profile's own.
use Rattle.std.specs.Prelude.{◌≡◌, Bool, true, ◌&&◌, ◌||◌, ◌==◌, List, Option, Some, None}
use Rattle.std.specs.List.{list_any}
use Rattle.cv_syntax_trees.specs.declared.head.Code.{Code}
use Rattle.cv_syntax_trees.specs.declared.head.Head.{Head}
use Rattle.cv_syntax_trees.specs.declared.head.Head.TheVariants.{Leaf}
use Rattle.cv_syntax_trees.specs.Head.{code}
use Rattle.cv_syntax_trees.specs.Tree.{Tree, Empty, Node}
use Rattle.cv_meaning.specs.contexts.Groups.{Function}
use Rattle.cv_match_terms.specs.declared.heads.heads.Heads.{Heads}

abbrev pub same_code : Code → Code → Bool
same_code h k = (h.tag == k.tag) && ((h.a == k.a) && (h.b == k.b))

abbrev pub has_code : Code → List Code → Bool
has_code k ks = list_any (λ h. same_code h k) ks

-- the code of a body's node, unless the body is a name or nothing

abbrev pub code_at : Head → Option Code
code_at (Leaf x) = None
code_at h = Some (code h)

abbrev pub code_of : Tree → Option Code
code_of Empty = None
code_of (Node h a b) = code_at h

abbrev pub is_code : Code → Option Code → Bool
is_code k None = true
is_code k (Some h) = same_code h k

-- the body of a function may be that of a term with a head
abbrev pub begins : Head → Function → Bool
begins k f = is_code (code k) (code_of f.body)

-- what the table says of a head
abbrev pub may_begin : Heads → Head → Bool
may_begin hs k = hs.any || has_code (code k) hs.codes.items

-- so says the table of each head, where it does of some function
abbrev pub AreHeadsOf : List Function → Heads → Type 0
AreHeadsOf fs hs = (k : Head) → may_begin hs k ≡ list_any (begins k) fs
