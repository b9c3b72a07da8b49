-- What is drawn for a body: for its own node, and for the bodies below it. This profile's own.
use Rattle.std.specs.Prelude.{ℕ, Bool, true, false, ◌&&◌, List, [], ◌∷◌, ◌++◌, flat_map}
use Rattle.cv_pool.specs.KindTree.{KindTree}
use Rattle.cv_syntax_trees.specs.declared.head.Head.{Head}
use Rattle.cv_syntax_trees.specs.declared.head.Head.TheVariants.{New, Let, If, Find, Branch, Cons}
use Rattle.cv_syntax_trees.specs.Tree.{Tree, Node, first_place, second_place}
use Rattle.cv_syntax.specs.PoolTrees.{tree_at}
use Rattle.cv_meaning.specs.contexts.Inlined.{Caller}
use Rattle.cv_inline.specs.Draws.{Draw, body_draws, branches_draws, index_draws}
use Rattle.cv_inline_sites.specs.listing.Listed.{variable_draw}
use Rattle.cv_inline_sites.specs.declared.listing.subtree.Subtree.{Subtree}

abbrev pub own_draws : List Caller → (c place : ℕ) → Tree → List Draw
own_draws ss c q (Node (New z T) a b) = variable_draw c z ∷ []
own_draws ss c q (Node (Let z T) a b) = variable_draw c z ∷ []
own_draws ss c q (Node (Find l) a b) = flat_map (λ s. index_draws c q s 0 a) ss
own_draws ss c q t = []

-- for the two bodies of an `if`, of the list in which they stand
abbrev pub if_draws : List Caller → (c place : ℕ) → Tree → List Draw
if_draws ss c p (Node h b (Node j e f)) = body_draws ss c (first_place p h) b ++ body_draws ss c (first_place (second_place p h b) j) e
if_draws ss c p t = []

abbrev pub draws_below : List Caller → (c place : ℕ) → Tree → List Draw
draws_below ss c q (Node (New z T) a b) = body_draws ss c (second_place q (New z T) a) b
draws_below ss c q (Node (Let z T) a b) = body_draws ss c (second_place q (Let z T) a) b
draws_below ss c q (Node If a b) = if_draws ss c (second_place q If a) b
draws_below ss c q (Node (Find l) a b) = branches_draws ss c (first_place q (Find l)) a ++ body_draws ss c (second_place q (Find l) a) b
draws_below ss c q t = []

abbrev pub draws_at : List KindTree → List Caller → ℕ → Subtree → List Draw
draws_at trees ss c s = body_draws ss c s.place (tree_at trees s.root)

abbrev pub is_cons : Head → Bool
is_cons Cons = true
is_cons h = false

abbrev pub is_branch : Head → Bool
is_branch Branch = true
is_branch h = false

-- the heads of a list's item, of its branch, of the branch's list and of its condition
abbrev pub have_form : Head → Head → Head → Head → Bool
have_form item branch cells condition = is_cons item && (is_branch branch && (is_cons cells && is_cons condition))

-- the find at a place, if this is one
abbrev pub find_at : ℕ → Head → List ℕ
find_at q (Find l) = q ∷ []
find_at q h = []
