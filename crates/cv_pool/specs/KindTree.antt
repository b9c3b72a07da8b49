-- Binary trees of kinds, which the nodes of a pool stand for.
use Rattle.std.specs.Prelude.{ℕ, ◌+◌, ◌≡◌, List, [], ◌∷◌, ◌++◌, Option, Some, None, refl, Bool, true, false}
use Rattle.std.proofs.Common.{ap, ◌∙◌, append_assoc}
use Rattle.std.specs.Coded.{Coded, code_by, coded×, coded_ℕ, coded_option, coded_list}
use Rattle.cv_pool.specs.declared.node.Kind.{Kind}

-- a tree, or none
pub data KindTree : Type 0 where
  NoTree : KindTree
  Fork : (kind : Kind) → (first second : KindTree) → KindTree

-- how many nodes a tree has
abbrev pub tree_size : KindTree → ℕ
tree_size NoTree = 0
tree_size (Fork k a b) = tree_size a + tree_size b + 1

-- the kind at the top
abbrev pub kind_of : KindTree → Kind
kind_of NoTree = record { tag = 0; a = 0; b = 0 }
kind_of (Fork k a b) = k

-- the second child, or the first
abbrev pub side : Bool → KindTree → KindTree
side second NoTree = NoTree
side true (Fork k a b) = b
side false (Fork k a b) = a

-- A tree as a list: none, or a node behind its two children.
abbrev pub Steps : Type 0
Steps = List (Option (ℕ × (ℕ × ℕ)))

-- the steps that make a tree
abbrev pub steps_of : KindTree → Steps
steps_of NoTree = None ∷ []
steps_of (Fork k a b) = steps_of a ++ (steps_of b ++ Some (k.tag, (k.a, k.b)) ∷ [])

-- a node over the two newest trees of a stack
abbrev pub joined : ℕ × (ℕ × ℕ) → List KindTree → List KindTree
joined k (b ∷ (a ∷ stack)) = Fork (record { tag = k.0; a = k.1.0; b = k.1.1 }) a b ∷ stack
joined k (b ∷ []) = []
joined k [] = []

-- the stack that steps make
abbrev pub stacked : List KindTree → Steps → List KindTree
stacked stack [] = stack
stacked stack (None ∷ steps) = stacked (NoTree ∷ stack) steps
stacked stack (Some k ∷ steps) = stacked (joined k stack) steps

-- the newest tree of a stack
abbrev pub top : List KindTree → KindTree
top [] = NoTree
top (t ∷ ts) = t

-- the steps of a tree make that tree
pub stacked_steps_of : (t : KindTree) (stack : List KindTree) (rest : Steps) → stacked stack (steps_of t ++ rest) ≡ stacked (t ∷ stack) rest
stacked_steps_of NoTree stack rest = refl
stacked_steps_of (Fork k a b) stack rest =
    ap (stacked stack) (append_assoc (steps_of a) (steps_of b ++ Some (k.tag, (k.a, k.b)) ∷ []) rest)
    ∙ (stacked_steps_of a stack ((steps_of b ++ Some (k.tag, (k.a, k.b)) ∷ []) ++ rest)
    ∙ (ap (stacked (a ∷ stack)) (append_assoc (steps_of b) (Some (k.tag, (k.a, k.b)) ∷ []) rest)
    ∙ stacked_steps_of b (a ∷ stack) (Some (k.tag, (k.a, k.b)) ∷ rest)))

pub steps_back : (t : KindTree) → top (stacked [] (steps_of t ++ [])) ≡ t
steps_back t = ap top (stacked_steps_of t [] [])

-- a tree in one code
abbrev pub coded_tree : Coded KindTree
coded_tree =
    code_by Steps (coded_list (coded_option (coded× coded_ℕ (coded× coded_ℕ coded_ℕ)))) (λ t. steps_of t ++ []) (λ s. top (stacked [] s)) steps_back
