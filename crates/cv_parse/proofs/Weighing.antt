-- The weight of trees is that of their parts.
use Rattle.std.proofs.Common.{◌≡◌, ℕ, zero, suc, ◌+◌, ◌<◌, ◌≤◌, List, [], ◌∷◌, ◌++◌, length, take, get_or, refl, ap, ap₂, ◌∙◌, arith}
use Rattle.std.specs.Prelude.{flat_map}
use Rattle.cv_syntax.specs.declared.make.Make.{Make}
use Rattle.cv_syntax.specs.declared.make.Make.TheVariants.{Over}
use Rattle.cv_syntax_trees.specs.Declarations.{Declaration}
use Rattle.cv_syntax.specs.Postorder.{postorder}
use Rattle.cv_syntax_trees.specs.Tree.{Tree, Empty, Node}
use Rattle.cv_parse_declarations.specs.signature.Declares.{parts_of, tree_in}
use Rattle.cv_parse.specs.Weights.{declared_weight, part_weight, parts_weight, tree_weight}

pub weight_both : (a b : List Make) → parts_weight (a ++ b) ≡ parts_weight a + parts_weight b
weight_both [] b = omega arith
weight_both (m ∷ a) b = let e = weight_both a b in omega arith

pub tree_weight_law : (t : Tree) → parts_weight (postorder t) ≡ tree_weight t
unfolding postorder tree_weight
tree_weight_law Empty = refl
tree_weight_law (Node h a b) =
    let e = weight_both (postorder a) (postorder b ++ Over h ∷ []) in
    let f = weight_both (postorder b) (Over h ∷ []) in
    let i = tree_weight_law a in
    let j = tree_weight_law b in
    omega arith

pub declared_weight_law : (ds : List Declaration) → parts_weight (flat_map parts_of ds) ≡ declared_weight ds
declared_weight_law [] = refl
declared_weight_law (d ∷ ds) = weight_both (parts_of d) (flat_map parts_of ds) ∙ ap₂ (λ m n. m + n) (tree_weight_law (tree_in d)) (declared_weight_law ds)

-- a list of parts, one by one
pub weight_next : (ms : List Make) (d : Make) (k : ℕ) → k < length ms → parts_weight (take (k + 1) ms) ≡ parts_weight (take k ms) + part_weight (get_or ms k d)
weight_next [] d k l = absurd (omega arith)
weight_next (m ∷ ms) d zero l = omega arith
weight_next (m ∷ ms) d (suc k) l = let e : suc k + 1 ≡ suc (k + 1) = omega arith in ap (λ n. parts_weight (take n (m ∷ ms))) e ∙ (let i = weight_next ms d k (omega arith) in omega arith)

pub weight_all : (ms : List Make) (k : ℕ) → length ms ≤ k → parts_weight (take k ms) ≡ parts_weight ms
weight_all [] zero l = refl
weight_all [] (suc k) l = refl
weight_all (m ∷ ms) zero l = absurd (omega arith)
weight_all (m ∷ ms) (suc k) l = let e = weight_all ms k (omega arith) in omega arith

pub ruleset weighings = (weight_next, weight_all)
