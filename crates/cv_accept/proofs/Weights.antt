-- The terms of a file have no more syntax nodes than the file weighs.
use Rattle.std.proofs.Common.{◌≡◌, ℕ, ◌+◌, ◌*◌, ◌<◌, ◌≤◌, min, List, [], ◌∷◌, flat_map, Option, arith, Ok}
use Rattle.cv_parse_notation.specs.declared.sign.Sign.{Sign}
use Rattle.cv_syntax_trees.specs.Declarations.{Declaration, Named, Equation, Equiv, Query}
use Rattle.cv_syntax_trees.specs.Tree.{Tree, Empty, Node, first, second, size}
use Rattle.cv_parse.specs.Parsed.{Parsed, parsed, weight_of}
use Rattle.cv_parse.specs.Weights.{declared_weight, tree_weight}
use Rattle.cv_parse.proofs.Exactness.{said_is_saying}
use Rattle.cv_parse_declarations.specs.signature.Declares.{tree_in}
use Rattle.cv_syntax_trees.specs.declared.sites.sort.Sort.{Sort}
use Rattle.cv_scope_rules.specs.typing.Parts.{body_parts, declaration_parts, equivalence_parts, file_parts, game_part, more_results, results, side_arrays}
use Rattle.cv_scope_rules.specs.typing.Refusals.{parts_size}
use Rattle.cv_scope_rules.specs.typing.Signature.{Arrays}
use Rattle.cv_typing.proofs.Bodies.{size_append}

size_weight : (t : Tree) → size t ≤ tree_weight t
unfolding size tree_weight
size_weight Empty = omega arith
size_weight (Node h a b) = omega (arith, size_weight a, size_weight b)

second_size : (t : Tree) → size (second t) ≤ size t
unfolding size
second_size Empty = omega arith
second_size (Node h a b) = omega arith

first_second : (t : Tree) → size (first t) + size (second t) ≤ size t
unfolding size
first_second Empty = omega arith
first_second (Node h a b) = omega arith

bodies_size : (arrays : Arrays) (key : Tree) (Ss : List (Option Sort)) (t : Tree) → parts_size (body_parts arrays key Ss t) ≤ size t
unfolding body_parts size
bodies_size arrays key Ss Empty = omega arith
bodies_size arrays key Ss (Node h f more) = omega (arith, second_size f, bodies_size arrays key (more_results Ss) more)

equivalence_size : (ds : List Declaration) (t : Tree) → parts_size (equivalence_parts ds t) ≤ size t
equivalence_size ds t =
    let a = first_second t in
    let b = second_size (first t) in
    let c = second_size (second t) in
    let d = bodies_size (side_arrays (first t)) (first (first t)) [] (second (first t)) in
    let e = bodies_size (side_arrays (second t)) (first (second t)) (results (record { declarations = ds; arrays = side_arrays (first t) }) (first (first t)) (second (first t))) (second (second t)) in
    let f = size_append (body_parts (side_arrays (first t)) (first (first t)) [] (second (first t))) (body_parts (side_arrays (second t)) (first (second t)) (results (record { declarations = ds; arrays = side_arrays (first t) }) (first (first t)) (second (first t))) (second (second t))) in
    omega arith

declaration_size : (ds : List Declaration) (d : Declaration) → parts_size (declaration_parts ds d) ≤ size (tree_in d)
declaration_size ds (Named x class args result) = omega arith
declaration_size ds (Equation t) = omega (arith, second_size t)
declaration_size ds (Equiv x t) = equivalence_size ds t
declaration_size ds (Query t) = omega arith

declarations_size : (ds es : List Declaration) → parts_size (flat_map (declaration_parts ds) es) ≤ declared_weight es
declarations_size ds [] = omega arith
declarations_size ds (d ∷ es) =
    let e = size_append (declaration_parts ds d) (flat_map (declaration_parts ds) es) in
    omega (arith, declaration_size ds d, size_weight (tree_in d), declarations_size ds es)

file_size : (ds : List Declaration) (t : Tree) → parts_size (file_parts ds t) ≤ declared_weight ds + tree_weight t
file_size ds t =
    let e = size_append (flat_map (declaration_parts ds) ds) (game_part t ∷ []) in
    omega (arith, declarations_size ds ds, size_weight t)

-- within the pool's limit
pub few_terms : (limit : ℕ) (signs : List Sign) (p : Parsed) → limit < 4294967295 → parsed limit signs ≡ Ok p → parts_size (file_parts p.declarations p.game) < 4294967296
few_terms limit signs p l e =
    let w = said_is_saying limit signs p e in
    let s = file_size p.declarations p.game in
    let r : min (4 * weight_of p) 4294967295 ≤ limit = w.room in
    omega arith
