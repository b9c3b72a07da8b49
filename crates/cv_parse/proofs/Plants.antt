-- The nodes that a tree takes in a pool.
use Rattle.std.proofs.Common.{◌≡◌, ℕ, zero, suc, ◌+◌, ◌<◌, ◌≤◌, List, [], ◌∷◌, ◌++◌, append_assoc, length, length-append, map, take, Bool, true, false, nat_lt, Result, Ok, Err, refl, ap, ap₂, sym, ◌∙◌, append-nil, arith, Some, subst}
use Rattle.std.proofs.lemmas.List.{length-map}
use Rattle.std.proofs.lemmas.Bool.Decides.{nat_tests}
use Rattle.std.specs.Prelude.{IfErr, IsErrAnd, IsErrOf, flat_map, slice_get}
use Rattle.cv_pool.specs.declared.node.NodeId.{NodeId}
use Rattle.cv_pool.specs.declared.pool.PoolError.{PoolError}
use Rattle.cv_pool.specs.declared.pool.PoolError.TheVariants as pool
use Rattle.cv_syntax.specs.declared.decls.Decl.{Decl}
use Rattle.cv_syntax.specs.declared.work.BuildError.TheVariants as build
use Rattle.cv_syntax_trees.specs.Declarations.{Declaration}
use Rattle.cv_syntax.specs.declared.make.Make.{Make}
use Rattle.cv_syntax.specs.declared.make.Make.TheVariants as make
use Rattle.cv_syntax.specs.Planting.{overs}
use Rattle.cv_syntax.specs.Postorder.{postorder}
use Rattle.cv_syntax_trees.specs.Tree.{Tree, Empty, Node}
use Rattle.cv_parse_declarations.specs.signature.Declares.{parts_of, tree_in}
use Rattle.cv_parse_declarations.specs.declared.file.Reading.{Reading}
use Rattle.cv_parse_grammar.specs.Filled.{filled}
use Rattle.cv_parse_grammar.specs.Names.{Uses}
use Rattle.cv_parse.specs.declared.error.ParseError.{ParseError}
use Rattle.cv_parse.specs.declared.error.ParseError.TheVariants.{Build}
use Rattle.cv_parse.specs.Building.{Builds, Crowds}
use Rattle.cv_parse.specs.Faults.{of_pool}
use Rattle.cv_parse.specs.Games.{declared_before, declared_by, nodes_of}
use Rattle.cv_parse.specs.Nodes.{declared_nodes, file_nodes}
use Rattle.cv_parse.specs.Parsed.{bool_type}
use Rattle.cv_syntax.proofs.listing.Lists.{overs_append}

pub overs_tree : (t : Tree) → overs (postorder t) ≡ nodes_of t
unfolding postorder nodes_of
overs_tree Empty = refl
overs_tree (Node h a b) =
    let e = overs_append (postorder a) (postorder b ++ make.Over h ∷ []) in
    let f = overs_append (postorder b) (make.Over h ∷ []) in
    let i = overs_tree a in
    let j = overs_tree b in
    omega arith

-- the parts of a tree make so many nodes
pub overs_of : (ms : List Make) (t : Tree) → ms ≡ postorder t → overs ms ≡ nodes_of t
overs_of ms t e = ap overs e ∙ overs_tree t

-- the parts of the trees of declarations make so many nodes
pub overs_declared : (ds : List Declaration) → overs (flat_map parts_of ds) ≡ declared_nodes ds
overs_declared [] = refl
overs_declared (d ∷ ds) = overs_append (parts_of d) (flat_map parts_of ds) ∙ ap₂ (λ m n. m + n) (overs_tree (tree_in d)) (overs_declared ds)

-- so many nodes are built
pub built_nodes : (r : Reading) (makes : List Make) (b : Builds r makes) → overs makes ≡ file_nodes (bool_type ∷ b.file.decls) (filled b.file.game)
unfolding nodes_of
built_nodes r makes b =
    let e = ap overs b.parts ∙ overs_append r.trees.items (postorder (filled b.file.game)) in
    let f = ap overs b.hears.trees ∙ overs_declared b.file.decls in
    let g = overs_tree (filled b.file.game) in
    omega arith

-- one tree is the last one
pub one_root : {A : Type 0} (f : A → Tree) (t : Tree) (roots s : List A) (x : A) → map f roots ≡ t ∷ [] → roots ≡ s ++ x ∷ [] → f x ≡ t
one_root f t roots [] x e g = let h : f x ∷ [] ≡ t ∷ [] = ap (map f) (sym g) ∙ e in cc
one_root f t roots (z ∷ s) x e g =
    absurd (let l = ap length (ap (map f) (sym g) ∙ e) in let m = length-map ((z ∷ s) ++ x ∷ []) f in let n = length-append s (x ∷ []) in omega arith)

-- the pool has no room
pub crowded : (limit live need : ℕ) (e : PoolError) (r : Result NodeId ParseError) → IsErrAnd r (λ x. x ≡ of_pool e) → ((n : ℕ) → e ≡ pool.Full n → (n ≡ need) × (limit < live + need)) → IfErr r (λ x. Crowds limit live need x)
crowded limit live need e (Ok id) i h = absurd i
crowded limit live need (pool.Full n) (Err x) i h =
    let j = h n refl in
    subst (Crowds limit live need) (sym (i ∙ ap (λ m. Build (build.Full m)) j.0)) (refl, j.1)
crowded limit live need pool.OutOfMemory (Err x) i h = subst (Crowds limit live need) (sym i) tt

-- the pool has room
pub roomy : {A : Type 0} (limit live made need : ℕ) (r : A) → (limit < live + made → IsErrOf {T = A} (Ok r) (pool.Full made)) → made ≡ need → live + need ≤ limit
roomy limit live made need r h e = by_test (nat_lt limit (live + made)) refl
  where
    by_test : (b : Bool) → nat_lt limit (live + made) ≡ b → live + need ≤ limit
    by_test true i = absurd (let l : limit < live + made = grind (arith, nat_tests) in let j = h l in cc)
    by_test false i = let l : live + made ≤ limit = grind (arith, nat_tests) in omega arith

-- one declaration more
take_next : (ds : List Decl) (k : ℕ) → k < length ds → (d : Decl) × (slice_get ds k ≡ Some d) × (take (k + 1) ds ≡ take k ds ++ d ∷ [])
take_next [] k l = absurd (omega arith)
take_next (d ∷ ds) zero l = (d, refl, refl)
take_next (d ∷ ds) (suc k) l =
    let rest = take_next ds k (omega arith) in
    let e : suc k + 1 ≡ suc (k + 1) = omega arith in
    (rest.0, rest.1, ap (λ n. take n (d ∷ ds)) e ∙ ap (λ l. d ∷ l) rest.2)

declared_both : (a b : List Decl) → declared_before (a ++ b) ≡ declared_before a ++ declared_before b
declared_both [] b = refl
declared_both (d ∷ a) b = ap (λ l. declared_by d ++ l) (declared_both a b) ∙ sym (append_assoc (declared_by d) (declared_before a) (declared_before b))

pub declared_next : (ds : List Decl) (k : ℕ) (u v w us : Uses) → k < length ds → v ≡ u ++ declared_before (take k ds) → ((d : Decl) → slice_get ds k ≡ Some d → us ≡ declared_by d) → w ≡ v ++ us → w ≡ u ++ declared_before (take (k + 1) ds)
declared_next ds k u v w us l e h f =
    let d = take_next ds k l in
    f ∙ (ap (λ x. x ++ us) e ∙ (append_assoc u (declared_before (take k ds)) us ∙ ap (λ x. u ++ x) (ap (λ x. declared_before (take k ds) ++ x) (h d.0 d.1 ∙ sym (append-nil (declared_by d.0))) ∙ (sym (declared_both (take k ds) (d.0 ∷ [])) ∙ ap declared_before (sym d.2)))))
