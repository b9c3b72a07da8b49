-- Numbers above names, and trees whose marked names are raised.
use Rattle.std.proofs.Common.{◌≡◌, ℕ, zero, suc, ◌+◌, ◌<◌, ◌≤◌, max, List, [], ◌∷◌, ◌++◌, length, drop, map, refl, sym, ap, ◌∙◌, arith, Option, Some, None}
use Rattle.std.specs.Prelude.{slice_get}
use Rattle.cv_pool.specs.KindTree.{KindTree}
use Rattle.cv_syntax.specs.declared.decls.Decl.{Decl}
use Rattle.cv_syntax.specs.declared.decls.Decl.TheVariants as decl
use Rattle.cv_syntax.specs.Declarations.{declarations}
use Rattle.cv_syntax.specs.declared.make.Make.{Make}
use Rattle.cv_syntax.specs.declared.make.Make.TheVariants as make
use Rattle.cv_syntax.specs.parts.Closing.{closing}
use Rattle.cv_syntax.specs.Postorder.{postorder}
use Rattle.cv_syntax.proofs.parts.Making.{chain_ends, chain_goes}
use Rattle.cv_syntax_trees.specs.declared.head.Head.{Head}
use Rattle.cv_syntax_trees.specs.Tree.{Tree, Empty, Node}
use Rattle.cv_query_certificates.specs.Marks.{declared_end, head_end, names_end, plain, plain_head}
use Rattle.cv_query_parts.specs.pairs.Ends.{end_by}

-- declarations, one by one

ended_by : (trees : List KindTree) (d : Decl) (ds : List Decl) → declared_end (declarations trees (d ∷ ds)) ≡ max (end_by (Some d)) (declared_end (declarations trees ds))
ended_by trees (decl.Name id class args result) ds = omega arith
ended_by trees (decl.Equation n) ds = omega arith
ended_by trees (decl.Equiv id n) ds = omega arith
ended_by trees (decl.Query n) ds = omega arith

one_ended : (trees : List KindTree) (ds : List Decl) (k : ℕ) (o : Option Decl) → k < length ds → o ≡ slice_get ds k → declared_end (declarations trees (drop k ds)) ≡ max (end_by o) (declared_end (declarations trees (drop (k + 1) ds)))
one_ended trees [] k o l e = absurd (omega (arith, l))
one_ended trees (d ∷ ds) zero o l e = ended_by trees d ds ∙ ap (λ p. max (end_by p) (declared_end (declarations trees ds))) (sym e)
one_ended trees (d ∷ ds) (suc k) o l e =
    let n : suc (k + 1) ≡ suc k + 1 = omega arith in
    one_ended trees ds k o (omega (arith, l)) e ∙ ap (λ m. max (end_by o) (declared_end (declarations trees (drop m (d ∷ ds))))) n

pub end_more : (ds : List Decl) (k : ℕ) (o : Option Decl) (m end new : ℕ) → k < length ds → o ≡ slice_get ds k → m ≡ end_by o → new ≡ max end m → (trees : List KindTree) → max end (declared_end (declarations trees (drop k ds))) ≡ declared_end (declarations trees ds)
    → max new (declared_end (declarations trees (drop (k + 1) ds))) ≡ declared_end (declarations trees ds)
end_more ds k o m end new l e f g trees i = omega (arith, g, f, i, one_ended trees ds k o l e)

-- names, node by node

pub names_node : (t : Tree) (h : Head) (a b : Tree) → t ≡ Node h a b → names_end t ≡ max (head_end h) (max (names_end a) (names_end b))
unfolding names_end
names_node t h a b e = ap names_end e

pub names_none : (t : Tree) → t ≡ Empty → names_end t ≡ 0
unfolding names_end
names_none t e = ap names_end e

-- trees over plain names

plain_node : (k : ℕ) (t : Tree) (h : Head) (a b : Tree) → t ≡ Node h a b → plain k t ≡ Node (plain_head k h) (plain k a) (plain k b)
unfolding plain
plain_node k t h a b e = ap (plain k) e

plain_none : (k : ℕ) (t : Tree) → t ≡ Empty → plain k t ≡ Empty
unfolding plain
plain_none k t e = ap (plain k) e

pub plain_goes : (k : ℕ) (t : Tree) (h g : Head) (a b : Tree) (out new total : List Make) (hs ks : List Head) → t ≡ Node h a b → g ≡ plain_head k h → out ++ (postorder (plain k t) ++ closing hs) ≡ total → new ≡ out ++ postorder (plain k a) → ks ≡ hs ++ g ∷ []
    → new ++ (postorder (plain k b) ++ closing ks) ≡ total
plain_goes k t h g a b out new total hs ks e f i n j =
    chain_goes (plain k t) (plain_head k h) (plain k a) (plain k b) out new total hs ks (plain_node k t h a b e) i n (j ∙ ap (λ x. hs ++ x ∷ []) f)

pub plain_ends : (k : ℕ) (t : Tree) (out new total : List Make) (hs : List Head) → t ≡ Empty → out ++ (postorder (plain k t) ++ closing hs) ≡ total → new ≡ out ++ make.Nothing ∷ [] → new ++ closing hs ≡ total
plain_ends k t out new total hs e i n = chain_ends (plain k t) out new total hs (plain_none k t e) i n
