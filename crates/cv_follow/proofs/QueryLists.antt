-- The queries of a list of declarations.
use Rattle.std.proofs.Common.{◌≡◌, ℕ, zero, suc, ◌<◌, List, [], ◌∷◌, map, refl, ap, arith, Some, option_and_then, All}
use Rattle.std.specs.Prelude.{slice_get}
use Rattle.std.proofs.lemmas.List.Elements.{All-head, All-tail}
use Rattle.cv_syntax.specs.declared.decls.Decl.{Decl}
use Rattle.cv_syntax.specs.declared.decls.Decl.TheVariants as decl
use Rattle.cv_pool.specs.declared.node.NodeId.{NodeId}
use Rattle.cv_syntax.specs.Classes.{queries, query_of}
use Rattle.cv_syntax.specs.Declarations.{declarations}
use Rattle.cv_pool.specs.KindTree.{KindTree}
use Rattle.cv_syntax.specs.PoolTrees.{tree_at}
use Rattle.cv_parse.specs.Declaring.{IsBelow}
use Rattle.cv_meaning.specs.Queries.{queries_in}

pub queries_same : (trees : List KindTree) (ds : List Decl) → queries_in (declarations trees ds) ≡ map (λ n. tree_at trees (Some n)) (queries ds)
unfolding queries_in
queries_same trees [] = refl
queries_same trees (decl.Name id c args result ∷ ds) = queries_same trees ds
queries_same trees (decl.Equation n ∷ ds) = queries_same trees ds
queries_same trees (decl.Equiv id n ∷ ds) = queries_same trees ds
queries_same trees (decl.Query n ∷ ds) = ap (λ ts. tree_at trees (Some n) ∷ ts) (queries_same trees ds)

pub query_below : (bound : ℕ) (ds : List Decl) (k : ℕ) (q : NodeId) → All (IsBelow bound) ds → option_and_then query_of (slice_get ds k) ≡ Some q → q.0 < bound
query_below bound [] k q p e = absurd (cc)
query_below bound (decl.Name id c args result ∷ ds) zero q p e = absurd (cc)
query_below bound (decl.Equation n ∷ ds) zero q p e = absurd (cc)
query_below bound (decl.Equiv id n ∷ ds) zero q p e = absurd (cc)
query_below bound (decl.Query n ∷ ds) zero q p e = let h : n.0 ≡ q.0 = cc in let l : n.0 < bound = All-head (IsBelow bound) (decl.Query n) ds p in omega arith
query_below bound (x ∷ ds) (suc k) q p e = query_below bound ds k q (All-tail (IsBelow bound) x ds p) e
