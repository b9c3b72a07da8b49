-- What stays while a pool grows.
use Rattle.std.proofs.Common.{◌≡◌, zero, suc, ◌<◌, ◌≤◌, ℕ, List, [], ◌∷◌, length, refl, ap, ap₂, arith}
use Rattle.std.specs.Prelude.{All, Some, slice_index_or}
use Rattle.cv_pool.specs.declared.node.NodeId.{NodeId}
use Rattle.cv_pool.specs.PoolView.{PoolView, Grows}
use Rattle.cv_pool.proofs.Growth.{ChildBelow_more, Grows_length}
use Rattle.cv_syntax.specs.declared.decls.Decl.{Decl}
use Rattle.cv_syntax.specs.declared.decls.Decl.TheVariants as decl
use Rattle.cv_syntax_trees.specs.Declarations.{Named, Equation, Equiv, Query}
use Rattle.cv_syntax.specs.Declarations.{declared, declarations, number}
use Rattle.cv_syntax.specs.PoolTrees.{tree_at}
use Rattle.cv_syntax.proofs.Buildings.{child_grown}
use Rattle.cv_directory.specs.Live.{IsLive}

pub root_grown : (old new : PoolView) (n : NodeId) → Grows old new → n.0 < length old.trees → tree_at new.trees (Some n) ≡ tree_at old.trees (Some n)
root_grown old new n g l = child_grown old new (Some n) g l

pub decl_grown : (old new : PoolView) (d : Decl) → Grows old new → IsLive (length old.trees) d → declared new.trees d ≡ declared old.trees d
decl_grown old new (decl.Name id class args result) g b = ap (λ t. Named id.0 class t (number result)) (child_grown old new args g b)
decl_grown old new (decl.Equation n) g b = ap Equation (root_grown old new n g b)
decl_grown old new (decl.Equiv id n) g b = ap (Equiv id.0) (root_grown old new n g b)
decl_grown old new (decl.Query n) g b = ap Query (root_grown old new n g b)

pub declarations_grown : (old new : PoolView) (ds : List Decl) → Grows old new → All (IsLive (length old.trees)) ds → declarations new.trees ds ≡ declarations old.trees ds
declarations_grown old new [] g a = refl
declarations_grown old new (d ∷ ds) g a = ap₂ (λ t ts. t ∷ ts) (decl_grown old new d g (a zero d (omega arith))) (declarations_grown old new ds g (λ k e l. a (suc k) e (omega arith)))

decl_more : (m n : ℕ) (d : Decl) → m ≤ n → IsLive m d → IsLive n d
decl_more m n (decl.Name id class args result) l b = ChildBelow_more m n args l b
decl_more m n (decl.Equation k) l b = omega arith
decl_more m n (decl.Equiv id k) l b = omega arith
decl_more m n (decl.Query k) l b = omega arith
