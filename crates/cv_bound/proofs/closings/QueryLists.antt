-- The queries of a list of declarations, one after another.
use Rattle.std.proofs.Common.{◌≡◌, ℕ, zero, suc, ◌+◌, ◌<◌, ◌≤◌, drop, List, [], ◌∷◌, length, refl, ap, sym, ◌∙◌, arith, Some, None, option_and_then}
use Rattle.std.specs.Prelude.{slice_get}
use Rattle.cv_syntax.specs.declared.decls.Decl.{Decl}
use Rattle.cv_syntax.specs.declared.decls.Decl.TheVariants as decl
use Rattle.cv_pool.specs.declared.node.NodeId.{NodeId}
use Rattle.cv_syntax.specs.Classes.{queries, query_of}

-- one declaration more: no query, or one
pub queries_skip : (ds : List Decl) (k : ℕ) → k < length ds → option_and_then query_of (slice_get ds k) ≡ None → queries (drop k ds) ≡ queries (drop (k + 1) ds)
queries_skip [] k l e = absurd (omega arith)
queries_skip (decl.Name id c args result ∷ ds) zero l e = refl
queries_skip (decl.Equation n ∷ ds) zero l e = refl
queries_skip (decl.Equiv id n ∷ ds) zero l e = refl
queries_skip (decl.Query n ∷ ds) zero l e = absurd (cc)
queries_skip (x ∷ ds) (suc k) l e = let n : suc k + 1 ≡ suc (k + 1) = omega arith in queries_skip ds k (omega arith) e ∙ ap (λ j. queries (drop j (x ∷ ds))) (sym n)

pub queries_take : (ds : List Decl) (k : ℕ) (q : NodeId) → option_and_then query_of (slice_get ds k) ≡ Some q → queries (drop k ds) ≡ q ∷ queries (drop (k + 1) ds)
queries_take [] k q e = absurd (cc)
queries_take (decl.Name id c args result ∷ ds) zero q e = absurd (cc)
queries_take (decl.Equation n ∷ ds) zero q e = absurd (cc)
queries_take (decl.Equiv id n ∷ ds) zero q e = absurd (cc)
queries_take (decl.Query n ∷ ds) zero q e = let h : n ≡ q = cc in ap (λ m. m ∷ queries ds) h
queries_take (x ∷ ds) (suc k) q e = let n : suc k + 1 ≡ suc (k + 1) = omega arith in queries_take ds k q e ∙ ap (λ j. q ∷ queries (drop j (x ∷ ds))) (sym n)

pub queries_past : (ds : List Decl) (k : ℕ) → length ds ≤ k → queries (drop k ds) ≡ []
queries_past [] zero l = refl
queries_past [] (suc k) l = refl
queries_past (x ∷ ds) zero l = absurd (omega arith)
queries_past (x ∷ ds) (suc k) l = queries_past ds k (omega arith)
