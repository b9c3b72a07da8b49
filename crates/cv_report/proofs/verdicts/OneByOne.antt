-- Verdicts, one by one.
use Rattle.std.proofs.Common.{◌≡◌, ℕ, suc, ◌+◌, ◌<◌, Bool, true, false, not, List, [], ◌∷◌, ◌++◌, length, drop, Option, Some, None, is_some, ap, refl, sym, ◌∙◌, append_assoc, option_and_then}
use Rattle.std.specs.Prelude.{slice_get}
use Rattle.cv_bound.specs.declared.terms.Term.{Term}
use Rattle.cv_bound.proofs.closings.QueryLists.{queries_skip, queries_take}
use Rattle.cv_pool.specs.declared.node.NodeId.{NodeId}
use Rattle.cv_report.specs.declared.report.Verdict.{Verdict}
use Rattle.cv_syntax.specs.declared.decls.Decl.{Decl}
use Rattle.cv_syntax.specs.Classes.{queries, query_of}
use Rattle.cv_report.specs.verdicts.Verdicts.{verdict_by, verdicts_by}

pub no_query : (o : Option NodeId) (none : Bool) → is_some o ≡ not none → none ≡ true → o ≡ None
no_query None none e t = refl
no_query (Some q) true e t = absurd (cc)
no_query (Some q) false e t = absurd (cc)

pub some_query : (o : Option NodeId) (none : Bool) → is_some o ≡ not none → none ≡ false → (q : NodeId) × (o ≡ Some q)
some_query (Some q) none e f = (q, refl)
some_query None true e f = absurd (cc)
some_query None false e f = absurd (cc)

pub verdict_put : (f : ℕ → Option (List Term)) (n : ℕ) (ds : List Decl) (k : ℕ) (q : NodeId) (before after total : List Verdict) (v : Verdict) → option_and_then query_of (slice_get ds k) ≡ Some q → v ≡ verdict_by (f (suc n)) → after ≡ before ++ v ∷ [] → before ++ verdicts_by f (suc n) (queries (drop k ds)) ≡ total
    → after ++ verdicts_by f (suc (suc n)) (queries (drop (k + 1) ds)) ≡ total
verdict_put f n ds k q before after total v e i p h =
    let rest = verdicts_by f (suc (suc n)) (queries (drop (k + 1) ds)) in
    ap (λ vs. vs ++ rest) p
    ∙ (append_assoc before (v ∷ []) rest
    ∙ (ap (λ x. before ++ x ∷ rest) i
    ∙ (ap (λ qs. before ++ verdicts_by f (suc n) qs) (sym (queries_take ds k q e)) ∙ h)))

pub verdict_skip : (f : ℕ → Option (List Term)) (n : ℕ) (ds : List Decl) (k : ℕ) (before total : List Verdict) → k < length ds → option_and_then query_of (slice_get ds k) ≡ None → before ++ verdicts_by f (suc n) (queries (drop k ds)) ≡ total → before ++ verdicts_by f (suc n) (queries (drop (k + 1) ds)) ≡ total
verdict_skip f n ds k before total l e h = ap (λ qs. before ++ verdicts_by f (suc n) qs) (sym (queries_skip ds k l e)) ∙ h
