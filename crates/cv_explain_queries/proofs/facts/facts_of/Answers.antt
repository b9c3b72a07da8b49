use Rattle.std.proofs.Common.{◌≡◌, ◌+◌, ◌-◌, ◌∙◌, ℕ, List, Option, Some, ap, arith, map, slice_get, sym}
use Rattle.std.specs.Prelude.{option_and_then}
use Rattle.cv_syntax.specs.PoolTrees.{tree_at}
use Rattle.cv_derive_facts.specs.Facts.{FactAt, fact_of, facts_at}
use Rattle.std.proofs.lemmas.List.{map_push}
use Rattle.std.specs.Prelude.{[], ◌∷◌, ◌++◌}
use Rattle.cv_explain_queries.proofs.Numbers.{last, next}
use Rattle.cv_explain_queries.proofs.facts.facts_of.Goals as goal

-- the numbers begin with 1
one_less : (o : Option (List FactAt)) (k : ℕ) → option_and_then (λ fs. slice_get fs (k + 1 - 1)) o ≡ option_and_then (λ fs. slice_get fs k) o
one_less o k =
    let less : k + 1 - 1 ≡ k = omega arith in
    ap (λ n. option_and_then (λ (fs : List FactAt). slice_get fs n) o) less

pub returns-in_default : goal.returns-in_default
returns-in_default c =
    let trees = c.args.work.now.pool.trees in
    let there = facts_at (tree_at trees (Some c.args.game.root)) c.args.place in
    c.facts.invariant ∙ last there c.facts.k 200 (omega arith) (c.in_default.ensures.fact ∙ one_less there c.facts.k)

pub facts-preserved : goal.facts-preserved
facts-preserved c =
    let trees = c.args.work.now.pool.trees in
    let there = facts_at (tree_at trees (Some c.args.game.root)) c.args.place in
    let known = c.in-Some.known in
    ap (map (fact_of trees)) c.in_ok-push.ensures.items
    ∙ map_push (fact_of trees) c.facts.facts.items known
    ∙ ap (λ fs. fs ++ fact_of trees known ∷ []) c.facts.invariant
    ∙ sym (next there c.facts.k (fact_of trees known) (c.in-Some.ensures.fact ∙ one_less there c.facts.k))
