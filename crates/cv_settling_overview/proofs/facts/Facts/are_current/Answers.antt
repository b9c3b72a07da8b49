use Rattle.std.proofs.Common.{◌≡◌, ℕ, Some, None, false, length, refl, ap, sym, ◌∙◌, arith, nat_eq}
use Rattle.std.proofs.lemmas.List.{length-map}
use Rattle.cv_syntax.specs.PoolTrees.{tree_at}
use Rattle.cv_settling_overview.proofs.Reading.{all_current}
use Rattle.cv_settling_overview.proofs.facts.Facts.are_current.Goals as goal

pub returns-in-Some : goal.returns-in-Some
returns-in-Some c = λ rs i.
    let xs = c.args.self.now.indices.items in
    let many : c.len.result ≡ length xs = omega arith in
    all_current (tree_at c.args.pool.now.trees c.args.terms) xs rs (Some c.in-Some.count) c.len.result (nat_eq c.in-Some.count c.len.result) i (sym c.in-Some.is ∙ c.front.ensures) (many ∙ (ap length i ∙ length-map rs (λ (r : ℕ × ℕ). r.0))) refl

pub returns-in-None : goal.returns-in-None
returns-in-None c = λ rs i. all_current (tree_at c.args.pool.now.trees c.args.terms) c.args.self.now.indices.items rs None (length rs) false i (sym c.in-None.is ∙ c.front.ensures) refl refl
