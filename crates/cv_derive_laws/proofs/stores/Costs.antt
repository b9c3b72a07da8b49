-- Steps that keep chances, and rows that cost nothing.
use Rattle.std.proofs.Common.{◌≡◌, ◌-◌, ◌*◌, List, sym, ap, subst, ◌∙◌, arith}
use Rattle.cv_syntax_trees.specs.Declarations.{Declaration}
use Rattle.cv_syntax_trees.specs.Tree.{Tree}
use Rattle.cv_meaning.specs.Chances.{AtMost, Chance, Same, distance}
use Rattle.cv_meaning.specs.Interpretation.{Interpretation}
use Rattle.cv_meaning_chances.specs.Fractions.{HasTapes}
use Rattle.cv_steps.specs.Chances.{KeepsChances}
use Rattle.cv_steps.specs.Steps.{Cost, Leads, Row}
use Rattle.cv_steps.proofs.Rows.{IsFree}
use Rattle.cv_derive_laws.specs.stores.Costs.{CostsAtMost, bound_of}

-- chances that are the same are at no distance
pub apart : (p q r : Chance) → Same p q → AtMost (distance p q) r
apart p q r e =
    let left : p.good * q.all - q.good * p.all ≡ 0 = omega (arith, e) in
    let right : q.good * p.all - p.good * q.all ≡ 0 = omega (arith, e) in
    let none : (distance p q).good ≡ 0 = omega (arith, left, right) in
    let zero : (distance p q).good * r.all ≡ 0 = ap (λ n. n * r.all) none ∙ (let z : 0 * r.all ≡ 0 = omega arith in z) in
    omega (arith, zero)

-- what keeps chances costs at most anything
pub kept_costs : (ds : List Declaration) (game next : Tree) (c : Cost) → KeepsChances ds game next → CostsAtMost ds game next c
kept_costs ds game next c k i sat x asked a = apart _ _ (bound_of i c) (k i sat x asked a)

-- what costs nothing has a value
pub free_taped : (row : Row) → IsFree row → (next : Tree) (cost : Cost) → row ≡ Leads next cost → (i : Interpretation) → HasTapes (bound_of i cost)
free_taped row f next cost e i = subst (λ c. HasTapes (bound_of i c)) (sym (f next cost e)) (omega arith)
