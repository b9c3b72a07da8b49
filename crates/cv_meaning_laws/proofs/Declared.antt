-- The worked file is satisfied.
use Rattle.std.proofs.Common.{◌-◌, ◌≡◌, ℕ, true, nat_lt, ltb-true, List, [], ◌∷◌, zip, Some, refl, ap, arith, eq-eqb}
use Rattle.std.proofs.lemmas.Bool.{both_ways, and_parts}
use Rattle.cv_syntax_trees.specs.declared.head.Head.TheVariants.{Apply, Eq}
use Rattle.cv_syntax_trees.specs.Tree.{Empty, Node, names, binders, chain}
use Rattle.cv_meaning.specs.Interpretation.{setting_of}
use Rattle.cv_meaning.specs.Binders.{fits}
use Rattle.cv_meaning.specs.Satisfies.{Satisfies, IsTotal, IsInjective}
use Rattle.cv_meaning.specs.Memory.{nowhere}
use Rattle.cv_meaning.specs.Terms.{value, values, bit}
use Rattle.cv_syntax_trees.specs.Builders.{leaf}
use Rattle.cv_meaning_laws.specs.Worked.{data_file, with_function, first_value, declared_file, interpretation_of_file}

function_total : IsTotal interpretation_of_file 4 (names (3 ∷ [])) (Some 3)
function_total [] e = absurd (both_ways _ refl e)
function_total (v ∷ []) e = ltb-true v 2 (and_parts (nat_lt v 2) _ e).0
function_total (v ∷ w ∷ vs) e = absurd (both_ways _ refl (and_parts (nat_lt v 2) _ e).1)

function_injective : IsInjective interpretation_of_file 4 (names (3 ∷ []))
function_injective [] vs d e h = absurd (both_ways _ refl d)
function_injective (u ∷ []) [] d e h = absurd (both_ways _ refl e)
function_injective (u ∷ []) (v ∷ []) d e h = ap (λ x. x ∷ []) h
function_injective (u ∷ []) (v ∷ w ∷ vs) d e h = absurd (both_ways _ refl (and_parts (nat_lt v 2) _ e).1)
function_injective (u ∷ w ∷ us) vs d e h = absurd (both_ways _ refl (and_parts (nat_lt u 2) _ d).1)

constant_total : IsTotal interpretation_of_file 6 Empty (Some 3)
constant_total [] e = omega arith
constant_total (v ∷ vs) e = absurd (both_ways _ refl e)

equation_holds : (vs : List ℕ) → fits interpretation_of_file.type_size (binders ((5, 3) ∷ [])) vs ≡ true
    → value (setting_of declared_file interpretation_of_file) (zip (5 ∷ []) vs) nowhere (Node Eq (Node (Apply 4) (chain (leaf 5 ∷ [])) Empty) (leaf 5)) ≡ 1
unfolding value values
equation_holds [] e = absurd (both_ways _ refl e)
equation_holds (v ∷ vs) e = ap bit (eq-eqb v v refl)

pub file_satisfied : Satisfies declared_file interpretation_of_file
file_satisfied =
    record {
      choices = omega arith;
      bool = refl;
      each = (omega arith, (omega arith, ((function_total, function_injective), ((constant_total, tt), (equation_holds, tt)))));
    }

apart : (a b : ℕ) → a ≡ b → a ≡ 0 → b ≡ 1 → ⊥
apart a b h p q = absurd (omega arith)

pub constant_refused : ¬ Satisfies data_file (with_function (λ v. 0))
constant_refused s = apart 0 1 (ap first_value (s.each.1.1.0.1 (0 ∷ []) (1 ∷ []) refl refl refl)) refl refl

pub equation_refused : ¬ Satisfies declared_file (with_function (λ v. 1 - v))
unfolding value values
equation_refused s = apart 0 1 (s.each.1.1.1.1.0 (0 ∷ []) refl) refl refl
