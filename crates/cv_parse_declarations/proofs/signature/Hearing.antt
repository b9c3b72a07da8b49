-- What is heard of the names that wait.
use Rattle.std.proofs.Common.{◌≡◌, ℕ, List, ◌++◌, reverse, ap, ap₂, sym, ◌∙◌, Option}
use Rattle.std.proofs.lemmas.List.{reverse-reverse}
use Rattle.cv_syntax_trees.specs.declared.class.Class.{Class}
use Rattle.cv_parse_declarations.specs.declared.signature.heard.Heard.{Heard}
use Rattle.cv_parse_declarations.specs.signature.Kinds.{names_in, type_in}

pub names_in_order : (c : Class) (r : Option ℕ) (xs : List ℕ) (a b : List Heard) → b ≡ a ++ names_in c r xs → b ≡ a ++ names_in c r (reverse (reverse xs))
names_in_order c r xs a b e = e ∙ ap (λ l. a ++ names_in c r l) (sym (reverse-reverse xs))

pub type_in_order : (xs : List ℕ) (a b : List Heard) → b ≡ a ++ type_in xs → b ≡ a ++ type_in (reverse (reverse xs))
type_in_order xs a b e = e ∙ ap (λ l. a ++ type_in l) (sym (reverse-reverse xs))

-- the names that are left, where the class and the type of the result come from those that were taken
pub names_left : (c d : Class) (r s : Option ℕ) (xs ys : List ℕ) (a b : List Heard) → c ≡ d → r ≡ s → reverse xs ≡ ys → b ≡ a ++ names_in c r xs → b ≡ a ++ names_in d s (reverse ys)
names_left c d r s xs ys a b i j k e = e ∙ (ap (λ l. a ++ names_in c r l) (sym (reverse-reverse xs) ∙ ap reverse k) ∙ ap₂ (λ x y. a ++ names_in x y (reverse ys)) i j)

pub ruleset hearing = (names_in_order, type_in_order, names_left)
