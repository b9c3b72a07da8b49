-- A game in which no value of a variable is read that `new` alone defines is quiet.
use Rattle.std.proofs.Common.{◌≡◌, ℕ, ◌==◌, ◌&&◌, true, false, not, [], ◌∷◌, None, refl, sym, ap, ◌∙◌, eqb-true}
use Rattle.std.proofs.lemmas.Bool.{both_ways, eq-eqb}
use Rattle.cv_syntax_trees.specs.declared.head.Head.{Head}
use Rattle.cv_syntax_trees.specs.Tree.{Tree, second}
use Rattle.cv_meaning_runs.specs.Replacement.{Process}
use Rattle.cv_scope_rules.specs.Made.{is_bound, made_by}
use Rattle.cv_scope_rules.specs.Phrases.{Inputs, is_phrase}
use Rattle.cv_scope_rules.specs.Sites.{Variable}
use Rattle.cv_query_certificates.specs.Secrets.{AreUnreadChoices, first_definition_but, is_choice}
use Rattle.cv_costs.specs.quiet.Quiet.{IsQuiet, only}
use Rattle.cv_costs.proofs.quiet.Shapes.{IsShaped, defined_parts, left_false, one_of, quiet_game}
use Rattle.cv_syntax_trees.proofs.lists.Tests.{or_false}

abbrev IsChosenHere : ℕ → Head → Tree → Type 0
IsChosenHere x h a = (made_by h a (Variable x) && not (is_choice h a)) ≡ false

pub it : (x y : ℕ) → one_of x (x ∷ []) y ≡ true → x ≡ y
it x y e = sym (eqb-true y x (sym (or_false (y == x)) ∙ e))

chosen_shape : (x : ℕ) → IsShaped x (x ∷ []) (λ y. Unit {0}) (λ is y a. ⊥) (λ p b. first_definition_but is_choice x p b ≡ None) (IsChosenHere x) (λ is b. Unit {0})
chosen_shape x = record {
  here = λ p h a b e. (defined_parts is_choice x p h a b e).here;
  defined_first = λ p h a b e. (defined_parts is_choice x p h a b e).first;
  defined_second = λ p h a b e. (defined_parts is_choice x p h a b e).second;
  more_first = λ h is a b f e. tt;
  more_second = λ h is a b f e. tt;
  received = λ c a y e f. ap (is_bound (second a)) (sym (it x y f)) ∙ left_false (is_bound (second a) x) true refl e;
  branched = λ a y e f. ap (is_bound a) (sym (it x y f)) ∙ left_false (is_bound a x) true refl e;
  draws = λ z T a e. tt;
  itself = or_false (x == x) ∙ eq-eqb x x refl;
  copies = λ is z T a b e m f r. both_ways (z == z) (ap (λ y. y == z) (sym (it x z f)) ∙ left_false (x == z) true refl e) (eq-eqb z z refl);
}

pub quiet : (x : ℕ) (game : Tree) → is_phrase Inputs game ≡ true → AreUnreadChoices game x → IsQuiet (only x) [] Process game
quiet x game e s = quiet_game x (x ∷ []) (λ y. Unit {0}) (λ is y a. ⊥) (λ p b. first_definition_but is_choice x p b ≡ None) (IsChosenHere x) (λ is b. Unit {0}) (chosen_shape x) game e s.unread s.chosen tt
