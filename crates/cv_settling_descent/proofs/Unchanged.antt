-- Steps that name no place leave the game as it is.
use Rattle.std.proofs.Common.{◌≡◌, ℕ, ◌==◌, ◌||◌, ◌&&◌, false, cond, [], refl, sym, ap, ap₂, ◌∙◌, arith, nat_lt, le-ltb}
use Rattle.cv_syntax_trees.specs.Head.{weight}
use Rattle.cv_syntax_trees.specs.Tree.{Tree, Empty, Node, first_place, second_place, size}
use Rattle.cv_syntax_trees.proofs.lists.Tests.{and_false}
use Rattle.cv_scope_rules.specs.Phrases.{Inputs, Phrase}
use Rattle.cv_scene.specs.lines.Truths.{no}
use Rattle.cv_scene.specs.Scenes.{Scene}
use Rattle.cv_steps.specs.Rewriting.{is_term, parts_of}
use Rattle.cv_steps.specs.Steps.{Cost, Leads}
use Rattle.cv_costs.specs.wording.Changing.{changed_at}
use Rattle.cv_rule_birthday.specs.Comparing.{compared, is_one_of}
use Rattle.cv_rule_birthday.specs.Row.{birthday_row}
use Rattle.cv_rule_birthday.specs.guess.Guessing.{falsified, is_equality}
use Rattle.cv_rule_birthday.specs.guess.Row.{guess_row}
use Rattle.cv_settling_rules.specs.Measure.{large_equalities, lowers}
use Rattle.cv_settling_descent.proofs.Birthdays.{birthday_leads}
use Rattle.cv_settling_descent.proofs.Guessing.{guess_leads}

nothing_changed : (change : Tree → Tree) (p : ℕ) (t : Tree) → changed_at (is_one_of []) change p t ≡ t
unfolding changed_at
nothing_changed change p Empty = refl
nothing_changed change p (Node h a b) =
    ap (λ v. cond v (change (Node h a b)) (Node h (changed_at (is_one_of []) change (first_place p h) a) (changed_at (is_one_of []) change (second_place p h a) b))) (and_false (nat_lt 0 (weight h)))
    ∙ ap₂ (Node h) (nothing_changed change (first_place p h) a) (nothing_changed change (second_place p h a) b)

nothing_falsified : (x : ℕ) (σ : Phrase) (p : ℕ) (t : Tree) → falsified x (is_one_of []) σ p t ≡ t
unfolding falsified
nothing_falsified x σ p Empty = refl
nothing_falsified x σ p (Node h a b) =
    ap (λ v. cond v no (Node h (falsified x (is_one_of []) (parts_of σ h).0 (first_place p h) a) (falsified x (is_one_of []) (parts_of σ h).1 (second_place p h a) b)))
    (ap (λ v. is_term σ && v) (and_false (is_equality h)) ∙ and_false (is_term σ))
    ∙ ap₂ (Node h) (nothing_falsified x (parts_of σ h).0 (first_place p h) a) (nothing_falsified x (parts_of σ h).1 (second_place p h a) b)

not_less : (n k : ℕ) → (nat_lt n n || ((n == n) && nat_lt k k)) ≡ false
not_less n k = ap₂ ◌||◌ (le-ltb n n (omega arith)) (ap (λ v. (n == n) && v) (le-ltb k k (omega arith)) ∙ and_false (n == n))

game_not_lower : (s : Scene) → lowers s s.game ≡ false
game_not_lower s = not_less (large_equalities s s.game) (size s.game)

pub no_birthday_lowers : (s : Scene) (x : ℕ) (next : Tree) (cost : Cost) → birthday_row s x [] ≡ Leads next cost → lowers s next ≡ false
no_birthday_lowers s x next cost e =
    ap (lowers s) (sym (sym (nothing_changed compared 0 s.game) ∙ (birthday_leads s x [] next cost e).leads)) ∙ game_not_lower s

pub no_guess_lowers : (s : Scene) (x : ℕ) (next : Tree) (cost : Cost) → guess_row s x [] ≡ Leads next cost → lowers s next ≡ false
no_guess_lowers s x next cost e = ap (lowers s) (sym (sym (nothing_falsified x Inputs 0 s.game) ∙ (guess_leads s x [] next cost e).leads)) ∙ game_not_lower s
