-- What the code's plan says of the step.
use Rattle.std.proofs.Common.{◌≡◌, ℕ, ◌<◌, Bool, true, false, ◌&&◌, ◌||◌, not, List, length, Option, Some, None, refl, sym, ap, ◌∙◌, arith, ltb-true}
use Rattle.std.specs.Prelude.{nat_lt, if◌then◌else◌}
use Rattle.std.proofs.lemmas.Bool.{and_parts, both_ways}
use Rattle.cv_scene.specs.Scenes.{Scene, is_queried, names}
use Rattle.cv_steps.specs.Rows.{unless, unless_at}
use Rattle.cv_steps.specs.Steps.{Leads, Row, Zero}
use Rattle.cv_edit_places.specs.Plans.{failed, failing, failure_of}
use Rattle.cv_edit_names.specs.Cells.{first_mixed}
use Rattle.cv_edit_names.specs.Splitting.{split_game}
use Rattle.cv_rule_array_names.specs.Planned.{AreNames}
use Rattle.cv_rule_array_names.specs.Row.{array_names_row, array_names_step}
use Rattle.cv_rule_array_names.specs.Sites.{has_names}

unmet : (v : Bool) (condition : ℕ) (rest : Row) → v ≡ false → failing (unless v condition 0 rest) ≡ Some (failed condition 0)
unmet true condition rest e = absurd (both_ways true e refl)
unmet false condition rest e = refl

met : (v : Bool) (condition : ℕ) (rest : Row) → v ≡ true → unless v condition 0 rest ≡ rest
met true condition rest e = refl
met false condition rest e = absurd (both_ways false refl e)

module _ (s : Scene) (x : ℕ) (ys : List ℕ) where
  abbrev next : Row
  next = Leads (split_game x ys s.game) Zero

  abbrev third : Row
  third = unless_at 3 (first_mixed x 0 s.game) next

  abbrev second : Row
  second = unless (not (is_queried s x)) 2 0 third

  -- nothing is there of that name
  pub absent : s.known x || names x s.game ≡ false → failure_of s (array_names_step x ys) ≡ Some (failed 0 0)
  absent e = ap (λ b. if b then failing (array_names_row s x ys) else Some (failed 0 0)) e

  module _ (there : s.known x || names x s.game ≡ true) where
    standing : (o : _) → failing (array_names_row s x ys) ≡ o → failure_of s (array_names_step x ys) ≡ o
    standing o e = ap (λ b. if b then failing (array_names_row s x ys) else Some (failed 0 0)) there ∙ e

    pub unnamed : has_names s x ys ≡ false → failure_of s (array_names_step x ys) ≡ Some (failed 1 0)
    unnamed e = standing _ (unmet (has_names s x ys) 1 second e)

    module _ (e : has_names s x ys ≡ true) where
      pub queried : is_queried s x ≡ true → failure_of s (array_names_step x ys) ≡ Some (failed 2 0)
      queried f = standing _ (ap failing (met (has_names s x ys) 1 second e) ∙ unmet (not (is_queried s x)) 2 third (ap not f))

      module _ (f : is_queried s x ≡ false) where
        row_is : (o : Option ℕ) → first_mixed x 0 s.game ≡ o → array_names_row s x ys ≡ unless_at 3 o next
        row_is o h = met (has_names s x ys) 1 second e ∙ (met (not (is_queried s x)) 2 third (ap not f) ∙ ap (λ q. unless_at 3 q next) h)

        pub mixed : (p : ℕ) → first_mixed x 0 s.game ≡ Some p → failure_of s (array_names_step x ys) ≡ Some (failed 3 p)
        mixed p h = standing _ (ap failing (row_is (Some p) h))

        pub planned : (found : List ℕ) → found ≡ ys → first_mixed x 0 s.game ≡ None → AreNames s x ys found
        planned found same h = record {
          same = same;
          met = standing None (ap failing (row_is None h));
          leads = row_is None h;
          some = several (and_parts (nat_lt 1 (length ys)) _ e).0;
        }
          where
            several : nat_lt 1 (length ys) ≡ true → 0 < length ys
            several l = let m = ltb-true 1 (length ys) l in omega arith
