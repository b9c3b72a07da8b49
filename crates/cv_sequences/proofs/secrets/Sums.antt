-- A sum of secrecy is worth that of the real and that of the random experiment.
use Rattle.std.proofs.Common.{◌≡◌, Bool, true, false, List, [], ◌∷◌, ◌++◌, refl, ap, ◌∙◌, arith}
use Rattle.cv_meaning.specs.Chances.{Chance}
use Rattle.cv_meaning.specs.Interpretation.{Interpretation}
use Rattle.cv_meaning_chances.specs.Fractions.{plus}
use Rattle.cv_bound.specs.declared.cost.Collision.{Collision}
use Rattle.cv_bound.specs.declared.cost.Cost.{Cost}
use Rattle.cv_bound.specs.declared.cost.Cost.TheVariants as cost
use Rattle.cv_bound.specs.declared.terms.Experiment.TheVariants as term
use Rattle.cv_bound.specs.declared.terms.Term.{Term}
use Rattle.cv_bound.specs.Sums.{added}
use Rattle.cv_steps.specs.values.Values.{Advantages, collision_value, cost_value, sum_value}
use Rattle.cv_steps.proofs.values.Adding.{tapes_are_kept, value_is_added}
use Rattle.cv_sequences.specs.Chains.{summed}
use Rattle.cv_sequences.specs.secrets.Sums.{summed_by}
use Rattle.cv_sequences.proofs.secrets.Alike.{AreAlike, alike_equal, alike_plus, alike_sym, alike_trans, fraction}
use Rattle.cv_sequences.proofs.secrets.Tapes.{tapes_were_had}

-- without secrecy the sum is that of the chain
pub plain : (sum : List Term) (costs : List Cost) → summed_by false sum costs ≡ summed sum costs
unfolding summed summed_by
plain sum [] = refl
plain sum (c ∷ costs) = plain (added sum c false) costs

pub put : (secrecy : Bool) (sum : List Term) (costs : List Cost) (c : Cost) → summed_by secrecy sum (costs ++ c ∷ []) ≡ added (summed_by secrecy sum costs) c secrecy
unfolding summed_by
put secrecy sum [] c = refl
put secrecy sum (d ∷ costs) c = put secrecy (added sum d secrecy) costs c

twice : (p q r : Chance) → plus p (plus p (plus q r)) ≡ plus (plus p q) (plus p r)
twice p q r = fraction _ _ (omega arith) (omega arith)

crossed : (p q r s : Chance) → plus (plus p q) (plus r s) ≡ plus (plus p r) (plus q s)
crossed p q r s = fraction _ _ (omega arith) (omega arith)

pub added_alike : (i : Interpretation) (a : Advantages) (sum : List Term) (c : Cost) (secrecy : Bool) → AreAlike (sum_value i a (added sum c secrecy)) (plus (sum_value i a sum) (cost_value i a c secrecy))
added_alike i a sum c secrecy = record { same = value_is_added i a sum c secrecy; forth = tapes_were_had i a sum c secrecy; back = tapes_are_kept i a sum c secrecy }

module _ (i : Interpretation) (advantages : Advantages) where
  abbrev pub real : Advantages
  real n e = advantages n term.Real

  abbrev pub random : Advantages
  random n e = advantages n term.Random

  -- what the sums of both experiments are worth together
  abbrev pub both : (sum other : List Term) → Chance
  both sum other = plus (sum_value i real sum) (sum_value i random other)

  collisions_of_both : (cs : List Collision) → cost_value i advantages (cost.Collisions cs) true ≡ plus (cost_value i real (cost.Collisions cs) false) (cost_value i random (cost.Collisions cs) false)
  collisions_of_both [] = refl
  collisions_of_both (c ∷ cs) =
      ap (λ p. plus (collision_value i c) (plus (collision_value i c) p)) (collisions_of_both cs)
      ∙ twice (collision_value i c) (cost_value i real (cost.Collisions cs) false) (cost_value i random (cost.Collisions cs) false)

  cost_of_both : (c : Cost) → cost_value i advantages c true ≡ plus (cost_value i real c false) (cost_value i random c false)
  cost_of_both cost.Zero = refl
  cost_of_both (cost.Collisions cs) = collisions_of_both cs
  cost_of_both (cost.Advantage n e) = fraction _ _ (omega arith) (omega arith)

  -- with a cost more the sum is still worth both
  one_more : (sum first second : List Term) (c : Cost) → AreAlike (sum_value i advantages sum) (both first second) → AreAlike (sum_value i advantages (added sum c true)) (both (added first c false) (added second c false))
  one_more sum first second c h =
      let here : Chance = sum_value i advantages sum in
      let left : Chance = sum_value i real first in
      let right : Chance = sum_value i random second in
      let more : Chance = cost_value i real c false in
      let too : Chance = cost_value i random c false in
      let whole : Chance = cost_value i advantages c true in
      alike_trans _ (plus here whole) _ (added_alike i advantages sum c true)
      (alike_trans _ (plus (plus left right) (plus more too)) _ (alike_plus here (plus left right) whole (plus more too) h (alike_equal whole (plus more too) (cost_of_both c)))
      (alike_trans _ (plus (plus left more) (plus right too)) _ (alike_equal _ _ (crossed left right more too))
      (alike_sym _ _ (alike_plus _ (plus left more) _ (plus right too) (added_alike i real first c false) (added_alike i random second c false)))))

  both_behind : (sum first second : List Term) (costs : List Cost) → AreAlike (sum_value i advantages sum) (both first second)
      → AreAlike (sum_value i advantages (summed_by true sum costs)) (both (summed_by false first costs) (summed_by false second costs))
  unfolding summed_by
  both_behind sum first second [] h = h
  both_behind sum first second (c ∷ costs) h = both_behind (added sum c true) (added first c false) (added second c false) costs (one_more sum first second c h)

  pub of_both : (costs : List Cost) → AreAlike (sum_value i advantages (summed_by true [] costs)) (both (summed_by false [] costs) (summed_by false [] costs))
  of_both costs = both_behind [] [] [] costs (record { same = refl; forth = λ h. h; back = λ h. h })
