-- Sequences are within the sums of their costs.
use Rattle.std.proofs.Common.{◌≡◌, ℕ, ◌<◌, ◌≤◌, ◌*◌, Bool, false, List, [], ◌∷◌, ◌++◌, refl, ap, sym, ◌∙◌, subst, arith, le_of_mul-le-mul_right, mul-pos}
use Rattle.std.proofs.lemmas.List.{map-append}
use Rattle.cv_syntax_trees.specs.Declarations.{Declaration}
use Rattle.cv_syntax_trees.specs.Tree.{Tree}
use Rattle.cv_meaning.specs.Interpretation.{Interpretation, setting_of}
use Rattle.cv_meaning.specs.Satisfies.{Satisfies}
use Rattle.cv_meaning.specs.Runs.{Adversary}
use Rattle.cv_meaning.specs.Experiments.{Experiment, mode_of}
use Rattle.cv_meaning.specs.Chances.{Chance, AtMost, distance, zero_chance}
use Rattle.cv_meaning.specs.Advantage.{IsAsked, chance_of}
use Rattle.cv_meaning_chances.specs.Fractions.{HasTapes, plus}
use Rattle.cv_meaning_chances.proofs.FractionLaws.{at_most_trans, plus_kept, triangle}
use Rattle.cv_bound.specs.declared.terms.Term.{Term}
use Rattle.cv_bound.specs.Sums.{added}
use Rattle.cv_steps.specs.values.Values.{Advantages, cost_value, sum_value}
use Rattle.cv_steps.proofs.values.Adding.{tapes_are_kept}
use Rattle.cv_derive_laws.proofs.stores.Costs.{apart}
use Rattle.cv_sequences.proofs.costs.Costs.{cost_worth}
use Rattle.cv_meaning.specs.Queries.{queries_in}
use Rattle.cv_typing_runs.specs.Games.{HasConstants}
use Rattle.cv_derive_laws.specs.stores.Holding.{IsReady}
use Rattle.cv_derive_laws.specs.stores.Soundness.{DerivationsHold, DerivedBodiesAreUnreached}
use Rattle.cv_derive_laws.specs.stores.Steps.{AreSound, IsSound}
use Rattle.cv_scene.specs.Scenes.{KnowsQueries}
use Rattle.cv_steps.specs.Sequences.{IsSequence, Passage, push, scene, start}
use Rattle.cv_steps.specs.Costs.{cost_of}
use Rattle.cv_steps.specs.Steps.{Cost}
use Rattle.cv_sequences.proofs.Accepted.{step_ready}
use Rattle.cv_sequences.specs.Sequences.{added_up, costs_of}
use Rattle.cv_meaning_chances.specs.values.Values.{HasValuesIn}
use Rattle.cv_meaning_chances.proofs.values.Tapes.{tapes}
use Rattle.cv_sequences.proofs.Steps.{next_values}
use Rattle.cv_sequences.proofs.secrets.Alike.{bounded_alike}
use Rattle.cv_sequences.proofs.secrets.Sums.{added_alike}
use Rattle.cv_syntax_trees.proofs.lists.Each.{AllByRecursion_left, AllByRecursion_right}

-- what a chance is apart from one, and that from another, it is from the other by both distances
pub further : (p q r v c : Chance) → 0 < p.all → 0 < q.all → 0 < r.all → AtMost (distance p q) v → AtMost (distance q r) c → AtMost (distance p r) (plus v c)
further p q r v c l m n h k = at_most_trans (distance p r) (plus (distance p q) (distance q r)) (plus v c) (mul-pos (mul-pos l m) (mul-pos m n)) (triangle p q r) (plus_kept (distance p q) v (distance q r) c h k)

-- a chance that is close to none is as small
pub back : (p q v : Chance) → 0 < q.all → AtMost (distance p q) v → AtMost q zero_chance → AtMost p v
back p q v pos h k =
    let none : q.good ≡ 0 = omega (arith, k) in
    let left : q.good * p.all ≡ 0 = ap (λ n. n * p.all) none ∙ (let e : 0 * p.all ≡ 0 = omega arith in e) in
    let whole : (distance p q).good ≡ p.good * q.all = omega (arith, left) in
    let near : p.good * q.all * v.all ≤ v.good * (p.all * q.all) = subst (λ n. n * v.all ≤ v.good * (p.all * q.all)) whole h in
    le_of_mul-le-mul_right {k = q.all} (omega (arith, near)) pos

-- the sum with a cost more

added_put : (sum : List Term) (cs : List Cost) (c : Cost) → added_up sum (cs ++ c ∷ []) false ≡ added (added_up sum cs false) (cost_of c) false
unfolding added_up
added_put sum [] c = refl
added_put sum (d ∷ cs) c = added_put (added sum (cost_of d) false) cs c

added_more : (before : List Passage) (p : Passage) → added_up [] (costs_of (before ++ p ∷ [])) false ≡ added (added_up [] (costs_of before) false) (cost_of p.cost) false
added_more before p = ap (λ cs. added_up [] cs false) (map-append (λ q. q.cost) before (p ∷ [])) ∙ added_put [] (costs_of before) p.cost

-- a sequence with a step more
last_sound : (before : List Passage) (p : Passage) → AreSound (before ++ p ∷ []) → IsSound p.step
last_sound before p h = (AllByRecursion_right (λ q. IsSound q.step) before (p ∷ []) h).0

first_sound : (before : List Passage) (p : Passage) → AreSound (before ++ p ∷ []) → AreSound before
first_sound before p h = AllByRecursion_left (λ q. IsSound q.step) before (p ∷ []) h

module _ (ds : List Declaration) (known : ℕ → Bool) (first : Tree) (w : IsReady ds first) (constants : HasConstants ds) where
  pub games_ready : (passages : List Passage) (last : Tree) → AreSound passages → IsSequence ds known first passages last → IsReady ds last
  games_ready passages last h start = w
  games_ready passages last h (push before game p s e) =
      step_ready (scene ds known game) p.step p.next p.cost (last_sound before p h) constants (games_ready before game (first_sound before p h) s) e

  module _ (holds : DerivationsHold ds) (unreached : DerivedBodiesAreUnreached ds) (k : KnowsQueries (scene ds known first)) (i : Interpretation) (sat : Satisfies ds i) (x : Experiment) (asked : IsAsked (queries_in ds) x) (v : HasValuesIn (setting_of ds i) (mode_of x) first) where
    games_valued : (passages : List Passage) (last : Tree) → AreSound passages → IsSequence ds known first passages last → HasValuesIn (setting_of ds i) (mode_of x) last
    games_valued passages last h start = v
    games_valued passages last h (push before game p s e) =
        let l = first_sound before p h in
        next_values (scene ds known game) p.step p.next p.cost (last_sound before p h) k (games_ready before game l s).formed.phrase i sat x asked (games_valued before game l s) e

    module _ (a : Adversary) where
      abbrev chance_in : Tree → Chance
      chance_in game = chance_of (setting_of ds i) x a game

      has_tapes : (passages : List Passage) (last : Tree) → AreSound passages → IsSequence ds known first passages last → HasTapes (chance_in last)
      has_tapes passages last h s = tapes (setting_of ds i) x a last (games_valued passages last h s)

      pub within : (advantages : Advantages) (passages : List Passage) (last : Tree) → AreSound passages → IsSequence ds known first passages last → AtMost (distance (chance_in first) (chance_in last)) (sum_value i advantages (added_up [] (costs_of passages) false))
      unfolding added_up
      within advantages passages last h start = apart (chance_in first) (chance_in first) zero_chance refl
      within advantages passages last h (push before game p s e) =
          let l = first_sound before p h in
          let sum : List Term = added_up [] (costs_of before) false in
          let value = cost_value i advantages (cost_of p.cost) false in
          let own = (last_sound before p h).keeps (scene ds known game) p.next p.cost (games_ready before game l s) holds unreached k e i sat x asked a in
          subst (λ ts. AtMost (distance (chance_in first) (chance_in p.next)) (sum_value i advantages ts)) (sym (added_more before p))
          (bounded_alike (distance (chance_in first) (chance_in p.next)) (sum_value i advantages (added sum (cost_of p.cost) false)) (plus (sum_value i advantages sum) value) (added_alike i advantages sum (cost_of p.cost) false)
          (further (chance_in first) (chance_in game) (chance_in p.next) (sum_value i advantages sum) value
          (tapes (setting_of ds i) x a first v) (has_tapes before game l s) (has_tapes (before ++ p ∷ []) p.next h (push before game p s e))
          (within advantages before game l s) (subst (AtMost (distance (chance_in game) (chance_in p.next))) (sym (cost_worth i advantages p.cost)) own)))

      -- what is no chance in the last game is at most the sum in the first
      pub carried : (advantages : Advantages) (passages : List Passage) (last : Tree) → AreSound passages → IsSequence ds known first passages last → AtMost (chance_in last) zero_chance → AtMost (chance_in first) (sum_value i advantages (added_up [] (costs_of passages) false))
      carried advantages passages last h s none =
          back (chance_in first) (chance_in last) (sum_value i advantages (added_up [] (costs_of passages) false)) (has_tapes passages last h s) (within advantages passages last h s) none

-- and its value has tapes
pub sum_tapes : (ds : List Declaration) (known : ℕ → Bool) (first : Tree) (passages : List Passage) (last : Tree) → AreSound passages → IsSequence ds known first passages last → (i : Interpretation) → Satisfies ds i → (advantages : Advantages) → HasTapes (sum_value i advantages (added_up [] (costs_of passages) false))
unfolding added_up
sum_tapes ds known first passages last h start i sat advantages = omega arith
sum_tapes ds known first passages last h (push before game p s e) i sat advantages =
    subst (λ ts. HasTapes (sum_value i advantages ts)) (sym (added_more before p))
    (tapes_are_kept i advantages (added_up [] (costs_of before) false) (cost_of p.cost) false
    (mul-pos (sum_tapes ds known first before game (first_sound before p h) s i sat advantages)
    (subst HasTapes (sym (cost_worth i advantages p.cost)) ((last_sound before p h).taped (scene ds known game) p.next p.cost e i sat))))
