-- Secrecy is carried back along a chain.
use Rattle.std.proofs.Common.{◌≡◌, ℕ, ◌<◌, Bool, true, false, List, [], refl, sym, ap₂, subst, arith, mul-pos}
use Rattle.cv_syntax_trees.specs.Declarations.{Declaration}
use Rattle.cv_syntax_trees.specs.Tree.{Tree}
use Rattle.cv_meaning.specs.Interpretation.{Interpretation, setting_of}
use Rattle.cv_meaning.specs.Satisfies.{Satisfies}
use Rattle.cv_meaning.specs.Runs.{Adversary, Random, Real}
use Rattle.cv_meaning.specs.Experiments.{Experiment, Guesses, mode_of}
use Rattle.cv_meaning.specs.Chances.{AtMost, Chance, Same, distance, zero_chance}
use Rattle.cv_meaning.specs.Advantage.{IsAsked, chance_of, secrecy}
use Rattle.cv_meaning.specs.Queries.{queries_in}
use Rattle.cv_meaning_chances.specs.Fractions.{HasTapes, plus}
use Rattle.cv_meaning_chances.proofs.FractionLaws.{at_most_trans, distance_kept, plus_kept, triangle}
use Rattle.cv_meaning_chances.specs.values.Values.{HasValuesIn}
use Rattle.cv_meaning_chances.proofs.values.Tapes.{tapes}
use Rattle.cv_bound.specs.declared.cost.Cost.{Cost as SumCost}
use Rattle.cv_steps.specs.values.Values.{Advantages, sum_value}
use Rattle.cv_sequences.specs.Chains.{HaveTapedPrices, IsChain, IsFileOf, Link, Prices, costs_behind, names_below, summed}
use Rattle.cv_sequences.proofs.Chains.{taped as taped_sum, valued as chain_valued, within, same_end}
use Rattle.cv_sequences.specs.secrets.Sums.{summed_by}
use Rattle.cv_sequences.proofs.secrets.Alike.{bounded_alike, fraction}
use Rattle.cv_sequences.proofs.secrets.Sums.{both, of_both, plain, random, real}

-- chances

symmetric : (p q : Chance) → distance p q ≡ distance q p
symmetric p q = fraction _ _ (omega arith) (omega arith)

no_distance : (p q : Chance) → AtMost (distance p q) zero_chance → Same p q
no_distance p q h = omega (arith, h)

-- chances are apart by what each is from one of two that are the same
around : (p q r s v w : Chance) → 0 < p.all → 0 < q.all → 0 < r.all → 0 < s.all → AtMost (distance p q) v → AtMost (distance q r) zero_chance → AtMost (distance s r) w → AtMost (distance p s) (plus v w)
around p q r s v w k l m n h e j =
    at_most_trans (distance p s) (plus (distance p r) (distance r s)) (plus v w) (mul-pos (mul-pos k m) (mul-pos m n)) (triangle p r s)
    (plus_kept (distance p r) v (distance r s) w (same_end p q r v k l h (no_distance q r e)) (subst (λ d. AtMost d w) (symmetric s r) j))

-- sums

pub both_plain : (i : Interpretation) (advantages : Advantages) (costs : List SumCost) → both i advantages (summed_by false [] costs) (summed_by false [] costs) ≡ both i advantages (summed [] costs) (summed [] costs)
both_plain i advantages costs = ap₂ (both i advantages) (plain [] costs) (plain [] costs)

pub taped : (ds : List Declaration) (known : ℕ → Bool) (first : Tree) (links : List Link) (last : Tree) → IsChain ds known first links last → (i : Interpretation) → Satisfies ds i → (advantages : Advantages)
    → HaveTapedPrices (real i advantages) links → HaveTapedPrices (random i advantages) links → HasTapes (sum_value i advantages (summed_by true [] (costs_behind links)))
taped ds known first links last c i sat advantages h k =
    (of_both i advantages (costs_behind links)).back
    (subst HasTapes (sym (both_plain i advantages (costs_behind links))) (mul-pos (taped_sum ds known first links last c i sat (real i advantages) h) (taped_sum ds known first links last c i sat (random i advantages) k)))

module _ (ds : List Declaration) (own : ℕ) (first : Tree) (w : IsFileOf ds own first) (i : Interpretation) (sat : Satisfies ds i) where
  -- each choice and test of an experiment has a value in each game of the chain
  pub valued : (x : Experiment) → IsAsked (queries_in ds) x → HasValuesIn (setting_of ds i) (mode_of x) first → (links : List Link) (last : Tree) → IsChain ds (names_below own) first links last → HasValuesIn (setting_of ds i) (mode_of x) last
  valued x asked v links last c = chain_valued ds own first w i sat x asked v links last c

  pub carried : (one : Bool) (x : ℕ) → IsAsked (queries_in ds) (Guesses (Real one x)) → IsAsked (queries_in ds) (Guesses (Random one x)) → HasValuesIn (setting_of ds i) (Real one x) first → HasValuesIn (setting_of ds i) (Random one x) first
      → (a : Adversary) (advantages : Advantages) (links : List Link) (last : Tree) → IsChain ds (names_below own) first links last
      → Prices ds (names_below own) first links (real i advantages) i (Guesses (Real one x)) a → Prices ds (names_below own) first links (random i advantages) i (Guesses (Random one x)) a
      → AtMost (secrecy (setting_of ds i) one x a last) zero_chance → AtMost (secrecy (setting_of ds i) one x a first) (sum_value i advantages (summed_by true [] (costs_behind links)))
  carried one x asks asks_random v v_random a advantages links last c p p_random none =
      let shown : Experiment = Guesses (Real one x) in
      let drawn : Experiment = Guesses (Random one x) in
      let g = setting_of ds i in
      let costs : List SumCost = costs_behind links in
      bounded_alike (secrecy g one x a first) (sum_value i advantages (summed_by true [] costs)) (both i advantages (summed_by false [] costs) (summed_by false [] costs)) (of_both i advantages costs)
      (subst (AtMost (secrecy g one x a first)) (sym (both_plain i advantages costs))
      (around (chance_of g shown a first) (chance_of g shown a last) (chance_of g drawn a last) (chance_of g drawn a first)
      (sum_value i (real i advantages) (summed [] costs)) (sum_value i (random i advantages) (summed [] costs))
      (tapes g shown a first v) (tapes g shown a last (valued shown asks v links last c)) (tapes g drawn a last (valued drawn asks_random v_random links last c)) (tapes g drawn a first v_random)
      (within ds own first w i sat shown asks v a (real i advantages) links last c p) none
      (within ds own first w i sat drawn asks_random v_random a (random i advantages) links last c p_random)))
