-- A bound in the last game of a chain is carried back.
use Rattle.std.proofs.Common.{ℕ, ◌<◌, false, List, [], arith, mul-pos}
use Rattle.cv_syntax_trees.specs.Declarations.{Declaration}
use Rattle.cv_syntax_trees.specs.Tree.{Tree}
use Rattle.cv_meaning.specs.Interpretation.{Interpretation, setting_of}
use Rattle.cv_meaning.specs.Satisfies.{Satisfies}
use Rattle.cv_meaning.specs.Runs.{Adversary}
use Rattle.cv_meaning.specs.Experiments.{Experiment, mode_of}
use Rattle.cv_meaning.specs.Chances.{AtMost, Chance, distance}
use Rattle.cv_meaning.specs.Advantage.{IsAsked, chance_of}
use Rattle.cv_meaning.specs.Queries.{queries_in}
use Rattle.cv_meaning_chances.specs.Fractions.{plus}
use Rattle.cv_meaning_chances.proofs.FractionLaws.{at_most_trans, plus_kept, within_distance}
use Rattle.cv_meaning_chances.specs.values.Values.{HasValuesIn}
use Rattle.cv_meaning_chances.proofs.values.Tapes.{tapes}
use Rattle.cv_bound.specs.declared.cost.Cost.{Cost}
use Rattle.cv_bound.specs.Sums.{added}
use Rattle.cv_steps.specs.values.Values.{Advantages, cost_value, sum_value}
use Rattle.cv_sequences.specs.Chains.{IsChain, IsFileOf, Link, Prices, costs_behind, names_below, summed}
use Rattle.cv_sequences.proofs.Chains.{valued, within}
use Rattle.cv_sequences.proofs.secrets.Alike.{bounded_alike}
use Rattle.cv_sequences.proofs.secrets.Sums.{added_alike}

-- what is close to a chance that is bounded is bounded by both
near : (p q v b : Chance) → 0 < p.all → 0 < q.all → AtMost (distance p q) v → AtMost q b → AtMost p (plus v b)
near p q v b k l h e =
    let both : AtMost (plus (distance p q) q) (plus v b) = plus_kept (distance p q) v q b h e in
    let own : AtMost p (plus (distance p q) q) = let w = within_distance p q in omega (arith, w) in
    at_most_trans p (plus (distance p q) q) (plus v b) (mul-pos (mul-pos k l) l) own both

module _ (ds : List Declaration) (own : ℕ) (first : Tree) (w : IsFileOf ds own first) (i : Interpretation) (sat : Satisfies ds i) (x : Experiment) (asked : IsAsked (queries_in ds) x) (v : HasValuesIn (setting_of ds i) (mode_of x) first) (a : Adversary) (advantages : Advantages) (links : List Link) (last : Tree)
    (chain : IsChain ds (names_below own) first links last) (prices : Prices ds (names_below own) first links advantages i x a) where
  abbrev chance_in : Tree → Chance
  chance_in game = chance_of (setting_of ds i) x a game

  abbrev sum : Chance
  sum = sum_value i advantages (summed [] (costs_behind links))

  pub carried : (bound : Chance) → AtMost (chance_in last) bound → AtMost (chance_in first) (plus sum bound)
  carried bound h =
      near (chance_in first) (chance_in last) sum bound (tapes (setting_of ds i) x a first v) (tapes (setting_of ds i) x a last (valued ds own first w i sat x asked v links last chain))
      (within ds own first w i sat x asked v a advantages links last chain prices) h

  pub carried_cost : (cost : Cost) → AtMost (chance_in last) (cost_value i advantages cost false) → AtMost (chance_in first) (sum_value i advantages (added (summed [] (costs_behind links)) cost false))
  carried_cost cost h =
      bounded_alike (chance_in first) (sum_value i advantages (added (summed [] (costs_behind links)) cost false)) (plus sum (cost_value i advantages cost false))
      (added_alike i advantages (summed [] (costs_behind links)) cost false) (carried (cost_value i advantages cost false) h)
