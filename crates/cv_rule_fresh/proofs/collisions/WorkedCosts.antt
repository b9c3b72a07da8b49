-- In a small game the cost of the step is reached.
use Rattle.std.proofs.Common.{◌≡◌, refl, sym, subst}
use Rattle.cv_syntax_trees.specs.Tree.{reads_only, same_tree, size, subtree}
use Rattle.cv_meaning.specs.Tapes.{count, sum_below, total, written}
use Rattle.cv_meaning.specs.Memory.{put}
use Rattle.cv_meaning.specs.Terms.{value, values}
use Rattle.cv_meaning.specs.Binders.{bound_to}
use Rattle.cv_meaning.specs.Candidates.{candidates, candidates_at, chosen, tuples_up_to}
use Rattle.cv_meaning.specs.Inputs.{inputs_of}
use Rattle.cv_meaning.specs.Serving.{serve, step}
use Rattle.cv_meaning.specs.Runs.{moved, run_from, taken}
use Rattle.cv_meaning.specs.Cells.{at_each_copy, cells, tuples_below}
use Rattle.cv_meaning.specs.Experiments.{holds_on, run}
use Rattle.cv_meaning.specs.Correspondences.{assignments, broken, can_match, positions, ways}
use Rattle.cv_meaning.specs.Advantage.{chance_of}
use Rattle.cv_meaning.specs.Chances.{Same, distance}
use Rattle.cv_meaning.specs.Replaced.{replaced}
use Rattle.cv_syntax_trees.specs.sites.Sites.{bound_sort, first_site, is_untyped_in}
use Rattle.cv_scope_rules.specs.Context.{context_at}
use Rattle.cv_steps.specs.Rewriting.{has_term_at}
use Rattle.cv_steps.specs.Steps.{Leads}
use Rattle.cv_derive_laws.specs.stores.Costs.{bound_of}
use Rattle.cv_costs.specs.Factors.{with_parameter}
use Rattle.cv_rule_fresh.specs.collisions.Choices.{choice_in}
use Rattle.cv_costs.specs.names.Reach.{is_in_scope}
use Rattle.cv_rule_fresh.specs.collisions.Fresh.{fresh_row}
use Rattle.cv_rule_fresh.specs.collisions.Worked.{chance_in, guessed, not_guessed, one_of_many, scene_of, three_values}

pub row : fresh_row (scene_of guessed) 4 ≡ Leads not_guessed one_of_many
unfolding same_tree size subtree replaced first_site bound_sort is_untyped_in context_at has_term_at choice_in is_in_scope
row = refl

before : chance_in guessed ≡ record { good = 1; all = 3 }
unfolding size reads_only written sum_below count total put value values bound_to tuples_up_to candidates_at candidates chosen inputs_of step serve taken moved run_from tuples_below at_each_copy cells run holds_on assignments positions ways can_match broken chance_of
before = refl

after : chance_in not_guessed ≡ record { good = 0; all = 3 }
unfolding size reads_only written sum_below count total put value values bound_to tuples_up_to candidates_at candidates chosen inputs_of step serve taken moved run_from tuples_below at_each_copy cells run holds_on assignments positions ways can_match broken chance_of
after = refl

pub reached : Same (distance (chance_in guessed) (chance_in not_guessed)) (bound_of three_values one_of_many)
unfolding with_parameter
reached =
    subst (λ p. Same (distance p (chance_in not_guessed)) (bound_of three_values one_of_many)) (sym before)
    (subst (λ p. Same (distance (record { good = 1; all = 3 }) p) (bound_of three_values one_of_many)) (sym after) refl)
