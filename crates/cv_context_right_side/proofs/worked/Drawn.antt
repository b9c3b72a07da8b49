-- What is drawn for the next game of the small protocol.
use Rattle.std.proofs.Common.{◌≡◌, ℕ, ◌<◌, ◌==◌, true, false, List, [], length, refl, sym, subst, arith}
use Rattle.std.specs.List.{AllByRecursion, IsDistinct, list_any}
use Rattle.cv_syntax_trees.specs.Tree.{same_tree, size}
use Rattle.cv_scene.specs.lines.Given.{with_given}
use Rattle.cv_syntax_trees.specs.sites.Sites.{bound_sort, first_site}
use Rattle.cv_scope_rules.specs.typing.Signature.{names_in}
use Rattle.cv_meaning.specs.contexts.Groups.{Right, side_group}
use Rattle.cv_meaning.specs.contexts.Sides.{Context}
use Rattle.cv_scene.specs.Contexts.{context_in}
use Rattle.cv_scene.specs.Instances.{standing_for}
use Rattle.cv_scene.specs.Reductions.{context_of_game}
use Rattle.cv_scene.specs.Scenes.{is_new, names}
use Rattle.cv_scene.specs.Sites.{sites_in}
use Rattle.cv_match_laws.specs.Worked.{authentication, game}
use Rattle.cv_meaning.specs.contexts.Inlined.{all_equal, cells_in_game, expanded, expanded_at, in_game, inlined_body, inlined_call, moved, needed}
use Rattle.cv_inline.specs.Draws.{Draw, body_draws, draws_of, drawn_by, finds_in, index_draws, label_draws, labels_from, labels_in}
use Rattle.cv_inline.specs.NextGame.{call_of, callings_from, callings_of, names_assigned, next_in, next_of, with_results}
use Rattle.cv_match_laws.specs.answers.Answers.{above_names}
use Rattle.cv_match_laws.proofs.answers.Many.{none_is}
use Rattle.cv_match_laws.specs.answers.Drawn.{AreDrawnFor, draws, finds, next_game}
use Rattle.cv_context_right_side.specs.worked.Worked.{accepting, context, drawn_labels, drawn_names, next}

context_is : context_of_game accepting ≡ context
unfolding size same_tree with_given bound_sort first_site names_in standing_for sites_in context_in
context_is = refl

-- what is drawn for the calls of a context

abbrev draws_in : Context → List Draw
draws_in c = draws_of (side_group Right authentication) (callings_of c)

abbrev finds_of : Context → List (ℕ × ℕ)
finds_of c = label_draws (callings_of c)

many_there : length drawn_names ≡ length (draws_in context)
unfolding size call_of callings_from names_assigned index_draws body_draws
many_there = refl

many : length drawn_names ≡ length (draws accepting)
many = subst (λ c. length drawn_names ≡ length (draws_in c)) (sym context_is) many_there

least_there : drawn_labels ≡ labels_from (labels_in (game [])) 1 (finds_of context)
unfolding size call_of callings_from names_assigned finds_in labels_in
least_there = refl

least : drawn_labels ≡ labels_from (labels_in (game [])) 1 (finds accepting)
least = subst (λ c. drawn_labels ≡ labels_from (labels_in (game [])) 1 (finds_of c)) (sym context_is) least_there

new : AllByRecursion (λ y. is_new accepting.scene y ≡ true) drawn_names
unfolding names
new = (refl, (refl, (refl, (refl, (refl, tt)))))

apart : IsDistinct ◌==◌ drawn_names
unfolding IsDistinct
apart = ((refl, (refl, (refl, (refl, tt)))), ((refl, (refl, (refl, tt))), ((refl, (refl, tt)), ((refl, tt), (tt, tt)))))

below : AllByRecursion (λ y. y < 90) drawn_names
below = (omega arith, (omega arith, (omega arith, (omega arith, (omega arith, tt)))))

no_answers : (k : ℕ) → list_any (λ y. y == accepting.answer k) drawn_names ≡ false
unfolding above_names
no_answers k = none_is 90 (game []) drawn_names k below

pub drawn : AreDrawnFor accepting drawn_names drawn_labels
drawn = record { many = many; apart = apart; new = new; answers = no_answers; least = least }

next_there : next_of context 40 (drawn_by (draws_in context) drawn_names (finds_of context) drawn_labels) ≡ next
unfolding size same_tree in_game all_equal moved needed expanded_at expanded inlined_body inlined_call cells_in_game names_assigned call_of callings_from with_results next_in index_draws body_draws finds_in
next_there = refl

pub next_is : next_game accepting drawn_names drawn_labels ≡ next
next_is = subst (λ c. next_of c 40 (drawn_by (draws_in c) drawn_names (finds_of c) drawn_labels) ≡ next) (sym context_is) next_there
