-- The worked moves are judged as is said.
use Rattle.std.proofs.Common.{◌≡◌, ℕ, [], ◌∷◌, refl}
use Rattle.std.specs.List.{AllByRecursion}
use Rattle.cv_syntax_trees.specs.declared.head.Head.TheVariants.{Yes}
use Rattle.cv_syntax_trees.specs.Builders.{event, leaf}
use Rattle.cv_syntax_trees.specs.Tree.{lone, size, depth, subtree, same_tree}
use Rattle.cv_syntax.specs.faults.Walk.{first_fault}
use Rattle.cv_meaning.specs.Replaced.{replaced}
use Rattle.cv_syntax_trees.specs.sites.Sites.{first_index, first_site, bound_sort, is_untyped_in}
use Rattle.cv_syntax_trees.specs.sites.Counting.{count}
use Rattle.cv_scope_rules.specs.typing.Parts.{first_in}
use Rattle.cv_scope_rules.specs.typing.Signature.{names_in}
use Rattle.cv_scope_rules.specs.typing.Typing.{binders_differ}
use Rattle.cv_scope_rules.specs.Context.{context_at}
use Rattle.cv_scope_rules.specs.Sites.{sites_from}
use Rattle.cv_scope_rules.specs.Made.{is_bound}
use Rattle.cv_scope_rules.specs.Phrases.{is_phrase, binds_none}
use Rattle.cv_scene.specs.Scenes.{Scene, first_reading}
use Rattle.cv_scene.specs.Terms.{is_there}
use Rattle.cv_steps.specs.Steps.{Zero}
use Rattle.cv_steps.specs.Judgements.{Judgement, Refused, Accepted, judgement_of_row}
use Rattle.cv_steps_laws.specs.Worked.{assigns, draws, draws_more, equal, plain, receives, sends, sends_assigned}
use Rattle.cv_rule_move.specs.Rows.{move_row}
use Rattle.cv_rule_move.specs.Worked.{alone, assigned, found, game_of, moves, new, tested}

abbrev Judged : Scene → ℕ → Judgement → Type 0
Judged s p j = judgement_of_row s (move_row s p) ≡ j

over_new : Judged (game_of draws_more) 1 (Accepted (receives (new 11 draws)) Zero)
unfolding first_fault first_in size depth subtree same_tree replaced first_index first_site bound_sort binders_differ count context_at sites_from is_bound is_phrase binds_none first_reading is_there is_untyped_in
over_new = refl

let_over_new : Judged (game_of (new 4 (assigned (new 12 sends_assigned)))) 2 (Accepted (receives (new 4 (new 12 (assigned sends_assigned)))) Zero)
unfolding first_fault first_in size depth subtree same_tree replaced first_index first_site bound_sort binders_differ count context_at sites_from is_bound is_phrase binds_none first_reading is_there is_untyped_in
let_over_new = refl

over_event : Judged (game_of (new 4 (event 7 [] sends))) 1 (Accepted (receives (event 7 [] draws)) Zero)
unfolding first_fault first_in size depth subtree same_tree replaced first_index first_site bound_sort binders_differ count context_at sites_from is_bound is_phrase binds_none first_reading is_there is_untyped_in names_in
over_event = refl

over_if : Judged (game_of (new 4 (tested (lone Yes) alone))) 1 (Accepted (receives (tested (lone Yes) (new 4))) Zero)
unfolding first_fault first_in size depth subtree same_tree replaced first_index first_site bound_sort binders_differ count context_at sites_from is_bound is_phrase binds_none first_reading is_there is_untyped_in
over_if = refl

over_find : Judged (game_of (new 4 (found [] (lone Yes) alone))) 1 (Accepted (receives (found [] (lone Yes) (new 4))) Zero)
unfolding first_fault first_in size depth subtree same_tree replaced first_index first_site bound_sort binders_differ count context_at sites_from is_bound is_phrase binds_none first_reading is_there is_untyped_in
over_find = refl

at_input : Judged plain 0 (Refused 1 0)
unfolding subtree
at_input = refl

at_output : Judged plain 2 (Refused 1 0)
unfolding subtree size
at_output = refl

before_output : Judged plain 1 (Refused 2 0)
unfolding subtree size
before_output = refl

in_term : Judged (game_of (assigns sends_assigned)) 1 (Refused 3 3)
unfolding subtree size first_reading
in_term = refl

in_condition : Judged (game_of (new 4 (tested equal alone))) 1 (Refused 3 4)
unfolding subtree size first_reading
in_condition = refl

in_list : Judged (game_of (new 4 (found (leaf 4 ∷ []) equal alone))) 1 (Refused 3 4)
unfolding subtree size first_reading is_bound
in_list = refl

in_branch : Judged (game_of (new 4 (found [] equal alone))) 1 (Refused 3 5)
unfolding subtree size first_reading is_bound
in_branch = refl

pub each : AllByRecursion (λ c. Judged c.0 c.1 c.2) moves
each = (over_new, (let_over_new, (over_event, (over_if, (over_find, (at_input, (at_output, (before_output, (in_term, (in_condition, (in_list, (in_branch, tt))))))))))))
