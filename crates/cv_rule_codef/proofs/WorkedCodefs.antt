-- The worked scenes are judged as is said.
use Rattle.std.proofs.Common.{◌≡◌, true, false, [], ◌∷◌, refl}
use Rattle.std.specs.List.{AllByRecursion}
use Rattle.cv_syntax_trees.specs.declared.head.Head.TheVariants.{Eq, Yes, Yield}
use Rattle.cv_syntax_trees.specs.Tree.{Node, lone, size, depth, subtree, same_tree}
use Rattle.cv_syntax.specs.faults.Walk.{first_fault}
use Rattle.cv_meaning.specs.Replaced.{replaced}
use Rattle.cv_meaning_runs.specs.Replacement.{if_tree}
use Rattle.cv_syntax_trees.specs.sites.Sites.{first_index, first_site, bound_sort, is_untyped_in}
use Rattle.cv_syntax_trees.specs.sites.Counting.{count}
use Rattle.cv_scope_rules.specs.typing.Parts.{first_in}
use Rattle.cv_scope_rules.specs.typing.Typing.{binders_differ}
use Rattle.cv_scope_rules.specs.Context.{context_at}
use Rattle.cv_scope_rules.specs.Sites.{sites_from}
use Rattle.cv_scope_rules.specs.Made.{is_bound}
use Rattle.cv_scope_rules.specs.Phrases.{is_phrase, binds_none}
use Rattle.cv_scene.specs.Scenes.{Scene}
use Rattle.cv_scene.specs.Terms.{is_there}
use Rattle.cv_steps.specs.Steps.{Step, Zero}
use Rattle.cv_steps.specs.Judgements.{Accepted, Judgement, Refused, judgement_of}
use Rattle.cv_steps_laws.specs.Worked.{copy_of}
use Rattle.cv_rule_codef.specs.Adjacent.{are_joined, is_defined_below, sites, stands_above}
use Rattle.cv_rule_codef.specs.Row.{codef_step}
use Rattle.cv_rule_codef.specs.Worked.{add, add_above, assigned, codefs, copies, drop, finds, finds_where, game_of, new, other}

abbrev Judged : Scene → Step → Judgement → Type 0
Judged s x j = judgement_of s x ≡ j

in_input : Judged (game_of (finds (other 12 ∷ []))) (add 3 13 12) (Accepted (copies (finds (other 12 ∷ other 13 ∷ []))) Zero)
unfolding first_fault first_in size depth subtree same_tree replaced first_index first_site bound_sort binders_differ count context_at sites_from is_bound is_phrase binds_none is_there is_untyped_in sites are_joined is_defined_below stands_above
in_input = refl

in_input_dropped : Judged (game_of (finds (other 13 ∷ other 12 ∷ []))) (drop 3 13 12) (Accepted (copies (finds (other 12 ∷ []))) Zero)
unfolding first_fault first_in size depth subtree same_tree replaced first_index first_site bound_sort binders_differ count context_at sites_from is_bound is_phrase binds_none is_there is_untyped_in sites are_joined is_defined_below stands_above
in_input_dropped = refl

let_behind : Judged (game_of (assigned 14 (finds (other 12 ∷ [])))) (add 6 14 12) (Accepted (copies (assigned 14 (finds (other 12 ∷ other 14 ∷ [])))) Zero)
unfolding first_fault first_in size depth subtree same_tree replaced first_index first_site bound_sort binders_differ count context_at sites_from is_bound is_phrase binds_none is_there is_untyped_in sites are_joined is_defined_below stands_above
let_behind = refl

new_before : Judged (game_of (new 4 (new 14 (finds (other 14 ∷ []))))) (add 5 4 14) (Accepted (copies (new 4 (new 14 (finds (other 14 ∷ other 4 ∷ []))))) Zero)
unfolding first_fault first_in size depth subtree same_tree replaced first_index first_site bound_sort binders_differ count context_at sites_from is_bound is_phrase binds_none is_there is_untyped_in sites are_joined is_defined_below stands_above
new_before = refl

above_let : Judged (game_of (assigned 4 (assigned 14 (finds (other 14 ∷ []))))) (add_above 9 12 14) (Accepted (copies (assigned 4 (assigned 14 (finds (other 14 ∷ other 12 ∷ []))))) Zero)
unfolding first_fault first_in size depth subtree same_tree replaced first_index first_site bound_sort binders_differ count context_at sites_from is_bound is_phrase binds_none is_there is_untyped_in sites are_joined is_defined_below stands_above
above_let = refl

above_test : Judged (game_of (new 4 (if_tree (lone Yes) (new 14 (finds (other 14 ∷ []))) (lone Yield)))) (add_above 7 4 14) (Accepted (copies (new 4 (if_tree (lone Yes) (new 14 (finds (other 14 ∷ other 4 ∷ []))) (lone Yield)))) Zero)
unfolding first_fault first_in size depth subtree same_tree replaced first_index first_site bound_sort binders_differ count context_at sites_from is_bound is_phrase binds_none is_there is_untyped_in sites are_joined is_defined_below stands_above
above_test = refl

no_place : Judged (game_of (finds (other 12 ∷ []))) (add 10 13 12) (Refused 0 0)
unfolding first_fault first_in size depth subtree same_tree replaced first_index first_site bound_sort binders_differ count context_at sites_from is_bound is_phrase binds_none is_there is_untyped_in sites are_joined is_defined_below stands_above
no_place = refl

no_name : Judged (game_of (finds (other 12 ∷ []))) (add 3 40 12) (Refused 0 0)
unfolding first_fault first_in size depth subtree same_tree replaced first_index first_site bound_sort binders_differ count context_at sites_from is_bound is_phrase binds_none is_there is_untyped_in sites are_joined is_defined_below stands_above
no_name = refl

other_indices : Judged (game_of (finds (other 12 ∷ []))) (codef_step 3 true false (copy_of 13) (other 12)) (Refused 0 0)
unfolding first_fault first_in size depth subtree same_tree replaced first_index first_site bound_sort binders_differ count context_at sites_from is_bound is_phrase binds_none is_there is_untyped_in sites are_joined is_defined_below stands_above
other_indices = refl

at_find : Judged (game_of (finds (other 12 ∷ []))) (add 2 13 12) (Refused 1 0)
unfolding first_fault first_in size depth subtree same_tree replaced first_index first_site bound_sort binders_differ count context_at sites_from is_bound is_phrase binds_none is_there is_untyped_in sites are_joined is_defined_below stands_above
at_find = refl

not_listed : Judged (game_of (finds (other 12 ∷ []))) (add 3 12 13) (Refused 1 0)
unfolding first_fault first_in size depth subtree same_tree replaced first_index first_site bound_sort binders_differ count context_at sites_from is_bound is_phrase binds_none is_there is_untyped_in sites are_joined is_defined_below stands_above
not_listed = refl

one_variable : Judged (game_of (finds (other 12 ∷ []))) (add 3 12 12) (Refused 2 0)
unfolding first_fault first_in size depth subtree same_tree replaced first_index first_site bound_sort binders_differ count context_at sites_from is_bound is_phrase binds_none is_there is_untyped_in sites are_joined is_defined_below stands_above
one_variable = refl

let_between : Judged (game_of (assigned 4 (assigned 14 (finds (other 12 ∷ other 14 ∷ []))))) (add 9 14 12) (Refused 2 0)
unfolding first_fault first_in size depth subtree same_tree replaced first_index first_site bound_sort binders_differ count context_at sites_from is_bound is_phrase binds_none is_there is_untyped_in sites are_joined is_defined_below stands_above
let_between = refl

two_sites : Judged (game_of (if_tree (lone Yes) (new 4 (new 14 (finds (other 4 ∷ [])))) (new 4 (lone Yield)))) (add 7 14 4) (Refused 2 0)
unfolding first_fault first_in size depth subtree same_tree replaced first_index first_site bound_sort binders_differ count context_at sites_from is_bound is_phrase binds_none is_there is_untyped_in sites are_joined is_defined_below stands_above
two_sites = refl

below : Judged (game_of (assigned 4 (assigned 14 (finds (other 12 ∷ []))))) (add_above 9 14 12) (Refused 2 0)
unfolding first_fault first_in size depth subtree same_tree replaced first_index first_site bound_sort binders_differ count context_at sites_from is_bound is_phrase binds_none is_there is_untyped_in sites are_joined is_defined_below stands_above
below = refl

there_already : Judged (game_of (finds (other 13 ∷ other 12 ∷ []))) (add 3 13 12) (Refused 3 0)
unfolding first_fault first_in size depth subtree same_tree replaced first_index first_site bound_sort binders_differ count context_at sites_from is_bound is_phrase binds_none is_there is_untyped_in sites are_joined is_defined_below stands_above
there_already = refl

not_there : Judged (game_of (finds (other 12 ∷ []))) (drop 3 13 12) (Refused 3 0)
unfolding first_fault first_in size depth subtree same_tree replaced first_index first_site bound_sort binders_differ count context_at sites_from is_bound is_phrase binds_none is_there is_untyped_in sites are_joined is_defined_below stands_above
not_there = refl

read_there : Judged (game_of (finds_where (other 12 ∷ other 13 ∷ []) (Node Eq (other 13) (copy_of 13)))) (drop 3 13 12) (Refused 9 0)
unfolding first_fault first_in size depth subtree same_tree replaced first_index first_site bound_sort binders_differ count context_at sites_from is_bound is_phrase binds_none is_there is_untyped_in sites are_joined is_defined_below stands_above
read_there = refl

pub each : AllByRecursion (λ c. Judged c.0 c.1 c.2) codefs
each = (in_input, (in_input_dropped, (let_behind, (new_before, (above_let, (above_test, (no_place, (no_name, (other_indices, (at_find, (not_listed, (one_variable, (let_between, (two_sites, (below, (there_already, (not_there, (read_there, tt))))))))))))))))))
