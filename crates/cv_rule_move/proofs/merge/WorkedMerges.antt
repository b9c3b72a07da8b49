-- The worked merges are judged as is said.
use Rattle.std.proofs.Common.{◌≡◌, ℕ, [], ◌∷◌, refl}
use Rattle.std.specs.List.{AllByRecursion}
use Rattle.cv_syntax_trees.specs.declared.head.Head.TheVariants.{Secret}
use Rattle.cv_syntax_trees.specs.Declarations.{Query}
use Rattle.cv_syntax_trees.specs.Tree.{lone, size, depth, subtree, same_tree}
use Rattle.cv_syntax.specs.faults.Walk.{first_fault}
use Rattle.cv_meaning.specs.Queries.{queries_in}
use Rattle.cv_meaning.specs.Replaced.{replaced}
use Rattle.cv_syntax_trees.specs.sites.Sites.{first_index, first_site, bound_sort, is_untyped_in}
use Rattle.cv_syntax_trees.specs.sites.Counting.{count}
use Rattle.cv_scope_rules.specs.typing.Parts.{first_in}
use Rattle.cv_scope_rules.specs.typing.Typing.{binders_differ}
use Rattle.cv_scope_rules.specs.Context.{context_at}
use Rattle.cv_scope_rules.specs.Sites.{sites_from}
use Rattle.cv_scope_rules.specs.Made.{is_bound}
use Rattle.cv_scope_rules.specs.Phrases.{is_phrase, binds_none}
use Rattle.cv_scene.specs.Scenes.{Scene}
use Rattle.cv_scene.specs.Terms.{is_there}
use Rattle.cv_steps.specs.Steps.{Zero}
use Rattle.cv_steps.specs.Judgements.{Accepted, Judgement, Refused, judgement_of}
use Rattle.cv_steps_laws.specs.Worked.{copies, draws, plain, receives, scene_of, sends}
use Rattle.cv_costs.specs.names.Naming.{first_naming}
use Rattle.cv_rule_move.specs.merge.Row.{merge_step}
use Rattle.cv_rule_move.specs.merge.Worked.{copies_of, copies_with, found, found_two, merges, sends_other, tested, yields}

abbrev Judged : Scene → ℕ → Judgement → Type 0
Judged s p j = judgement_of s (merge_step p) ≡ j

of_if : Judged (scene_of [] (receives (tested draws draws))) 1 (Accepted plain.game Zero)
unfolding first_fault first_in size depth subtree same_tree replaced first_index first_site bound_sort binders_differ count context_at sites_from is_bound is_phrase binds_none queries_in first_naming is_there is_untyped_in
of_if = refl

of_find : Judged (copies_of (found yields yields)) 3 (Accepted (copies yields) Zero)
unfolding first_fault first_in size depth subtree same_tree replaced first_index first_site bound_sort binders_differ count context_at sites_from is_bound is_phrase binds_none queries_in first_naming is_there is_untyped_in
of_find = refl

of_three : Judged (copies_of (found_two yields yields yields)) 3 (Accepted (copies yields) Zero)
unfolding first_fault first_in size depth subtree same_tree replaced first_index first_site bound_sort binders_differ count context_at sites_from is_bound is_phrase binds_none queries_in first_naming is_there is_untyped_in
of_three = refl

of_finds : Judged (copies_of (tested (found yields yields) (found yields yields))) 3 (Accepted (copies (found yields yields)) Zero)
unfolding first_fault first_in size depth subtree same_tree replaced first_index first_site bound_sort binders_differ count context_at sites_from is_bound is_phrase binds_none queries_in first_naming is_there is_untyped_in
of_finds = refl

no_place : Judged plain 5 (Refused 0 0)
unfolding size
no_place = refl

at_input : Judged plain 0 (Refused 1 0)
unfolding size subtree
at_input = refl

at_output : Judged plain 2 (Refused 1 0)
unfolding size subtree
at_output = refl

other_else : Judged (scene_of [] (receives (tested draws sends))) 1 (Refused 2 7)
unfolding size subtree same_tree
other_else = refl

other_last : Judged (copies_of (found yields (found yields yields))) 3 (Refused 2 15)
unfolding size subtree same_tree
other_last = refl

other_second : Judged (copies_of (found_two yields (found yields yields) yields)) 3 (Refused 2 25)
unfolding size subtree same_tree
other_second = refl

other_third : Judged (copies_of (found_two yields yields (found yields yields))) 3 (Refused 2 26)
unfolding size subtree same_tree
other_third = refl

in_query : Judged (copies_with (Query (lone (Secret 11)) ∷ []) (found yields yields)) 3 (Refused 3 0)
unfolding size subtree same_tree is_bound queries_in
in_query = refl

in_body : Judged (copies_of (found sends_other sends_other)) 3 (Refused 3 16)
unfolding size subtree same_tree is_bound queries_in first_naming
in_body = refl

in_branch_before : Judged (copies_of (tested (found yields yields) (found yields yields))) 18 (Refused 3 6)
unfolding size subtree same_tree is_bound queries_in first_naming
in_branch_before = refl

in_branch_behind : Judged (copies_of (tested (found yields yields) (found yields yields))) 5 (Refused 3 19)
unfolding size subtree same_tree is_bound queries_in first_naming
in_branch_behind = refl

pub each : AllByRecursion (λ c. Judged c.0 c.1 c.2) merges
each = (of_if, (of_find, (of_three, (of_finds, (no_place, (at_input, (at_output, (other_else, (other_last, (other_second, (other_third, (in_query, (in_body, (in_branch_before, (in_branch_behind, tt)))))))))))))))
