-- The worked picks are judged as is said.
use Rattle.std.proofs.Common.{◌≡◌, [], ◌∷◌, refl}
use Rattle.std.specs.List.{AllByRecursion}
use Rattle.cv_syntax_trees.specs.declared.head.Head.TheVariants.{ByBool, ByFact, ByHere, ByRefl, Secret}
use Rattle.cv_syntax_trees.specs.Builders.{leaf, read}
use Rattle.cv_syntax_trees.specs.Declarations.{Query}
use Rattle.cv_syntax_trees.specs.Tree.{lone, size, depth, subtree, same_tree}
use Rattle.cv_syntax.specs.faults.Walk.{first_fault}
use Rattle.cv_meaning.specs.Queries.{queries_in}
use Rattle.cv_meaning.specs.Replaced.{replaced}
use Rattle.cv_meaning_runs.specs.Replacement.{if_tree}
use Rattle.cv_syntax_trees.specs.sites.Sites.{first_index, first_site, bound_sort, is_untyped_in}
use Rattle.cv_syntax_trees.specs.sites.Counting.{count}
use Rattle.cv_scope_rules.specs.typing.Parts.{first_in}
use Rattle.cv_scope_rules.specs.typing.Typing.{binders_differ}
use Rattle.cv_scope_rules.specs.typing.Signature.{names_in}
use Rattle.cv_scope_rules.specs.Above.{standing_at}
use Rattle.cv_scope_rules.specs.Behind.{sites_in}
use Rattle.cv_scope_rules.specs.Context.{context_at}
use Rattle.cv_scope_rules.specs.Sites.{sites_from}
use Rattle.cv_scope_rules.specs.Made.{is_bound}
use Rattle.cv_scope_rules.specs.Phrases.{is_phrase, binds_none}
use Rattle.cv_scene.specs.lines.Given.{with_given}
use Rattle.cv_scene.specs.lines.Lines.{lines_of, statements}
use Rattle.cv_scene.specs.lines.Lines as lines
use Rattle.cv_scene.specs.lines.Truths.{yes}
use Rattle.cv_scene.specs.Derivations.{first_bad}
use Rattle.cv_scene.specs.Late.{is_defined_in, is_late}
use Rattle.cv_scene.specs.Scenes.{Scene}
use Rattle.cv_scene.specs.Terms as terms
use Rattle.cv_steps.specs.Steps.{Step, Zero}
use Rattle.cv_steps.specs.Judgements.{Accepted, Judgement, Refused, judgement_of}
use Rattle.cv_steps_laws.specs.Worked.{copies, copy_of, sends_copy}
use Rattle.cv_derive.specs.worked.Worked.{is_there, line, one}
use Rattle.cv_costs.specs.names.Reach.{is_in_scope}
use Rattle.cv_costs.specs.names.Naming.{first_naming}
use Rattle.cv_rule_pick.specs.Picking.{first_listed, with_terms}
use Rattle.cv_rule_pick_laws.specs.Worked.{at_body, at_find, before_nonce, copies_of, copies_with, both_at_body, both_at_find, found, found_any, found_both, found_two, late_at_body, late_at_find, lists_itself, nowhere_at_body, nowhere_at_find, own, pick, picks, same, sends_found, sends_unseen, tests, yields}

abbrev Judged : Scene → Step → Judgement → Type 0
Judged s x j = judgement_of s x ≡ j

own_index : Judged (copies_of (found sends_found)) (pick 3 own at_body at_find) (Accepted (copies (sends_copy (copy_of 4))) Zero)
unfolding first_fault first_in size depth subtree same_tree replaced first_index first_site bound_sort binders_differ count context_at sites_from is_bound is_phrase binds_none queries_in first_naming terms.is_there is_untyped_in names_in standing_at sites_in with_given lines_of lines.count statements first_bad is_in_scope first_listed with_terms
own_index = refl

no_index : Judged (copies_of (tests 1 (copy_of 4))) (pick 3 [] [] (is_there (copy_of 4) (lone ByHere) ∷ line yes (lone ByBool) ∷ [])) (Accepted (copies yields) Zero)
unfolding first_fault first_in size depth subtree same_tree replaced first_index first_site bound_sort binders_differ count context_at sites_from is_bound is_phrase binds_none queries_in first_naming terms.is_there is_untyped_in names_in standing_at sites_in with_given lines_of lines.count statements first_bad is_in_scope first_listed with_terms
no_index = refl

two_indices : Judged (copies_of found_both) (pick 3 (leaf 1 ∷ leaf 1 ∷ []) both_at_body both_at_find) (Accepted (copies (sends_copy (copy_of 4))) Zero)
unfolding first_fault first_in size depth subtree same_tree replaced first_index first_site bound_sort binders_differ count context_at sites_from is_bound is_phrase binds_none queries_in first_naming terms.is_there is_untyped_in names_in standing_at sites_in with_given lines_of lines.count statements first_bad is_in_scope first_listed with_terms
two_indices = refl

inner_list : Judged (copies_of (found (tests 2 (read 4 (copy_of 11 ∷ []))))) (pick 3 own at_body at_find) (Accepted (copies (tests 2 (copy_of 4))) Zero)
unfolding first_fault first_in size depth subtree same_tree replaced first_index first_site bound_sort binders_differ count context_at sites_from is_bound is_phrase binds_none queries_in first_naming terms.is_there is_untyped_in names_in standing_at sites_in with_given lines_of lines.count statements first_bad is_in_scope first_listed with_terms
inner_list = refl

by_late : Judged (copies_of (before_nonce found_any)) (pick 8 own late_at_body late_at_find) (Accepted (copies (before_nonce yields)) Zero)
unfolding first_fault first_in size depth subtree same_tree replaced first_index first_site bound_sort binders_differ count context_at sites_from is_bound is_phrase binds_none queries_in first_naming terms.is_there is_untyped_in names_in standing_at sites_in with_given lines_of lines.count statements first_bad is_in_scope first_listed with_terms is_defined_in is_late
by_late = refl

no_place : Judged (copies_of (found sends_found)) (pick 20 own at_body at_find) (Refused 0 0)
unfolding first_fault first_in size depth subtree same_tree replaced first_index first_site bound_sort binders_differ count context_at sites_from is_bound is_phrase binds_none queries_in first_naming terms.is_there is_untyped_in names_in standing_at sites_in with_given lines_of lines.count statements first_bad is_in_scope first_listed with_terms
no_place = refl

no_name : Judged (copies_of (found sends_found)) (pick 3 (leaf 40 ∷ []) at_body at_find) (Refused 0 0)
unfolding first_fault first_in size depth subtree same_tree replaced first_index first_site bound_sort binders_differ count context_at sites_from is_bound is_phrase binds_none queries_in first_naming terms.is_there is_untyped_in names_in standing_at sites_in with_given lines_of lines.count statements first_bad is_in_scope first_listed with_terms
no_name = refl

at_new : Judged (copies_of (found sends_found)) (pick 2 own at_body at_find) (Refused 1 0)
unfolding first_fault first_in size depth subtree same_tree replaced first_index first_site bound_sort binders_differ count context_at sites_from is_bound is_phrase binds_none queries_in first_naming terms.is_there is_untyped_in names_in standing_at sites_in with_given lines_of lines.count statements first_bad is_in_scope first_listed with_terms
at_new = refl

two_branches : Judged (copies_of found_two) (pick 3 own at_body at_find) (Refused 1 0)
unfolding first_fault first_in size depth subtree same_tree replaced first_index first_site bound_sort binders_differ count context_at sites_from is_bound is_phrase binds_none queries_in first_naming terms.is_there is_untyped_in names_in standing_at sites_in with_given lines_of lines.count statements first_bad is_in_scope first_listed with_terms
two_branches = refl

two_terms : Judged (copies_of (found sends_found)) (pick 3 (leaf 1 ∷ leaf 1 ∷ []) at_body at_find) (Refused 1 0)
unfolding first_fault first_in size depth subtree same_tree replaced first_index first_site bound_sort binders_differ count context_at sites_from is_bound is_phrase binds_none queries_in first_naming terms.is_there is_untyped_in names_in standing_at sites_in with_given lines_of lines.count statements first_bad is_in_scope first_listed with_terms
two_terms = refl

of_type : Judged (copies_of (found sends_found)) (pick 3 (copy_of 4 ∷ []) at_body at_find) (Refused 1 0)
unfolding first_fault first_in size depth subtree same_tree replaced first_index first_site bound_sort binders_differ count context_at sites_from is_bound is_phrase binds_none queries_in first_naming terms.is_there is_untyped_in names_in standing_at sites_in with_given lines_of lines.count statements first_bad is_in_scope first_listed with_terms
of_type = refl

index_itself : Judged (copies_of (found sends_found)) (pick 3 (copy_of 11 ∷ []) at_body at_find) (Refused 1 0)
unfolding first_fault first_in size depth subtree same_tree replaced first_index first_site bound_sort binders_differ count context_at sites_from is_bound is_phrase binds_none queries_in first_naming terms.is_there is_untyped_in names_in standing_at sites_in with_given lines_of lines.count statements first_bad is_in_scope first_listed with_terms
index_itself = refl

no_fact : Judged (copies_of (found sends_found)) (pick 3 own (line (same (copy_of 11) (leaf 1)) (one ByFact 2) ∷ []) at_find) (Refused 2 1)
unfolding first_fault first_in size depth subtree same_tree replaced first_index first_site bound_sort binders_differ count context_at sites_from is_bound is_phrase binds_none queries_in first_naming terms.is_there is_untyped_in names_in standing_at sites_in with_given lines_of lines.count statements first_bad is_in_scope first_listed with_terms
no_fact = refl

no_line : Judged (copies_of (found sends_found)) (pick 3 own [] at_find) (Refused 3 0)
unfolding first_fault first_in size depth subtree same_tree replaced first_index first_site bound_sort binders_differ count context_at sites_from is_bound is_phrase binds_none queries_in first_naming terms.is_there is_untyped_in names_in standing_at sites_in with_given lines_of lines.count statements first_bad is_in_scope first_listed with_terms
no_line = refl

no_fact_there : Judged (copies_of (found sends_found)) (pick 3 own at_body (is_there (copy_of 4) (lone ByHere) ∷ line (same (leaf 1) (leaf 1)) (one ByFact 1) ∷ [])) (Refused 4 2)
unfolding first_fault first_in size depth subtree same_tree replaced first_index first_site bound_sort binders_differ count context_at sites_from is_bound is_phrase binds_none queries_in first_naming terms.is_there is_untyped_in names_in standing_at sites_in with_given lines_of lines.count statements first_bad is_in_scope first_listed with_terms
no_fact_there = refl

other_order : Judged (copies_of (found sends_found)) (pick 3 own at_body (line (same (leaf 1) (leaf 1)) (lone ByRefl) ∷ is_there (copy_of 4) (lone ByHere) ∷ [])) (Refused 5 0)
unfolding first_fault first_in size depth subtree same_tree replaced first_index first_site bound_sort binders_differ count context_at sites_from is_bound is_phrase binds_none queries_in first_naming terms.is_there is_untyped_in names_in standing_at sites_in with_given lines_of lines.count statements first_bad is_in_scope first_listed with_terms
other_order = refl

in_query : Judged (copies_with (Query (lone (Secret 11)) ∷ []) (found sends_found)) (pick 3 own at_body at_find) (Refused 6 0)
unfolding first_fault first_in size depth subtree same_tree replaced first_index first_site bound_sort binders_differ count context_at sites_from is_bound is_phrase binds_none queries_in first_naming terms.is_there is_untyped_in names_in standing_at sites_in with_given lines_of lines.count statements first_bad is_in_scope first_listed with_terms
in_query = refl

in_list : Judged (copies_of (found (tests 2 (copy_of 11)))) (pick 3 own at_body at_find) (Refused 6 14)
unfolding first_fault first_in size depth subtree same_tree replaced first_index first_site bound_sort binders_differ count context_at sites_from is_bound is_phrase binds_none queries_in first_naming terms.is_there is_untyped_in names_in standing_at sites_in with_given lines_of lines.count statements first_bad is_in_scope first_listed with_terms
in_list = refl

other_site : Judged (copies_of (if_tree yes (found yields) (found yields))) (pick 5 own nowhere_at_body at_find) (Refused 6 17)
unfolding first_fault first_in size depth subtree same_tree replaced first_index first_site bound_sort binders_differ count context_at sites_from is_bound is_phrase binds_none queries_in first_naming terms.is_there is_untyped_in names_in standing_at sites_in with_given lines_of lines.count statements first_bad is_in_scope first_listed with_terms
other_site = refl

own_list : Judged (copies_of lists_itself) (pick 5 own nowhere_at_body (nowhere_at_find (copy_of 4 ∷ copy_of 11 ∷ []))) (Refused 6 10)
unfolding first_fault first_in size depth subtree same_tree replaced first_index first_site bound_sort binders_differ count context_at sites_from is_bound is_phrase binds_none queries_in first_naming terms.is_there is_untyped_in names_in standing_at sites_in with_given lines_of lines.count statements first_bad is_in_scope first_listed with_terms
own_list = refl

unseen : Judged (copies_of sends_unseen) (pick 5 own nowhere_at_body (nowhere_at_find (copy_of 12 ∷ []))) (Refused 9 0)
unfolding first_fault first_in size depth subtree same_tree replaced first_index first_site bound_sort binders_differ count context_at sites_from is_bound is_phrase binds_none queries_in first_naming terms.is_there is_untyped_in names_in standing_at sites_in with_given lines_of lines.count statements first_bad is_in_scope first_listed with_terms
unseen = refl

pub each : AllByRecursion (λ c. Judged c.0 c.1 c.2) picks
each = (own_index, (no_index, (two_indices, (inner_list, (by_late, (no_place, (no_name, (at_new, (two_branches, (two_terms, (of_type, (index_itself, (no_fact, (no_line, (no_fact_there, (other_order, (in_query, (in_list, (other_site, (own_list, (unseen, tt)))))))))))))))))))))
