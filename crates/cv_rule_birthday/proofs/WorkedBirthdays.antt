-- The worked scenes are judged as is said.
use Rattle.std.proofs.Common.{◌≡◌, ℕ, List, [], ◌∷◌, refl}
use Rattle.std.specs.List.{AllByRecursion}
use Rattle.cv_syntax_trees.specs.declared.head.Head.TheVariants.{Eq}
use Rattle.cv_syntax_trees.specs.Builders.{leaf}
use Rattle.cv_syntax_trees.specs.Tree.{Tree, Node, size, depth, subtree, same_tree}
use Rattle.cv_syntax.specs.faults.Walk.{first_fault}
use Rattle.cv_syntax_trees.specs.sites.Sites.{first_index, first_site, bound_sort, is_untyped_in}
use Rattle.cv_syntax_trees.specs.sites.Counting.{count}
use Rattle.cv_scene.specs.lines.Truths.{yes}
use Rattle.cv_scope_rules.specs.typing.Parts.{first_in}
use Rattle.cv_scope_rules.specs.typing.Typing.{binders_differ}
use Rattle.cv_scope_rules.specs.Context.{context_at}
use Rattle.cv_scope_rules.specs.Sites.{sites_from}
use Rattle.cv_scope_rules.specs.Made.{is_bound}
use Rattle.cv_scope_rules.specs.Phrases.{is_phrase, binds_none}
use Rattle.cv_scene.specs.Scenes.{names}
use Rattle.cv_scene.specs.Terms.{is_there}
use Rattle.cv_costs.specs.Factors.{with_parameter}
use Rattle.cv_scene.specs.Large.{first_other_site}
use Rattle.cv_steps.specs.Rewriting.{has_term_at}
use Rattle.cv_steps.specs.Judgements.{Accepted, Judgement, Refused, judgement_of}
use Rattle.cv_costs.specs.wording.Changing.{changed_at}
use Rattle.cv_rule_birthday.specs.Row.{birthday_step}
use Rattle.cv_rule_birthday.specs.Worked.{alone, at, birthdays, received, repeats, same_again, same_cells, scene_of, single, squared}

abbrev Judged : Tree → (x : ℕ) → (places : List ℕ) → Judgement → Type 0
Judged game x ps j = judgement_of (scene_of game) (birthday_step x ps) ≡ j

alone_compared : Judged (alone (Node Eq (leaf 4) (leaf 4))) 4 (3 ∷ []) (Accepted (alone yes) single)
unfolding first_fault first_in size depth subtree same_tree first_index first_site bound_sort binders_differ count context_at sites_from is_bound is_phrase binds_none is_there is_untyped_in has_term_at changed_at first_other_site names with_parameter
alone_compared = refl

no_places : Judged (alone yes) 4 [] (Accepted (alone yes) single)
unfolding first_fault first_in size depth subtree same_tree first_index first_site bound_sort binders_differ count context_at sites_from is_bound is_phrase binds_none is_there is_untyped_in has_term_at changed_at first_other_site names with_parameter
no_places = refl

in_both : Judged (repeats 5 same_cells same_again) 4 (15 ∷ 23 ∷ []) (Accepted (repeats 5 (Node Eq (at 8) (at 9)) (Node Eq (at 9) (at 8))) squared)
unfolding first_fault first_in size depth subtree same_tree first_index first_site bound_sort binders_differ count context_at sites_from is_bound is_phrase binds_none is_there is_untyped_in has_term_at changed_at first_other_site names with_parameter
in_both = refl

no_name : Judged (alone yes) 15 [] (Refused 0 0)
unfolding first_fault first_in size depth subtree same_tree first_index first_site bound_sort binders_differ count context_at sites_from is_bound is_phrase binds_none is_there is_untyped_in has_term_at changed_at first_other_site names with_parameter
no_name = refl

no_place : Judged (alone (Node Eq (leaf 4) (leaf 4))) 4 (9 ∷ []) (Refused 0 0)
unfolding first_fault first_in size depth subtree same_tree first_index first_site bound_sort binders_differ count context_at sites_from is_bound is_phrase binds_none is_there is_untyped_in has_term_at changed_at first_other_site names with_parameter
no_place = refl

other_order : Judged (repeats 5 same_cells same_again) 4 (23 ∷ 15 ∷ []) (Refused 0 0)
unfolding first_fault first_in size depth subtree same_tree first_index first_site bound_sort binders_differ count context_at sites_from is_bound is_phrase binds_none is_there is_untyped_in has_term_at changed_at first_other_site names with_parameter
other_order = refl

no_comparison : Judged (alone yes) 4 (3 ∷ []) (Refused 1 3)
unfolding first_fault first_in size depth subtree same_tree first_index first_site bound_sort binders_differ count context_at sites_from is_bound is_phrase binds_none is_there is_untyped_in has_term_at changed_at first_other_site names with_parameter
no_comparison = refl

no_cells : Judged (repeats 5 same_cells (Node Eq (at 8) (at 9))) 4 (15 ∷ 23 ∷ []) (Refused 1 23)
unfolding first_fault first_in size depth subtree same_tree first_index first_site bound_sort binders_differ count context_at sites_from is_bound is_phrase binds_none is_there is_untyped_in has_term_at changed_at first_other_site names with_parameter
no_cells = refl

received_value : Judged received 4 (2 ∷ []) (Refused 2 0)
unfolding first_fault first_in size depth subtree same_tree first_index first_site bound_sort binders_differ count context_at sites_from is_bound is_phrase binds_none is_there is_untyped_in has_term_at changed_at first_other_site names with_parameter
received_value = refl

small_type : Judged (repeats 6 same_cells same_again) 4 (15 ∷ []) (Refused 2 3)
unfolding first_fault first_in size depth subtree same_tree first_index first_site bound_sort binders_differ count context_at sites_from is_bound is_phrase binds_none is_there is_untyped_in has_term_at changed_at first_other_site names with_parameter
small_type = refl

no_site : Judged (alone yes) 5 [] (Refused 2 0)
unfolding first_fault first_in size depth subtree same_tree first_index first_site bound_sort binders_differ count context_at sites_from is_bound is_phrase binds_none is_there is_untyped_in has_term_at changed_at first_other_site names with_parameter
no_site = refl

pub each : AllByRecursion (λ c. judgement_of c.0 (birthday_step c.1 c.2) ≡ c.3) birthdays
each = (alone_compared, (no_places, (in_both, (no_name, (no_place, (other_order, (no_comparison, (no_cells, (received_value, (small_type, (no_site, tt)))))))))))
