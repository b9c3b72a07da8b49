-- The worked steps are judged as is said.
use Rattle.std.proofs.Common.{◌≡◌, ◌==◌, ◌||◌, Bool, true, false, [], ◌∷◌, None, refl, subst, eqb-true}
use Rattle.std.proofs.lemmas.Bool.{both_ways}
use Rattle.std.specs.List.{AllByRecursion}
use Rattle.cv_syntax.specs.faults.Walk.{first_fault}
use Rattle.cv_syntax_trees.specs.declared.head.Head.TheVariants as head
use Rattle.cv_syntax_trees.specs.declared.head.Head.TheVariants.{Secret, Stop, Yes}
use Rattle.cv_syntax_trees.specs.declared.class.Class.TheVariants as class
use Rattle.cv_syntax_trees.specs.Builders.{leaf, output}
use Rattle.cv_syntax_trees.specs.Declarations.{Named, Query}
use Rattle.cv_syntax_trees.specs.Tree.{Empty, Node, lone, size, depth, subtree, same_tree}
use Rattle.cv_meaning_runs.specs.Replacement.{if_tree}
use Rattle.cv_meaning.specs.Replaced.{replaced}
use Rattle.cv_syntax_trees.specs.sites.Sites.{first_index, first_site, bound_sort, is_untyped_in}
use Rattle.cv_scope_rules.specs.typing.Parts.{first_in}
use Rattle.cv_scope_rules.specs.typing.Typing.{binders_differ}
use Rattle.cv_syntax_trees.specs.sites.Counting.{count}
use Rattle.cv_meaning.specs.Queries.{queries_in}
use Rattle.cv_scope_rules.specs.Context.{context_at}
use Rattle.cv_scope_rules.specs.Sites.{sites_from}
use Rattle.cv_scope_rules.specs.Made.{is_bound}
use Rattle.cv_scope_rules.specs.Phrases.{is_phrase, binds_none, IsWellFormed}
use Rattle.cv_scene.specs.Scenes.{KnowsQueries, names, first_reading, has_news_alone, has_some_new}
use Rattle.cv_steps.specs.Elementary.{let_step, new_step, rename_step, split_step, unlet_step, unnew_step}
use Rattle.cv_steps.specs.Steps.{Zero}
use Rattle.cv_scene.specs.lines.Given.{with_given}
use Rattle.cv_scope_rules.specs.Behind.{sites_in}
use Rattle.cv_steps.specs.Changes.{without}
use Rattle.cv_steps.specs.Renaming.{renamed}
use Rattle.cv_steps.specs.Unletting.{is_listed, with_term}
use Rattle.cv_scene.specs.Terms.{is_there, is_game}
use Rattle.cv_steps.specs.Judgements.{Refused, Accepted, judgement_of}
use Rattle.cv_steps_laws.specs.Worked.{asked, assigned_copies, assigns, assigns_to, cases, copies, copy_of, draws, draws_more, equal, finds, finds_assigned, finds_copy, more, plain, receives, renames, scene_of, sends, sends_assigned, sends_copy, unlets}
use Rattle.cv_steps_laws.proofs.Keeping.{formed}

case_0 : judgement_of plain (split_step 1 (lone Yes)) ≡ Accepted (receives (if_tree (lone Yes) draws draws)) Zero
unfolding first_fault first_in size depth subtree same_tree replaced first_index first_site bound_sort binders_differ count queries_in context_at sites_from is_bound is_phrase binds_none names first_reading has_news_alone has_some_new without is_there
case_0 = refl

case_1 : judgement_of plain (split_step 2 equal) ≡ Accepted (receives (Node (head.New 4 5) Empty (if_tree equal sends sends))) Zero
unfolding first_fault first_in size depth subtree same_tree replaced first_index first_site bound_sort binders_differ count queries_in context_at sites_from is_bound is_phrase binds_none names first_reading has_news_alone has_some_new without is_there
case_1 = refl

case_2 : judgement_of plain (split_step 0 (lone Yes)) ≡ Refused 1 0
unfolding first_fault first_in size depth subtree same_tree replaced first_index first_site bound_sort binders_differ count queries_in context_at sites_from is_bound is_phrase binds_none names first_reading has_news_alone has_some_new without is_there
case_2 = refl

case_3 : judgement_of plain (split_step 3 (lone Yes)) ≡ Refused 1 0
unfolding first_fault first_in size depth subtree same_tree replaced first_index first_site bound_sort binders_differ count queries_in context_at sites_from is_bound is_phrase binds_none names first_reading has_news_alone has_some_new without is_there
case_3 = refl

case_4 : judgement_of plain (split_step 5 (lone Yes)) ≡ Refused 0 0
unfolding first_fault first_in size depth subtree same_tree replaced first_index first_site bound_sort binders_differ count queries_in context_at sites_from is_bound is_phrase binds_none names first_reading has_news_alone has_some_new without is_there
case_4 = refl

case_5 : judgement_of plain (split_step 1 (leaf 40)) ≡ Refused 0 0
unfolding first_fault first_in size depth subtree same_tree replaced first_index first_site bound_sort binders_differ count queries_in context_at sites_from is_bound is_phrase binds_none names first_reading has_news_alone has_some_new without is_there
case_5 = refl

case_6 : judgement_of plain (split_step 2 (leaf 4)) ≡ Refused 2 0
unfolding first_fault first_in size depth subtree same_tree replaced first_index first_site bound_sort binders_differ count queries_in context_at sites_from is_bound is_phrase binds_none names first_reading has_news_alone has_some_new without is_there
case_6 = refl

case_7 : judgement_of plain (split_step 1 equal) ≡ Refused 9 0
unfolding first_fault first_in size depth subtree same_tree replaced first_index first_site bound_sort binders_differ count queries_in context_at sites_from is_bound is_phrase binds_none names first_reading has_news_alone has_some_new without is_there
case_7 = refl

case_8 : judgement_of plain (let_step 2 11 5 (leaf 4)) ≡ Accepted (receives (Node (head.New 4 5) Empty (Node (head.Let 11 5) (leaf 4) sends))) Zero
unfolding first_fault first_in size depth subtree same_tree replaced first_index first_site bound_sort binders_differ count queries_in context_at sites_from is_bound is_phrase binds_none names first_reading has_news_alone has_some_new without is_there
case_8 = refl

case_9 : judgement_of plain (let_step 2 4 5 (leaf 4)) ≡ Refused 2 0
unfolding first_fault first_in size depth subtree same_tree replaced first_index first_site bound_sort binders_differ count queries_in context_at sites_from is_bound is_phrase binds_none names first_reading has_news_alone has_some_new without is_there
case_9 = refl

case_10 : judgement_of plain (let_step 2 9 5 (leaf 4)) ≡ Refused 2 0
unfolding first_fault first_in size depth subtree same_tree replaced first_index first_site bound_sort binders_differ count queries_in context_at sites_from is_bound is_phrase binds_none names first_reading has_news_alone has_some_new without is_there
case_10 = refl

case_11 : judgement_of plain (let_step 2 11 6 (leaf 4)) ≡ Refused 0 0
unfolding first_fault first_in size depth subtree same_tree replaced first_index first_site bound_sort binders_differ count queries_in context_at sites_from is_bound is_phrase binds_none names first_reading has_news_alone has_some_new without is_there
case_11 = refl

case_12 : judgement_of plain (let_step 2 11 0 (leaf 4)) ≡ Refused 9 0
unfolding first_fault first_in size depth subtree same_tree replaced first_index first_site bound_sort binders_differ count queries_in context_at sites_from is_bound is_phrase binds_none names first_reading has_news_alone has_some_new without is_there
case_12 = refl

case_13 : judgement_of plain (let_step 1 11 5 (leaf 4)) ≡ Refused 9 0
unfolding first_fault first_in size depth subtree same_tree replaced first_index first_site bound_sort binders_differ count queries_in context_at sites_from is_bound is_phrase binds_none names first_reading has_news_alone has_some_new without is_there
case_13 = refl

case_14 : judgement_of plain (new_step 2 11 5) ≡ Accepted (receives draws_more) Zero
unfolding first_fault first_in size depth subtree same_tree replaced first_index first_site bound_sort binders_differ count queries_in context_at sites_from is_bound is_phrase binds_none names first_reading has_news_alone has_some_new without is_there
case_14 = refl

case_15 : judgement_of plain (new_step 4 11 5) ≡ Refused 1 0
unfolding first_fault first_in size depth subtree same_tree replaced first_index first_site bound_sort binders_differ count queries_in context_at sites_from is_bound is_phrase binds_none names first_reading has_news_alone has_some_new without is_there
case_15 = refl

case_16 : judgement_of plain (new_step 2 9 5) ≡ Refused 2 0
unfolding first_fault first_in size depth subtree same_tree replaced first_index first_site bound_sort binders_differ count queries_in context_at sites_from is_bound is_phrase binds_none names first_reading has_news_alone has_some_new without is_there
case_16 = refl

case_17 : judgement_of plain (new_step 2 11 3) ≡ Refused 0 0
unfolding first_fault first_in size depth subtree same_tree replaced first_index first_site bound_sort binders_differ count queries_in context_at sites_from is_bound is_phrase binds_none names first_reading has_news_alone has_some_new without is_there
case_17 = refl

case_18 : judgement_of plain (unnew_step 4) ≡ Refused 2 3
unfolding first_fault first_in size depth subtree same_tree replaced first_index first_site bound_sort binders_differ count queries_in context_at sites_from is_bound is_phrase binds_none names first_reading has_news_alone has_some_new without is_there
case_18 = refl

case_19 : judgement_of plain (unnew_step 9) ≡ Refused 1 0
unfolding first_fault first_in size depth subtree same_tree replaced first_index first_site bound_sort binders_differ count queries_in context_at sites_from is_bound is_phrase binds_none names first_reading has_news_alone has_some_new without is_there
case_19 = refl

case_20 : judgement_of plain (unnew_step 40) ≡ Refused 0 0
unfolding first_fault first_in size depth subtree same_tree replaced first_index first_site bound_sort binders_differ count queries_in context_at sites_from is_bound is_phrase binds_none names first_reading has_news_alone has_some_new without is_there
case_20 = refl

case_21 : judgement_of plain (rename_step 4 11) ≡ Accepted (receives (Node (head.New 11 5) Empty (output 3 [] (leaf 11 ∷ []) (lone Stop)))) Zero
unfolding first_fault first_in size depth subtree same_tree first_index first_site bound_sort binders_differ count queries_in context_at sites_from is_bound is_phrase binds_none names is_there renamed
case_21 = refl

case_22 : judgement_of plain (rename_step 4 9) ≡ Refused 2 0
unfolding first_fault first_in size depth subtree same_tree first_index first_site bound_sort binders_differ count queries_in context_at sites_from is_bound is_phrase binds_none names is_there renamed
case_22 = refl

case_23 : judgement_of plain (rename_step 4 4) ≡ Refused 2 0
unfolding first_fault first_in size depth subtree same_tree first_index first_site bound_sort binders_differ count queries_in context_at sites_from is_bound is_phrase binds_none names is_there renamed
case_23 = refl

case_24 : judgement_of plain (rename_step 9 11) ≡ Refused 1 0
unfolding first_fault first_in size depth subtree same_tree first_index first_site bound_sort binders_differ count queries_in context_at sites_from is_bound is_phrase binds_none names is_there renamed
case_24 = refl

case_25 : judgement_of plain (rename_step 40 11) ≡ Refused 0 0
unfolding first_fault first_in size depth subtree same_tree first_index first_site bound_sort binders_differ count queries_in context_at sites_from is_bound is_phrase binds_none names is_there renamed
case_25 = refl

case_26 : judgement_of plain (unlet_step 4) ≡ Refused 1 0
unfolding first_fault first_in size depth subtree same_tree first_index first_site bound_sort binders_differ count queries_in context_at sites_from sites_in is_bound is_phrase binds_none names without is_there is_listed with_term with_given
case_26 = refl

case_27 : judgement_of plain (unlet_step 9) ≡ Refused 1 0
unfolding first_fault first_in size depth subtree same_tree first_index first_site bound_sort binders_differ count queries_in context_at sites_from sites_in is_bound is_phrase binds_none names without is_there is_listed with_term with_given
case_27 = refl

case_28 : judgement_of plain (unlet_step 40) ≡ Refused 0 0
unfolding first_fault first_in size depth subtree same_tree first_index first_site bound_sort binders_differ count queries_in context_at sites_from sites_in is_bound is_phrase binds_none names without is_there is_listed with_term with_given
case_28 = refl

pub each : AllByRecursion (λ c. judgement_of plain c.0 ≡ c.1) cases
each = (case_0, (case_1, (case_2, (case_3, (case_4, (case_5, (case_6, (case_7, (case_8, (case_9, (case_10, (case_11, (case_12, (case_13, (case_14, (case_15, (case_16, (case_17, (case_18, (case_19, (case_20, (case_21, (case_22, (case_23, (case_24, (case_25, (case_26, (case_27, (case_28, tt)))))))))))))))))))))))))))))

game_passes : is_game plain.declarations plain.game ≡ true
unfolding first_fault first_in size depth subtree same_tree replaced first_index first_site bound_sort binders_differ count queries_in context_at sites_from is_bound is_phrase binds_none names first_reading has_news_alone has_some_new without is_there
game_passes = refl

pub game : IsWellFormed plain.declarations plain.game
game = formed plain.declarations plain.game game_passes

pub not_dropped : judgement_of asked (unnew_step 4) ≡ Refused 2 0
unfolding first_fault first_in size depth subtree same_tree replaced first_index first_site bound_sort binders_differ count queries_in context_at sites_from is_bound is_phrase binds_none names first_reading has_news_alone has_some_new without is_there
not_dropped = refl

pub back : judgement_of more (unnew_step 11) ≡ Accepted plain.game Zero
unfolding first_fault first_in size depth subtree same_tree replaced first_index first_site bound_sort binders_differ count queries_in context_at sites_from is_bound is_phrase binds_none names first_reading has_news_alone has_some_new without is_there
back = refl

pub knows : KnowsQueries asked
unfolding queries_in
knows x e = go (4 == x) refl e
  where
    go : (b : Bool) → (4 == x) ≡ b → (b || false) ≡ true → asked.known x ≡ true
    go true f e = subst (λ y. asked.known y ≡ true) (eqb-true 4 x f) refl
    go false f e = absurd (both_ways false refl e)

unlet_leaf : judgement_of (scene_of [] (receives (assigns sends_assigned))) (unlet_step 11) ≡ Accepted plain.game Zero
unfolding first_fault first_in size depth subtree same_tree first_index first_site bound_sort binders_differ count queries_in context_at sites_from sites_in is_bound is_phrase binds_none names without is_there is_listed with_term with_given
unlet_leaf = refl

unlet_copy : judgement_of (scene_of (Named 2 class.Param Empty None ∷ []) assigned_copies) (unlet_step 11) ≡ Accepted (copies (sends_copy (copy_of 4))) Zero
unfolding first_fault first_in size depth subtree same_tree first_index first_site bound_sort binders_differ count queries_in context_at sites_from sites_in is_bound is_phrase binds_none names without is_there is_listed with_term with_given is_untyped_in
unlet_copy = refl

unlet_asked : judgement_of (scene_of (Query (lone (Secret 11)) ∷ []) (receives (assigns sends_assigned))) (unlet_step 11) ≡ Refused 2 0
unfolding first_fault first_in size depth subtree same_tree first_index first_site bound_sort binders_differ count queries_in context_at sites_from sites_in is_bound is_phrase binds_none names without is_there is_listed with_term with_given
unlet_asked = refl

unlet_listed : judgement_of (scene_of [] (receives (assigns finds_assigned))) (unlet_step 11) ≡ Refused 2 0
unfolding first_fault first_in size depth subtree same_tree first_index first_site bound_sort binders_differ count queries_in context_at sites_from sites_in is_bound is_phrase binds_none names without is_there is_listed with_term with_given
unlet_listed = refl

pub each_unlet : AllByRecursion (λ c. judgement_of c.0 (unlet_step 11) ≡ c.1) unlets
each_unlet = (unlet_leaf, (unlet_copy, (unlet_asked, (unlet_listed, tt))))

leaf_passes : is_game (scene_of [] (receives (assigns sends_assigned))).declarations (scene_of [] (receives (assigns sends_assigned))).game ≡ true
unfolding first_fault first_in size depth subtree same_tree first_index first_site bound_sort binders_differ count queries_in context_at sites_from sites_in is_bound is_phrase binds_none names without is_there is_listed with_term with_given is_untyped_in
leaf_passes = refl

copy_passes : is_game (scene_of (Named 2 class.Param Empty None ∷ []) assigned_copies).declarations (scene_of (Named 2 class.Param Empty None ∷ []) assigned_copies).game ≡ true
unfolding first_fault first_in size depth subtree same_tree first_index first_site bound_sort binders_differ count queries_in context_at sites_from sites_in is_bound is_phrase binds_none names without is_there is_listed with_term with_given is_untyped_in
copy_passes = refl

asked_passes : is_game (scene_of (Query (lone (Secret 11)) ∷ []) (receives (assigns sends_assigned))).declarations (scene_of (Query (lone (Secret 11)) ∷ []) (receives (assigns sends_assigned))).game ≡ true
unfolding first_fault first_in size depth subtree same_tree first_index first_site bound_sort binders_differ count queries_in context_at sites_from sites_in is_bound is_phrase binds_none names without is_there is_listed with_term with_given is_untyped_in
asked_passes = refl

listed_passes : is_game (scene_of [] (receives (assigns finds_assigned))).declarations (scene_of [] (receives (assigns finds_assigned))).game ≡ true
unfolding first_fault first_in size depth subtree same_tree first_index first_site bound_sort binders_differ count queries_in context_at sites_from sites_in is_bound is_phrase binds_none names without is_there is_listed with_term with_given is_untyped_in
listed_passes = refl

pub games : AllByRecursion (λ c. IsWellFormed c.0.declarations c.0.game) unlets
games = (formed _ _ leaf_passes, (formed _ _ copy_passes, (formed _ _ asked_passes, (formed _ _ listed_passes, tt))))

rename_listed : judgement_of (scene_of [] (receives (assigns finds_assigned))) (rename_step 11 12) ≡ Accepted (receives (assigns_to 12 (finds 12))) Zero
unfolding first_fault first_in size depth subtree same_tree first_index first_site bound_sort binders_differ count queries_in context_at sites_from is_bound is_phrase binds_none names is_there renamed is_untyped_in
rename_listed = refl

rename_copy : judgement_of (scene_of (Named 2 class.Param Empty None ∷ []) assigned_copies) (rename_step 11 12) ≡ Accepted (copies (Node (head.Let 12 5) (copy_of 4) (sends_copy (copy_of 12)))) Zero
unfolding first_fault first_in size depth subtree same_tree first_index first_site bound_sort binders_differ count queries_in context_at sites_from is_bound is_phrase binds_none names is_there renamed is_untyped_in
rename_copy = refl

rename_index : judgement_of (scene_of (Named 2 class.Param Empty None ∷ []) (copies (finds_copy 11))) (rename_step 11 12) ≡ Accepted (copies (finds_copy 12)) Zero
unfolding first_fault first_in size depth subtree same_tree first_index first_site bound_sort binders_differ count queries_in context_at sites_from is_bound is_phrase binds_none names is_there renamed is_untyped_in
rename_index = refl

rename_asked : judgement_of (scene_of (Query (lone (Secret 11)) ∷ []) (receives (assigns sends_assigned))) (rename_step 11 12) ≡ Refused 3 0
unfolding first_fault first_in size depth subtree same_tree first_index first_site bound_sort binders_differ count queries_in context_at sites_from is_bound is_phrase binds_none names is_there renamed is_untyped_in
rename_asked = refl

pub each_rename : AllByRecursion (λ c. judgement_of c.0 (rename_step 11 12) ≡ c.1) renames
each_rename = (rename_listed, (rename_copy, (rename_index, (rename_asked, tt))))

index_passes : is_game (scene_of (Named 2 class.Param Empty None ∷ []) (copies (finds_copy 11))).declarations (scene_of (Named 2 class.Param Empty None ∷ []) (copies (finds_copy 11))).game ≡ true
unfolding first_fault first_in size depth subtree same_tree first_index first_site bound_sort binders_differ count queries_in context_at sites_from is_bound is_phrase binds_none names is_there renamed is_untyped_in
index_passes = refl

pub renamed_games : AllByRecursion (λ c. IsWellFormed c.0.declarations c.0.game) renames
renamed_games = (formed _ _ listed_passes, (formed _ _ copy_passes, (formed _ _ index_passes, (formed _ _ asked_passes, tt))))
