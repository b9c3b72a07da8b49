-- The worked derivations are judged as is said.
use Rattle.std.proofs.Common.{◌≡◌, true, false, [], ◌∷◌, Some, None, refl}
use Rattle.std.specs.List.{AllByRecursion}
use Rattle.cv_syntax.specs.faults.Walk.{first_fault}
use Rattle.cv_syntax_trees.specs.declared.head.Head.TheVariants.{ByAgain, ByBool, ByCong, ByContra, ByData, ByEquation, ByFact, ByHere, ByMp, ByOf, ByOtherFact, ByOtherHere, ByRefl, BySame, BySite, BySym, ByTrans}
use Rattle.cv_syntax_trees.specs.Builders.{leaf}
use Rattle.cv_syntax_trees.specs.Tree.{Empty, Node, chain, lone, size, subtree, same_tree}
use Rattle.cv_syntax_trees.specs.sites.Sites.{bound_sort, first_index, first_site}
use Rattle.cv_scope_rules.specs.typing.Signature.{names_in}
use Rattle.cv_syntax_trees.specs.sites.Counting as counting
use Rattle.cv_scope_rules.specs.typing.Typing.{binders_differ}
use Rattle.cv_scope_rules.specs.Context.{context_at}
use Rattle.cv_scope_rules.specs.Made.{is_bound}
use Rattle.cv_scope_rules.specs.Phrases.{is_phrase}
use Rattle.cv_scope_rules.specs.Behind.{sites_in}
use Rattle.cv_scope_rules.specs.Above.{standing_at}
use Rattle.cv_scene.specs.Late.{is_defined_in, is_late}
use Rattle.cv_scene.specs.Terms.{is_there}
use Rattle.cv_scene.specs.Derivations.{first_bad, first_bad_line}
use Rattle.cv_scene.specs.lines.Ends.{ends_with}
use Rattle.cv_scene.specs.lines.Given.{with_given}
use Rattle.cv_scene.specs.lines.Lines.{lines_of, statements}
use Rattle.cv_scene.specs.lines.Lines as lines
use Rattle.cv_scene.specs.lines.Truths.{no, yes}
use Rattle.cv_derive.specs.worked.Worked.{a, a_there, and, au, cases, distinct, ends, eq, g, h, late, late_cases, late_pair, late_sight, line, no_ends, not_p, number, one, p, pair_cases, pair_sight, refutes, sight, split, two, two_cells, two_lines, u, x, x_there, xu}
use Rattle.cv_derive.specs.worked.Worked as worked

case_0 : first_bad_line sight (chain (line (eq x a) (one ByFact 1) ∷ [])) ≡ None
unfolding first_fault size subtree same_tree first_index first_site bound_sort binders_differ counting.count context_at is_bound is_phrase is_there standing_at names_in sites_in with_given lines_of lines.count statements first_bad
case_0 = refl

case_1 : first_bad_line sight (chain (line (eq x a) (one ByFact 2) ∷ [])) ≡ Some 1
unfolding first_fault size subtree same_tree first_index first_site bound_sort binders_differ counting.count context_at is_bound is_phrase is_there standing_at names_in sites_in with_given lines_of lines.count statements first_bad
case_1 = refl

case_2 : first_bad_line sight (chain (line (eq xu a) (one ByFact 2) ∷ [])) ≡ None
unfolding first_fault size subtree same_tree first_index first_site bound_sort binders_differ counting.count context_at is_bound is_phrase is_there standing_at names_in sites_in with_given lines_of lines.count statements first_bad
case_2 = refl

case_3 : first_bad_line sight (chain (worked.is_there u (lone ByHere) ∷ worked.is_there xu (lone ByHere) ∷ [])) ≡ None
unfolding first_fault size subtree same_tree first_index first_site bound_sort binders_differ counting.count context_at is_bound is_phrase is_there standing_at names_in sites_in with_given lines_of lines.count statements first_bad
case_3 = refl

case_4 : first_bad_line sight (chain (worked.is_there au (lone ByHere) ∷ [])) ≡ Some 1
unfolding first_fault size subtree same_tree first_index first_site bound_sort binders_differ counting.count context_at is_bound is_phrase is_there standing_at names_in sites_in with_given lines_of lines.count statements first_bad
case_4 = refl

case_5 : first_bad_line sight (chain (worked.is_there xu (lone ByHere) ∷ worked.is_there au (one ByOf 1) ∷ line (eq xu au) (two BySite 1 1) ∷ [])) ≡ None
unfolding first_fault size subtree same_tree first_index first_site bound_sort binders_differ counting.count context_at is_bound is_phrase is_there standing_at names_in sites_in with_given lines_of lines.count statements first_bad
case_5 = refl

case_6 : first_bad_line sight (chain (worked.is_there xu (lone ByHere) ∷ worked.is_there u (one ByOf 1) ∷ [])) ≡ Some 2
unfolding first_fault size subtree same_tree first_index first_site bound_sort binders_differ counting.count context_at is_bound is_phrase is_there standing_at names_in sites_in with_given lines_of lines.count statements first_bad
case_6 = refl

case_7 : first_bad_line sight (chain (worked.is_there xu (lone ByHere) ∷ line (eq xu a) (two BySite 1 1) ∷ [])) ≡ Some 2
unfolding first_fault size subtree same_tree first_index first_site bound_sort binders_differ counting.count context_at is_bound is_phrase is_there standing_at names_in sites_in with_given lines_of lines.count statements first_bad
case_7 = refl

case_8 : first_bad_line sight (chain (line (eq (g a) a) (Node ByEquation (number 1) (chain (a ∷ []))) ∷ [])) ≡ None
unfolding first_fault size subtree same_tree first_index first_site bound_sort binders_differ counting.count context_at is_bound is_phrase is_there standing_at names_in sites_in with_given lines_of lines.count statements first_bad
case_8 = refl

case_9 : first_bad_line sight (chain (line (eq (g a) x) (Node ByEquation (number 1) (chain (a ∷ []))) ∷ [])) ≡ Some 1
unfolding first_fault size subtree same_tree first_index first_site bound_sort binders_differ counting.count context_at is_bound is_phrase is_there standing_at names_in sites_in with_given lines_of lines.count statements first_bad
case_9 = refl

case_10 : first_bad_line sight (chain (line (eq (g a) a) (Node ByEquation (number 1) Empty) ∷ [])) ≡ Some 1
unfolding first_fault size subtree same_tree first_index first_site bound_sort binders_differ counting.count context_at is_bound is_phrase is_there standing_at names_in sites_in with_given lines_of lines.count statements first_bad
case_10 = refl

case_11 : first_bad_line sight (chain (line (eq x a) (one ByFact 1) ∷ line (eq a x) (one BySym 1) ∷ line (eq x x) (two ByTrans 1 2) ∷ line (eq x x) (lone ByRefl) ∷ [])) ≡ None
unfolding first_fault size subtree same_tree first_index first_site bound_sort binders_differ counting.count context_at is_bound is_phrase is_there standing_at names_in sites_in with_given lines_of lines.count statements first_bad
case_11 = refl

case_12 : first_bad_line sight (chain (line (eq x a) (one ByFact 1) ∷ line (eq x a) (one BySym 1) ∷ [])) ≡ Some 2
unfolding first_fault size subtree same_tree first_index first_site bound_sort binders_differ counting.count context_at is_bound is_phrase is_there standing_at names_in sites_in with_given lines_of lines.count statements first_bad
case_12 = refl

case_13 : first_bad_line sight (chain (line (eq x a) (one ByFact 1) ∷ line (eq x a) (two ByTrans 1 1) ∷ [])) ≡ Some 2
unfolding first_fault size subtree same_tree first_index first_site bound_sort binders_differ counting.count context_at is_bound is_phrase is_there standing_at names_in sites_in with_given lines_of lines.count statements first_bad
case_13 = refl

case_14 : first_bad_line sight (chain (line (eq x a) (lone ByRefl) ∷ [])) ≡ Some 1
unfolding first_fault size subtree same_tree first_index first_site bound_sort binders_differ counting.count context_at is_bound is_phrase is_there standing_at names_in sites_in with_given lines_of lines.count statements first_bad
case_14 = refl

case_15 : first_bad_line sight (chain (line (eq x a) (one ByFact 1) ∷ line (eq (g x) (g a)) (Node ByCong (chain (number 1 ∷ [])) Empty) ∷ [])) ≡ None
unfolding first_fault size subtree same_tree first_index first_site bound_sort binders_differ counting.count context_at is_bound is_phrase is_there standing_at names_in sites_in with_given lines_of lines.count statements first_bad
case_15 = refl

case_16 : first_bad_line sight (chain (line (eq x a) (one ByFact 1) ∷ line (eq (g x) (h a)) (Node ByCong (chain (number 1 ∷ [])) Empty) ∷ [])) ≡ Some 2
unfolding first_fault size subtree same_tree first_index first_site bound_sort binders_differ counting.count context_at is_bound is_phrase is_there standing_at names_in sites_in with_given lines_of lines.count statements first_bad
case_16 = refl

case_17 : first_bad_line sight (chain (line (eq (leaf 8) (leaf 8)) (Node ByCong Empty Empty) ∷ [])) ≡ Some 1
unfolding first_fault size subtree same_tree first_index first_site bound_sort binders_differ counting.count context_at is_bound is_phrase is_there standing_at names_in sites_in with_given lines_of lines.count statements first_bad
case_17 = refl

case_18 : first_bad_line sight (chain (line (eq (eq (g a) (g x)) (eq a x)) (lone ByData) ∷ [])) ≡ None
unfolding first_fault size subtree same_tree first_index first_site bound_sort binders_differ counting.count context_at is_bound is_phrase is_there standing_at names_in sites_in with_given lines_of lines.count statements first_bad
case_18 = refl

case_19 : first_bad_line sight (chain (line (eq (eq (h a) (h x)) (eq a x)) (lone ByData) ∷ [])) ≡ Some 1
unfolding first_fault size subtree same_tree first_index first_site bound_sort binders_differ counting.count context_at is_bound is_phrase is_there standing_at names_in sites_in with_given lines_of lines.count statements first_bad
case_19 = refl

case_20 : first_bad_line sight (chain (line (eq (p a) (eq (p a) yes)) (lone ByBool) ∷ line (eq (and (p a) no) no) (lone ByBool) ∷ [])) ≡ None
unfolding first_fault size subtree same_tree first_index first_site bound_sort binders_differ counting.count context_at is_bound is_phrase is_there standing_at names_in sites_in with_given lines_of lines.count statements first_bad
case_20 = refl

case_21 : first_bad_line sight (chain (line (eq (and (p a) no) (p a)) (lone ByBool) ∷ [])) ≡ Some 1
unfolding first_fault size subtree same_tree first_index first_site bound_sort binders_differ counting.count context_at is_bound is_phrase is_there standing_at names_in sites_in with_given lines_of lines.count statements first_bad
case_21 = refl

case_22 : first_bad_line sight (chain (split (two ByMp 1 2) (not_p) (eq x a) (one ByAgain 10))) ≡ None
unfolding first_fault size subtree same_tree first_index first_site bound_sort binders_differ counting.count context_at is_bound is_phrase is_there standing_at names_in sites_in with_given lines_of lines.count statements first_bad
case_22 = refl

case_23 : first_bad_line sight (chain (split (two ByMp 2 1) (not_p) (eq x a) (one ByAgain 10))) ≡ Some 3
unfolding first_fault size subtree same_tree first_index first_site bound_sort binders_differ counting.count context_at is_bound is_phrase is_there standing_at names_in sites_in with_given lines_of lines.count statements first_bad
case_23 = refl

case_24 : first_bad_line sight (chain (split (two ByMp 1 2) (p a) (eq x a) (one ByAgain 10))) ≡ Some 8
unfolding first_fault size subtree same_tree first_index first_site bound_sort binders_differ counting.count context_at is_bound is_phrase is_there standing_at names_in sites_in with_given lines_of lines.count statements first_bad
case_24 = refl

case_25 : first_bad_line sight (chain (split (two ByMp 1 2) (not_p) (eq a x) (one ByAgain 10))) ≡ Some 10
unfolding first_fault size subtree same_tree first_index first_site bound_sort binders_differ counting.count context_at is_bound is_phrase is_there standing_at names_in sites_in with_given lines_of lines.count statements first_bad
case_25 = refl

case_26 : first_bad_line sight (chain (split (two ByMp 1 2) (not_p) (eq x a) (one ByAgain 7))) ≡ Some 11
unfolding first_fault size subtree same_tree first_index first_site bound_sort binders_differ counting.count context_at is_bound is_phrase is_there standing_at names_in sites_in with_given lines_of lines.count statements first_bad
case_26 = refl

case_27 : first_bad_line sight (chain (refutes (two ByContra 1 3) 4)) ≡ None
unfolding first_fault size subtree same_tree first_index first_site bound_sort binders_differ counting.count context_at is_bound is_phrase is_there standing_at names_in sites_in with_given lines_of lines.count statements first_bad
case_27 = refl

case_28 : first_bad_line sight (chain (refutes (two ByContra 3 1) 4)) ≡ Some 4
unfolding first_fault size subtree same_tree first_index first_site bound_sort binders_differ counting.count context_at is_bound is_phrase is_there standing_at names_in sites_in with_given lines_of lines.count statements first_bad
case_28 = refl

case_29 : first_bad_line sight (chain (refutes (two ByContra 1 3) 3)) ≡ Some 5
unfolding first_fault size subtree same_tree first_index first_site bound_sort binders_differ counting.count context_at is_bound is_phrase is_there standing_at names_in sites_in with_given lines_of lines.count statements first_bad
case_29 = refl

case_30 : first_bad_line sight (chain (line (eq (leaf 99) (leaf 99)) (lone ByRefl) ∷ [])) ≡ Some 1
unfolding first_fault size subtree same_tree first_index first_site bound_sort binders_differ counting.count context_at is_bound is_phrase is_there standing_at names_in sites_in with_given lines_of lines.count statements first_bad
case_30 = refl

case_31 : first_bad_line sight (chain (line (eq a (leaf 8)) (one ByFact 1) ∷ [])) ≡ Some 1
unfolding first_fault size subtree same_tree first_index first_site bound_sort binders_differ counting.count context_at is_bound is_phrase is_there standing_at names_in sites_in with_given lines_of lines.count statements first_bad
case_31 = refl

case_32 : first_bad_line sight (chain (line (eq x a) (lone ByOtherHere) ∷ [])) ≡ Some 1
unfolding first_fault size subtree same_tree first_index first_site bound_sort binders_differ counting.count context_at is_bound is_phrase is_there standing_at names_in sites_in with_given lines_of lines.count statements first_bad
case_32 = refl

case_33 : first_bad_line sight (chain (line (eq x a) (one ByAgain 1) ∷ [])) ≡ Some 1
unfolding first_fault size subtree same_tree first_index first_site bound_sort binders_differ counting.count context_at is_bound is_phrase is_there standing_at names_in sites_in with_given lines_of lines.count statements first_bad
case_33 = refl

pub each : AllByRecursion (λ c. first_bad_line sight (chain c.0) ≡ c.1) cases
each = (case_0, (case_1, (case_2, (case_3, (case_4, (case_5, (case_6, (case_7, (case_8, (case_9, (case_10, (case_11, (case_12, (case_13, (case_14, (case_15, (case_16, (case_17, (case_18, (case_19, (case_20, (case_21, (case_22, (case_23, (case_24, (case_25, (case_26, (case_27, (case_28, (case_29, (case_30, (case_31, (case_32, (case_33, tt))))))))))))))))))))))))))))))))))

late_0 : first_bad_line (late_sight 7) (chain (worked.is_there x (lone ByHere) ∷ line no (late 1 []) ∷ [])) ≡ None
unfolding first_fault size subtree same_tree first_index first_site bound_sort binders_differ counting.count context_at is_bound is_phrase is_there standing_at names_in sites_in with_given lines_of lines.count statements first_bad is_defined_in is_late
late_0 = refl

late_1 : first_bad_line (late_sight 6) (chain (worked.is_there x (lone ByHere) ∷ line no (late 1 []) ∷ [])) ≡ None
unfolding first_fault size subtree same_tree first_index first_site bound_sort binders_differ counting.count context_at is_bound is_phrase is_there standing_at names_in sites_in with_given lines_of lines.count statements first_bad is_defined_in is_late
late_1 = refl

late_2 : first_bad_line (late_sight 9) (chain (worked.is_there x (lone ByHere) ∷ line no (late 1 []) ∷ [])) ≡ Some 2
unfolding first_fault size subtree same_tree first_index first_site bound_sort binders_differ counting.count context_at is_bound is_phrase is_there standing_at names_in sites_in with_given lines_of lines.count statements first_bad is_defined_in is_late
late_2 = refl

late_3 : first_bad_line (late_sight 7) (chain (worked.is_there x (lone ByHere) ∷ line no (late 1 (1 ∷ [])) ∷ [])) ≡ Some 2
unfolding first_fault size subtree same_tree first_index first_site bound_sort binders_differ counting.count context_at is_bound is_phrase is_there standing_at names_in sites_in with_given lines_of lines.count statements first_bad is_defined_in is_late
late_3 = refl

late_4 : first_bad_line (late_sight 7) (chain (worked.is_there x (lone ByHere) ∷ line yes (late 1 []) ∷ [])) ≡ Some 2
unfolding first_fault size subtree same_tree first_index first_site bound_sort binders_differ counting.count context_at is_bound is_phrase is_there standing_at names_in sites_in with_given lines_of lines.count statements first_bad is_defined_in is_late
late_4 = refl

pub each_late : AllByRecursion (λ c. first_bad_line (late_sight c.0) (chain c.1) ≡ c.2) late_cases
each_late = (late_0, (late_1, (late_2, (late_3, (late_4, tt)))))

pair_0 : first_bad_line pair_sight (chain (line (eq x a) (one ByFact 1) ∷ line (eq x_there a_there) (one ByOtherFact 1) ∷ [])) ≡ None
unfolding first_fault size subtree same_tree first_index first_site bound_sort binders_differ counting.count context_at is_bound is_phrase is_there standing_at names_in sites_in with_given lines_of lines.count statements first_bad
pair_0 = refl

pair_1 : first_bad_line pair_sight (chain (line (eq x_there a_there) (one ByFact 1) ∷ [])) ≡ Some 1
unfolding first_fault size subtree same_tree first_index first_site bound_sort binders_differ counting.count context_at is_bound is_phrase is_there standing_at names_in sites_in with_given lines_of lines.count statements first_bad
pair_1 = refl

pair_2 : first_bad_line pair_sight (chain (line (eq x a) (one ByOtherFact 1) ∷ [])) ≡ Some 1
unfolding first_fault size subtree same_tree first_index first_site bound_sort binders_differ counting.count context_at is_bound is_phrase is_there standing_at names_in sites_in with_given lines_of lines.count statements first_bad
pair_2 = refl

pair_3 : first_bad_line pair_sight (chain (worked.is_there x (lone ByHere) ∷ worked.is_there x_there (lone ByOtherHere) ∷ [])) ≡ None
unfolding first_fault size subtree same_tree first_index first_site bound_sort binders_differ counting.count context_at is_bound is_phrase is_there standing_at names_in sites_in with_given lines_of lines.count statements first_bad
pair_3 = refl

pair_4 : first_bad_line pair_sight (chain (worked.is_there x (lone ByOtherHere) ∷ [])) ≡ Some 1
unfolding first_fault size subtree same_tree first_index first_site bound_sort binders_differ counting.count context_at is_bound is_phrase is_there standing_at names_in sites_in with_given lines_of lines.count statements first_bad
pair_4 = refl

pair_5 : first_bad_line pair_sight (chain (line (eq a a_there) (one BySame 1) ∷ [])) ≡ None
unfolding first_fault size subtree same_tree first_index first_site bound_sort binders_differ counting.count context_at is_bound is_phrase is_there standing_at names_in sites_in with_given lines_of lines.count statements first_bad
pair_5 = refl

pair_6 : first_bad_line pair_sight (chain (line (eq a_there a) (one BySame 1) ∷ [])) ≡ Some 1
unfolding first_fault size subtree same_tree first_index first_site bound_sort binders_differ counting.count context_at is_bound is_phrase is_there standing_at names_in sites_in with_given lines_of lines.count statements first_bad
pair_6 = refl

pair_7 : first_bad_line pair_sight (chain (line (eq a a_there) (one BySame 2) ∷ [])) ≡ Some 1
unfolding first_fault size subtree same_tree first_index first_site bound_sort binders_differ counting.count context_at is_bound is_phrase is_there standing_at names_in sites_in with_given lines_of lines.count statements first_bad
pair_7 = refl

pair_8 : first_bad_line pair_sight (chain (two_cells a a_there (leaf 8) (leaf 108) (distinct 1 2 3 1))) ≡ None
unfolding first_fault size subtree same_tree first_index first_site bound_sort binders_differ counting.count context_at is_bound is_phrase is_there standing_at names_in sites_in with_given lines_of lines.count statements first_bad
pair_8 = refl

pair_9 : first_bad_line pair_sight (chain (two_cells a a_there (leaf 8) (leaf 108) (distinct 1 2 3 2))) ≡ Some 4
unfolding first_fault size subtree same_tree first_index first_site bound_sort binders_differ counting.count context_at is_bound is_phrase is_there standing_at names_in sites_in with_given lines_of lines.count statements first_bad
pair_9 = refl

pair_10 : first_bad_line pair_sight (chain (two_cells a a_there (leaf 8) (leaf 108) (distinct 1 3 2 1))) ≡ Some 4
unfolding first_fault size subtree same_tree first_index first_site bound_sort binders_differ counting.count context_at is_bound is_phrase is_there standing_at names_in sites_in with_given lines_of lines.count statements first_bad
pair_10 = refl

pair_11 : first_bad_line pair_sight (chain (two_cells x x_there (leaf 8) (leaf 108) (distinct 1 2 3 1))) ≡ Some 4
unfolding first_fault size subtree same_tree first_index first_site bound_sort binders_differ counting.count context_at is_bound is_phrase is_there standing_at names_in sites_in with_given lines_of lines.count statements first_bad
pair_11 = refl

pub each_pair : AllByRecursion (λ c. first_bad_line pair_sight (chain c.0) ≡ c.1) pair_cases
each_pair = (pair_0, (pair_1, (pair_2, (pair_3, (pair_4, (pair_5, (pair_6, (pair_7, (pair_8, (pair_9, (pair_10, (pair_11, tt))))))))))))

pub none_late : first_bad_line late_pair (chain (worked.is_there x (lone ByHere) ∷ line no (late 1 []) ∷ [])) ≡ Some 2
unfolding first_fault size subtree same_tree first_index first_site bound_sort binders_differ counting.count context_at is_bound is_phrase is_there standing_at names_in sites_in with_given lines_of lines.count statements first_bad is_defined_in is_late
none_late = refl

pub end_with : AllByRecursion (λ t. ends_with two_lines (chain t) ≡ true) ends
unfolding same_tree lines_of statements
end_with = (refl, (refl, (refl, tt)))

pub end_without : AllByRecursion (λ t. ends_with two_lines (chain t) ≡ false) no_ends
unfolding same_tree lines_of statements
end_without = (refl, (refl, (refl, tt)))
