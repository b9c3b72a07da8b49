-- The small protocol with tags meets the premises.
use Rattle.std.proofs.Common.{◌≡◌, ℕ, zero, suc, ◌+◌, ◌<◌, false, true, [], length, None, refl, arith}
use Rattle.cv_syntax.specs.faults.Walk.{first_fault}
use Rattle.cv_syntax_trees.specs.Tree.{same_tree, size}
use Rattle.cv_scene.specs.lines.Given.{with_given}
use Rattle.cv_syntax_trees.specs.sites.Sites.{bound_sort, first_index, first_site}
use Rattle.cv_meaning.specs.Interpretation.{is_constant_of}
use Rattle.cv_scope_rules.specs.typing.Parts.{IsTypedGame, game_part, signature_of}
use Rattle.cv_scope_rules.specs.typing.Signature.{names_in}
use Rattle.cv_syntax_trees.specs.sites.Counting.{count}
use Rattle.cv_scope_rules.specs.typing.Typing.{binders_differ}
use Rattle.cv_scope_rules.proofs.typing.First.{typed_where_none}
use Rattle.cv_meaning.specs.Queries.{queries_in}
use Rattle.cv_scope_rules.specs.Made.{is_bound}
use Rattle.cv_scope_rules.specs.Phrases.{IsWellFormed, binds_none, is_phrase}
use Rattle.cv_scope_rules.specs.Scope.{is_untyped_in, names_of}
use Rattle.cv_scope_rules.specs.Sites.{sites_from}
use Rattle.cv_scope_rules.specs.Standing.{at_root}
use Rattle.cv_scope_rules.proofs.First.{scoped_where_none}
use Rattle.cv_scene.specs.Scenes.{first_reading, is_queried, names}
use Rattle.cv_typing_runs.specs.Games.{HasKnownNames, are_known}
use Rattle.cv_group_rules.specs.Symbols.{symbols_of}
use Rattle.cv_group_rules.specs.Faults.{BoundNames, IsAccepted, LeftIsTerm, OneIndex, ReadNames, SameShape, keeps}
use Rattle.cv_group_rules.specs.Rules as rules
use Rattle.cv_group_rules.specs.Rules.{all_agree, are_cells, defines, each_function, has_name, has_read, have_one_index, is_asked, range_of, reads}
use Rattle.cv_scene.specs.Contexts.{AreAnswers}
use Rattle.cv_scene.specs.Instances.{standing_for}
use Rattle.cv_scene.specs.Sites.{sites_in}
use Rattle.cv_scene.specs.Refusals.{definitions_in, first_in_arguments, first_in_condition, first_refusal, first_use, uses}
use Rattle.cv_scene.specs.Reductions.{matching, sites}
use Rattle.cv_match_laws.specs.Worked.{authentication, game}
use Rattle.cv_match_laws.specs.functions.Forms.{HasLeftForm}
use Rattle.cv_context_left_side.specs.refusals.Reducible.{IsReducible}
use Rattle.cv_context_left_side.specs.refusals.Worked.{authenticating, declarations}

formed : IsWellFormed declarations (game [])
unfolding first_fault sites_from same_tree size first_site bound_sort count is_untyped_in is_phrase binds_none
formed = record { scoped = scoped_where_none (names_of declarations (game [])) at_root (game []) refl; phrase = refl; constants = refl }

typed : IsTypedGame declarations (game [])
unfolding first_fault size count names_in bound_sort first_index first_site binders_differ
typed = let p = game_part (game []) in typed_where_none (signature_of declarations p) p.above p.want 0 p.tree refl

known : HasKnownNames declarations (game [])
unfolding are_known first_site bound_sort names_in
known = refl

form : HasLeftForm authentication
unfolding each_function is_phrase
form = record { key = refl; bodies = refl }

accepted : IsAccepted (symbols_of declarations) authentication
unfolding each_function have_one_index all_agree rules.is_bound is_asked range_of are_cells has_read has_name defines rules.names_of reads same_tree
accepted = record { kept = λ r. elim r as (λ q. keeps (symbols_of declarations) q authentication ≡ true) [ LeftIsTerm ↦ refl | OneIndex ↦ refl | SameShape ↦ refl | BoundNames ↦ refl | ReadNames ↦ refl ] }

allowed : first_refusal (matching authenticating) ≡ None
unfolding size same_tree with_given bound_sort first_site names_in standing_for sites_in first_reading definitions_in first_in_arguments first_in_condition first_use uses is_bound queries_in
allowed = refl

two_sites : length (sites authenticating) ≡ 2
unfolding size same_tree with_given bound_sort first_site names_in standing_for sites_in
two_sites = refl

below_two : (P : ℕ → Type 0) → P 0 → P 1 → (k : ℕ) → k < length (sites authenticating) → P k
below_two P a b k l = go k (let e = two_sites in omega arith)
  where
    go : (k : ℕ) → k < 2 → P k
    go zero l = a
    go (suc zero) l = b
    go (suc (suc k)) l = absurd (omega arith)

answers : AreAnswers authenticating.scene (length (sites authenticating)) authenticating.answer
unfolding names queries_in
answers = record {
  apart = λ j k l m e. let f : 80 + j ≡ 80 + k = e in omega arith;
  unknown = below_two (λ k. authenticating.scene.known (authenticating.answer k) ≡ false) refl refl;
  unnamed = below_two (λ k. names (authenticating.answer k) (game []) ≡ false) refl refl;
  unasked = below_two (λ k. is_queried authenticating.scene (authenticating.answer k) ≡ false) refl refl;
  no_constant = below_two (λ k. is_constant_of declarations (authenticating.answer k) ≡ false) refl refl;
}

pub reducible : IsReducible authenticating
reducible = record { formed = formed; typed = typed; names = known; form = form; accepted = accepted; allowed = allowed; answers = answers }
