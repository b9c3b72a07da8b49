-- The small protocol with tags and queries meets what is asked of a step of a file.
use Rattle.std.proofs.Common.{◌≡◌, ℕ, ◌==◌, Bool, true, false, ◌&&◌, ◌||◌, [], ◌∷◌, length, None, refl, subst, eqb-true, arith}
use Rattle.std.proofs.lemmas.Bool.{and_parts, both_ways}
use Rattle.std.proofs.lemmas.List.Elements.{Contains-append_left, Contains-push}
use Rattle.cv_syntax.specs.faults.Walk.{first_fault}
use Rattle.cv_syntax_trees.specs.declared.head.Head.TheVariants.{New, Secret}
use Rattle.cv_syntax_trees.specs.Tree.{Tree, Empty, Node, lone, same_tree, size}
use Rattle.cv_scene.specs.lines.Given.{with_given}
use Rattle.cv_syntax_trees.specs.sites.Sites.{bound_sort, first_index, first_site}
use Rattle.cv_meaning.specs.Advantage.{IsAsked}
use Rattle.cv_meaning.specs.Experiments.{Breaks}
use Rattle.cv_scope_rules.specs.typing.Parts.{IsTypedGame, game_part, signature_of}
use Rattle.cv_scope_rules.specs.typing.Signature.{names_in}
use Rattle.cv_syntax_trees.specs.sites.Counting.{count}
use Rattle.cv_scope_rules.specs.typing.Typing.{binders_differ}
use Rattle.cv_scope_rules.proofs.typing.First.{typed_where_none}
use Rattle.cv_meaning.specs.Queries.{queries_in}
use Rattle.cv_scope_rules.specs.Made.{is_bound}
use Rattle.cv_scope_rules.specs.Phrases.{IsWellFormed, binds_none, is_phrase}
use Rattle.cv_scope_rules.specs.Scope.{is_untyped_in, names_of}
use Rattle.cv_scope_rules.specs.Sites.{sites_from}
use Rattle.cv_scope_rules.specs.Standing.{at_root}
use Rattle.cv_scope_rules.proofs.First.{scoped_where_none}
use Rattle.cv_typing_runs.specs.Games.{HasArguments, HasKnownNames, are_known}
use Rattle.cv_group_rules.specs.Symbols.{symbols_of}
use Rattle.cv_group_rules.specs.Faults.{BoundNames, IsAccepted, LeftIsTerm, OneIndex, ReadNames, SameShape, keeps}
use Rattle.cv_group_rules.specs.Rules as rules
use Rattle.cv_group_rules.specs.Rules.{all_agree, are_cells, defines, each_function, has_name, has_read, have_one_index, is_asked, range_of, reads}
use Rattle.cv_scene.specs.Contexts.{AreAnswers}
use Rattle.cv_scene.specs.Instances.{standing_for}
use Rattle.cv_scene.specs.Scenes.{KnowsQueries, first_reading, is_queried}
use Rattle.cv_scene.specs.Sites.{sites_in}
use Rattle.cv_scene.specs.Refusals.{definitions_in, first_in_arguments, first_in_condition, first_refusal, first_use, uses}
use Rattle.cv_scene.specs.Reductions.{matching, sites}
use Rattle.cv_scene.specs.Terms.{has_index}
use Rattle.cv_match_laws.specs.Worked.{authentication, game}
use Rattle.cv_match_laws.specs.answers.Answers.{KnowsConstants, above_names}
use Rattle.cv_match_laws.proofs.answers.Many.{are_answers}
use Rattle.cv_match_laws.specs.functions.Forms.{HasLeftForm}
use Rattle.cv_inline_names_laws.specs.accepted.RightBodies.{are_body_cells, are_body_terms, are_right_branches, are_right_functions, is_body_term, is_right_body}
use Rattle.cv_inline_names_laws.specs.cells.Layout.{IsTypedBy, are_right_texts, is_right_text, is_term}
use Rattle.cv_inline_names_laws.specs.covered.Covered.{names_stand_bare}
use Rattle.cv_context_right_side.specs.Right.{IsRightOfFile, IsStepOfFile}
use Rattle.cv_context_right_side.specs.worked.Worked.{accepted_query, accepting, declarations}

-- the game, the equivalence and the conditions

formed : IsWellFormed declarations (game [])
unfolding first_fault sites_from same_tree size first_site bound_sort count is_untyped_in is_phrase binds_none
formed = record { scoped = scoped_where_none (names_of declarations (game [])) at_root (game []) refl; phrase = refl; constants = refl }

typed : IsTypedGame declarations (game [])
unfolding first_fault size count names_in bound_sort first_index first_site binders_differ
typed = let p = game_part (game []) in typed_where_none (signature_of declarations p) p.above p.want 0 p.tree refl

known : HasKnownNames declarations (game [])
unfolding are_known first_site bound_sort names_in
known = refl

form : HasLeftForm authentication
unfolding each_function is_phrase
form = record { key = refl; bodies = refl }

accepted : IsAccepted (symbols_of declarations) authentication
unfolding each_function have_one_index all_agree rules.is_bound is_asked range_of are_cells has_read has_name defines rules.names_of reads same_tree
accepted = record { kept = λ r. elim r as (λ q. keeps (symbols_of declarations) q authentication ≡ true) [ LeftIsTerm ↦ refl | OneIndex ↦ refl | SameShape ↦ refl | BoundNames ↦ refl | ReadNames ↦ refl ] }

allowed : first_refusal (matching accepting) ≡ None
unfolding size same_tree with_given bound_sort first_site names_in standing_for sites_in first_reading definitions_in first_in_arguments first_in_condition first_use uses is_bound queries_in
allowed = refl

-- the names of the file: one query asks for secrecy, that of 41

queried : (x : ℕ) → is_queried accepting.scene x ≡ true → 41 ≡ x
unfolding queries_in
queried x e = go (41 == x) refl e
  where
    go : (b : Bool) → (41 == x) ≡ b → (b || false) ≡ true → 41 ≡ x
    go true i e = eqb-true 41 x i
    go false i e = absurd (both_ways false refl e)

queries : KnowsQueries accepting.scene
queries x e = subst (λ y. accepting.scene.known y ≡ true) (queried x e) refl

constants : KnowsConstants accepting.scene
constants x e = absurd (both_ways false refl e)

no_index : has_index (game []) 41 ≡ false
unfolding first_index
no_index = refl

unasked : (x : ℕ) → is_queried accepting.scene x ≡ true → has_index (game []) x ≡ false
unasked x e = subst (λ y. has_index (game []) y ≡ false) (queried x e) no_index

answers : (sites : ℕ) → AreAnswers accepting.scene sites accepting.answer
unfolding above_names
answers sites = are_answers declarations 80 90 (game []) sites (omega arith) queries constants

arguments : HasArguments declarations
unfolding HasArguments names_in
arguments = (refl, (refl, (refl, (refl, (refl, (refl, (refl, (refl, (refl, (refl, (refl, (refl, tt))))))))))))

-- the right side

chooses_none : Tree → Bool
chooses_none Empty = true
chooses_none (Node (New z U) a b) = false
chooses_none (Node h a b) = chooses_none a && chooses_none b

typed_by : (type : ℕ → ℕ) (t : Tree) → chooses_none t ≡ true → IsTypedBy type t
unfolding chooses_none IsTypedBy
typed_by type Empty e = tt
typed_by type (Node (New z U) a b) e = absurd (both_ways false refl e)
typed_by type (Node h a b) e = let p = and_parts (chooses_none a) (chooses_none b) e in (typed_by type a p.0, typed_by type b p.1)

right : IsRightOfFile declarations authentication
unfolding is_body_term are_body_terms are_body_cells is_right_body are_right_branches are_right_functions is_term is_right_text are_right_texts names_stand_bare binds_none chooses_none
right = record {
  side = refl;
  functions = (record { coins = refl; body = refl; typed = typed_by _ _ refl }, (record { coins = refl; body = refl; typed = typed_by _ _ refl }, tt));
  bare = refl;
  free = refl;
}

pub step : IsStepOfFile accepting
step = record {
  reducible = record { formed = formed; typed = typed; names = known; form = form; accepted = accepted; allowed = allowed; answers = answers (length (sites accepting)) };
  arguments = arguments;
  right = right;
  constants = constants;
  queries = queries;
  unasked = unasked;
  answers = answers;
}

pub asked : IsAsked (queries_in declarations) (Breaks accepted_query)
unfolding queries_in
asked = Contains-append_left (accepted_query ∷ []) (lone (Secret 41) ∷ []) accepted_query (Contains-push [] accepted_query)
