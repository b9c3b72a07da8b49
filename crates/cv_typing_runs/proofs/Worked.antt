-- The worked games meet the premises, or do not.
use Rattle.std.proofs.Common.{true, false, [], inl, inr, None, refl}
use Rattle.std.proofs.lemmas.Bool.{both_ways}
use Rattle.cv_syntax.specs.faults.Walk.{first_fault}
use Rattle.cv_syntax_trees.specs.Tree.{Empty, size, same_tree}
use Rattle.cv_syntax_trees.specs.sites.Sites.{bound_sort, first_index, first_site}
use Rattle.cv_scope_rules.specs.typing.Parts.{IsTypedGame, game_part, signature_of}
use Rattle.cv_scope_rules.specs.typing.Signature.{names_in}
use Rattle.cv_syntax_trees.specs.sites.Counting.{count}
use Rattle.cv_scope_rules.specs.typing.Typing.{binders_differ}
use Rattle.cv_scope_rules.proofs.typing.First.{typed_where_none}
use Rattle.cv_scope_rules.specs.Sites.{sites_from}
use Rattle.cv_scope_rules.specs.Standing.{at_root}
use Rattle.cv_scope_rules.specs.Scope.{is_untyped_in, names_of}
use Rattle.cv_scope_rules.proofs.First.{scoped_where_none}
use Rattle.cv_scope_rules.specs.Phrases.{is_phrase, binds_none, IsWellFormed}
use Rattle.cv_meaning_laws.specs.adequacy.Typed.{BelowParameter, HasSort, HaveSorts, IsDeclared, IsTyped, OfType}
use Rattle.cv_meaning_laws.proofs.adequacy.Lists.{has_contains}
use Rattle.cv_typing_runs.specs.Games.{AreDeclared, HasArguments, HasDeclaredSorts, HasKnownNames, are_known, context_of, HasConstants, HasNamedFunctionsAndCells, are_named}
use Rattle.cv_typing_runs.specs.Worked.{declared, found_game, nameless_game}

pub found_typed : IsTypedGame declared found_game
unfolding first_fault size count names_in bound_sort first_index first_site binders_differ
found_typed = let p = game_part found_game in typed_where_none (signature_of declared p) p.above p.want 0 p.tree refl

pub nameless_typed : IsTypedGame declared nameless_game
unfolding first_fault size count names_in bound_sort first_index first_site binders_differ
nameless_typed = let p = game_part nameless_game in typed_where_none (signature_of declared p) p.above p.want 0 p.tree refl

pub found_well : IsWellFormed declared found_game
unfolding first_fault sites_from same_tree size first_site bound_sort count is_untyped_in is_phrase binds_none
found_well = record { scoped = scoped_where_none (names_of declared found_game) at_root found_game refl; phrase = refl; constants = refl }

pub nameless_well : IsWellFormed declared nameless_game
unfolding first_fault sites_from same_tree size first_site bound_sort count is_untyped_in is_phrase binds_none
nameless_well = record { scoped = scoped_where_none (names_of declared nameless_game) at_root nameless_game refl; phrase = refl; constants = refl }

pub arguments : HasArguments declared
unfolding HasArguments names_in
arguments = (refl, (refl, tt))

pub found_known : HasKnownNames declared found_game
unfolding are_known first_site bound_sort
found_known = refl

pub constants : HasConstants declared
constants x e = absurd (both_ways false refl e)

pub found_named : HasNamedFunctionsAndCells declared found_game
unfolding are_named first_site bound_sort
found_named = refl

pub nameless_unknown : ¬ HasKnownNames declared nameless_game
unfolding are_known first_site bound_sort
nameless_unknown e = both_ways false refl e

type_declared : IsDeclared declared (OfType 5)
type_declared = inr (true, false, Empty, None, has_contains declared _ (inr (inl refl)))

parameter_declared : IsDeclared declared (BelowParameter 2)
parameter_declared = (Empty, None, has_contains declared _ (inl refl))

pub found_declared : HasDeclaredSorts declared found_game
unfolding HasDeclaredSorts AreDeclared
found_declared = assumption (tt, type_declared, parameter_declared)

pub nameless_untyped : ¬ IsTyped (context_of declared nameless_game) [] nameless_game
unfolding IsTyped HasSort HaveSorts first_site bound_sort
nameless_untyped h = let e = h.1.1.0.2.2 in cc
