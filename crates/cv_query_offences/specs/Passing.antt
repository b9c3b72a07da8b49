-- Which definitions of a variable a walk passes over. This profile's own.
use Rattle.std.specs.Prelude.{Bool}
use Rattle.cv_syntax_trees.specs.declared.head.Head.{Head}
use Rattle.cv_syntax_trees.specs.Tree.{Tree}
use Rattle.cv_query_certificates.specs.Secrets.{is_choice, is_choice_of, is_none_of_them}
use Rattle.cv_query_offences.specs.declared.definitions.Passing.{Passing}
use Rattle.cv_query_offences.specs.declared.definitions.Passing.TheVariants.{Nothing, Choices, ChoicesOf}

abbrev pub is_passed : Passing → Head → Tree → Bool
is_passed Nothing = is_none_of_them
is_passed Choices = is_choice
is_passed (ChoicesOf T) = is_choice_of T
