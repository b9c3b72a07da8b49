-- The choice among declarations, in three parts. This profile's own.
use Rattle.std.specs.Prelude.{List}
use Rattle.cv_syntax_trees.specs.Declarations.{Declaration}
use Rattle.cv_parse_notation.specs.Form.{either}
use Rattle.cv_parse_grammar.specs.Phrases.{Phrase}
use Rattle.cv_parse_grammar.specs.Declarations.{collision_decl, const_decl, equation_decl, equiv_decl, event_decl, fun_decl, query_decl, type_decl}

abbrev pub ending : Phrase (List Declaration)
ending = either equation_decl (either collision_decl (either equiv_decl query_decl))

abbrev pub middle : Phrase (List Declaration)
middle = either type_decl (either const_decl (either fun_decl (either event_decl ending)))
