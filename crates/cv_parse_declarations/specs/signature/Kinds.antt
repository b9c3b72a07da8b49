-- What each kind of declaration is: its row in the table, its form in the grammar, and what is heard of it. This profile's own.
use Rattle.std.specs.Prelude.{ℕ, false, ◌==◌, List, [], ◌∷◌, map, reverse, Option, Some, None}
use Rattle.std.specs.List.{list_any}
use Rattle.cv_syntax_trees.specs.Declarations.{Declaration}
use Rattle.cv_syntax_trees.specs.declared.class.Class.{Class}
use Rattle.cv_syntax_trees.specs.declared.class.Class.TheVariants as class
use Rattle.cv_parse_grammar.specs.Phrases.{Phrase}
use Rattle.cv_parse_grammar.specs.Declarations.{channel_decl, const_decl, equation_decl, event_decl, fun_decl, param_decl, proba_decl, query_decl, type_decl}
use Rattle.cv_parse_terms.specs.Tables.{last_name, other_names}
use Rattle.cv_parse_declarations.specs.declared.signature.declarations.DeclarationKind.{DeclarationKind}
use Rattle.cv_parse_declarations.specs.declared.signature.declarations.DeclarationKind.TheVariants.{Parameters, Channels, Probability, TypeName, Constants, Function, Event, Equation, Query}
use Rattle.cv_parse_declarations.specs.declared.signature.heard.Heard.{Heard}
use Rattle.cv_parse_declarations.specs.declared.signature.heard.Heard.TheVariants as heard

abbrev pub row_number : DeclarationKind → ℕ
row_number Parameters = 157
row_number Channels = 159
row_number Probability = 160
row_number TypeName = 168
row_number Constants = 170
row_number Function = 176
row_number Event = 177
row_number Equation = 152
row_number Query = 214

abbrev pub form_of : DeclarationKind → Phrase (List Declaration)
form_of Parameters = param_decl
form_of Channels = channel_decl
form_of Probability = proba_decl
form_of TypeName = type_decl
form_of Constants = const_decl
form_of Function = fun_decl
form_of Event = event_decl
form_of Equation = equation_decl
form_of Query = query_decl

-- names of one class
abbrev pub names_in : Class → Option ℕ → List ℕ → List Heard
names_in c r xs = map (λ x. heard.Named x c r) xs

-- the class of a type: 0 stands for `fixed`, 1 for `large`
abbrev pub class_in : List ℕ → Class
class_in options = class.TypeName (list_any (λ x. x == 0) options) (list_any (λ x. x == 1) options)

-- a type, with its options behind its name
abbrev pub type_in : List ℕ → List Heard
type_in [] = []
type_in (x ∷ options) = names_in (class_in options) None (x ∷ [])

-- what is heard of a declaration, by the names that wait, the last one first
abbrev pub heard_in : DeclarationKind → List ℕ → List Heard
heard_in Parameters xs = names_in class.Param None (reverse xs)
heard_in Channels xs = names_in class.Channel None (reverse xs)
heard_in Probability xs = names_in class.Proba None (reverse xs)
heard_in TypeName xs = type_in (reverse xs)
heard_in Constants xs = names_in (class.Fun false) (Some (last_name xs)) (reverse (other_names xs))
heard_in Function xs = names_in (class.Fun (last_name xs == 1)) (Some (last_name (other_names xs))) (reverse (other_names (other_names xs)))
heard_in Event xs = names_in class.Event None (reverse xs)
heard_in Equation xs = heard.Equation ∷ []
heard_in Query xs = heard.Query ∷ []
