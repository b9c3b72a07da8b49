-- The phrases of the grammar, as the code names them.
use Rattle.std.specs.Prelude.{Option, Some, None, option_map}
use Rattle.cv_syntax_trees.specs.declared.head.Head.{Head}
use Rattle.cv_syntax_trees.specs.declared.head.Head.TheVariants.{Branch, Name, Binder, Cons}
use Rattle.cv_scope_rules.specs.Phrases as grammar
use Rattle.cv_scene_view.specs.declared.phrases.phrases.Phrase.{Phrase}
use Rattle.cv_scene_view.specs.declared.phrases.phrases.Phrase.TheVariants as code

abbrev pub phrase_of : Phrase → grammar.Phrase
phrase_of code.Nil = grammar.Nil
phrase_of code.Inputs = grammar.Inputs
phrase_of code.Body = grammar.Body
phrase_of code.Then = grammar.Then
phrase_of code.Else = grammar.Else
phrase_of code.Branches = grammar.Branches
phrase_of code.Arm = grammar.Arm
phrase_of code.Guards = grammar.Guards
phrase_of code.Guarded = grammar.Guarded
phrase_of code.Pattern = grammar.Pattern
phrase_of code.Message = grammar.Message
phrase_of code.Indices = grammar.Indices
phrase_of code.Binders = grammar.Binders
phrase_of code.Cells = grammar.Cells
phrase_of code.OneCell = grammar.OneCell
phrase_of code.Terms = grammar.Terms
phrase_of code.Term = grammar.Term

abbrev pub both : Phrase × Phrase → grammar.Phrase × grammar.Phrase
both p = (phrase_of p.0, phrase_of p.1)

abbrev pub parts_of : Option (Phrase × Phrase) → Option (grammar.Phrase × grammar.Phrase)
parts_of = option_map both

-- the parts of a phrase that is a list, and of one that is none and no process, cell or term

abbrev pub items_of : grammar.Phrase → Option (grammar.Phrase × grammar.Phrase)
items_of σ = grammar.parts σ Cons

abbrev pub others_of : grammar.Phrase → Head → Option (grammar.Phrase × grammar.Phrase)
others_of grammar.Arm Branch = Some (grammar.Binders, grammar.Guards)
others_of grammar.Indices (Name i) = Some (grammar.Nil, grammar.Indices)
others_of grammar.Binders (Binder x T) = Some (grammar.Nil, grammar.Binders)
others_of _ _ = None
