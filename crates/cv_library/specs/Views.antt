-- What a library that was read has.
use Rattle.std.specs.Prelude.{List, map}
use Rattle.cv_library.specs.declared.library.Library.{Library}
use Rattle.cv_library.specs.Libraries.{Definition, definition_at}

-- the definitions of a library that was read
abbrev pub definitions : Library → List Definition
definitions library = map (definition_at library.tokens) library.places.items
