-- What the last of some statements says, by one walk over them.
use Rattle.std.specs.Prelude.{List, [], ◌∷◌, Option, Some, None}
use Rattle.cv_scene.specs.lines.Lines.{Statement}

-- the last one, or what stands before them
abbrev pub last_behind : Option Statement → List Statement → Option Statement
last_behind before [] = before
last_behind before (t ∷ ts) = last_behind (Some t) ts

abbrev pub last_of : List Statement → Option Statement
last_of ts = last_behind None ts
