-- The text of the small game that is read back elsewhere, with its names. This profile's own.
use Rattle.std.specs.Prelude.{ℕ, List, [], ◌∷◌, ◌++◌, codes}

abbrev pub small_names : List (List ℕ)
small_names = codes "bool" ∷ codes "n" ∷ codes "c" ∷ codes "T" ∷ codes "i" ∷ codes "x" ∷ codes "b" ∷ codes "u" ∷ codes "e" ∷ []

abbrev pub small_text : List ℕ
small_text =
    codes "!i <= n\n"
    ++ codes "  in(c[i], (x: T, b: bool));\n"
    ++ codes "  if b[i] then\n"
    ++ codes "    find @7 u <= n suchthat defined(x[u]) && (x[u] = x[i]) then\n"
    ++ codes "      yield\n"
    ++ codes "    else\n"
    ++ codes "      event e(x[i]);\n"
    ++ codes "      out(c[i], ());\n"
    ++ codes "      0\n"
    ++ codes "  else\n"
    ++ codes "    yield\n"
