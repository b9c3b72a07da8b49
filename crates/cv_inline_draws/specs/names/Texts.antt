-- Names by number, and labels. This profile's own.
use Rattle.std.specs.Prelude.{ℕ, Bool, ◌==◌, List, [], ◌∷◌, ◌++◌, map, slice_index_or, if◌then◌else◌}
use Rattle.std.specs.List.{list_any}
use Rattle.cv_inline.specs.Draws.{is_among}

-- the texts of names
abbrev pub text_at : List (List ℕ) → ℕ → List ℕ
text_at names x = slice_index_or names x []

abbrev pub texts_at : List (List ℕ) → List ℕ → List (List ℕ)
texts_at names xs = map (text_at names) xs

-- the list has the number
abbrev pub is_listed : List ℕ → ℕ → Bool
is_listed xs x = list_any (λ y. y == x) xs

-- the table with a text, which isn't added once more
abbrev pub with_text : List (List ℕ) → List ℕ → List (List ℕ)
with_text names t = if is_among names t then names else names ++ t ∷ []

abbrev pub with_texts : List (List ℕ) → List (List ℕ) → List (List ℕ)
with_texts names [] = names
with_texts names (t ∷ ts) = with_texts (with_text names t) ts
