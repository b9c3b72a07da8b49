-- Sets of numbers of names.
use Rattle.std.specs.Prelude.{ℕ, nat_eq, Bool, not, ◌==◌, List}
use Rattle.std.specs.List.{list_any}
use Rattle.std.specs.declared.hash.FoldHasher.{FoldHasher}
use Rattle.std.specs.declared.hash.BuildHasherDefault.{BuildHasherDefault}
use Rattle.std.specs.HashSet.{HashSet, contains}

-- a `HashSet<u32>`, since antt has no name for an alias
abbrev pub NameSet : Type 0
NameSet = HashSet ℕ (BuildHasherDefault FoldHasher)

abbrev pub is_in : NameSet → ℕ → Bool
is_in names x = contains nat_eq names x

abbrev pub is_outside : NameSet → ℕ → Bool
is_outside names x = not (is_in names x)

-- the name is on a list
abbrev pub is_one_of : List ℕ → ℕ → Bool
is_one_of xs x = list_any (λ y. y == x) xs
