-- When sorts are the same. This profile's own.
use Rattle.std.specs.Prelude.{ℕ, Bool, false, not, ◌==◌, Option, Some, None}
use Rattle.cv_syntax_trees.specs.declared.sites.sort.Sort.{Sort}
use Rattle.cv_syntax_trees.specs.declared.sites.sort.Sort.TheVariants.{OfType, BelowParameter}

abbrev pub same_sort : Sort → Sort → Bool
same_sort (OfType T) (OfType U) = T == U
same_sort (BelowParameter n) (BelowParameter m) = n == m
same_sort S R = false

-- a definition gives another sort than one that is known
abbrev pub differs_from : Option Sort → Sort → Bool
differs_from None S = false
differs_from (Some R) S = not (same_sort R S)
