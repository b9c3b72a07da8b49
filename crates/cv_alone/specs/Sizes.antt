-- How much a reading counts, and that tokens lie within a text.
use Rattle.std.specs.Prelude.{ℕ, ◌+◌, ◌≤◌, List, All, length}
use Rattle.cv_lex.specs.Lexis.{Token}
use Rattle.cv_alone.specs.declared.parts.Part.{Part}
use Rattle.cv_alone.specs.declared.parts.Part.TheVariants.{Outside, Query, Block}

-- how many braces of a block are open
abbrev pub depth_of : Part → ℕ
depth_of Outside = 0
depth_of Query = 0
depth_of (Block depth) = depth

-- tokens within so many bytes
abbrev pub AreWithin : (count : ℕ) → List Token → Type 0
AreWithin count ts = All (λ t. t.offset + length t.text ≤ count) ts
