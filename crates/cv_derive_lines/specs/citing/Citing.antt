-- What a number cites, as the code looks for it.
use Rattle.std.specs.Prelude.{ℕ, ◌+◌, ◌≤◌, ◌==◌, IfSome, nat_lt, if◌then◌else◌, List, Option, Some, None, option_map}
use Rattle.cv_pool.specs.KindTree.{KindTree}
use Rattle.cv_pool.specs.Nodes.{ChildBelow}
use Rattle.cv_syntax.specs.PoolTrees.{tree_at}
use Rattle.cv_scene.specs.lines.Lines.{Lines, End, By, Cases, Statement, Holds, count, lines_of}
use Rattle.cv_derive_lines.specs.Views.{IsClaimBelow, statement_of}
use Rattle.cv_derive_lines.specs.declared.citing.citing.Search.{Search}
use Rattle.cv_derive_lines.specs.declared.citing.citing.Search.TheVariants as search_

-- what the line of number l says, where the line of number n may cite it; the first of the lines has number s
unfoldable pub cited_from : Lines → (s n l : ℕ) → Option Statement
cited_from End s n l = None
cited_from (By t r rest) s n l = if s == n then None else if s == l then Some t else cited_from rest (s + 1) n l
cited_from (Cases c d e t rest) s n l =
    let middle = s + count d in
    let end = middle + count e in
    if nat_lt n middle then cited_from d s n l
    else if nat_lt n end then cited_from e middle n l
    else if end == n then None
    else if end == l then Some (Holds t)
    else cited_from rest (end + 1) n l

-- what is found from where a search goes on
abbrev pub found : List KindTree → (n l : ℕ) → Search → Option Statement
found trees n l (search_.Ends o) = option_map (statement_of trees) o
found trees n l (search_.Goes at s) = cited_from (lines_of (tree_at trees at)) s n l

abbrev pub IsEndBelow : ℕ → Search → Type 0
IsEndBelow m (search_.Ends o) = IfSome o (IsClaimBelow m)
IsEndBelow m (search_.Goes at s) = Unit {0}

abbrev pub IsNextBelow : ℕ → Search → Type 0
IsNextBelow m (search_.Ends o) = Unit {0}
IsNextBelow m (search_.Goes at s) = ChildBelow m at

-- the numbers of the lines in which the search goes on are no greater
abbrev pub IsWithin : List KindTree → (bound : ℕ) → Search → Type 0
IsWithin trees bound (search_.Ends o) = Unit {0}
IsWithin trees bound (search_.Goes at s) = s + count (lines_of (tree_at trees at)) ≤ bound
