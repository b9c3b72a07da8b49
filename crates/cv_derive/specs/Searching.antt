-- The first line that isn't right, where the lines that may be cited are looked for from the first line on.
use Rattle.std.specs.Prelude.{ℕ, ◌+◌, Option, None}
use Rattle.cv_syntax_trees.specs.declared.head.Head.TheVariants.{Not}
use Rattle.cv_syntax_trees.specs.Tree.{Tree, Empty, Node}
use Rattle.cv_syntax_trees.specs.sites.Sites.{first_of}
use Rattle.cv_scene.specs.Derivations.{is_right_split, unless}
use Rattle.cv_scene.specs.lines.Lines.{Lines, End, By, Cases, count}
use Rattle.cv_scene.specs.Reasons.{is_right}
use Rattle.cv_scene.specs.Sights.{Sight}
use Rattle.cv_derive_lines.specs.citing.Citing.{cited_from}

-- of lines that are part of all lines, where the first of them has the number n
unfoldable pub first_bad_in : (all : Lines) → Sight → (assumed : Tree) → (n : ℕ) → Lines → Option ℕ
first_bad_in all s g n End = None
first_bad_in all s g n (By t r rest) = first_of (unless (is_right s g (cited_from all 1 n) t r) n) (first_bad_in all s g (n + 1) rest)
first_bad_in all s g n (Cases c d e t rest) =
    let middle = n + count d in
    let end = middle + count e in
    first_of (first_bad_in all s c n d)
    (first_of (first_bad_in all s (Node Not c Empty) middle e)
    (first_of (unless (is_right_split s c d e t) end)
    (first_bad_in all s g (end + 1) rest)))
