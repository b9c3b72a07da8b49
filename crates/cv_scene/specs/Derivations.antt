-- Derivations at a place, and the first line that isn't right. A line cites earlier lines that aren't
-- inside a closed block. This profile's own.
use Rattle.std.specs.Prelude.{◌≡◌, ℕ, ◌+◌, Bool, true, false, ◌&&◌, ◌==◌, if◌then◌else◌, Option, Some, None}
use Rattle.cv_syntax_trees.specs.declared.head.Head.TheVariants.{Not}
use Rattle.cv_syntax_trees.specs.Tree.{Tree, Empty, Node}
use Rattle.cv_syntax_trees.specs.sites.Sites.{first_of}
use Rattle.cv_scene.specs.lines.Ends.{ends_in, ends_with}
use Rattle.cv_scene.specs.lines.Inferences.{Visible}
use Rattle.cv_scene.specs.lines.Lines.{Lines, End, By, Cases, Statement, Holds, count, lines_of, statements}
use Rattle.cv_scene.specs.Reasons.{is_right}
use Rattle.cv_scene.specs.Sights.{Sight, is_condition}

-- with one line more
abbrev pub with_line : Visible → ℕ → Statement → Visible
with_line v n t m = first_of (v m) (if n == m then Some t else None)

abbrev pub nothing_visible : Visible
nothing_visible n = None

-- a conclusion by cases: the condition is a truth value, and both blocks end with the conclusion

abbrev pub is_right_split : Sight → (condition : Tree) → (first second : Lines) → (conclusion : Tree) → Bool
is_right_split s c d e t = is_condition s c && (ends_in (statements d) (Holds t) && ends_in (statements e) (Holds t))

-- the number of a line, if it isn't right
abbrev pub unless : Bool → ℕ → Option ℕ
unless true n = None
unless false n = Some n

-- the number of the first of the lines that isn't right, where n is the number of the first of them all
unfoldable pub first_bad : Sight → (assumed : Tree) → Visible → (n : ℕ) → Lines → Option ℕ
first_bad s g v n End = None
first_bad s g v n (By t r rest) = first_of (unless (is_right s g v t r) n) (first_bad s g (with_line v n t) (n + 1) rest)
first_bad s g v n (Cases c d e t rest) =
    let middle = n + count d in
    let end = middle + count e in
    first_of (first_bad s c v n d)
    (first_of (first_bad s (Node Not c Empty) v middle e)
    (first_of (unless (is_right_split s c d e t) end)
    (first_bad s g (with_line v end (Holds t)) (end + 1) rest)))

abbrev pub first_bad_line : Sight → (derivation : Tree) → Option ℕ
first_bad_line s by = first_bad s Empty nothing_visible 1 (lines_of by)

-- each line is right, and the last ones are the targets
pub record Derives (s : Sight) (by targets : Tree) : Type 0 where
  pub right : first_bad_line s by ≡ None
  pub end : ends_with by targets ≡ true
