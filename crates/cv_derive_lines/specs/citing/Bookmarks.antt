-- Lines that are kept, from which a line that is cited is looked for.
use Rattle.std.specs.Prelude.{◌≡◌, ℕ, ◌+◌, ◌<◌, ◌≤◌, ◌^◌, ◌==◌, All, IfSome, if◌then◌else◌, List, length, Option, Some}
use Rattle.cv_pool.specs.declared.node.NodeId.{NodeId}
use Rattle.cv_pool.specs.KindTree.{KindTree}
use Rattle.cv_pool.specs.Nodes.{ChildBelow}
use Rattle.cv_syntax.specs.PoolTrees.{tree_at}
use Rattle.cv_scene.specs.lines.Inferences.{Visible}
use Rattle.cv_scene.specs.lines.Lines.{Lines, count, lines_of}
use Rattle.cv_derive_lines.specs.declared.lines.Claim.{Claim}
use Rattle.cv_derive_lines.specs.Views.{IsClaimBelow, statement_of}
use Rattle.cv_derive_lines.specs.declared.citing.bookmarks.Bookmark.{Bookmark}
use Rattle.cv_derive_lines.specs.declared.citing.bookmarks.Bookmarks.{Bookmarks}
use Rattle.cv_derive_lines.specs.declared.citing.citing.Citing.{Citing}
use Rattle.cv_derive_lines.specs.citing.Citing.{cited_from}

-- The line of this number says so, with these lines behind it in its block: so what the line of number n cites from that line
-- on is found there.
pub record IsLine (trees : List KindTree) (all : Lines) (n number : ℕ) (claim : Claim) (behind : Option NodeId) : Type 0 where
  pub claim_live : IsClaimBelow (length trees) claim
  pub behind_live : ChildBelow (length trees) behind
  pub fits : number + 1 + count (lines_of (tree_at trees behind)) < 2 ^ 32
  pub cited : (l : ℕ) → number ≤ l → (if number == l then Some (statement_of trees claim) else cited_from (lines_of (tree_at trees behind)) (number + 1) n l) ≡ cited_from all 1 n l

abbrev pub IsKept : List KindTree → Lines → (n : ℕ) → Bookmark → Type 0
IsKept trees all n m = IsLine trees all n m.number m.claim m.behind

-- each line that is kept is one
abbrev pub AreLines : List KindTree → Lines → (n : ℕ) → Bookmarks → Type 0
AreLines trees all n marks = All (λ o. IfSome o (IsKept trees all n)) marks.slots

-- They serve the lines of a list, of which the first has the number s: what each of these cites from that number on is found in
-- the list.
pub record Serves (trees : List KindTree) (all : Lines) (marks : Bookmarks) (s : ℕ) (here : Lines) : Type 0 where
  pub fits : s + count here < 2 ^ 32
  pub kept : (n : ℕ) → s ≤ n → n < s + count here → AreLines trees all n marks
  pub found : (n l : ℕ) → s ≤ n → n < s + count here → s ≤ l → cited_from here s n l ≡ cited_from all 1 n l

-- what a line may cite
abbrev pub visible_to : List KindTree → Citing → Visible
visible_to trees c = cited_from (lines_of (tree_at trees c.lines)) 1 c.number

pub record CanCite (trees : List KindTree) (c : Citing) : Type 0 where
  pub live : ChildBelow (length trees) c.lines
  pub fits : 1 + count (lines_of (tree_at trees c.lines)) < 2 ^ 32
  pub kept : AreLines trees (lines_of (tree_at trees c.lines)) c.number c.bookmarks.now
