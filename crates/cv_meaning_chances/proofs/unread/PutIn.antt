-- A definition that is put before a process of a game.
use Rattle.std.proofs.Common.{◌≡◌, ℕ, Bool, true}
use Rattle.cv_syntax_trees.specs.declared.head.Head.{Head}
use Rattle.cv_syntax_trees.specs.declared.head.Head.TheVariants.{Par, Find, Branch, Cons}
use Rattle.cv_syntax_trees.specs.Tree.{Tree, Node}
use Rattle.cv_meaning_runs.specs.Replacement.{Part, Process, Branches, IsReplaced}
use Rattle.cv_meaning.specs.Replaced.{is_output}
use Rattle.cv_meaning_runs.specs.Replacement as at
use Rattle.cv_meaning_chances.specs.unread.Dropping.{reads_none, IsDropped, same, gone, kept, in_parallel, in_list, in_find, in_branch, in_later_branch}
use Rattle.cv_meaning.specs.Still.{defines, is_still}
use Rattle.cv_meaning_chances.proofs.unread.Unread.{first_reads, second_reads}

pub put_in : (xs : ℕ → Bool) (h : Head) (a old : Tree) (place : ℕ) (part : Part) (p : ℕ) (game next : Tree) → defines xs h ≡ true → is_still a ≡ true → is_output old ≡ true → reads_none xs game ≡ true → IsReplaced old (Node h a old) place part p game next → IsDropped xs part next game
put_in xs h a old place part p game next d e o r at.here = gone d e o (same r)
put_in xs h a old place part p game next d e o r (at.in_continuation {h = k} {a = b} {b = x} {c = y} z) =
    kept (first_reads xs k b x r) (put_in xs h a old place Process _ x y d e o (second_reads xs k b x r) z)
put_in xs h a old place part p game next d e o r (at.in_parallel {a = x} {b = b} {c = y} z) =
    in_parallel (put_in xs h a old place Process _ x y d e o (first_reads xs Par x b r) z) (same (second_reads xs Par x b r))
put_in xs h a old place part p game next d e o r (at.in_list {a = x} {b = b} {c = y} z) =
    in_list (put_in xs h a old place Process _ x y d e o (first_reads xs Cons x b r) z) (same (second_reads xs Cons x b r))
put_in xs h a old place part p game next d e o r (at.in_find {l = l} {a = x} {b = b} {c = y} z) =
    in_find (put_in xs h a old place Branches _ x y d e o (first_reads xs (Find l) x b r) z) (same (second_reads xs (Find l) x b r))
put_in xs h a old place part p game next d e o r (at.in_branch {binders = bs} {defined = l} {condition = m} {b = x} {c = y} {more = more} z) =
    let arm : reads_none xs (Node Branch bs (Node Cons l (Node Cons m x))) ≡ true = first_reads xs Cons (Node Branch bs (Node Cons l (Node Cons m x))) more r in
    let guards : reads_none xs (Node Cons l (Node Cons m x)) ≡ true = second_reads xs Branch bs (Node Cons l (Node Cons m x)) arm in
    let guarded : reads_none xs (Node Cons m x) ≡ true = second_reads xs Cons l (Node Cons m x) guards in
    in_branch (first_reads xs Branch bs (Node Cons l (Node Cons m x)) arm) (first_reads xs Cons l (Node Cons m x) guards) (first_reads xs Cons m x guarded)
    (put_in xs h a old place Process _ x y d e o (second_reads xs Cons m x guarded) z) (same (second_reads xs Cons (Node Branch bs (Node Cons l (Node Cons m x))) more r))
put_in xs h a old place part p game next d e o r (at.in_later_branch {a = b} {b = x} {c = y} z) =
    in_later_branch (first_reads xs Cons b x r) (put_in xs h a old place Branches _ x y d e o (second_reads xs Cons b x r) z)
